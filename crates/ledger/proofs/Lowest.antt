-- The table of lowest ceilings: it fits, every resource is borne from its lowest ceiling on, and no table that serves is lower anywhere.
use Rattle.std.proofs.Common.{◌≡◌, ℕ, suc, ◌-◌, ◌≤◌, Bool, true, false, T, List, length, get_or, ℤ, pos, nat_abs, ◌≤ℤ◌, sym, refl, ap, ◌∙◌, subst, arith}
use lib.Signed.{le_z, le_z_yes, yes_non_neg, pos-nat_abs}
use Rattle.std.proofs.lemmas.Int.{ints}
use Rattle.loads.specs.Kind.{Kind}
use Rattle.analysis.proofs.Extremes.{by_lt}
use Rattle.ledger.specs.Ledger.{Ledger, task, no_task, section, mark}
use Rattle.ledger.specs.Ceilings.{natural, ceiling, Fits, longest_below}
use Rattle.ledger.specs.Instants.{slack}
use Rattle.ledger.specs.Settled.{bears, lowest, lowest_table}
use Rattle.ledger.proofs.Bearing.{Bears, Borne, Bearable}
use Rattle.ledger.proofs.Largest.{most_drop_le, most_drop_ge, resource_at, tables_same}
use Rattle.ledger.proofs.Lowering.{allowed_le, allowed_pos, settled_allowed, settled_passes, settled_least, settled_same}
use Rattle.ledger.proofs.Natural.{natural_user, natural_within}

-- ---- from any slacks

module _ (slacks : ℕ → ℤ) (l : Ledger) where
  pub lowest_at : (j : ℕ) → 1 ≤ j → j ≤ 16 → ceiling (lowest_table slacks l) j ≡ lowest slacks l j
  unfolding lowest_table
  lowest_at j jl jh = resource_at (lowest slacks l) 0 j jl jh

  pub lowest_size : length (lowest_table slacks l) ≡ 16
  unfolding lowest_table
  lowest_size = refl

  pub lowest_fits : Fits l (lowest_table slacks l)
  lowest_fits = record {
    size = lowest_size;
    allowed = λ j jl jh. rw (lowest_at j jl jh) (settled_allowed (mark l j) (bears slacks l j) (natural l.tasks j));
  }

  -- no lowest ceiling is above the natural one
  pub lowest_natural : (j : ℕ) → 1 ≤ j → j ≤ 16 → ceiling (lowest_table slacks l) j ≤ natural l.tasks j
  lowest_natural j jl jh = allowed_le (mark l j) (natural l.tasks j) (ceiling (lowest_table slacks l) j) (lowest_fits.allowed j jl jh)

-- slacks that agree at every position give the same table
pub lowest_table_same : (f g : ℕ → ℤ) (l : Ledger) → ((i : ℕ) → 1 ≤ i → i ≤ length l.tasks → f i ≡ g i) → lowest_table f l ≡ lowest_table g l
lowest_table_same f g l same =
    tables_same (lowest_table f l) (lowest_table g l) (lowest_size f l) (lowest_size g l) (λ j jl jh.
    let lows : lowest f l j ≡ lowest g l j = settled_same (mark l j) (bears f l j) (bears g l j) (natural l.tasks j) (λ i low high.
    ap (λ z. le_z (pos (longest_below l j i)) z) (same i low (omega (arith, natural_within l.tasks j)))) in
    lowest_at f l j jl jh ∙ lows ∙ sym (lowest_at g l j jl jh))

-- ---- from the slacks of a ledger

is_true : (b : Bool) → T b → b ≡ true
is_true true h = refl
is_true false h = absurd h

module _ (k : Kind) (s : ℕ → ℕ) (l : Ledger) where
  pub bears_sound : (j i : ℕ) → bears (slack k s l) l j i ≡ true → Bears k s l j i
  bears_sound j i e p below within =
      let all : pos (longest_below l j i) ≤ℤ slack k s l i = le_z_yes (subst T (sym e) tt) in
      let one : section (task l p) j ≤ longest_below l j i = most_drop_ge (λ x. section x j) no_task l.tasks i (p - 1) (omega arith) (omega arith) in
      omega (arith, ints)

  pub bears_complete : (j i : ℕ) → pos 0 ≤ℤ slack k s l i → Bears k s l j i → bears (slack k s l) l j i ≡ true
  bears_complete j i left h =
      let whole : pos (nat_abs (slack k s l i)) ≡ slack k s l i = pos-nat_abs (slack k s l i) (yes_non_neg left) in
      let all : longest_below l j i ≤ nat_abs (slack k s l i) = most_drop_le (λ x. section x j) no_task (nat_abs (slack k s l i)) l.tasks i (λ q low high.
      let here : suc q - 1 ≡ q = omega arith in
      let one : pos (section (get_or l.tasks q no_task) j) ≤ℤ slack k s l i = rw here at (h (suc q) (omega arith) high) in
      omega (arith, ints)) in
      let within : pos (longest_below l j i) ≤ℤ slack k s l i = omega (arith, ints) in
      is_true (bears (slack k s l) l j i) within.le

  -- every position from the lowest ceiling on bears the resource
  pub lowest_borne : Bearable k s l → Borne k s l (lowest_table (slack k s l) l)
  lowest_borne h = record {
    slack_left = h.slack_left;
    borne = λ j jl jh cl i ch high.
        let here = lowest_at (slack k s l) l j jl jh in
        by_lt i (natural l.tasks j)
        (λ u. bears_sound j i (settled_passes (mark l j) (bears (slack k s l) l j) (natural l.tasks j) i (omega arith) u))
        (λ u.
        let low : 1 ≤ natural l.tasks j = omega (arith, lowest_natural (slack k s l) l j jl jh) in
        let (within, used) = natural_user l.tasks j low in
        h.borne j (natural l.tasks j) i jl jh low used u high);
  }

  -- no table that fits and is borne has a smaller ceiling anywhere
  pub lowest_le : (d : List ℕ) → Fits l d → Borne k s l d → (j : ℕ) → 1 ≤ j → j ≤ 16 → ceiling (lowest_table (slack k s l) l) j ≤ ceiling d j
  lowest_le d fits h j jl jh =
      let here = lowest_at (slack k s l) l j jl jh in
      let may = fits.allowed j jl jh in
      let under : lowest (slack k s l) l j ≤ ceiling d j = settled_least (mark l j) (bears (slack k s l) l j) (natural l.tasks j) (ceiling d j) may (λ i low high.
      let within = natural_within l.tasks j in
      let dl : 1 ≤ ceiling d j = allowed_pos (mark l j) (natural l.tasks j) (ceiling d j) may (omega arith) in
      bears_complete j i (h.slack_left i (omega arith) (omega arith)) (h.borne j jl jh dl i low (omega arith))) in
      omega arith
