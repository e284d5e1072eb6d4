-- Histories: what they leave after nothing, after a refusal and after an edit that is taken; and that they leave nothing else.
use Rattle.std.proofs.Common.{◌≡◌, ℕ, ◌≤◌, List, [], ◌∷◌, ◌++◌, length, replicate, pos, ◌≤ℤ◌, Ok, Err, sym, refl, ap, ◌∙◌, subst, arith}
use Rattle.loads.specs.Kind.{Kind, Laws}
use Rattle.ledger.specs.declared.edit.Edit.{Edit}
use Rattle.ledger.specs.declared.fault.SetFault.{SetFault}
use Rattle.ledger.specs.Ledger.{Ledger, mark, empty, edited}
use Rattle.ledger.specs.Ceilings.{blocking}
use Rattle.ledger.specs.Instants.{Least, slack, first_instant, FirstInstant}
use Rattle.ledger.specs.Questions.{Questions, AllYes, FirstNo, questions}
use Rattle.ledger.specs.History.{Answer, Answered, Step, History, start, then, After, Law}
use Rattle.ledger.specs.Sound.{Sound}
use Rattle.ledger.specs.Settled.{lowest_table}
use Rattle.ledger.proofs.Lowering.{natural_allowed}
use Rattle.ledger.proofs.Instants.{first_instant_first}
use Rattle.ledger.proofs.Serving.{serves_slacks}
use Rattle.ledger.proofs.Holds.{held_serving}
use Rattle.ledger.proofs.Least.{lowest_least, least_unique, least_servable}
use Rattle.ledger.proofs.Kept.{zeros, sound_kept, servable_kept}
use Rattle.ledger.proofs.Asking.{not_both, one_first_no}

-- ---- what histories leave

empty_sound : (k : Kind) → Sound k empty
empty_sound k = record { each = λ i low high. absurd (omega arith); few = omega arith; marked = refl }

module _ (k : Kind) (s : ℕ → ℕ) where
  -- one edit more
  snoc : {l m n : Ledger} {es : List Edit} {rs : List Answer} (e : Edit) (a : Answer) → History k s l es rs m → Step k s m e a n → History k s l (es ++ e ∷ []) (rs ++ a ∷ []) n
  snoc e a start step = then {e = e} {a = a} step start
  snoc e a (then {e = e'} {a = a'} before rest) step = then {e = e'} {a = a'} before (snoc e a rest step)

  empty_least : Least k s empty (replicate 16 0)
  empty_least = record {
    fits = record { size = refl; allowed = λ j jl jh. rw (zeros j) (natural_allowed (mark empty j) 0) };
    serves = λ i low high. absurd (omega arith);
    lowest = λ d fits serves j jl jh. omega (arith, zeros j);
    shortest = λ d fits serves j jl jh. omega arith;
  }

  -- of no edits: a new set
  pub after_start : After k s [] [] empty (replicate 16 0)
  after_start = record { history = start; sound = empty_sound k; least = empty_least; held = λ p j here at used. absurd (omega (arith, here.0, here.1)) }

module _ {k : Kind} {s : ℕ → ℕ} {es : List Edit} {rs : List Answer} {l : Ledger} {c : List ℕ} where
  -- an edit that is refused leaves all as it was
  pub after_refused : (e : Edit) (f : SetFault) → After k s es rs l c → FirstNo (questions k s l e) f → After k s (es ++ e ∷ []) (rs ++ Err f ∷ []) l c
  after_refused e f h no' = record { history = snoc k s e (Err f) h.history (no', refl); sound = h.sound; least = h.least; held = h.held }

  -- an edit that is taken leaves the edited ledger, and its lowest ceilings
  pub after_taken : Laws k → (e : Edit) → After k s es rs l c → AllYes (questions k s l e) → After k s (es ++ e ∷ []) (rs ++ Ok tt ∷ []) (edited l e) (lowest_table (slack k s (edited l e)) (edited l e))
  after_taken laws e h yes' =
      let sound = sound_kept k s l e h.sound yes' in
      let servable = servable_kept k s l e h.sound (least_servable k s l c h.least) yes' in
      let least = lowest_least k s (edited l e) laws sound servable in
      record {
        history = snoc k s e (Ok tt) h.history (yes', refl);
        sound = sound;
        least = least;
        held = λ p j here at used. held_serving k s (edited l e) sound (lowest_table (slack k s (edited l e)) (edited l e)) least.fits least.serves laws p j here.0 here.1 at.0 at.1 used;
      }

  -- ---- what the ledger and the table then tell

  -- every task has a first instant
  pub first_instant_is : After k s es rs l c → (i : ℕ) → 1 ≤ i → i ≤ length l.tasks → FirstInstant k s l c i (first_instant k s l c i)
  first_instant_is h i low high = let (t, at_t) = h.least.serves i low high in first_instant_first k s l c i t at_t

  -- every slack bears the blocking
  pub slack_bears : After k s es rs l c → (i : ℕ) → 1 ≤ i → i ≤ length l.tasks → pos (blocking l c i) ≤ℤ slack k s l i
  slack_bears h = serves_slacks k s l c h.least.serves

-- ---- and nothing else

answered_alone : (asked : Questions) (l m n : Ledger) (e : Edit) (a b : Answer) → Answered asked l e a m → Answered asked l e b n → (a ≡ b) × (m ≡ n)
answered_alone asked l m n e (Ok _) (Ok _) (_, is) (_, is') = (refl, is ∙ sym is')
answered_alone asked l m n e (Ok _) (Err g) (yes', _) (no', _) = absurd (not_both asked g yes' no')
answered_alone asked l m n e (Err f) (Ok _) (no', _) (yes', _) = absurd (not_both asked f yes' no')
answered_alone asked l m n e (Err f) (Err g) (no', is) (again, is') = (ap Err (one_first_no asked f g no' again), is ∙ sym is')

module _ {k : Kind} {s : ℕ → ℕ} where
  -- the same edits of the same ledger are answered the same and leave the same
  pub history_alone : {l m n : Ledger} {es : List Edit} {rs rs' : List Answer} → History k s l es rs m → History k s l es rs' n → (rs ≡ rs') × (m ≡ n)
  history_alone start start = (refl, refl)
  history_alone {n = n} (then {l = l} {m = m} {e = e} {a = a} {es = es} step rest) (then {m = m'} {a = a'} {rs = rs'} step' rest') =
      let (answers, ledgers) = answered_alone (questions k s l e) l m m' e a a' step step' in
      let (more, end) = history_alone rest (subst (λ x. History k s x es rs' n) (sym ledgers) rest') in
      (rw (answers, more) refl, end)

  -- the law of histories
  pub law : {es : List Edit} {rs : List Answer} {l : Ledger} {c : List ℕ} → After k s es rs l c → Law k s es rs l c
  law {l = l} {c = c} h = record {
    after = h;
    no_other_history = λ rs' l' h'. history_alone h' h.history;
    no_other_table = λ c' h'. least_unique k s l c' c h' h.least;
  }
