-- A ledger without one of its tasks: what stands where, no slack is less, and it bears what the whole bore.
use Rattle.std.proofs.Common.{◌≡◌, ℕ, zero, suc, ◌+◌, ◌-◌, ◌<◌, ◌≤◌, ◌⊎◌, List, [], ◌∷◌, map, length, get_or, take, pos, ◌≤ℤ◌, sum_by, sym, refl, ap, ◌∙◌, inl, inr, arith}
use Rattle.std.specs.List.{remove}
use Rattle.std.proofs.lemmas.List.Edits.{length-remove, get_or-remove_below, get_or-remove_above}
use Rattle.std.proofs.lemmas.Int.{ints}
use Rattle.std.proofs.lemmas.List.Sums.{sum_by-cons}
use Rattle.loads.specs.Kind.{Kind}
use Rattle.analysis.specs.Instants.{requests, left_over}
use Rattle.analysis.proofs.Extremes.{by_lt}
use Rattle.ledger.specs.Ledger.{Ledger, task, no_task, section}
use Rattle.ledger.specs.Instants.{above, job, slack}
use Rattle.ledger.proofs.Bearing.{Bearable}
use Rattle.ledger.proofs.Instants.{slack_is}

-- ---- sums over a list without one of its elements

module _ {A B : Type 0} (f : B → ℕ) (g : A → B) where
  abbrev front : List A → ℕ → ℕ
  front xs m = sum_by f (take m (map g xs))

  sum_before : (xs : List A) (q m : ℕ) → q < length xs → m ≤ q → front (remove xs q) m ≡ front xs m
  sum_before [] q m h u = absurd (omega arith)
  sum_before (x ∷ xs) q zero h u = refl
  sum_before (x ∷ xs) zero (suc m) h u = absurd (omega arith)
  sum_before (x ∷ xs) (suc q) (suc m) h u =
      sum_by-cons f (g x) (take m (map g (remove xs q))) ∙ ap (λ n. f (g x) + n) (sum_before xs q m (omega arith) (omega arith)) ∙ sym (sum_by-cons f (g x) (take m (map g xs)))

  sum_after : (xs : List A) (q m : ℕ) → q < length xs → front (remove xs q) m ≤ front xs (suc m)
  sum_after [] q m h = absurd (omega arith)
  sum_after (x ∷ xs) zero m h = omega (arith, sum_by-cons f (g x) (take m (map g xs)))
  sum_after (x ∷ xs) (suc q) zero h = omega arith
  sum_after (x ∷ xs) (suc q) (suc m) h =
      omega (arith, sum_after xs q m (omega arith), sum_by-cons f (g x) (take m (map g (remove xs q))), sum_by-cons f (g x) (take (suc m) (map g xs)))

-- ---- a ledger without the task at index q

abbrev pub without : Ledger → ℕ → Ledger
without l q = record { tasks = remove l.tasks q; marks = l.marks }

-- position i of the smaller ledger is position n of the whole
abbrev pub Moved : ℕ → ℕ → ℕ → Type 0
Moved q i n = ((i ≤ q) × (n ≡ i)) ⊎ ((q < i) × (n ≡ suc i))

pub moved : (q i : ℕ) → (n : ℕ) × Moved q i n
moved q i = by_lt q i (λ u. (suc i, inr (u, refl))) (λ u. (i, inl (u, refl)))

module _ (l : Ledger) (q : ℕ) (h : q < length l.tasks) where
  pub task_moved : (i n : ℕ) → 1 ≤ i → Moved q i n → task (without l q) i ≡ task l n
  task_moved i n low (inl (u, e)) = get_or-remove_below l.tasks q no_task (i - 1) (omega arith) h ∙ ap (λ v. get_or l.tasks v no_task) (omega arith)
  task_moved i n low (inr (u, e)) = get_or-remove_above l.tasks q no_task (i - 1) (omega arith) h ∙ ap (λ v. get_or l.tasks v no_task) (omega arith)

  requests_moved : (k : Kind) (i n : ℕ) → 1 ≤ i → Moved q i n → (t : ℕ) → requests k (above (without l q) i) t ≤ requests k (above l n) t
  requests_moved k i n low (inl (u, e)) t =
      let same : requests k (above (without l q) i) t ≡ requests k (above l i) t = sum_before (λ row. k.request row t) (λ x. x.row) l.tasks q (i - 1) h (omega arith) in
      rw e (omega arith)
  requests_moved k i n low (inr (u, e)) t =
      let here : n - 1 ≡ suc (i - 1) = omega arith in
      rw here (sum_after (λ row. k.request row t) (λ x. x.row) l.tasks q (i - 1) h)

module _ (k : Kind) (s : ℕ → ℕ) where
  -- the same task under no more work has no less slack
  pub slack_rises : (l m : Ledger) (i n : ℕ) → task l i ≡ task m n → ((t : ℕ) → requests k (above m n) t ≤ requests k (above l i) t) → slack k s l i ≤ℤ slack k s m n
  slack_rises l m i n same less =
      let (t, low, high, reached) = (slack_is k s l i).reached in
      let there : left_over k s (above l i) (job k l i) t ≡ slack k s l i = reached in
      let until : (task l i).deadline ≡ (task m n).deadline = ap (λ x. x.deadline) same in
      let jobs : job k l i ≡ job k m n = ap (λ x. k.longest x.row) same in
      let here : left_over k s (above m n) (job k m n) t ≤ℤ slack k s m n = (slack_is k s m n).above t low (omega arith) in
      omega (arith, ints, less t)

  module _ (l : Ledger) (q : ℕ) (h : q < length l.tasks) where
    pub slack_moved : (i n : ℕ) → 1 ≤ i → Moved q i n → slack k s l n ≤ℤ slack k s (without l q) i
    slack_moved i n low m = slack_rises l (without l q) n i (sym (task_moved l q h i n low m)) (requests_moved l q h k i n low m)

    -- a ledger without one of its tasks bears what the whole bore
    pub without_bearable : Bearable k s l → Bearable k s (without l q)
    without_bearable whole = record {
      slack_left = λ i low high.
          let (n, m) = moved q i in
          let size = length-remove l.tasks q h in
          let left = whole.slack_left n (omega arith) (omega arith) in
          let more = slack_moved i n low m in
          omega (arith, ints);
      borne = λ j u i jl jh low used above high p below within.
          let (n, m) = moved q i in
          let (u', mu) = moved q u in
          let (p', mp) = moved q p in
          let size = length-remove l.tasks q h in
          let used' : 0 < section (task l u') j = rw (task_moved l q h u u' low mu) at used in
          let borne' : pos (section (task l p') j) ≤ℤ slack k s l n = whole.borne j u' n jl jh (omega arith) used' (omega arith) (omega arith) p' (omega arith) (omega arith) in
          let same : section (task (without l q) p) j ≡ section (task l p') j = ap (λ x. section x j) (task_moved l q h p p' (omega arith) mp) in
          let more = slack_moved i n (omega arith) m in
          omega (arith, ints);
    }
