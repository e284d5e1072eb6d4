-- Chains over ranges of places: the largest of what is answered at each, and a table of what is answered at each.
use Rattle.std.proofs.Common.{◌≡◌, ℕ, zero, suc, ◌+◌, ◌-◌, ◌<◌, ◌≤◌, max, Bool, true, false, cond, ◌&&◌, leb, List, [], ◌∷◌, map, length, get_or, drop, Option, sym, refl, ap, ◌∙◌, subst, ⊎_elim, add-sub_cancel, arith}
use Rattle.std.specs.Array.{IsFromFnResult, IsFromFnResultFrom}
use Rattle.std.specs.Fn.{Called}
use Rattle.std.specs.Iterator.{Drains, PicksByCmp}
use Rattle.std.specs.Iterator.Adapters.{map_source, map_callee}
use Rattle.std.specs.List.{FoldsTo, fold, reduce, filter, range_with_len}
use Rattle.std.specs.Option.{unwrap_or}
use Rattle.std.specs.Ordering.{nat_cmp, max_by_ordering}
use Rattle.std.proofs.iter.Yields.{nat_range_steps}
use Rattle.std.proofs.lemmas.Bool.{cases_eq}
use Rattle.std.proofs.lemmas.Iterator.{YieldsList, maps, YieldsList-from_range, YieldsList-from_map}
use Rattle.std.proofs.lemmas.Iterator.Consumers.{fold_from_yields_List, reduce_from_yields_List, YieldsList-at}
use Rattle.std.proofs.lemmas.List.{at_drop_more, at_drop_all}
use Rattle.std.proofs.lemmas.List.Folds.{max_of_map}
use Rattle.std.proofs.lemmas.List.FromFn.{get_or-range_with_len}
use denote.Param.Members.{Mut}
use Rattle.ledger.specs.Ceilings.{most, resources, ceiling, blocks, obstacle}
use Rattle.ledger.specs.Ledger.{Task, section}
use Rattle.ledger.proofs.Largest.{tables_same}

-- ---- the largest

most_folded : (h : ℕ → ℕ) (b : ℕ) (is : List ℕ) → fold (λ m i. max m (h i)) b is ≡ max b (most h is)
most_folded h b [] = omega arith
most_folded h b (i ∷ is) = let rest : fold (λ m i. max m (h i)) (max b (h i)) is ≡ max (max b (h i)) (most h is) = most_folded h (max b (h i)) is in omega arith

most_taken : (h : ℕ → ℕ) (b : Bool) (i : ℕ) (is : List ℕ) → most h (cond b (i ∷ is) is) ≡ max (cond b (h i) 0) (most h is)
most_taken h true i is = refl
most_taken h false i is = omega arith

most_filtered : (h : ℕ → ℕ) (test : ℕ → Bool) (is : List ℕ) → most h (filter test is) ≡ most (λ i. cond (test i) (h i) 0) is
most_filtered h test [] = refl
most_filtered h test (i ∷ is) = most_taken h (test i) i (filter test is) ∙ ap (λ n. max (cond (test i) (h i) 0) n) (most_filtered h test is)

-- `max().unwrap_or(0)` of a chain that answers h at each of a list
pub most_of_chain : {S : Type 0} {steps : S → Option ℕ → S → Type 0} (h : ℕ → ℕ) (is : List ℕ) (s : S) (r : Option ℕ) (m : ℕ) → PicksByCmp steps max_by_ordering nat_cmp s r → YieldsList steps (λ x. x) s (map h is) → m ≡ unwrap_or r 0 → m ≡ most h is
most_of_chain h is s r m ran chain value =
    let largest : r ≡ reduce (λ p z. max_by_ordering (nat_cmp p z) p z) (map h is) = reduce_from_yields_List (λ p z. max_by_ordering (nat_cmp p z) p z) s r ran chain in
    omega (arith, value ∙ ap (λ o. unwrap_or o 0) largest ∙ max_of_map h is ∙ most_folded h 0 is)

-- `fold(0, ..)` of a chain of places, by the larger of what there is and what h answers at each
pub most_by_fold : {S F : Type 0} {steps : S → Option ℕ → S → Type 0} {g : Mut F (ℕ × (ℕ × Unit {0})) ℕ} {s : S} {a : F} (h : ℕ → ℕ) (is : List ℕ) (m : ℕ) → ((xs : List ℕ) × (q : F) × Drains steps s xs × FoldsTo {P = F × ℕ} (λ p x q. Called g p.0 (p.1, (x, tt)) q.1 q.0) (a, 0) xs (q, m)) →
    YieldsList steps (λ x. x) s is → ((n x y : ℕ) (q : F) → Called g a (n, (x, tt)) y q → (q ≡ a) × (y ≡ max n (h x))) → m ≡ most h is
most_by_fold {g = g} h is m ran chain calls = omega (arith, fold_from_yields_List g (λ n x. max n (h x)) 0 m ran chain calls ∙ most_folded h 0 is)

-- the largest of what h answers at each place of a list from `from` on, where it answers the value there
module _ {X : Type 0} (f : X → ℕ) (xs : List X) (d : X) (h : ℕ → ℕ) where
  most_places : (from n : ℕ) → n ≡ length xs - from → ((i : ℕ) → from ≤ i → i < length xs → h i ≡ f (get_or xs i d)) → most h (range_with_len from n) ≡ most f (drop from xs)
  most_places from zero e each = sym (at_drop_all (most f) xs from (omega arith))
  most_places from (suc n) e each =
      let split : most f (drop from xs) ≡ max (f (get_or xs from d)) (most f (drop (from + 1) xs)) = at_drop_more (most f) xs from d (omega arith) in
      let here : h from ≡ f (get_or xs from d) = each from (omega arith) (omega arith) in
      let rest : most h (range_with_len (from + 1) n) ≡ most f (drop (from + 1) xs) = most_places (from + 1) n (omega arith) (λ i low high. each i (omega arith) high) in
      cc

  -- `(from..to).map(h).max().unwrap_or(0)`
  pub most_in_range : {F : Type 0} {g : Mut F (ℕ × Unit {0}) ℕ} {s : _} {a : F} (from to : ℕ) (r : Option ℕ) (m : ℕ) → PicksByCmp (maps nat_range_steps g) max_by_ordering nat_cmp s r →
      map_source s ≡ record { start = from; end = to } → map_callee s ≡ a → ((x y : ℕ) (q : F) → Called g a (x, tt) y q → (q ≡ a) × (y ≡ h x)) →
      m ≡ unwrap_or r 0 → to ≡ length xs → ((i : ℕ) → from ≤ i → i < to → h i ≡ f (get_or xs i d)) → m ≡ most f (drop from xs)
  most_in_range {g = g} {s = s} from to r m ran source callee calls value whole each =
      most_of_chain h (range_with_len from (to - from)) s r m ran (YieldsList-from_map g h (YieldsList-at source (YieldsList-from_range from to (to - from) refl refl)) callee calls) value
      ∙ most_places from (to - from) (omega arith) (λ i low high. each i low (omega arith))

  -- `(from..to).fold(0, ..)` by the larger
  pub most_by_fold_in_range : {F : Type 0} {g : Mut F (ℕ × (ℕ × Unit {0})) ℕ} {a : F} (from to : ℕ) (m : ℕ) → ((ys : List ℕ) × (q : F) × Drains nat_range_steps (record { start = from; end = to }) ys × FoldsTo {P = F × ℕ} (λ p x q. Called g p.0 (p.1, (x, tt)) q.1 q.0) (a, 0) ys (q, m)) →
      ((n x y : ℕ) (q : F) → Called g a (n, (x, tt)) y q → (q ≡ a) × (y ≡ max n (h x))) → to ≡ length xs → ((i : ℕ) → from ≤ i → i < to → h i ≡ f (get_or xs i d)) → m ≡ most f (drop from xs)
  most_by_fold_in_range from to m ran calls whole each =
      most_by_fold h (range_with_len from (to - from)) m ran (YieldsList-from_range from to (to - from) refl refl) calls
      ∙ most_places from (to - from) (omega arith) (λ i low high. each i low (omega arith))

-- the sections of a task that can block a position, and the longest of them
module _ (c : List ℕ) (p : ℕ) where
  abbrev pub can_block : ℕ → Bool
  can_block j = leb 1 (get_or c j 0) && leb (get_or c j 0) p

  pub obstacle_of : (x : Task) (m : ℕ) → m ≡ most (λ j. get_or x.lengths j 0) (filter can_block (range_with_len 0 16)) → m ≡ obstacle c p x
  unfolding obstacle
  obstacle_of x m is =
      is ∙ most_filtered (λ j. get_or x.lengths j 0) can_block (range_with_len 0 16)
      ∙ most_places (λ j. cond (blocks c p j) (section x j) 0) resources 0 (λ j. cond (can_block j) (get_or x.lengths j 0) 0) 0 16 refl (λ j low high.
      let there : get_or resources j 0 ≡ j + 1 = get_or-range_with_len 1 16 j 0 high ∙ omega arith in
      rw (there, add-sub_cancel j 1) refl)

-- ---- tables

-- `array::from_fn(h)`
made_at : {F : Type 0} (g : Mut F (ℕ × Unit {0}) ℕ) (a : F) (h : ℕ → ℕ) (ys : List ℕ) (i n : ℕ) → ((x y : ℕ) (q : F) → Called g a (x, tt) y q → (q ≡ a) × (y ≡ h x)) → IsFromFnResultFrom g a ys i n →
    (k : ℕ) → i ≤ k → k < i + n → get_or ys k 0 ≡ h k
made_at g a h ys i zero calls made k low high = absurd (omega arith)
made_at g a h ys i (suc n) calls (q, y, here, call, rest) k low high =
    let (still, is) = calls i y q call in
    ⊎_elim
    (λ (same : k ≡ i). rw same (here.1 0 ∙ is))
    (λ (other : k ≡ i → ⊥). made_at g a h ys (i + 1) n calls (subst (λ p. IsFromFnResultFrom g p ys (i + 1) n) still rest) k (omega arith) (omega arith))
    (cases_eq k i)

-- sixteen places so made are a table
pub made_table : {F : Type 0} {g : Mut F (ℕ × Unit {0}) ℕ} {a : F} (f : ℕ → ℕ) (c e : List ℕ) → IsFromFnResult g a c 16 → ((x y : ℕ) (q : F) → Called g a (x, tt) y q → (q ≡ a) × (y ≡ f (x + 1))) →
    length e ≡ 16 → ((j : ℕ) → 1 ≤ j → j ≤ 16 → ceiling e j ≡ f j) → c ≡ e
made_table {g = g} {a = a} f c e made calls size each =
    tables_same c e made.long size (λ j low high. made_at g a (λ k. f (k + 1)) c 0 16 calls made.each (j - 1) (omega arith) (omega arith) ∙ ap f (omega arith) ∙ sym (each j low high))
