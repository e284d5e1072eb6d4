-- A group of values put in front of a slice of a list, and taken away there: what the list then is before it, there and behind.
use Rattle.std.proofs.Common.{◌≡◌, ℕ, ◌+◌, ◌-◌, ◌<◌, ◌≤◌, List, ◌++◌, length, get_or, take, drop, sym, ap, ◌∙◌, subst, refl, ⊎_elim, append_assoc, arith, rules}
use Rattle.std.proofs.lemmas.Bool.{cases_lt}
use Rattle.std.proofs.lemmas.List.{places, take_at, drop_at, take-take, drop-take, length-take-le, length-drop}
use borrow.Rule.Slice.PartMut.{put_mid, mid_of}

module _ {A : Type 0} (xs ys group : List A) (at k : ℕ) where
  -- ys is xs with a group put in at a place, and k values moved on
  pub record Opened : Type 0 where
    pub before : take at ys ≡ take at xs
    pub here : take (length group) (drop at ys) ≡ group
    pub behind : take k (drop (length group) (drop at ys)) ≡ take k (drop at xs)

  -- ys is xs with as many values as the group has taken out at a place, and k values moved back
  pub record Closed : Type 0 where
    pub before : take at ys ≡ take at xs
    pub behind : take k (drop at ys) ≡ take k (drop (length group) (drop at xs))

module _ {A : Type 0} (xs zs group : List A) (at n k : ℕ) (room : at + n ≤ length xs) (whole : n ≡ length group + k) where
  long : length (take at xs) ≡ at
  long = length-take-le at xs (omega arith)

  mid_long : length (mid_of at n xs) ≡ n
  mid_long = search (rules, places)

  kept : (zs' : List A) → take at (put_mid at n xs zs') ≡ take at xs
  kept zs' = take_at (take at xs) _ at long

  from_at : (zs' : List A) → drop at (put_mid at n xs zs') ≡ zs' ++ drop n (drop at xs)
  from_at zs' = drop_at (take at xs) _ at long

  pub opened : zs ≡ group ++ take (length (mid_of at n xs) - length group) (mid_of at n xs) → Opened xs (put_mid at n xs zs) group at k
  opened is =
      let some : length (mid_of at n xs) - length group ≡ k = omega (arith, mid_long) in
      let moved : take (length (mid_of at n xs) - length group) (mid_of at n xs) ≡ take k (drop at xs) = ap (λ m. take m (mid_of at n xs)) some ∙ take-take k n (drop at xs) (omega arith) in
      let all : drop at (put_mid at n xs zs) ≡ group ++ (take k (drop at xs) ++ drop n (drop at xs)) =
      from_at zs ∙ ap (λ v. v ++ drop n (drop at xs)) (is ∙ ap (λ v. group ++ v) moved) ∙ append_assoc group (take k (drop at xs)) (drop n (drop at xs)) in
      record {
        before = kept zs;
        here = ap (take (length group)) all ∙ take_at group _ (length group) refl;
        behind = ap (λ v. take k (drop (length group) v)) all ∙ ap (take k) (drop_at group _ (length group) refl) ∙ take_at (take k (drop at xs)) _ k (length-take-le k (drop at xs) (omega (arith, length-drop at xs)));
      }

  pub closed : zs ≡ drop (length group) (mid_of at n xs) ++ group → Closed xs (put_mid at n xs zs) group at k
  closed is =
      let moved : drop (length group) (mid_of at n xs) ≡ take k (drop (length group) (drop at xs)) = ap (λ m. drop (length group) (take m (drop at xs))) whole ∙ drop-take (length group) k (drop at xs) in
      let all : drop at (put_mid at n xs zs) ≡ take k (drop (length group) (drop at xs)) ++ (group ++ drop n (drop at xs)) =
      from_at zs ∙ ap (λ v. v ++ drop n (drop at xs)) (is ∙ ap (λ v. v ++ group) moved) ∙ append_assoc (take k (drop (length group) (drop at xs))) group (drop n (drop at xs)) in
      record {
        before = kept zs;
        behind = ap (take k) all ∙ take_at (take k (drop (length group) (drop at xs))) _ k (length-take-le k (drop (length group) (drop at xs)) (omega (arith, length-drop at xs, length-drop (length group) (drop at xs))));
      }

-- past what was moved, all is as it was
pub past_opened : {A : Type 0} (xs zs group : List A) (at n i : ℕ) (d : A) → zs ≡ group ++ take (length (mid_of at n xs) - length group) (mid_of at n xs) → length group ≤ n → at + n ≤ length xs → at + n ≤ i →
    get_or (put_mid at n xs zs) i d ≡ get_or xs i d
past_opened xs zs group at n i d is small room past = grind (arith, places)

-- and from where the group stands, something holds if it holds of the group and past it
pub past_closed : {A : Type 0} (P : A → Type 0) (xs zs group : List A) (at n i : ℕ) (d : A) → zs ≡ drop (length group) (mid_of at n xs) ++ group → length group ≤ n → at + n ≤ length xs →
    ((m : ℕ) → P (get_or group m d)) → ((m : ℕ) → at + n ≤ m → P (get_or xs m d)) → at + n ≤ i + length group → P (get_or (put_mid at n xs zs) i d)
past_closed P xs zs group at n i d is small room here past h =
    ⊎_elim
    (λ (low : i < at + n).
    let stands : get_or (put_mid at n xs zs) i d ≡ get_or group (i + length group - (at + n)) d = grind (arith, places) in
    subst P (sym stands) (here (i + length group - (at + n))))
    (λ (high : at + n ≤ i).
    let stands : get_or (put_mid at n xs zs) i d ≡ get_or xs i d = grind (arith, places) in
    subst P (sym stands) (past i high))
    (cases_lt i (at + n))
