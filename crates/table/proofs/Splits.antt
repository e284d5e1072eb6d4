-- The tasks of flat arrays, cut at a place: what the first arrays say, and what the rest of them says.
use Rattle.std.proofs.Common.{◌≡◌, ℕ, zero, suc, ◌+◌, ◌*◌, List, [], ◌∷◌, ◌++◌, get_or, take, drop, sym, refl, ap, ◌∙◌, subst, one-add, arith}
use Rattle.std.proofs.lemmas.List.{drop-drop, drop-take, take-take, get_or-take}
use Rattle.ledger.specs.Ledger.{Task}
use Rattle.table.specs.Flat.{tasks_of}

pub same_task : (r r' : List ℕ) (d d' : ℕ) (s s' : List ℕ) → r ≡ r' → d ≡ d' → s ≡ s' → ◌≡◌ {A = Task} (record { row = r; deadline = d; lengths = s }) (record { row = r'; deadline = d'; lengths = s' })
same_task r r' d d' s s' rows deadlines sections = cc

pub same_tasks : (n : ℕ) (r r' : List (List ℕ)) (d d' s s' : List ℕ) → r ≡ r' → d ≡ d' → s ≡ s' → tasks_of n r d s ≡ tasks_of n r' d' s'
same_tasks n r r' d d' s s' rows deadlines sections = cc

-- the first a tasks, and those of what is left of the arrays
pub tasks_split : (a b n : ℕ) (r : List (List ℕ)) (d s : List ℕ) → n ≡ a + b → tasks_of n r d s ≡ tasks_of a r d s ++ tasks_of b (drop a r) (drop a d) (drop (16 * a) s)
tasks_split zero b n r d s e = let same : n ≡ b = omega arith in ap (λ m. tasks_of m r d s) same
tasks_split (suc a) b zero r d s e = absurd (omega arith)
tasks_split (suc a) b (suc n) r d s e =
    let more : 16 + 16 * a ≡ 16 * suc a = omega arith in
    ap (λ tasks. record { row = get_or r 0 []; deadline = get_or d 0 0; lengths = take 16 s } ∷ tasks)
    (tasks_split a b n (drop 1 r) (drop 1 d) (drop 16 s) (omega arith)
    ∙ ap (λ tasks. tasks_of a (drop 1 r) (drop 1 d) (drop 16 s) ++ tasks)
    (same_tasks b _ _ _ _ _ _ (drop-drop a 1 r ∙ ap (λ m. drop m r) (one-add a)) (drop-drop a 1 d ∙ ap (λ m. drop m d) (one-add a)) (drop-drop (16 * a) 16 s ∙ ap (λ m. drop m s) more)))

-- lists that begin alike, cut
cut : {A : Type 0} (w n m : ℕ) (xs ys : List A) → m ≡ w + n → take m xs ≡ take m ys → (take w xs ≡ take w ys) × (take n (drop w xs) ≡ take n (drop w ys))
cut w n m xs ys e alike =
    let whole : take (w + n) xs ≡ take (w + n) ys = subst (λ k. take k xs ≡ take k ys) e alike in
    (sym (take-take w (w + n) xs (omega arith)) ∙ ap (take w) whole ∙ take-take w (w + n) ys (omega arith), sym (drop-take w n xs) ∙ ap (drop w) whole ∙ drop-take w n ys)

-- the first n tasks stand in the first n rows and deadlines, and the first 16 n lengths
pub tasks_first : (n : ℕ) (r r' : List (List ℕ)) (d d' s s' : List ℕ) → take n r ≡ take n r' → take n d ≡ take n d' → take (16 * n) s ≡ take (16 * n) s' → tasks_of n r d s ≡ tasks_of n r' d' s'
tasks_first zero r r' d d' s s' rows deadlines sections = refl
tasks_first (suc n) r r' d d' s s' rows deadlines sections =
    let (row, later_rows) = cut 1 n (suc n) r r' (omega arith) rows in
    let (deadline, later_deadlines) = cut 1 n (suc n) d d' (omega arith) deadlines in
    let (lengths, later_sections) = cut 16 (16 * n) (16 * suc n) s s' (omega arith) sections in
    let here = same_task _ _ _ _ _ _
    (sym (get_or-take 1 r 0 [] (omega arith)) ∙ ap (λ xs. get_or xs 0 []) row ∙ get_or-take 1 r' 0 [] (omega arith))
    (sym (get_or-take 1 d 0 0 (omega arith)) ∙ ap (λ xs. get_or xs 0 0) deadline ∙ get_or-take 1 d' 0 0 (omega arith))
    lengths in
    let rest = tasks_first n (drop 1 r) (drop 1 r') (drop 1 d) (drop 1 d') (drop 16 s) (drop 16 s') later_rows later_deadlines later_sections in
    cc
