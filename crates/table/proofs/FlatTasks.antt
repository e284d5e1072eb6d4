-- The tasks of a table, from its arrays: what stands there, and what an edit of the arrays makes of them.
use Rattle.std.proofs.Common.{◌≡◌, ℕ, zero, suc, ◌+◌, ◌-◌, ◌*◌, ◌<◌, ◌≤◌, List, [], ◌∷◌, ◌++◌, map, length, get_or, take, drop, set, replicate, sym, refl, ap, ◌∙◌, one-add, add-sub_cancel, arith}
use lib.Seq.{take-set-lt}
use Rattle.std.proofs.lemmas.List.{length-take, length-drop, get_or_past, get_or-drop, get_or-take, drop-drop, drop_at, take_at, take-set-le, drop-set-add, drop-set-lt, set_at, get_or_at}
use Rattle.ledger.specs.Ledger.{Task, no_task, fresh, with_section}
use Rattle.table.specs.Flat.{tasks_of, sixteen}
use Rattle.table.proofs.Shifted.{Opened, Closed, opened, closed}
use Rattle.table.proofs.Splits.{same_task, tasks_split, tasks_first}
use borrow.Rule.Slice.PartMut.{put_mid, mid_of}

-- the lengths of one task
pub length_sixteen : (us : List ℕ) (k : ℕ) → 16 * k + 16 ≤ length us → length (sixteen k us) ≡ 16
length_sixteen us k h = simp (length-take, length-drop) (omega arith)

pub get_or_sixteen : (us : List ℕ) (k i d : ℕ) → i < 16 → get_or (sixteen k us) i d ≡ get_or us (16 * k + i) d
get_or_sixteen us k i d h = get_or-take 16 (drop (16 * k) us) i d h ∙ get_or-drop (16 * k) us i d

-- the task with an index
abbrev pub task_at : List (List ℕ) → List ℕ → List ℕ → ℕ → Task
task_at rows deadlines sections i = record { row = get_or rows i []; deadline = get_or deadlines i 0; lengths = sixteen i sections }

pub length_tasks : (n : ℕ) (r : List (List ℕ)) (d s : List ℕ) → length (tasks_of n r d s) ≡ n
length_tasks zero r d s = refl
length_tasks (suc n) r d s = ap suc (length_tasks n (drop 1 r) (drop 1 d) (drop 16 s))

get_or_tasks : (n : ℕ) (r : List (List ℕ)) (d s : List ℕ) (k : ℕ) → k < n → get_or (tasks_of n r d s) k no_task ≡ task_at r d s k
get_or_tasks zero r d s k h = absurd (omega arith)
get_or_tasks (suc n) r d s zero h = refl
get_or_tasks (suc n) r d s (suc k) h =
    get_or_tasks n (drop 1 r) (drop 1 d) (drop 16 s) k (omega arith)
    ∙ same_task _ _ _ _ _ _
    (get_or-drop 1 r k [] ∙ ap (λ m. get_or r m []) (one-add k))
    (get_or-drop 1 d k 0 ∙ ap (λ m. get_or d m 0) (one-add k))
    (let e : 16 + 16 * k ≡ 16 * suc k = omega arith in ap (take 16) (drop-drop (16 * k) 16 s ∙ ap (λ m. drop m s) e))

-- the rows of the tasks are the first rows, and so are the deadlines
pub rows_are : (n : ℕ) (r : List (List ℕ)) (d s : List ℕ) → n ≤ length r → map (λ (x : Task). x.row) (tasks_of n r d s) ≡ take n r
rows_are zero r d s h = refl
rows_are (suc n) [] d s h = absurd (omega arith)
rows_are (suc n) (x ∷ r) d s h = ap (λ xs. x ∷ xs) (rows_are n r (drop 1 d) (drop 16 s) (omega arith))

pub deadlines_are : (n : ℕ) (r : List (List ℕ)) (d s : List ℕ) → n ≤ length d → map (λ (x : Task). x.deadline) (tasks_of n r d s) ≡ take n d
deadlines_are zero r d s h = refl
deadlines_are (suc n) r [] s h = absurd (omega arith)
deadlines_are (suc n) r (x ∷ d) s h = ap (λ xs. x ∷ xs) (deadlines_are n (drop 1 r) d (drop 16 s) (omega arith))

-- a length of one of the tasks
pub length_of : (n : ℕ) (r : List (List ℕ)) (d s : List ℕ) (i j : ℕ) → i < n → j < 16 → get_or (get_or (tasks_of n r d s) i no_task).lengths j 0 ≡ get_or s (16 * i + j) 0
length_of n r d s i j h l = ap (λ x. get_or x.lengths j 0) (get_or_tasks n r d s i h) ∙ get_or_sixteen s i j 0 l

-- there is none of an absent task, or on an absent resource
pub length_past : (n : ℕ) (r : List (List ℕ)) (d s : List ℕ) (i j : ℕ) → n ≤ i → get_or (get_or (tasks_of n r d s) i no_task).lengths j 0 ≡ 0
length_past n r d s i j h = ap (λ x. get_or x.lengths j 0) (get_or_past (tasks_of n r d s) i no_task (omega (arith, length_tasks n r d s)))

pub length_beyond : (n : ℕ) (r : List (List ℕ)) (d s : List ℕ) (i j : ℕ) → i < n → 16 * n ≤ length s → 16 ≤ j → get_or (get_or (tasks_of n r d s) i no_task).lengths j 0 ≡ 0
length_beyond n r d s i j h l m = ap (λ x. get_or x.lengths j 0) (get_or_tasks n r d s i h) ∙ get_or_past (sixteen i s) j 0 (omega (arith, length_sixteen s i (omega arith)))

-- what stands in a ledger, by what stands in the arrays
pub ruleset standing = (length_tasks, rows_are, deadlines_are, length_of, length_past, length_beyond)

-- ---- edits

-- the tasks before a place, at it and behind it
module _ (r : List (List ℕ)) (d s : List ℕ) (at k n : ℕ) (whole : n ≡ at + suc k) where
  abbrev first : List Task
  first = tasks_of at r d s

  abbrev here : Task
  here = record { row = get_or (drop at r) 0 []; deadline = get_or (drop at d) 0 0; lengths = take 16 (drop (16 * at) s) }

  abbrev later : List Task
  later = tasks_of k (drop 1 (drop at r)) (drop 1 (drop at d)) (drop 16 (drop (16 * at) s))

  around : tasks_of n r d s ≡ first ++ here ∷ later
  around = tasks_split at (suc k) n r d s whole

-- a task put in at an index: k tasks are behind it
inserted_at : (r r' : List (List ℕ)) (d d' s s' : List ℕ) (at k n : ℕ) (row : List ℕ) (deadline : ℕ) → n ≡ at + k → Opened r r' (row ∷ []) at k → Opened d d' (deadline ∷ []) at k → Opened s s' (replicate 16 0) (16 * at) (16 * k) →
    tasks_of (n + 1) r' d' s' ≡ take at (tasks_of n r d s) ++ fresh row deadline ∷ drop at (tasks_of n r d s)
inserted_at r r' d d' s s' at k n row deadline whole rows deadlines sections =
    let cut : tasks_of n r d s ≡ tasks_of at r d s ++ tasks_of k (drop at r) (drop at d) (drop (16 * at) s) = tasks_split at k n r d s whole in
    let before : tasks_of at r' d' s' ≡ tasks_of at r d s = tasks_first at r' r d' d s' s rows.before deadlines.before sections.before in
    let behind : later r' d' s' at k (n + 1) (omega arith) ≡ tasks_of k (drop at r) (drop at d) (drop (16 * at) s) = tasks_first k _ _ _ _ _ _ rows.behind deadlines.behind sections.behind in
    let new : here r' d' s' at k (n + 1) (omega arith) ≡ fresh row deadline = same_task _ _ _ _ _ _
    (sym (get_or-take 1 (drop at r') 0 [] (omega arith)) ∙ ap (λ xs. get_or xs 0 []) rows.here)
    (sym (get_or-take 1 (drop at d') 0 0 (omega arith)) ∙ ap (λ xs. get_or xs 0 0) deadlines.here)
    sections.here in
    let size = length_tasks at r d s in
    let ahead : take at (tasks_of n r d s) ≡ tasks_of at r d s = ap (take at) cut ∙ take_at _ _ at size in
    let rest : drop at (tasks_of n r d s) ≡ tasks_of k (drop at r) (drop at d) (drop (16 * at) s) = ap (drop at) cut ∙ drop_at _ _ at size in
    let all = around r' d' s' at k (n + 1) (omega arith) in
    cc

-- a task taken out at an index: k tasks are behind it
removed_at : (r r' : List (List ℕ)) (d d' s s' : List ℕ) (at k n : ℕ) → n ≡ at + suc k → Closed r r' (replicate 8 0 ∷ []) at k → Closed d d' (0 ∷ []) at k → Closed s s' (replicate 16 0) (16 * at) (16 * k) →
    tasks_of (n - 1) r' d' s' ≡ take at (tasks_of n r d s) ++ drop (at + 1) (tasks_of n r d s)
removed_at r r' d d' s s' at k n whole rows deadlines sections =
    let cut = around r d s at k n whole in
    let before : tasks_of at r' d' s' ≡ tasks_of at r d s = tasks_first at r' r d' d s' s rows.before deadlines.before sections.before in
    let behind : tasks_of k (drop at r') (drop at d') (drop (16 * at) s') ≡ later r d s at k n whole = tasks_first k _ _ _ _ _ _ rows.behind deadlines.behind sections.behind in
    let size = length_tasks at r d s in
    let ahead : take at (tasks_of n r d s) ≡ tasks_of at r d s = ap (take at) cut ∙ take_at _ _ at size in
    let rest : drop (at + 1) (tasks_of n r d s) ≡ later r d s at k n whole = sym (drop-drop 1 at (tasks_of n r d s)) ∙ ap (drop 1) (ap (drop at) cut ∙ drop_at _ _ at size) in
    let all = tasks_split at k (n - 1) r' d' s' (omega arith) in
    cc

-- one length overwritten
set_at_index : (r : List (List ℕ)) (d s : List ℕ) (at k n j v : ℕ) → n ≡ at + suc k → j < 16 →
    tasks_of n r d (set s (16 * at + j) v) ≡ set (tasks_of n r d s) at (with_section (get_or (tasks_of n r d s) at no_task) (j + 1) v)
set_at_index r d s at k n j v whole resource =
    let s' : List ℕ = set s (16 * at + j) v in
    let cut = around r d s at k n whole in
    let there : drop (16 * at) s' ≡ set (drop (16 * at) s) j v = drop-set-add (16 * at) s j v in
    let before : tasks_of at r d s' ≡ tasks_of at r d s = tasks_first at r r d d s' s refl refl (take-set-le (16 * at) s (16 * at + j) v (omega arith)) in
    let behind : later r d s' at k n whole ≡ later r d s at k n whole = ap (tasks_of k (drop 1 (drop at r)) (drop 1 (drop at d))) (ap (drop 16) there ∙ drop-set-lt 16 (drop (16 * at) s) j v resource) in
    let old : get_or (tasks_of n r d s) at no_task ≡ here r d s at k n whole = ap (λ tasks. get_or tasks at no_task) cut ∙ get_or_at _ _ _ no_task at (length_tasks at r d s) in
    let new : here r d s' at k n whole ≡ with_section (here r d s at k n whole) (j + 1) v = rw (add-sub_cancel j 1) (same_task _ _ _ _ _ _ refl refl (ap (take 16) there ∙ take-set-lt 16 (drop (16 * at) s) j v resource)) in
    let all : set (tasks_of n r d s) at (with_section (here r d s at k n whole) (j + 1) v) ≡ tasks_of at r d s ++ with_section (here r d s at k n whole) (j + 1) v ∷ later r d s at k n whole = ap (λ tasks. set tasks at (with_section (here r d s at k n whole) (j + 1) v)) cut ∙ set_at _ _ _ _ at (length_tasks at r d s) in
    let made = around r d s' at k n whole in
    cc

-- ---- the same, by position and resource, of what the calls leave

pub inserted : (r : List (List ℕ)) (d s : List ℕ) (n at : ℕ) (e : List (List ℕ)) (f g : List ℕ) (row : List ℕ) (deadline p count : ℕ) →
    e ≡ (row ∷ []) ++ take (length (mid_of at (n + 1 - at) r) - 1) (mid_of at (n + 1 - at) r) →
    f ≡ (deadline ∷ []) ++ take (length (mid_of at (n + 1 - at) d) - 1) (mid_of at (n + 1 - at) d) →
    g ≡ replicate 16 0 ++ take (length (mid_of (16 * at) (16 * n + 16 - 16 * at) s) - 16) (mid_of (16 * at) (16 * n + 16 - 16 * at) s) →
    p ≡ at + 1 → at ≤ n → n < length r → n < length d → 16 * n + 16 ≤ length s → n ≡ count →
    tasks_of (n + 1) (put_mid at (n + 1 - at) r e) (put_mid at (n + 1 - at) d f) (put_mid (16 * at) (16 * n + 16 - 16 * at) s g) ≡ take (p - 1) (tasks_of count r d s) ++ fresh row deadline ∷ drop (p - 1) (tasks_of count r d s)
inserted r d s n at e f g row deadline p count rows deadlines sections is within few fewer room same =
    let index : p - 1 ≡ at = omega arith in
    rw (index, ← same) (inserted_at r _ d _ s _ at (n - at) n row deadline (omega arith)
    (opened r e (row ∷ []) at (n + 1 - at) (n - at) (omega arith) (omega arith) rows)
    (opened d f (deadline ∷ []) at (n + 1 - at) (n - at) (omega arith) (omega arith) deadlines)
    (opened s g (replicate 16 0) (16 * at) (16 * n + 16 - 16 * at) (16 * (n - at)) (omega arith) (omega arith) sections))

pub withdrawn : (r : List (List ℕ)) (d s : List ℕ) (n at : ℕ) (e : List (List ℕ)) (f g : List ℕ) (p count : ℕ) →
    e ≡ drop 1 (mid_of at (n - at) r) ++ (replicate 8 0 ∷ []) →
    f ≡ drop 1 (mid_of at (n - at) d) ++ (0 ∷ []) →
    g ≡ drop 16 (mid_of (16 * at) (16 * n - 16 * at) s) ++ replicate 16 0 →
    p ≡ at + 1 → at < n → n ≤ length r → n ≤ length d → 16 * n ≤ length s → n ≡ count →
    tasks_of (n - 1) (put_mid at (n - at) r e) (put_mid at (n - at) d f) (put_mid (16 * at) (16 * n - 16 * at) s g) ≡ take (p - 1) (tasks_of count r d s) ++ drop p (tasks_of count r d s)
withdrawn r d s n at e f g p count rows deadlines sections is within few fewer room same =
    let index : p - 1 ≡ at = omega arith in
    rw (index, is, ← same) (removed_at r _ d _ s _ at (n - 1 - at) n (omega arith)
    (closed r e (replicate 8 0 ∷ []) at (n - at) (n - 1 - at) (omega arith) (omega arith) rows)
    (closed d f (0 ∷ []) at (n - at) (n - 1 - at) (omega arith) (omega arith) deadlines)
    (closed s g (replicate 16 0) (16 * at) (16 * n - 16 * at) (16 * (n - 1 - at)) (omega arith) (omega arith) sections))

pub with_length : (n at j v p q : ℕ) (r : List (List ℕ)) (d s : List ℕ) → p ≡ at + 1 → q ≡ j + 1 → at < n → j < 16 →
    tasks_of n r d (set s (16 * at + j) v) ≡ set (tasks_of n r d s) (p - 1) (with_section (get_or (tasks_of n r d s) (p - 1) no_task) q v)
with_length n at j v p q r d s is on within resource =
    let index : p - 1 ≡ at = omega arith in
    rw (index, on) (set_at_index r d s at (n - 1 - at) n j v (omega arith) resource)

pub ruleset inserting = (length_tasks, inserted)

pub ruleset withdrawing = (length_tasks, withdrawn)

pub ruleset sections = (length_tasks, with_length)
