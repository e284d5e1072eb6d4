-- A quotient rounded up is the least number of periods that cover so many ticks.
use Rattle.std.proofs.Common.{◌≡◌, ℕ, ◌+◌, ◌*◌, ◌/◌, ◌<◌, ◌≤◌, min, ap, ◌∙◌, ⊎_elim, add-mul, one-mul, arith}
use Rattle.std.proofs.lemmas.Nat.{mul-le, div-add-mod', mod_below}
use Rattle.std.proofs.lemmas.Bool.{cases_lt}
use Rattle.numbers.specs.Rounding.{rounded_up}

pub one_more : (n d : ℕ) → (n + 1) * d ≡ n * d + d
one_more n d = add-mul n 1 d ∙ ap (λ x. n * d + x) (one-mul d)

-- n periods that cover t are enough
pub rounded_up_le : (t d n : ℕ) → 1 ≤ d → t ≤ n * d → rounded_up t d ≤ n
rounded_up_le t d n pos covers =
    ⊎_elim
    (λ (more : n < t / d). absurd (omega (arith, div-add-mod' t d, mul-le (n + 1) d (t / d) d (omega arith) (omega arith), one_more n d)))
    (λ (less : t / d ≤ n).
    ⊎_elim
    (λ (below : t / d < n). omega arith)
    (λ (same : n ≤ t / d). let e : n * d ≡ t / d * d = ap (λ x. x * d) (omega arith) in omega (arith, div-add-mod' t d))
    (cases_lt (t / d) n))
    (cases_lt n (t / d))

-- n periods that do not cover t are too few
pub lt_rounded_up : (t d n : ℕ) → 1 ≤ d → n * d < t → n < rounded_up t d
lt_rounded_up t d n pos short =
    ⊎_elim
    (λ (less : t / d < n). absurd (omega (arith, div-add-mod' t d, mod_below t d pos, mul-le (t / d + 1) d n d (omega arith) (omega arith), one_more (t / d) d)))
    (λ (more : n ≤ t / d).
    ⊎_elim
    (λ (above : n < t / d). omega arith)
    (λ (same : t / d ≤ n). let e : n * d ≡ t / d * d = ap (λ x. x * d) (omega arith) in omega (arith, div-add-mod' t d))
    (cases_lt n (t / d)))
    (cases_lt (t / d) n)

-- so many periods cover t
pub covered : (t d : ℕ) → 1 ≤ d → t ≤ rounded_up t d * d
covered t d pos =
    ⊎_elim
    (λ (short : rounded_up t d * d < t). absurd (let b : rounded_up t d < rounded_up t d = lt_rounded_up t d (rounded_up t d) pos short in omega arith))
    (λ h. h)
    (cases_lt (rounded_up t d * d) t)

pub rounded_up_mono : (s t d : ℕ) → 1 ≤ d → s ≤ t → rounded_up s d ≤ rounded_up t d
rounded_up_mono s t d pos h = rounded_up_le s d (rounded_up t d) pos (omega (arith, covered t d pos))

pub rounded_up_zero : (d : ℕ) → 1 ≤ d → rounded_up 0 d ≡ 0
rounded_up_zero d pos = let b : rounded_up 0 d ≤ 0 = rounded_up_le 0 d 0 pos (omega arith) in omega arith

pub rounded_up_one : (t d : ℕ) → 1 ≤ t → t ≤ d → rounded_up t d ≡ 1
rounded_up_one t d low high =
    let b : rounded_up t d ≤ 1 = rounded_up_le t d 1 (omega arith) (omega arith) in
    let c : 0 < rounded_up t d = lt_rounded_up t d 0 (omega arith) (omega arith) in
    omega arith

pub rounded_up_self : (t d : ℕ) → 1 ≤ d → rounded_up t d ≤ t
rounded_up_self t d pos = rounded_up_le t d t pos (omega (arith, mul-le t 1 t d (omega arith) pos))

-- the last instant up to a limit with as many periods begun as at t
pub last_of_period : (t d limit : ℕ) → 1 ≤ d → t ≤ limit → rounded_up (min (rounded_up t d * d) limit) d ≡ rounded_up t d
last_of_period t d limit pos h =
    let l : t ≤ min (rounded_up t d * d) limit = omega (arith, covered t d pos) in
    let lo : rounded_up t d ≤ rounded_up (min (rounded_up t d * d) limit) d = rounded_up_mono t (min (rounded_up t d * d) limit) d pos l in
    let hi : rounded_up (min (rounded_up t d * d) limit) d ≤ rounded_up t d = rounded_up_le (min (rounded_up t d * d) limit) d (rounded_up t d) pos (omega arith) in
    omega arith

pub next_period : (t d limit v : ℕ) → 1 ≤ d → min (rounded_up t d * d) limit < v → v ≤ limit → rounded_up t d < rounded_up v d
next_period t d limit v pos h k = lt_rounded_up v d (rounded_up t d) pos (omega arith)
