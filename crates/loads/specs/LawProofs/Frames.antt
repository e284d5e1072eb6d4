-- Sums of frames of a cycle, and the largest of a few numbers.
use Rattle.std.specs.Prelude.{◌≡◌, ℕ, zero, suc, ◌+◌, ◌-◌, ◌*◌, ◌/◌, ◌%◌, ◌<◌, ◌≤◌, max, List, map, fold, unwrap_or, slice_index, refl}
use Rattle.std.specs.List.{range_with_len, reduce}
use Rattle.std.proofs.Common.{sym, ap, ◌∙◌, arith, add-one, one-add, add-suc, add-zero, zero-add, add_assoc, div-add-mod', zero-mul, suc-mul}
use Rattle.std.proofs.Math.Nat.{add-mod_right}
use Rattle.loads.specs.Framed.{frame, frame_count, frames, largest_of, busiest}

module _ (row : List ℕ) where
  abbrev k : ℕ
  k = frame_count row

  frame_round : (j : ℕ) → frame row (j + k) ≡ frame row j
  frame_round j = ap (λ x. slice_index row (2 + x)) (add-mod_right j k)

  pub frames_one : (s : ℕ) → frames row s 1 ≡ frame row s
  frames_one s = zero-add (frame row (s + 0)) ∙ ap (frame row) (add-zero s)

  pub frames_more : (s n : ℕ) → frames row s (n + 1) ≡ frames row s n + frame row (s + n)
  frames_more s n = ap (frames row s) (add-one n)

  frames_append : (s m n : ℕ) → frames row s (m + n) ≡ frames row s m + frames row (s + m) n
  frames_append s m zero = ap (frames row s) (add-zero m) ∙ sym (add-zero (frames row s m))
  frames_append s m (suc n) =
      let e : frames row s (m + suc n) ≡ frames row s (m + n) + frame row (s + (m + n)) = ap (frames row s) (add-suc m n) in
      let f : frame row (s + (m + n)) ≡ frame row ((s + m) + n) = ap (frame row) (sym (add_assoc s m n)) in
      omega (arith, frames_append s m n)

  -- a whole cycle comes to the same from wherever it begins
  whole : (s : ℕ) → frames row s k ≡ frames row 0 k
  whole zero = refl
  whole (suc s) =
      let more : frames row s (1 + k) ≡ frames row s k + frame row (s + k) = ap (frames row s) (one-add k) in
      let front : frames row s (1 + k) ≡ frames row s 1 + frames row (s + 1) k = frames_append s 1 k in
      let same : frames row (s + 1) k ≡ frames row (suc s) k = ap (λ x. frames row x k) (add-one s) in
      omega (arith, whole s, frame_round s, frames_one s)

  wholes : (s q : ℕ) → frames row s (q * k) ≡ q * frames row 0 k
  wholes s zero = ap (frames row s) (zero-mul k) ∙ sym (zero-mul (frames row 0 k))
  wholes s (suc q) =
      let e : frames row s (suc q * k) ≡ frames row s (q * k + k) = ap (frames row s) (suc-mul q k) in
      omega (arith, frames_append s (q * k) k, wholes s q, whole (s + q * k), suc-mul q (frames row 0 k))

  frames_round : (s n : ℕ) → frames row (s + k) n ≡ frames row s n
  frames_round s zero = refl
  frames_round s (suc n) =
      let swap : s + k + n ≡ s + n + k = omega arith in
      let f : frame row (s + k + n) ≡ frame row (s + n) = ap (frame row) swap ∙ frame_round (s + n) in
      omega (arith, frames_round s n)

  shifts : (q s n : ℕ) → frames row (s + q * k) n ≡ frames row s n
  shifts zero s n = ap (λ x. frames row x n) (omega (arith, zero-mul k))
  shifts (suc q) s n =
      let e : s + suc q * k ≡ s + q * k + k = omega (arith, suc-mul q k) in
      ap (λ x. frames row x n) e ∙ frames_round (s + q * k) n ∙ shifts q s n

  -- n frames are whole cycles and a rest
  pub frames_cycles : (s n : ℕ) → n / k * frames row 0 k + frames row s (n % k) ≡ frames row s n
  frames_cycles s n =
      let split : frames row s (n / k * k + n % k) ≡ frames row s n = ap (frames row s) (div-add-mod' n k) in
      let shift : frames row (s + n / k * k) (n % k) ≡ frames row s (n % k) = shifts (n / k) s (n % k) in
      omega (arith, frames_append s (n / k * k) (n % k), wholes s (n / k))

  frames_mono : (s m n : ℕ) → m ≤ n → frames row s m ≤ frames row s n
  frames_mono s m n h =
      let e : frames row s (m + (n - m)) ≡ frames row s n = ap (frames row s) (omega arith) in
      omega (arith, frames_append s m (n - m))

  pub frames_high : (top : ℕ) → ((j : ℕ) → frame row j ≤ top) → (s n : ℕ) → frames row s n ≤ n * top
  frames_high top high s zero = omega arith
  frames_high top high s (suc n) = omega (arith, frames_high top high s n, high (s + n), suc-mul n top)

  pub frames_lt : ((j : ℕ) → 1 ≤ frame row j) → (s m n : ℕ) → m < n → frames row s m < frames row s n
  frames_lt low s m n h = omega (arith, frames_mono s (m + 1) n (omega arith), frames_more s m, low (s + m))

  -- frame by frame
  pub frames_fold : (s n total : ℕ) → fold (λ a x. a + x) total (map (frame row) (range_with_len s n)) ≡ total + frames row s n
  frames_fold s zero total = sym (add-zero total)
  frames_fold s (suc n) total =
      let front : frames row s (1 + n) ≡ frames row s 1 + frames row (s + 1) n = frames_append s 1 n in
      let whole : frames row s (suc n) ≡ frames row s (1 + n) = ap (frames row s) (sym (one-add n)) in
      omega (arith, frames_fold (s + 1) n (total + frame row s), frames_one s)

-- ---- the largest of f 0 to f (n - 1)

pub largest_of_same : (f g : ℕ → ℕ) (n : ℕ) → ((s : ℕ) → f s ≡ g s) → largest_of f n ≡ largest_of g n
largest_of_same f g zero h = refl
largest_of_same f g (suc n) h = omega (arith, largest_of_same f g n h, h n)

pub largest_of_high : (f : ℕ → ℕ) (n top : ℕ) → ((s : ℕ) → f s ≤ top) → largest_of f n ≤ top
largest_of_high f zero top h = omega arith
largest_of_high f (suc n) top h = omega (arith, largest_of_high f n top h, h n)

pub largest_of_lt : (f g : ℕ → ℕ) (n : ℕ) → 1 ≤ n → ((s : ℕ) → f s < g s) → largest_of f n < largest_of g n
largest_of_lt f g zero p h = omega arith
largest_of_lt f g (suc zero) p h = omega (arith, h 0)
largest_of_lt f g (suc (suc n)) p h = omega (arith, largest_of_lt f g (suc n) (omega arith) h, h (suc n))

pub largest_of_more : (f : ℕ → ℕ) (n : ℕ) → largest_of f (n + 1) ≡ max (largest_of f n) (f n)
largest_of_more f n = ap (largest_of f) (add-one n)

largest_of_front : (f : ℕ → ℕ) (n : ℕ) → largest_of f (suc n) ≡ max (f 0) (largest_of (λ s. f (suc s)) n)
largest_of_front f zero = omega arith
largest_of_front f (suc n) = omega (arith, largest_of_front f n)

-- number by number
largest_of_fold : (f : ℕ → ℕ) (a n top : ℕ) → fold max top (map f (range_with_len a n)) ≡ max top (largest_of (λ s. f (s + a)) n)
largest_of_fold f a zero top = omega arith
largest_of_fold f a (suc n) top =
    let same : largest_of (λ s. f (s + (a + 1))) n ≡ largest_of (λ s. f (suc s + a)) n = largest_of_same (λ s. f (s + (a + 1))) (λ s. f (suc s + a)) n (λ s. ap f (omega arith)) in
    let here : f (0 + a) ≡ f a = ap f (zero-add a) in
    omega (arith, largest_of_fold f (a + 1) n (max top (f a)), largest_of_front (λ s. f (s + a)) n)

pub largest_of_reduce : (f : ℕ → ℕ) (n : ℕ) → unwrap_or (reduce max (map f (range_with_len 0 n))) 0 ≡ largest_of f n
largest_of_reduce f zero = refl
largest_of_reduce f (suc n) =
    let same : largest_of (λ s. f (s + 1)) n ≡ largest_of (λ s. f (suc s)) n = largest_of_same (λ s. f (s + 1)) (λ s. f (suc s)) n (λ s. ap f (add-one s)) in
    omega (arith, largest_of_fold f 1 n (f 0), largest_of_front f n)

-- ---- the busiest run

-- whole cycles come to the same from wherever they begin, so only the rest is tried
pub busiest_rest : (row : List ℕ) (n k cycle : ℕ) → k ≡ frame_count row → cycle ≡ frames row 0 k → largest_of (λ s. n / k * cycle + frames row s (n % k)) k ≡ busiest row n
busiest_rest row n k cycle count whole =
    ap (λ x. largest_of (λ s. n / k * x + frames row s (n % k)) k) whole
    ∙ ap (λ x. largest_of (λ s. n / x * frames row 0 x + frames row s (n % x)) x) count
    ∙ largest_of_same (λ s. n / frame_count row * frames row 0 (frame_count row) + frames row s (n % frame_count row)) (λ s. frames row s n) (frame_count row) (λ s. frames_cycles row s n)
