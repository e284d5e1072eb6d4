-- What a supply means: the least processor time to be had in so many ticks.
use Rattle.std.specs.Prelude.{◌≡◌, ℕ, suc, ◌<◌, ◌≤◌, min, ◌⊎◌, Some, None, Option}

-- supplies are counted up to this instant, the last one: a later one counts as this
abbrev pub last_instant : ℕ
last_instant = 1000000

-- what every supply keeps: nothing at first, and 0 or 1 more with each tick
pub record Laws (s : ℕ → ℕ) : Type 0 where
  pub starts : s 0 ≡ 0
  pub ticks : (t : ℕ) → (s (suc t) ≡ s t) ⊎ (s (suc t) ≡ suc (s t))
  pub late : (t : ℕ) → s t ≡ s (min t last_instant)

-- t is the first instant at which the supply reaches w
pub record Reached (s : ℕ → ℕ) (w t : ℕ) : Type 0 where
  pub within : t ≤ last_instant
  pub reaches : w ≤ s t
  pub before : (u : ℕ) → u < t → s u < w

-- the answer to when the supply reaches w: the first such instant, or none where it never does
abbrev pub When : (ℕ → ℕ) → ℕ → Option ℕ → Type 0
When s w (Some t) = Reached s w t
When s w None = s last_instant < w

-- a supply from its formula, which holds up to the last instant
abbrev pub up_to_last : (ℕ → ℕ) → ℕ → ℕ
up_to_last f t = f (min t last_instant)

-- the whole processor
abbrev pub whole : ℕ → ℕ
whole = up_to_last (λ t. t)
