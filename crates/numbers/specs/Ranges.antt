-- Ranges of numbers.
use Rattle.std.specs.Prelude.{ℕ, Bool, ◌&&◌, nat_le}

-- x is from low to high, both included
abbrev pub from_to : ℕ → ℕ → ℕ → Bool
from_to low high x = nat_le low x && nat_le x high
