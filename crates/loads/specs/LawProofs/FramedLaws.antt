-- The framed kind keeps the laws of kinds.
use Rattle.std.specs.Prelude.{◌≡◌, ℕ, ◌+◌, ◌*◌, ◌%◌, ◌<◌, ◌≤◌, List, slice_index, refl}
use Rattle.std.proofs.Common.{sym, arith, mod-lt}
use Rattle.std.proofs.lemmas.Bool.Decides.{nat_tests}
use Rattle.loads.specs.Kind.{Laws, largest_entry}
use Rattle.loads.specs.Framed.{framed, framed_formulas, framed_entry, frame, frame_count, frames, largest_of, busiest, most_frames}
use Rattle.loads.specs.LawProofs.Frames.{frames_one, frames_high, frames_lt, largest_of_same, largest_of_high, largest_of_lt}
use Rattle.loads.specs.LawProofs.Guarded.{Formulas, FormulaLaws, guarded_laws}
use Rattle.loads.specs.LawProofs.Lowest.{lowest_passes, lowest_le}
use Rattle.loads.specs.LawProofs.Periodic.{Periodic, periodic_formulas}

module _ (row : List ℕ) (lawful : framed_formulas.fault row ≡ 0) where
  pub count_low : 1 ≤ frame_count row
  count_low = let passes = lowest_passes (framed_entry row) 8 lawful 1 (omega arith) in grind (arith, nat_tests)

  pub count_high : frame_count row ≤ most_frames
  count_high = let passes = lowest_passes (framed_entry row) 8 lawful 1 (omega arith) in grind (arith, nat_tests)

  -- the entries from the count on are frames
  entry_low : (i : ℕ) → i < frame_count row → 1 ≤ slice_index row (2 + i)
  entry_low i h = let passes = lowest_passes (framed_entry row) 8 lawful (2 + i) (omega (arith, count_high)) in grind (arith, nat_tests)

  high : (i : ℕ) → i < 8 → slice_index row i ≤ largest_entry
  high i h = let passes = lowest_passes (framed_entry row) 8 lawful i h in grind (arith, nat_tests)

  pub place : (j : ℕ) → j % frame_count row < frame_count row
  place j = mod-lt j count_low

  pub frame_high : (j : ℕ) → frame row j ≤ largest_entry
  frame_high j = high (2 + j % frame_count row) (omega (arith, place j, count_high))

  pub longest_is : busiest row 1 ≡ largest_of (frame row) (frame_count row)
  longest_is = largest_of_same (λ s. frames row s 1) (frame row) (frame_count row) (frames_one row)

  pub framed_periodic : Periodic (busiest row) (slice_index row 0)
  framed_periodic = record {
    period_low = let passes = lowest_passes (framed_entry row) 8 lawful 0 (omega arith) in grind (arith, nat_tests);
    period_high = high 0 (omega arith);
    none = omega (arith, largest_of_high (λ s. frames row s 0) (frame_count row) 0 (λ s. omega arith));
    more = λ m n less. largest_of_lt (λ s. frames row s m) (λ s. frames row s n) (frame_count row) count_low
        (λ s. frames_lt row (λ j. entry_low (j % frame_count row) (place j)) s m n less);
    bounded = λ n. largest_of_high (λ s. frames row s n) (frame_count row) (n * largest_entry) (λ s. frames_high row largest_entry frame_high s n);
  }

  framed_lawful : Formulas framed_formulas row
  framed_lawful = periodic_formulas _ _ framed_periodic framed_formulas row (λ t. refl) (sym longest_is) refl high

pub framed_formula_laws : FormulaLaws framed_formulas
framed_formula_laws = record { lawful = framed_lawful; entry = λ row. lowest_le (framed_entry row) 8 }

-- the framed kind keeps the laws of kinds
pub framed_laws : Laws framed
framed_laws = guarded_laws framed_formulas framed_formula_laws

pub separation_low : (row : List ℕ) → framed_formulas.fault row ≡ 0 → 1 ≤ slice_index row 0
separation_low row lawful = (framed_periodic row lawful).period_low

pub separation_high : (row : List ℕ) → framed_formulas.fault row ≡ 0 → slice_index row 0 ≤ largest_entry
separation_high row lawful = (framed_periodic row lawful).period_high

-- a lawful row's separation, count of frames and frames, for code that counts periods and frames
pub ruleset framed_bounds = (separation_low, separation_high, count_low, count_high, frame_high)
