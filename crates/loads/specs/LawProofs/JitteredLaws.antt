-- A jittered kind keeps the laws of kinds, by the laws of the kind below alone.
use Rattle.std.specs.Prelude.{◌≡◌, ℕ, ◌+◌, ◌<◌, ◌≤◌, List, refl}
use Rattle.std.proofs.Common.{◌∙◌, arith, get_or-set_other}
use Rattle.std.proofs.lemmas.Bool.Decides.{nat_tests}
use Rattle.loads.specs.Kind.{Kind, Load, Laws, largest_entry}
use Rattle.loads.specs.Jittered.{jittered, jittered_formulas, jittered_fault, jitter, row_below}
use Rattle.loads.specs.LawProofs.Guarded.{Formulas, FormulaLaws, guarded_laws}

module _ (k : Kind) (laws : Laws k) where
  pub entry_named : (row : List ℕ) → jittered_fault k row ≤ 8
  entry_named row = let below = laws.entry (row_below row) in grind (arith, nat_tests)

  module _ (row : List ℕ) (lawful : jittered_fault k row ≡ 0) where
    pub lawful_below : k.fault (row_below row) ≡ 0
    lawful_below = grind (arith, nat_tests)

    pub jitter_small : jitter row < k.separation (row_below row)
    jitter_small = grind (arith, nat_tests)

    pub load : Load k (row_below row)
    load = laws.lawful (row_below row) lawful_below

    pub jitter_under : jitter row < largest_entry
    jitter_under = omega (arith, jitter_small, load.separation_high)

    abbrev pub asks : ℕ → ℕ
    asks t = (jittered_formulas k).request row t

    -- from the first tick on
    pub asks_is : (t : ℕ) → 1 ≤ t → asks t ≡ k.request (row_below row) (t + jitter row)
    asks_is t some = grind (arith, nat_tests)

    pub jittered_lawful : Formulas (jittered_formulas k) row
    jittered_lawful =
        let small = jitter_small in
        record {
          starts = refl;
          rises = λ t u le fits. grind (arith, nat_tests, load.rises (t + jitter row) (u + jitter row));
          bounded = λ t fits. grind (arith, nat_tests, load.bounded (t + jitter row));
          longest_low = load.longest_low;
          longest_high = load.longest_high;
          separation_low = omega arith;
          separation_high = omega (arith, load.separation_high);
          first_job = λ t low high. asks_is t low ∙ load.first_job (t + jitter row) (omega arith) (omega arith);
          small = λ i less. grind (arith, get_or-set_other row 7 i 0 0, load.small i less, load.separation_high);
        }

  pub jittered_formula_laws : FormulaLaws (jittered_formulas k)
  jittered_formula_laws = record { lawful = jittered_lawful; entry = entry_named }

  -- a jittered kind keeps the laws of kinds, over any kind that does
  pub jittered_laws : Laws (jittered k)
  jittered_laws = guarded_laws (jittered_formulas k) jittered_formula_laws
