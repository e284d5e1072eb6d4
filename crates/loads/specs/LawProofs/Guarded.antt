-- A kind that is made from formulas keeps the laws of kinds, once the formulas keep theirs on lawful rows up to the horizon.
use Rattle.std.specs.Prelude.{◌≡◌, ℕ, ◌<◌, ◌≤◌, min, ◌≢◌, List, slice_index}
use Rattle.std.proofs.Common.{ap, arith}
use Rattle.std.proofs.lemmas.Bool.Decides.{nat_tests}
use Rattle.loads.specs.Kind.{Kind, Until, Load, NoLoad, Laws, guarded, if_lawful, horizon, largest_entry, most_work}

-- the guard, by cases
pub lawful_is : (k : Kind) (row : List ℕ) (x : ℕ) → k.fault row ≡ 0 → if_lawful k row x ≡ x
lawful_is k row x e = grind (arith, nat_tests)

pub unlawful_is : (k : Kind) (row : List ℕ) (x : ℕ) → k.fault row ≢ 0 → if_lawful k row x ≡ 0
unlawful_is k row x e = grind (arith, nat_tests)

-- what the formulas of a kind keep on a lawful row
pub record Formulas (k : Kind) (row : List ℕ) : Type 0 where
  pub starts : k.request row 0 ≡ 0
  pub rises : (t u : ℕ) → t ≤ u → u ≤ horizon → k.request row t ≤ k.request row u
  pub bounded : (t : ℕ) → t ≤ horizon → k.request row t ≤ most_work
  pub longest_low : 1 ≤ k.longest row
  pub longest_high : k.longest row ≤ largest_entry
  pub separation_low : 1 ≤ k.separation row
  pub separation_high : k.separation row ≤ largest_entry
  pub first_job : (t : ℕ) → 1 ≤ t → t ≤ k.separation row → k.request row t ≡ k.longest row
  pub small : (i : ℕ) → i < 8 → slice_index row i ≤ largest_entry

module _ (k : Kind) (row : List ℕ) where
  guarded_load : k.fault row ≡ 0 → Formulas k row → Load (guarded k) row
  guarded_load e f = record {
    starts = grind (arith, nat_tests, f.starts);
    rises = λ t u le. grind (arith, nat_tests, f.rises (min t horizon) (min u horizon));
    bounded = λ t. grind (arith, nat_tests, f.bounded (min t horizon));
    longest_low = grind (arith, nat_tests, f.longest_low);
    longest_high = grind (arith, nat_tests, f.longest_high);
    separation_low = grind (arith, nat_tests, f.separation_low);
    separation_high = grind (arith, nat_tests, f.separation_high);
    first_job = λ t low high. grind (arith, nat_tests, f.separation_high, f.first_job t low);
    small = f.small;
  }

  guarded_no_load : k.fault row ≢ 0 → NoLoad (guarded k) row
  guarded_no_load e = record {
    no_request = λ t. grind (arith, nat_tests);
    no_longest = grind (arith, nat_tests);
    no_separation = grind (arith, nat_tests);
  }

-- what the formulas of a kind keep
pub record FormulaLaws (k : Kind) : Type 0 where
  pub lawful : (row : List ℕ) → k.fault row ≡ 0 → Formulas k row
  pub entry : (row : List ℕ) → k.fault row ≤ 8

pub guarded_laws : (k : Kind) → FormulaLaws k → Laws (guarded k)
guarded_laws k laws = record {
  lawful = λ row e. guarded_load k row e (laws.lawful row e);
  unlawful = guarded_no_load k;
  entry = laws.entry;
  late = λ row t. ap (λ u. if_lawful k row (k.request row u)) (omega arith);
}

-- an instant is the last with its request where it is so by the formulas
pub guarded_until : (k : Kind) (row : List ℕ) (t u : ℕ) → k.fault row ≡ 0 → Until horizon (k.request row) (min t horizon) u → Until horizon ((guarded k).request row) t u
guarded_until k row t u e l =
    let at : (v : ℕ) → (guarded k).request row v ≡ k.request row (min v horizon) = λ v. lawful_is k row (k.request row (min v horizon)) e in
    let inside : (v : ℕ) → v ≤ horizon → k.request row (min v horizon) ≡ k.request row v = λ v h. ap (k.request row) (omega arith) in
    record {
      within = l.within;
      same = omega (arith, at u, at t, inside u l.within, l.same);
      greatest = λ v above fits same. l.greatest v above fits (omega (arith, at v, at t, inside v fits));
    }
