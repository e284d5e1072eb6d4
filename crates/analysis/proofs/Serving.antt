-- Instants that are passed over: from t on, no work is covered until the supply reaches what is asked for at t.
use Rattle.std.proofs.Common.{◌≡◌, ℕ, ◌+◌, ◌<◌, ◌≤◌, Bool, false, List, length, take, Some, None, Option, ⊎_elim, arith}
use Rattle.std.proofs.lemmas.Bool.{cases_lt, le-leb, lt-leb}
use Rattle.loads.specs.Kind.{Kind}
use Rattle.loads.specs.Kind.{Laws as KindLaws}
use Rattle.supplies.specs.Supplied.{Reached, last_instant}
use Rattle.supplies.specs.Supplied.{Laws as SupplyLaws}
use Rattle.analysis.specs.Extremes.{first, Earliest}
use Rattle.analysis.specs.Instants.{requests, work_of, covered}
use Rattle.analysis.proofs.Extremes.{earliest_unique}
use Rattle.analysis.proofs.Supplying.{supply_rises, supply_last, supply_bounded}
use Rattle.analysis.proofs.Totals.{requests_rise, requests_of_some, requests_all}

-- no instant before t passes the test
abbrev pub NoneBefore : (ℕ → Bool) → ℕ → Type 0
NoneBefore p t = (v : ℕ) → 1 ≤ v → v < t → p v ≡ false

-- r is the first of the instants from 1 to n that pass the test, by the definition and as a relation
abbrev pub IsFirst : (ℕ → Bool) → ℕ → Option ℕ → Type 0
IsFirst p n r = record { is : r ≡ first p 1 n; earliest : Earliest p n r }

is_first : (p : ℕ → Bool) (n : ℕ) (r : Option ℕ) → Earliest p n r → IsFirst p n r
is_first p n r earliest = record { is = earliest_unique p n r earliest; earliest = earliest }

-- none up to t, which is past the last one
pub none_within : (p : ℕ → Bool) (n t : ℕ) → NoneBefore p t → n < t → IsFirst p n None
none_within p n t before past = is_first p n None (λ v some within. before v some (omega arith))

module _ {k : Kind} (kind : KindLaws k) {s : ℕ → ℕ} (supply : SupplyLaws s) (above : List (List ℕ)) (base : ℕ) where
  abbrev test : ℕ → Bool
  test = covered k s above base

  -- what some of the rows, the first i, ask for at t
  module _ (i : ℕ) {t asked : ℕ} (before : NoneBefore test t) (asks : asked ≡ base + requests k (take i above) t) where
    -- an instant at which the supply has not reached it
    short : (v : ℕ) → 1 ≤ v → s v < asked → test v ≡ false
    short v some less =
        ⊎_elim
        (λ (early : v < t). before v some early)
        (λ (late : t ≤ v). lt-leb (work_of k above base v) (s v) (omega (arith, requests_of_some k above i t, requests_rise k kind above t v late)))
        (cases_lt v t)

    -- the supply never reaches it
    pub none_covered : (n : ℕ) → s last_instant < asked → IsFirst test n None
    none_covered n less = is_first test n None (λ v some within. short v some (omega (arith, supply_last s supply v)))

    -- it is more than any supply gives
    pub none_by_some : (n : ℕ) → last_instant < asked → IsFirst test n None
    none_by_some n more = none_covered n (omega (arith, supply_bounded s supply last_instant))

    -- the supply reaches it at u
    pub none_until : {u : ℕ} → Reached s asked u → NoneBefore test u
    none_until reached v some less = short v some (reached.before v less)

    -- the supply has reached what all of the rows ask for by t
    pub covered_at : (n : ℕ) {u : ℕ} → length above ≤ i → Reached s asked u → u ≤ t → 1 ≤ t → t ≤ n → IsFirst test n (Some t)
    covered_at n {u} all reached by_then from to =
        is_first test n (Some t) record {
          from = from;
          to = to;
          hit = le-leb (work_of k above base t) (s t) (omega (arith, requests_all k above i t all, reached.reaches, supply_rises s supply u t by_then));
          before = before;
        }
