-- The questions that an edit asks of the ledger, in their order, each with what a no is refused with.
use Rattle.std.specs.Prelude.{◌≡◌, ℕ, ◌+◌, ◌<◌, ◌≤◌, ◌⊎◌, length}
use Rattle.loads.specs.Kind.{Kind}
use Rattle.ledger.specs.declared.edit.Edit.{Edit}
use Rattle.ledger.specs.declared.edit.Edit.TheVariants.{Insert, Withdraw, Section}
use Rattle.ledger.specs.declared.edit.Edit.TheVariants.{Mark as Marked}
use Rattle.ledger.specs.declared.fault.SetFault.{SetFault}
use Rattle.ledger.specs.declared.fault.SetFault.TheVariants.{Full, Position, Row, Deadline, Resource, Length, Unserved}
use Rattle.ledger.specs.Ledger.{Ledger, edited, most_tasks}
use Rattle.ledger.specs.Instants.{job, Servable}

-- questions in the order in which they are asked
pub data Questions : Type 1 where
  taken : Questions  -- nothing more is asked
  ask : Type 0 → SetFault → Questions → Questions  -- a question, what its no is refused with, and those after it

-- every answer is yes
abbrev pub AllYes : Questions → Type 0
AllYes taken = Unit {0}
AllYes (ask q f rest) = q × AllYes rest

-- the first no is refused with f
abbrev pub FirstNo : Questions → SetFault → Type 0
FirstNo taken f = ⊥
FirstNo (ask q g rest) f = ((q → ⊥) × (f ≡ g)) ⊎ (q × FirstNo rest f)

-- there is a task at the position
abbrev pub AtTask : Ledger → ℕ → Type 0
AtTask l p = (1 ≤ p) × (p ≤ length l.tasks)

-- a task can be put in at the position
abbrev pub AtGap : Ledger → ℕ → Type 0
AtGap l p = (1 ≤ p) × (p ≤ length l.tasks + 1)

-- there is such a resource
abbrev pub AtResource : ℕ → Type 0
AtResource j = (1 ≤ j) × (j ≤ 16)

-- one list of questions after another
infixr 20 ◌followed_by◌
abbrev pub ◌followed_by◌ : Questions → Questions → Questions
taken followed_by later = later
ask q f rest followed_by later = ask q f (rest followed_by later)

-- what an edit asks first, of the ledger alone: is there room, and are its position and its resource there?
abbrev pub places : Ledger → Edit → Questions
places l (Insert p row d) =
    ask (length l.tasks < most_tasks) Full
    (ask (AtGap l p) Position
    taken)
places l (Withdraw p) =
    ask (AtTask l p) Position
    taken
places l (Section p j n) =
    ask (AtTask l p) Position
    (ask (AtResource j) Resource
    taken)
places l (Marked j m) =
    ask (AtResource j) Resource
    taken

module _ (k : Kind) (s : ℕ → ℕ) where
  -- what it asks then, over a load kind and a supply
  abbrev pub judgement : Ledger → Edit → Questions
  judgement l (Insert p row d) =
      ask (k.fault row ≡ 0) (Row (record { entry = k.fault row }))
      (ask ((1 ≤ d) × (d ≤ k.separation row)) Deadline
      (ask (Servable k s (edited l (Insert p row d))) Unserved
      taken))
  judgement l (Withdraw p) = taken
  judgement l (Section p j n) =
      ask (n ≤ job k l p) Length
      (ask (Servable k s (edited l (Section p j n))) Unserved
      taken)
  judgement l (Marked j m) = taken

  -- all that it asks, in this order
  abbrev pub questions : Ledger → Edit → Questions
  questions l e = places l e followed_by judgement l e
