-- What the ledger answers to each edit, and histories of edits.
use Rattle.std.specs.Prelude.{◌≡◌, ℕ, ◌<◌, List, [], ◌∷◌, Ok, Err, Result}
use Rattle.loads.specs.Kind.{Kind}
use Rattle.ledger.specs.declared.edit.Edit.{Edit}
use Rattle.ledger.specs.declared.fault.SetFault.{SetFault}
use Rattle.ledger.specs.Ledger.{Ledger, task, section, empty, edited}
use Rattle.ledger.specs.Instants.{Held, Least}
use Rattle.ledger.specs.Questions.{Questions, AllYes, FirstNo, AtTask, AtResource, places, questions}
use Rattle.ledger.specs.Sound.{Sound}

-- what an edit is answered
abbrev pub Answer : Type 0
Answer = Result (Unit {0}) SetFault

-- the answer to an edit by its questions, and the ledger m that it leaves of l
abbrev pub Answered : Questions → Ledger → Edit → Answer → Ledger → Type 0
Answered asked l e (Ok _) m = AllYes asked × (m ≡ edited l e)
Answered asked l e (Err f) m = FirstNo asked f × (m ≡ l)

-- an edit by its first questions alone, about room, position and resource
abbrev pub Entered : Ledger → Edit → Answer → Ledger → Type 0
Entered l e a m = Answered (places l e) l e a m

module _ (k : Kind) (s : ℕ → ℕ) where
  -- an edit by all its questions
  abbrev pub Step : Ledger → Edit → Answer → Ledger → Type 0
  Step l e a m = Answered (questions k s l e) l e a m

  -- a history: edits with their answers, the oldest first, from one ledger to another
  pub data History : Ledger → List Edit → List Answer → Ledger → Type 0 where
    start : {l : Ledger} → History l [] [] l
    then : {l m n : Ledger} {e : Edit} {a : Answer} {es : List Edit} {rs : List Answer} → Step l e a m → History m es rs n → History l (e ∷ es) (a ∷ rs) n

  -- the ledger l and the held table c are what the edits, so answered, leave of a new set
  pub record After (es : List Edit) (rs : List Answer) (l : Ledger) (c : List ℕ) : Type 0 where
    pub history : History empty es rs l  -- every edit was answered as the ledger answers it, and left what it should
    pub sound : Sound k l  -- numbers are within their limits
    pub least : Least k s l c  -- the held table is the least
    -- every user of a resource is through with its section at an instant
    pub held : (p j : ℕ) → AtTask l p → AtResource j → 0 < section (task l p) j → Held k s l c j (task l p)

  -- the law of histories: the edits are so answered and leave this ledger and table, and no other answers, ledger or table are possible
  pub record Law (es : List Edit) (rs : List Answer) (l : Ledger) (c : List ℕ) : Type 0 where
    pub after : After es rs l c
    pub no_other_history : (rs' : List Answer) (l' : Ledger) → History empty es rs' l' → (rs' ≡ rs) × (l' ≡ l)
    pub no_other_table : (c' : List ℕ) → Least k s l c' → c' ≡ c
