-- Questions in their order: all yes and a first no exclude each other, there is one first no, and a no among the first questions is a no to all.
use Rattle.std.proofs.Common.{◌≡◌, ℕ, sym, ◌∙◌, inl, inr}
use Rattle.loads.specs.Kind.{Kind}
use Rattle.ledger.specs.declared.edit.Edit.{Edit}
use Rattle.ledger.specs.declared.fault.SetFault.{SetFault}
use Rattle.ledger.specs.Ledger.{Ledger}
use Rattle.ledger.specs.Questions.{Questions, taken, ask, AllYes, FirstNo, ◌followed_by◌, places, judgement, questions}

-- where every answer is yes, there is no first no
pub not_both : (asked : Questions) (f : SetFault) → AllYes asked → FirstNo asked f → ⊥
not_both taken f yes' no' = no'
not_both (ask q g rest) f (yes', later) (inl (no', is)) = no' yes'
not_both (ask q g rest) f (yes', later) (inr (again, no')) = not_both rest f later no'

-- there is one first no
pub one_first_no : (asked : Questions) (f g : SetFault) → FirstNo asked f → FirstNo asked g → f ≡ g
one_first_no taken f g no' again = absurd no'
one_first_no (ask q h rest) f g (inl (no', is)) (inl (again, is')) = is ∙ sym is'
one_first_no (ask q h rest) f g (inl (no', is)) (inr (yes', later)) = absurd (no' yes')
one_first_no (ask q h rest) f g (inr (yes', later)) (inl (no', is)) = absurd (no' yes')
one_first_no (ask q h rest) f g (inr (yes', later)) (inr (again, later')) = one_first_no rest f g later later'

first_no_before : (a b : Questions) (f : SetFault) → FirstNo a f → FirstNo (a followed_by b) f
first_no_before taken b f no' = absurd no'
first_no_before (ask q g rest) b f (inl no') = inl no'
first_no_before (ask q g rest) b f (inr (yes', later)) = inr (yes', first_no_before rest b f later)

-- an edit that is refused by its first questions is refused
pub refused_early : (k : Kind) (s : ℕ → ℕ) (l : Ledger) (e : Edit) (f : SetFault) → FirstNo (places l e) f → FirstNo (questions k s l e) f
refused_early k s l e f no' = first_no_before (places l e) (judgement k s l e) f no'
