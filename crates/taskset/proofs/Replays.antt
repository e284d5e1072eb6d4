-- A history replayed edit by edit.
use Rattle.std.proofs.Common.{◌≡◌, ℕ, ◌+◌, ◌<◌, ◌≤◌, List, [], ◌∷◌, ◌++◌, length, get_or, take, drop, set, sym, refl, ap, ◌∙◌, subst, arith, take_all}
use Rattle.std.proofs.lemmas.List.{take_more, take_more_set, drop-drop, drop-set-lt, length-set}
use Rattle.loads.specs.declared.kind.LoadKind.{Ghosts as Kinds}
use Rattle.supplies.specs.declared.supply.Supply.{Ghosts as Supplies}
use Rattle.ledger.specs.declared.edit.Edit.{Edit}
use Rattle.ledger.specs.History.{Answer, Law}
use Rattle.ledger.proofs.Histories.{law}
use Rattle.table.specs.Tables.{ledger, held}
use Rattle.taskset.specs.declared.set.TaskSet.{TaskSet}
use Rattle.taskset.specs.Sets.{Edited, ReplayedSet}
use Rattle.taskset.specs.Standing.{Stands}

-- a fact about two values holds of equal ones
moved : {A B : Type 0} (P : A → B → Type 0) (a a' : A) (b b' : B) → a ≡ a' → b ≡ b' → P a b → P a' b'
moved P a a' b b' e f h = subst (λ y. P a' y) f (subst (λ x. P x b) e h)

module _ {K S : Type 0} (kinds : Kinds K) (supplies : Supplies S) (es : List Edit) (new : TaskSet K S kinds supplies) (before : List Answer) where
  -- the first i edits have been made, and their answers written
  pub record Replaying (now : TaskSet K S kinds supplies) (after : List Answer) (i : ℕ) : Type 0 where
    pub kind : now.kind ≡ new.kind
    pub supply : now.supply ≡ new.supply
    pub room : length after ≡ length before
    pub stands : Stands (kinds.means now.kind) (supplies.gives now.supply) (take i es) (take i after) now.table
    pub rest : drop i after ≡ drop i before

  module _ (k : K) (s : S) (of_kind : new.kind ≡ k) (of_supply : new.supply ≡ s) where
    pub replaying_start : Stands (kinds.means k) (supplies.gives s) [] [] new.table → Replaying new before 0
    replaying_start st = record {
      kind = refl;
      supply = refl;
      room = refl;
      stands = moved (λ x y. Stands (kinds.means x) (supplies.gives y) [] [] new.table) k new.kind s new.supply (sym of_kind) (sym of_supply) st;
      rest = refl;
    }

    pub replaying_all : (now : TaskSet K S kinds supplies) (after : List Answer) (i : ℕ) → i ≡ length es → Replaying now after i → ReplayedSet kinds supplies k s es now before after
    replaying_all now after i end h =
        let kind : now.kind ≡ k = h.kind ∙ of_kind in
        let supply : now.supply ≡ s = h.supply ∙ of_supply in
        let all : take i es ≡ es = take_all i es (omega arith) in
        record {
          of_kind = kind;
          of_supply = supply;
          law = subst (λ n. Law (kinds.means k) (supplies.gives s) es (take n after) (ledger now.table) (held now.table)) end
              (moved (λ x y. Law (kinds.means x) (supplies.gives y) es (take i after) (ledger now.table) (held now.table)) now.kind k now.supply s kind supply
              (law (subst (λ xs. Stands (kinds.means now.kind) (supplies.gives now.supply) xs (take i after) now.table) all h.stands)));
          rest = subst (λ n. drop n after ≡ drop n before) end h.rest;
        }

  -- one edit more
  pub replaying_more : (now next : TaskSet K S kinds supplies) (after : List Answer) (a : Answer) (i : ℕ) (d : Edit) → i < length es → length es ≤ length before → Edited kinds supplies (get_or es i d) a now next → Replaying now after i → Replaying next (set after i a) (i + 1)
  replaying_more now next after a i d here room edited h =
      let within : i < length after = omega (arith, h.room) in
      let answers : take (i + 1) (set after i a) ≡ take i after ++ a ∷ [] = take_more_set after i a within in
      record {
        kind = edited.kind ∙ h.kind;
        supply = edited.supply ∙ h.supply;
        room = length-set after i a ∙ h.room;
        stands = moved (λ x y. Stands (kinds.means x) (supplies.gives y) (take (i + 1) es) (take (i + 1) (set after i a)) next.table) now.kind next.kind now.supply next.supply (sym edited.kind) (sym edited.supply)
            (moved (λ xs rs. Stands (kinds.means now.kind) (supplies.gives now.supply) xs rs next.table) (take i es ++ get_or es i d ∷ []) (take (i + 1) es) (take i after ++ a ∷ []) (take (i + 1) (set after i a)) (sym (take_more es i d here)) (sym answers)
            (edited.goes_on (take i es) (take i after) h.stands));
        rest = drop-set-lt (i + 1) after i a (omega arith) ∙ sym (drop-drop 1 i after) ∙ ap (drop 1) h.rest ∙ drop-drop 1 i before;
      }
