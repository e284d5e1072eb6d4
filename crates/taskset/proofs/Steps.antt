-- Each way in which an edit ends, as a step of any history.
use Rattle.std.proofs.Common.{◌≡◌, ℕ, ◌≤◌, List, [], ◌∷◌, ◌++◌, IsErrAnd, Ok, Err, sym, refl, ap, ◌∙◌, subst, inl, inr, arith}
use Rattle.loads.specs.declared.rows.RowFault.{RowFault}
use Rattle.loads.specs.Kind.{Kind, Laws}
use Rattle.loads.specs.Rows.{Judged}
use Rattle.ledger.specs.declared.edit.Edit.{Edit}
use Rattle.ledger.specs.declared.edit.Edit.TheVariants.{Insert, Section}
use Rattle.ledger.specs.declared.fault.SetFault.{SetFault}
use Rattle.ledger.specs.declared.fault.SetFault.TheVariants.{Row, Unserved}
use Rattle.ledger.specs.History.{Answer, Step, After, Entered}
use Rattle.ledger.specs.Instants.{job, slack, Servable}
use Rattle.ledger.specs.Ledger.{Ledger, edited}
use Rattle.ledger.specs.Questions.{AllYes, FirstNo, questions}
use Rattle.ledger.specs.Settled.{lowest_table}
use Rattle.ledger.specs.Sound.{Sound}
use Rattle.ledger.proofs.Histories.{after_refused, after_taken}
use Rattle.ledger.proofs.Kept.{insert_sound, section_sound}
use Rattle.table.specs.declared.table.Table.{Table}
use Rattle.table.specs.Tables.{ledger, held}
use Rattle.taskset.specs.Reckoning.{Settled, Served}
use Rattle.taskset.specs.Sets.{GoesOn}

-- a refusal that is passed on
pub passed_on : (r : Answer) (f : SetFault) → IsErrAnd r (λ g. g ≡ f) → r ≡ Err f
passed_on (Ok _) f h = absurd h
passed_on (Err g) f h = ap Err h

-- the table that an edit, so answered after its last question, leaves
abbrev pub left_by : Table → Answer → Table → Table
left_by t (Ok _) u = u
left_by t (Err f) u = t

module _ (k : Kind) (s : ℕ → ℕ) where
  -- an edit as a step of the ledger, where its numbers are within their limits, and as a step of any history
  abbrev pub Turn : Edit → Answer → Table → Table → Type 0
  Turn e a t u = (Sound k (ledger t) → Step k s (ledger t) e a (ledger u)) × GoesOn k s e a t u

  pub refused : (e : Edit) (f : SetFault) (t : Table) → (Sound k (ledger t) → FirstNo (questions k s (ledger t) e) f) → Turn e (Err f) t t
  refused e f t no' = (λ ok. (no' ok, refl), λ es rs st. after_refused e f st (no' st.sound))

  -- the entry at fault stands in the refusal
  pub row_refused : (p : ℕ) (row : List ℕ) (d : ℕ) (f : RowFault) (t x : Table) → Entered (ledger t) (Insert p row d) (Ok tt) (ledger x) → Judged (k.fault row) (Err f) → Turn (Insert p row d) (Err (Row f)) t t
  row_refused p row d f t x ((room, (gap, _)), is) (entry, some) =
      let fault : RowFault = record { entry = k.fault row } in
      let same : Row fault ≡ Row f = ap (λ n. Row (record { entry = n })) entry in
      subst (λ g. Turn (Insert p row d) (Err g) t t) same
      (refused (Insert p row d) (Row fault) t (λ _. inr (room, inr (gap, inl ((λ lawful. omega arith), refl)))))

  module _ (laws : Laws k) where
    -- taken, and the ceilings settled
    pub taken : (e : Edit) (t x u : Table) → ledger x ≡ edited (ledger t) e → (Sound k (ledger t) → AllYes (questions k s (ledger t) e)) → Settled k s x u → Turn e (Ok tt) t u
    taken e t x u is yes' settled =
        let m : Ledger = edited (ledger t) e in
        let entries : ledger u ≡ m = settled.entries ∙ is in
        let ceilings : lowest_table (slack k s m) m ≡ held u = ap (λ l. lowest_table (slack k s l) l) (sym is) ∙ sym settled.ceilings in (
          λ ok. (yes' ok, entries),
          λ es rs st.
              subst (λ c. After k s (es ++ e ∷ []) (rs ++ Ok tt ∷ []) (ledger u) c) ceilings
              (subst (λ l. After k s (es ++ e ∷ []) (rs ++ Ok tt ∷ []) l (lowest_table (slack k s m) m)) (sym entries) (after_taken laws e st (yes' st.sound))),
        )

    -- answered by its last question, whether some ceilings serve
    module _ (e : Edit) (t x : Table) (is : ledger x ≡ edited (ledger t) e) (kept : Sound k (ledger t) → Sound k (edited (ledger t) e)) where
      abbrev CanServe : Type 0
      CanServe = Servable k s (edited (ledger t) e)

      sound : Sound k (ledger t) → Sound k (ledger x)
      sound ok = subst (Sound k) (sym is) (kept ok)

      asked_last : (u : Table) (a : Answer) → (CanServe → AllYes (questions k s (ledger t) e)) → ((CanServe → ⊥) → FirstNo (questions k s (ledger t) e) Unserved) → Served k s x a u → Turn e a t (left_by t a u)
      asked_last u (Ok _) yes' no' (settled, serves) = taken e t x u is (λ ok. yes' (subst (Servable k s) is (serves (sound ok)))) settled
      asked_last u (Err f) yes' no' (which, same, unserved) =
          subst (λ g. Turn e (Err g) t t) (sym which)
          (refused e Unserved t (λ ok. no' (λ can. unserved (sound ok) (subst (Servable k s) (sym is) can))))

    pub insert_asked : (p : ℕ) (row : List ℕ) (d : ℕ) (t x u : Table) (a : Answer) → Entered (ledger t) (Insert p row d) (Ok tt) (ledger x) → k.fault row ≡ 0 → (1 ≤ d) × (d ≤ k.separation row) → Served k s x a u → Turn (Insert p row d) a t (left_by t a u)
    insert_asked p row d t x u a ((room, (gap, _)), is) lawful deadline =
        asked_last (Insert p row d) t x is (insert_sound k (ledger t) p row d room gap lawful deadline) u a
        (λ can. (room, (gap, (lawful, (deadline, (can, tt))))))
        (λ cannot. inr (room, inr (gap, inr (lawful, inr (deadline, inl (cannot, refl))))))

    pub section_asked : (p j n : ℕ) (t x u : Table) (a : Answer) → Entered (ledger t) (Section p j n) (Ok tt) (ledger x) → n ≤ job k (ledger t) p → Served k s x a u → Turn (Section p j n) a t (left_by t a u)
    section_asked p j n t x u a ((at, (resource, _)), is) short =
        asked_last (Section p j n) t x is (section_sound k (ledger t) p j n at short) u a
        (λ can. (at, (resource, (short, (can, tt)))))
        (λ cannot. inr (at, inr (resource, inr (short, inl (cannot, refl)))))
