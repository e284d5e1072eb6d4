-- What an edit that is taken keeps: the ledger stays sound, and can still be served.
use Rattle.std.proofs.Common.{◌≡◌, ℕ, suc, ◌+◌, ◌-◌, ◌<◌, ◌≤◌, List, ◌++◌, length, get_or, take, drop, replicate, sym, refl, ap, ◌∙◌, subst, ⊎_elim, arith, length-set}
use Rattle.std.proofs.lemmas.List.Edits.{length-insert, get_or-insert_below, get_or-insert_at, get_or-insert_above, length-remove}
use Rattle.std.proofs.lemmas.List.{get_or-set_same, get_or-set_other, get_or-replicate, get_or_past, set_past}
use Rattle.std.proofs.lemmas.Bool.{cases_eq}
use Rattle.loads.specs.Kind.{Kind}
use Rattle.analysis.proofs.Extremes.{by_lt}
use Rattle.ledger.specs.declared.edit.Edit.{Edit}
use Rattle.ledger.specs.declared.edit.Edit.TheVariants.{Insert, Withdraw, Section}
use Rattle.ledger.specs.declared.edit.Edit.TheVariants.{Mark as Marked}
use Rattle.ledger.specs.declared.edit.Mark.{Mark}
use Rattle.ledger.specs.Ledger.{Task, Ledger, task, no_task, section, most_tasks, fresh, with_section, edited}
use Rattle.ledger.specs.Ceilings.{ceiling}
use Rattle.ledger.specs.Instants.{job, Servable}
use Rattle.ledger.specs.Questions.{AllYes, AtTask, AtGap, questions}
use Rattle.ledger.specs.Sound.{Sound, SoundTask}
use Rattle.ledger.proofs.Serving.{servable_iff}
use Rattle.ledger.proofs.Withdrawn.{without, moved, task_moved, without_bearable}

-- a table of sixteen zeros has 0 for every resource
pub zeros : (j : ℕ) → ceiling (replicate 16 0) j ≡ 0
zeros j = by_lt (j - 1) 16 (λ u. get_or-replicate 16 (j - 1) 0 0 u) (λ u. get_or_past (replicate 16 0) (j - 1) 0 u)

-- what holds of the new length and of the old ones holds of each
set_section : (x : Task) (j n i : ℕ) (P : ℕ → Type 0) → P n → P (section x i) → P (section (with_section x j n) i)
set_section x j n i P new old =
    ⊎_elim
    (λ (e : i - 1 ≡ j - 1). by_lt (j - 1) (length x.lengths)
    (λ u. rw (e, get_or-set_same x.lengths (j - 1) n 0 u) new)
    (λ u. rw (set_past x.lengths (j - 1) n u) old))
    (λ (e : i - 1 ≡ j - 1 → ⊥). rw (get_or-set_other x.lengths (j - 1) (i - 1) n 0 e) old)
    (cases_eq (i - 1) (j - 1))

withdraw_is : (l : Ledger) (p : ℕ) → 1 ≤ p → edited l (Withdraw p) ≡ without l (p - 1)
withdraw_is l p low =
    let next : p ≡ suc (p - 1) = omega arith in
    ap (λ n. record { tasks = take (p - 1) l.tasks ++ drop n l.tasks; marks = l.marks }) next

-- ---- sound

module _ (k : Kind) where
  fresh_sound : (row : List ℕ) (d : ℕ) → k.fault row ≡ 0 → 1 ≤ d → d ≤ k.separation row → SoundTask k (fresh row d)
  fresh_sound row d lawful low high = record {
    lawful = lawful;
    deadline_low = low;
    deadline_high = high;
    sixteen = refl;
    short = λ j. omega (arith, zeros j);
  }

  -- a lawful task is put in
  pub insert_sound : (l : Ledger) (p : ℕ) (row : List ℕ) (d : ℕ) → length l.tasks < most_tasks → AtGap l p → k.fault row ≡ 0 → (1 ≤ d) × (d ≤ k.separation row) → Sound k l → Sound k (edited l (Insert p row d))
  insert_sound l p row d room (low, high) lawful (dl, dh) ok = record {
    each = λ i il ih.
        by_lt i p
        (λ u. rw (get_or-insert_below l.tasks (p - 1) (fresh row d) no_task (i - 1) (omega arith) (omega arith)) (ok.each i il (omega arith)))
        (λ u. by_lt p i
        (λ v.
        let here : i - 1 ≡ i - 1 - 1 + 1 = omega arith in
        let moved : task (edited l (Insert p row d)) i ≡ task l (i - 1) = ap (λ n. get_or (edited l (Insert p row d)).tasks n no_task) here ∙ get_or-insert_above l.tasks (p - 1) (fresh row d) no_task (i - 1 - 1) (omega arith) (omega arith) in
        subst (SoundTask k) (sym moved) (ok.each (i - 1) (omega arith) (omega (arith, size))))
        (λ v.
        let here : i ≡ p = omega arith in
        rw (here, get_or-insert_at l.tasks (p - 1) (fresh row d) no_task (omega arith)) (fresh_sound row d lawful dl dh)));
    few = omega (arith, size);
    marked = ok.marked;
  }
    where
      size : length (edited l (Insert p row d)).tasks ≡ suc (length l.tasks)
      size = omega (arith, length-insert l.tasks (p - 1) (fresh row d) (omega arith))

  -- a section no longer than the task's longest job is set
  pub section_sound : (l : Ledger) (p j n : ℕ) → AtTask l p → n ≤ job k l p → Sound k l → Sound k (edited l (Section p j n))
  section_sound l p j n (low, high) brief ok = record {
    each = λ i il ih.
        let size = length-set l.tasks (p - 1) (with_section (task l p) j n) in
        ⊎_elim
        (λ (e : i - 1 ≡ p - 1). rw (e, get_or-set_same l.tasks (p - 1) (with_section (task l p) j n) no_task (omega arith)) changed)
        (λ (e : i - 1 ≡ p - 1 → ⊥). rw (get_or-set_other l.tasks (p - 1) (i - 1) (with_section (task l p) j n) no_task e) (ok.each i il (omega arith)))
        (cases_eq (i - 1) (p - 1));
    few = omega (arith, length-set l.tasks (p - 1) (with_section (task l p) j n), ok.few);
    marked = ok.marked;
  }
    where
      changed : SoundTask k (with_section (task l p) j n)
      changed =
          let old = ok.each p low high in
          record {
            lawful = old.lawful;
            deadline_low = old.deadline_low;
            deadline_high = old.deadline_high;
            sixteen = length-set (task l p).lengths (j - 1) n ∙ old.sixteen;
            short = λ i. set_section (task l p) j n i (λ v. v ≤ job k l p) brief (old.short i);
          }

  without_sound : (l : Ledger) (q : ℕ) → q < length l.tasks → Sound k l → Sound k (without l q)
  without_sound l q h ok = record {
    each = λ i low high.
        let (n, m) = moved q i in
        let size = length-remove l.tasks q h in
        rw (task_moved l q h i n low m) (ok.each n (omega arith) (omega arith));
    few = omega (arith, length-remove l.tasks q h, ok.few);
    marked = ok.marked;
  }

  pub withdraw_sound : (l : Ledger) (p : ℕ) → AtTask l p → Sound k l → Sound k (edited l (Withdraw p))
  withdraw_sound l p (low, high) ok = subst (Sound k) (sym (withdraw_is l p low)) (without_sound l (p - 1) (omega arith) ok)

  pub mark_sound : (l : Ledger) (j : ℕ) (m : Mark) → Sound k l → Sound k (edited l (Marked j m))
  mark_sound l j m ok = record { each = ok.each; few = ok.few; marked = length-set l.marks (j - 1) m ∙ ok.marked }

module _ (k : Kind) (s : ℕ → ℕ) where
  -- an edit that is taken leaves a sound ledger
  pub sound_kept : (l : Ledger) (e : Edit) → Sound k l → AllYes (questions k s l e) → Sound k (edited l e)
  sound_kept l (Insert p row d) ok (room, (place, (lawful, (deadline, _)))) = insert_sound k l p row d room place lawful deadline ok
  sound_kept l (Withdraw p) ok (place, _) = withdraw_sound k l p place ok
  sound_kept l (Section p j n) ok (place, (resource, (brief, _))) = section_sound k l p j n place brief ok
  sound_kept l (Marked j m) ok _ = mark_sound k l j m ok

  -- ---- can be served

  -- a task less asks for no more
  pub withdraw_servable : (l : Ledger) (p : ℕ) → AtTask l p → Sound k l → Servable k s l → Servable k s (edited l (Withdraw p))
  withdraw_servable l p (low, high) ok h =
      let bearable = without_bearable k s l (p - 1) (omega arith) ((servable_iff k s l ok).0 h) in
      subst (Servable k s) (sym (withdraw_is l p low)) ((servable_iff k s (without l (p - 1)) (without_sound k l (p - 1) (omega arith) ok)).1 bearable)

  -- marks do not matter
  pub mark_servable : (l : Ledger) (j : ℕ) (m : Mark) → Sound k l → Servable k s l → Servable k s (edited l (Marked j m))
  mark_servable l j m ok h =
      let whole = (servable_iff k s l ok).0 h in
      (servable_iff k s (edited l (Marked j m)) (mark_sound k l j m ok)).1 (record { slack_left = whole.slack_left; borne = whole.borne })

  -- an edit that is taken leaves a ledger that can be served
  pub servable_kept : (l : Ledger) (e : Edit) → Sound k l → Servable k s l → AllYes (questions k s l e) → Servable k s (edited l e)
  servable_kept l (Insert p row d) ok h (room, (place, (lawful, (deadline, (served, _))))) = served
  servable_kept l (Withdraw p) ok h (place, _) = withdraw_servable l p place ok h
  servable_kept l (Section p j n) ok h (place, (resource, (brief, (served, _)))) = served
  servable_kept l (Marked j m) ok h _ = mark_servable l j m ok h
