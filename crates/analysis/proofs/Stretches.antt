-- Stretches of instants over which requests stay the same: one row more.
use Rattle.std.proofs.Common.{◌≡◌, ℕ, ◌+◌, ◌<◌, ◌≤◌, min, List, [], ◌∷◌, ◌++◌, sym, refl, ap, ◌∙◌, ⊎_elim, arith}
use Rattle.std.proofs.lemmas.Bool.{cases_lt, cases_eq}
use Rattle.loads.specs.Kind.{Kind, Laws, Until, Lasts, horizon}
use Rattle.analysis.specs.Instants.{requests}
use Rattle.analysis.proofs.Totals.{requests_push, request_rises, requests_rise}

abbrev Rising : (ℕ → ℕ) → Type 0
Rising r = (t u : ℕ) → t ≤ u → r t ≤ r u

pub until_same : {limit t u : ℕ} {f g : ℕ → ℕ} → ((v : ℕ) → f v ≡ g v) → Until limit f t u → Until limit g t u
until_same {t = t} {u = u} same l = record {
  within = l.within;
  same = sym (same u) ∙ l.same ∙ same t;
  greatest = λ v above within e. l.greatest v above within (same v ∙ e ∙ sym (same t));
}

-- nothing asked for never changes
pub until_none : (limit t : ℕ) → Until limit (λ _. 0) t limit
until_none limit t = record { within = omega arith; same = refl; greatest = λ v above within e. omega arith }

module _ {limit t : ℕ} (within : t ≤ limit) where
  -- the last instant is not before the first
  pub until_after : {r : ℕ → ℕ} {u : ℕ} → Until limit r t u → t ≤ u
  until_after {u = u} l =
      ⊎_elim
      (λ (less : u < t). absurd (l.greatest t less within refl))
      (λ (more : t ≤ u). more)
      (cases_lt u t)

  module _ {r : ℕ → ℕ} (rising : Rising r) {u : ℕ} (l : Until limit r t u) where
    pub flat : (v : ℕ) → t ≤ v → v ≤ u → r v ≡ r t
    flat v low high = omega (arith, rising t v low, rising v u high, l.same)

    pub beyond : (v : ℕ) → u < v → v ≤ limit → r t < r v
    beyond v above high =
        ⊎_elim
        (λ (less : r t < r v). less)
        (λ (more : r v ≤ r t). absurd (l.greatest v above high (omega (arith, rising t v (omega (arith, until_after l))))))
        (cases_lt (r t) (r v))

  -- two together: the earlier change counts
  pub until_both : {f r : ℕ → ℕ} → Rising f → Rising r → {e u : ℕ} → Until limit f t e → Until limit r t u → Until limit (λ v. f v + r v) t (min e u)
  until_both f_rising r_rising {e} {u} l m =
      let after = until_after l in
      let after' = until_after m in
      record {
        within = omega (arith, l.within);
        same = omega (arith, flat f_rising l (min e u) (omega arith) (omega arith), flat r_rising m (min e u) (omega arith) (omega arith));
        greatest = λ v above within' same.
            ⊎_elim
            (λ (past : e < v). omega (arith, beyond f_rising l v past within', r_rising t v (omega arith)))
            (λ (more : v ≤ e). omega (arith, beyond r_rising m v (omega arith) within', f_rising t v (omega arith)))
            (cases_lt e v);
      }

  -- one row more
  pub stretch_push : {k : Kind} → Laws k → (rows : List (List ℕ)) (row : List ℕ) {e u : ℕ} → Until limit (requests k rows) t e → Until limit (k.request row) t u → Until limit (requests k (rows ++ row ∷ [])) t (min e u)
  stretch_push {k} laws rows row l m =
      until_same (λ v. sym (requests_push k rows row v))
      (until_both (requests_rise k laws rows) (request_rises k laws row) l m)

-- a row of which the kind answers an instant before t asks for the same to the end: it is unlawful, or t is past the horizon
pub never_changes : {k : Kind} → Laws k → (row : List ℕ) (t u : ℕ) → Lasts k row t u → u < t → Until horizon (k.request row) t horizon
never_changes {k} laws row t u lasts before = record {
  within = omega arith;
  same =
      ⊎_elim
      (λ (yes' : k.fault row ≡ 0).
      ⊎_elim
      (λ (late : horizon < t). let end : horizon ≡ min t horizon = omega arith in ap (k.request row) end ∙ sym (laws.late row t))
      (λ (early : t ≤ horizon). absurd (omega (arith, until_after early (lasts.lawful yes'))))
      (cases_lt horizon t))
      (λ (no' : k.fault row ≡ 0 → ⊥). let none = laws.unlawful row no' in none.no_request horizon ∙ sym (none.no_request t))
      (cases_eq (k.fault row) 0);
  greatest = λ v above within e. omega arith;
}
