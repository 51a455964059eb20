-- Functions whose value was changed at one point.
use Rattle.std.proofs.Common.{◌≡◌, ⊎_elim, ℕ, refl, sym, ap, ◌∙◌, subst}
use Rattle.std.specs.Prelude.{if◌then◌else◌}
use Rattle.std.proofs.lemmas.Bool.{cases_eq, eq-eqb, ne_eqb}
use Rattle.amo_safety_by_journals.specs.Model.{with_at}
use Rattle.amo_host.specs.declared.model.LogFile.{LogFile}
use Rattle.amo_host.specs.declared.model.LogFile.TheVariants.{Answers, Journal}
use Rattle.amo_program_safety.specs.World.{with_log}

pub at_number : {A : Type 0} (P : A → Type 0) (f : ℕ → A) (p : ℕ) (x : A) (q : ℕ) → (q ≡ p → P x) → ((q ≡ p → ⊥) → P (f q)) → P (with_at f p x q)
at_number P f p x q same other = ⊎_elim
    (λ (e : q ≡ p). subst (λ b. P (if b then x else f q)) (sym (eq-eqb q p e)) (same e))
    (λ (n : q ≡ p → ⊥). subst (λ b. P (if b then x else f q)) (sym (ne_eqb q p n)) (other n))
    (cases_eq q p)

pub at_it : {A : Type 0} (f : ℕ → A) (p : ℕ) (x : A) → with_at f p x p ≡ x
at_it f p x = ap (λ b. if b then x else f p) (eq-eqb p p refl)

pub at_other : {A : Type 0} (f : ℕ → A) (p : ℕ) (x : A) (q : ℕ) → (q ≡ p → ⊥) → with_at f p x q ≡ f q
at_other f p x q other = ap (λ b. if b then x else f q) (ne_eqb q p other)

pub log_it : {A : Type 0} (f : LogFile → A) (g : LogFile) (x : A) → with_log f g x g ≡ x
log_it f Answers x = refl
log_it f (Journal p) x = ap (λ b. if b then x else f (Journal p)) (eq-eqb p p refl)

pub log_other : {A : Type 0} (f : LogFile → A) (p : ℕ) (x : A) (q : ℕ) → (q ≡ p → ⊥) → with_log f (Journal p) x (Journal q) ≡ f (Journal q)
log_other f p x q other = ap (λ b. if b then x else f (Journal q)) (ne_eqb q p other)

-- A function stays as it is if its own value is put at one point.
pub log_same : {A : Type 0} (f : LogFile → A) (g h : LogFile) → with_log f g (f g) h ≡ f h
log_same f Answers Answers = refl
log_same f Answers (Journal q) = refl
log_same f (Journal p) Answers = refl
log_same f (Journal p) (Journal q) = ⊎_elim
    (λ (e : q ≡ p). ap (λ b. if b then f (Journal p) else f (Journal q)) (eq-eqb q p e) ∙ ap (λ k. f (Journal k)) (sym e))
    (λ (n : q ≡ p → ⊥). log_other f p (f (Journal p)) q n)
    (cases_eq q p)
