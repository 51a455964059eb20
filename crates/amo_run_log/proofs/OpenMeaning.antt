-- A line is open exactly if each intent of it is answered by an outcome that opens it, or was found
-- undone.
use Rattle.std.proofs.Common.{◌≡◌, ◌⊎◌, inl, inr, ⊎_elim, ℕ, zero, suc, ◌+◌, Bool, true, false, ◌&&◌, ◌||◌, List, [], ◌∷◌, Some, refl, sym, ap, subst, ◌∙◌, arith}
use Rattle.std.specs.Prelude.{not, ◌==◌, slice_get}
use Rattle.std.proofs.lemmas.Bool.Decides.{nat_tests}
use Rattle.amo_run_log.specs.declared.journal.Attempt.{Attempt}
use Rattle.amo_run_log.specs.declared.finding.Finding.{Finding}
use Rattle.amo_run_log.specs.Findings.{is_undone}
use Rattle.amo_run_log.specs.Open.{reopens, closes, any_closes, closed_by, is_open, IsOpen}
use Rattle.amo_run_log.proofs.Words.{equal}

is_equal : (a b : ℕ) → (a == b) ≡ true → a ≡ b
is_equal a b h = grind (arith, nat_tests)

neither : (s t : Bool) → (s || t) ≡ false → (s ≡ false) × (t ≡ false)
neither true t h = absurd (cc)
neither false t h = (refl, h)

both : (s t : Bool) → s ≡ false → t ≡ false → (s || t) ≡ false
both s t hs ht = ap (λ b. b || t) hs ∙ ht

reason : (r f : Bool) → not (r || f) ≡ false → (r ≡ true) ⊎ (f ≡ true)
reason true f h = inl refl
reason false true h = inr refl
reason false false h = absurd (cc)

excused : (m r f : Bool) → (m ≡ true → (r ≡ true) ⊎ (f ≡ true)) → (m && not (r || f)) ≡ false
excused false r f h = refl
excused true true f h = refl
excused true false true h = refl
excused true false false h = absurd (⊎_elim (λ x. differ x) (λ x. differ x) (h refl))
  where
    differ : false ≡ true → ⊥
    differ e = cc

module _ (findings : List Finding) (line : ℕ) where
  abbrev Opened : ℕ → ℕ → Attempt → Type 0
  Opened worker serial e = (reopens e.answer ≡ true) ⊎ (is_undone findings worker serial ≡ true)

  each_opened : (worker : ℕ) (es : List Attempt) (serial s : ℕ) (e : Attempt) → any_closes findings worker serial es line ≡ false → slice_get es s ≡ Some e → e.line ≡ line → Opened worker (serial + s) e
  each_opened worker [] serial s e shut at is = absurd (cc)
  each_opened worker (d ∷ es) serial zero e shut at is =
      let (here, rest) = neither (closes findings worker serial d line) (any_closes findings worker (serial + 1) es line) shut in
      let same : d ≡ e = cc in
      let number : serial ≡ serial + 0 = omega arith in
      let of_line : (d.line == line) ≡ true = equal d.line line (ap (λ (x : Attempt). x.line) same ∙ is) in
      let why : Opened worker serial d = reason (reopens d.answer) (is_undone findings worker serial) (sym (ap (λ m. m && not (reopens d.answer || is_undone findings worker serial)) of_line) ∙ here) in
      subst (λ (n : ℕ). Opened worker n e) number (subst (λ (x : Attempt). Opened worker serial x) same why)
  each_opened worker (d ∷ es) serial (suc s) e shut at is =
      let (here, rest) = neither (closes findings worker serial d line) (any_closes findings worker (serial + 1) es line) shut in
      let number : (serial + 1) + s ≡ serial + suc s = omega arith in
      subst (λ (n : ℕ). Opened worker n e) number (each_opened worker es (serial + 1) s e rest at is)

  all_opened : (worker : ℕ) (es : List Attempt) (serial : ℕ) → ((s : ℕ) (e : Attempt) → slice_get es s ≡ Some e → e.line ≡ line → Opened worker (serial + s) e) → any_closes findings worker serial es line ≡ false
  all_opened worker [] serial each = refl
  all_opened worker (e ∷ es) serial each =
      let first : serial + 0 ≡ serial = omega arith in
      both (closes findings worker serial e line) (any_closes findings worker (serial + 1) es line)
      (excused (e.line == line) (reopens e.answer) (is_undone findings worker serial) (λ m. subst (λ (n : ℕ). Opened worker n e) first (each 0 e refl (is_equal e.line line m))))
      (all_opened worker es (serial + 1) (λ s d at is. let number : serial + suc s ≡ (serial + 1) + s = omega arith in subst (λ (n : ℕ). Opened worker n d) number (each (suc s) d at is)))

  in_each : (journals : List (List Attempt)) (worker p s : ℕ) (es : List Attempt) (e : Attempt) → closed_by findings worker journals line ≡ false → slice_get journals p ≡ Some es → slice_get es s ≡ Some e → e.line ≡ line → Opened (worker + p) (1 + s) e
  in_each [] worker p s es e shut journal at is = absurd (cc)
  in_each (j ∷ journals) worker zero s es e shut journal at is =
      let (here, rest) = neither (any_closes findings worker 1 j line) (closed_by findings (worker + 1) journals line) shut in
      let same : j ≡ es = cc in
      let number : worker ≡ worker + 0 = omega arith in
      subst (λ (n : ℕ). Opened n (1 + s) e) number (each_opened worker es 1 s e (ap (λ x. any_closes findings worker 1 x line) (sym same) ∙ here) at is)
  in_each (j ∷ journals) worker (suc p) s es e shut journal at is =
      let (here, rest) = neither (any_closes findings worker 1 j line) (closed_by findings (worker + 1) journals line) shut in
      let number : (worker + 1) + p ≡ worker + suc p = omega arith in
      subst (λ (n : ℕ). Opened n (1 + s) e) number (in_each journals (worker + 1) p s es e rest journal at is)

  in_all : (journals : List (List Attempt)) (worker : ℕ) → ((p s : ℕ) (es : List Attempt) (e : Attempt) → slice_get journals p ≡ Some es → slice_get es s ≡ Some e → e.line ≡ line → Opened (worker + p) (1 + s) e) → closed_by findings worker journals line ≡ false
  in_all [] worker each = refl
  in_all (j ∷ journals) worker each =
      both (any_closes findings worker 1 j line) (closed_by findings (worker + 1) journals line)
      (all_opened worker j 1 (λ s e at is. let number : worker + 0 ≡ worker = omega arith in subst (λ (n : ℕ). Opened n (1 + s) e) number (each 0 s j e refl at is)))
      (in_all journals (worker + 1) (λ p s es e journal at is. let number : worker + suc p ≡ (worker + 1) + p = omega arith in subst (λ (n : ℕ). Opened n (1 + s) e) number (each (suc p) s es e journal at is)))

  pub law_open : (journals : List (List Attempt)) → is_open findings journals line ≡ true → IsOpen findings journals line
  law_open journals is_it p s es e journal at is =
      let w : 1 + p ≡ p + 1 = omega arith in
      let n : 1 + s ≡ s + 1 = omega arith in
      subst (λ (x : ℕ). Opened x (s + 1) e) w (subst (λ (x : ℕ). Opened (1 + p) x e) n (in_each journals 1 p s es e (shut (closed_by findings 1 journals line) is_it) journal at is))
    where
      shut : (b : Bool) → not b ≡ true → b ≡ false
      shut true h = absurd (cc)
      shut false h = refl

  pub law_is_open : (journals : List (List Attempt)) → IsOpen findings journals line → is_open findings journals line ≡ true
  law_is_open journals each =
      ap not (in_all journals 1 (λ p s es e journal at is.
      let w : p + 1 ≡ 1 + p = omega arith in
      let n : s + 1 ≡ 1 + s = omega arith in
      subst (λ (x : ℕ). Opened x (1 + s) e) w (subst (λ (x : ℕ). Opened (p + 1) x e) n (each p s es e journal at is))))
