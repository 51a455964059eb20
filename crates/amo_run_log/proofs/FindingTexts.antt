-- The text that is printed of a finding is read as that finding, and a text that is read was
-- printed so.
use Rattle.std.proofs.Common.{◌≡◌, ⊎_elim, ℕ, ◌^◌, ◌<◌, List, ◌∷◌, ◌++◌, Some, None, refl, sym, ap, subst, ◌∙◌}
use Rattle.std.specs.Prelude.{codes, option_and_then}
use Rattle.std.specs.Fmt.{decimal}
use Rattle.std.specs.Str.{IsAscii, IsUtf8}
use Rattle.std.proofs.lemmas.Str.{IsAscii-append}
use Rattle.amo_run_log.specs.declared.finding.Finding.{Finding}
use Rattle.amo_run_log.specs.declared.finding.Resolution.{Resolution}
use Rattle.amo_run_log.specs.declared.finding.Resolution.TheVariants.{Done, NotDone}
use Rattle.amo_run_log.specs.Numbers.{three_in}
use Rattle.amo_run_log.specs.Findings.{word_of, text_of_finding, FitsFinding, verdict_in, finding_of_word, finding_in}
use Rattle.amo_run_log.proofs.Readings.{no_text_by}
use Rattle.amo_run_log.proofs.Words.{word_reads, printed_by, three_reads, and_then_some, three_printed, either_word, ascii_by_test, three_ascii}

-- what is printed is read

by_verdict : (v : Resolution) (p s t : ℕ) → p < 2 ^ 64 → s < 2 ^ 64 → t < 2 ^ 64 → finding_in (text_of_finding (record { verdict = v; worker = p; serial = s; time = t })) ≡ Some (record { verdict = v; worker = p; serial = s; time = t })
by_verdict Done p s t fp fs ft = word_reads finding_of_word (codes "done") (decimal p ++ 32 ∷ (decimal s ++ 32 ∷ decimal t)) refl
    ∙ ap (λ o. option_and_then (λ (n : ℕ × ℕ × ℕ). Some (record { verdict = Done; worker = n.0; serial = n.1; time = n.2 })) o) (three_reads p s t fp fs ft)
by_verdict NotDone p s t fp fs ft = word_reads finding_of_word (codes "not-done") (decimal p ++ 32 ∷ (decimal s ++ 32 ∷ decimal t)) refl
    ∙ ap (λ o. option_and_then (λ (n : ℕ × ℕ × ℕ). Some (record { verdict = NotDone; worker = n.0; serial = n.1; time = n.2 })) o) (three_reads p s t fp fs ft)

pub finding_reads : (f : Finding) → FitsFinding f → finding_in (text_of_finding f) ≡ Some f
finding_reads f fits = by_verdict f.verdict f.worker f.serial f.time fits.0 fits.1 fits.2

-- what is read was printed so

verdict_printed : (w : List ℕ) (v : Resolution) → verdict_in w ≡ Some v → w ≡ word_of v
verdict_printed w v h = ⊎_elim (λ p. p.0 ∙ ap word_of p.1) (λ p. p.0 ∙ ap word_of p.1) (either_word w (codes "done") (codes "not-done") Done NotDone v h)

word_printed : (w r : List ℕ) (f : Finding) → finding_of_word w r ≡ Some f → (text_of_finding f ≡ w ++ 32 ∷ r) × FitsFinding f
word_printed w r f h =
    let (v, is_v, more) = and_then_some _ (verdict_in w) f h in
    let (n, read, same) = and_then_some _ (three_in r) f more in
    let p = three_printed r n read in
    let is : record { verdict = v; worker = n.0; serial = n.1; time = n.2 } ≡ f = cc in
    subst (λ (x : Finding). (text_of_finding x ≡ w ++ 32 ∷ r) × FitsFinding x) is (ap (λ x. word_of v ++ 32 ∷ x) p.0 ∙ ap (λ x. x ++ 32 ∷ r) (sym (verdict_printed w v is_v)), (p.1, p.2, p.3))

pub finding_printed : (text : List ℕ) (f : Finding) → finding_in text ≡ Some f → (text_of_finding f ≡ text) × FitsFinding f
finding_printed = printed_by text_of_finding FitsFinding finding_of_word word_printed

ascii_word : (v : Resolution) → IsAscii (word_of v ++ codes " ")
ascii_word Done = ascii_by_test (codes "done ") refl
ascii_word NotDone = ascii_by_test (codes "not-done ") refl

ascii : (v : Resolution) (r : List ℕ) → IsAscii r → IsAscii (word_of v ++ 32 ∷ r)
ascii Done r is = IsAscii-append (codes "done ") r (ascii_word Done) is
ascii NotDone r is = IsAscii-append (codes "not-done ") r (ascii_word NotDone) is

-- bytes that are not UTF-8 say no finding
pub no_text : (bytes : List ℕ) → ¬ (IsUtf8 bytes) → None ≡ finding_in bytes
no_text = no_text_by text_of_finding FitsFinding finding_in finding_printed (λ f fits. ascii f.verdict _ (three_ascii f.worker f.serial f.time fits.0 fits.1 fits.2))
