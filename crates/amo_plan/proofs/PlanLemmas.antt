-- The tree of a text, by what the reader of TOML promises, and the plan of a tree, by its parts.
use Rattle.std.proofs.Common.{◌≡◌, ℕ, List, Some, None, Ok, Err, refl, sym, ap, ◌∙◌, inl, inr, length}
use Rattle.std.specs.Str.{is_utf8, IsUtf8}
use Rattle.std.proofs.lemmas.Bool.{cases_Bool}
use Rattle.std.proofs.lemmas.Str.{IsUtf8-from_is_utf8, is_utf8-from_IsUtf8}
use Rattle.toml.specs.Data.{Members}
use Rattle.toml.specs.Parse.{parse_document}
use Rattle.amo_plan.specs.declared.fault.PlanFault.TheVariants.{NotToml}
use Rattle.std.specs.Int.{div_ceil}
use Rattle.amo_params.specs.declared.givens.Givens.{Givens}
use Rattle.amo_params.specs.Givens.{givens_of}
use Rattle.amo_plan.specs.declared.job.Job.{Job}
use Rattle.amo_plan.specs.Top.{TopSeen, top_of}
use Rattle.amo_plan.specs.Jobs.{read_jobs}
use Rattle.amo_plan.specs.Plan.{document, or_bad_givens, plan_with, plan_in}

pub document_ok : (bytes : List ℕ) (t : Members) → IsUtf8 bytes → parse_document bytes ≡ Some t → document bytes ≡ Ok t
document_ok bytes t text read = rw (is_utf8-from_IsUtf8 bytes text, read) refl

pub document_refused : (bytes : List ℕ) → (IsUtf8 bytes → parse_document bytes ≡ None) → document bytes ≡ Err NotToml
document_refused bytes refused =
    elim (cases_Bool (is_utf8 bytes)) [
      | inl text ↦ rw (text, refused (IsUtf8-from_is_utf8 bytes text)) refl
      | inr other ↦ rw other refl
    ]

-- what the plan of a tree rests on
pub plan_in_is : (doc : Members) (top : TopSeen) (jobs : List Job) (givens : Givens) (n : ℕ) → n ≡ length jobs → top_of doc ≡ Ok top → read_jobs top.jobs ≡ Ok jobs → or_bad_givens (givens_of (div_ceil n top.form.block) top.workers top.beta) ≡ Ok givens → plan_in doc ≡ plan_with top givens jobs
unfolding plan_in
plan_in_is doc top jobs givens n count of_top of_jobs of_givens =
    let fine : or_bad_givens (givens_of (div_ceil (length jobs) top.form.block) top.workers top.beta) ≡ Ok givens =
    ap (λ (k : ℕ). or_bad_givens (givens_of (div_ceil k top.form.block) top.workers top.beta)) (sym count) ∙ of_givens in
    rw (of_top, of_jobs, fine) refl
