-- `check_jobs`: what its loop keeps and its promises, by the lemmas of NamesLemmas.
use Rattle.std.proofs.Common.{rules, ◌≡◌, ap, ◌∙◌, [], ◌∷◌, Err}
use Rattle.std.specs.Prelude.{◌≢◌, is_some}
use Rattle.amo_plan.specs.declared.fault.PlanFault.TheVariants.{NoMemory}
use Rattle.amo_plan.specs.Tree.{is_known}
use Rattle.amo_plan.specs.Jobs.{fine_jobs}
use Rattle.amo_plan.proofs.NamesLemmas.{fine_more, fine_stop, has_more}
use Rattle.amo_plan.proofs.naming.check_jobs.Goals as goal

pub returns-in_err-check_job : goal.returns-in_err-check_job
returns-in_err-check_job c =
    let (earlier, finds, decide) = c.loop-i.invariant in
    let known : c.is_some.result ≡ is_known earlier c.index-jobs-i.result.name = c.is_some.ensures ∙ ap is_some c.in_ok-other.ensures.old ∙ finds c.as_str-name.result.now ∙ ap (is_known earlier) c.as_str-name.ensures in
    let stop : c.in_err-check_job.field-0.0 ≢ NoMemory → fine_jobs [] 1 c.args.jobs.now ≡ Err c.in_err-check_job.field-0.0 =
    λ h. fine_stop c.args.jobs.now c.loop-i.i earlier c.index-jobs-i.result _ _ _ c.loop-i-test.true c.index-jobs-i.is known c.ordinal_of.ensures (c.in_err-check_job.ensures h) decide in
    search (rules, stop)

pub loop-i-preserved : goal.loop-i-preserved
loop-i-preserved c =
    let (earlier, finds, decide) = c.loop-i.invariant in
    let known : c.is_some.result ≡ is_known earlier c.index-jobs-i.result.name = c.is_some.ensures ∙ ap is_some c.in_ok-other.ensures.old ∙ finds c.as_str-name.result.now ∙ ap (is_known earlier) c.as_str-name.ensures in (
      c.index-jobs-i.result.name ∷ earlier,
      has_more c.loop-i.names c.insert.new.self earlier c.index-jobs-i.result.name (rw c.as_str-name.ensures at c.in_ok-other.ensures.updates) finds,
      fine_more c.args.jobs.now c.loop-i.i earlier c.index-jobs-i.result _ _ _ c.loop-i-test.true c.index-jobs-i.is known c.ordinal_of.ensures c.in_ok-check_job.ensures decide,
    )
