-- `run_text`: the premises of its calls and its promises, by the lemmas of Answered.
use Rattle.amo_plan.specs.PlanSeen.{plan_seen}
use Rattle.amo_run_plan.proofs.Answered.{blocks_are_jobs, fits_heads, is_run_text}
use Rattle.amo_run_plan.proofs.running.run_text.Goals as goal

pub run_blocks-requires-clause-jobs : goal.run_blocks-requires-clause-jobs
run_blocks-requires-clause-jobs g c κs within = blocks_are_jobs (plan_seen c.args.plan) _ _ c.into_vec.ensures c.in_ok-blocks.ensures c.requires

pub outcome_text-requires : goal.outcome_text-requires
outcome_text-requires g c = fits_heads (plan_seen c.args.plan) _ c.requires (c.outcome_fits.ensures.fits _ _ _ _ c.in_ok-executed.ensures.is)

pub returns : goal.returns
returns g c = is_run_text (plan_seen c.args.plan) _ _ c.into_vec.ensures c.in_ok-blocks.ensures _ _ c.in_ok-executed.ensures _ c.in_ok-text.ensures
