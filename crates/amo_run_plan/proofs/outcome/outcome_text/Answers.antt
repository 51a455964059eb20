-- `outcome_text`: its promises, by the lemmas of Fates.
use Rattle.std.proofs.Common.{◌++◌, ap, ◌∙◌}
use Rattle.amo_run_plan.specs.Became.{listed}
use Rattle.amo_run_plan.specs.Noted.{noted_fate}
use Rattle.amo_run_plan.specs.OutcomeTexts.{run_lines, fates_of}
use Rattle.amo_run_plan.proofs.Fates.{some_block, run_agrees}
use Rattle.amo_run_plan.proofs.outcome.outcome_text.Goals as goal

pub returns : goal.returns
returns c =
    let h = c.args.heads.now in
    let o = c.args.outcome.now in
    let notes = c.in_ok-notes.notes in
    let fates = noted_fate notes.outputs.now notes.filed.items notes.claimers.items in
    let claims = listed o.settlement.claims.items in
    let dones = listed o.settlement.dones.items in
    c.in_ok-push_run.ensures
    ∙ ap (λ l. l ++ run_lines h o.ends.items claims dones fates) c.new-out.ensures.bytes
    ∙ run_agrees h o.ends.items claims dones fates (fates_of o) (some_block h.version h.block c.requires.form) c.requires.blocks c.in_ok-notes.ensures.fates
