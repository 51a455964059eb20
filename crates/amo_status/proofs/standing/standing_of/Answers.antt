-- `standing_of`: its promises, by the lemmas of Noting.
use Rattle.std.proofs.Common.{Vec, Global, map, ◌∙◌}
use Rattle.amo_run_log.specs.declared.journal.Attempt.{Attempt}
use Rattle.amo_status.proofs.Noting.{decides_all}
use Rattle.amo_status.proofs.standing.standing_of.Goals as goal

pub returns : goal.returns
returns c = c.decided_by_all.ensures ∙ decides_all c.args.log.now.findings.now c.args.log.now.finals.now 1 (map (λ (v : Vec Attempt Global). v.items) c.args.log.now.journals.now) c.args.line
