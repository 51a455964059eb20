-- `keep_only`: its promises, directly from definitions and clauses.
use Rattle.std.proofs.Common.{rules}
use Rattle.std.proofs.lemmas.Fn.{filter_same}
use Rattle.amo_mailbox.specs.declared.output.Output.{Output}
use Rattle.amo_mailbox.specs.Endpoints.{has_worker}
use Rattle.amo_mailbox.proofs.gather.keep_only.Goals as goal

pub returns-clause-items : goal.returns-clause-items
returns-clause-items g c = filter_same _ (λ (x : Output g.row.Out.Denot). has_worker c.args.outlets.now x.worker) _ (λ x b q h. (search rules, search rules)) _ _ c.retain.ensures.filtered
