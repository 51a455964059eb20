-- `parts_of`: its promises, by the lemmas of Words.
use Rattle.std.proofs.Common.{rules, tests}
use Rattle.std.proofs.lemmas.Iterator.Consumers.{map_from_collect}
use Rattle.std.proofs.lemmas.Iterator.Splits.{YieldsList-from_slice_split}
use Rattle.std.proofs.lemmas.Result.{IfOk-weaker}
use Rattle.amo_call_log_judge.proofs.Words.{some_parts}
use Rattle.amo_call_log_judge.proofs.lines.parts_of.Goals as goal

pub returns-clause-parts : goal.returns-clause-parts
returns-clause-parts c = map_from_collect _ c.collect.ensures.ran (YieldsList-from_slice_split _ _ c.args.text.now c.split.ensures.rest c.split.ensures.done c.split.ensures.closure (λ x r q k. search (rules, tests)))

pub returns-clause-some : goal.returns-clause-some
returns-clause-some c = IfOk-weaker c.collect.result _ _ (λ parts is. some_parts (λ part. part.now) parts.items c.args.text.now is) (returns-clause-parts c)
