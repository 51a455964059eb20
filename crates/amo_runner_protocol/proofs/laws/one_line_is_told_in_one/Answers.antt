-- `one_line_is_told_in_one`: its promises, by the lemmas of Words (amo_run_log) and SayingTexts.
use Rattle.std.proofs.Common.{refl}
use Rattle.std.specs.Prelude.{codes}
use Rattle.amo_run_log.proofs.Words.{lacks_by_test}
use Rattle.amo_runner_protocol.proofs.SayingTexts.{is_one_line}
use Rattle.amo_runner_protocol.proofs.laws.one_line_is_told_in_one.Goals as goal

pub returns-clause-perform : goal.returns-clause-perform
returns-clause-perform c s l t fs fl one = is_one_line (codes "perform") s l t (lacks_by_test 10 (codes "perform") refl) fs fl one

pub returns-clause-was : goal.returns-clause-was
returns-clause-was c s l t fs fl one = is_one_line (codes "was") s l t (lacks_by_test 10 (codes "was") refl) fs fl one

pub returns-clause-over : goal.returns-clause-over
returns-clause-over c = (codes "over", refl, lacks_by_test 10 (codes "over") refl)
