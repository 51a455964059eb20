-- `is_text`: its promises, by the lemmas of KnownLines.
use Rattle.std.proofs.Common.{◌∙◌}
use Rattle.amo_run_files.proofs.KnownLines.{text_is}
use Rattle.amo_run_files.proofs.known.is_text.Goals as goal

pub returns : goal.returns
returns c = c.is_ok.ensures.value ∙ text_is c.args.bytes.now c.from_utf8.result (λ x p. p.1) (λ e q. q.0) c.from_utf8.ensures.cases
