-- `words_fill_their_file`: its promises, by the lemmas of Counts.
use Rattle.std.proofs.Common.{ℕ, ◌+◌, ◌*◌, ap, ◌∙◌}
use Rattle.amo_run_files.proofs.Counts.{many}
use Rattle.amo_run_files.proofs.laws.words_fill_their_file.Goals as goal

pub returns-clause-many : goal.returns-clause-many
returns-clause-many c givens workers are each = many givens.jobs workers each ∙ ap (λ (m : ℕ). m * (givens.jobs + 3) + 1) are
