-- `written_moves_are_worst`: its promises, directly from definitions and clauses.
use Rattle.amo_worst_case.proofs.laws.written_moves_are_worst.Goals as goal

pub returns : goal.returns
returns c = λ p. c.worst_moves_are_worst.ensures p.givens
