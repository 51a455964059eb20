-- `AttemptsByLine::standing`: its promises, by the lemmas of ByLine.
use Rattle.std.proofs.Common.{◌≡◌, ◌∙◌, ℕ, List, Vec, Global, true, ap, subst}
use Rattle.std.specs.List.{list_any}
use Rattle.amo_run_log.specs.declared.clearance.AttemptId.{AttemptId}
use Rattle.amo_run_log.specs.declared.journal.Attempt.{Attempt}
use Rattle.amo_run_log.specs.ByLine.{is_id, listed}
use Rattle.amo_run_log.specs.Clearance.{IsAttempt}
use Rattle.amo_run_log.proofs.ByLine.{AreFrom, attempts_in, clear_if_none, ids_in, opened_before}
use Rattle.amo_run_log.proofs.attempts_by_line.AttemptsByLine.standing.Goals as goal
use Rattle.amo_run_log.proofs.attempts_by_line.AttemptsByLine.standing.Goals.{After-first_standing}

from : (c : After-first_standing) → AreFrom c.args.findings.now (attempts_in c.args.self.now.journals.items) c.args.own c.args.line c.listed_for-ids.result.now c.first_standing.result
from c = subst (λ (l : List (Vec Attempt Global)). AreFrom c.args.findings.now (attempts_in l) c.args.own c.args.line c.listed_for-ids.result.now c.first_standing.result) c.deref-2.ensures.value c.first_standing.ensures.first

all : (c : After-first_standing) (worker serial : ℕ) (e : Attempt) → IsAttempt (attempts_in c.args.self.now.journals.items) c.args.line worker serial e → list_any (is_id worker serial) c.listed_for-ids.result.now ≡ true
all c worker serial e a =
    ap (list_any (is_id worker serial)) (c.listed_for-ids.ensures ∙ ap (λ (l : List (Vec AttemptId Global)). listed (ids_in l) c.args.line) c.deref.ensures.value)
    ∙ c.args.self.now.indexed c.args.line worker serial e a

pub returns-clause-clear : goal.returns-clause-clear
returns-clause-clear c =
    let d = goal.at.returns-clause-clear c in
    clear_if_none c.args.findings.now (attempts_in c.args.self.now.journals.items) c.args.own c.args.line c.listed_for-ids.result.now c.first_standing.result (from d.After-first_standing) (all d.After-first_standing)

pub returns-clause-first : goal.returns-clause-first
returns-clause-first c =
    let d = goal.at.returns-clause-first c in
    opened_before c.args.findings.now (attempts_in c.args.self.now.journals.items) c.args.own c.args.line c.listed_for-ids.result.now c.first_standing.result (from d.After-first_standing) (all d.After-first_standing)
