-- `Jobs::line`: its promises, by the lemmas of Ends and KeptJobs.
use Rattle.std.proofs.Common.{◌-◌, [], List, ℕ, length, get_or, ap, ◌∙◌, arith}
use Rattle.amo_run_files.specs.Lines.{lines_in}
use Rattle.amo_run_files.proofs.Ends.{length_ends}
use Rattle.amo_run_files.proofs.KeptJobs.{line_is, no_line_0, no_line_past}
use Rattle.amo_run_files.proofs.jobs.Jobs.line.Goals as goal
use Rattle.amo_run_files.proofs.jobs.Jobs.line.Goals.{then-number-eq0-via-then-number-eq0, then-number-eq0-via-else-number-eq0+then-number-len}

pub returns-then-number-eq0 : goal.returns-then-number-eq0
returns-then-number-eq0 c = elim c.then-number-eq0.branch [
  | then-number-eq0-via-then-number-eq0 w ↦ no_line_0 c.args.self.now c.args.number w.if-number-eq0.true
  | then-number-eq0-via-else-number-eq0+then-number-len w ↦ no_line_past c.args.self.now c.args.number
      (omega (arith, w.len.ensures, w.if-number-len.true, c.self.inside.ends.ok.0, ap length c.self.invariant.ends, length_ends 0 (lines_in c.self.inside.bytes.items), ap length c.self.view_is))
]

pub returns : goal.returns
returns c =
    let number = c.args.number in
    line_is c.args.self.now number c.line_at.result.now (omega (arith, c.if-number-eq0.false))
    (omega (arith, c.len.ensures, c.if-number-len.false, c.self.inside.ends.ok.0, ap length c.self.invariant.ends, length_ends 0 (lines_in c.self.inside.bytes.items), ap length c.self.view_is))
    (c.line_at.ensures ∙ ap (λ (bs : List ℕ). get_or (lines_in bs) (number - 1) []) c.deref.ensures.value ∙ ap (λ (ls : List (List ℕ)). get_or ls (number - 1) []) c.self.view_is)
