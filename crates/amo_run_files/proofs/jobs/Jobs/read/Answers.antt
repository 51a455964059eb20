-- `Jobs::read`: what its type keeps and its promises, by the lemmas of Cuts and KeptJobs.
use Rattle.std.proofs.Common.{◌<◌, ◌≢◌, ◌++◌, List, ℕ, length, sym, ap, subst, ◌∙◌, All, AllPairs}
use Rattle.amo_run_log.specs.Texts.{ended}
use Rattle.amo_run_files.specs.Lines.{lines_in, remainder_in, ends_of}
use Rattle.amo_run_files.specs.Refusals.{IsTaken}
use Rattle.amo_run_files.proofs.Cuts.{whole}
use Rattle.amo_run_files.proofs.KeptJobs.{AreRead, are_read}
use Rattle.amo_run_files.proofs.jobs.Jobs.read.Goals as goal
use Rattle.amo_run_files.proofs.jobs.Jobs.read.Goals.{After-truncate}

read_so : (c : After-truncate) → AreRead c.args.bytes.items c.args.cut c.truncate.new.self.items c.in_ok-ends.ends.items
read_so c =
    let file = c.args.bytes.items in
    let ends = c.in_ok-ends.ensures ∙ ap (λ (bs : List ℕ). ends_of 0 (lines_in bs)) c.deref.ensures.value in
    are_read file c.args.cut c.truncate.new.self.items c.in_ok-ends.ends.items c.last_end.result ends
    (subst (λ (bs : List ℕ). IsTaken bs c.args.cut) c.deref-2.ensures.value c.in_ok-check.ensures.taken) (c.last_end.ensures (lines_in file) (c.deref-4.ensures.value ∙ ends)) c.truncate.ensures.items

pub invariant_of-result : goal.invariant_of-result
invariant_of-result c = (read_so c).kept

pub returns-clause-lines : goal.returns-clause-lines
returns-clause-lines c = (read_so c).lines

pub returns-clause-front : goal.returns-clause-front
returns-clause-front c = ap (λ (ls : List (List ℕ)). ended ls ++ remainder_in c.args.bytes.items) (read_so c).lines ∙ whole c.args.bytes.items

pub returns-clause-whole : goal.returns-clause-whole
returns-clause-whole c uncut = ap ended (read_so c).lines ∙ (read_so c).whole uncut

pub returns-clause-distinct : goal.returns-clause-distinct
returns-clause-distinct c = subst (λ (ls : List (List ℕ)). AllPairs (λ one other. one ≢ other) ls) (sym (read_so c).lines) (read_so c).jobs.distinct

pub returns-clause-none_empty : goal.returns-clause-none_empty
returns-clause-none_empty c = subst (λ (ls : List (List ℕ)). All (λ line. 0 < length line) ls) (sym (read_so c).lines) (λ k d lt. ((read_so c).jobs.each k d lt).some)
