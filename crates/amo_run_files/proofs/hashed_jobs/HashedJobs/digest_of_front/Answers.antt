-- `HashedJobs::digest_of_front`: what its type keeps and its promises, by the lemmas of Again.
use Rattle.std.proofs.Common.{◌-◌, ◌++◌, List, ℕ, length, take, drop, sym, ap, subst, ◌∙◌, arith}
use Rattle.sha2.specs.Hashers.{Holds256}
use Rattle.sha2.specs.declared.Sha256.{Sha256}
use Rattle.amo_run_log.specs.Texts.{ended}
use Rattle.amo_run_files.proofs.Again.{hashed_on}
use Rattle.amo_run_files.proofs.hashed_jobs.HashedJobs.digest_of_front.Goals as goal
use Rattle.amo_run_files.proofs.hashed_jobs.HashedJobs.digest_of_front.Goals.{After-update}

holds : (c : After-update) → Holds256 c.update.new.self (take c.args.len (ended c.self.inside.jobs))
holds c =
    let jobs = ended c.self.inside.jobs in
    let hashed = c.self.inside.hashed in
    subst (λ (m : List ℕ). Holds256 c.update.new.self m)
    (ap (λ (bs : List ℕ). take hashed jobs ++ take (c.args.len - hashed) (drop hashed bs)) c.bytes-2.ensures ∙ hashed_on jobs hashed c.args.len (omega (arith, c.if-len-self.false)))
    (c.update.ensures (take hashed jobs) c.self.invariant.1)

pub invariant_of-self-2 : goal.invariant_of-self-2
invariant_of-self-2 c =
    (omega (arith, c.requires, ap (λ (js : List (List ℕ)). length (ended js)) c.self.view_is), holds (goal.at.invariant_of-self-2 c).After-update)

pub returns-clause-digest : goal.returns-clause-digest
returns-clause-digest c =
    c.digits_of.ensures (take c.args.len (ended c.args.self.now))
    (subst (λ (js : List (List ℕ)). Holds256 c.in_ok-clone.field-0 (take c.args.len (ended js))) c.self.view_is
    (subst (λ (h : Sha256). Holds256 h (take c.args.len (ended c.self.inside.jobs))) (sym c.in_ok-clone.ensures.cases) (holds (goal.at.returns-clause-digest c).After-update)))
