-- `lines_digest`: what its loop keeps, by the lemma of Attempts.
use Rattle.std.proofs.Common.{◌++◌, ℕ, List, take, sym, ap, subst, ◌∙◌}
use Rattle.sha2.specs.Hashers.{Holds256}
use Rattle.amo_call_log.specs.Shown.{lines_text}
use Rattle.amo_call_log.proofs.Attempts.{lines_text-more}
use Rattle.amo_call_log.proofs.shown.lines_digest.Goals as goal

pub hashing-preserved : goal.hashing-preserved
hashing-preserved c =
    let before : List ℕ = lines_text (take c.hashing.attempt-index c.args.attempts.now) in
    let line = c.as_bytes.ensures.value ∙ c.in_ok-format.ensures.ok in
    let P : List ℕ → Type 0 = λ m. Holds256 c.update.new.self m in
    subst P (ap (λ l. before ++ l) line ∙ sym (lines_text-more c.args.attempts.now c.hashing.attempt-index _ c.hashing-test.true)) (c.update.ensures before c.hashing.invariant)
