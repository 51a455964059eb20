-- `byte_of`: what its loop keeps and its promises, by the lemmas of Bytes.
use Rattle.std.proofs.Common.{arith, ◌≡◌, ◌+◌, ◌*◌, ap, sym, ◌∙◌, ℕ}
use Rattle.amo_sets.specs.Bits.{is_one}
use Rattle.amo_sets.specs.Rank.{count}
use Rattle.amo_sets.proofs.Bytes.{byte_step}
use Rattle.amo_sets.proofs.job_set.byte_of.Goals as goal

pub loop-b-preserved : goal.loop-b-preserved
loop-b-preserved c =
    let next : 8 * (c.loop-b.b + 1) ≡ 8 * c.loop-b.b + 8 = omega arith in
    let more = ap (λ (n : ℕ). count n (is_one c.args.word)) next ∙ byte_step c.args.word (8 * c.loop-b.b) in
    let above = c.if-left-here.false in
    record { before = omega (arith, c.loop-b.invariant.before); some = omega arith }

pub returns-clause-before : goal.returns-clause-before
returns-clause-before c =
    let at : c.loop-b.b ≡ 8 = omega arith in
    ap (λ (b : ℕ). count (8 * b) (is_one c.args.word) + c.loop-b.left) (sym at) ∙ c.loop-b.invariant.before
