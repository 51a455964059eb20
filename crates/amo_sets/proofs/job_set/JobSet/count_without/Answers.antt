-- `JobSet::count_without`: no overflow, the premises of its calls, what its loop keeps and its
-- promises, by the lemmas of Shown, Tally and Without.
use Rattle.std.proofs.Common.{rules, arith, ◌*◌, ◌+◌, ◌∙◌, sym}
use Rattle.amo_sets.specs.Bits.{is_without}
use Rattle.amo_sets.proofs.Shown.{length_of}
use Rattle.amo_sets.proofs.Tally.{tally-zero}
use Rattle.amo_sets.proofs.Without.{word_counted, few_without, all_without}
use Rattle.amo_sets.proofs.job_set.JobSet.count_without.Goals as goal

pub loop-q-init : goal.loop-q-init
loop-q-init c = sym (tally-zero (is_without c.args.self.now c.args.other.now))

pub word_without-requires-clause-within : goal.word_without-requires-clause-within
word_without-requires-clause-within c = let n = length_of c.self.inside c.args.self.now c.self.view_is in omega (arith, c.self.invariant.size)

pub overflow_add-total : goal.overflow_add-total
overflow_add-total c =
    let n = length_of c.self.inside c.args.self.now c.self.view_is in
    let step = word_counted c.args.self.now c.args.other.now c.loop-q.q c.word_without.result c.word_without.ensures (search rules) in
    let most = few_without c.args.self.now c.args.other.now (64 * (c.loop-q.q + 1)) in
    omega (arith, c.self.invariant.small)

pub loop-q-preserved : goal.loop-q-preserved
loop-q-preserved c =
    let step = word_counted c.args.self.now c.args.other.now c.loop-q.q c.word_without.result c.word_without.ensures (search rules) in omega arith

pub returns : goal.returns
returns c =
    let n = length_of c.self.inside c.args.self.now c.self.view_is in
    c.loop-q.invariant ∙ all_without c.args.self.now c.args.other.now c.loop-q.q (omega (arith, c.self.invariant.size))
