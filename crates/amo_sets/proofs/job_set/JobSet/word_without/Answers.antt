-- `JobSet::word_without`: the premises of its calls and its promises, by the lemmas of Shown and
-- Without.
use Rattle.std.proofs.Common.{rules, arith, not, ◌&&◌, ◌∙◌}
use Rattle.amo_sets.proofs.Shown.{length_of, bit_read}
use Rattle.amo_sets.proofs.Without.{and_not_bit}
use Rattle.amo_sets.proofs.job_set.JobSet.word_without.Goals as goal

pub index-requires : goal.index-requires
index-requires c = let n = length_of c.self.inside c.args.self.now c.self.view_is in omega (arith, c.self.invariant.size)

pub index-requires-2 : goal.index-requires-2
index-requires-2 c = let n = length_of c.other.inside c.args.other.now c.other.view_is in let same = c.requires.same in omega (arith, c.other.invariant.size)

pub returns : goal.returns
returns c r low high =
    let n = length_of c.self.inside c.args.self.now c.self.view_is in
    let m = length_of c.other.inside c.args.other.now c.other.view_is in
    let same = c.requires.same in
    let mine = bit_read c.self.inside c.args.self.now c.self.view_is c.self.invariant c.args.q c.index.result.now (omega (arith, c.self.invariant.size)) c.index.ensures r low high in
    let theirs = bit_read c.other.inside c.args.other.now c.other.view_is c.other.invariant c.args.q c.index-2.result.now (omega (arith, c.other.invariant.size)) c.index-2.ensures r low high in
    and_not_bit c.index.result.now c.index-2.result.now r (search rules) low high ∙ (λ i. mine i && not (theirs i))
