-- `JobSet::words`: its promises, by the lemmas of Shown.
use Rattle.std.proofs.Common.{◌≡◌, ◌+◌, ◌/◌, ℕ, List, length, ap, ◌∙◌, sym, arith}
use Rattle.amo_sets.specs.Bits.{bit}
use Rattle.amo_sets.proofs.Shown.{length_of, bits_are}
use Rattle.amo_sets.proofs.job_set.JobSet.words.Goals as goal

pub returns-clause-len : goal.returns-clause-len
returns-clause-len c =
    let size : length c.self.inside.words.items ≡ (c.self.inside.range + 63) / 64 = omega (arith, c.self.invariant.size) in
    ap length c.as_slice.ensures.value ∙ size ∙ ap (λ (n : ℕ). (n + 63) / 64) (sym (length_of c.self.inside c.args.self.now c.self.view_is))

pub returns-clause-bits : goal.returns-clause-bits
returns-clause-bits c = λ j. ap (λ (ws : List ℕ). bit ws j) c.as_slice.ensures.value ∙ bits_are c.self.inside c.args.self.now c.self.view_is c.self.invariant j
