-- `JobSet::take_out`: no overflow, the premises of its calls, what its type keeps and its promises,
-- by the lemmas of Shown.
use Rattle.std.proofs.Common.{◌-◌, ◌%◌, ◌*◌, ◌^◌, ℕ, false, bit_and, w64, sym, ◌∙◌, arith}
use Rattle.std.specs.Int.{bit_not}
use Rattle.amo_sets.proofs.Shown.{with_member, word_of, WritesJob, takes_job, shown_written, spare_written, count_taken}
use Rattle.amo_sets.proofs.job_set.JobSet.take_out.Goals as goal

pub index_mut-requires : goal.index_mut-requires
index_mut-requires c = let within = word_of c.self.inside c.args.self.now c.self.view_is c.self.invariant c.args.j c.requires.low c.requires.high in omega arith

pub overflow_sub-self : goal.overflow_sub-self
overflow_sub-self c =
    let some = with_member c.self.inside c.args.self.now c.args.j c.self.view_is c.self.invariant c.requires.low c.requires.high (sym c.has.ensures ∙ c.if-has.true) in
    omega (arith, c.self.invariant.small)

pub invariant_of-self : goal.invariant_of-self
invariant_of-self c =
    let x : ℕ = c.index_mut.result.now in
    let writes : WritesJob c.self.inside c.args.self.now c.args.j (bit_and x (bit_not w64 (1 * 2 ^ ((c.args.j - 1) % 64) % 2 ^ 64))) false =
    takes_job c.self.inside c.args.self.now c.args.j x c.self.view_is c.self.invariant c.requires.low c.requires.high c.index_mut.ensures.value in
    let count = count_taken c.self.inside c.args.self.now c.args.j (bit_and x (bit_not w64 (1 * 2 ^ ((c.args.j - 1) % 64) % 2 ^ 64))) writes (sym c.has.ensures ∙ c.if-has.true) in
    record {
      size = c.self.invariant.size;
      room = c.self.invariant.room;
      small = c.self.invariant.small;
      spare = spare_written c.self.inside c.args.self.now c.args.j (bit_and x (bit_not w64 (1 * 2 ^ ((c.args.j - 1) % 64) % 2 ^ 64))) false writes;
      kept = omega arith;
    }

pub returns-then-has : goal.returns-then-has
returns-then-has c =
    let x : ℕ = c.index_mut.result.now in
    let writes : WritesJob c.self.inside c.args.self.now c.args.j (bit_and x (bit_not w64 (1 * 2 ^ ((c.args.j - 1) % 64) % 2 ^ 64))) false =
    takes_job c.self.inside c.args.self.now c.args.j x c.self.view_is c.self.invariant c.requires.low c.requires.high c.index_mut.ensures.value in
    shown_written c.self.inside c.args.self.now c.args.j (bit_and x (bit_not w64 (1 * 2 ^ ((c.args.j - 1) % 64) % 2 ^ 64))) false writes
