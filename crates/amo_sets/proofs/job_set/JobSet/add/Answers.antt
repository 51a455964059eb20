-- `JobSet::add`: no overflow, the premises of its calls, what its type keeps and its promises, by
-- the lemmas of Shown.
use Rattle.std.proofs.Common.{◌-◌, ◌%◌, ◌*◌, ◌^◌, ℕ, true, bit_or, sym, ◌∙◌, arith}
use Rattle.amo_sets.proofs.Shown.{with_stranger, word_of, WritesJob, adds_job, shown_written, spare_written, count_added}
use Rattle.amo_sets.proofs.job_set.JobSet.add.Goals as goal

pub index_mut-requires : goal.index_mut-requires
index_mut-requires c = let within = word_of c.self.inside c.args.self.now c.self.view_is c.self.invariant c.args.j c.requires.low c.requires.high in omega arith

pub overflow_add-self : goal.overflow_add-self
overflow_add-self c =
    let few = with_stranger c.self.inside c.args.self.now c.args.j c.self.view_is c.self.invariant c.requires.low c.requires.high (sym c.has.ensures ∙ c.if-not-has.true) in
    omega (arith, c.self.invariant.small)

pub invariant_of-self : goal.invariant_of-self
invariant_of-self c =
    let x : ℕ = c.index_mut.result.now in
    let writes : WritesJob c.self.inside c.args.self.now c.args.j (bit_or x (1 * 2 ^ ((c.args.j - 1) % 64) % 2 ^ 64)) true =
    adds_job c.self.inside c.args.self.now c.args.j x c.self.view_is c.self.invariant c.requires.low c.requires.high c.index_mut.ensures.value in
    let count = count_added c.self.inside c.args.self.now c.args.j (bit_or x (1 * 2 ^ ((c.args.j - 1) % 64) % 2 ^ 64)) writes (sym c.has.ensures ∙ c.if-not-has.true) in
    record {
      size = c.self.invariant.size;
      room = c.self.invariant.room;
      small = c.self.invariant.small;
      spare = spare_written c.self.inside c.args.self.now c.args.j (bit_or x (1 * 2 ^ ((c.args.j - 1) % 64) % 2 ^ 64)) true writes;
      kept = omega arith;
    }

pub returns-then-not-has : goal.returns-then-not-has
returns-then-not-has c =
    let x : ℕ = c.index_mut.result.now in
    let writes : WritesJob c.self.inside c.args.self.now c.args.j (bit_or x (1 * 2 ^ ((c.args.j - 1) % 64) % 2 ^ 64)) true =
    adds_job c.self.inside c.args.self.now c.args.j x c.self.view_is c.self.invariant c.requires.low c.requires.high c.index_mut.ensures.value in
    shown_written c.self.inside c.args.self.now c.args.j (bit_or x (1 * 2 ^ ((c.args.j - 1) % 64) % 2 ^ 64)) true writes
