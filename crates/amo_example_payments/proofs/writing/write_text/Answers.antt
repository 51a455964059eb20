-- `write_text`: what its loop keeps, directly from definitions and clauses.
use Rattle.std.proofs.Common.{arith}
use Rattle.std.proofs.Math.Seq.{take-add}
use Rattle.std.proofs.KnownBytes.{Appends-trans}
use Rattle.amo_example_payments.proofs.writing.write_text.Goals as goal

pub writing-preserved : goal.writing-preserved
writing-preserved g c =
    record {
      within = omega (arith, c.in-Ok.ensures.bound);
      taken = rw (take-add, ← c.split_at.ensures.back) (Appends-trans _ _ _ _ _ c.writing.invariant.taken c.in-Ok.ensures.bytes);
    }
