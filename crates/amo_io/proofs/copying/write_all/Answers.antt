-- `write_all`: its other goals, directly from definitions and clauses.
use Rattle.std.proofs.Common.{rules, arith}
use Rattle.std.proofs.Math.Seq.{take-add}
use Rattle.std.proofs.KnownBytes.{Appends-trans}
use Rattle.amo_io.proofs.copying.write_all.Goals as goal

pub writing-preserved : goal.writing-preserved
writing-preserved g c =
    record {
      within = omega (arith, c.in_ok-at.ensures.bound);
      taken = rw (take-add, ← c.split_at.ensures.back) (Appends-trans _ _ _ _ _ c.writing.invariant.taken c.in_ok-at.ensures.bytes);
      calm = search rules;
    }
