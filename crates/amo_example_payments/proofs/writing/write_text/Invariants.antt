-- The facts that each pass of a loop of `write_text` keeps.
use Rattle.std.proofs.Common.{◌≤◌, ◌-◌, length, take}
use Rattle.std.specs.Io.KnownBytes.{Appends}
use Rattle.amo_example_payments.proofs.writing.write_text.Given as goal

-- the writer took the bytes so far
abbrev pub invariant-writing : goal.invariant-writing
invariant-writing g l = record {
  within : l.at ≤ length l.bytes;
  taken : Appends (g.O.Write.contents l.fn.out) (g.O.Write.contents l.out) (take l.at l.bytes);
}

abbrev pub decreases-writing : goal.decreases-writing
decreases-writing g l = length l.bytes - l.at
