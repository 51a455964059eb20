-- The facts that each pass of a loop of `read_at_most` keeps.
use Rattle.std.proofs.Common.{◌≡◌, ◌≤◌, ◌-◌, vec_len}
use Rattle.std.specs.Io.KnownBytes.{Consumes}
use Rattle.amo_io.proofs.copying.read_at_most.Given as goal

-- the bytes so far are those that the reader gave, and are not too many
abbrev pub invariant-reading : goal.invariant-reading
invariant-reading g l = record {
  taken : Consumes (g.R.Source.remaining l.fn.reader) (g.R.Source.remaining l.reader) l.bytes.items;
  most : vec_len l.bytes ≤ l.limit;
  calm : g.R.Source.failed l.reader ≡ g.R.Source.failed l.fn.reader;
}

abbrev pub decreases-reading : goal.decreases-reading
decreases-reading g l = l.limit - vec_len l.bytes
