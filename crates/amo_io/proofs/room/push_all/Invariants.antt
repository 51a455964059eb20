-- The facts that each pass of a loop of `push_all` keeps.
use Rattle.std.proofs.Common.{◌≡◌, ◌+◌, ◌++◌, take, vec_len, vec_capacity}
use Rattle.amo_io.proofs.room.push_all.Given as goal

-- the bytes so far are appended, in the room that there was
abbrev pub invariant-loop-byte : goal.invariant-loop-byte
invariant-loop-byte l = record {
  items : l.bytes.items ≡ l.fn.bytes.items ++ take l.byte-index l.more;
  len : vec_len l.bytes ≡ vec_len l.fn.bytes + l.byte-index;
  capacity : vec_capacity l.bytes ≡ vec_capacity l.fn.bytes;
}
