-- The facts that each pass of a loop of `push_escaped` keeps.
use Rattle.std.proofs.Common.{◌≡◌, ◌++◌, take, string_bytes}
use Rattle.amo_render.specs.Escaped.{escaped}
use Rattle.amo_render.proofs.escaped.push_escaped.Given as goal

-- the bytes so far are written
abbrev pub invariant-loop-byte : goal.invariant-loop-byte
invariant-loop-byte l = string_bytes l.out ≡ string_bytes l.fn.out ++ escaped (take l.byte-index l.text)
