-- The facts that each pass of a loop of `push_pieces` keeps.
use Rattle.std.proofs.Common.{◌≡◌, ◌++◌, drop, string_bytes}
use Rattle.amo_svg.specs.Pieces.{pieces}
use Rattle.amo_svg.proofs.pieces.push_pieces.Given as goal

-- what is written and the pieces to come are what was there and all pieces
abbrev pub invariant-loop-i : goal.invariant-loop-i
invariant-loop-i l =
    string_bytes l.out ++ pieces l.kind l.jobs l.last l.worker (drop l.i l.rows)
    ≡ string_bytes l.fn.out ++ pieces l.kind l.jobs l.last l.worker l.rows
