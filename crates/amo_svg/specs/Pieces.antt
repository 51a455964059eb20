-- The paths of a picture of jobs, in which each transition of a kind has its piece. In it n is the
-- number of jobs, or of blocks, and `last` the number of the last row.
use Rattle.std.specs.Prelude.{ℕ, ◌+◌, ◌-◌, ◌%◌, Bool, ◌&&◌, List, [], ◌∷◌, ◌++◌, Option, Some, None, slice_get, ◌==◌, if◌then◌else◌, codes}
use Rattle.std.specs.Fmt.{decimal}
use Rattle.std.specs.List.{position_or_len}
use Rattle.amo_trace.specs.declared.transition.Transition.{Transition}
use Rattle.amo_svg.specs.declared.pieces.Kind.{Kind}
use Rattle.amo_svg.specs.declared.pieces.Kind.TheVariants.{Columns, Holds, Failures, Shares, Ticks, Crosses}
use Rattle.amo_svg.specs.Elements.{stroke_start, at_place}
use Rattle.amo_svg.specs.Marks.{mark_of, is_claim, is_filing}
use Rattle.amo_svg.specs.Scale.{last_number, at, end_of, place, narrow_lane, band}
use Rattle.amo_trace.specs.Transitions.{fails, job_of}

-- the transition is drawn by paths of this kind, in the lane of worker p
abbrev pub is_drawn : Kind → ℕ → Transition → Bool
is_drawn Columns p s = is_filing (mark_of s)
is_drawn Failures p s = (s.worker == p) && fails s
is_drawn Crosses p s = (s.worker == p) && fails s
is_drawn kind p s = (s.worker == p) && is_claim (mark_of s)

-- how far to the right: in the column of its job or below it, or beside the lane of worker p
abbrev pub piece_x : Kind → ℕ → ℕ → Transition → ℕ
piece_x Ticks n p s = narrow_lane p - 12
piece_x Crosses n p s = narrow_lane p + 2
piece_x kind n p s = place n (job_of s.before)

-- how far down: in the band below the columns, or as far as its move
abbrev pub piece_y : Kind → ℕ → ℕ → Transition → ℕ
piece_y Shares last p s = band p
piece_y kind last p s = at last s.number

-- the first of these transitions in which worker p stores a performance
abbrev pub next_filing : ℕ → List Transition → Option Transition
next_filing p rest = slice_get rest (position_or_len (λ s. (s.worker == p) && is_filing (mark_of s)) rest)

-- a mark in the band is high if the job is performed by one of the transitions to come, else low
abbrev pub mark_end : Option Transition → List ℕ
mark_end None = codes "v-4"
mark_end (Some s) = codes "v-10"

-- how the path goes on: to the foot, to the performance among the transitions to come, a little,
-- up, or to the right
unfoldable pub piece_end : Kind → ℕ → ℕ → List Transition → List ℕ
piece_end Columns last p rest = codes "V1032"
piece_end Holds last p rest = codes "V" ++ decimal (end_of last 2 (next_filing p rest))
piece_end Failures last p rest = codes "v3"
piece_end Shares last p rest = mark_end (next_filing p rest)
piece_end kind last p rest = codes "h10"

-- the piece of a path for this transition, with the transitions to come
unfoldable pub piece : Kind → ℕ → ℕ → ℕ → Transition → List Transition → List ℕ
piece kind n last p s rest = at_place (piece_x kind n p s) (piece_y kind last p s) ++ piece_end kind last p rest

-- the piece of a path, if this kind of path draws the transition
abbrev pub piece_in : Kind → ℕ → ℕ → ℕ → Transition → List Transition → List ℕ
piece_in kind n last p s rest = if is_drawn kind p s then piece kind n last p s rest else []

-- those of all rows
abbrev pub pieces : Kind → ℕ → ℕ → ℕ → List Transition → List ℕ
pieces kind n last p [] = []
pieces kind n last p (s ∷ rest) = piece_in kind n last p s rest ++ pieces kind n last p rest

-- in one path
unfoldable pub path : List ℕ → ℕ → Kind → ℕ → ℕ → List Transition → List ℕ
path c width kind n p rows = stroke_start c width ++ pieces kind n (last_number rows) p rows ++ codes "\"/>\n"

-- workers beside each other have different colours
abbrev pub worker_class : ℕ → List ℕ
worker_class p = if p % 2 == 1 then codes "c" else codes "i"
