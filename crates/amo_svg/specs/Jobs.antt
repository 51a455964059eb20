-- The picture of a long run: a column for each job, a narrow lane for each worker, and below the
-- columns a band. In it n is the number of jobs, or of blocks, and `last` the number of the last
-- row.
use Rattle.std.specs.Prelude.{ℕ, zero, suc, ◌+◌, ◌-◌, ◌*◌, ◌%◌, max, ◌&&◌, List, [], ◌++◌, count_by, Option, Some, None, slice_get, ◌==◌, if◌then◌else◌, codes}
use Rattle.std.specs.Fmt.{decimal}
use Rattle.std.specs.List.{position_or_len}
use Rattle.amo_kk.specs.declared.event.Event.{Event}
use Rattle.amo_kk.specs.declared.model.World.{World}
use Rattle.amo_kk.specs.declared.phase.Phase.{Phase}
use Rattle.amo_kk.specs.declared.phase.Phase.TheVariants.{Over, Left}
use Rattle.amo_plan.specs.Plan.{PlanSeen}
use Rattle.amo_render.specs.Happened.{is_done_of}
use Rattle.amo_trace.specs.declared.transition.Transition.{Transition}
use Rattle.amo_svg.specs.declared.pieces.Kind.{Kind}
use Rattle.amo_svg.specs.declared.pieces.Kind.TheVariants.{Columns, Holds, Failures, Ticks, Crosses}
use Rattle.amo_svg.specs.Band.{axes, band_lane, free_lane}
use Rattle.amo_svg.specs.Elements.{text, text_start, number_before, stroke_start, stroke_at, straight}
use Rattle.amo_svg.specs.Frame.{jobs_word, head, foot, key}
use Rattle.amo_svg.specs.Pieces.{worker_class, path}
use Rattle.amo_svg.specs.Scale.{last_number, at, end_of, wide, grid_step, narrow_lane, band}
use Rattle.amo_svg.specs.Wording.{jobs_key}

-- the claims of worker p and its failures, by paths of these kinds and this width
unfoldable pub worker_paths : ℕ → Kind → Kind → ℕ → ℕ → List Transition → List ℕ
worker_paths width claims failures n p rows = path (worker_class p) width claims n p rows ++ path (codes "x") width failures n p rows

-- the row after which worker p is gone
abbrev pub going : ℕ → List Transition → Option Transition
going p rows = slice_get rows (position_or_len (λ s. (s.worker == p) && s.gone) rows)

-- how its lane ends
abbrev pub going_shape : Phase → List ℕ
going_shape Over = codes "m-8 0h16"
going_shape Left = codes "m-6 -2h12m0 5h-12"
going_shape phase = codes "m-6 -6l12 12m0 -12l-12 12"

-- the mark at the end of a worker's lane, by the transition by which it was gone
abbrev pub going_mark : ℕ → ℕ → Option Transition → List ℕ
going_mark last p None = []
going_mark last p (Some s) = stroke_at (codes "i") 2 (narrow_lane p) (at last s.number) (going_shape s.after)

-- the lifeline of worker p, to the move by which it was gone
unfoldable pub lifeline : ℕ → ℕ → Option Transition → List ℕ
lifeline last p gone =
    stroke_start (codes "b") 2 ++ codes "M" ++ decimal (narrow_lane p) ++ codes " 72V" ++ decimal (end_of last 0 gone) ++ codes "\"/>\n"
    ++ going_mark last p gone

-- its number above the lane, and below it how many jobs it has done
unfoldable pub lane_number : ℕ → ℕ → ℕ → List ℕ
lane_number p y number = text_start (worker_class p) (narrow_lane p - 12) y ++ decimal number ++ codes "</text>\n"

-- the number of worker p above its lane, and below it how many jobs it has done
unfoldable pub lane_numbers : List Event → ℕ → List ℕ
lane_numbers history p = lane_number p 56 p ++ lane_number p 1052 (count_by (is_done_of p) history)

-- the title of the group of worker p
unfoldable pub worker_title : ℕ → List ℕ
worker_title p = codes "<g><title>worker " ++ decimal p ++ codes "</title>\n"

-- all of worker p
unfoldable pub worker_drawn : List Event → ℕ → List Transition → ℕ → List ℕ
worker_drawn history n rows p =
    worker_title p ++ worker_paths (wide n + 1) Holds Failures n p rows ++ worker_paths 2 Ticks Crosses n p rows
    ++ lifeline (last_number rows) p (going p rows) ++ lane_numbers history p ++ band_lane n p rows ++ codes "</g>\n"

-- of the workers 1..m
abbrev pub workers_drawn : List Event → ℕ → List Transition → ℕ → List ℕ
workers_drawn history n rows zero = []
workers_drawn history n rows (suc m) = workers_drawn history n rows m ++ worker_drawn history n rows (suc m)

-- the level line of move i, after its number, if the move has one
unfoldable pub grid_line : ℕ → ℕ → ℕ → List ℕ
grid_line width last i =
    if i % grid_step last == 0
    then number_before (codes "f") 64 (at last i + 4) i ++ straight (codes "p") 1 72 (at last i) (codes "h") (width - 88)
    else []

-- those below number k
abbrev pub grid : ℕ → ℕ → ℕ → List ℕ
grid width last zero = []
grid width last (suc k) = grid width last k ++ grid_line width last k

-- above the columns, above the lanes, and above the band
unfoldable pub jobs_head : ℕ → ℕ → List ℕ
jobs_head version n =
    text_start (codes "i") 72 40 ++ jobs_word version ++ codes " 1 to " ++ decimal n ++ codes "</text>\n"
    ++ text (codes "i") 872 40 (codes "workers") ++ text (codes "i") 16 1048 (codes "claimed by")

-- the jobs by which the columns are placed: a run of so many moves has one
abbrev pub columns_of : PlanSeen → ℕ
columns_of p = max p.givens.jobs 1

-- the width of a picture of jobs
abbrev pub jobs_width : PlanSeen → ℕ
jobs_width p = 880 + 36 * max p.givens.workers 2

-- how far down the band ends
abbrev pub band_end : PlanSeen → ℕ
band_end p = band (p.givens.workers + 1)

-- the ground below the workers' marks
unfoldable pub jobs_ground : PlanSeen → List Transition → List ℕ
jobs_ground p rows =
    jobs_head p.version p.givens.jobs ++ axes (columns_of p) (band_end p) ++ grid (jobs_width p) (last_number rows) (last_number rows)
    ++ grid_line (jobs_width p) (last_number rows) (last_number rows)
    ++ path (codes "p") (wide (columns_of p)) Columns (columns_of p) 0 rows

-- the picture with a column for each job, of the plan whose moves lead to this world, in which
-- these jobs are unclaimed
unfoldable pub jobs_picture : PlanSeen → World → List ℕ → List Transition → List ℕ
jobs_picture p w js rows =
    head p w js (jobs_width p) (band_end p + 160) ++ jobs_ground p rows
    ++ workers_drawn w.history (columns_of p) rows p.givens.workers ++ free_lane (columns_of p) (band_end p) js
    ++ foot p w js (band_end p + 60) ++ key (band_end p + 60) jobs_key
