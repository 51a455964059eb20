-- The picture of a plan.
use Rattle.std.specs.Prelude.{ℕ, ◌+◌, List, ◌++◌, length, nat_le, if◌then◌else◌}
use Rattle.std.specs.List.{filter}
use Rattle.amo_kk.specs.declared.model.World.{World}
use Rattle.amo_plan.specs.Plan.{PlanSeen}
use Rattle.amo_report.specs.Texts.{plan_world}
use Rattle.amo_render.specs.Happened.{unclaimed_jobs}
use Rattle.amo_svg.specs.declared.picturing.TheConstants.{MOST_ROWS}
use Rattle.amo_trace.specs.declared.transition.Transition.{Transition}
use Rattle.amo_svg.specs.Feet.{lane_feet}
use Rattle.amo_svg.specs.Frame.{head, foot, key}
use Rattle.amo_svg.specs.Jobs.{jobs_picture}
use Rattle.amo_svg.specs.Marks.{row}
use Rattle.amo_svg.specs.Rows.{acts, rows_width, row_texts, lane_heads}
use Rattle.amo_trace.specs.Transitions.{transitions_of}
use Rattle.amo_svg.specs.Wording.{rows_key}

-- how far down the rows end
abbrev pub rows_end : List Transition → ℕ
rows_end rows = row (length rows + 1)

-- the picture with a row for each transition that changes something, of the plan whose moves lead
-- to this world, in which these jobs are unclaimed
unfoldable pub rows_picture : PlanSeen → World → List ℕ → List Transition → List ℕ
rows_picture p w js rows =
    head p w js (rows_width p.givens.workers) (rows_end rows + 192)
    ++ lane_heads rows p.givens.workers
    ++ row_texts p.givens.workers 1 rows
    ++ lane_feet w (rows_end rows) p.givens.workers
    ++ foot p w js (rows_end rows + 60)
    ++ key (rows_end rows + 60) rows_key

-- rows are drawn if they are not too many, else the jobs
abbrev pub picture_in : PlanSeen → World → List ℕ → List Transition → List ℕ
picture_in p w js rows = if nat_le (length rows) MOST_ROWS then rows_picture p w js rows else jobs_picture p w js rows

-- the picture of a plan: of the transitions that change something, of the world to which its moves
-- lead, and of the jobs that nobody has claimed in it
abbrev pub picture_of : PlanSeen → List ℕ
picture_of p =
    let w = plan_world p in
    picture_in p w (unclaimed_jobs p.givens.jobs w.history) (filter (λ s. acts s.act) (transitions_of p))
