-- The parts above and below the columns of a picture of jobs: the numbers of jobs, and the band.
-- The band has for each job a mark in the lane of the worker that has claimed it, or in the last
-- lane. Here n is the number of jobs, or of blocks.
use Rattle.std.specs.Prelude.{ℕ, zero, suc, ◌+◌, ◌%◌, List, [], ◌∷◌, ◌++◌, ◌==◌, if◌then◌else◌, codes}
use Rattle.amo_trace.specs.declared.transition.Transition.{Transition}
use Rattle.amo_svg.specs.declared.pieces.Kind.TheVariants.{Shares}
use Rattle.amo_svg.specs.declared.wording.Wording.TheVariants.{FreeTitle}
use Rattle.amo_svg.specs.Elements.{anchored_start, anchored_number, number_before, stroke_start, straight, at_place}
use Rattle.amo_svg.specs.Pieces.{worker_class, path}
use Rattle.amo_svg.specs.Scale.{place, wide, grid_step, band}
use Rattle.amo_svg.specs.Wording.{fixed_text}

-- the number of job j of n and its tick, so far down, if the job has one
unfoldable pub axis_mark : ℕ → ℕ → ℕ → ℕ → List ℕ
axis_mark tick y n j =
    if j % grid_step n == 0
    then straight (codes "f") 1 (place n j) tick (codes "v") 8 ++ anchored_number (codes "middle") (codes "f") (place n j) y j
    else []

-- those of the jobs 1..k
abbrev pub axis : ℕ → ℕ → ℕ → ℕ → List ℕ
axis tick y n zero = []
axis tick y n (suc k) = axis tick y n k ++ axis_mark tick y n (suc k)

-- the numbers of jobs above the columns and below the band
unfoldable pub axes : ℕ → ℕ → List ℕ
axes n end = axis 62 56 n n ++ axis (end + 4) (end + 24) n n

-- what worker p claimed: its number, a level line, and on this a mark for each job
unfoldable pub band_lane : ℕ → ℕ → List Transition → List ℕ
band_lane n p rows =
    number_before (worker_class p) 64 (band p) p ++ straight (codes "p") 1 72 (band p) (codes "h") 768
    ++ path (worker_class p) (wide n + 1) Shares n p rows

-- the marks of these jobs at height y
abbrev pub free_marks : ℕ → ℕ → List ℕ → List ℕ
free_marks n y [] = []
free_marks n y (j ∷ js) = at_place (place n j) y ++ codes "v-10" ++ free_marks n y js

-- the last lane of the band: these jobs are unclaimed
unfoldable pub free_title : ℕ → List ℕ
free_title y = fixed_text FreeTitle ++ anchored_start (codes "end") (codes "f") 64 y ++ codes "none</text>\n"

-- the last lane of the band, with the marks of these unclaimed jobs
unfoldable pub free_lane : ℕ → ℕ → List ℕ → List ℕ
free_lane n y js =
    free_title y ++ straight (codes "p") 1 72 y (codes "h") 768
    ++ stroke_start (codes "f") (wide n + 1) ++ free_marks n y js ++ codes "\"/>\n</g>\n"
