-- The frame of a picture: what stands above and below its lanes.
use Rattle.std.specs.Prelude.{ℕ, ◌+◌, ◌*◌, List, [], ◌∷◌, ◌++◌, length, nat_le, ◌==◌, if◌then◌else◌, codes}
use Rattle.std.specs.Fmt.{decimal}
use Rattle.amo_kk.specs.Run.{done_jobs}
use Rattle.amo_kk.specs.declared.model.World.{World}
use Rattle.amo_plan.specs.Plan.{PlanSeen}
use Rattle.amo_render.specs.EventLines.{worker_lines}
use Rattle.amo_render.specs.Numbers.{first_words, first_line, spaced}
use Rattle.amo_render.specs.Tallies.{performed_words, performed_line}
use Rattle.amo_report.specs.Texts.{turns_of}
use Rattle.amo_svg.specs.declared.frame.TheConstants.{MOST_LISTED}
use Rattle.amo_svg.specs.declared.wording.Wording.{Wording}
use Rattle.amo_svg.specs.declared.wording.Wording.TheVariants.{SvgOpen, Title, More, LightStyle, DarkStyle}
use Rattle.amo_svg.specs.Elements.{text, two_attributes, area_start}
use Rattle.amo_svg.specs.Wording.{fixed_text}

-- the start of a picture of this width and height
unfoldable pub svg_start : ℕ → ℕ → List ℕ
svg_start width height =
    fixed_text SvgOpen ++ decimal width ++ codes " " ++ decimal height ++ two_attributes (codes "width") width (codes "height") height ++ codes "\n"

-- what the algorithm's jobs are
abbrev pub jobs_word : ℕ → List ℕ
jobs_word version = if version == 1 then codes "jobs" else codes "blocks"

-- these jobs, as the report's line has them; in version 2 they are blocks
abbrev pub list_start : ℕ → List ℕ
list_start version = if version == 1 then codes "unclaimed" else codes "unclaimed blocks"

-- the words of these unclaimed jobs, as a list
abbrev pub listed_words : ℕ → List ℕ → List ℕ
listed_words version js = list_start version ++ spaced js

-- how many they are
unfoldable pub counted_words : ℕ → ℕ → List ℕ
counted_words version count = codes "unclaimed " ++ decimal count ++ codes " " ++ jobs_word version

-- the jobs that nobody has claimed, or their number if they are more than MOST_LISTED
unfoldable pub unclaimed_words : ℕ → List ℕ → List ℕ
unclaimed_words version js =
    if length js == 0 then codes "unclaimed none" else
    if nat_le (length js) MOST_LISTED then listed_words version js else counted_words version (length js)

-- the report's words on the run: its first line, its lines of workers, and the line of the
-- performed jobs
unfoldable pub heading : PlanSeen → World → List ℕ
heading p w =
    first_line p.version p.block (length p.names) p.givens ++ worker_lines w.history 1 (turns_of p.givens w)
    ++ performed_line p.version p.block (length p.names) (done_jobs w.history)

-- the title, and a description for a reader that doesn't see the picture
unfoldable pub description : PlanSeen → World → List ℕ → List ℕ
description p w js = fixed_text Title ++ heading p w ++ unclaimed_words p.version js ++ fixed_text More

-- the ground, which fills the picture
unfoldable pub ground_end : ℕ → ℕ → List ℕ
ground_end width height = codes "v" ++ decimal height ++ codes "h-" ++ decimal width ++ codes "z\"/>\n"

-- the ground of a picture of this width and height
unfoldable pub ground : ℕ → ℕ → List ℕ
ground width height = area_start (codes "g") ++ codes "M0 0h" ++ decimal width ++ ground_end width height

-- the words of the report's first line
unfoldable pub first_text : PlanSeen → List ℕ
first_text p = text (codes "i") 16 24 (first_words p.version p.block (length p.names) p.givens)

-- what stands above the lanes; these jobs are unclaimed
unfoldable pub head : PlanSeen → World → List ℕ → ℕ → ℕ → List ℕ
head p w js width height = svg_start width height ++ description p w js ++ fixed_text LightStyle ++ fixed_text DarkStyle ++ ground width height ++ first_text p

-- at height y what was performed, and below it which jobs nobody has claimed
unfoldable pub performed_text : PlanSeen → World → ℕ → List ℕ
performed_text p w y = text (codes "i") 16 y (performed_words p.version p.block (length p.names) (done_jobs w.history))

-- at height y the jobs that nobody has claimed
unfoldable pub unclaimed_text : ℕ → List ℕ → ℕ → List ℕ
unclaimed_text version js y = text (codes "i") 16 y (unclaimed_words version js)

-- the foot of a picture: the performed jobs, and below them the unclaimed ones
unfoldable pub foot : PlanSeen → World → List ℕ → ℕ → List ℕ
foot p w js y = performed_text p w y ++ unclaimed_text p.version js (y + 16)

-- these lines below height y, the first being line k
abbrev pub key_lines : ℕ → ℕ → List Wording → List ℕ
key_lines y k [] = []
key_lines y k (line ∷ lines) = text (codes "f") 16 (y + 44 + 16 * k) (fixed_text line) ++ key_lines y (k + 1) lines

-- what the marks say, below height y, and the end of the picture
abbrev pub key : ℕ → List Wording → List ℕ
key y lines = key_lines y 0 lines ++ codes "</svg>\n"
