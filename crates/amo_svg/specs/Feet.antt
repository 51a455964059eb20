-- The parts below the lanes of a picture of rows.
use Rattle.std.specs.Prelude.{ℕ, zero, suc, ◌+◌, ◌-◌, List, [], ◌++◌, count_by, codes}
use Rattle.std.specs.Fmt.{decimal}
use Rattle.amo_kk.specs.World.{process}
use Rattle.amo_kk.specs.declared.event.Event.{Event}
use Rattle.amo_kk.specs.declared.model.World.{World}
use Rattle.amo_render.specs.Happened.{is_claim_of, is_done_of, state_of}
use Rattle.amo_svg.specs.Elements.{text_start}
use Rattle.amo_svg.specs.Marks.{lane}

-- `STATE turns T`, as the report's line of worker p has it
unfoldable pub state_text : List Event → ℕ → ℕ → ℕ → List ℕ
state_text history y p turns =
    text_start (codes "i") (lane p - 20) (y + 14) ++ state_of p history ++ codes " turns " ++ decimal turns ++ codes "</text>\n"

-- `claimed C done D`
unfoldable pub counts_words : List Event → ℕ → List ℕ
counts_words history p = codes "claimed " ++ decimal (count_by (is_claim_of p) history) ++ codes " done " ++ decimal (count_by (is_done_of p) history)

-- the counts of worker p below its lane
unfoldable pub counts_text : List Event → ℕ → ℕ → List ℕ
counts_text history y p = text_start (codes "i") (lane p - 20) (y + 30) ++ counts_words history p ++ codes "</text>\n"

-- both of worker p, below height y
unfoldable pub lane_foot : World → ℕ → ℕ → List ℕ
lane_foot w y p = state_text w.history y p (process w p).local.steps ++ counts_text w.history y p

-- those of the workers 1..n
abbrev pub lane_feet : World → ℕ → ℕ → List ℕ
lane_feet w y zero = []
lane_feet w y (suc n) = lane_feet w y n ++ lane_foot w y (suc n)
