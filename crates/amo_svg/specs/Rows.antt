-- The rows of a picture: one for each transition that changes something.
use Rattle.std.specs.Prelude.{ℕ, zero, suc, ◌+◌, ◌-◌, ◌*◌, ◌%◌, max, Bool, true, false, List, [], ◌∷◌, ◌++◌, ◌==◌, if◌then◌else◌, codes}
use Rattle.std.specs.Fmt.{decimal}
use Rattle.amo_kk.specs.Record.{is_over}
use Rattle.amo_svg.specs.declared.marks.TheConstants.{RULED_ROWS}
use Rattle.amo_trace.specs.declared.transition.Act.{Act}
use Rattle.amo_trace.specs.declared.transition.Act.TheVariants.{Stays, Idles}
use Rattle.amo_trace.specs.declared.transition.Transition.{Transition}
use Rattle.amo_svg.specs.Elements.{text, text_start, number_before, stroke_at, straight}
use Rattle.amo_svg.specs.Marks.{lane, row, until, mark_of, class_of, label_of, lead_at, shape_at}
use Rattle.amo_trace.specs.Trace.{transition_words}

-- the act changes something
abbrev pub acts : Act → Bool
acts Stays = false
acts Idles = false
acts act = true

-- below the mark of the transition after which its worker has ended
abbrev pub end_mark : ℕ → ℕ → Bool → List ℕ
end_mark p y over = if over then stroke_at (codes "i") 2 (lane p) (y + 8) (codes "m-8 0h16") else []

-- the line of the trace, which a reader sees who points at the row
unfoldable pub row_title : Transition → List ℕ
row_title s = codes "<g><title>" ++ transition_words s ++ codes "</title>\n"

-- the words of a transition
abbrev pub label_in : Transition → List ℕ
label_in s = label_of (mark_of s) (is_over s.after)

-- its marks in row r, and these words
unfoldable pub row_drawn : ℕ → List ℕ → Transition → List Transition → List ℕ
row_drawn r label s rest =
    lead_at s.worker r label rest (mark_of s) ++ shape_at (lane s.worker) (row r) (mark_of s) ++ end_mark s.worker (row r) (is_over s.after)
    ++ text (class_of (mark_of s)) (lane s.worker + 14) (row r + 4) label

-- row r, of transition s, these transitions being those after it
unfoldable pub row_text : ℕ → Transition → List Transition → List ℕ
row_text r s rest = row_title s ++ number_before (codes "f") 44 (row r + 4) s.number ++ row_drawn r (label_in s) s rest ++ codes "</g>\n"

-- `worker P` at a place
unfoldable pub head_text : ℕ → ℕ → ℕ → List ℕ
head_text x y p = text_start (codes "i") x y ++ codes "worker " ++ decimal p ++ codes "</text>\n"

-- the heads of the lanes of the workers 1..n once more, at height y
abbrev pub heads_again : ℕ → ℕ → List ℕ
heads_again y zero = []
heads_again y (suc n) = heads_again y n ++ head_text (lane (suc n) + 14) (y + 4) (suc n)

-- how wide a picture of rows is
abbrev pub rows_width : ℕ → ℕ
rows_width workers = 56 + 176 * max workers 3

-- the ruler at height y: a level line with the number of the move above it and the heads of the
-- lanes
unfoldable pub ruler : ℕ → ℕ → ℕ → List ℕ
ruler workers y number =
    straight (codes "b") 1 16 (y + 9) (codes "h") (rows_width workers - 32) ++ number_before (codes "i") 44 (y + 4) number
    ++ heads_again y workers

-- it stands below each row whose number is a multiple of RULED_ROWS
abbrev pub ruler_below : ℕ → ℕ → Transition → List ℕ
ruler_below workers r s = if r % RULED_ROWS == 0 then ruler workers (row r + 18) s.number else []

-- the rows of these transitions, the first being row r
abbrev pub row_texts : ℕ → ℕ → List Transition → List ℕ
row_texts workers r [] = []
row_texts workers r (s ∷ rest) = row_text r s rest ++ ruler_below workers r s ++ row_texts workers (r + 1) rest

-- the head of the lane of worker p with its lifeline, which ends once the worker is gone
unfoldable pub lane_head : List Transition → ℕ → List ℕ
lane_head rows p =
    head_text (lane p - 20) 56 p ++ straight (codes "f") 1 (lane p) 64 (codes "v") (row (until (λ s. s.gone) p rows) - 64)

-- those of the workers 1..n
abbrev pub lane_heads : List Transition → ℕ → List ℕ
lane_heads rows zero = []
lane_heads rows (suc n) = lane_heads rows n ++ lane_head rows (suc n)
