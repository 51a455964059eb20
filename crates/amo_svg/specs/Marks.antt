-- The picture of a transition.
use Rattle.std.specs.Prelude.{ℕ, ◌+◌, ◌-◌, ◌*◌, ◌/◌, Bool, true, false, ◌&&◌, List, [], ◌++◌, length, nat_lt, ◌==◌, if◌then◌else◌, codes}
use Rattle.std.specs.Fmt.{decimal}
use Rattle.std.specs.List.{position_or_len}
use Rattle.amo_kk.specs.declared.phase.Want.{Want}
use Rattle.amo_kk.specs.declared.phase.Want.TheVariants.{StoreNext, LoadNext, LoadDone, StoreClaim, StoreDone, Nothing}
use Rattle.amo_svg.specs.declared.marks.TheConstants.{RULED_ROWS}
use Rattle.amo_svg.specs.declared.marks.Mark.{Mark}
use Rattle.amo_svg.specs.declared.marks.Mark.TheVariants.{Stop, Fail, Zero, Own, Other, Leave, Announcement, Claim, Filing, Still}
use Rattle.amo_trace.specs.declared.transition.Act.{Act}
use Rattle.amo_trace.specs.declared.transition.Act.TheVariants.{Turned, Leaves, Stops}
use Rattle.amo_trace.specs.declared.transition.Transition.{Transition}
use Rattle.amo_svg.specs.Elements.{stroke_start, dotted_start, at_place, area_at, stroke_at, straight}
use Rattle.amo_trace.specs.Transitions.{fails, job_of}
use Rattle.amo_trace.specs.Trace.{next_word, done_word, equals}

-- the mark of a load that gives v, by the worker's own job j
abbrev pub mark_of_load : ℕ → Want → ℕ → Mark
mark_of_load j want v = if v == 0 then Zero want else (if v == j then Own want v else Other want v)

-- the mark of a load or store by a worker with the job j
abbrev pub mark_of_want : ℕ → Want → ℕ → Mark
mark_of_want j (StoreNext i) v = Announcement i
mark_of_want j (LoadNext q) v = mark_of_load j (LoadNext q) v
mark_of_want j (LoadDone q k) v = mark_of_load j (LoadDone q k) v
mark_of_want j (StoreClaim c i) v = Claim i
mark_of_want j (StoreDone k i) v = Filing i
mark_of_want j Nothing v = Still

-- the mark of an act by a worker with the job j
abbrev pub mark_of_act : ℕ → Act → Mark
mark_of_act j (Turned want v) = mark_of_want j want v
mark_of_act j Leaves = Leave
mark_of_act j Stops = Stop
mark_of_act j act = Still

-- the mark of a transition
abbrev pub mark_of : Transition → Mark
mark_of s = if fails s then Fail (job_of s.before) else mark_of_act (job_of s.before) s.act

-- the colour of a mark's words
abbrev pub class_of : Mark → List ℕ
class_of (Fail j) = codes "x"
class_of (Zero want) = codes "f"
class_of (Own want v) = codes "x"
class_of (Other want v) = codes "f"
class_of (Claim j) = codes "c"
class_of (Filing j) = codes "c"
class_of mark = codes "i"

-- the word that is loaded
abbrev pub loaded_word : Want → List ℕ
loaded_word (LoadNext q) = next_word q
loaded_word (LoadDone q k) = done_word q k
loaded_word want = []

-- a load of a row sees what was done
abbrev pub sees_more : Want → List ℕ
sees_more (LoadDone q k) = codes " done"
sees_more want = []

-- the words of a load that gives v
abbrev pub sees : Want → ℕ → List ℕ
sees want v = codes "sees " ++ decimal v ++ sees_more want

-- after words that may be the last of a worker
abbrev pub ends : Bool → List ℕ
ends over = if over then codes ", ends" else []

-- the words of a mark
unfoldable pub label_of : Mark → Bool → List ℕ
label_of Stop over = codes "is stopped"
label_of (Fail j) over = codes "fails at " ++ decimal j ++ ends over
label_of (Zero want) over = loaded_word want ++ equals 0
label_of (Own want v) over = sees want v
label_of (Other want v) over = sees want v
label_of Leave over = codes "leaves"
label_of (Announcement j) over = codes "announces " ++ decimal j
label_of (Claim j) over = codes "claims " ++ decimal j
label_of (Filing j) over = codes "has done " ++ decimal j ++ ends over
label_of Still over = []

-- the place of the lifeline of worker p
abbrev pub lane : ℕ → ℕ
lane p = 176 * p - 100

-- how far down row r is: each time that the heads of the lanes come again they take the place of a
-- row
abbrev pub row : ℕ → ℕ
row r = 72 + 18 * (r + (r - 1) / RULED_ROWS)

-- 1, and the number of transitions of these before the first of worker p that passes, or all if
-- none does
abbrev pub until : (Transition → Bool) → ℕ → List Transition → ℕ
until test p rest = position_or_len (λ s. (s.worker == p) && test s) rest + 1

-- it stores to its announcement
abbrev pub is_announcement : Mark → Bool
is_announcement Leave = true
is_announcement (Announcement j) = true
is_announcement mark = false

-- it stores a claim
abbrev pub is_claim : Mark → Bool
is_claim (Claim j) = true
is_claim mark = false

-- it stores a performance
abbrev pub is_filing : Mark → Bool
is_filing (Filing j) = true
is_filing mark = false

-- whose word is loaded, and where its bar or its lifeline is
abbrev pub loaded_of : Want → ℕ
loaded_of (LoadNext q) = q
loaded_of (LoadDone q k) = q
loaded_of want = 0

-- the place of the word that is loaded
abbrev pub seen_at : Want → ℕ
seen_at (LoadNext q) = lane q - 12
seen_at (LoadDone q k) = lane q
seen_at want = 0

-- a level line to this place, which ends in a stop
unfoldable pub level_to : ℕ → List ℕ
level_to x = codes "H" ++ decimal x ++ codes "m0 -5v10\"/>\n"

-- the level line of a load of worker p in a row at height y, from its mark, or from the end of its
-- words, to the word
abbrev pub line_start : ℕ → Want → List ℕ → ℕ
line_start p want label = if nat_lt (loaded_of want) p then lane p else lane p + 14 + 8 * length label

-- the end of a load's line: its beginning, and its way to the loaded word
abbrev pub line_to : ℕ → ℕ → Want → List ℕ → List ℕ
line_to p y want label = at_place (line_start p want label) y ++ level_to (seen_at want)

-- how far row r and the row so many rows below it are apart
abbrev pub apart : ℕ → ℕ → ℕ
apart r rows = row (r + rows) - row r

-- what leads up to the mark of worker p in row r, the transitions after it being these: the line of
-- a load, the bar of an announcement, which is as long as it stands, and the bar of a claim, which
-- is as long as the job is in hand
unfoldable pub lead_at : ℕ → ℕ → List ℕ → List Transition → Mark → List ℕ
lead_at p r label rest (Own want v) = stroke_start (codes "x") 2 ++ line_to p (row r) want label
lead_at p r label rest (Other want v) = dotted_start (codes "f") ++ line_to p (row r) want label
lead_at p r label rest (Announcement j) =
    straight (codes "b") 6 (lane p - 12) (row r - 5) (codes "v") (apart r (until (λ s. is_announcement (mark_of s)) p rest) - 3)
lead_at p r label rest (Claim j) = straight (codes "c") 4 (lane p) (row r) (codes "v") (apart r (until (λ s. is_filing (mark_of s)) p rest))
lead_at p r label rest mark = []

-- the shape of a mark at its place
unfoldable pub shape_at : ℕ → ℕ → Mark → List ℕ
shape_at x y Stop = stroke_at (codes "i") 3 x y (codes "m-6 -6l12 12m0 -12l-12 12")
shape_at x y (Fail j) = stroke_at (codes "x") 2 x y (codes "m-5 -5l10 10m0 -10l-10 10")
shape_at x y (Zero want) = area_at (codes "f") x y (codes "m-2 -2h4v4h-4z")
shape_at x y (Own want v) = area_at (codes "x") x y (codes "m-5 0l5 -5l5 5l-5 5z")
shape_at x y (Other want v) = area_at (codes "f") x y (codes "m-5 0l5 -5l5 5l-5 5z")
shape_at x y Leave = stroke_at (codes "i") 2 x y (codes "m-6 -2h12m0 5h-12")
shape_at x y (Announcement j) = area_at (codes "i") x y (codes "m-5 0a5 5 0 0 0 10 0a5 5 0 0 0 -10 0z")
shape_at x y (Claim j) = area_at (codes "c") x y (codes "m-5 -5h10v10h-10z")
shape_at x y (Filing j) = area_at (codes "c") x y (codes "m-5 -5h10v10h-10z")
shape_at x y Still = []
