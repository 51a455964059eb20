-- Which text is the log of which events.
use Rattle.std.specs.Prelude.{◌≡◌, ◌≤◌, ◌<◌, ◌^◌, ℕ, List, [], ◌∷◌, ◌++◌, codes}
use Rattle.std.specs.Fmt.{decimal}
use Rattle.std.specs.List.{join_with_byte}
use Rattle.amo_safety_by_journals.specs.Model.{Event, Dies, Begins, Lands, Wants, Intends, Looks, HandsOver, Performs, Ends, Opens}
use Rattle.amo_params.specs.declared.limits.TheConstants.{MAX_WORKERS}

-- the words of an event; a log has no event of a worker that only wants a line
abbrev pub words_for : Event → List (List ℕ)
words_for (Begins p) = codes "begins" ∷ decimal p ∷ []
words_for (Dies p) = codes "dies" ∷ decimal p ∷ []
words_for (Lands p line) = codes "lands" ∷ decimal p ∷ decimal line ∷ []
words_for (Wants p line) = []
words_for (Intends p line) = codes "intends" ∷ decimal p ∷ decimal line ∷ []
words_for (Looks p q) = codes "looks" ∷ decimal p ∷ decimal q ∷ []
words_for (HandsOver p) = codes "hands-over" ∷ decimal p ∷ []
words_for (Performs h) = codes "performs" ∷ decimal h.worker ∷ decimal h.serial ∷ decimal h.line ∷ []
words_for (Ends i) = codes "ends" ∷ decimal i ∷ []
words_for (Opens a) = codes "opens" ∷ decimal a.worker ∷ decimal a.serial ∷ []

-- the line of an event: its words, one blank between each two
abbrev pub line_for : Event → List ℕ
line_for e = join_with_byte 32 (words_for e)

-- the lines of these events, each with a line feed at its end
abbrev pub lines_for : List Event → List ℕ
lines_for [] = []
lines_for (e ∷ es) = line_for e ++ 10 ∷ lines_for es

-- the worker is one of 0 to 16
abbrev pub IsWorker : ℕ → Type 0
IsWorker p = p ≤ MAX_WORKERS

-- the number has 64 bits
abbrev pub IsShort : ℕ → Type 0
IsShort number = number < 2 ^ 64

-- a log may have the event
abbrev pub MayStand : Event → Type 0
MayStand (Begins p) = IsWorker p
MayStand (Dies p) = IsWorker p
MayStand (Lands p line) = IsWorker p × IsShort line
MayStand (Wants p line) = ⊥
MayStand (Intends p line) = IsWorker p × IsShort line
MayStand (Looks p q) = IsWorker p × IsWorker q
MayStand (HandsOver p) = IsWorker p
MayStand (Performs h) = IsWorker h.worker × IsShort h.serial × IsShort h.line
MayStand (Ends i) = IsShort i
MayStand (Opens a) = IsWorker a.worker × IsShort a.serial

-- a log may have each of the events
abbrev pub MayAllStand : List Event → Type 0
MayAllStand [] = Unit {0}
MayAllStand (e ∷ es) = MayStand e × MayAllStand es

-- the text is the log of these events
pub record IsLog (text : List ℕ) (es : List Event) : Type 0 where
  pub lines : text ≡ lines_for es
  pub all : MayAllStand es
