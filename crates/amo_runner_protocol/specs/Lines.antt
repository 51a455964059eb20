-- The lines of a worker that has everything done by lines: a line for each try, and a line in
-- reply.
use Rattle.std.specs.Prelude.{ℕ, List, ◌++◌, codes, Bool, true, false, Option, Some, None, if◌then◌else◌}
use Rattle.std.specs.Fmt.{decimal}
use Rattle.std.specs.Str.{bytes_eq}
use Rattle.amo_decimal.specs.Numbers.{number_in}
use Rattle.amo_driver.specs.declared.answer.JobResult.{JobResult}
use Rattle.amo_driver.specs.declared.answer.JobResult.TheVariants.{Done, Doubt, Unbegun, Untouched}
use Rattle.amo_driver.specs.declared.answer.Reply.{Reply}
use Rattle.amo_driver.specs.declared.answer.Reply.TheVariants.{Closed}
use Rattle.amo_driver.specs.declared.model.Deed.{Deed}
use Rattle.amo_driver.specs.declared.model.Deed.TheVariants.{Loaded, Stored, Found, Intended, Cleared, Performed, Noted, Asked, Fell}
use Rattle.amo_driver.specs.declared.model.Try.{Try}
use Rattle.amo_driver.specs.declared.model.Try.TheVariants.{Load, Store, Find, Intend, Clear, Perform, Note, Ask}
use Rattle.amo_runner_protocol.specs.Replies.{reply_in}

-- words, a blank, a number, and the end of the line
abbrev pub one : List ℕ → ℕ → List ℕ
one words a = words ++ (codes " " ++ (decimal a ++ codes "\n"))

-- words and two numbers
abbrev pub two : List ℕ → ℕ → ℕ → List ℕ
two words a b = words ++ (codes " " ++ (decimal a ++ (codes " " ++ (decimal b ++ codes "\n"))))

-- the line that notes an answer to the intent of this serial number
abbrev pub note_text : ℕ → JobResult → List ℕ
note_text serial (Done code) = two (codes "note done") serial code
note_text serial Doubt = one (codes "note doubt") serial
note_text serial Unbegun = one (codes "note unbegun") serial
note_text serial (Untouched code) = two (codes "note untouched") serial code

-- the line of what is tried, its end with it
abbrev pub text_of : Try → List ℕ
text_of (Load word) = one (codes "load") word
text_of (Store word value) = two (codes "store") word value
text_of (Find job) = one (codes "found") job
text_of (Intend serial job) = two (codes "intend") serial job
text_of (Clear serial job) = two (codes "clear") serial job
text_of (Perform serial job) = two (codes "perform") serial job
text_of (Note serial answer) = note_text serial answer
text_of (Ask serial line) = two (codes "was") serial line

-- whether a line came that agrees, by one word
abbrev pub is_agreed : Option (List ℕ) → Bool
is_agreed (Some line) = bytes_eq line (codes "ok")
is_agreed None = false

-- the number that came
abbrev pub number_heard : Option (List ℕ) → Option ℕ
number_heard (Some line) = number_in line
number_heard None = None

-- what a line says of a job: that it may be handed over (true), or that it is taken (false); any
-- other line says nothing
abbrev pub clear_in : List ℕ → Option Bool
clear_in line = if bytes_eq line (codes "clear") then Some true else (if bytes_eq line (codes "taken") then Some false else None)

-- the same of what came
abbrev pub clear_heard : Option (List ℕ) → Option Bool
clear_heard (Some line) = clear_in line
clear_heard None = None

-- the reply to a job; if no line came, the partner is gone
abbrev pub reply_heard : Option (List ℕ) → Reply
reply_heard (Some line) = reply_in line
reply_heard None = Closed

-- a word was loaded, or that failed
abbrev pub loaded : ℕ → Option ℕ → Deed
loaded word (Some value) = Loaded word value
loaded word None = Fell (Load word)

-- it was said whether a job may be handed over, or that failed
abbrev pub cleared : (serial job : ℕ) → Option Bool → Deed
cleared serial job (Some clear) = Cleared serial job clear
cleared serial job None = Fell (Clear serial job)

-- the deed of a try, by the line in reply, without its end; without a whole line in reply nothing
-- was done
abbrev pub deed_of : Try → Option (List ℕ) → Deed
deed_of (Load word) heard = loaded word (number_heard heard)
deed_of (Store word value) heard = if is_agreed heard then Stored word value else Fell (Store word value)
deed_of (Find job) heard = if is_agreed heard then Found job else Fell (Find job)
deed_of (Intend serial job) heard = if is_agreed heard then Intended serial job else Fell (Intend serial job)
deed_of (Clear serial job) heard = cleared serial job (clear_heard heard)
deed_of (Perform serial job) heard = Performed serial job (reply_heard heard)
deed_of (Note serial answer) heard = if is_agreed heard then Noted serial answer else Fell (Note serial answer)
deed_of (Ask serial line) heard = Asked serial line (reply_heard heard)
