-- The trace of a plan: where its workers open, and a line for each transition.
use Rattle.std.specs.Prelude.{ℕ, zero, suc, Bool, not, ◌&&◌, List, [], ◌∷◌, ◌++◌, length, if◌then◌else◌, codes}
use Rattle.std.specs.Fmt.{decimal}
use Rattle.amo_kk.specs.Record.{wants_nothing}
use Rattle.amo_kk.specs.World.{process, opening_world}
use Rattle.amo_kk.specs.declared.model.Process.{Process}
use Rattle.amo_kk.specs.declared.model.World.{World}
use Rattle.amo_kk.specs.declared.phase.Phase.{Phase}
use Rattle.amo_kk.specs.declared.phase.Phase.TheVariants.{Announcing, Trying, Reading, Claiming, Holding, Over, Left}
use Rattle.amo_kk.specs.declared.phase.Want.{Want}
use Rattle.amo_kk.specs.declared.phase.Want.TheVariants.{StoreNext, LoadNext, LoadDone, StoreClaim, StoreDone, Nothing}
use Rattle.amo_plan.specs.Plan.{PlanSeen}
use Rattle.amo_render.specs.Numbers.{first_line}
use Rattle.amo_trace.specs.declared.transition.Act.{Act}
use Rattle.amo_trace.specs.declared.transition.Act.TheVariants.{Turned, Leaves, Stops, Stays, Idles}
use Rattle.amo_trace.specs.declared.transition.Fact.{Fact}
use Rattle.amo_trace.specs.declared.transition.Fact.TheVariants.{Plain, Tried, Known, Failed, Claimed, Done}
use Rattle.amo_trace.specs.declared.transition.Transition.{Transition}
use Rattle.amo_trace.specs.Transitions.{fact_of, transitions_of}

-- `next[P]`, `claim[P]`
unfoldable pub next_word : ℕ → List ℕ
next_word p = codes "next[" ++ decimal p ++ codes "]"

-- the name of worker p's count of claims
unfoldable pub claim_word : ℕ → List ℕ
claim_word p = codes "claim[" ++ decimal p ++ codes "]"

-- `done[P][K]`
unfoldable pub done_word : ℕ → ℕ → List ℕ
done_word p k = codes "done[" ++ decimal p ++ codes "][" ++ decimal k ++ codes "]"

-- ` = V`
unfoldable pub equals : ℕ → List ℕ
equals v = codes " = " ++ decimal v

-- the word that worker p loads or stores, if any
unfoldable pub wanted_word : ℕ → Want → List ℕ
wanted_word p (StoreNext j) = next_word p
wanted_word p (LoadNext q) = next_word q
wanted_word p (LoadDone q k) = done_word q k
wanted_word p (StoreClaim c j) = claim_word p
wanted_word p (StoreDone k j) = done_word p k
wanted_word p Nothing = []

-- what worker p loads, which gives v, or what it stores
unfoldable pub want_words : ℕ → Want → ℕ → List ℕ
want_words p (StoreNext j) v = codes "stores " ++ next_word p ++ equals j
want_words p (LoadNext q) v = codes "loads " ++ next_word q ++ equals v
want_words p (LoadDone q k) v = codes "loads " ++ done_word q k ++ equals v
want_words p (StoreClaim c j) v = codes "stores " ++ claim_word p ++ equals c
want_words p (StoreDone k j) v = codes "stores " ++ done_word p k ++ equals j
want_words p Nothing v = codes "idles"

-- what worker p does; a leaving stores 0 to its announcement
abbrev pub act_words : ℕ → Act → List ℕ
act_words p (Turned want v) = want_words p want v
act_words p Leaves = want_words p (StoreNext 0) 0
act_words p Stops = codes "stops"
act_words p Stays = codes "stays"
act_words p Idles = codes "idles"

-- the further effect, after a space, if the act has an effect that its own words don't have
unfoldable pub fact_words : Fact → List ℕ
fact_words Plain = []
fact_words (Tried v) = codes " tried " ++ decimal v
fact_words (Known v) = codes " known " ++ decimal v
fact_words (Failed j) = codes " failed " ++ decimal j
fact_words (Claimed j) = codes " claimed " ++ decimal j
fact_words (Done j) = codes " done " ++ decimal j

-- the state of a worker that isn't stopped
unfoldable pub phase_words : Phase → List ℕ
phase_words (Announcing j) = codes "announcing " ++ decimal j
phase_words (Trying j q) = codes "trying " ++ decimal j ++ codes " at " ++ decimal q
phase_words (Reading j q) = codes "reading " ++ decimal j ++ codes " at " ++ decimal q
phase_words (Claiming j) = codes "claiming " ++ decimal j
phase_words (Holding j) = codes "holding " ++ decimal j
phase_words Over = codes "ended"
phase_words Left = codes "left"

-- the state of a worker: it is halted if it is gone in a phase in which it would go on
abbrev pub state_words : Phase → Bool → List ℕ
state_words phase gone = if gone && not (wants_nothing phase) then codes "halted" else phase_words phase

-- `0 worker P opens now STATE`
unfoldable pub opening_line : ℕ → Process → List ℕ
opening_line p a = codes "0 worker " ++ decimal p ++ codes " opens now " ++ state_words a.local.phase a.gone ++ codes "\n"

-- such a line for each of the workers 1..n
abbrev pub opening_lines : World → ℕ → List ℕ
opening_lines w zero = []
opening_lines w (suc n) = opening_lines w n ++ opening_line (suc n) (process w (suc n))

-- `N worker P ACT FACT now STATE`
unfoldable pub transition_words : Transition → List ℕ
transition_words s =
    decimal s.number ++ codes " worker " ++ decimal s.worker ++ codes " "
    ++ act_words s.worker s.act ++ fact_words (fact_of s) ++ codes " now " ++ state_words s.after s.gone

-- a line for each transition
abbrev pub transition_lines : List Transition → List ℕ
transition_lines [] = []
transition_lines (s ∷ ss) = transition_words s ++ codes "\n" ++ transition_lines ss

-- these after the first line of a report
unfoldable pub trace_of : PlanSeen → List ℕ
trace_of p =
    first_line p.version p.block (length p.names) p.givens
    ++ opening_lines (opening_world p.givens) p.givens.workers
    ++ transition_lines (transitions_of p)
