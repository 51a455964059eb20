-- Runs with the runners that begin the commands of what is handed over, and with doubts that are
-- listed.
use Rattle.std.specs.Prelude.{◌≡◌, ⊤, ℕ, ◌≤◌, Bool, true, false, ◌&&◌, List, [], ◌∷◌, ◌++◌, length, Some, ◌==◌, if◌then◌else◌}
use Rattle.amo_driver.specs.declared.model.Try.TheVariants.{Clear, Perform}
use Rattle.amo_run_log.specs.declared.journal.Attempt.{Attempt}
use Rattle.amo_run_log.specs.Journals.{journal_of}
use Rattle.amo_run_safety.specs.Site.{Site, first_site, Event, Stops, IsNumber}
use Rattle.amo_run_safety.specs.Run.{site_after, MayMiss, MayHappen, Handing, handings_by, openings_by, is_among, IsOneOf, names_of, IsKept}

-- The next action.
pub data Action : Type 0 where
  -- this, in the run
  Happens : Event → Action
  -- a runner begins the command of what was handed to it
  Begins : Handing → Action
  -- the command sends the request to perform its line
  Sends : Handing → Action
  -- the request arrives at its receiver, who performs the line
  Arrives : Handing → Action
  -- the request is lost: it won't arrive
  Vanishes : Handing → Action
  -- nothing of a command is left here: its lock is free
  Ends : Handing → Action
  -- what was handed to a runner will not be begun: it has declined it, or dropped it, or is gone
  Drops : Handing → Action
  -- the intent of this worker and serial number is listed as in doubt; it is of this line
  Lists : (worker serial line : ℕ) → Action

-- The site of the run, and its commands. Intents that were handed to runners may still be begun.
-- Some commands have something left here, and some have requests under way. Two lists have all
-- commands that have begun, and all that have performed their line, in their order.
pub record Yard : Type 0 where
  pub site : Site
  pub waiting : List Handing
  pub running : List Handing
  pub sent : List Handing
  pub begun : List Handing
  pub performed : List Handing

-- nothing was done yet
abbrev pub first_yard : Yard
first_yard = record { site = first_site; waiting = []; running = []; sent = []; begun = []; performed = [] }

-- those of another worker or serial number
abbrev pub without : Handing → List Handing → List Handing
without h [] = []
without h (x ∷ hs) = if (x.worker == h.worker) && (x.serial == h.serial) then without h hs else x ∷ without h hs

-- whether the machine stops
abbrev pub is_stop : Event → Bool
is_stop (Stops left n) = true
is_stop e = false

-- the same if the machine goes on; if it stops all runners and commands are gone, but not the
-- requests that they have sent
abbrev pub unless_stopped : Event → List Handing → List Handing
unless_stopped e hs = if is_stop e then [] else hs

-- what there is after the next action
abbrev pub yard_after : Yard → Action → Yard
yard_after y (Happens e) = record y {
  site = site_after y.site e;
  waiting = unless_stopped e (y.waiting ++ handings_by y.site e);
  running = unless_stopped e y.running;
}
yard_after y (Begins h) = record y { waiting = without h y.waiting; running = y.running ++ h ∷ []; begun = y.begun ++ h ∷ [] }
yard_after y (Sends h) = record y { sent = y.sent ++ h ∷ [] }
yard_after y (Arrives h) = record y { sent = without h y.sent; performed = y.performed ++ h ∷ [] }
yard_after y (Vanishes h) = record y { sent = without h y.sent }
yard_after y (Ends h) = record y { running = without h y.running }
yard_after y (Drops h) = record y { waiting = without h y.waiting }
yard_after y (Lists p n line) = y

-- The intent of worker p with this serial number is over on this machine. No process is about to
-- ask whether it may hand it over, or to hand it over. No runner is about to begin its command, and
-- nothing is left here of that command. The intent is over if the one that claims this holds the
-- locks of the journal, of the runner and of the command. A request that the command has sent may
-- still be under way.
pub record IsOver (y : Yard) (p n : ℕ) : Type 0 where
  pub asked : (j : ℕ) → MayMiss y.site.rounds (y.site.whereabouts p) (Clear n j) → ⊥
  pub due : (j : ℕ) → MayMiss y.site.rounds (y.site.whereabouts p) (Perform n j) → ⊥
  pub waits : is_among (names_of y.waiting) p n ≡ false
  pub runs : is_among (names_of y.running) p n ≡ false

-- It is in the journal, every stop leaves it there, and it is over.
pub record MayList (over : Yard → (p n : ℕ) → Type 0) (y : Yard) (p n line : ℕ) : Type 0 where
  pub number : IsNumber p
  pub kept : IsKept y.site (record { worker = p; serial = n; line = line })
  pub attempts : List Attempt
  pub journal : journal_of y.site.lines (y.site.journals p).kept ≡ Some attempts
  pub there : n ≤ length attempts
  pub its_end : over y p n

-- An intent is said not to have been begun, or done, only once it is over. A command sends its
-- request only while something of it is left here. The request arrives at any later time, and of
-- one command the line is performed once at most.
abbrev pub MayFollow : (over : Yard → (p n : ℕ) → Type 0) → Yard → Action → Type 0
MayFollow over y (Happens e) = MayHappen y.site e × ((p n : ℕ) → is_among (openings_by y.site e) p n ≡ true → over y p n)
MayFollow over y (Begins h) = IsOneOf y.waiting h
MayFollow over y (Sends h) = IsOneOf y.running h
MayFollow over y (Arrives h) = IsOneOf y.sent h × (is_among (names_of y.performed) h.worker h.serial ≡ false)
MayFollow over y (Vanishes h) = ⊤
MayFollow over y (Ends h) = ⊤
MayFollow over y (Drops h) = ⊤
MayFollow over y (Lists p n line) = MayList over y p n line

-- these may happen, one after the other, from here on
abbrev pub AreActionsFrom : (over : Yard → (p n : ℕ) → Type 0) → Yard → List Action → Type 0
AreActionsFrom over y [] = ⊤
AreActionsFrom over y (a ∷ actions) = MayFollow over y a × AreActionsFrom over (yard_after y a) actions

-- these actions may happen from the first on, if an intent is over by this
abbrev pub AreActionsBy : (over : Yard → (p n : ℕ) → Type 0) → List Action → Type 0
AreActionsBy over actions = AreActionsFrom over first_yard actions

-- these may happen from the first on
abbrev pub AreActions : List Action → Type 0
AreActions actions = AreActionsBy IsOver actions

-- and after all of these, in their order
abbrev pub yard_after_all : Yard → List Action → Yard
yard_after_all y [] = y
yard_after_all y (a ∷ actions) = yard_after_all (yard_after y a) actions

-- what there is after these
abbrev pub yard_of : List Action → Yard
yard_of actions = yard_after_all first_yard actions

-- what was said in an action not to have been begun or done
abbrev pub said_by : Yard → Action → List (ℕ × ℕ)
said_by y (Happens e) = openings_by y.site e
said_by y a = []

-- what is said in these, from here on
abbrev pub said_from : Yard → List Action → List (ℕ × ℕ)
said_from y [] = []
said_from y (a ∷ actions) = said_by y a ++ said_from (yard_after y a) actions

-- all intents of which it is ever said
abbrev pub said_in : List Action → List (ℕ × ℕ)
said_in actions = said_from first_yard actions

-- none of these intents stands there
abbrev pub AreNotAmong : List Handing → List (ℕ × ℕ) → Type 0
AreNotAmong hs is = (p n : ℕ) → is_among is p n ≡ true → is_among (names_of hs) p n ≡ false

-- An intent that is said not to have been begun or done is not among the selected ones when it is
-- said.
abbrev pub IsSaidOfNone : (Yard → List Handing) → Yard → List Action → Type 0
IsSaidOfNone these y [] = ⊤
IsSaidOfNone these y (a ∷ actions) = AreNotAmong (these y) (said_by y a) × IsSaidOfNone these (yard_after y a) actions

-- An intent that is said not to have been begun or done wasn't performed until then.
abbrev pub IsTruthful : List Action → Type 0
IsTruthful actions = IsSaidOfNone (λ (y : Yard). y.performed) first_yard actions

-- When it is said of an intent, none of its requests is under way: the one who says it has waited
-- for that.
abbrev pub IsPatient : List Action → Type 0
IsPatient actions = IsSaidOfNone (λ (y : Yard). y.sent) first_yard actions

-- their lines, in their order
abbrev pub lines_in : List Handing → List ℕ
lines_in [] = []
lines_in (h ∷ hs) = h.line ∷ lines_in hs

-- the events of the run
abbrev pub events_of : List Action → List Event
events_of [] = []
events_of (Happens e ∷ actions) = e ∷ events_of actions
events_of (a ∷ actions) = events_of actions
