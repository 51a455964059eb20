-- Which runs there are, by the rule that a worker keeps before it hands an attempt over.
use Rattle.std.specs.Prelude.{◌≡◌, ◌⊎◌, ◌≤◌, ◌<◌, ℕ, List, [], ◌∷◌, Some}
use Rattle.amo_safety_by_journals.specs.Model.{Attempt, Handing, IsOneOf, Away, Free, Wanting, Clearing, Site, first_site, site_after, Event, Dies, Begins, Lands, Wants, Intends, Looks, HandsOver, Performs, Ends, Opens, line_of}

-- The rule that a worker keeps before it hands an attempt over.
pub data Rule : Type 0 where
  -- it looks at all journals after its intent is acknowledged
  Clearance : Rule
  -- it looks at them before its intent
  EarlyClearance : Rule
  -- it looks at all journals but its own
  OthersAlone : Rule
  -- it looks at all journals but the last one
  ButTheLast : Rule
  -- an attempt in the journals that nobody opened doesn't stand against it
  PendingOpens : Rule
  -- it doesn't look
  NoClearance : Rule

-- Each attempt at the line in the journal of q is opened, but for the one itself. A reader may see
-- more than is kept, and less that is opened: then it hands over less.
abbrev pub IsClear : Site → ℕ → Attempt → ℕ → Type 0
IsClear w q own line = (serial : ℕ) → line_of (w.kept q) serial ≡ Some line
    → (record { worker = q; serial = serial } ≡ own) ⊎ IsOneOf w.opened (record { worker = q; serial = serial })

-- it has looked at the journals of all workers 0 to n
abbrev pub HasSeenAll : ℕ → List ℕ → Type 0
HasSeenAll n seen = (q : ℕ) → q ≤ n → IsOneOf seen q

-- after its intent is acknowledged the process finds its line clear in that journal
abbrev pub IsClearAfter : Site → ℕ → ℕ → Type 0
IsClearAfter w p q = (serial : ℕ) × (line : ℕ) × (seen : List ℕ) × (w.stage p ≡ Clearing serial line seen) × IsClear w q (record { worker = p; serial = serial }) line

-- whether the process may look at that journal, and finds its line clear there
abbrev pub MayLook : Rule → Site → ℕ → ℕ → Type 0
MayLook Clearance w p q = IsClearAfter w p q
MayLook OthersAlone w p q = IsClearAfter w p q
MayLook ButTheLast w p q = IsClearAfter w p q
MayLook PendingOpens w p q = (serial : ℕ) × (line : ℕ) × (seen : List ℕ) × (w.stage p ≡ Clearing serial line seen)
MayLook EarlyClearance w p q = (line : ℕ) × (seen : List ℕ) × (w.stage p ≡ Wanting line seen) × IsClear w q (record { worker = p; serial = 0 }) line
MayLook NoClearance w p q = ⊥

-- whether it may append an intent of this line
abbrev pub MayIntend : Rule → ℕ → Site → ℕ → ℕ → Type 0
MayIntend Clearance n w p line = w.stage p ≡ Free
MayIntend EarlyClearance n w p line = (seen : List ℕ) × (w.stage p ≡ Wanting line seen) × HasSeenAll n seen
MayIntend OthersAlone n w p line = w.stage p ≡ Free
MayIntend ButTheLast n w p line = w.stage p ≡ Free
MayIntend PendingOpens n w p line = w.stage p ≡ Free
MayIntend NoClearance n w p line = w.stage p ≡ Free

-- its intent is acknowledged, and it has looked at each journal that is wanted
abbrev pub HoldsAndHasSeen : Site → ℕ → (ℕ → Type 0) → Type 0
HoldsAndHasSeen w p wanted = (serial : ℕ) × (line : ℕ) × (seen : List ℕ) × (w.stage p ≡ Clearing serial line seen) × ((q : ℕ) → wanted q → IsOneOf seen q)

-- whether it may hand over
abbrev pub MayHandOver : Rule → ℕ → Site → ℕ → Type 0
MayHandOver Clearance n w p = HoldsAndHasSeen w p (λ q. q ≤ n)
MayHandOver OthersAlone n w p = HoldsAndHasSeen w p (λ q. (q ≤ n) × (q ≡ p → ⊥))
MayHandOver ButTheLast n w p = HoldsAndHasSeen w p (λ q. q < n)
MayHandOver PendingOpens n w p = HoldsAndHasSeen w p (λ q. q ≤ n)
MayHandOver EarlyClearance n w p = HoldsAndHasSeen w p (λ q. ⊥)
MayHandOver NoClearance n w p = HoldsAndHasSeen w p (λ q. ⊥)

-- this is the handing over of that attempt
abbrev pub IsOf : Attempt → Handing → Type 0
IsOf a h = (h.worker ≡ a.worker) × (h.serial ≡ a.serial)

-- The attempt is over, and did nothing. Its intent is kept. Nobody is about to hand it over.
-- Nothing of it is left or under way, and it has not performed its line.
pub record IsOver (w : Site) (a : Attempt) : Type 0 where
  pub kept : (line : ℕ) × (line_of (w.kept a.worker) a.serial ≡ Some line)
  pub not_held : (line : ℕ) (seen : List ℕ) → w.stage a.worker ≡ Clearing a.serial line seen → ⊥
  pub not_alive : (h : Handing) → IsOneOf w.alive h → IsOf a h → ⊥
  pub not_performed : (h : Handing) → IsOneOf w.performed h → IsOf a h → ⊥

-- whether an event may come next
abbrev pub MayFollow : Rule → ℕ → Site → Event → Type 0
MayFollow rule n w (Dies p) = Unit {0}
MayFollow rule n w (Begins p) = (w.stage p ≡ Away) × (p ≤ n)
MayFollow rule n w (Lands p line) = w.stage p ≡ Away
MayFollow rule n w (Wants p line) = (rule ≡ EarlyClearance) × (w.stage p ≡ Free)
MayFollow rule n w (Intends p line) = MayIntend rule n w p line
MayFollow rule n w (Looks p q) = MayLook rule w p q
MayFollow rule n w (HandsOver p) = MayHandOver rule n w p
MayFollow rule n w (Performs h) = IsOneOf w.alive h × (IsOneOf w.performed h → ⊥)
MayFollow rule n w (Ends i) = Unit {0}
MayFollow rule n w (Opens a) = IsOver w a

-- such events, from a site on
abbrev pub IsRunFrom : Rule → ℕ → Site → List Event → Type 0
IsRunFrom rule n w [] = Unit {0}
IsRunFrom rule n w (e ∷ es) = MayFollow rule n w e × IsRunFrom rule n (site_after w e) es

-- a run of workers 0 to n by that rule
abbrev pub IsRun : Rule → ℕ → List Event → Type 0
IsRun rule n es = IsRunFrom rule n first_site es

-- the site after all these events
abbrev pub site_from : Site → List Event → Site
site_from w [] = w
site_from w (e ∷ es) = site_from (site_after w e) es

-- the site after all these events, from the first site on
abbrev pub site_of : List Event → Site
site_of es = site_from first_site es
