-- Workers, their journals and their attempts at lines. Claims, registers, rounds and seats have no
-- part in it: a worker may attempt any line at any time.
use Rattle.std.specs.Prelude.{◌≡◌, ◌⊎◌, ℕ, zero, suc, ◌+◌, List, [], ◌∷◌, ◌++◌, length, take, drop, Option, None, ◌==◌, if◌then◌else◌}
use Rattle.std.specs.List.{slice_get}

-- an attempt, by its worker and its serial number in that worker's journal, from 1 on
pub record Attempt : Type 0 where
  pub worker : ℕ
  pub serial : ℕ

-- an attempt that was handed over, and its line
pub record Handing : Type 0 where
  pub worker : ℕ
  pub serial : ℕ
  pub line : ℕ

-- x is one of them
abbrev pub IsOneOf : {A : Type 0} → List A → A → Type 0
IsOneOf [] x = ⊥
IsOneOf (y ∷ ys) x = (y ≡ x) ⊎ IsOneOf ys x

-- no number stands there twice
abbrev pub AreDistinct : List ℕ → Type 0
AreDistinct [] = Unit {0}
AreDistinct (x ∷ xs) = (IsOneOf xs x → ⊥) × AreDistinct xs

-- A worker's process. One process at a time has the journal.
pub data Stage : Type 0 where
  -- no process has the journal
  Away : Stage
  -- it attempts no line
  Free : Stage
  -- It wants this line and has looked at the journals of these workers, before any intent. No worker
  -- should do that.
  Wanting : (line : ℕ) (seen : List ℕ) → Stage
  -- Its intent of this line is acknowledged, under this serial number. Since then it has looked at
  -- the journals of these workers.
  Clearing : (serial line : ℕ) (seen : List ℕ) → Stage

-- The state at a moment. Journals and processes go by the worker's number.
pub record Site : Type 0 where
  -- the lines of the intents in the journal that no stop of the machine takes, in their order
  pub kept : ℕ → List ℕ
  pub stage : ℕ → Stage
  -- the attempts that some record says were not begun, or not done, whether it is kept or not
  pub opened : List Attempt
  -- The attempts that were handed over and are not over: a runner has them, a command runs, or a
  -- request is under way.
  pub alive : List Handing
  -- the attempts whose lines were performed, the last one first
  pub performed : List Handing

-- the site at first: no attempt, and no process
abbrev pub first_site : Site
first_site = record { kept = λ p. []; stage = λ p. Away; opened = []; alive = []; performed = [] }

-- An event. A first number is the worker's.
pub data Event : Type 0 where
  -- The process dies: it is killed, an append fails, or the machine stops.
  Dies : ℕ → Event
  -- A process begins, and recovers the journal.
  Begins : ℕ → Event
  -- An intent of this line is in the journal after all, though nobody knows that its append came about.
  Lands : ℕ → (line : ℕ) → Event
  -- It wants this line, and will look before its intent.
  Wants : ℕ → (line : ℕ) → Event
  -- Its intent of this line is acknowledged.
  Intends : ℕ → (line : ℕ) → Event
  -- It reads the openings and then the journal of that worker, and nothing there stands against its line.
  Looks : ℕ → (other : ℕ) → Event
  -- It hands its attempt over.
  HandsOver : ℕ → Event
  -- The line of an attempt is performed.
  Performs : Handing → Event
  -- The attempt at this place among those that are alive is over.
  Ends : ℕ → Event
  -- The worker or an operator says that this attempt was not begun or not done.
  Opens : Attempt → Event

-- the same but at this number
abbrev pub with_at : {A : Type 0} → (ℕ → A) → ℕ → A → ℕ → A
with_at f p x q = if q == p then x else f q

-- with one journal more that was looked at
abbrev pub looked : ℕ → Stage → Stage
looked q Away = Away
looked q Free = Free
looked q (Wanting line seen) = Wanting line (q ∷ seen)
looked q (Clearing serial line seen) = Clearing serial line (q ∷ seen)

-- what a process has to hand over
abbrev pub in_hand : ℕ → Stage → List Handing
in_hand p Away = []
in_hand p Free = []
in_hand p (Wanting line seen) = []
in_hand p (Clearing serial line seen) = record { worker = p; serial = serial; line = line } ∷ []

-- the site after the next event
abbrev pub site_after : Site → Event → Site
site_after w (Dies p) = record w { stage = with_at w.stage p Away }
site_after w (Begins p) = record w { stage = with_at w.stage p Free }
site_after w (Lands p line) = record w { kept = with_at w.kept p (w.kept p ++ line ∷ []) }
site_after w (Wants p line) = record w { stage = with_at w.stage p (Wanting line []) }
site_after w (Intends p line) = record w {
  kept = with_at w.kept p (w.kept p ++ line ∷ []);
  stage = with_at w.stage p (Clearing (suc (length (w.kept p))) line []);
}
site_after w (Looks p q) = record w { stage = with_at w.stage p (looked q (w.stage p)) }
site_after w (HandsOver p) = record w { alive = in_hand p (w.stage p) ++ w.alive; stage = with_at w.stage p Free }
site_after w (Performs h) = record w { performed = h ∷ w.performed }
site_after w (Ends i) = record w { alive = take i w.alive ++ drop (i + 1) w.alive }
site_after w (Opens a) = record w { opened = a ∷ w.opened }

-- the line of the intent of this serial number among those of a journal
abbrev pub line_of : List ℕ → ℕ → Option ℕ
line_of lines zero = None
line_of lines (suc i) = slice_get lines i
