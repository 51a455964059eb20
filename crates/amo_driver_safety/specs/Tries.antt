-- The tries of moments, and their workers.
use Rattle.std.specs.Prelude.{◌≢◌, ⊤, ℕ, List, [], ◌∷◌, Option, Some, None}
use Rattle.amo_driver.specs.declared.model.Try.{Try}
use Rattle.amo_driver.specs.Course.{try_of}
use Rattle.amo_driver_safety.specs.declared.model.Moment.{Moment}
use Rattle.amo_driver_safety.specs.declared.model.Moment.TheVariants.{Does, Loses, Begins}

-- the worker of a moment
abbrev pub worker_of : Moment → ℕ
worker_of (Does p d) = p
worker_of (Loses p t) = p
worker_of (Begins p n) = p

-- what is tried in a moment, whether it comes about or not
abbrev pub tried_in : Moment → Option Try
tried_in (Does p d) = Some (try_of d)
tried_in (Loses p t) = Some t
tried_in (Begins p n) = None

-- no process begins as worker p in these
abbrev pub NoneBegins : ℕ → List Moment → Type 0
NoneBegins p [] = ⊤
NoneBegins p (Begins q n ∷ ms) = (q ≢ p) × NoneBegins p ms
NoneBegins p (m ∷ ms) = NoneBegins p ms
