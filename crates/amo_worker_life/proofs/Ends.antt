-- A worker whose part of the round is over has paid what it owed.
use Rattle.std.proofs.Common.{◌≡◌, inl, inr, ℕ, false, List, Option, None, refl, ap, subst}
use Rattle.amo_driver.specs.declared.answer.Reply.TheVariants.{Closed}
use Rattle.amo_driver.specs.declared.model.Try.{Try}
use Rattle.amo_driver.specs.declared.stop.LifeEnd.{LifeEnd}
use Rattle.amo_driver.specs.declared.stop.LifeEnd.TheVariants.{Over, Left, Cut}
use Rattle.amo_driver.specs.Course.{access_tried, due}
use Rattle.amo_driver.specs.Stage.{Stage, Going, Gone, Unanswered, Broken as BrokenStage}
use Rattle.amo_driver.specs.Stops.{EndsAt}
use Rattle.amo_host.specs.Calls.{HasPaid}
use Rattle.amo_host.specs.Logs.{Logs}
use Rattle.amo_host.specs.Phase.{Identity, Phase, Works}
use Rattle.amo_host.specs.Protocol.{stage_by, Moves}
use Rattle.amo_worker_life.specs.declared.halt.Halt.{Halt}
use Rattle.amo_worker_life.specs.declared.halt.Health.{Health}
use Rattle.amo_worker_life.specs.declared.halt.Health.TheVariants.{Fine, Broken, Lost}
use Rattle.amo_worker_life.specs.Where.{IsOver, WorksAt}

module _ (before after : Phase → Type 0) (me : Identity) (jobs : List ℕ) (logs : Logs) (moves : Moves before after HasPaid) where
  paid_at : (h : Health) (halt : Option Halt) (st : Stage) → WorksAt before me jobs logs h halt st → due st ≡ None → (st ≡ BrokenStage → ⊥) → after (Works me jobs st false logs)
  paid_at Fine halt st at none fine =
      subst (λ (o : Option Try). after (Works me jobs (stage_by o st HasPaid) false logs)) none (moves (Works me jobs st at.0 logs) at.1 (inr (none, inl refl)))
  paid_at Broken halt st at none fine = absurd (fine at.0)
  paid_at Lost halt st at none fine = absurd (fine at.0)

  pub ends_over : (h : Health) (halt : Option Halt) (end : LifeEnd) → EndsAt (WorksAt before me jobs logs h halt) end → IsOver after me jobs logs (λ st. EndsAt (λ s. s ≡ st) end)
  ends_over h halt Over ends =
      let none : due (Going ends.0 ends.1 ends.2) ≡ None = ap access_tried ends.4 in
      (Going ends.0 ends.1 ends.2, (ends.0, ends.1, ends.2, refl, ends.4, ends.5), none, paid_at h halt (Going ends.0 ends.1 ends.2) ends.3 none (λ e. cc))
  ends_over h halt Left ends = (Gone, refl, refl, paid_at h halt Gone ends refl (λ e. cc))
  ends_over h halt (Cut s) ends = (Unanswered s Closed, refl, refl, paid_at h halt (Unanswered s Closed) ends refl (λ e. cc))

-- one that has ended so is fine
pub ends_fine : (stands : Phase → Type 0) (me : Identity) (jobs : List ℕ) (logs : Logs) (h : Health) (halt : Option Halt) (end : LifeEnd) → EndsAt (WorksAt stands me jobs logs h halt) end → h ≡ Fine
ends_fine stands me jobs logs Fine halt end ends = refl
ends_fine stands me jobs logs Broken halt Over ends = absurd (let at = ends.3.0 in cc)
ends_fine stands me jobs logs Broken halt Left ends = absurd (let at = ends.0 in cc)
ends_fine stands me jobs logs Broken halt (Cut s) ends = absurd (let at = ends.0 in cc)
ends_fine stands me jobs logs Lost halt Over ends = absurd (let at = ends.3.0 in cc)
ends_fine stands me jobs logs Lost halt Left ends = absurd (let at = ends.0 in cc)
ends_fine stands me jobs logs Lost halt (Cut s) ends = absurd (let at = ends.0 in cc)
