-- The report of a fault by its line and its status, and the end of a program by its fault and that
-- report.
use Rattle.std.proofs.Common.{◌≡◌, inl, inr, ℕ, Bool, List, Option, Some, Err, refl, sym, subst}
use Rattle.std.specs.Io.KnownBytes.{Keeps}
use Rattle.amo_plan.specs.declared.fault.PlanFault.{PlanFault}
use Rattle.amo_render.specs.declared.writing.ReplayFault.{ReplayFault}
use Rattle.amo_render.specs.declared.writing.ReplayFault.TheVariants as replay
use Rattle.amo_render.specs.Written.{is_failed_read, is_failed_write}
use Rattle.amo_cli.specs.declared.fault.Fault.{Fault}
use Rattle.amo_cli.specs.declared.fault.Fault.TheVariants.{Plan, NoMemory}
use Rattle.amo_cli.specs.Faults.{fault_of_replay, line_of, status_of}
use Rattle.amo_cli.specs.Endings.{Change, Says, Tells, IsTold}
use Rattle.amo_cli.specs.Statuses.{Left, IsFault, IsPassedOn, Ends}

told_itself : (fault : Fault) (err : Change) (status : ℕ) → Tells fault err status → IsTold fault err status
told_itself (Plan f) err status h = inl h
told_itself fault err status h = h

-- a fault is reported if its line was given and its status is returned
pub told : (given fault : Fault) (err : Change) (status : ℕ) → given ≡ fault → Says err (line_of fault) → status ≡ status_of fault → IsTold given err status
told given fault err status e line same = subst (λ f. IsTold f err status) (sym e) (told_itself fault err status (line, same))

-- the faults of texts say nothing of what waits
pub texts_pass : (fault : ReplayFault) (waits : Bool) → IsPassedOn (fault_of_replay fault) waits
texts_pass (replay.Plan f) waits = tt
texts_pass fault waits = tt

module _ {C : Type 0} (refuses : C → ReplayFault → Left) (others : C → Left) where
  -- what a text says of its fault is what the program says of it, where memory that was refused leaves nothing written
  pub of_text : ((c : C) (known old new : Option (List ℕ)) → refuses c replay.NoMemory known old new → Keeps old new)
      → (reader out : Change) (command : C) (fault : ReplayFault) → refuses command fault reader.before out.before out.after
      → reader.failed ≡ is_failed_read {A = Unit {0}} (Err fault) → out.failed ≡ is_failed_write {A = Unit {0}} (Err fault)
      → IsFault refuses others (fault_of_replay fault) (Some command) reader out
  of_text keeps reader out command (replay.Plan f) left source sink = record { left = record { command = command; asked = refl; left = left }; source = source; sink = sink }
  of_text keeps reader out command replay.Read left source sink = record { left = record { command = command; asked = refl; left = left }; source = source; sink = sink }
  of_text keeps reader out command replay.Write left source sink = record { left = record { command = command; asked = refl; left = left }; source = source; sink = sink }
  of_text keeps reader out command replay.NoMemory left source sink = record { left = keeps command _ _ _ left; source = source; sink = sink }

module _ {C : Type 0} (writes : C → Left) (refuses : C → ReplayFault → Left) (others : C → Left) (wanted : Option C) (reader out : Change) where
  -- the fault that came, and the one that was reported: if the line of a plan's fault found no
  -- memory, out of memory was reported
  pub ends_by : ((c : C) (f : PlanFault) (known old new : Option (List ℕ)) → refuses c (replay.Plan f) known old new → Keeps old new)
      → (fault : Fault) (waits : Bool) (err : Change) (status : ℕ) → IsFault refuses others fault wanted reader out → IsPassedOn fault waits → IsTold fault err status
      → Ends writes refuses others wanted reader out waits err status
  ends_by keeps (Plan f) waits err status cause passed (inl line) = inr (Plan f, cause, passed, line)
  ends_by keeps (Plan f) waits err status cause passed (inr line) =
      inr (NoMemory, record { left = keeps cause.left.command f _ _ _ cause.left.left; source = cause.source; sink = cause.sink }, tt, line)
  ends_by keeps fault waits err status cause passed line = inr (fault, cause, passed, line)
