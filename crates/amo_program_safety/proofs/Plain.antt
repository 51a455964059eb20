-- Calls that neither append to logs nor read them, and take no lock on a journal.
use Rattle.std.proofs.Common.{◌≡◌, ◌⊎◌, ⊎_elim, ℕ, List, Option, Some, None, refl, sym, ap, ◌∙◌, subst}
use Rattle.std.specs.Prelude.{⊤}
use Rattle.amo_safety_by_journals.specs.Model.{Site}
use Rattle.amo_host.specs.declared.model.LogFile.{LogFile}
use Rattle.amo_host.specs.declared.model.LogFile.TheVariants.{Journal}
use Rattle.amo_host.specs.declared.model.RunLock.TheVariants.{Guard, Round}
use Rattle.amo_host.specs.Calls.{Request, TryLock, Recover, ReadLog, Put, Owe, Pay, ReadOn}
use Rattle.amo_host.specs.Calls.{Call, Tried, Recovered, LogIs, HasPut, HasOwed, HasPaid, HasRead, Fell, request_of}
use Rattle.amo_host.specs.Phase.{Phase, Ended}
use Rattle.amo_host.specs.Protocol.{phase_after}
use Rattle.amo_run_log.specs.declared.entry.Entry.{Entry}
use Rattle.amo_program_safety.specs.World.{Log, Process, World, journal_by, read_by, guard_by, process_by, text_by}
use Rattle.amo_program_safety.proofs.Standing.{Quiet, Halted, At}
use Rattle.amo_program_safety.proofs.Moves.{Reaches}
use Rattle.amo_program_safety.proofs.Acting.{turns_none, halts, stays, nothing_written}
use Rattle.amo_program_safety.proofs.Steps.{Made, next_world, OwesNoMore, stand_by, quiet_on}

pub record IsPlain (pid : ℕ) (c : Call) : Type 0 where
  pub log : (l : Log) (owed : Option Entry) → journal_by l owed c ≡ l
  pub guard : (g : ℕ → Option ℕ) → guard_by g pid c ≡ g
  pub read : (read : LogFile → List (List ℕ)) → read_by read c ≡ read
  pub owes : OwesNoMore c
  pub text : (owed : Option Entry) → text_by owed (request_of c) ≡ None

abbrev pub IsPlainRequest : Request → Type 0
IsPlainRequest (TryLock (Guard worker) hold) = ⊥
IsPlainRequest (Recover last) = ⊥
IsPlainRequest (ReadLog log last) = ⊥
IsPlainRequest (Put entry) = ⊥
IsPlainRequest (Owe entry) = ⊥
IsPlainRequest Pay = ⊥
IsPlainRequest (ReadOn log) = ⊥
IsPlainRequest r = ⊤

pub plain_text : (r : Request) → IsPlainRequest r → (owed : Option Entry) → text_by owed r ≡ None
plain_text (TryLock (Guard worker) hold) is owed = absurd is
plain_text (Put entry) is owed = absurd is
plain_text Pay is owed = absurd is
plain_text r is owed = refl

pub plain_call : (pid : ℕ) (c : Call) → IsPlainRequest (request_of c) → IsPlain pid c
plain_call pid (Tried (Guard worker) hold got) is = absurd is
plain_call pid (Recovered last texts) is = absurd is
plain_call pid (LogIs log last texts counted) is = absurd is
plain_call pid (HasPut entry) is = absurd is
plain_call pid (HasOwed entry) is = absurd is
plain_call pid HasPaid is = absurd is
plain_call pid (HasRead log texts) is = absurd is
plain_call pid (Fell r) is = record { log = λ l owed. refl; guard = λ g. refl; read = λ read. refl; owes = tt; text = plain_text r is }
plain_call pid (Tried Round hold got) is = record { log = λ l owed. refl; guard = λ g. refl; read = λ read. refl; owes = tt; text = λ owed. refl }
plain_call pid c is = record { log = λ l owed. refl; guard = λ g. refl; read = λ read. refl; owes = tt; text = λ owed. refl }

-- The call changes neither the journal nor a lock, and adds no owed entry, as a failed call does.
-- Its append may still have been written.
pub record IsSilent (pid : ℕ) (c : Call) : Type 0 where
  pub log : (l : Log) (owed : Option Entry) → journal_by l owed c ≡ l
  pub guard : (g : ℕ → Option ℕ) → guard_by g pid c ≡ g
  pub owes : OwesNoMore c

pub fell_silent : (pid : ℕ) (r : Request) → IsSilent pid (Fell r)
fell_silent pid r = record { log = λ l owed. refl; guard = λ g. refl; owes = tt }

pub plain_silent : (pid : ℕ) (c : Call) → IsPlain pid c → IsSilent pid c
plain_silent pid c is = record { log = is.log; guard = is.guard; owes = is.owes }

module _ (w : World) (v : Site) (pid : ℕ) (p : Process) (ph : Phase) (c : Call) (m : Made w v pid p ph c) where
  -- The process may do nothing any more after this call.
  pub ends : w.guard p.worker ≡ Some pid → IsSilent pid c
      → ((v' : Site) → Halted (next_world w pid p c) v' pid (process_by p c) → At (next_world w pid p c) v' pid (process_by p c) (phase_after ph c))
      → Reaches v (next_world w pid p c)
  ends own is here = halts w v m.goes pid p m.lives c own (is.guard w.guard) (is.log (w.logs (Journal p.worker)) p.owed)
      (λ v' away turned. stand_by w v v' pid p ph c m is.owes turned (here v' (λ holds. away)))

  -- A quiet process stays quiet after a plain call, or may do nothing any more.
  pub quiet_step : Quiet w v pid p → IsPlain pid c
      → (Quiet (next_world w pid p c) v pid (process_by p c) → (phase_after ph c ≡ Ended) ⊎ At (next_world w pid p c) v pid (process_by p c) (phase_after ph c))
      → Reaches v (next_world w pid p c)
  quiet_step quiet is next = ⊎_elim
      (λ e. ends quiet.owns.guard (plain_silent pid c is) (λ v' halted. subst (At (next_world w pid p c) v' pid (process_by p c)) (sym e) halted))
      (λ here. stays w v m.goes pid p m.lives c (is.log (w.logs (Journal p.worker)) p.owed) (is.guard w.guard) (stand_by w v v pid p ph c m is.owes (turns_none v p.worker) here))
      (next (quiet_on w v pid p c quiet.owns.guard (is.guard w.guard)
      (ap (λ (l : Log). l.rest) (is.log (w.logs (Journal p.worker)) p.owed) ∙ (quiet.owns.rest ∙ nothing_written p (request_of c) m.its (is.text p.owed)))
      quiet.free))
