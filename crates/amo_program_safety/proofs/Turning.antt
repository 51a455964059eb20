-- The changes that a step of a command makes, for this command and for the others.
use Rattle.std.proofs.Common.{◌≡◌, ℕ, [], Option, Some, None, refl, sym, ap, ◌∙◌, subst}
use Rattle.std.specs.Prelude.{⊤, Bool, true, false, ◌==◌, if◌then◌else◌}
use Rattle.std.proofs.lemmas.Bool.{ne_eqb}
use Rattle.amo_safety_by_journals.specs.Model.{Site, with_at, line_of}
use Rattle.amo_safety_by_journals.specs.Runs.{site_from}
use Rattle.amo_host.specs.declared.model.LogFile.{LogFile}
use Rattle.amo_operator.specs.declared.model.OperatorLock.TheVariants.{Answers as AnswersLock, Journal as JournalLock, Runner, Command as CommandLock}
use Rattle.amo_operator.specs.Calls.{Call, Tried, HasUnlocked, HasUnlockedAll, Recovered, HasPutDoubt, HasPutAnswer}
use Rattle.amo_operator.specs.Protocol.{phase_after}
use Rattle.amo_program_safety.specs.World.{Log, World, freed}
use Rattle.amo_program_safety.specs.Machine.{Operator, Machine, called, held_by, logs_by}
use Rattle.amo_program_safety.proofs.Standing.{Settled, Goes}
use Rattle.amo_program_safety.proofs.Moves.{Reaches}
use Rattle.amo_program_safety.proofs.Ordering.{StandsAt, Runs, Leads}
use Rattle.amo_program_safety.proofs.Points.{at_number}
use Rattle.amo_program_safety.proofs.Settling.{settled_from, kept_from}
use Rattle.amo_program_safety.proofs.Staying.{stands_still}

-- Settled attempts stay settled, and kept intents stay kept.
pub record Turned (v v' : Site) : Type 0 where
  pub settled : (q s : ℕ) → Settled v q s → Settled v' q s
  pub kept : (q s line : ℕ) → line_of (v.kept q) s ≡ Some line → line_of (v'.kept q) s ≡ Some line

pub freed_keeps : (x : Option ℕ) (pid r : ℕ) → (r ≡ pid → ⊥) → x ≡ Some r → freed x pid ≡ Some r
freed_keeps None pid r n is = absurd (cc is)
freed_keeps (Some h) pid r n is = let same : h ≡ r = cc in ap (λ b. if b then None else Some h) (ne_eqb h pid (λ e. n (sym same ∙ e))) ∙ is

pub freed_had : (x : Option ℕ) (pid r : ℕ) → freed x pid ≡ Some r → x ≡ Some r
freed_had None pid r is = is
freed_had (Some h) pid r is = by_test (h == pid) is
  where
    by_test : (b : Bool) → (if b then None else Some h) ≡ Some r → Some h ≡ Some r
    by_test true none = absurd (cc none)
    by_test false is = is

-- The machine after a step of this command, with this world, this command and these locks.
abbrev pub turned_to : Machine → World → (pid : ℕ) → Operator → (held : ℕ → Option ℕ) → Machine
turned_to m w pid o held = record m { world = w; operator = with_at m.operator pid (Some o); held = held }

-- The other commands keep their locks on journals.
abbrev pub KeepsOthers : Machine → (pid : ℕ) → (held : ℕ → Option ℕ) → Type 0
KeepsOthers m pid held = (r : ℕ) → (r ≡ pid → ⊥) → (q : ℕ) → m.held q ≡ Some r → held q ≡ Some r

module _ (m : Machine) (v : Site) (runs : Runs m v) (w : World) (pid : ℕ) (o : Operator) (held : ℕ → Option ℕ) where
  pub leads : (reach : Reaches v w) → ((q r : ℕ) → held q ≡ Some r → w.guard q ≡ None) → KeepsOthers m pid held
      → ((v' : Site) → Turned v v' → Goes w v' → StandsAt (turned_to m w pid o held) v' pid o.phase)
      → Leads v (turned_to m w pid o held)
  leads reach apart others new = record {
    events = reach.events;
    run = reach.run;
    runs = record { goes = reach.goes; apart = apart; stands = stands };
  }
    where
      turned : Turned v (site_from v reach.events)
      turned = record { settled = settled_from v reach.events; kept = kept_from v reach.events }

      stands : (r : ℕ) (x : Operator) → with_at m.operator pid (Some o) r ≡ Some x → StandsAt (turned_to m w pid o held) (site_from v reach.events) r x.phase
      stands r x is = at_number (λ (y : Option Operator). y ≡ Some x → StandsAt (turned_to m w pid o held) (site_from v reach.events) r x.phase) m.operator pid (Some o) r
          (λ (e : r ≡ pid) (s : Some o ≡ Some x).
          let same : o ≡ x = cc s in
          subst (λ (y : Operator). StandsAt (turned_to m w pid o held) (site_from v reach.events) r y.phase) same
          (subst (λ (n : ℕ). StandsAt (turned_to m w pid o held) (site_from v reach.events) n o.phase) (sym e) (new (site_from v reach.events) turned reach.goes)))
          (λ (n : r ≡ pid → ⊥) (s : m.operator r ≡ Some x).
          stands_still m (turned_to m w pid o held) v (site_from v reach.events) r x.phase turned.settled turned.kept (others r n) (runs.stands r x s))
          is

-- ---- calls that change no log and no lock on a journal

abbrev pub IsStill : Call → Type 0
IsStill (Tried (JournalLock w) true) = ⊥
IsStill (HasUnlocked w) = ⊥
IsStill HasUnlockedAll = ⊥
IsStill (Recovered log last texts) = ⊥
IsStill (HasPutDoubt i time) = ⊥
IsStill (HasPutAnswer f) = ⊥
IsStill c = ⊤

record Stills (pid : ℕ) (c : Call) : Type 0 where
  pub logs : (l : LogFile → Log) → logs_by l c ≡ l
  pub held : (h : ℕ → Option ℕ) → held_by h pid c ≡ h

stills : (pid : ℕ) (c : Call) → IsStill c → Stills pid c
stills pid (Tried (JournalLock w) true) is = absurd is
stills pid (Tried (JournalLock w) false) is = record { logs = λ l. refl; held = λ h. refl }
stills pid (Tried AnswersLock got) is = record { logs = λ l. refl; held = λ h. refl }
stills pid (Tried (Runner w) got) is = record { logs = λ l. refl; held = λ h. refl }
stills pid (Tried (CommandLock w s) got) is = record { logs = λ l. refl; held = λ h. refl }
stills pid (HasUnlocked w) is = absurd is
stills pid HasUnlockedAll is = absurd is
stills pid (Recovered log last texts) is = absurd is
stills pid (HasPutDoubt i time) is = absurd is
stills pid (HasPutAnswer f) is = absurd is
stills pid c is = record { logs = λ l. refl; held = λ h. refl }

-- The model makes no event for a step that leaves the world as it is.
pub same_world : (m : Machine) (v : Site) → Runs m v → Reaches v m.world
same_world m v runs = record { events = []; run = tt; goes = runs.goes }

-- The command after this call.
abbrev pub after_call : Operator → Call → Operator
after_call o c = record { phase = phase_after o.phase c; writes = None }

module _ (m : Machine) (v : Site) (runs : Runs m v) (pid : ℕ) (o : Operator) where
  pub still_leads : (c : Call) → IsStill c → StandsAt m v pid (phase_after o.phase c) → Leads v (called m pid (Some o) c)
  still_leads c still here =
      subst (λ (l : LogFile → Log). Leads v (turned_to m (record m.world { logs = l }) pid (after_call o c) (held_by m.held pid c))) (sym ((stills pid c still).logs m.world.logs))
      (subst (λ (h : ℕ → Option ℕ). Leads v (turned_to m m.world pid (after_call o c) h)) (sym ((stills pid c still).held m.held))
      (leads m v runs m.world pid (after_call o c) m.held (same_world m v runs) runs.apart (λ r n q h. h) new))
    where
      new : (v' : Site) → Turned v v' → Goes m.world v' → StandsAt (turned_to m m.world pid (after_call o c) m.held) v' pid (phase_after o.phase c)
      new v' turned goes = stands_still m (turned_to m m.world pid (after_call o c) m.held) v v' pid (phase_after o.phase c) turned.settled turned.kept (λ q h. h) here
