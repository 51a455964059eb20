-- The steps of an operator's command: its appends and its calls.
use Rattle.std.proofs.Common.{◌≡◌, inl, inr, ⊎_elim, ◌≤◌, ◌<◌, ◌-◌, ◌+◌, ◌^◌, ℕ, suc, true, false, List, [], ◌∷◌, ◌++◌, length, take, Option, Some, None, refl, sym, ap, ◌∙◌, subst, arith}
use Rattle.std.specs.Prelude.{slice_get, slice_set}
use Rattle.amo_safety_by_journals.specs.Model.{Site, line_of, with_at}
use Rattle.amo_host.specs.declared.model.LogFile.{LogFile}
use Rattle.amo_host.specs.declared.model.LogFile.TheVariants.{Answers, Journal as JournalFile}
use Rattle.amo_run_files.specs.declared.round_file.RoundFile.{RoundFile}
use Rattle.amo_run_log.specs.declared.finding.Finding.{Finding}
use Rattle.amo_run_log.specs.declared.finding.Resolution.TheVariants.{NotDone}
use Rattle.amo_status.specs.declared.state.AttemptId.{AttemptId}
use Rattle.amo_operator.specs.declared.model.Command.{Command}
use Rattle.amo_operator.specs.declared.model.OperatorLock.TheVariants.{Answers as AnswersLock, Journal as JournalLock, Runner, Command as CommandLock}
use Rattle.amo_operator.specs.Calls.{Request, TryLock, Unlock, UnlockAll, CheckFolder, Recover, PutDoubt, PutAnswer}
use Rattle.amo_operator.specs.Calls.{Call, Tried, HasUnlocked, HasUnlockedAll, Recovered, HasPutDoubt, HasPutAnswer, request_of}
use Rattle.amo_operator.specs.Knowing.{with_doubt, with_journal}
use Rattle.amo_operator.specs.Phase.{Known, Texts, Phase, Enters, Reads, Settles, Looks, Pends, Idles, Rests, Probes, Dates, Puts, Ended}
use Rattle.amo_operator.specs.Protocol.{Allows, phase_after}
use Rattle.amo_program_safety.specs.Texts.{lines_in}
use Rattle.amo_program_safety.specs.World.{Log, World, Doubts, Resolves, Recovers, freed, synced, with_log}
use Rattle.amo_program_safety.specs.Runs.{AreRead, IsUnlocked, MayFollow as MayCome}
use Rattle.amo_program_safety.specs.Machine.{Operator, Machine, Records, Calls, called, has_recorded, recorded, machine_after}
use Rattle.amo_program_safety.specs.Steps.{MachineGives, MayFollow, MayRecord}
use Rattle.amo_program_safety.proofs.Standing.{Settled, Goes}
use Rattle.amo_program_safety.proofs.Moves.{Reaches}
use Rattle.amo_program_safety.proofs.Fresh.{numbered, with_doubt_of}
use Rattle.amo_program_safety.proofs.Onward.{from_tail, get_set, idle_again, looks_first, read_settled, still_next, texts_again}
use Rattle.amo_program_safety.proofs.Ordering.{AreKept, AreFrom, KnownHold, HasOne, HasAll, LooksAt, StandsAt, Runs, Leads}
use Rattle.amo_program_safety.proofs.Points.{at_number, at_it, at_other, log_it}
use Rattle.amo_program_safety.proofs.Resolving.{not_held_by}
use Rattle.amo_program_safety.proofs.Staying.{stands_still}
use Rattle.amo_program_safety.proofs.Texts.{of_both}
use Rattle.amo_program_safety.proofs.Turning.{IsStill, KeepsOthers, Turned, freed_had, freed_keeps, leads, same_world, still_leads, turned_to}
use Rattle.amo_program_safety.proofs.Whole.{happens}

-- The intent of a settled attempt is kept on the disk.
kept_on_disk : (w : World) (v : Site) → Goes w v → (q s : ℕ) → Settled v q s → (line : ℕ) × (line_of (lines_in (w.logs (JournalFile q)).kept) s ≡ Some line)
kept_on_disk w v goes q s settled = (settled.0.0, ap (λ (l : List ℕ). line_of l s) (sym (goes.kept q)) ∙ settled.0.1)

-- ---- calls that change a log or a lock, by the command's phase

module _ (m : Machine) (v : Site) (pid : ℕ) where
  -- The command has the lock on the journal of the attempt whose doubt it writes, and the attempt is settled.
  pub doubt_phase : (ph : Phase) (i : AttemptId) (time : ℕ) → Allows ph (PutDoubt i time) → StandsAt m v pid ph → HasOne m v pid i
  doubt_phase (Dates command k j at left) i time allowed h =
      let same : j ≡ i = cc allowed in
      subst (λ (x : AttemptId). HasOne m v pid x) same h.1
  doubt_phase (Enters command tried) i time (inl e) h = absurd (cc e)
  doubt_phase (Enters command tried) i time (inr e) h = let is : PutDoubt i time ≡ CheckFolder _ = e.2 in absurd (cc is)
  doubt_phase (Reads command last t []) i time allowed h = absurd allowed
  doubt_phase (Reads command last t (w ∷ left)) i time allowed h = absurd (cc allowed)
  doubt_phase (Looks command last t []) i time allowed h = absurd (cc allowed)
  doubt_phase (Looks command last t (w ∷ left)) i time allowed h = absurd (cc allowed)
  doubt_phase (Probes command k []) i time allowed h = absurd (cc allowed)
  doubt_phase (Probes command k (j ∷ left)) i time allowed h = absurd (cc allowed)
  doubt_phase (Puts []) i time allowed h = absurd allowed
  doubt_phase (Puts (f ∷ left)) i time allowed h = absurd (cc allowed)
  doubt_phase Ended i time allowed h = absurd allowed
  doubt_phase ph i time allowed h = absurd (cc allowed)

  -- The command answers `not-done` only to a settled attempt.
  answer_phase : (ph : Phase) (f : Finding) → Allows ph (PutAnswer f) → StandsAt m v pid ph → f.verdict ≡ NotDone → Settled v f.worker f.serial
  answer_phase (Puts []) f allowed h = absurd allowed
  answer_phase (Puts (g ∷ left)) f allowed h =
      let same : g ≡ f = cc allowed in
      h f (inl same)
  answer_phase (Enters command tried) f (inl e) h = absurd (cc e)
  answer_phase (Enters command tried) f (inr e) h = let is : PutAnswer f ≡ CheckFolder _ = e.2 in absurd (cc is)
  answer_phase (Reads command last t []) f allowed h = absurd allowed
  answer_phase (Reads command last t (w ∷ left)) f allowed h = absurd (cc allowed)
  answer_phase (Looks command last t []) f allowed h = absurd (cc allowed)
  answer_phase (Looks command last t (w ∷ left)) f allowed h = absurd (cc allowed)
  answer_phase (Probes command k []) f allowed h = absurd (cc allowed)
  answer_phase (Probes command k (j ∷ left)) f allowed h = absurd (cc allowed)
  answer_phase Ended f allowed h = absurd allowed
  answer_phase ph f allowed h = absurd (cc allowed)

-- ---- the appends of a command

module _ (m : Machine) (v : Site) (runs : Runs m v) (pid : ℕ) (o : Operator) (lives : m.operator pid ≡ Some o) where
  stood : StandsAt m v pid o.phase
  stood = runs.stands pid o lives

  doubt_comes : (i : AttemptId) (time : ℕ) → HasOne m v pid i → (i.serial < 2 ^ 64) × (time < 2 ^ 64) → MayCome m.world (Doubts i.worker i.serial time)
  doubt_comes i time one fits = (runs.apart i.worker pid one.1, fits.0, fits.1, kept_on_disk m.world v runs.goes i.worker i.serial one.2)

  answer_comes : (f : Finding) → (f.verdict ≡ NotDone → Settled v f.worker f.serial) → MayRecord m (PutAnswer f) → MayCome m.world (Resolves f)
  answer_comes f settled may = (
    may.0,
    λ not. record {
      kept = kept_on_disk m.world v runs.goes f.worker f.serial (settled not);
      not_held = not_held_by m.world v runs.goes f.worker f.serial (settled not);
      untouched = may.1 not;
    },
  )

  -- A command that has written its append stays in its phase.
  wrote : (r : Request) → Reaches v (recorded m.world r) → ((q : ℕ) → (recorded m.world r).guard q ≡ m.world.guard q) → Leads v (has_recorded m pid (Some o) r)
  wrote r reach same = leads m v runs (recorded m.world r) pid (record o { writes = Some r }) m.held reach
      (λ q x is. same q ∙ runs.apart q x is)
      (λ x n q h. h)
      (λ v' turned goes. stands_still m (has_recorded m pid (Some o) r) v v' pid o.phase turned.settled turned.kept (λ q h. h) stood)

  records_by : (r : Request) → Allows o.phase r → MayRecord m r → Leads v (has_recorded m pid (Some o) r)
  records_by (PutDoubt i time) allowed may =
      wrote (PutDoubt i time) (happens m.world v (Doubts i.worker i.serial time) (doubt_comes i time (doubt_phase m v pid o.phase i time allowed stood) may) runs.goes) (λ q. refl)
  records_by (PutAnswer f) allowed may =
      wrote (PutAnswer f) (happens m.world v (Resolves f) (answer_comes f (answer_phase m v pid o.phase f allowed stood) may) runs.goes) (λ q. refl)
  records_by r allowed may = absurd may

pub records_lead : (m : Machine) (v : Site) (pid : ℕ) (r : Request) → MayFollow m (Records pid r) → Runs m v → Leads v (machine_after m (Records pid r))
records_lead m v pid r (o, (lives, allowed), idle, may) runs =
    subst (λ (x : Option Operator). Leads v (has_recorded m pid x r)) (sym lives) (records_by m v runs pid o lives r allowed may)

-- ---- locks

module _ (m : Machine) (v : Site) (runs : Runs m v) (pid : ℕ) (o : Operator) (lives : m.operator pid ≡ Some o) where
  -- The model follows a call that changes only locks and the phase of the command.
  locks_lead : (held : ℕ → Option ℕ) (ph : Phase) → ((q r : ℕ) → held q ≡ Some r → m.world.guard q ≡ None) → KeepsOthers m pid held
      → StandsAt (turned_to m m.world pid (record { phase = ph; writes = None }) held) v pid ph
      → Leads v (turned_to m m.world pid (record { phase = ph; writes = None }) held)
  locks_lead held ph apart others here = leads m v runs m.world pid (record { phase = ph; writes = None }) held (same_world m v runs) apart others
      (λ v' turned goes. stands_still now now v v' pid ph turned.settled turned.kept (λ q h. h) here)
    where
      now : Machine
      now = turned_to m m.world pid (record { phase = ph; writes = None }) held

  -- ---- the command gets the lock on a journal

  got_apart : (w : ℕ) → m.world.guard w ≡ None → (q r : ℕ) → with_at m.held w (Some pid) q ≡ Some r → m.world.guard q ≡ None
  got_apart w free q r = at_number (λ (x : Option ℕ). x ≡ Some r → m.world.guard q ≡ None) m.held w (Some pid) q
      (λ (e : q ≡ w) is. ap m.world.guard e ∙ free)
      (λ n is. runs.apart q r is)

  got_others : (w : ℕ) → m.held w ≡ None → KeepsOthers m pid (with_at m.held w (Some pid))
  got_others w free r other q is = at_number (λ (x : Option ℕ). x ≡ Some r) m.held w (Some pid) q
      (λ (e : q ≡ w). let no : None ≡ Some r = sym free ∙ (ap m.held (sym e) ∙ is) in absurd (cc no))
      (λ n. is)

  got_own : (w : ℕ) (q : ℕ) → m.held q ≡ Some pid → with_at m.held w (Some pid) q ≡ Some pid
  got_own w q is = at_number (λ (x : Option ℕ). x ≡ Some pid) m.held w (Some pid) q (λ e. refl) (λ n. is)

  got_at : (w : ℕ) (now : Machine) → ((q : ℕ) → m.held q ≡ Some pid → now.held q ≡ Some pid) → now.held w ≡ Some pid → (ph : Phase) → Allows ph (TryLock (JournalLock w)) → StandsAt m v pid ph
      → StandsAt now v pid (phase_after ph (Tried (JournalLock w) true))
  got_at w now own mine (Looks command last t []) allowed h = tt
  got_at w now own mine (Looks command last t (x ∷ left)) allowed (k, h) =
      let same : w ≡ x = cc allowed in
      let (number, from) = from_tail k x left h.from in
      let more : k + 1 ≡ suc x = omega (arith, number) in
      record {
        looks = record {
          texts = h.texts;
          idle = λ q one. let old = h.idle q one in (old.0, own q old.1, old.2);
          from = subst (λ n. AreFrom n left) more from;
          low = omega arith;
          before = λ q one. later q (h.before q one) number;
        };
        low = at_least number h.low;
        held = subst (λ n. now.held n ≡ Some pid) same mine;
        before = λ q one. just q (h.before q one) number;
      }
    where
      later : (q : ℕ) → q < k → x ≡ k → q < suc x
      later q less is = omega (arith, less, is)

      just : (q : ℕ) → q < k → x ≡ k → q < x
      just q less is = omega (arith, less, is)

      at_least : x ≡ k → 1 ≤ k → 1 ≤ x
      at_least is low = omega (arith, is, low)
  got_at w now own mine (Pends command last t x left) allowed h = absurd (cc allowed)
  got_at w now own mine (Probes command k []) allowed h = tt
  got_at w now own mine (Probes command k (i ∷ left)) allowed h = absurd (cc allowed)
  got_at w now own mine (Dates command k i time left) allowed h = absurd (cc allowed)
  got_at w now own mine (Reads command last t []) allowed h = tt
  got_at w now own mine (Reads command last t (x ∷ left)) allowed h = tt
  got_at w now own mine (Puts []) allowed h = absurd allowed
  got_at w now own mine (Puts (f ∷ left)) allowed h = absurd (cc allowed)
  got_at w now own mine ph allowed h = tt

  tried_lead : (w : ℕ) → Allows o.phase (TryLock (JournalLock w)) → (m.world.guard w ≡ None) × (m.held w ≡ None) → Leads v (called m pid (Some o) (Tried (JournalLock w) true))
  tried_lead w allowed free = locks_lead (with_at m.held w (Some pid)) (phase_after o.phase (Tried (JournalLock w) true)) (got_apart w free.0) (got_others w free.1)
      (got_at w (called m pid (Some o) (Tried (JournalLock w) true)) (got_own w) (at_it m.held w (Some pid)) o.phase allowed (stood m v runs pid o lives))

  -- ---- the command unlocks

  freed_apart : (w : ℕ) (q r : ℕ) → with_at m.held w (freed (m.held w) pid) q ≡ Some r → m.world.guard q ≡ None
  freed_apart w q r = at_number (λ (x : Option ℕ). x ≡ Some r → m.world.guard q ≡ None) m.held w (freed (m.held w) pid) q
      (λ (e : q ≡ w) is. ap m.world.guard e ∙ runs.apart w r (freed_had (m.held w) pid r is))
      (λ n is. runs.apart q r is)

  freed_others : (w : ℕ) → KeepsOthers m pid (with_at m.held w (freed (m.held w) pid))
  freed_others w r other q is = at_number (λ (x : Option ℕ). x ≡ Some r) m.held w (freed (m.held w) pid) q
      (λ (e : q ≡ w). freed_keeps (m.held w) pid r other (ap m.held (sym e) ∙ is))
      (λ n. is)

  rested_at : (w : ℕ) (now : Machine) → ((q : ℕ) → (q ≡ w → ⊥) → m.held q ≡ Some pid → now.held q ≡ Some pid) → (ph : Phase) → Allows ph (Unlock w) → StandsAt m v pid ph
      → StandsAt now v pid (phase_after ph (HasUnlocked w))
  rested_at w now own (Rests command last t x left) allowed h =
      let same : w ≡ x = cc allowed in (
        suc x,
        record {
          texts = h.looks.texts;
          idle = λ q one. let old = h.looks.idle q one in (old.0, own q (λ e. never q (h.before q one) (e ∙ same)) old.1, old.2);
          from = h.looks.from;
          low = h.looks.low;
          before = h.looks.before;
        },
      )
    where
      never : (q : ℕ) → q < x → q ≡ x → ⊥
      never q less is = omega (arith, less, is)
  rested_at w now own (Looks command last t []) allowed h = tt
  rested_at w now own (Looks command last t (x ∷ left)) allowed h = tt
  rested_at w now own (Probes command k []) allowed h = tt
  rested_at w now own (Probes command k (i ∷ left)) allowed h = tt
  rested_at w now own (Dates command k i time left) allowed h = absurd (cc allowed)
  rested_at w now own (Reads command last t []) allowed h = tt
  rested_at w now own (Reads command last t (x ∷ left)) allowed h = tt
  rested_at w now own (Puts []) allowed h = absurd allowed
  rested_at w now own (Puts (f ∷ left)) allowed h = absurd (cc allowed)
  rested_at w now own ph allowed h = tt

  unlocked_lead : (w : ℕ) → Allows o.phase (Unlock w) → Leads v (called m pid (Some o) (HasUnlocked w))
  unlocked_lead w allowed = locks_lead (with_at m.held w (freed (m.held w) pid)) (phase_after o.phase (HasUnlocked w)) (freed_apart w) (freed_others w)
      (rested_at w (called m pid (Some o) (HasUnlocked w)) (λ q n is. at_other m.held w (freed (m.held w) pid) q n ∙ is) o.phase allowed (stood m v runs pid o lives))

  free_at : (now : Machine) (ph : Phase) → Allows ph UnlockAll → StandsAt now v pid (phase_after ph HasUnlockedAll)
  free_at now (Looks command last t []) allowed = tt
  free_at now (Looks command last t (x ∷ left)) allowed = tt
  free_at now (Probes command k []) allowed = tt
  free_at now (Probes command k (i ∷ left)) allowed = tt
  free_at now (Dates command k i time left) allowed = absurd (cc allowed)
  free_at now (Reads command last t []) allowed = tt
  free_at now (Reads command last t (x ∷ left)) allowed = tt
  free_at now (Puts []) allowed = absurd allowed
  free_at now (Puts (f ∷ left)) allowed = absurd (cc allowed)
  free_at now ph allowed = tt

  all_unlocked_lead : Allows o.phase UnlockAll → Leads v (called m pid (Some o) HasUnlockedAll)
  all_unlocked_lead allowed = locks_lead (λ q. freed (m.held q) pid) (phase_after o.phase HasUnlockedAll)
      (λ q r is. runs.apart q r (freed_had (m.held q) pid r is))
      (λ r other q is. freed_keeps (m.held q) pid r other is)
      (free_at (called m pid (Some o) HasUnlockedAll) o.phase allowed)

-- ---- logs

take_all : (xs : List (List ℕ)) → take (length xs) xs ≡ xs
take_all [] = refl
take_all (x ∷ xs) = ap (λ (l : List (List ℕ)). x ∷ l) (take_all xs)

-- The knowledge of a command still holds after the command has written a doubt.
doubt_holds : (v : Site) (k : Known) (i : AttemptId) (time : ℕ) → KnownHold v k → 1 ≤ i.worker → Settled v i.worker i.serial → KnownHold v (with_doubt k i time)
doubt_holds v k i time hold low settled = record {
  answered = λ j es is.
      let (old, was, turn) = with_doubt_of (λ s. Settled v (suc j) s) k i time j es (numbered (v.kept i.worker) i.serial settled.0.0 settled.0.1) is in
      turn (hold.answered j old was) (λ e. subst (λ q. Settled v q i.serial) (number j e) settled);
  finals = hold.finals;
}
  where
    number : (j : ℕ) → j ≡ i.worker - 1 → i.worker ≡ suc j
    number j e = omega (arith, e, low)

module _ (m : Machine) (v : Site) (runs : Runs m v) (pid : ℕ) (o : Operator) (lives : m.operator pid ≡ Some o) where
  -- The model follows the recovery of a log.
  recovered_reach : (log : LogFile) (texts : List (List ℕ)) → IsUnlocked m.world log → AreRead (m.world.logs log) texts
      → Reaches v (record m.world { logs = with_log m.world.logs log (record { kept = texts; rest = [] }) })
  recovered_reach log texts free (more, is) = subst (λ (l : List (List ℕ)). Reaches v (record m.world { logs = with_log m.world.logs log (record { kept = l; rest = [] }) })) (sym is)
      (happens m.world v (Recovers log more) free runs.goes)

  synced_reach : (log : LogFile) → IsUnlocked m.world log → Reaches v (record m.world { logs = with_log m.world.logs log (synced (m.world.logs log)) })
  synced_reach log free = recovered_reach log ((m.world.logs log).kept ++ (m.world.logs log).rest) free
      (length (m.world.logs log).rest, ap (λ (l : List (List ℕ)). (m.world.logs log).kept ++ l) (sym (take_all (m.world.logs log).rest)))

  -- The model follows a call that changes only logs and the phase of the command.
  logs_lead : (logs : LogFile → Log) (ph : Phase) → Reaches v (record m.world { logs = logs })
      → ((v' : Site) → Turned v v' → Goes (record m.world { logs = logs }) v' → StandsAt (turned_to m (record m.world { logs = logs }) pid (record { phase = ph; writes = None }) m.held) v' pid ph)
      → Leads v (turned_to m (record m.world { logs = logs }) pid (record { phase = ph; writes = None }) m.held)
  logs_lead logs ph reach new = leads m v runs (record m.world { logs = logs }) pid (record { phase = ph; writes = None }) m.held reach runs.apart (λ r n q h. h) new

  -- ---- the command has recovered a log

  pub recover_free : (ph : Phase) (log : LogFile) (last : Option RoundFile) → Allows ph (Recover log last) → StandsAt m v pid ph → IsUnlocked m.world log
  recover_free (Settles command from t) log last allowed h = let same : Answers ≡ log = cc allowed in subst (λ (l : LogFile). IsUnlocked m.world l) same tt
  recover_free (Idles command from t w left) log last allowed h = let same : JournalFile w ≡ log = cc allowed in subst (λ (l : LogFile). IsUnlocked m.world l) same (runs.apart w pid h.held)
  recover_free (Enters command tried) log last (inl e) h = absurd (cc e)
  recover_free (Enters command tried) log last (inr e) h = let is : Recover log last ≡ CheckFolder _ = e.2 in absurd (cc is)
  recover_free (Reads command from t []) log last allowed h = absurd allowed
  recover_free (Reads command from t (w ∷ left)) log last allowed h = absurd (cc allowed)
  recover_free (Looks command from t []) log last allowed h = absurd (cc allowed)
  recover_free (Looks command from t (w ∷ left)) log last allowed h = absurd (cc allowed)
  recover_free (Probes command k []) log last allowed h = absurd (cc allowed)
  recover_free (Probes command k (j ∷ left)) log last allowed h = absurd (cc allowed)
  recover_free (Puts []) log last allowed h = absurd allowed
  recover_free (Puts (f ∷ left)) log last allowed h = absurd (cc allowed)
  recover_free Ended log last allowed h = absurd allowed
  recover_free ph log last allowed h = absurd (cc allowed)

  module _ (now : Machine) (v' : Site) (own : (q : ℕ) → m.held q ≡ Some pid → now.held q ≡ Some pid) (turned : Turned v v') where
    -- The command has recovered the journal of an idle worker.
    idles_at : (command : Command) (from last : Option RoundFile) (t : Texts) (w : ℕ) (left : List ℕ) (texts : List (List ℕ)) → AreRead (m.world.logs (JournalFile w)) texts
        → v'.kept w ≡ lines_in texts → LooksAt m v pid t w left → StandsAt now v' pid (Looks command last (record (with_journal t w texts) { idle = t.idle ++ w ∷ [] }) left)
    idles_at command from last t w left texts are kept_is old = (
      suc w,
      record {
        texts = texts_again now v' pid t w texts h.low h.looks.texts (λ text s c one says. turned.settled w s (read_settled m v pid runs w texts are text s c one says));
        idle = λ q one. ⊎_elim
            (λ before. idle_again now v' pid t w texts h.low h.looks.idle h.before q before)
            (λ new. ⊎_elim
            (λ (same : w ≡ q). subst (λ n. (1 ≤ n) × (now.held n ≡ Some pid) × ((ts : List (List ℕ)) → slice_get (slice_set t.journals (w - 1) texts) (n - 1) ≡ Some ts → AreKept v' n ts)) same
            (h.low, h.held, λ ts is. subst (λ (l : List (List ℕ)). AreKept v' w l) (get_set t.journals (w - 1) texts ts is) kept))
            (λ none. absurd none)
            new)
            (of_both t.idle (w ∷ []) q one);
        from = h.looks.from;
        low = h.looks.low;
        before = λ q one. ⊎_elim
            (λ before. less q (h.before q before))
            (λ new. ⊎_elim (λ (same : w ≡ q). last_one q same) (λ none. absurd none) new)
            (of_both t.idle (w ∷ []) q one);
      },
    )
      where
        h : LooksAt now v' pid t w left
        h = stands_still m now v v' pid (Idles command from t w left) turned.settled turned.kept own old

        kept : AreKept v' w texts
        kept s line is = ap (λ (l : List ℕ). line_of l s) kept_is ∙ is

        less : (q : ℕ) → q < w → q < suc w
        less q before = omega (arith, before)

        last_one : (q : ℕ) → w ≡ q → q < suc w
        last_one q same = omega (arith, same)

    recovered_at : (log : LogFile) (last : Option RoundFile) (texts : List (List ℕ)) → AreRead (m.world.logs log) texts → ((w : ℕ) → JournalFile w ≡ log → v'.kept w ≡ lines_in texts)
        → (ph : Phase) → Allows ph (Recover log last) → StandsAt m v pid ph → StandsAt now v' pid (phase_after ph (Recovered log last texts))
    recovered_at log last texts are kept_is (Settles command from t) allowed h =
        (1, looks_first now v' pid (record t { answers = texts }) (λ k ts is text s c one says. turned.settled (suc k) s (h.0 k ts is text s c one says)) h.1)
    recovered_at log last texts are kept_is (Idles command from t w left) allowed h =
        let same : JournalFile w ≡ log = cc allowed in
        idles_at command from from t w left texts (subst (λ (l : LogFile). AreRead (m.world.logs l) texts) (sym same) are) (kept_is w same) h
    recovered_at log last texts are kept_is (Reads command from t []) allowed h = tt
    recovered_at log last texts are kept_is (Reads command from t (w ∷ left)) allowed h = tt
    recovered_at log last texts are kept_is (Looks command from t []) allowed h = tt
    recovered_at log last texts are kept_is (Looks command from t (w ∷ left)) allowed h = tt
    recovered_at log last texts are kept_is (Probes command k []) allowed h = tt
    recovered_at log last texts are kept_is (Probes command k (j ∷ left)) allowed h = tt
    recovered_at log last texts are kept_is (Dates command k i time left) allowed h = absurd (cc allowed)
    recovered_at log last texts are kept_is (Puts []) allowed h = absurd allowed
    recovered_at log last texts are kept_is (Puts (f ∷ left)) allowed h = absurd (cc allowed)
    recovered_at log last texts are kept_is ph allowed h = tt

    -- ---- the command has written a doubt or an answer

    doubted_at : (i : AttemptId) (time : ℕ) (ph : Phase) → Allows ph (PutDoubt i time) → StandsAt m v pid ph → StandsAt now v' pid (phase_after ph (HasPutDoubt i time))
    doubted_at i time (Dates command k j at left) allowed old =
        let h : KnownHold v' k × HasOne now v' pid j × HasAll now v' pid left = stands_still m now v v' pid (Dates command k j at left) turned.settled turned.kept own old in
        (doubt_holds v' k j at h.0 h.1.0 h.1.2, h.2)
    doubted_at i time (Reads command from t []) allowed h = tt
    doubted_at i time (Reads command from t (w ∷ left)) allowed h = tt
    doubted_at i time (Looks command from t []) allowed h = tt
    doubted_at i time (Looks command from t (w ∷ left)) allowed h = tt
    doubted_at i time (Probes command k []) allowed h = tt
    doubted_at i time (Probes command k (j ∷ left)) allowed h = tt
    doubted_at i time (Puts []) allowed h = absurd allowed
    doubted_at i time (Puts (f ∷ left)) allowed h = absurd (cc allowed)
    doubted_at i time ph allowed h = tt

    answered_at : (f : Finding) (ph : Phase) → Allows ph (PutAnswer f) → StandsAt m v pid ph → StandsAt now v' pid (phase_after ph (HasPutAnswer f))
    answered_at f (Puts []) allowed h = absurd allowed
    answered_at f (Puts (g ∷ left)) allowed h = λ x one not. turned.settled x.worker x.serial (h x (inr one) not)
    answered_at f (Reads command from t []) allowed h = tt
    answered_at f (Reads command from t (w ∷ left)) allowed h = tt
    answered_at f (Looks command from t []) allowed h = tt
    answered_at f (Looks command from t (w ∷ left)) allowed h = tt
    answered_at f (Probes command k []) allowed h = tt
    answered_at f (Probes command k (j ∷ left)) allowed h = tt
    answered_at f (Dates command k i time left) allowed h = absurd (cc allowed)
    answered_at f ph allowed h = tt

  recovered_lead : (log : LogFile) (last : Option RoundFile) (texts : List (List ℕ)) → Allows o.phase (Recover log last) → AreRead (m.world.logs log) texts
      → Leads v (called m pid (Some o) (Recovered log last texts))
  recovered_lead log last texts allowed are = logs_lead (with_log m.world.logs log (record { kept = texts; rest = [] })) (phase_after o.phase (Recovered log last texts))
      (recovered_reach log texts (recover_free o.phase log last allowed (stood m v runs pid o lives)) are)
      (λ v' turned goes. recovered_at (called m pid (Some o) (Recovered log last texts)) v' (λ q h. h) turned log last texts are (kept_is v' goes) o.phase allowed (stood m v runs pid o lives))
    where
      kept_is : (v' : Site) → Goes (record m.world { logs = with_log m.world.logs log (record { kept = texts; rest = [] }) }) v' → (w : ℕ) → JournalFile w ≡ log → v'.kept w ≡ lines_in texts
      kept_is v' goes w same = goes.kept w ∙ ap (λ (l : Log). lines_in l.kept)
          (subst (λ (f : LogFile). with_log m.world.logs log (record { kept = texts; rest = [] }) f ≡ record { kept = texts; rest = [] }) (sym same) (log_it m.world.logs log (record { kept = texts; rest = [] })))

  put_doubt_lead : (i : AttemptId) (time : ℕ) → Allows o.phase (PutDoubt i time) → Leads v (called m pid (Some o) (HasPutDoubt i time))
  put_doubt_lead i time allowed = logs_lead (with_log m.world.logs (JournalFile i.worker) (synced (m.world.logs (JournalFile i.worker)))) (phase_after o.phase (HasPutDoubt i time))
      (synced_reach (JournalFile i.worker) (runs.apart i.worker pid (doubt_phase m v pid o.phase i time allowed (stood m v runs pid o lives)).1))
      (λ v' turned goes. doubted_at (called m pid (Some o) (HasPutDoubt i time)) v' (λ q h. h) turned i time o.phase allowed (stood m v runs pid o lives))

  put_answer_lead : (f : Finding) → Allows o.phase (PutAnswer f) → Leads v (called m pid (Some o) (HasPutAnswer f))
  put_answer_lead f allowed = logs_lead (with_log m.world.logs Answers (synced (m.world.logs Answers))) (phase_after o.phase (HasPutAnswer f))
      (synced_reach Answers tt)
      (λ v' turned goes. answered_at (called m pid (Some o) (HasPutAnswer f)) v' (λ q h. h) turned f o.phase allowed (stood m v runs pid o lives))

  -- ---- any call

  still_by : (c : Call) → IsStill c → Allows o.phase (request_of c) → MachineGives m o c → Leads v (called m pid (Some o) c)
  still_by c still allowed gives = still_leads m v runs pid o c still (still_next m v pid runs o c still allowed gives (stood m v runs pid o lives))

  calls_by : (c : Call) → Allows o.phase (request_of c) → MachineGives m o c → Leads v (called m pid (Some o) c)
  calls_by (Tried (JournalLock w) true) allowed gives = tried_lead m v runs pid o lives w allowed gives
  calls_by (Tried (JournalLock w) false) allowed gives = still_by (Tried (JournalLock w) false) tt allowed gives
  calls_by (Tried AnswersLock got) allowed gives = still_by (Tried AnswersLock got) tt allowed gives
  calls_by (Tried (Runner w) got) allowed gives = still_by (Tried (Runner w) got) tt allowed gives
  calls_by (Tried (CommandLock w s) got) allowed gives = still_by (Tried (CommandLock w s) got) tt allowed gives
  calls_by (HasUnlocked w) allowed gives = unlocked_lead m v runs pid o lives w allowed
  calls_by HasUnlockedAll allowed gives = all_unlocked_lead m v runs pid o lives allowed
  calls_by (Recovered log last texts) allowed gives = recovered_lead log last texts allowed gives
  calls_by (HasPutDoubt i time) allowed gives = put_doubt_lead i time allowed
  calls_by (HasPutAnswer f) allowed gives = put_answer_lead f allowed
  calls_by c allowed gives = still_by c tt allowed gives

pub calls_lead : (m : Machine) (v : Site) (pid : ℕ) (c : Call) → MayFollow m (Calls pid c) → Runs m v → Leads v (machine_after m (Calls pid c))
calls_lead m v pid c (o, (lives, allowed), its, gives) runs =
    subst (λ (x : Option Operator). Leads v (called m pid x c)) (sym lives) (calls_by m v runs pid o lives c allowed gives)
