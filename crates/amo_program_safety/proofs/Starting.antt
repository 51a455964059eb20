-- A process starts, and takes the number of its worker.
use Rattle.std.proofs.Common.{◌≡◌, ◌⊎◌, inl, inr, ⊎_elim, ℕ, Bool, true, false, List, [], ◌∷◌, ◌++◌, length, map, take, Option, Some, None, refl, sym, ap, ◌∙◌, subst}
use Rattle.amo_safety_by_journals.specs.Model.{IsOneOf, Away, Free, Site, site_after, Begins, with_at, line_of}
use Rattle.amo_safety_by_journals.specs.Runs.{site_from}
use Rattle.amo_driver.specs.declared.past.Intent.{Intent as Pending}
use Rattle.amo_host.specs.declared.model.Hold.TheVariants.{Exclusive}
use Rattle.amo_host.specs.declared.model.LogFile.TheVariants.{Journal}
use Rattle.amo_host.specs.declared.model.RunLock.TheVariants.{Guard}
use Rattle.amo_host.specs.Calls.{Request, TryLock, CheckFolder, SyncFolder, ReadRound, Recover, ReadJobs, Call, Tried, FolderIsKept, FolderIsSynced, RoundIs, Recovered, JobsAre, Fell, request_of}
use Rattle.amo_host.specs.Phase.{Start, Unborn, Guards, Checked, Knows as KnowsRound, HasRecovered, Settled, Phase, Starts}
use Rattle.amo_host.specs.Starting.{asks_first, intent_of, pending_of}
use Rattle.amo_run_files.specs.declared.round_file.RoundFile.{RoundFile}
use Rattle.amo_run_log.specs.declared.journal.Attempt.{Attempt}
use Rattle.amo_run_log.specs.Journals.{attempts_in, pending_from}
use Rattle.amo_program_safety.specs.Texts.{lines_in}
use Rattle.amo_program_safety.specs.World.{Log, Process, World, guard_by, journal_by, process_by, text_by}
use Rattle.amo_program_safety.specs.Runs.{IsItsCall}
use Rattle.amo_program_safety.proofs.Texts.{of_both, of_left, of_right, taken_of, line_of_both, lines_in_both, attempts_lines, pending_lines}
use Rattle.amo_program_safety.proofs.Standing.{ArePending, At, Fresh, Goes, Quiet, all_of}
use Rattle.amo_program_safety.proofs.Moves.{Reaches}
use Rattle.amo_program_safety.proofs.Points.{at_it, at_number, log_it, log_other}
use Rattle.amo_program_safety.proofs.Effects.{effect_goes}
use Rattle.amo_program_safety.proofs.Acting.{turns_none, Turns, turns_then, turns_begins, acts, halts, stays, nothing_written}
use Rattle.amo_program_safety.proofs.Steps.{Made, next_world, stood, stand_by, quiet_on}
use Rattle.amo_program_safety.proofs.Landing.{Landed, lands_all, site_both, run_both}

-- The model follows this call of a process in this phase.
abbrev pub Step : World → Site → ℕ → Process → Phase → Call → Type 0
Step w v pid p ph c = Made w v pid p ph c → Reaches v (next_world w pid p c)

-- ---- the calls of a request

is_guard_tried : (k : ℕ) (c : Call) → request_of c ≡ TryLock (Guard k) Exclusive → ((got : Bool) × (c ≡ Tried (Guard k) Exclusive got)) ⊎ (c ≡ Fell (TryLock (Guard k) Exclusive))
is_guard_tried k (Tried lock hold got) is = inl (got, cc is)
is_guard_tried k (Fell r) is = inr (ap Fell is)
is_guard_tried k c is = absurd (cc is)

is_check : (c : Call) → request_of c ≡ CheckFolder → (c ≡ FolderIsKept) ⊎ (c ≡ Fell CheckFolder)
is_check FolderIsKept is = inl refl
is_check (Fell r) is = inr (ap Fell is)
is_check c is = absurd (cc is)

is_sync : (c : Call) → request_of c ≡ SyncFolder → (c ≡ FolderIsSynced) ⊎ (c ≡ Fell SyncFolder)
is_sync FolderIsSynced is = inl refl
is_sync (Fell r) is = inr (ap Fell is)
is_sync c is = absurd (cc is)

is_read_round : (c : Call) → request_of c ≡ ReadRound → ((last : Option RoundFile) × (c ≡ RoundIs last)) ⊎ (c ≡ Fell ReadRound)
is_read_round (RoundIs last) is = inl (last, refl)
is_read_round (Fell r) is = inr (ap Fell is)
is_read_round c is = absurd (cc is)

is_recover : (last : Option RoundFile) (c : Call) → request_of c ≡ Recover last → ((texts : List (List ℕ)) × (c ≡ Recovered last texts)) ⊎ (c ≡ Fell (Recover last))
is_recover last (Recovered from texts) is = inl (texts, cc is)
is_recover last (Fell r) is = inr (ap Fell is)
is_recover last c is = absurd (cc is)

is_read_jobs : (last : Option RoundFile) (c : Call) → request_of c ≡ ReadJobs last → ((lines : List (List ℕ)) × (c ≡ JobsAre last lines)) ⊎ (c ≡ Fell (ReadJobs last))
is_read_jobs last (JobsAre from lines) is = inl (lines, cc is)
is_read_jobs last (Fell r) is = inr (ap Fell is)
is_read_jobs last c is = absurd (cc is)

-- ---- facts that stay

pub fresh_on : (w : World) (v : Site) (pid : ℕ) (p : Process) (c : Call) → guard_by w.guard pid c ≡ w.guard → Fresh w v pid p → Fresh (next_world w pid p c) v pid (process_by p c)
fresh_on w v pid p c guard fresh = record {
  guard = ap (λ g. g p.worker) guard ∙ fresh.guard;
  away = fresh.away;
  idle = refl;
}

-- A quiet process stays quiet after a call that appends nothing and changes neither its journal nor
-- a lock.
pub quiet_stays : (w : World) (v : Site) (pid : ℕ) (p : Process) (c : Call) → IsItsCall p.writes (request_of c) → text_by p.owed (request_of c) ≡ None
    → guard_by w.guard pid c ≡ w.guard → journal_by (w.logs (Journal p.worker)) p.owed c ≡ w.logs (Journal p.worker) → Quiet w v pid p → Quiet (next_world w pid p c) v pid (process_by p c)
quiet_stays w v pid p c its none guard log quiet = quiet_on w v pid p c quiet.owns.guard guard
    (ap (λ (l : Log). l.rest) log ∙ (quiet.owns.rest ∙ nothing_written p (request_of c) its none))
    quiet.free

-- ---- the guard

tries : (w : World) (v : Site) (pid : ℕ) (p : Process) (k : ℕ) (got : Bool) → Step w v pid p (Starts k Unborn) (Tried (Guard k) Exclusive got)
tries w v pid p k false m =
    let at = stood w v pid p (Starts k Unborn) (Tried (Guard k) Exclusive false) m in
    stays w v m.goes pid p m.lives (Tried (Guard k) Exclusive false) refl refl
    (stand_by w v v pid p (Starts k Unborn) (Tried (Guard k) Exclusive false) m tt (turns_none v p.worker) (at.0, at.1, (at.2.0, refl)))
tries w v pid p k true m = record { events = []; run = tt; goes = got_it }
  where
    at : At w v pid p (Starts k Unborn)
    at = stood w v pid p (Starts k Unborn) (Tried (Guard k) Exclusive true) m

    free : w.guard k ≡ None
    free = m.kernel

    not_both : {x : ℕ} → None ≡ Some x → ⊥
    not_both e = cc

    some_is : {a b : ℕ} → Some a ≡ Some b → a ≡ b
    some_is e = cc

    mine_now : with_at w.guard k (Some pid) p.worker ≡ Some pid
    mine_now = ap (with_at w.guard k (Some pid)) (sym at.0) ∙ at_it w.guard k (Some pid)

    got_it : Goes (next_world w pid p (Tried (Guard k) Exclusive true)) v
    got_it = effect_goes w v (next_world w pid p (Tried (Guard k) Exclusive true)) v pid p (process_by p (Tried (Guard k) Exclusive true)) m.goes m.lives (record {
      process_is = refl;
      worker_is = refl;
      handed = refl;
      w_alive = refl;
      w_performed = refl;
      v_alive = refl;
      v_performed = refl;
      opened = λ q s is. is;
      settled = λ q s is. is;
      guard_kept = λ q r other holds. at_number (λ (x : Option ℕ). x ≡ Some r) w.guard k (Some pid) q
          (λ e. absurd (not_both (sym free ∙ (ap w.guard (sym e) ∙ holds))))
          (λ far. holds);
      guard_lost = λ q r other. at_number (λ (x : Option ℕ). x ≡ Some r → w.guard q ≡ Some r) w.guard k (Some pid) q
          (λ e is. absurd (other (sym (some_is is))))
          (λ far is. is);
      guard_mine = λ q. at_number (λ (x : Option ℕ). x ≡ Some pid → q ≡ p.worker) w.guard k (Some pid) q
          (λ e is. e ∙ at.0)
          (λ far is. absurd (at.2.0 q is));
      answers = refl;
      far = λ q far. record { stage = refl; kept = refl; log = log_other w.logs p.worker _ q far };
      near = inl (record { stage = refl; kept = refl; log = log_it w.logs (Journal p.worker) _ });
      kept = m.goes.kept p.worker ∙ ap (λ (l : Log). lines_in l.kept) (sym (log_it w.logs (Journal p.worker) _));
      more = λ s l is. is;
      unbegun = λ s text one says. m.goes.unbegun p.worker s text (subst (λ (l : Log). IsOneOf (all_of l) text) (log_it w.logs (Journal p.worker) _) one) says;
      answered = λ s a text one says. m.goes.answered p.worker s a text (subst (λ (l : Log). IsOneOf (all_of l) text) (log_it w.logs (Journal p.worker) _) one) says;
      away = λ q. at_number (λ (x : Option ℕ). x ≡ None → v.stage q ≡ Away) w.guard k (Some pid) q
          (λ e is. absurd (not_both (sym is)))
          (λ far is. m.goes.away q is);
      stand = stand_by w v v pid p (Starts k Unborn) (Tried (Guard k) Exclusive true) m tt (turns_none v p.worker)
          (at.0, at.1, record { guard = mine_now; away = m.goes.away p.worker (ap w.guard (sym at.0) ∙ free); idle = refl });
    })

unborn_falls : (w : World) (v : Site) (pid : ℕ) (p : Process) (k : ℕ) (r : Request) → Step w v pid p (Starts k Unborn) (Fell r)
unborn_falls w v pid p k r m =
    let at = stood w v pid p (Starts k Unborn) (Fell r) m in
    stays w v m.goes pid p m.lives (Fell r) refl refl
    (stand_by w v v pid p (Starts k Unborn) (Fell r) m tt (turns_none v p.worker) (λ holds. absurd (at.2.0 p.worker holds)))

unborn : (w : World) (v : Site) (pid : ℕ) (p : Process) (k : ℕ) (c : Call) → Step w v pid p (Starts k Unborn) c
unborn w v pid p k c m = ⊎_elim
    (λ (is : (got : Bool) × (c ≡ Tried (Guard k) Exclusive got)). subst (Step w v pid p (Starts k Unborn)) (sym is.1) (tries w v pid p k is.0) m)
    (λ (is : c ≡ Fell (TryLock (Guard k) Exclusive)). subst (Step w v pid p (Starts k Unborn)) (sym is) (unborn_falls w v pid p k _) m)
    (is_guard_tried k c m.allowed)

-- ---- until the journal is recovered

guards_kept : (w : World) (v : Site) (pid : ℕ) (p : Process) (k : ℕ) → Step w v pid p (Starts k Guards) FolderIsKept
guards_kept w v pid p k m =
    let at = stood w v pid p (Starts k Guards) FolderIsKept m in
    stays w v m.goes pid p m.lives FolderIsKept refl refl
    (stand_by w v v pid p (Starts k Guards) FolderIsKept m tt (turns_none v p.worker) (at.0, at.1, fresh_on w v pid p FolderIsKept refl at.2))

guards_falls : (w : World) (v : Site) (pid : ℕ) (p : Process) (k : ℕ) (r : Request) → Step w v pid p (Starts k Guards) (Fell r)
guards_falls w v pid p k r m =
    let at = stood w v pid p (Starts k Guards) (Fell r) m in
    stays w v m.goes pid p m.lives (Fell r) refl refl
    (stand_by w v v pid p (Starts k Guards) (Fell r) m tt (turns_none v p.worker) (λ holds. at.2.away))

guards : (w : World) (v : Site) (pid : ℕ) (p : Process) (k : ℕ) (c : Call) → Step w v pid p (Starts k Guards) c
guards w v pid p k c m = ⊎_elim
    (λ (is : c ≡ FolderIsKept). subst (Step w v pid p (Starts k Guards)) (sym is) (guards_kept w v pid p k) m)
    (λ (is : c ≡ Fell CheckFolder). subst (Step w v pid p (Starts k Guards)) (sym is) (guards_falls w v pid p k CheckFolder) m)
    (is_check c m.allowed)

checked_round : (w : World) (v : Site) (pid : ℕ) (p : Process) (k : ℕ) (last : Option RoundFile) → Step w v pid p (Starts k Checked) (RoundIs last)
checked_round w v pid p k last m =
    let at = stood w v pid p (Starts k Checked) (RoundIs last) m in
    stays w v m.goes pid p m.lives (RoundIs last) refl refl
    (stand_by w v v pid p (Starts k Checked) (RoundIs last) m tt (turns_none v p.worker) (at.0, at.1, fresh_on w v pid p (RoundIs last) refl at.2))

checked_falls : (w : World) (v : Site) (pid : ℕ) (p : Process) (k : ℕ) (r : Request) → Step w v pid p (Starts k Checked) (Fell r)
checked_falls w v pid p k r m =
    let at = stood w v pid p (Starts k Checked) (Fell r) m in
    stays w v m.goes pid p m.lives (Fell r) refl refl
    (stand_by w v v pid p (Starts k Checked) (Fell r) m tt (turns_none v p.worker) (λ holds. at.2.away))

checked : (w : World) (v : Site) (pid : ℕ) (p : Process) (k : ℕ) (c : Call) → Step w v pid p (Starts k Checked) c
checked w v pid p k c m = ⊎_elim
    (λ (is : (last : Option RoundFile) × (c ≡ RoundIs last)). subst (Step w v pid p (Starts k Checked)) (sym is.1) (checked_round w v pid p k is.0) m)
    (λ (is : c ≡ Fell ReadRound). subst (Step w v pid p (Starts k Checked)) (sym is) (checked_falls w v pid p k ReadRound) m)
    (is_read_round c m.allowed)

-- ---- the journal is recovered

-- Intents that earlier processes have left come into the journal, and then the model's process
-- begins.
recovers_by : (w : World) (v : Site) (pid : ℕ) (p : Process) (k : ℕ) (last : Option RoundFile) (texts : List (List ℕ)) (more : ℕ)
    → texts ≡ (w.logs (Journal p.worker)).kept ++ take more (w.logs (Journal p.worker)).rest
    → Landed v p.worker (lines_in (take more (w.logs (Journal p.worker)).rest))
    → Step w v pid p (Starts k (KnowsRound last)) (Recovered last texts)
recovers_by w v pid p k last texts more are landed m = record {
  events = landed.events ++ Begins p.worker ∷ [];
  run = run_both v landed.events (Begins p.worker ∷ []) landed.run ((landed.away, (m.goes.stand pid p m.lives).high), tt);
  goes = subst (λ s. Goes (next_world w pid p (Recovered last texts)) s) (sym (site_both v landed.events (Begins p.worker ∷ [])))
      (acts w v m.goes pid p m.lives (Recovered last texts) next at.2.guard refl turned now_kept
      (λ s l is. ap (λ (ls : List ℕ). line_of ls s) landed.kept ∙ line_of_both (v.kept p.worker) (lines_in (take more log.rest)) s l is)
      all_there
      (stand_by w v next pid p (Starts k (KnowsRound last)) (Recovered last texts) m tt turned
      (at.0, at.1, (quiet_on w next pid p (Recovered last texts) at.2.guard refl refl (at_it (site_from v landed.events).stage p.worker Free), sym (ap (λ (l : Log). l.kept) (log_it w.logs (Journal p.worker) _))))));
}
  where
    at : At w v pid p (Starts k (KnowsRound last))
    at = stood w v pid p (Starts k (KnowsRound last)) (Recovered last texts) m

    log : Log
    log = w.logs (Journal p.worker)

    next : Site
    next = site_after (site_from v landed.events) (Begins p.worker)

    turned : Turns v next p.worker
    turned = turns_then v (site_from v landed.events) next p.worker landed.turns (turns_begins (site_from v landed.events) p.worker)

    now_kept : (site_from v landed.events).kept p.worker ≡ lines_in texts
    now_kept = landed.kept
        ∙ (ap (λ (ls : List ℕ). ls ++ lines_in (take more log.rest)) (m.goes.kept p.worker)
        ∙ (sym (lines_in_both log.kept (take more log.rest)) ∙ ap lines_in (sym are)))

    all_there : (text : List ℕ) → IsOneOf (texts ++ []) text → IsOneOf (log.kept ++ log.rest) text
    all_there text one = ⊎_elim
        (λ (here : IsOneOf texts text). ⊎_elim
        (λ old. of_left log.kept log.rest text old)
        (λ taken. of_right log.kept log.rest text (taken_of more log.rest text taken))
        (of_both log.kept (take more log.rest) text (subst (λ (ts : List (List ℕ)). IsOneOf ts text) are here)))
        (λ (none : IsOneOf [] text). absurd none)
        (of_both texts [] text one)

knows_recovered : (w : World) (v : Site) (pid : ℕ) (p : Process) (k : ℕ) (last : Option RoundFile) (texts : List (List ℕ))
    → Step w v pid p (Starts k (KnowsRound last)) (Recovered last texts)
knows_recovered w v pid p k last texts m =
    let (more, are) = m.kernel in
    recovers_by w v pid p k last texts more are
    (lands_all v p.worker (lines_in (take more (w.logs (Journal p.worker)).rest)) (stood w v pid p (Starts k (KnowsRound last)) (Recovered last texts) m).2.away)
    m

knows_falls : (w : World) (v : Site) (pid : ℕ) (p : Process) (k : ℕ) (last : Option RoundFile) (r : Request) → Step w v pid p (Starts k (KnowsRound last)) (Fell r)
knows_falls w v pid p k last r m =
    let at = stood w v pid p (Starts k (KnowsRound last)) (Fell r) m in
    stays w v m.goes pid p m.lives (Fell r) refl refl
    (stand_by w v v pid p (Starts k (KnowsRound last)) (Fell r) m tt (turns_none v p.worker) (λ holds. at.2.away))

knows : (w : World) (v : Site) (pid : ℕ) (p : Process) (k : ℕ) (last : Option RoundFile) (c : Call) → Step w v pid p (Starts k (KnowsRound last)) c
knows w v pid p k last c m = ⊎_elim
    (λ (is : (texts : List (List ℕ)) × (c ≡ Recovered last texts)). subst (Step w v pid p (Starts k (KnowsRound last))) (sym is.1) (knows_recovered w v pid p k last is.0) m)
    (λ (is : c ≡ Fell (Recover last)). subst (Step w v pid p (Starts k (KnowsRound last))) (sym is) (knows_falls w v pid p k last (Recover last)) m)
    (is_recover last c m.allowed)

-- ---- the folder is synced, and the lines of the run are read

recovered_synced : (w : World) (v : Site) (pid : ℕ) (p : Process) (k : ℕ) (last : Option RoundFile) (texts : List (List ℕ)) → Step w v pid p (Starts k (HasRecovered last texts)) FolderIsSynced
recovered_synced w v pid p k last texts m =
    let at = stood w v pid p (Starts k (HasRecovered last texts)) FolderIsSynced m in
    stays w v m.goes pid p m.lives FolderIsSynced refl refl
    (stand_by w v v pid p (Starts k (HasRecovered last texts)) FolderIsSynced m tt (turns_none v p.worker)
    (at.0, at.1, (quiet_stays w v pid p FolderIsSynced m.its refl refl refl at.2.0, at.2.1 ∙ ap (λ (l : Log). l.kept) (sym (log_it w.logs (Journal p.worker) _)))))

recovered_falls : (w : World) (v : Site) (pid : ℕ) (p : Process) (k : ℕ) (last : Option RoundFile) (texts : List (List ℕ)) (r : Request) → Step w v pid p (Starts k (HasRecovered last texts)) (Fell r)
recovered_falls w v pid p k last texts r m =
    let at = stood w v pid p (Starts k (HasRecovered last texts)) (Fell r) m in
    halts w v m.goes pid p m.lives (Fell r) at.2.0.owns.guard refl refl
    (λ v' away turned. stand_by w v v' pid p (Starts k (HasRecovered last texts)) (Fell r) m tt turned (λ holds. away))

recovered : (w : World) (v : Site) (pid : ℕ) (p : Process) (k : ℕ) (last : Option RoundFile) (texts : List (List ℕ)) (c : Call) → Step w v pid p (Starts k (HasRecovered last texts)) c
recovered w v pid p k last texts c m = ⊎_elim
    (λ (is : c ≡ FolderIsSynced). subst (Step w v pid p (Starts k (HasRecovered last texts))) (sym is) (recovered_synced w v pid p k last texts) m)
    (λ (is : c ≡ Fell SyncFolder). subst (Step w v pid p (Starts k (HasRecovered last texts))) (sym is) (recovered_falls w v pid p k last texts SyncFolder) m)
    (is_sync c m.allowed)

-- Each element of a mapped list is the function's value of some element of the list.
of_map : {A B : Type 0} (f : A → B) (xs : List A) (y : B) → IsOneOf (map f xs) y → (x : A) × IsOneOf xs x × (f x ≡ y)
of_map f [] y one = absurd one
of_map f (x ∷ xs) y (inl is) = (x, inl refl, is)
of_map f (x ∷ xs) y (inr one) = let (z, there, is) = of_map f xs y one in (z, inr there, is)

-- If all intents of a journal are kept, the intents of its pending attempts are kept.
are_pending : (v : Site) (q : ℕ) (count : ℕ) (texts : List (List ℕ)) (attempts : List Attempt) → attempts_in count texts ≡ Some attempts → v.kept q ≡ lines_in texts → ArePending v q (pending_of attempts)
are_pending v q count texts attempts is kept i one =
    let (x, there, same) = of_map intent_of (pending_from 1 attempts) i one in
    let line : line_of (map (λ (a : Attempt). a.line) attempts) x.0 ≡ Some x.1 = pending_lines attempts x.0 x.1 there in (
      x.1,
      ap (λ (ls : List ℕ). line_of ls i.serial) (kept ∙ sym (attempts_lines count texts attempts is))
          ∙ (ap (λ (j : Pending). line_of (map (λ (a : Attempt). a.line) attempts) j.serial) (sym same) ∙ line),
    )

settled_jobs : (w : World) (v : Site) (pid : ℕ) (p : Process) (k : ℕ) (last : Option RoundFile) (texts : List (List ℕ)) (lines : List (List ℕ)) → Step w v pid p (Starts k (Settled last texts)) (JobsAre last lines)
settled_jobs w v pid p k last texts lines m = by_attempts (attempts_in (length lines) texts) refl
  where
    at : At w v pid p (Starts k (Settled last texts))
    at = stood w v pid p (Starts k (Settled last texts)) (JobsAre last lines) m

    by_attempts : (o : Option (List Attempt)) → attempts_in (length lines) texts ≡ o → Reaches v (next_world w pid p (JobsAre last lines))
    by_attempts None is = halts w v m.goes pid p m.lives (JobsAre last lines) at.2.0.owns.guard refl refl
        (λ v' away turned. stand_by w v v' pid p (Starts k (Settled last texts)) (JobsAre last lines) m tt turned
        (subst (λ o. At (next_world w pid p (JobsAre last lines)) v' pid (process_by p (JobsAre last lines)) (asks_first k lines o)) (sym is) (λ holds. away)))
    by_attempts (Some attempts) is = stays w v m.goes pid p m.lives (JobsAre last lines) refl refl
        (stand_by w v v pid p (Starts k (Settled last texts)) (JobsAre last lines) m tt (turns_none v p.worker)
        (subst (λ o. At (next_world w pid p (JobsAre last lines)) v pid (process_by p (JobsAre last lines)) (asks_first k lines o)) (sym is) (
          at.0,
          at.1,
          (
            quiet_stays w v pid p (JobsAre last lines) m.its refl refl refl at.2.0,
            are_pending v p.worker (length lines) texts attempts is (m.goes.kept p.worker ∙ ap lines_in (sym at.2.1)),
          ),
        )))

settled_falls : (w : World) (v : Site) (pid : ℕ) (p : Process) (k : ℕ) (last : Option RoundFile) (texts : List (List ℕ)) (r : Request) → Step w v pid p (Starts k (Settled last texts)) (Fell r)
settled_falls w v pid p k last texts r m =
    let at = stood w v pid p (Starts k (Settled last texts)) (Fell r) m in
    halts w v m.goes pid p m.lives (Fell r) at.2.0.owns.guard refl refl
    (λ v' away turned. stand_by w v v' pid p (Starts k (Settled last texts)) (Fell r) m tt turned (λ holds. away))

settled : (w : World) (v : Site) (pid : ℕ) (p : Process) (k : ℕ) (last : Option RoundFile) (texts : List (List ℕ)) (c : Call) → Step w v pid p (Starts k (Settled last texts)) c
settled w v pid p k last texts c m = ⊎_elim
    (λ (is : (lines : List (List ℕ)) × (c ≡ JobsAre last lines)). subst (Step w v pid p (Starts k (Settled last texts))) (sym is.1) (settled_jobs w v pid p k last texts is.0) m)
    (λ (is : c ≡ Fell (ReadJobs last)). subst (Step w v pid p (Starts k (Settled last texts))) (sym is) (settled_falls w v pid p k last texts (ReadJobs last)) m)
    (is_read_jobs last c m.allowed)

-- ---- the whole

pub starts_step : (w : World) (v : Site) (pid : ℕ) (p : Process) (k : ℕ) (start : Start) (c : Call) → Made w v pid p (Starts k start) c → Reaches v (next_world w pid p c)
starts_step w v pid p k Unborn c m = unborn w v pid p k c m
starts_step w v pid p k Guards c m = guards w v pid p k c m
starts_step w v pid p k Checked c m = checked w v pid p k c m
starts_step w v pid p k (KnowsRound last) c m = knows w v pid p k last c m
starts_step w v pid p k (HasRecovered last texts) c m = recovered w v pid p k last texts c m
starts_step w v pid p k (Settled last texts) c m = settled w v pid p k last texts c m
