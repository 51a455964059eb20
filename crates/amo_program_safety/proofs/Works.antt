-- The steps of a process in a round, except the steps by which it asks whether a line is clear.
use Rattle.std.proofs.Common.{◌≡◌, ◌⊎◌, inl, inr, ⊎_elim, ℕ, zero, suc, List, [], ◌∷◌, ◌++◌, length, Option, Some, None, refl, sym, ap, ◌∙◌, subst}
use Rattle.std.specs.Prelude.{Bool, true, false, if◌then◌else◌}
use Rattle.amo_safety_by_journals.specs.Model.{IsOneOf, Free, Site, line_of}
use Rattle.amo_driver.specs.Course.{due, stage_after, stage_told, stage_heard, stage_by_jobs}
use Rattle.amo_driver.specs.Stage.{Stage, Going, Finding, Intending, Clearing, Performing, Noting, Leaving, Gone, Unanswered, Refused, Broken}
use Rattle.amo_driver.specs.declared.answer.Way.{Way}
use Rattle.amo_driver.specs.declared.answer.Way.TheVariants.{Go, Leave}
use Rattle.amo_driver.specs.declared.model.Deed.{Deed}
use Rattle.amo_driver.specs.declared.model.Deed.TheVariants.{Loaded as WasLoaded, Stored as WasStored, Found, Fell as HasFallen}
use Rattle.amo_driver.specs.declared.model.Try.{Try}
use Rattle.amo_process.specs.Stepped.{ProcessView}
use Rattle.amo_host.specs.declared.model.LogFile.TheVariants.{Journal}
use Rattle.amo_host.specs.declared.model.RunLock.TheVariants.{Round}
use Rattle.amo_host.specs.Calls.{Request, Put, Owe, Pay, ReadOn, Say, Unlock, Call, HasUnlocked, HasPut, HasOwed, HasPaid, HasRead, Heard, Fell, request_of}
use Rattle.amo_host.specs.Logs.{Logs}
use Rattle.amo_host.specs.Phase.{Identity, Works}
use Rattle.amo_host.specs.Protocol.{effect_of, stage_by, works_on, fails, phase_after}
use Rattle.amo_run_log.specs.declared.append.Append.TheVariants.{One}
use Rattle.amo_run_log.specs.declared.entry.Entry.{Entry}
use Rattle.amo_run_log.specs.Entries.{text_of_append}
use Rattle.amo_program_safety.specs.Texts.{lines_in}
use Rattle.amo_program_safety.specs.World.{Log, Process, World, process_by, journal_by, guard_by, synced, owed_text}
use Rattle.amo_program_safety.specs.Runs.{IsWritten}
use Rattle.amo_program_safety.proofs.Standing.{Knows, Quiet, Owes, FitsWrites, Stand, Goes, At, WorksAt, IsNext, rest_by, all_of}
use Rattle.amo_program_safety.proofs.Texts.{lines_in_both, line_of_both, put_no_lines}
use Rattle.amo_program_safety.proofs.Moves.{Reaches}
use Rattle.amo_program_safety.proofs.Acting.{Turns, turns_none, acts, stays, nothing_written}
use Rattle.amo_program_safety.proofs.Steps.{Made, next_world, stood, stand_by, quiet_on}
use Rattle.amo_program_safety.proofs.Plain.{IsPlainRequest, IsSilent, plain_call, fell_silent, ends, quiet_step}

-- ---- the stages after a deed

module _ (w : World) (v : Site) (pid : ℕ) (p : Process) (jobs : List ℕ) where
  by_jobs : (s : ℕ) (a : ProcessView) (performs doubts : ℕ) → IsNext w v pid p s → WorksAt w v pid p jobs (stage_by_jobs s a performs doubts)
  by_jobs s a zero zero next = next
  by_jobs s a zero (suc j) next = next
  by_jobs s a (suc j) d next = next

  heard : (s : ℕ) (way : Way) (a : ProcessView) → IsNext w v pid p s → WorksAt w v pid p jobs (stage_heard s way a)
  heard s Go a next = by_jobs s a _ _ next
  heard s Leave a next = leaves _
    where
      leaves : (b : Bool) → WorksAt w v pid p jobs (if b then Leaving a else Going s a Leave)
      leaves true = next.0
      leaves false = next

  told : (word value s : ℕ) (way : Way) (a : ProcessView) → IsNext w v pid p s → WorksAt w v pid p jobs (stage_told word value s way a)
  told word value s way a next = refuses _
    where
      refuses : (b : Bool) → WorksAt w v pid p jobs (if b then Refused word value else stage_heard s way a)
      refuses true = next.0
      refuses false = heard s way a next

  pub going_after : (s : ℕ) (a : ProcessView) (way : Way) (d : Deed) → IsNext w v pid p s → WorksAt w v pid p jobs (stage_after (Going s a way) d)
  going_after s a way (HasFallen t) next = next.0
  going_after s a way (WasLoaded word value) next = told word value s way _ next
  going_after s a way (WasStored word value) next = told word value s way _ next
  going_after s a way d next = next

  pub finding_after : (s : ℕ) (a : ProcessView) (j : ℕ) (d : Deed) → IsNext w v pid p s → WorksAt w v pid p jobs (stage_after (Finding s a j) d)
  finding_after s a j (HasFallen t) next = next.0
  finding_after s a j (Found i) next = next
  finding_after s a j d next = next

  pub leaving_after : (a : ProcessView) (d : Deed) → Quiet w v pid p → WorksAt w v pid p jobs (stage_after (Leaving a) d)
  leaving_after a (HasFallen t) quiet = quiet
  leaving_after a (WasStored word value) quiet = quiet
  leaving_after a d quiet = quiet

  pub after_tried : (st : Stage) (t : Option Try) (c : Call) → ((d : Deed) → WorksAt w v pid p jobs (stage_after st d)) → WorksAt w v pid p jobs st → WorksAt w v pid p jobs (stage_by t st c)
  after_tried st None c after here = here
  after_tried st (Some t) c after here = after (effect_of t c)

  module _ (me : Identity) (logs : Logs) (same : me.worker ≡ p.worker) (k : Knows v p.read logs) (quiet : Quiet w v pid p) where
    fell_at : (st : Stage) (owes : Bool) (r : Request) → IsPlainRequest r → At w v pid p (fails me jobs st owes logs r)
    fell_at st owes (Put entry) is = absurd is
    fell_at st owes (Owe entry) is = absurd is
    fell_at st owes Pay is = absurd is
    fell_at st owes (ReadOn f) is = absurd is
    fell_at st owes r is = (same, k, quiet)

    pub plain_at : (st : Stage) (owes : Bool) (c : Call) → IsPlainRequest (request_of c) → WorksAt w v pid p jobs (stage_by (due st) st c) → At w v pid p (works_on me jobs st owes logs c)
    plain_at st owes (HasUnlocked lock) is next = (same, k, quiet)
    plain_at st owes (HasRead f texts) is next = absurd is
    plain_at st owes (Fell r) is next = fell_at st owes r is
    plain_at st owes c is next = (same, k, next)

-- ---- stages at which nothing is due

-- If nothing is due, the process is quiet. The facts of its stage hold in every world in which the
-- process is quiet.
pub none_due : (w : World) (v : Site) (pid : ℕ) (p : Process) (jobs : List ℕ) (st : Stage) → due st ≡ None → WorksAt w v pid p jobs st
    → Quiet w v pid p × ((w' : World) (p' : Process) → p'.worker ≡ p.worker → Quiet w' v pid p' → WorksAt w' v pid p' jobs st)
none_due w v pid p jobs (Going s a way) e here = (here.0, λ w' p' same quiet. (quiet, here.1 ∙ ap (λ q. suc (length (v.kept q))) (sym same)))
none_due w v pid p jobs (Finding s a j) e here = absurd (cc e)
none_due w v pid p jobs (Intending s a j) e here = absurd (cc e)
none_due w v pid p jobs (Clearing s a j) e here = absurd (cc e)
none_due w v pid p jobs (Performing s a j) e here = absurd (cc e)
none_due w v pid p jobs (Noting s a c way) e here = absurd (cc e)
none_due w v pid p jobs (Leaving a) e here = absurd (cc e)
none_due w v pid p jobs Gone e here = (here, λ w' p' same quiet. quiet)
none_due w v pid p jobs (Unanswered s reply) e here = (here, λ w' p' same quiet. quiet)
none_due w v pid p jobs (Refused word value) e here = (here, λ w' p' same quiet. quiet)
none_due w v pid p jobs Broken e here = (here, λ w' p' same quiet. quiet)
none_due w v pid p jobs st e here = absurd here

is_none : (st : Stage) (c : Call) → due st ≡ None → stage_by (due st) st c ≡ st
is_none st c e = ap (λ t. stage_by t st c) e

-- The call of a request returns or fails.
pub pay_ends : (c : Call) → request_of c ≡ Pay → (c ≡ HasPaid) ⊎ (c ≡ Fell Pay)
pay_ends HasPaid e = inl refl
pay_ends (Fell r) e = inr (ap Fell e)
pay_ends c e = absurd (cc e)

pub put_ends : (c : Call) (entry : Entry) → request_of c ≡ Put entry → (c ≡ HasPut entry) ⊎ (c ≡ Fell (Put entry))
put_ends (HasPut entry) other e = inl (ap HasPut (put_is e))
  where
    put_is : {a b : Entry} → Put a ≡ Put b → a ≡ b
    put_is e = cc
put_ends (Fell r) entry e = inr (ap Fell e)
put_ends c entry e = absurd (cc e)

pub owe_ends : (c : Call) (entry : Entry) → request_of c ≡ Owe entry → (c ≡ HasOwed entry) ⊎ (c ≡ Fell (Owe entry))
owe_ends (HasOwed entry) other e = inl (ap HasOwed (owe_is e))
  where
    owe_is : {a b : Entry} → Owe a ≡ Owe b → a ≡ b
    owe_is e = cc
owe_ends (Fell r) entry e = inr (ap Fell e)
owe_ends c entry e = absurd (cc e)

pub say_ends : (c : Call) (line : List ℕ) → request_of c ≡ Say line → ((reply : Option (List ℕ)) × (c ≡ Heard line reply)) ⊎ (c ≡ Fell (Say line))
say_ends (Heard said reply) line e = inl (reply, ap (λ l. Heard l reply) (say_is e))
  where
    say_is : {a b : List ℕ} → Say a ≡ Say b → a ≡ b
    say_is e = cc
say_ends (Fell r) line e = inr (ap Fell e)
say_ends c line e = absurd (cc e)

-- After a sync, the journal has the lines that were kept, followed by the lines of the written
-- appends.
synced_lines : (log : Log) (texts : List (List ℕ)) (more : List ℕ) → log.rest ≡ texts → lines_in texts ≡ more → lines_in (log.kept ++ log.rest) ≡ lines_in log.kept ++ more
synced_lines log texts more rest lines = lines_in_both log.kept log.rest ∙ ap (λ ls. lines_in log.kept ++ ls) (ap lines_in rest ∙ lines)

nil_right : (xs : List ℕ) → xs ++ [] ≡ xs
nil_right [] = refl
nil_right (x ∷ xs) = ap (λ ys. x ∷ ys) (nil_right xs)

nil_of : {A : Type 0} (xs : List A) → xs ++ [] ≡ xs
nil_of [] = refl
nil_of (x ∷ xs) = ap (λ ys. x ∷ ys) (nil_of xs)

-- A synced journal has only texts that it had before.
synced_texts : (log : Log) (text : List ℕ) → IsOneOf ((log.kept ++ log.rest) ++ []) text → IsOneOf (log.kept ++ log.rest) text
synced_texts log text one = subst (λ (ts : List (List ℕ)). IsOneOf ts text) (nil_of (log.kept ++ log.rest)) one

cases_owed : (o : Option Entry) → (o ≡ None) ⊎ ((e : Entry) × (o ≡ Some e))
cases_owed None = inl refl
cases_owed (Some e) = inr (e, refl)

-- After the written append is known to be on the disk, the site has the intents of this append.
pub written : (w : World) (v : Site) (goes : Goes w v) (pid : ℕ) (p : Process) (lives : w.process pid ≡ Some p) (c : Call) (v' : Site) (text : List ℕ) (more : List ℕ)
    → w.guard p.worker ≡ Some pid → guard_by w.guard pid c ≡ w.guard → journal_by (w.logs (Journal p.worker)) p.owed c ≡ synced (w.logs (Journal p.worker))
    → (w.logs (Journal p.worker)).rest ≡ text ∷ [] → lines_in (text ∷ []) ≡ more → Turns v v' p.worker → v'.kept p.worker ≡ v.kept p.worker ++ more
    → Stand (next_world w pid p c) v' pid (process_by p c) → Goes (next_world w pid p c) v'
written w v goes pid p lives c v' text more own guard log rest lines turned kept stand = acts w v goes pid p lives c v' own guard turned
    (kept ∙ (ap (λ ls. ls ++ more) (goes.kept p.worker) ∙ (sym (synced_lines (w.logs (Journal p.worker)) (text ∷ []) more rest lines) ∙ ap (λ (l : Log). lines_in l.kept) (sym log))))
    (λ s l is. subst (λ (ls : List ℕ). line_of ls s ≡ Some l) (sym kept) (line_of_both (v.kept p.worker) more s l is))
    (λ t one. synced_texts (w.logs (Journal p.worker)) t (subst (λ (l : Log). IsOneOf (all_of l) t) log one))
    stand

-- A process is quiet after a call that has synced its journal, if it attempts no line in the model.
pub quiet_written : (w : World) (v' : Site) (pid : ℕ) (p : Process) (c : Call) → w.guard p.worker ≡ Some pid → guard_by w.guard pid c ≡ w.guard
    → journal_by (w.logs (Journal p.worker)) p.owed c ≡ synced (w.logs (Journal p.worker)) → v'.stage p.worker ≡ Free → Quiet (next_world w pid p c) v' pid (process_by p c)
quiet_written w v' pid p c own guard log free = quiet_on w v' pid p c own guard (ap (λ (l : Log). l.rest) log) free

module _ (w : World) (v : Site) (pid : ℕ) (p : Process) (me : Identity) (jobs : List ℕ) (logs : Logs) where
  -- The process appends the entry that it owes.
  pays_step : (st : Stage) (owes : Bool) (c : Call) → Made w v pid p (Works me jobs st owes logs) c → due st ≡ None → c ≡ HasPaid → Reaches v (next_world w pid p c)
  pays_step st owes c m none is = subst (λ x. Made w v pid p (Works me jobs st owes logs) x → Reaches v (next_world w pid p x)) (sym is)
      (λ made. ⊎_elim (owes_nothing made) (λ e. owes_one made e.0 e.1) (cases_owed p.owed)) m
    where
      here_of : Made w v pid p (Works me jobs st owes logs) HasPaid → At w v pid p (Works me jobs st owes logs)
      here_of made = stood w v pid p (Works me jobs st owes logs) HasPaid made

      stands : (made : Made w v pid p (Works me jobs st owes logs) HasPaid) → Quiet (next_world w pid p HasPaid) v pid (process_by p HasPaid) → Stand (next_world w pid p HasPaid) v pid (process_by p HasPaid)
      stands made quiet = stand_by w v v pid p (Works me jobs st owes logs) HasPaid made tt (turns_none v p.worker) (
        (here_of made).0,
        (here_of made).1,
        subst (WorksAt (next_world w pid p HasPaid) v pid (process_by p HasPaid) jobs) (sym (is_none st HasPaid none))
            ((none_due w v pid p jobs st none (here_of made).2).1 (next_world w pid p HasPaid) (process_by p HasPaid) refl quiet),
      )

      owes_nothing : Made w v pid p (Works me jobs st owes logs) HasPaid → p.owed ≡ None → Reaches v (next_world w pid p HasPaid)
      owes_nothing made e =
          let quiet = (none_due w v pid p jobs st none (here_of made).2).0 in
          let log = ap (λ o. journal_by (w.logs (Journal p.worker)) o HasPaid) e in
          stays w v made.goes pid p made.lives HasPaid log refl (stands made
          (quiet_on w v pid p HasPaid quiet.owns.guard refl (ap (λ (l : Log). l.rest) log ∙ (quiet.owns.rest ∙ nothing_written p Pay made.its (ap owed_text e))) quiet.free))

      owes_one : Made w v pid p (Works me jobs st owes logs) HasPaid → (e : Entry) → p.owed ≡ Some e → Reaches v (next_world w pid p HasPaid)
      owes_one made e is_owed =
          let quiet = (none_due w v pid p jobs st none (here_of made).2).0 in
          let stand = made.goes.stand pid p made.lives in
          let writes = subst (λ o. IsWritten o p.writes) is_owed made.kernel in
          let fits = subst (λ o. FitsWrites o (Some Pay)) is_owed (subst (FitsWrites p.owed) writes stand.fits) in
          let owes_it = subst (Owes v p.worker) is_owed stand.owes in
          record {
            events = [];
            run = tt;
            goes = written w v made.goes pid p made.lives HasPaid v (text_of_append (One e)) [] quiet.owns.guard refl
                (ap (λ o. journal_by (w.logs (Journal p.worker)) o HasPaid) is_owed)
                (quiet.owns.rest ∙ (ap (rest_by p.owed) writes ∙ ap (λ o. rest_by o (Some Pay)) is_owed))
                (put_no_lines None e (λ o no. absurd (cc no)) owes_it.0 fits)
                (turns_none v p.worker) (sym (nil_right (v.kept p.worker)))
                (stands made (quiet_written w v pid p HasPaid quiet.owns.guard refl (ap (λ o. journal_by (w.logs (Journal p.worker)) o HasPaid) is_owed) quiet.free));
          }

  pub no_work_step : (st : Stage) (owes : Bool) (c : Call) → Made w v pid p (Works me jobs st owes logs) c → due st ≡ None
      → (request_of c ≡ Pay) ⊎ ((owes ≡ false) × (request_of c ≡ Unlock Round)) → Reaches v (next_world w pid p c)
  no_work_step st owes c m none (inl pay) = ⊎_elim (pays_step st owes c m none) fails_to_pay (pay_ends c pay)
    where
      fails_to_pay : c ≡ Fell Pay → Reaches v (next_world w pid p c)
      fails_to_pay is =
          let here = stood w v pid p (Works me jobs st owes logs) c m in
          let quiet = (none_due w v pid p jobs st none here.2).0 in
          ends w v pid p (Works me jobs st owes logs) c m quiet.owns.guard (subst (IsSilent pid) (sym is) (fell_silent pid Pay))
          (λ v' halted. subst (λ x. At (next_world w pid p c) v' pid (process_by p c) (phase_after (Works me jobs st owes logs) x)) (sym is) halted)
  no_work_step st owes c m none (inr unlock) =
      let here = stood w v pid p (Works me jobs st owes logs) c m in
      let due_none = none_due w v pid p jobs st none here.2 in
      let plain = plain_call pid c (subst IsPlainRequest (sym unlock.1) tt) in
      quiet_step w v pid p (Works me jobs st owes logs) c m due_none.0 plain
      (λ quiet. inr (plain_at (next_world w pid p c) v pid (process_by p c) jobs me logs here.0
      (subst (λ r. Knows v r logs) (sym (plain.read p.read)) here.1) quiet st owes c (subst IsPlainRequest (sym unlock.1) tt)
      (subst (WorksAt (next_world w pid p c) v pid (process_by p c) jobs) (sym (is_none st c none)) (due_none.1 (next_world w pid p c) (process_by p c) refl quiet))))
