-- The steps by which a process in a round does what is due.
use Rattle.std.proofs.Common.{◌≡◌, ◌⊎◌, inl, inr, ⊎_elim, ◌≤◌, ◌<◌, ◌+◌, ◌^◌, ℕ, suc, List, [], ◌∷◌, ◌++◌, length, Option, Some, None, refl, sym, ap, ◌∙◌, subst}
use Rattle.std.proofs.lemmas.Bool.{cases_eq, eq-eqb, ne_eqb}
use Rattle.std.specs.Prelude.{Bool, true, false, ◌==◌, if◌then◌else◌}
use native.Mathlib.Omega.{arith}
use Rattle.amo_safety_by_journals.specs.Model.{Away, Free, Clearing as ModelClearing, Site, site_after, Event as ModelEvent, Dies, Begins, Intends, line_of}
use Rattle.amo_safety_by_journals.specs.Runs.{Clearance, IsRunFrom, site_from}
use Rattle.amo_driver.specs.Course.{due, stage_replied, access_tried}
use Rattle.amo_driver.specs.Stage.{Stage, Going, Finding, Intending, Performing, Noting, Leaving, Unanswered}
use Rattle.amo_driver.specs.declared.answer.JobResult.{JobResult}
use Rattle.amo_driver.specs.declared.answer.JobResult.TheVariants.{Done, Doubt, Unbegun, Untouched}
use Rattle.amo_driver.specs.declared.answer.Reply.{Reply}
use Rattle.amo_driver.specs.declared.answer.Reply.TheVariants.{Answered as Replied, Running, Garbled, Closed}
use Rattle.amo_driver.specs.declared.answer.Way.{Way}
use Rattle.amo_driver.specs.declared.model.Try.{Try}
use Rattle.amo_driver.specs.declared.model.Try.TheVariants.{Store, Find}
use Rattle.amo_params.specs.declared.limits.TheConstants.{MAX_WORKERS}
use Rattle.amo_process.specs.Stepped.{ProcessView}
use Rattle.amo_process.specs.declared.access.Access.{Access}
use Rattle.amo_process.specs.declared.access.Access.TheVariants.{Load as LoadAccess, Store as StoreAccess, Nothing}
use Rattle.amo_host.specs.declared.model.LogFile.TheVariants.{Journal}
use Rattle.amo_host.specs.Calls.{Request, Put, Owe, Say, Call, HasPut, HasOwed, Heard, Fell, request_of}
use Rattle.amo_host.specs.Logs.{Logs}
use Rattle.amo_host.specs.Phase.{Identity, Works}
use Rattle.amo_host.specs.Protocol.{CarriesOut, outcome_at, outcome_entry, stage_by, phase_after, line_at}
use Rattle.amo_runner_protocol.specs.Lines.{reply_heard}
use Rattle.amo_run_log.specs.declared.entry.Entry.{Entry}
use Rattle.amo_run_log.specs.declared.entry.Entry.TheVariants.{Intent, Answer as Answered}
use Rattle.amo_run_log.specs.declared.entry.Outcome.{Outcome}
use Rattle.amo_run_log.specs.declared.entry.Outcome.TheVariants.{Unbegun as NotBegun}
use Rattle.amo_run_log.specs.Entries.{FitsAppend, text_of_append}
use Rattle.amo_run_log.specs.Open.{IsAnswer}
use Rattle.amo_program_safety.specs.Texts.{append_of}
use Rattle.amo_program_safety.specs.World.{Log, Process, World, process_by, read_by}
use Rattle.amo_program_safety.proofs.Standing.{IsOpened, IsKept, Settled, Knows, Quiet, Owes, OpensIf, OpensOpened, AnswersSettled, FitsWrites, At, WorksAt, rest_by}
use Rattle.amo_program_safety.proofs.Texts.{line_of_last, line_behind, put_lines}
use Rattle.amo_program_safety.proofs.Moves.{Reaches}
use Rattle.amo_program_safety.proofs.Points.{at_it, log_it}
use Rattle.amo_program_safety.proofs.Acting.{Turns, turns_then, turns_dies, turns_begins, turns_intends, turns, stays, nothing_written}
use Rattle.amo_program_safety.proofs.Steps.{Made, next_world, stood, stand_by, stand_owing, quiet_on, knows_more}
use Rattle.amo_program_safety.proofs.Plain.{IsPlain, IsPlainRequest, IsSilent, plain_call, fell_silent, ends, quiet_step}
use Rattle.amo_program_safety.proofs.GivingUp.{gives_up}
use Rattle.amo_program_safety.proofs.Works.{going_after, finding_after, leaving_after, after_tried, plain_at, put_ends, owe_ends, say_ends, written}

tried_is : {a b : Try} → Some a ≡ Some b → b ≡ a
tried_is e = cc

-- ---- accesses of registers, and other calls that append nothing

pub out_of_access : (me : Identity) (jobs : List ℕ) (x : Access) (t : Try) (r : Request) → access_tried x ≡ Some t → CarriesOut me jobs t r → IsPlainRequest r
out_of_access me jobs (LoadAccess word) t r e out = subst IsPlainRequest (sym (subst (λ y. CarriesOut me jobs y r) (tried_is e) out)) tt
out_of_access me jobs (StoreAccess word value) t r e out = subst IsPlainRequest (sym (subst (λ y. CarriesOut me jobs y r) (tried_is e) out)) tt
out_of_access me jobs Nothing t r e out = absurd (cc e)

pub out_of_find : (me : Identity) (jobs : List ℕ) (j : ℕ) (t : Try) (r : Request) → Some (Find j) ≡ Some t → CarriesOut me jobs t r → IsPlainRequest r
out_of_find me jobs j t r e out = subst IsPlainRequest (sym (subst (λ y. CarriesOut me jobs y r) (tried_is e) out)) tt

pub out_of_store : (me : Identity) (jobs : List ℕ) (word value : ℕ) (t : Try) (r : Request) → Some (Store word value) ≡ Some t → CarriesOut me jobs t r → IsPlainRequest r
out_of_store me jobs word value t r e out = subst IsPlainRequest (sym (subst (λ y. CarriesOut me jobs y r) (tried_is e) out)) tt

module _ (w : World) (v : Site) (pid : ℕ) (p : Process) (me : Identity) (jobs : List ℕ) (owes : Bool) (logs : Logs) (c : Call) where
  access_step : (st : Stage) → Made w v pid p (Works me jobs st owes logs) c → Quiet w v pid p → IsPlainRequest (request_of c)
      → (Quiet (next_world w pid p c) v pid (process_by p c) → WorksAt (next_world w pid p c) v pid (process_by p c) jobs (stage_by (due st) st c))
      → Reaches v (next_world w pid p c)
  access_step st m quiet is next =
      let here = stood w v pid p (Works me jobs st owes logs) c m in
      let plain = plain_call pid c is in
      quiet_step w v pid p (Works me jobs st owes logs) c m quiet plain
      (λ now. inr (plain_at (next_world w pid p c) v pid (process_by p c) jobs me logs here.0
      (subst (λ r. Knows v r logs) (sym (plain.read p.read)) here.1) now st owes c is (next now)))

  pub going_step : (s : ℕ) (a : ProcessView) (way : Way) → Made w v pid p (Works me jobs (Going s a way) owes logs) c
      → (t : Try) → due (Going s a way) ≡ Some t → CarriesOut me jobs t (request_of c) → Reaches v (next_world w pid p c)
  going_step s a way m t e out =
      let next = (stood w v pid p (Works me jobs (Going s a way) owes logs) c m).2 in
      access_step (Going s a way) m next.0 (out_of_access me jobs _ t (request_of c) e out)
      (λ quiet. after_tried (next_world w pid p c) v pid (process_by p c) jobs (Going s a way) (due (Going s a way)) c
      (λ d. going_after (next_world w pid p c) v pid (process_by p c) jobs s a way d (quiet, next.1)) (quiet, next.1))

  pub finding_step : (s : ℕ) (a : ProcessView) (j : ℕ) → Made w v pid p (Works me jobs (Finding s a j) owes logs) c
      → (t : Try) → due (Finding s a j) ≡ Some t → CarriesOut me jobs t (request_of c) → Reaches v (next_world w pid p c)
  finding_step s a j m t e out =
      let next = (stood w v pid p (Works me jobs (Finding s a j) owes logs) c m).2 in
      access_step (Finding s a j) m next.0 (out_of_find me jobs j t (request_of c) e out)
      (λ quiet. after_tried (next_world w pid p c) v pid (process_by p c) jobs (Finding s a j) (due (Finding s a j)) c
      (λ d. finding_after (next_world w pid p c) v pid (process_by p c) jobs s a j d (quiet, next.1)) (quiet, next.1))

  pub leaving_step : (a : ProcessView) → Made w v pid p (Works me jobs (Leaving a) owes logs) c
      → (t : Try) → due (Leaving a) ≡ Some t → CarriesOut me jobs t (request_of c) → Reaches v (next_world w pid p c)
  leaving_step a m t e out =
      let now = (stood w v pid p (Works me jobs (Leaving a) owes logs) c m).2 in
      access_step (Leaving a) m now (out_of_store me jobs _ _ t (request_of c) e out)
      (λ quiet. after_tried (next_world w pid p c) v pid (process_by p c) jobs (Leaving a) (due (Leaving a)) c
      (λ d. leaving_after (next_world w pid p c) v pid (process_by p c) jobs a d quiet) quiet)

-- ---- the outcome

-- An attempt whose intent is kept is settled while its worker attempts no line.
pub settled_quiet : (w : World) (v : Site) (pid : ℕ) (p : Process) (s : ℕ) → Quiet w v pid p → IsKept v p.worker s → Settled v p.worker s
settled_quiet w v pid p s quiet kept = (kept, λ line seen held. let no : Free ≡ ModelClearing s line seen = sym quiet.free ∙ held in absurd (cc no))

outcome_opens : (v : Site) (q s time : ℕ) (c : JobResult) → OpensIf v q s c → OpensOpened v q (outcome_entry s time c)
outcome_opens v q s time (Done code) opens n e = absurd (cc e)
outcome_opens v q s time Doubt opens n e = absurd (cc e)
outcome_opens v q s time Unbegun opens n e = subst (IsOpened v q) (serial_is e) (opens refl)
  where
    serial_is : {a b : ℕ} → Answered a NotBegun ≡ Answered b NotBegun → a ≡ b
    serial_is e = cc
outcome_opens v q s time (Untouched code) opens n e = absurd (cc e)

outcome_settles : (v : Site) (q s time : ℕ) (c : JobResult) → Settled v q s → AnswersSettled v q (outcome_entry s time c)
outcome_settles v q s time c settled n o e = subst (Settled v q) (serial_is s n (outcome_at time c) o e) settled
  where
    serial_is : (a b : ℕ) (x y : Outcome) → Answered a x ≡ Answered b y → a ≡ b
    serial_is a b x y e = cc

-- A process may owe the outcome of a settled attempt. If the outcome is `Unbegun`, the attempt must
-- be opened.
pub outcome_owes : (v : Site) (q s time : ℕ) (c : JobResult) → OpensIf v q s c → Settled v q s → Owes v q (Some (outcome_entry s time c))
outcome_owes v q s time c opens settled = (tt, outcome_opens v q s time c opens, outcome_settles v q s time c settled)

next_serial : (s n : ℕ) → s ≡ n → s + 1 ≡ suc n
next_serial s n e = omega (arith, e)

module _ (w : World) (v : Site) (pid : ℕ) (p : Process) (me : Identity) (jobs : List ℕ) (owes : Bool) (logs : Logs) where
  noted : (s : ℕ) (a : ProcessView) (c : JobResult) (way : Way) (time : ℕ) → Made w v pid p (Works me jobs (Noting s a c way) owes logs) (HasOwed (outcome_entry s time c))
      → Reaches v (next_world w pid p (HasOwed (outcome_entry s time c)))
  noted s a c way time m =
      let entry = outcome_entry s time c in
      let here = stood w v pid p (Works me jobs (Noting s a c way) owes logs) (HasOwed entry) m in
      let notes = here.2 in
      stays w v m.goes pid p m.lives (HasOwed entry) refl refl (stand_owing w v v pid p (Works me jobs (Noting s a c way) owes logs) (HasOwed entry) m
      (outcome_owes v p.worker s time c notes.2 (settled_quiet w v pid p s notes.0 notes.3)) (
        here.0,
        here.1,
        (
          quiet_on w v pid p (HasOwed entry) notes.0.owns.guard refl
              (notes.0.owns.rest ∙ nothing_written p (Owe entry) m.its refl) notes.0.free,
          next_serial s _ notes.1,
        ),
      ))

  pub noting_step : (s : ℕ) (a : ProcessView) (o : JobResult) (way : Way) (c : Call) → Made w v pid p (Works me jobs (Noting s a o way) owes logs) c
      → (t : Try) → due (Noting s a o way) ≡ Some t → CarriesOut me jobs t (request_of c) → Reaches v (next_world w pid p c)
  noting_step s a o way c m t e out =
      let owing = subst (λ y. CarriesOut me jobs y (request_of c)) (tried_is e) out in
      ⊎_elim
      (λ is. subst (λ x. Made w v pid p (Works me jobs (Noting s a o way) owes logs) x → Reaches v (next_world w pid p x)) (sym is) (noted s a o way owing.0) m)
      (λ is. ends w v pid p (Works me jobs (Noting s a o way) owes logs) c m
      ((stood w v pid p (Works me jobs (Noting s a o way) owes logs) c m).2.0.owns.guard) (subst (IsSilent pid) (sym is) (fell_silent pid (Owe (outcome_entry s owing.0 o))))
      (λ v' halted. subst (λ x. At (next_world w pid p c) v' pid (process_by p c) (phase_after (Works me jobs (Noting s a o way) owes logs) x)) (sym is) halted))
      (owe_ends c (outcome_entry s owing.0 o) owing.1)

-- ---- the reply

by_eq : (P : Bool → Type 0) (n s : ℕ) → (n ≡ s → P true) → ((n ≡ s → ⊥) → P false) → P (n == s)
by_eq P n s same other = ⊎_elim (λ (e : n ≡ s). subst P (sym (eq-eqb n s e)) (same e)) (λ (no : n ≡ s → ⊥). subst P (sym (ne_eqb n s no)) (other no)) (cases_eq n s)

module _ (w : World) (v : Site) (pid : ℕ) (p : Process) (jobs : List ℕ) (s : ℕ) (a : ProcessView) where
  replied_at : (r : Reply) → Quiet w v pid p → s ≡ length (v.kept p.worker) → IsKept v p.worker s → ((way : Way) → r ≡ Replied s Unbegun way → IsOpened v p.worker s)
      → WorksAt w v pid p jobs (stage_replied s a r)
  replied_at (Replied n c way) quiet serial kept opens = by_eq (λ b. WorksAt w v pid p jobs (if b then Noting s a c way else Unanswered s (Replied n c way))) n s
      (λ e. (quiet, serial, (λ is. opens way (ap (λ m. Replied m c way) e ∙ ap (λ o. Replied s o way) is)), kept))
      (λ other. quiet)
  replied_at (Running n way) quiet serial kept opens = by_eq (λ b. WorksAt w v pid p jobs (if b then Going (s + 1) a way else Unanswered s (Running n way))) n s
      (λ e. (quiet, next_serial s _ serial))
      (λ other. quiet)
  replied_at Garbled quiet serial kept opens = quiet
  replied_at Closed quiet serial kept opens = quiet

abbrev IsUnbegun : ℕ → Reply → Type 0
IsUnbegun s r = (way : Way) × (r ≡ Replied s Unbegun way)

reply_number : {n m : ℕ} {c d : JobResult} {x y : Way} → Replied n c x ≡ Replied m d y → n ≡ m
reply_number e = cc

unbegun_or : (s : ℕ) (r : Reply) → IsUnbegun s r ⊎ (IsUnbegun s r → ⊥)
unbegun_or s (Replied n (Done code) way) = inr (λ is. cc is.1)
unbegun_or s (Replied n Doubt way) = inr (λ is. cc is.1)
unbegun_or s (Replied n Unbegun way) = ⊎_elim (λ (e : n ≡ s). inl (way, ap (λ m. Replied m Unbegun way) e)) (λ (no : n ≡ s → ⊥). inr (λ is. no (reply_number is.1))) (cases_eq n s)
unbegun_or s (Replied n (Untouched code) way) = inr (λ is. cc is.1)
unbegun_or s (Running n way) = inr (λ is. cc is.1)
unbegun_or s Garbled = inr (λ is. cc is.1)
unbegun_or s Closed = inr (λ is. cc is.1)

-- By some events the model's process lets its attempt go, and then attempts no line.
record LetsGo (v : Site) (q : ℕ) : Type 0 where
  pub events : List ModelEvent
  pub run : IsRunFrom Clearance MAX_WORKERS v events
  pub turned : Turns v (site_from v events) q
  pub kept : (site_from v events).kept ≡ v.kept
  pub free : (site_from v events).stage q ≡ Free

lets_go : (v : Site) (q : ℕ) → q ≤ MAX_WORKERS → LetsGo v q
lets_go v q few = record {
  events = Dies q ∷ Begins q ∷ [];
  run = (tt, ((at_it v.stage q Away, few), tt));
  turned = turns_then v (site_after v (Dies q)) (site_after (site_after v (Dies q)) (Begins q)) q (turns_dies v q) (turns_begins (site_after v (Dies q)) q);
  kept = refl;
  free = at_it (site_after v (Dies q)).stage q Free;
}

module _ (w : World) (v : Site) (pid : ℕ) (p : Process) (me : Identity) (jobs : List ℕ) (s : ℕ) (a : ProcessView) (j : ℕ) (owes : Bool) (logs : Logs) (c : Call)
    (m : Made w v pid p (Works me jobs (Performing s a j) owes logs) c) where
  here_now : At w v pid p (Works me jobs (Performing s a j) owes logs)
  here_now = stood w v pid p (Works me jobs (Performing s a j) owes logs) c m

  its_guard : w.guard p.worker ≡ Some pid
  its_guard = ⊎_elim (λ has. has.2.owns.guard) (λ gave. gave.quiet.owns.guard) here_now.2

  its_rest : (w.logs (Journal p.worker)).rest ≡ rest_by p.owed p.writes
  its_rest = ⊎_elim (λ has. has.2.owns.rest) (λ gave. gave.quiet.owns.rest) here_now.2

  its_serial : s ≡ length (v.kept p.worker)
  its_serial = ⊎_elim (λ has. has.2.serial) (λ gave. gave.serial) here_now.2

  its_line : IsKept v p.worker s
  its_line = ⊎_elim (λ has. (has.0, has.2.kept)) (λ gave. gave.kept) here_now.2

  -- The model follows a call that appends nothing, by events after which its process attempts no line.
  goes_to : (events : List ModelEvent) → IsRunFrom Clearance MAX_WORKERS v events → Turns v (site_from v events) p.worker → (site_from v events).kept ≡ v.kept
      → (site_from v events).stage p.worker ≡ Free → (is : IsPlain pid c)
      → (Quiet (next_world w pid p c) (site_from v events) pid (process_by p c)
      → At (next_world w pid p c) (site_from v events) pid (process_by p c) (phase_after (Works me jobs (Performing s a j) owes logs) c))
      → Reaches v (next_world w pid p c)
  goes_to events run turned kept free is next = record {
    events = events;
    run = run;
    goes = turns w v m.goes pid p m.lives c (site_from v events) its_guard (is.guard w.guard) (is.log (w.logs (Journal p.worker)) p.owed) turned (ap (λ f. f p.worker) kept)
        (stand_by w v (site_from v events) pid p (Works me jobs (Performing s a j) owes logs) c m is.owes turned
        (next (quiet_on w (site_from v events) pid p c its_guard (is.guard w.guard)
        (ap (λ (l : Log). l.rest) (is.log (w.logs (Journal p.worker)) p.owed) ∙ (its_rest ∙ nothing_written p (request_of c) m.its (is.text p.owed))) free)));
  }

  its_high : p.worker ≤ MAX_WORKERS
  its_high = (m.goes.stand pid p m.lives).high

  pub is_at_fault : (line : List ℕ) → c ≡ Fell (Say line) → Reaches v (next_world w pid p c)
  is_at_fault line is =
      let g = lets_go v p.worker its_high in
      goes_to g.events g.run g.turned g.kept g.free (subst (IsPlain pid) (sym is) (plain_call pid (Fell (Say line)) tt))
      (λ quiet. subst (λ x. At (next_world w pid p c) (site_from v g.events) pid (process_by p c) (phase_after (Works me jobs (Performing s a j) owes logs) x)) (sym is)
      (here_now.0, subst (λ x. Knows (site_from v g.events) (read_by p.read x) logs) (sym is) (knows_more v (site_from v g.events) p.read logs g.turned.opened here_now.1), quiet))

module _ (w : World) (v : Site) (pid : ℕ) (p : Process) (me : Identity) (jobs : List ℕ) (s : ℕ) (a : ProcessView) (j : ℕ) (owes : Bool) (logs : Logs) (said : List ℕ) (reply : Option (List ℕ))
    (m : Made w v pid p (Works me jobs (Performing s a j) owes logs) (Heard said reply)) where
  replied : (v' : Site) → Turns v v' p.worker → v'.kept ≡ v.kept → Quiet (next_world w pid p (Heard said reply)) v' pid (process_by p (Heard said reply))
      → ((way : Way) → reply_heard reply ≡ Replied s Unbegun way → IsOpened v' p.worker s)
      → At (next_world w pid p (Heard said reply)) v' pid (process_by p (Heard said reply)) (phase_after (Works me jobs (Performing s a j) owes logs) (Heard said reply))
  replied v' turned kept quiet opens =
      let line = its_line w v pid p me jobs s a j owes logs (Heard said reply) m in
      let here = here_now w v pid p me jobs s a j owes logs (Heard said reply) m in (
        here.0,
        knows_more v v' p.read logs turned.opened here.1,
        replied_at (next_world w pid p (Heard said reply)) v' pid (process_by p (Heard said reply)) jobs s a (reply_heard reply) quiet
            (its_serial w v pid p me jobs s a j owes logs (Heard said reply) m ∙ ap (λ f. length (f p.worker)) (sym kept))
            (line.0, ap (λ f. line_of (f p.worker) s) kept ∙ line.1) opens,
      )

  pub heard : Reaches v (next_world w pid p (Heard said reply))
  heard =
      let high = its_high w v pid p me jobs s a j owes logs (Heard said reply) m in
      let line = its_line w v pid p me jobs s a j owes logs (Heard said reply) m in
      let is : IsPlain pid (Heard said reply) = plain_call pid (Heard said reply) tt in
      ⊎_elim
      (λ unbegun. let g = gives_up w v p.worker s line.0 m.goes high line.1 (m.runner s unbegun.0 unbegun.1) in
      goes_to w v pid p me jobs s a j owes logs (Heard said reply) m g.events g.run g.turned g.kept g.free is
      (λ quiet. replied (site_from v g.events) g.turned g.kept quiet (λ way same. g.opened)))
      (λ other. let g = lets_go v p.worker high in
      goes_to w v pid p me jobs s a j owes logs (Heard said reply) m g.events g.run g.turned g.kept g.free is
      (λ quiet. replied (site_from v g.events) g.turned g.kept quiet (λ way same. absurd (other (way, same)))))
      (unbegun_or s (reply_heard reply))

module _ (w : World) (v : Site) (pid : ℕ) (p : Process) (me : Identity) (jobs : List ℕ) (owes : Bool) (logs : Logs) where
  pub performing_step : (s : ℕ) (a : ProcessView) (j : ℕ) (c : Call) → Made w v pid p (Works me jobs (Performing s a j) owes logs) c
      → (t : Try) → due (Performing s a j) ≡ Some t → CarriesOut me jobs t (request_of c) → Reaches v (next_world w pid p c)
  performing_step s a j c m t e out =
      let saying = subst (λ y. CarriesOut me jobs y (request_of c)) (tried_is e) out in
      ⊎_elim
      (λ is. subst (λ x. Made w v pid p (Works me jobs (Performing s a j) owes logs) x → Reaches v (next_world w pid p x)) (sym is.1)
      (λ made. heard w v pid p me jobs s a j owes logs _ is.0 made) m)
      (λ is. is_at_fault w v pid p me jobs s a j owes logs c m _ is)
      (say_ends c _ saying.4)

-- ---- the intent

length_more : (xs : List ℕ) (x : ℕ) → length (xs ++ x ∷ []) ≡ suc (length xs)
length_more [] x = refl
length_more (y ∷ xs) x = ap suc (length_more xs x)

fits_intent : (owed : Option Entry) (s line time : ℕ) → FitsAppend (append_of owed (Intent s line time)) → (s < 2 ^ 64) × (line < 2 ^ 64)
fits_intent None s line time fits = (fits.0, fits.1)
fits_intent (Some o) s line time fits = (fits.1.0, fits.1.1)

owes_answers : (v : Site) (q : ℕ) (owed : Option Entry) → Owes v q owed → (o : Entry) → owed ≡ Some o → IsAnswer o
owes_answers v q None owes o e = absurd (cc e)
owes_answers v q (Some x) owes o e = subst IsAnswer (some_is e) owes.0
  where
    some_is : {a b : Entry} → Some a ≡ Some b → a ≡ b
    some_is e = cc

module _ (w : World) (v : Site) (pid : ℕ) (p : Process) (me : Identity) (jobs : List ℕ) (owes : Bool) (logs : Logs) (s : ℕ) (a : ProcessView) (j : ℕ) where
  intended : (line time : ℕ) → line_at jobs j ≡ Some line → Made w v pid p (Works me jobs (Intending s a j) owes logs) (HasPut (Intent s line time))
      → Reaches v (next_world w pid p (HasPut (Intent s line time)))
  intended line time job m =
      let c = HasPut (Intent s line time) in
      let here = stood w v pid p (Works me jobs (Intending s a j) owes logs) c m in
      let quiet = here.2.0 in
      let stand = m.goes.stand pid p m.lives in
      let fits : FitsAppend (append_of p.owed (Intent s line time)) = subst (FitsWrites p.owed) m.kernel stand.fits in
      let v' = site_after v (Intends p.worker line) in
      let kept : v'.kept p.worker ≡ v.kept p.worker ++ line ∷ [] = at_it v.kept p.worker (v.kept p.worker ++ line ∷ []) in
      let serial = here.2.1 in
      let w' = next_world w pid p c in
      record {
        events = Intends p.worker line ∷ [];
        run = (quiet.free, tt);
        goes = written w v m.goes pid p m.lives c v' (text_of_append (append_of p.owed (Intent s line time))) (line ∷ []) quiet.owns.guard refl refl
            (quiet.owns.rest ∙ ap (rest_by p.owed) m.kernel)
            (put_lines p.owed s line time (owes_answers v p.worker p.owed stand.owes) fits)
            (turns_intends v p.worker line) kept
            (stand_by w v v' pid p (Works me jobs (Intending s a j) owes logs) c m tt (turns_intends v p.worker line) (
              here.0,
              knows_more v v' p.read logs (λ r n o. o) here.1,
              (
                line,
                record {
                  owns = record { guard = quiet.owns.guard; rest = ap (λ (l : Log). l.rest) (log_it w.logs (Journal p.worker) _) };
                  stage = at_it v.stage p.worker _ ∙ ap (λ n. ModelClearing n line []) (sym serial);
                  serial = serial ∙ (sym (length_more (v.kept p.worker) line) ∙ ap length (sym kept));
                  kept = ap (λ (ls : List ℕ). line_of ls s) kept ∙ (ap (line_of (v.kept p.worker ++ line ∷ [])) serial ∙ line_of_last (v.kept p.worker) line);
                  job = job;
                  first = λ h one named. line_behind (v.kept p.worker) h.line
                      (ap (line_of (v.kept p.worker)) (sym serial ∙ sym named.1) ∙ (ap (λ q. line_of (v.kept q) h.serial) (sym named.0) ∙ m.goes.handed h one));
                  idle = refl;
                  fits = fits_intent p.owed s line time fits;
                },
              ),
            ));
      }

  pub intending_step : (c : Call) → Made w v pid p (Works me jobs (Intending s a j) owes logs) c
      → (t : Try) → due (Intending s a j) ≡ Some t → CarriesOut me jobs t (request_of c) → Reaches v (next_world w pid p c)
  intending_step c m t e out =
      let putting = subst (λ y. CarriesOut me jobs y (request_of c)) (tried_is e) out in
      ⊎_elim
      (λ is. subst (λ x. Made w v pid p (Works me jobs (Intending s a j) owes logs) x → Reaches v (next_world w pid p x)) (sym is) (intended putting.0 putting.1 putting.2) m)
      (λ is. ends w v pid p (Works me jobs (Intending s a j) owes logs) c m
      ((stood w v pid p (Works me jobs (Intending s a j) owes logs) c m).2.0.owns.guard) (subst (IsSilent pid) (sym is) (fell_silent pid (Put (Intent s putting.0 putting.1))))
      (λ v' halted. subst (λ x. At (next_world w pid p c) v' pid (process_by p c) (phase_after (Works me jobs (Intending s a j) owes logs) x)) (sym is) halted))
      (put_ends c (Intent s putting.0 putting.1) putting.3)
