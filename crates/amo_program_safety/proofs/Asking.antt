-- A process asks its runner for the outcomes of the attempts that are pending in its journal.
use Rattle.std.proofs.Common.{◌≡◌, ◌⊎◌, inl, inr, ⊎_elim, ℕ, Bool, true, false, List, [], ◌∷◌, ◌++◌, Option, Some, None, refl, sym, ap, ◌∙◌, subst, append-nil}
use Rattle.std.specs.Prelude.{if◌then◌else◌}
use Rattle.std.proofs.lemmas.Bool.{cases_eq, eq-eqb, ne_eqb}
use Rattle.amo_safety_by_journals.specs.Model.{Attempt as Name, Handing, IsOneOf, Away, Free, Clearing as ModelClearing, Site, site_after, Dies, Opens, line_of}
use Rattle.amo_safety_by_journals.specs.Runs.{IsOver as IsOverThere}
use Rattle.amo_driver.specs.declared.answer.JobResult.{JobResult}
use Rattle.amo_driver.specs.declared.answer.JobResult.TheVariants.{Done, Doubt, Unbegun, Untouched}
use Rattle.amo_driver.specs.declared.answer.Reply.{Reply}
use Rattle.amo_driver.specs.declared.answer.Reply.TheVariants.{Answered, Running, Garbled, Closed}
use Rattle.amo_driver.specs.declared.answer.Way.{Way}
use Rattle.amo_driver.specs.declared.answer.Way.TheVariants.{Go, Leave}
use Rattle.amo_driver.specs.declared.model.Try.{Try}
use Rattle.amo_driver.specs.declared.model.Try.TheVariants.{Ask, Note}
use Rattle.amo_driver.specs.declared.past.Intent.{Intent as Pending}
use Rattle.amo_driver.specs.Course.{due, stage_asked, stage_asking}
use Rattle.amo_driver.specs.Stage.{Stage, Going, Finding, Intending, Clearing, Performing, Noting, Leaving, Asking, Settling, Dismissed, Gone, Unanswered, Refused, Broken}
use Rattle.amo_host.specs.declared.model.Hold.{Hold}
use Rattle.amo_host.specs.declared.model.Hold.TheVariants.{Shared, Exclusive}
use Rattle.amo_host.specs.declared.model.LogFile.TheVariants.{Journal}
use Rattle.amo_host.specs.declared.model.RunLock.{RunLock}
use Rattle.amo_host.specs.declared.model.RunLock.TheVariants.{Round}
use Rattle.amo_host.specs.Calls.{Request, TryLock, Put, Say, Call, Tried, HasPut, Heard, Fell, request_of}
use Rattle.amo_host.specs.Phase.{Identity, Phase, Asks}
use Rattle.amo_host.specs.Protocol.{CarriesOutBefore, MayTryRound, outcome_entry, phase_after}
use Rattle.amo_runner_protocol.specs.Lines.{reply_heard}
use Rattle.amo_runner_protocol.specs.Sayings.{was_text}
use Rattle.amo_run_log.specs.declared.entry.Entry.{Entry}
use Rattle.amo_run_log.specs.Entries.{FitsAppend}
use Rattle.amo_run_log.specs.Open.{IsAnswer}
use Rattle.amo_program_safety.specs.Texts.{append_of, lines_in}
use Rattle.amo_program_safety.specs.World.{Log, Process, World, process_by}
use Rattle.amo_program_safety.specs.Runs.{IsUntouched}
use Rattle.amo_program_safety.proofs.Texts.{lines_in_both, put_no_lines}
use Rattle.amo_program_safety.proofs.Standing.{At, FitsWrites, Goes, Owes, Quiet, Stand, rest_by, all_of}
use Rattle.amo_program_safety.proofs.Moves.{Reaches}
use Rattle.amo_program_safety.proofs.Points.{at_it}
use Rattle.amo_program_safety.proofs.Acting.{Turns, turns_none, turns_dies, turns_opens, acts, turns, halts, stays}
use Rattle.amo_program_safety.proofs.Steps.{Made, next_world, stood, stand_by, quiet_on}
use Rattle.amo_program_safety.proofs.Starting.{Step, quiet_stays}

-- ---- the calls of a request

pub is_try : (lock : RunLock) (hold : Hold) (c : Call) → request_of c ≡ TryLock lock hold → ((got : Bool) × (c ≡ Tried lock hold got)) ⊎ (c ≡ Fell (TryLock lock hold))
is_try lock hold (Tried l h got) is = inl (got, cc is)
is_try lock hold (Fell r) is = inr (ap Fell is)
is_try lock hold c is = absurd (cc is)

pub is_say : (line : List ℕ) (c : Call) → request_of c ≡ Say line → ((reply : Option (List ℕ)) × (c ≡ Heard line reply)) ⊎ (c ≡ Fell (Say line))
is_say line (Heard said reply) is = inl (reply, cc is)
is_say line (Fell r) is = inr (ap Fell is)
is_say line c is = absurd (cc is)

pub is_put : (entry : Entry) (c : Call) → request_of c ≡ Put entry → (c ≡ HasPut entry) ⊎ (c ≡ Fell (Put entry))
is_put entry (HasPut e) is = inl (cc is)
is_put entry (Fell r) is = inr (ap Fell is)
is_put entry c is = absurd (cc is)

some_try : {a b : Try} → Some a ≡ Some b → a ≡ b
some_try e = cc

-- If something is due at a stage other than `Asking []`, the request carries it out.
carried : (me : Identity) (st : Stage) (r : Request) (t : Try) → due st ≡ Some t → ((st ≡ Asking []) → ⊥)
    → ((x : Try) × (due st ≡ Some x) × CarriesOutBefore me x r) ⊎ ((st ≡ Asking []) × MayTryRound r) → CarriesOutBefore me t r
carried me st r t is other may = ⊎_elim
    (λ (does : (x : Try) × (due st ≡ Some x) × CarriesOutBefore me x r). subst (λ x. CarriesOutBefore me x r) (some_try (sym does.1 ∙ is)) does.2)
    (λ (tries : (st ≡ Asking []) × MayTryRound r). absurd (other tries.0))
    may

-- If nothing is due at a stage other than `Asking []`, the process makes no request.
idles : (me : Identity) (st : Stage) (r : Request) → due st ≡ None → ((st ≡ Asking []) → ⊥)
    → ((x : Try) × (due st ≡ Some x) × CarriesOutBefore me x r) ⊎ ((st ≡ Asking []) × MayTryRound r) → ⊥
idles me st r is other may = ⊎_elim
    (λ (does : (x : Try) × (due st ≡ Some x) × CarriesOutBefore me x r). not_both (sym is ∙ does.1))
    (λ (tries : (st ≡ Asking []) × MayTryRound r). other tries.0)
    may
  where
    not_both : {x : Try} → None ≡ Some x → ⊥
    not_both e = cc

-- ---- the lock of the round

tries_round : (w : World) (v : Site) (pid : ℕ) (p : Process) (me : Identity) (hold : Hold) (got : Bool) → Step w v pid p (Asks me (Asking [])) (Tried Round hold got)
tries_round w v pid p me Shared true m =
    let at = stood w v pid p (Asks me (Asking [])) (Tried Round Shared true) m in
    stays w v m.goes pid p m.lives (Tried Round Shared true) refl refl
    (stand_by w v v pid p (Asks me (Asking [])) (Tried Round Shared true) m tt (turns_none v p.worker)
    (at.0, at.1, quiet_stays w v pid p (Tried Round Shared true) m.its refl refl refl at.2.0))
tries_round w v pid p me Exclusive true m =
    let at = stood w v pid p (Asks me (Asking [])) (Tried Round Exclusive true) m in
    stays w v m.goes pid p m.lives (Tried Round Exclusive true) refl refl
    (stand_by w v v pid p (Asks me (Asking [])) (Tried Round Exclusive true) m tt (turns_none v p.worker)
    (at.0, at.1, quiet_stays w v pid p (Tried Round Exclusive true) m.its refl refl refl at.2.0))
tries_round w v pid p me Shared false m =
    let at = stood w v pid p (Asks me (Asking [])) (Tried Round Shared false) m in
    stays w v m.goes pid p m.lives (Tried Round Shared false) refl refl
    (stand_by w v v pid p (Asks me (Asking [])) (Tried Round Shared false) m tt (turns_none v p.worker)
    (at.0, at.1, (quiet_stays w v pid p (Tried Round Shared false) m.its refl refl refl at.2.0, at.2.1)))
tries_round w v pid p me Exclusive false m =
    let at = stood w v pid p (Asks me (Asking [])) (Tried Round Exclusive false) m in
    stays w v m.goes pid p m.lives (Tried Round Exclusive false) refl refl
    (stand_by w v v pid p (Asks me (Asking [])) (Tried Round Exclusive false) m tt (turns_none v p.worker)
    (at.0, at.1, (quiet_stays w v pid p (Tried Round Exclusive false) m.its refl refl refl at.2.0, at.2.1)))

round_falls : (w : World) (v : Site) (pid : ℕ) (p : Process) (me : Identity) (hold : Hold) → Step w v pid p (Asks me (Asking [])) (Fell (TryLock Round hold))
round_falls w v pid p me hold m =
    let at = stood w v pid p (Asks me (Asking [])) (Fell (TryLock Round hold)) m in
    halts w v m.goes pid p m.lives (Fell (TryLock Round hold)) at.2.0.owns.guard refl refl
    (λ v' away turned. stand_by w v v' pid p (Asks me (Asking [])) (Fell (TryLock Round hold)) m tt turned (λ holds. away))

has_asked : (w : World) (v : Site) (pid : ℕ) (p : Process) (me : Identity) (c : Call) → Step w v pid p (Asks me (Asking [])) c
has_asked w v pid p me c m = ⊎_elim
    (λ (does : (x : Try) × (due (Asking []) ≡ Some x) × CarriesOutBefore me x (request_of c)). absurd (not_both does.1))
    (λ (tries : (Asking [] ≡ Asking []) × MayTryRound (request_of c)). by_hold tries.1.0 tries.1.1)
    m.allowed
  where
    not_both : {x : Try} → None ≡ Some x → ⊥
    not_both e = cc

    by_hold : (hold : Hold) → request_of c ≡ TryLock Round hold → Reaches v (next_world w pid p c)
    by_hold hold is = ⊎_elim
        (λ (it : (got : Bool) × (c ≡ Tried Round hold got)). subst (Step w v pid p (Asks me (Asking []))) (sym it.1) (tries_round w v pid p me hold it.0) m)
        (λ (it : c ≡ Fell (TryLock Round hold)). subst (Step w v pid p (Asks me (Asking []))) (sym it) (round_falls w v pid p me hold) m)
        (is_try Round hold c is)

-- ---- the replies of the runner

-- The reply doesn't answer the question, and the process stops asking.
stops_asking : (w : World) (v : Site) (pid : ℕ) (p : Process) (me : Identity) (i : Pending) (rest : List Pending) (line : List ℕ) (reply : Option (List ℕ)) (s : ℕ) (said : Reply)
    → stage_asked (i ∷ rest) (reply_heard reply) ≡ Unanswered s said → Step w v pid p (Asks me (Asking (i ∷ rest))) (Heard line reply)
stops_asking w v pid p me i rest line reply s said is m =
    let at = stood w v pid p (Asks me (Asking (i ∷ rest))) (Heard line reply) m in
    halts w v m.goes pid p m.lives (Heard line reply) at.2.0.owns.guard refl refl
    (λ v' away turned. stand_by w v v' pid p (Asks me (Asking (i ∷ rest))) (Heard line reply) m tt turned
    (subst (λ st. At (next_world w pid p (Heard line reply)) v' pid (process_by p (Heard line reply)) (Asks me st)) (sym is) (at.0, at.1, λ holds. away)))

-- The runner replies that the command of the attempt still runs.
runs_yet : (w : World) (v : Site) (pid : ℕ) (p : Process) (me : Identity) (i : Pending) (rest : List Pending) (line : List ℕ) (reply : Option (List ℕ)) (way : Way)
    → stage_asked (i ∷ rest) (reply_heard reply) ≡ stage_asking way rest → Step w v pid p (Asks me (Asking (i ∷ rest))) (Heard line reply)
runs_yet w v pid p me i rest line reply Go is m =
    let at = stood w v pid p (Asks me (Asking (i ∷ rest))) (Heard line reply) m in
    stays w v m.goes pid p m.lives (Heard line reply) refl refl
    (stand_by w v v pid p (Asks me (Asking (i ∷ rest))) (Heard line reply) m tt (turns_none v p.worker)
    (subst (λ st. At (next_world w pid p (Heard line reply)) v pid (process_by p (Heard line reply)) (Asks me st)) (sym is)
    (at.0, at.1, (quiet_stays w v pid p (Heard line reply) m.its refl refl refl at.2.0, λ j one. at.2.1 j (inr one)))))
runs_yet w v pid p me i rest line reply Leave is m =
    let at = stood w v pid p (Asks me (Asking (i ∷ rest))) (Heard line reply) m in
    halts w v m.goes pid p m.lives (Heard line reply) at.2.0.owns.guard refl refl
    (λ v' away turned. stand_by w v v' pid p (Asks me (Asking (i ∷ rest))) (Heard line reply) m tt turned
    (subst (λ st. At (next_world w pid p (Heard line reply)) v' pid (process_by p (Heard line reply)) (Asks me st)) (sym is) (at.0, at.1, λ holds. away)))

-- The runner replies that the attempt was not started.
opens_it : (w : World) (v : Site) (pid : ℕ) (p : Process) (me : Identity) (i : Pending) (rest : List Pending) (line : List ℕ) (reply : Option (List ℕ)) (way : Way)
    → reply_heard reply ≡ Answered i.serial Unbegun way → stage_asked (i ∷ rest) (reply_heard reply) ≡ Settling i.serial Unbegun way rest
    → Step w v pid p (Asks me (Asking (i ∷ rest))) (Heard line reply)
opens_it w v pid p me i rest line reply way says is m = record {
  events = Opens it ∷ [];
  run = (over, tt);
  goes = turns w v m.goes pid p m.lives (Heard line reply) (site_after v (Opens it)) at.2.0.owns.guard refl refl (turns_opens v p.worker it) refl
      (stand_by w v (site_after v (Opens it)) pid p (Asks me (Asking (i ∷ rest))) (Heard line reply) m tt (turns_opens v p.worker it)
      (subst (λ st. At (next_world w pid p (Heard line reply)) (site_after v (Opens it)) pid (process_by p (Heard line reply)) (Asks me st)) (sym is)
      (at.0, at.1, (quiet, (λ unbegun. inl refl), (λ j one. at.2.1 j (inr one)), at.2.1 i (inl refl)))));
}
  where
    it : Name
    it = record { worker = p.worker; serial = i.serial }

    at : At w v pid p (Asks me (Asking (i ∷ rest)))
    at = stood w v pid p (Asks me (Asking (i ∷ rest))) (Heard line reply) m

    quiet : Quiet (next_world w pid p (Heard line reply)) (site_after v (Opens it)) pid (process_by p (Heard line reply))
    quiet = let q = quiet_stays w v pid p (Heard line reply) m.its refl refl refl at.2.0 in record { owns = q.owns; free = q.free }

    untouched : IsUntouched w p.worker i.serial
    untouched = m.runner i.serial way says

    over : IsOverThere v it
    over = record {
      kept = at.2.1 i (inl refl);
      not_held = λ l seen held. not_both (sym at.2.0.free ∙ held);
      not_alive = λ h one named. untouched.not_alive h (subst (λ (hs : List Handing). IsOneOf hs h) m.goes.alive one) named;
      not_performed = λ h one named. untouched.not_performed h (subst (λ (hs : List Handing). IsOneOf hs h) m.goes.performed one) named;
    }
      where
        not_both : {s l : ℕ} {seen : List ℕ} → Free ≡ ModelClearing s l seen → ⊥
        not_both e = cc

-- The runner replies with another outcome of the attempt.
settles_it : (w : World) (v : Site) (pid : ℕ) (p : Process) (me : Identity) (i : Pending) (rest : List Pending) (line : List ℕ) (reply : Option (List ℕ)) (o : JobResult) (way : Way)
    → (o ≡ Unbegun → ⊥) → stage_asked (i ∷ rest) (reply_heard reply) ≡ Settling i.serial o way rest → Step w v pid p (Asks me (Asking (i ∷ rest))) (Heard line reply)
settles_it w v pid p me i rest line reply o way other is m =
    let at = stood w v pid p (Asks me (Asking (i ∷ rest))) (Heard line reply) m in
    stays w v m.goes pid p m.lives (Heard line reply) refl refl
    (stand_by w v v pid p (Asks me (Asking (i ∷ rest))) (Heard line reply) m tt (turns_none v p.worker)
    (subst (λ st. At (next_world w pid p (Heard line reply)) v pid (process_by p (Heard line reply)) (Asks me st)) (sym is)
    (at.0, at.1, (quiet_stays w v pid p (Heard line reply) m.its refl refl refl at.2.0, (λ unbegun. absurd (other unbegun)), (λ j one. at.2.1 j (inr one)), at.2.1 i (inl refl)))))

answers_it : (w : World) (v : Site) (pid : ℕ) (p : Process) (me : Identity) (i : Pending) (rest : List Pending) (line : List ℕ) (reply : Option (List ℕ)) (o : JobResult) (way : Way)
    → reply_heard reply ≡ Answered i.serial o way → stage_asked (i ∷ rest) (reply_heard reply) ≡ Settling i.serial o way rest
    → Step w v pid p (Asks me (Asking (i ∷ rest))) (Heard line reply)
answers_it w v pid p me i rest line reply Unbegun way says is m = opens_it w v pid p me i rest line reply way says is m
answers_it w v pid p me i rest line reply (Done code) way says is m = settles_it w v pid p me i rest line reply (Done code) way (λ e. cc e) is m
answers_it w v pid p me i rest line reply Doubt way says is m = settles_it w v pid p me i rest line reply Doubt way (λ e. cc e) is m
answers_it w v pid p me i rest line reply (Untouched code) way says is m = settles_it w v pid p me i rest line reply (Untouched code) way (λ e. cc e) is m

hears : (w : World) (v : Site) (pid : ℕ) (p : Process) (me : Identity) (i : Pending) (rest : List Pending) (line : List ℕ) (reply : Option (List ℕ)) (said : Reply)
    → reply_heard reply ≡ said → Step w v pid p (Asks me (Asking (i ∷ rest))) (Heard line reply)
hears w v pid p me i rest line reply (Answered n o way) says m = ⊎_elim
    (λ (e : n ≡ i.serial). answers_it w v pid p me i rest line reply o way (says ∙ ap (λ k. Answered k o way) e)
    (ap (stage_asked (i ∷ rest)) says ∙ ap (λ b. if b then Settling i.serial o way rest else Unanswered i.serial (Answered n o way)) (eq-eqb n i.serial e)) m)
    (λ (other : n ≡ i.serial → ⊥). stops_asking w v pid p me i rest line reply i.serial (Answered n o way)
    (ap (stage_asked (i ∷ rest)) says ∙ ap (λ b. if b then Settling i.serial o way rest else Unanswered i.serial (Answered n o way)) (ne_eqb n i.serial other)) m)
    (cases_eq n i.serial)
hears w v pid p me i rest line reply (Running n way) says m = ⊎_elim
    (λ (e : n ≡ i.serial). runs_yet w v pid p me i rest line reply way
    (ap (stage_asked (i ∷ rest)) says ∙ ap (λ b. if b then stage_asking way rest else Unanswered i.serial (Running n way)) (eq-eqb n i.serial e)) m)
    (λ (other : n ≡ i.serial → ⊥). stops_asking w v pid p me i rest line reply i.serial (Running n way)
    (ap (stage_asked (i ∷ rest)) says ∙ ap (λ b. if b then stage_asking way rest else Unanswered i.serial (Running n way)) (ne_eqb n i.serial other)) m)
    (cases_eq n i.serial)
hears w v pid p me i rest line reply Garbled says m = stops_asking w v pid p me i rest line reply i.serial Garbled (ap (stage_asked (i ∷ rest)) says) m
hears w v pid p me i rest line reply Closed says m = stops_asking w v pid p me i rest line reply i.serial Closed (ap (stage_asked (i ∷ rest)) says) m

say_falls : (w : World) (v : Site) (pid : ℕ) (p : Process) (me : Identity) (i : Pending) (rest : List Pending) (line : List ℕ) → Step w v pid p (Asks me (Asking (i ∷ rest))) (Fell (Say line))
say_falls w v pid p me i rest line m =
    let at = stood w v pid p (Asks me (Asking (i ∷ rest))) (Fell (Say line)) m in
    halts w v m.goes pid p m.lives (Fell (Say line)) at.2.0.owns.guard refl refl
    (λ v' away turned. stand_by w v v' pid p (Asks me (Asking (i ∷ rest))) (Fell (Say line)) m tt turned (at.0, at.1, λ holds. away))

asks_next : (w : World) (v : Site) (pid : ℕ) (p : Process) (me : Identity) (i : Pending) (rest : List Pending) (c : Call) → Step w v pid p (Asks me (Asking (i ∷ rest))) c
asks_next w v pid p me i rest c m =
    let carries = carried me (Asking (i ∷ rest)) (request_of c) (Ask i.serial i.line) refl (λ e. cc e) m.allowed in
    ⊎_elim
    (λ (it : (reply : Option (List ℕ)) × (c ≡ Heard (was_text i.serial i.line carries.0) reply)). subst (Step w v pid p (Asks me (Asking (i ∷ rest)))) (sym it.1)
    (hears w v pid p me i rest (was_text i.serial i.line carries.0) it.0 (reply_heard it.0) refl) m)
    (λ (it : c ≡ Fell (Say (was_text i.serial i.line carries.0))). subst (Step w v pid p (Asks me (Asking (i ∷ rest)))) (sym it)
    (say_falls w v pid p me i rest (was_text i.serial i.line carries.0)) m)
    (is_say (was_text i.serial i.line carries.0) c carries.2)

-- ---- the outcomes that a process notes

owes_answers : (v : Site) (q : ℕ) (owed : Option Entry) → Owes v q owed → (o : Entry) → owed ≡ Some o → IsAnswer o
owes_answers v q None owes o is = absurd (cc is)
owes_answers v q (Some e) owes o is = subst IsAnswer (some_is is) owes.0
  where
    some_is : {a b : Entry} → Some a ≡ Some b → a ≡ b
    some_is s = cc

-- If the appended entry is an answer, the append adds no intent to the kept ones.
pub answer_is_kept : (w : World) (v : Site) (pid : ℕ) (p : Process) (ph : Phase) (entry : Entry) → Made w v pid p ph (HasPut entry) → IsAnswer entry
    → (w.logs (Journal p.worker)).rest ≡ rest_by p.owed p.writes
    → v.kept p.worker ≡ lines_in ((w.logs (Journal p.worker)).kept ++ (w.logs (Journal p.worker)).rest)
answer_is_kept w v pid p ph entry m answer rest =
    m.goes.kept p.worker
    ∙ (sym (append-nil (lines_in log.kept))
    ∙ (ap (λ (ls : List ℕ). lines_in log.kept ++ ls) (sym no_lines)
    ∙ sym (lines_in_both log.kept log.rest)))
  where
    log : Log
    log = w.logs (Journal p.worker)

    stands : Stand w v pid p
    stands = m.goes.stand pid p m.lives

    fits : FitsAppend (append_of p.owed entry)
    fits = subst (λ (x : Option Request). FitsWrites p.owed x) m.kernel stands.fits

    no_lines : lines_in log.rest ≡ []
    no_lines = ap lines_in (rest ∙ ap (rest_by p.owed) m.kernel) ∙ put_no_lines p.owed entry (owes_answers v p.worker p.owed stands.owes) answer fits

-- After a process has appended an answer, the site may change for its worker, but keeps the
-- intents.
pub puts_answer : (w : World) (v : Site) (pid : ℕ) (p : Process) (ph : Phase) (entry : Entry) (v' : Site) → Made w v pid p ph (HasPut entry) → IsAnswer entry
    → w.guard p.worker ≡ Some pid → (w.logs (Journal p.worker)).rest ≡ rest_by p.owed p.writes → Turns v v' p.worker → v'.kept p.worker ≡ v.kept p.worker
    → At (next_world w pid p (HasPut entry)) v' pid (process_by p (HasPut entry)) (phase_after ph (HasPut entry))
    → Goes (next_world w pid p (HasPut entry)) v'
puts_answer w v pid p ph entry v' m answer own rest turned kept here = acts w v m.goes pid p m.lives (HasPut entry) v' own refl turned
    (kept ∙ answer_is_kept w v pid p ph entry m answer rest)
    (λ s l is. ap (λ (ls : List ℕ). line_of ls s) kept ∙ is)
    (λ text one. subst (λ (ts : List (List ℕ)). IsOneOf ts text) (append-nil (all_of (w.logs (Journal p.worker)))) one)
    (stand_by w v v' pid p ph (HasPut entry) m tt turned here)

settles : (w : World) (v : Site) (pid : ℕ) (p : Process) (me : Identity) (s : ℕ) (o : JobResult) (way : Way) (rest : List Pending) (time : ℕ)
    → Step w v pid p (Asks me (Settling s o way rest)) (HasPut (outcome_entry s time o))
settles w v pid p me s o Go rest time m =
    let at = stood w v pid p (Asks me (Settling s o Go rest)) (HasPut (outcome_entry s time o)) m in
    record {
      events = [];
      run = tt;
      goes = puts_answer w v pid p (Asks me (Settling s o Go rest)) (outcome_entry s time o) v m tt at.2.0.owns.guard at.2.0.owns.rest (turns_none v p.worker) refl
          (at.0, at.1, (quiet_on w v pid p (HasPut (outcome_entry s time o)) at.2.0.owns.guard refl refl at.2.0.free, at.2.2));
    }
settles w v pid p me s o Leave rest time m =
    let at = stood w v pid p (Asks me (Settling s o Leave rest)) (HasPut (outcome_entry s time o)) m in
    record {
      events = Dies p.worker ∷ [];
      run = (tt, tt);
      goes = puts_answer w v pid p (Asks me (Settling s o Leave rest)) (outcome_entry s time o) (site_after v (Dies p.worker)) m tt at.2.0.owns.guard at.2.0.owns.rest
          (turns_dies v p.worker) refl
          (at.0, at.1, λ holds. at_it v.stage p.worker Away);
    }

put_falls : (w : World) (v : Site) (pid : ℕ) (p : Process) (me : Identity) (s : ℕ) (o : JobResult) (way : Way) (rest : List Pending) (entry : Entry)
    → Step w v pid p (Asks me (Settling s o way rest)) (Fell (Put entry))
put_falls w v pid p me s o way rest entry m =
    let at = stood w v pid p (Asks me (Settling s o way rest)) (Fell (Put entry)) m in
    halts w v m.goes pid p m.lives (Fell (Put entry)) at.2.0.owns.guard refl refl
    (λ v' away turned. stand_by w v v' pid p (Asks me (Settling s o way rest)) (Fell (Put entry)) m tt turned (at.0, at.1, λ holds. away))

notes : (w : World) (v : Site) (pid : ℕ) (p : Process) (me : Identity) (s : ℕ) (o : JobResult) (way : Way) (rest : List Pending) (c : Call) → Step w v pid p (Asks me (Settling s o way rest)) c
notes w v pid p me s o way rest c m =
    let carries = carried me (Settling s o way rest) (request_of c) (Note s o) refl (λ e. cc e) m.allowed in
    ⊎_elim
    (λ (it : c ≡ HasPut (outcome_entry s carries.0 o)). subst (Step w v pid p (Asks me (Settling s o way rest))) (sym it) (settles w v pid p me s o way rest carries.0) m)
    (λ (it : c ≡ Fell (Put (outcome_entry s carries.0 o))). subst (Step w v pid p (Asks me (Settling s o way rest))) (sym it) (put_falls w v pid p me s o way rest (outcome_entry s carries.0 o)) m)
    (is_put (outcome_entry s carries.0 o) c carries.1)

-- ---- the whole

pub asks_step : (w : World) (v : Site) (pid : ℕ) (p : Process) (me : Identity) (st : Stage) (c : Call) → Made w v pid p (Asks me st) c → Reaches v (next_world w pid p c)
asks_step w v pid p me (Asking []) c m = has_asked w v pid p me c m
asks_step w v pid p me (Asking (i ∷ rest)) c m = asks_next w v pid p me i rest c m
asks_step w v pid p me (Settling s o way rest) c m = notes w v pid p me s o way rest c m
asks_step w v pid p me (Dismissed rest) c m = absurd (idles me (Dismissed rest) (request_of c) refl (λ e. cc e) m.allowed)
asks_step w v pid p me (Unanswered s reply) c m = absurd (idles me (Unanswered s reply) (request_of c) refl (λ e. cc e) m.allowed)
asks_step w v pid p me Broken c m = absurd (idles me Broken (request_of c) refl (λ e. cc e) m.allowed)
asks_step w v pid p me (Going s a way) c m = absurd (stood w v pid p (Asks me (Going s a way)) c m).2
asks_step w v pid p me (Finding s a j) c m = absurd (stood w v pid p (Asks me (Finding s a j)) c m).2
asks_step w v pid p me (Intending s a j) c m = absurd (stood w v pid p (Asks me (Intending s a j)) c m).2
asks_step w v pid p me (Clearing s a j) c m = absurd (stood w v pid p (Asks me (Clearing s a j)) c m).2
asks_step w v pid p me (Performing s a j) c m = absurd (stood w v pid p (Asks me (Performing s a j)) c m).2
asks_step w v pid p me (Noting s a o way) c m = absurd (stood w v pid p (Asks me (Noting s a o way)) c m).2
asks_step w v pid p me (Leaving a) c m = absurd (stood w v pid p (Asks me (Leaving a)) c m).2
asks_step w v pid p me Gone c m = absurd (stood w v pid p (Asks me Gone) c m).2
asks_step w v pid p me (Refused word value) c m = absurd (stood w v pid p (Asks me (Refused word value)) c m).2
