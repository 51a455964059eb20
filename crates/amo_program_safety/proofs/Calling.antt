-- The calls of a process in any phase.
use Rattle.std.proofs.Common.{◌≡◌, ⊎_elim, ℕ, List, [], ◌∷◌, Some, refl, sym, subst}
use Rattle.std.specs.Prelude.{Bool}
use Rattle.amo_safety_by_journals.specs.Model.{Site, site_after, Away, Dies}
use Rattle.amo_driver.specs.Course.{due}
use Rattle.amo_driver.specs.Stage.{Stage, Going, Finding, Intending, Clearing, Performing, Noting, Leaving, Gone, Unanswered, Refused, Broken}
use Rattle.amo_driver.specs.declared.answer.JobResult.TheVariants.{Unbegun}
use Rattle.amo_driver.specs.declared.model.Try.{Try}
use Rattle.amo_host.specs.Calls.{Call, HasPut, request_of}
use Rattle.amo_host.specs.Logs.{Logs}
use Rattle.amo_host.specs.Phase.{Identity, Phase, Starts, Asks, Idle, Begins, Joins, Reads, Works, Clears, Unclear, Over, Stays, Ended}
use Rattle.amo_host.specs.Protocol.{CarriesOut, outcome_entry, phase_after}
use Rattle.amo_program_safety.specs.World.{Process, World, Calls, called, process_by, world_after}
use Rattle.amo_program_safety.specs.Runs.{MayFollow}
use Rattle.amo_program_safety.proofs.Standing.{Goes, At}
use Rattle.amo_program_safety.proofs.Moves.{Reaches}
use Rattle.amo_program_safety.proofs.Points.{at_it}
use Rattle.amo_program_safety.proofs.Acting.{turns_dies}
use Rattle.amo_program_safety.proofs.Steps.{Made, next_world, stood}
use Rattle.amo_program_safety.proofs.Plain.{IsSilent, fell_silent, ends}
use Rattle.amo_program_safety.proofs.Quiet.{begins_step, joins_step, idle_step, over_step, stays_step}
use Rattle.amo_program_safety.proofs.Starting.{starts_step}
use Rattle.amo_program_safety.proofs.Asking.{asks_step, is_put, puts_answer}
use Rattle.amo_program_safety.proofs.Works.{no_work_step}
use Rattle.amo_program_safety.proofs.Working.{going_step, finding_step, leaving_step, noting_step, performing_step, intending_step}
use Rattle.amo_program_safety.proofs.AllReads.{reads_step}
use Rattle.amo_program_safety.proofs.Clears.{clearing_step, clears_step}

works_due : (w : World) (v : Site) (pid : ℕ) (p : Process) (me : Identity) (jobs : List ℕ) (st : Stage) (owes : Bool) (logs : Logs) (c : Call)
    → Made w v pid p (Works me jobs st owes logs) c → (t : Try) → due st ≡ Some t → CarriesOut me jobs t (request_of c) → Reaches v (next_world w pid p c)
works_due w v pid p me jobs (Going s a way) owes logs c m t e out = going_step w v pid p me jobs owes logs c s a way m t e out
works_due w v pid p me jobs (Finding s a j) owes logs c m t e out = finding_step w v pid p me jobs owes logs c s a j m t e out
works_due w v pid p me jobs (Intending s a j) owes logs c m t e out = intending_step w v pid p me jobs owes logs s a j c m t e out
works_due w v pid p me jobs (Clearing s a j) owes logs c m t e out = clearing_step w v pid p me jobs s a j owes logs c m
works_due w v pid p me jobs (Performing s a j) owes logs c m t e out = performing_step w v pid p me jobs owes logs s a j c m t e out
works_due w v pid p me jobs (Noting s a o way) owes logs c m t e out = noting_step w v pid p me jobs owes logs s a o way c m t e out
works_due w v pid p me jobs (Leaving a) owes logs c m t e out = leaving_step w v pid p me jobs owes logs c a m t e out
works_due w v pid p me jobs Gone owes logs c m t e out = absurd (cc e)
works_due w v pid p me jobs (Unanswered s reply) owes logs c m t e out = absurd (cc e)
works_due w v pid p me jobs (Refused word value) owes logs c m t e out = absurd (cc e)
works_due w v pid p me jobs Broken owes logs c m t e out = absurd (cc e)
works_due w v pid p me jobs st owes logs c m t e out = absurd (stood w v pid p (Works me jobs st owes logs) c m).2

works_step : (w : World) (v : Site) (pid : ℕ) (p : Process) (me : Identity) (jobs : List ℕ) (st : Stage) (owes : Bool) (logs : Logs) (c : Call)
    → Made w v pid p (Works me jobs st owes logs) c → Reaches v (next_world w pid p c)
works_step w v pid p me jobs st owes logs c m = ⊎_elim
    (λ due_now. works_due w v pid p me jobs st owes logs c m due_now.0 due_now.1 due_now.2)
    (λ none. no_work_step w v pid p me jobs logs st owes c m none.0 none.1)
    m.allowed

unclear_step : (w : World) (v : Site) (pid : ℕ) (p : Process) (s : ℕ) (c : Call) → Made w v pid p (Unclear s) c → Reaches v (next_world w pid p c)
unclear_step w v pid p s c m = ⊎_elim
    (λ is. subst (λ x. Made w v pid p (Unclear s) x → Reaches v (next_world w pid p x)) (sym is) put m)
    (λ is. ends w v pid p (Unclear s) c m (stood w v pid p (Unclear s) c m).0.owns.guard (subst (IsSilent pid) (sym is) (fell_silent pid _))
    (λ v' halted. subst (λ x. At (next_world w pid p c) v' pid (process_by p c) (phase_after (Unclear s) x)) (sym is) halted))
    (is_put (outcome_entry s 0 Unbegun) c m.allowed)
  where
    put : Made w v pid p (Unclear s) (HasPut (outcome_entry s 0 Unbegun)) → Reaches v (next_world w pid p (HasPut (outcome_entry s 0 Unbegun)))
    put made =
        let here = stood w v pid p (Unclear s) (HasPut (outcome_entry s 0 Unbegun)) made in
        record {
          events = Dies p.worker ∷ [];
          run = (tt, tt);
          goes = puts_answer w v pid p (Unclear s) (outcome_entry s 0 Unbegun) (site_after v (Dies p.worker)) made tt here.0.owns.guard here.0.owns.rest
              (turns_dies v p.worker) refl (λ holds. at_it v.stage p.worker Away);
        }

step_at : (w : World) (v : Site) (pid : ℕ) (p : Process) (ph : Phase) (c : Call) → Made w v pid p ph c → Reaches v (next_world w pid p c)
step_at w v pid p (Starts k start) c m = starts_step w v pid p k start c m
step_at w v pid p (Asks me st) c m = asks_step w v pid p me st c m
step_at w v pid p (Idle me logs) c m = idle_step w v pid p me logs c m
step_at w v pid p (Begins me begin) c m = begins_step w v pid p me begin c m
step_at w v pid p (Joins me join) c m = joins_step w v pid p me join c m
step_at w v pid p (Reads me purpose logs counts left) c m = reads_step w v pid p me purpose logs counts left c m
step_at w v pid p (Works me jobs st owes logs) c m = works_step w v pid p me jobs st owes logs c m
step_at w v pid p (Clears me jobs s a j logs left) c m = clears_step w v pid p me jobs s a j logs left c m
step_at w v pid p (Unclear s) c m = unclear_step w v pid p s c m
step_at w v pid p (Over me logs) c m = over_step w v pid p me logs c m
step_at w v pid p (Stays me logs) c m = stays_step w v pid p me logs c m
step_at w v pid p Ended c m = absurd m.allowed

-- The model follows the event by which a call ends.
pub calls_step : (w : World) (v : Site) → Goes w v → (pid : ℕ) (c : Call) → MayFollow w (Calls pid c) → Reaches v (world_after w (Calls pid c))
calls_step w v goes pid c (p, (lives, allowed), its, kernel, runner) = subst (λ o. Reaches v (called w pid o c)) (sym lives)
    (step_at w v pid p p.phase c (record { goes = goes; lives = lives; phase_is = refl; allowed = allowed; its = its; kernel = kernel; runner = runner }))
