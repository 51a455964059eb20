-- A worker that goes on alone is gone in the end: each time it ends, or has claimed one job more,
-- and there are only so many.
use Rattle.std.proofs.Common.{◌≡◌, ◌≢◌, ◌⊎◌, inl, inr, ⊎_elim, ℕ, zero, suc, ◌+◌, ◌≤◌, ◌<◌, length, Bool, true, false, sym, ap, ◌∙◌, subst, refl, arith}
use Rattle.std.proofs.lemmas.Bool.{true≢false, cases_eq, cases_lt, or_cases}
use Rattle.amo_sets.specs.Sets.{has}
use Rattle.amo_sets.proofs.Numbers.{numbered-put_other, length_distinct, count_le_all}
use Rattle.amo_sets.proofs.Tables.{numbered_past}
use Rattle.amo_params.specs.Givens.{IsWorker, lone_bound}
use Rattle.amo_kk.specs.Record.{is_over}
use Rattle.amo_kk.specs.Step.{want, record_after}
use Rattle.amo_kk.specs.World.{nobody, process, loaded_value, world_after_turn}
use Rattle.amo_kk.specs.Alone.{is_claiming, claims_or_ends, world_after_turns, IsFirstToClaimOrEnd}
use Rattle.amo_kk.specs.Lawful.{IsLawful}
use Rattle.amo_params.specs.declared.givens.Givens.{Givens}
use Rattle.amo_params.specs.declared.moves.Move.TheVariants.{Turn}
use Rattle.amo_kk.specs.declared.model.Process.{Process}
use Rattle.amo_kk.specs.declared.model.Record.{Record}
use Rattle.amo_kk.specs.declared.model.World.{World}
use Rattle.amo_kk.proofs.Worlds.{turn_lawful}
use Rattle.amo_kk.proofs.Runs.{stored_gone}
use Rattle.amo_kk.proofs.Moves.{turned_process, turned_local, move_cases}
use Rattle.amo_kk.proofs.Growth.{keeps_claims, claims_more, over_wants}
use Rattle.amo_kk.proofs.Alone.{claims_or_ends_soon}
use Rattle.amo_world.proofs.Resting.{here_next}
use Rattle.amo_plan.specs.Plan.{PlanSeen}
use Rattle.amo_report.specs.declared.stops.TheConstants.{MOST_STOPS}
use Rattle.amo_report.specs.Reached.{most_before_all_ends}
use Rattle.amo_report.specs.Stops.{lone_turns, LoneRun, after_lone_run, after_lone_runs, run_out, all_run_out, stopped_world, stopped}
use Rattle.amo_report.proofs.ReachedWorlds.{reached_lawful}
use Rattle.amo_report.proofs.Stopped.{turns_are, after_lone_run_here, after_lone_run_gone, IsUnderLimit, often_under, run_out_under, all_under, stopped_reached}

-- how many jobs p has claimed
abbrev claims : World → ℕ → ℕ
claims w p = length (process w p).local.claimed

-- a turn of p, which isn't gone
module _ (g : Givens) (w : World) (p : ℕ) (law : IsLawful g w) (here : (process w p).gone ≡ false) where
  abbrev r : Record
  r = (process w p).local

  claimed_now : claims (world_after_turn g w p) p ≡ length (record_after g p (loaded_value w (want r)) r).claimed
  claimed_now = ap (λ (y : Record). length y.claimed) (turned_local g w p law here)

  turn_keeps : claims w p ≤ claims (world_after_turn g w p) p
  turn_keeps = let now = claimed_now in let kept = keeps_claims g p (loaded_value w (want r)) r in omega arith

  turn_ends : claims_or_ends g w p ≡ true → ((process (world_after_turn g w p) p).gone ≡ true) ⊎ (suc (claims w p) ≤ claims (world_after_turn g w p) p)
  turn_ends h = ⊎_elim
      (λ c. inr (let now = claimed_now in let more = claims_more g p (loaded_value w (want r)) r c in omega arith))
      (λ e. inl (ap (λ (a : Process). a.gone) (turned_process g w p law here) ∙ stored_gone (want r) (process w p) _ ∙ over_wants _ e))
      (or_cases (is_claiming r.phase) (is_over (record_after g p (loaded_value w (want r)) r).phase) h)

-- a worker that has come to rest is gone, or has claimed one job more
rests : (g : Givens) (i : ℕ) (w : World) (p : ℕ) → IsLawful g w → (process w p).gone ≡ false → IsFirstToClaimOrEnd g w p i
    → ((process (world_after_turns g w p (suc i)) p).gone ≡ true) ⊎ (suc (claims w p) ≤ claims (world_after_turns g w p (suc i)) p)
rests g zero w p law here first = turn_ends g w p law here first.this_one
rests g (suc i) w p law here first =
    let now : claims_or_ends g w p ≡ false = first.none_before zero (omega arith) in
    let kept = turn_keeps g w p law here in
    ⊎_elim (λ gone. inl gone) (λ more. inr (omega arith))
    (rests g i (world_after_turn g w p) p (turn_lawful g w p g.limits law) (here_next g w p law here now)
    (record { none_before = λ k l. first.none_before (suc k) (omega arith); this_one = first.this_one }))

-- and so one time after the other
out_or_claims : (g : Givens) (p moves times : ℕ) (start : LoneRun) → IsUnderLimit g moves start
    → ((process (after_lone_runs g p times start).world p).gone ≡ true) ⊎ (times ≤ claims (after_lone_runs g p times start).world p)
out_or_claims g p moves zero start under = inr (omega arith)
out_or_claims g p moves (suc times) start under = go (process before.world p).gone refl (out_or_claims g p moves times start under)
  where
    before : LoneRun
    before = after_lone_runs g p times start

    law : IsLawful g before.world
    law = reached_lawful g _ before.world (often_under g p times moves start under).reached

    go : (b : Bool) → (process before.world p).gone ≡ b → ((process before.world p).gone ≡ true) ⊎ (times ≤ claims before.world p)
        → ((process (after_lone_run g p before).world p).gone ≡ true) ⊎ (suc times ≤ claims (after_lone_run g p before).world p)
    go true e h = inl (ap (λ (y : LoneRun). (process y.world p).gone) (after_lone_run_gone g p before e) ∙ e)
    go false e h =
        let soon = claims_or_ends_soon g before.world p g.limits law e in
        let after : (after_lone_run g p before).world ≡ world_after_turns g before.world p (suc soon.0) = ap (λ (y : LoneRun). y.world) (after_lone_run_here g p before e) ∙ ap (λ n. world_after_turns g before.world p n) (turns_are g soon.0 (lone_bound g) before.world p soon.1 soon.2) in
        subst (λ y. ((process y p).gone ≡ true) ⊎ (suc times ≤ claims y p)) (sym after)
        (⊎_elim (λ gone. inl gone) (λ more. inr (⊎_elim (λ t. absurd (true≢false (sym t ∙ e))) (λ many. omega arith) h)) (rests g soon.0 before.world p law e soon.2))

-- no worker claims more jobs than there are
claims_few : (g : Givens) (w : World) (p : ℕ) → IsLawful g w → IsWorker g p → claims w p ≤ g.jobs
claims_few g w p law o =
    let mine = (law.lawful.sound p o).local in
    let all = length_distinct (process w p).local.claimed g.jobs mine.distinct (λ j h. ((mine.jobs j h).low, (mine.jobs j h).high)) in
    let most = count_le_all (has (process w p).local.claimed) g.jobs in
    omega arith

-- so p is gone
pub is_out : (g : Givens) (p moves : ℕ) (start : LoneRun) → IsWorker g p → IsUnderLimit g moves start → (process (run_out g p start).world p).gone ≡ true
is_out g p moves start o under = ⊎_elim (λ gone. gone)
    (λ many. absurd (let few = claims_few g (run_out g p start).world p (reached_lawful g _ _ (run_out_under g p moves start under).reached) o in omega arith))
    (out_or_claims g p moves (g.jobs + 1) start under)

-- whoever is gone stays gone, whoever goes on
turn_stays : (g : Givens) (w : World) (p q : ℕ) → (process w q).gone ≡ true → (process (world_after_turn g w p) q).gone ≡ true
turn_stays g w p q gone =
    move_cases g w (Turn p) (λ v. (process v q).gone ≡ true) gone
    (λ a events e moved. ap (λ (y : Process). y.gone) (numbered-put_other nobody a w.processes p q (λ (same : q ≡ p). true≢false (sym gone ∙ ap (λ k. (process w k).gone) same ∙ e))) ∙ gone)

turns_stay : (g : Givens) (n : ℕ) (w : World) (p q : ℕ) → (process w q).gone ≡ true → (process (world_after_turns g w p n) q).gone ≡ true
turns_stay g zero w p q gone = gone
turns_stay g (suc n) w p q gone = turns_stay g n (world_after_turn g w p) p q (turn_stays g w p q gone)

often_stays : (g : Givens) (p q times : ℕ) (start : LoneRun) → (process start.world q).gone ≡ true → (process (after_lone_runs g p times start).world q).gone ≡ true
often_stays g p q zero start gone = gone
often_stays g p q (suc times) start gone = go (process before.world p).gone refl (often_stays g p q times start gone)
  where
    before : LoneRun
    before = after_lone_runs g p times start

    go : (b : Bool) → (process before.world p).gone ≡ b → (process before.world q).gone ≡ true → (process (after_lone_run g p before).world q).gone ≡ true
    go true e h = ap (λ (y : LoneRun). (process y.world q).gone) (after_lone_run_gone g p before e) ∙ h
    go false e h = ap (λ (y : LoneRun). (process y.world q).gone) (after_lone_run_here g p before e) ∙ turns_stay g (lone_turns g p (lone_bound g) before.world) before.world p q h

-- the first so many workers are gone
all_out : (g : Givens) (n moves : ℕ) (start : LoneRun) → IsUnderLimit g moves start → n ≤ g.workers → (q : ℕ) → 1 ≤ q → q ≤ n → (process (all_run_out g n start).world q).gone ≡ true
all_out g zero moves start under l q low high = absurd (omega arith)
all_out g (suc n) moves start under l q low high = ⊎_elim
    (λ (e : q ≡ suc n). subst (λ k. (process (all_run_out g (suc n) start).world k).gone ≡ true) (sym e)
    (is_out g (suc n) _ (all_run_out g n start) (record { low = omega arith; high = omega arith }) (all_under g n moves start under)))
    (λ (d : q ≢ suc n). often_stays g (suc n) q (g.jobs + 1) (all_run_out g n start) (all_out g n moves start under (omega arith) q low (omega arith)))
    (cases_eq q (suc n))

-- nobody is left in the end
pub nobody_left : (plan : PlanSeen) (p k q : ℕ) → length plan.moves ≤ MOST_STOPS → (process (stopped plan p k).world q).gone ≡ true
nobody_left plan p k zero few = refl
nobody_left plan p k (suc q) few = ⊎_elim
    (λ (l : q < plan.givens.workers). all_out plan.givens plan.givens.workers most_before_all_ends start under (omega arith) (suc q) (omega arith) (omega arith))
    (λ (m : plan.givens.workers ≤ q). ap (λ (y : Process). y.gone) (numbered_past nobody (stopped plan p k).world.processes (suc q) (let s = law.size in omega arith)))
    (cases_lt q plan.givens.workers)
  where
    start : LoneRun
    start = record { world = stopped_world plan p k; most = 0 }

    under : IsUnderLimit plan.givens most_before_all_ends start
    under = record { reached = stopped_reached plan p k few; most = omega arith }

    law : IsLawful plan.givens (stopped plan p k).world
    law = reached_lawful plan.givens _ (stopped plan p k).world (all_under plan.givens plan.givens.workers most_before_all_ends start under).reached
