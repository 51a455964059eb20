-- Workers that go on alone: how many turns they take, and what holds of the worlds that they leave.
use Rattle.std.proofs.Common.{◌≡◌, ℕ, zero, suc, ◌+◌, ◌-◌, ◌*◌, ◌≤◌, ◌<◌, ◌^◌, min, max, length, take, length-take, Bool, true, false, refl, sym, ap, ◌∙◌, subst, arith, add-one}
use Rattle.std.specs.Prelude.{if◌then◌else◌}
use Rattle.amo_kk.specs.World.{process, world_after_turn}
use Rattle.amo_params.specs.Givens.{lone_bound}
use Rattle.amo_kk.specs.Alone.{claims_or_ends, world_after_turns, IsFirstToClaimOrEnd}
use Rattle.amo_kk.specs.Lawful.{IsLawful}
use Rattle.amo_params.specs.declared.givens.Givens.{Givens}
use Rattle.amo_kk.specs.declared.model.Record.{Record}
use Rattle.amo_kk.specs.declared.model.World.{World}
use Rattle.amo_kk.proofs.Worlds.{turn_lawful}
use Rattle.amo_kk.proofs.Moves.{turned_local}
use Rattle.amo_world.specs.Resting.{RunsAlone}
use Rattle.amo_world.specs.Views.{WorldView}
use Rattle.amo_world.specs.declared.answer.Alone.{Alone}
use Rattle.amo_world.proofs.Resting.{here_next}
use Rattle.amo_report.specs.Reached.{IsReached, most_before_a_claim, most_before_all_ends}
use Rattle.amo_report.specs.declared.stops.TheConstants.{MOST_STOPS}
use Rattle.amo_plan.specs.Plan.{PlanSeen}
use Rattle.amo_report.specs.Stops.{stopped_world, stopped, lone_turns, LoneRun, after_lone_run, after_lone_runs, run_out, all_run_out}
use Rattle.amo_report.proofs.ReachedWorlds.{reached_lawful, reached_steps, reached_later, reached_turns, reached_halt, reached_first}

-- a turn of a worker that isn't gone is one step more
turn_steps : (g : Givens) (w : World) (p : ℕ) → IsLawful g w → (process w p).gone ≡ false → (process (world_after_turn g w p) p).local.steps ≡ min ((process w p).local.steps + 1) (2 ^ 64 - 1)
turn_steps g w p law here = ap (λ (r : Record). r.steps) (turned_local g w p law here)

-- and so the steps tell the turns up to the one that claims or ends
pub settling_steps : (g : Givens) (i : ℕ) (w : World) (p : ℕ) → IsLawful g w → (process w p).gone ≡ false → ((k : ℕ) → k < i → claims_or_ends g (world_after_turns g w p k) p ≡ false)
    → (process w p).local.steps + suc i < 2 ^ 64 → (process (world_after_turns g w p (suc i)) p).local.steps ≡ (process w p).local.steps + suc i
settling_steps g zero w p law here none room = let one = turn_steps g w p law here in omega arith
settling_steps g (suc i) w p law here none room =
    let now : claims_or_ends g w p ≡ false = none zero (omega arith) in
    let one = turn_steps g w p law here in
    let rest = settling_steps g i (world_after_turn g w p) p (turn_lawful g w p g.limits law) (here_next g w p law here now) (λ k l. none (suc k) (omega arith)) (omega arith) in
    omega arith

-- the search finds the first turn that claims or ends
pub turns_are : (g : Givens) (i most : ℕ) (w : World) (p : ℕ) → i < most → IsFirstToClaimOrEnd g w p i → lone_turns g p most w ≡ suc i
turns_are g i zero w p l first = absurd (omega arith)
turns_are g zero (suc most) w p l first = ap (λ b. if b then 1 else suc (lone_turns g p most (world_after_turn g w p))) first.this_one
turns_are g (suc i) (suc most) w p l first =
    ap (λ b. if b then 1 else suc (lone_turns g p most (world_after_turn g w p))) (first.none_before zero (omega arith))
    ∙ ap (λ n. suc n) (turns_are g i most (world_after_turn g w p) p (omega arith) (record { none_before = λ k m. first.none_before (suc k) (omega arith); this_one = first.this_one }))

-- and never takes more turns than it may
pub turns_few : (g : Givens) (p most : ℕ) (w : World) → lone_turns g p most w ≤ most
turns_few g p zero w = omega arith
turns_few g p (suc most) w = go (claims_or_ends g w p) _ (turns_few g p most (world_after_turn g w p))
  where
    go : (b : Bool) (rest : ℕ) → rest ≤ most → (if b then 1 else suc rest) ≤ suc most
    go true rest l = omega arith
    go false rest l = omega arith

-- where p has come to rest: how many steps it has had, and in which world
pub record RunsLone (g : Givens) (w : World) (p : ℕ) (v : World) : Type 0 where
  pub steps : (process v p).local.steps ≡ (process w p).local.steps + lone_turns g p (lone_bound g) w
  pub leads : v ≡ world_after_turns g w p (lone_turns g p (lone_bound g) w)

pub runs_lone : (g : Givens) (w v : World) (p : ℕ) (answer : Alone) → IsReached g most_before_a_claim w → (process w p).gone ≡ false → RunsAlone g w p v answer → RunsLone g w p v
runs_lone g w v p answer way here runs =
    let turns = turns_are g runs.others (lone_bound g) w p runs.soon runs.first in
    let before = reached_steps g most_before_a_claim w p way in
    let soon = runs.soon in
    let jobs = g.limits.few_jobs in
    let workers = g.limits.few_workers in
    let room : (process w p).local.steps + suc runs.others < 2 ^ 64 = omega arith in
    let all = settling_steps g runs.others w p (reached_lawful g most_before_a_claim w way) here runs.first.none_before room in
    record {
      steps = ap (λ x. (process x p).local.steps) runs.leads ∙ all ∙ ap (λ n. (process w p).local.steps + n) (sym turns);
      leads = runs.leads ∙ ap (λ n. world_after_turns g w p n) (sym turns);
    }

-- a worker that isn't gone, and one that is
pub after_lone_run_here : (g : Givens) (p : ℕ) (r : LoneRun) → (process r.world p).gone ≡ false → after_lone_run g p r ≡ record { world = world_after_turns g r.world p (lone_turns g p (lone_bound g) r.world); most = max r.most (lone_turns g p (lone_bound g) r.world) }
unfolding after_lone_run
after_lone_run_here g p r here = ap (λ b. let x : LoneRun = if b then r else record { world = world_after_turns g r.world p (lone_turns g p (lone_bound g) r.world); most = max r.most (lone_turns g p (lone_bound g) r.world) } in x) here

pub after_lone_run_gone : (g : Givens) (p : ℕ) (r : LoneRun) → (process r.world p).gone ≡ true → after_lone_run g p r ≡ r
unfolding after_lone_run
after_lone_run_gone g p r gone = ap (λ b. let x : LoneRun = if b then r else record { world = world_after_turns g r.world p (lone_turns g p (lone_bound g) r.world); most = max r.most (lone_turns g p (lone_bound g) r.world) } in x) gone

-- what holds of a run all along: its world is reached by so many moves, and no go took more turns
-- than are enough
pub record IsUnderLimit (g : Givens) (moves : ℕ) (r : LoneRun) : Type 0 where
  pub reached : IsReached g moves r.world
  pub most : r.most ≤ lone_bound g

lone_run_under : (g : Givens) (p moves : ℕ) (r : LoneRun) → IsUnderLimit g moves r → IsUnderLimit g (moves + 4192) (after_lone_run g p r)
lone_run_under g p moves r under = go (process r.world p).gone refl
  where
    turns : ℕ
    turns = lone_turns g p (lone_bound g) r.world

    go : (b : Bool) → (process r.world p).gone ≡ b → IsUnderLimit g (moves + 4192) (after_lone_run g p r)
    go true e = subst (IsUnderLimit g (moves + 4192)) (sym (after_lone_run_gone g p r e)) (record { reached = reached_later g moves (moves + 4192) r.world (omega arith) under.reached; most = under.most })
    go false e =
        let few : turns ≤ lone_bound g = turns_few g p (lone_bound g) r.world in
        let jobs = g.limits.few_jobs in
        let workers = g.limits.few_workers in
        let most = under.most in
        subst (IsUnderLimit g (moves + 4192)) (sym (after_lone_run_here g p r e)) (record {
          reached = reached_later g (moves + turns) (moves + 4192) (world_after_turns g r.world p turns) (omega arith) (reached_turns g moves r.world p turns under.reached);
          most = omega arith;
        })

pub often_under : (g : Givens) (p times moves : ℕ) (r : LoneRun) → IsUnderLimit g moves r → IsUnderLimit g (moves + times * 4192) (after_lone_runs g p times r)
often_under g p zero moves r under = record { reached = reached_later g moves (moves + 0 * 4192) r.world (omega arith) under.reached; most = under.most }
often_under g p (suc times) moves r under =
    let last = lone_run_under g p (moves + times * 4192) (after_lone_runs g p times r) (often_under g p times moves r under) in
    record { reached = reached_later g (moves + times * 4192 + 4192) (moves + suc times * 4192) _ (omega arith) last.reached; most = last.most }

pub run_out_under : (g : Givens) (p moves : ℕ) (r : LoneRun) → IsUnderLimit g moves r → IsUnderLimit g (moves + 17174624) (run_out g p r)
run_out_under g p moves r under =
    let last = often_under g p (g.jobs + 1) moves r under in
    let jobs = g.limits.few_jobs in
    record { reached = reached_later g (moves + (g.jobs + 1) * 4192) (moves + 17174624) _ (omega arith) last.reached; most = last.most }

pub all_under : (g : Givens) (before moves : ℕ) (r : LoneRun) → IsUnderLimit g moves r → IsUnderLimit g (moves + before * 17174624) (all_run_out g before r)
all_under g zero moves r under = record { reached = reached_later g moves (moves + 0 * 17174624) r.world (omega arith) under.reached; most = under.most }
all_under g (suc before) moves r under =
    let last = run_out_under g (suc before) (moves + before * 17174624) (all_run_out g before r) (all_under g before moves r under) in
    record { reached = reached_later g (moves + before * 17174624 + 17174624) (moves + suc before * 17174624) _ (omega arith) last.reached; most = last.most }

-- the limit holds if nobody has gone on alone before
pub first_under : (g : Givens) (before moves : ℕ) (w : World) → IsReached g moves w → IsUnderLimit g (moves + before * 17174624) (all_run_out g before (record { world = w; most = 0 }))
first_under g before moves w way = all_under g before moves _ (record { reached = way; most = omega arith })

-- A view and a number show a run: its world, and the most turns so far.
pub record Shows (g : Givens) (r : LoneRun) (v : WorldView) (turns : ℕ) : Type 0 where
  pub world : v ≡ record { givens = g; world = r.world }
  pub most : turns ≡ r.most

one_time_more : (g : Givens) (p n : ℕ) (start : LoneRun) → after_lone_run g p (after_lone_runs g p n start) ≡ after_lone_runs g p (n + 1) start
one_time_more g p n start = ap (λ k. after_lone_runs g p k start) (sym (add-one n))

pub goes_on : (g : Givens) (p n : ℕ) (start : LoneRun) (old new : WorldView) (most turns : ℕ) → Shows g (after_lone_runs g p n start) old most → (process old.world p).gone ≡ false
    → turns ≡ lone_turns old.givens p (lone_bound old.givens) old.world → new ≡ record { givens = old.givens; world = world_after_turns old.givens old.world p turns }
    → Shows g (after_lone_runs g p (n + 1) start) new (max most turns)
goes_on g p n start old new most turns is here taken made =
    record {
      world = made ∙ (λ i. let v : WorldView = record { givens = (is.world i).givens; world = world_after_turns (is.world i).givens (is.world i).world p (so i) } in v)
          ∙ ap (λ (x : LoneRun). let v : WorldView = record { givens = g; world = x.world } in v) next;
      most = (λ i. max (is.most i) (so i)) ∙ ap (λ (x : LoneRun). x.most) next;
    }
  where
    r : LoneRun
    r = after_lone_runs g p n start

    so : turns ≡ lone_turns g p (lone_bound g) r.world
    so = taken ∙ (λ i. lone_turns (is.world i).givens p (lone_bound (is.world i).givens) (is.world i).world)

    next : (let x : LoneRun = record { world = world_after_turns g r.world p (lone_turns g p (lone_bound g) r.world); most = max r.most (lone_turns g p (lone_bound g) r.world) } in x) ≡ after_lone_runs g p (n + 1) start
    next = sym (after_lone_run_here g p r (sym (ap (λ (v : WorldView). (process v.world p).gone) is.world) ∙ here)) ∙ one_time_more g p n start

pub stays : (g : Givens) (p n : ℕ) (start : LoneRun) (old : WorldView) (most : ℕ) → Shows g (after_lone_runs g p n start) old most → (process old.world p).gone ≡ true → Shows g (after_lone_runs g p (n + 1) start) old most
stays g p n start old most is gone = subst (λ r. Shows g r old most) same is
  where
    same : after_lone_runs g p n start ≡ after_lone_runs g p (n + 1) start
    same = sym (after_lone_run_gone g p (after_lone_runs g p n start) (sym (ap (λ (v : WorldView). (process v.world p).gone) is.world) ∙ gone)) ∙ one_time_more g p n start

-- a view of a world that is reached shows one
pub seen_reached : (g : Givens) (most : ℕ) (w : World) (v : WorldView) → v ≡ record { givens = g; world = w } → IsReached g most w → IsReached v.givens most v.world
seen_reached g most w v is way = subst (λ (x : WorldView). IsReached x.givens most x.world) (sym is) way

-- the world of a stop
pub stopped_reached : (plan : PlanSeen) (p k : ℕ) → length plan.moves ≤ MOST_STOPS → IsReached plan.givens most_before_all_ends (stopped_world plan p k)
stopped_reached plan p k few =
    reached_halt plan.givens MOST_STOPS _ p (reached_first plan.givens MOST_STOPS (take k plan.moves) (let l = length-take k plan.moves in omega arith))

pub stopped_under : (plan : PlanSeen) (p k : ℕ) → length plan.moves ≤ MOST_STOPS → IsUnderLimit plan.givens (most_before_all_ends + plan.givens.workers * 17174624) (stopped plan p k)
stopped_under plan p k few = first_under plan.givens plan.givens.workers most_before_all_ends _ (stopped_reached plan p k few)
