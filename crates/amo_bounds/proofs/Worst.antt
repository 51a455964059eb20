-- The fewest are met: all others of worker 1 announce and are halted, and worker 1 goes on alone.
use Rattle.std.proofs.Common.{◌≡◌, ⊎_elim, ℕ, zero, suc, ◌-◌, ◌<◌, ◌≤◌, true, List, [], ◌∷◌, ◌++◌, length, replicate, refl, sym, ap, ◌∙◌, subst, arith, append-nil}
use Rattle.std.specs.Prelude.{if◌then◌else◌, nat_lt, ◌==◌}
use Rattle.std.proofs.lemmas.Bool.{cases_eq, cases_lt, lt-ltb, le-ltb}
use Rattle.amo_sets.specs.Lists.{table}
use Rattle.amo_sets.proofs.Tables.{numbered-table}
use Rattle.amo_params.specs.Givens.{bound}
use Rattle.amo_kk.specs.Record.{wants_nothing}
use Rattle.amo_kk.specs.Run.{done_jobs}
use Rattle.amo_kk.specs.World.{nobody, process, first_process, opening_world, world_of}
use Rattle.amo_params.specs.declared.givens.Givens.{Givens}
use Rattle.amo_kk.specs.Alone.{world_after_turns}
use Rattle.amo_kk.specs.declared.model.Process.{Process}
use Rattle.amo_kk.specs.declared.model.World.{World}
use Rattle.amo_kk.specs.declared.event.Event.TheVariants.{Ended}
use Rattle.amo_params.specs.declared.moves.Move.{Move}
use Rattle.amo_params.specs.declared.moves.Move.TheVariants.{Turn}
use Rattle.amo_kk.proofs.FirstChoice.{first_over}
use Rattle.amo_kk.proofs.Claims.{done-append}
use Rattle.amo_kk.proofs.Moves.{world_after_moves-append}
use Rattle.amo_bounds.specs.Fewest.{fewest, jobs_done, stopped, leavers, ComesToEnd, IsWorst, IsEffectiveness}
use Rattle.amo_bounds.specs.Worst.{stuck_moves, lone_turns, worst_moves}
use Rattle.amo_bounds.proofs.Ended.{stopped-append, leavers-append, gone_ended, nobody_leaves, someone_ended}
use Rattle.amo_bounds.proofs.Stuck.{AreStuck, all_stick, stuck_stops, stuck_leave}
use Rattle.amo_bounds.proofs.Lone.{IsRunning, starts, keeps_running, ends_with_the_fewest}
use Rattle.amo_bounds.proofs.LoneEnd.{soon_gone}
use Rattle.amo_bounds.proofs.Fewest.{fewest_done}

turns_stop_none : (k p : ℕ) → stopped (replicate k (Turn p)) ≡ []
turns_stop_none zero p = refl
turns_stop_none (suc k) p = turns_stop_none k p

turns_leave : (k p : ℕ) → leavers (replicate k (Turn p)) ≡ []
turns_leave zero p = refl
turns_leave (suc k) p = turns_leave k p

ends_do_nothing : (k : ℕ) → done_jobs (table k (λ p. Ended p)) ≡ []
ends_do_nothing zero = refl
ends_do_nothing (suc k) = done-append (table k (λ p. Ended p)) (Ended (suc k) ∷ []) ∙ ap (λ l. l ++ []) (ends_do_nothing k)

-- moves that come to an end with no more dones are the worst
worst : (g : Givens) (ms : List Move) → ComesToEnd g ms → jobs_done g ms ≡ fewest g → IsWorst g ms
worst g ms end done = record { comes_to_end = end; ended = λ p o go_on. gone_ended g ms p o go_on (nobody_leaves g ms p end) (end.gone p o); done = done }

-- with fewer jobs than beta no move is needed
none_needed : (g : Givens) → g.jobs < g.beta → IsWorst g []
none_needed g few = worst g []
    (record {
      none_leaves = refl;
      few_stops = g.limits.some;
      gone = λ p o. ap (λ (x : Process). x.gone) (numbered-table nobody (first_process g) g.workers p o.low o.high) ∙ ap wants_nothing (first_over g p few);
    })
    (ap (λ b. length (done_jobs (if b then table g.workers (λ p. Ended p) else []))) is ∙ ap length (ends_do_nothing g.workers)
    ∙ sym (ap (λ b. if b then 0 else (if bound g == 0 then 1 else bound g)) is))
  where
    is : nat_lt g.jobs g.beta ≡ true
    is = lt-ltb g.jobs g.beta few

-- else the others stick, and worker 1 goes on alone
module _ (g : Givens) (enough : g.beta ≤ g.jobs) where
  abbrev others : List Move
  others = stuck_moves (g.workers - 1)

  abbrev alone : List Move
  alone = replicate (lone_turns g) (Turn 1)

  abbrev after : World
  after = world_after_turns g (world_of g others) 1 (lone_turns g)

  is_after : world_of g (others ++ alone) ≡ after
  is_after = world_after_moves-append g (opening_world g) others alone

  stuck : AreStuck g (g.workers - 1) (world_of g others)
  stuck = all_stick g enough (g.workers - 1) (let some = g.limits.some in omega arith)

  run : IsRunning g enough after
  run = keeps_running g enough (lone_turns g) (world_of g others) (starts g enough (world_of g others) stuck)

  gone : (process after 1).gone ≡ true
  gone = soon_gone g enough (world_of g others) stuck

  they_end : ComesToEnd g (others ++ alone)
  they_end =
      record {
        none_leaves = leavers-append others alone ∙ ap (λ l. l ++ leavers alone) (stuck_leave (g.workers - 1)) ∙ turns_leave (lone_turns g) 1;
        few_stops =
            let all = ap length (stopped-append others alone ∙ ap (λ l. stopped others ++ l) (turns_stop_none (lone_turns g) 1) ∙ append-nil (stopped others)) in
            let most = stuck_stops (g.workers - 1) in
            let some = g.limits.some in
            omega arith;
        gone = λ p o. subst (λ w. (process w p).gone ≡ true) (sym is_after) (⊎_elim
            (λ (e : p ≡ 1). subst (λ x. (process after x).gone ≡ true) (sym e) gone)
            (λ n. (run.stuck p (record { worker = o; differs = n })).gone)
            (cases_eq p 1));
      }

  they_stick : IsWorst g (others ++ alone)
  they_stick = worst g (others ++ alone) they_end (ap (λ (w : World). length (done_jobs w.history)) is_after ∙ ends_with_the_fewest g enough after run gone)

pub worst_are : (g : Givens) → IsWorst g (worst_moves g)
worst_are g = ⊎_elim
    (λ few. subst (λ b. IsWorst g (if b then [] else stuck_moves (g.workers - 1) ++ replicate (lone_turns g) (Turn 1))) (sym (lt-ltb g.jobs g.beta few)) (none_needed g few))
    (λ enough. subst (λ b. IsWorst g (if b then [] else stuck_moves (g.workers - 1) ++ replicate (lone_turns g) (Turn 1))) (sym (le-ltb g.jobs g.beta enough)) (they_stick g enough))
    (cases_lt g.jobs g.beta)

-- so the fewest is what is least done
pub effectiveness : (g : Givens) → IsEffectiveness g (fewest g)
effectiveness g =
    record {
      least = λ ms end. let one = someone_ended g ms end in fewest_done g ms one.0 one.1 one.2;
      met = (worst_moves g, (worst_are g).comes_to_end, (worst_are g).done);
    }
