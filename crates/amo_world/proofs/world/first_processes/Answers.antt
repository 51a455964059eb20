-- `first_processes`: what its loop keeps, by the lemmas of Opening.
use Rattle.std.proofs.Common.{◌≡◌, ◌∙◌, sym, subst, List, map, ◌+◌}
use Rattle.amo_sets.specs.Lists.{table}
use Rattle.amo_kk.specs.World.{first_process}
use Rattle.amo_world.specs.declared.process.SimProcess.{SimProcess as OwnProcess}
use Rattle.amo_world.specs.Processes.{process_of, AreInOrder}
use Rattle.amo_world.proofs.Opening.{processes_next, in_order_next}
use Rattle.amo_world.proofs.world.first_processes.Goals as goal

pub loop-p-preserved : goal.loop-p-preserved
loop-p-preserved c =
    record {
      processes = subst (λ (l : List OwnProcess). map process_of l ≡ table (c.loop-p.p + 1) (first_process c.args.givens)) (sym c.push_reserved.ensures.items)
          (processes_next c.args.givens c.loop-p.p c.loop-p.processes.items c.in_ok-process.process c.loop-p.invariant.processes c.in_ok-process.ensures.process);
      room = c.push_reserved.ensures.capacity ∙ c.loop-p.invariant.room;
      in_order = subst (λ (l : List OwnProcess). AreInOrder c.args.givens (c.loop-p.p + 1) l) (sym c.push_reserved.ensures.items)
          (in_order_next c.args.givens c.loop-p.p c.loop-p.processes.items c.in_ok-process.process c.loop-p.invariant.in_order c.in_ok-process.ensures.givens c.in_ok-process.ensures.number c.in_ok-process.ensures.room);
    }
