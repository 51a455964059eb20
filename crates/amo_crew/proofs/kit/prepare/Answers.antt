-- `prepare`: its promises, by the lemmas of Starts.
use Rattle.std.proofs.Common.{ap, length, arith}
use Rattle.amo_crew.proofs.Starts.{outlets_at, outlets_len}
use Rattle.amo_crew.proofs.kit.prepare.Goals as goal

pub returns-clause-kit : goal.returns-clause-kit
returns-clause-kit g c = let made = c.in_ok-queue.ensures in
    let crew = c.in_ok-crew.ensures in let finishes = c.in_ok-finishes.ensures in let ends = c.in_ok-ends.ensures in let hands = c.in_ok-in_hand.ensures in let spare = c.in_ok-spare.ensures in
    let crew_c = crew.capacity in let finishes_c = finishes.capacity in let ends_c = ends.capacity in let hands_c = hands.capacity in let spare_c = spare.capacity in
    let none = ap length crew.items in let many = outlets_len c.args.givens.workers c.in_ok-queue.outlets.items made.workers in let len = c.in_ok-queue.outlets.ok.0 in let fits = c.in_ok-queue.outlets.ok in
    record {
      outlets_are = outlets_at c.in_ok-queue.queue c.args.givens.jobs c.args.givens.workers c.in_ok-queue.outlets.items made.outlets made.workers;
      count = omega arith;
      takes = made.inlet.belongs;
      inlet_room = made.inlet.room_is;
      no_finishes = finishes.items;
      no_ends = ends.items;
      no_hands = hands.items;
      no_spare = spare.items;
      outlets_room = omega arith;
      crew_room = omega arith;
      finishes_room = omega arith;
      ends_room = omega arith;
      hands_room = omega arith;
      spare_room = omega arith;
    }
