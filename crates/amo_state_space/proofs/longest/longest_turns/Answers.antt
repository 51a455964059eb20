-- `longest_turns`: what its loop keeps and its promises, by the lemmas of Way.
use Rattle.amo_state_space.proofs.Way.{way_more, way_less, way_whole, next_here, next_none}
use Rattle.amo_state_space.proofs.longest.longest_turns.Goals as goal

pub loop-turns-smaller : goal.loop-turns-smaller
loop-turns-smaller c =
    let here = next_here c.loop-turns.world.givens c.loop-turns.world.world c.in_ok-p.field-0 c.in-Some.p c.in-Some.is c.in_ok-p.ensures in
    rw c.in_ok-push.ensures.items (way_less c.args.givens c.turn-turned.new.self c.loop-turns.turns.items c.in-Some.p
    (way_more c.args.givens c.loop-turns.world c.turn-turned.new.self c.loop-turns.turns.items c.in-Some.p c.loop-turns.invariant here.0 here.1 c.turn-turned.ensures.world))

pub loop-turns-preserved : goal.loop-turns-preserved
loop-turns-preserved c =
    let here = next_here c.loop-turns.world.givens c.loop-turns.world.world c.in_ok-p.field-0 c.in-Some.p c.in-Some.is c.in_ok-p.ensures in
    rw c.in_ok-push.ensures.items (way_more c.args.givens c.loop-turns.world c.turn-turned.new.self c.loop-turns.turns.items c.in-Some.p c.loop-turns.invariant here.0 here.1 c.turn-turned.ensures.world)

pub returns : goal.returns
returns c = way_whole c.args.givens c.loop-turns.world c.loop-turns.turns.items c.loop-turns.invariant (next_none c.loop-turns.world.givens c.loop-turns.world.world c.in_ok-p.field-0 c.in_default.is c.in_ok-p.ensures)
