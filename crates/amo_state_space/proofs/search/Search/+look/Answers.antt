-- `Search::look`: the premises of its calls, by the lemmas of Left.
use Rattle.std.proofs.Common.{sym, ◌∙◌, arith}
use Rattle.amo_kk.specs.World.{world_of}
use Rattle.amo_state_space.proofs.Left.{next_less, next_stops, next_few}
use Rattle.amo_state_space.proofs.search.Search.+look.Goals as goal

pub look-requires : goal.look-requires
look-requires t c =
    let allowed = sym c.allows.ensures ∙ c.if-allows.true in
    let less = next_less c.args.self.now c.loop-before.self c.make.new.self c.move_at-one.result c.args.stops c.loop-before.invariant c.in_ok-make.ensures c.requires.stops allowed in
    let stops = next_stops c.args.self.now c.loop-before.self c.make.new.self c.move_at-one.result c.args.stops c.loop-before.invariant c.in_ok-make.ensures c.requires.stops allowed in
    (omega (arith, less, c.decreases), (stops ∙ sym c.stops_after.ensures, rw c.stops_after.ensures (next_few c.loop-before.self.givens (world_of c.loop-before.self.givens c.loop-before.self.moves) c.move_at-one.result c.args.stops c.requires.few allowed)))
