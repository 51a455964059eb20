-- `Search::make`: what its type keeps, by the lemmas of Paths.
use Rattle.std.proofs.Common.{sym, subst}
use Rattle.amo_params.specs.Givens.{IsWorker}
use Rattle.amo_params.specs.Moves.{worker_of}
use Rattle.amo_state_space.specs.Search.{SearchView}
use Rattle.amo_state_space.proofs.Paths.{search_more}
use Rattle.amo_state_space.proofs.search.Search.make.Goals as goal

pub invariant_of-self-2 : goal.invariant_of-self-2
invariant_of-self-2 c =
    let worker = subst (λ (v : SearchView). IsWorker v.givens (worker_of c.args.one)) (sym c.self.view_is) c.requires in
    rw c.in_ok-push.ensures.items (search_more c.self.inside.world c.run.new.self c.self.inside.moves.items c.args.one c.self.invariant worker c.run.ensures)
