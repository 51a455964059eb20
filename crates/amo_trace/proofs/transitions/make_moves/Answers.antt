-- `make_moves`: its promises, by the lemmas of Gone.
use Rattle.std.proofs.Common.{◌≡◌, ◌++◌, ◌+◌, true, drop, sym, ap, ◌∙◌, subst}
use Rattle.std.proofs.lemmas.List.{append-nil}
use Rattle.amo_params.specs.declared.givens.Givens.{Givens}
use Rattle.amo_trace.specs.Transitions.{all_gone}
use Rattle.amo_trace.proofs.Gone.{moves_of_gone, transitions_of_gone}
use Rattle.amo_trace.proofs.transitions.make_moves.Goals as goal

pub returns-then-all_gone-clause-transitions : goal.returns-then-all_gone-clause-transitions
returns-then-all_gone-clause-transitions c =
    let loop = c.loop-i in
    let gone : all_gone c.args.world.now.givens loop.world.world ≡ true =
    subst (λ (g : Givens). all_gone g loop.world.world ≡ true) loop.invariant.givens (sym c.all_gone.ensures ∙ c.if-all_gone.true) in
    sym (append-nil loop.transitions.items)
    ∙ ap (λ xs. loop.transitions.items ++ xs) (sym (transitions_of_gone c.args.world.now.givens loop.world.world (loop.i + 1) (drop loop.i c.args.moves.now) gone))
    ∙ loop.invariant.transitions

pub returns-then-all_gone-clause-world : goal.returns-then-all_gone-clause-world
returns-then-all_gone-clause-world c =
    let loop = c.loop-i in
    let gone : all_gone c.args.world.now.givens loop.world.world ≡ true =
    subst (λ (g : Givens). all_gone g loop.world.world ≡ true) loop.invariant.givens (sym c.all_gone.ensures ∙ c.if-all_gone.true) in
    let stays = sym (moves_of_gone c.args.world.now.givens loop.world.world (drop loop.i c.args.moves.now) gone loop.invariant.in_range) ∙ loop.invariant.world in
    λ i. record { givens = loop.invariant.givens i; world = stays i }
