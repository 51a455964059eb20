-- `World::unclaimed_len`: no overflow, the premises of its calls and its promises, by the lemmas of
-- Counts (amo_kk).
use Rattle.std.proofs.Common.{◌≡◌, ◌<◌, ◌^◌, ◌+◌, ◌-◌, ℕ, List, ap, sym, subst, ◌∙◌, length, arith}
use Rattle.amo_kk.specs.Object.{first_object}
use Rattle.amo_kk.specs.Run.{IsRun, object_after_all, claimed_jobs}
use Rattle.amo_kk.specs.Lawful.{object_of}
use Rattle.amo_params.specs.declared.givens.Givens.{Givens}
use Rattle.amo_kk.specs.declared.event.Event.{Event}
use Rattle.amo_kk.proofs.Counts.{unclaimed_count, run_fits}
use Rattle.amo_world.specs.Views.{WorldView}
use Rattle.amo_world.specs.Processes.{world_of_processes}
use Rattle.amo_world.proofs.world.World.unclaimed_len.Goals as goal

-- the claims that were counted, and what is left
claims_are : (g : Givens) (seen history : List Event) (n : ℕ) → IsRun g (first_object g) history → seen ≡ history → n ≡ length (claimed_jobs seen)
    → length (object_after_all (first_object g) history).unclaimed + n ≡ g.jobs
claims_are g seen history n run same counted =
    ap (λ k. length (object_after_all (first_object g) history).unclaimed + k) (counted ∙ ap (λ l. length (claimed_jobs l)) same) ∙ unclaimed_count g history run

pub count-requires : goal.count-requires
count-requires c = subst (λ l. length l < 2 ^ 32) (sym c.deref.ensures.value) (run_fits c.self.inside.givens c.self.inside.history.items c.self.invariant.run.0)

pub overflow_sub-result : goal.overflow_sub-result
overflow_sub-result c = let all = claims_are c.self.inside.givens _ c.self.inside.history.items c.count.result.claimed c.self.invariant.run.0 c.deref.ensures.value c.count.ensures.claimed in omega arith

pub returns : goal.returns
returns c =
    let all = claims_are c.self.inside.givens _ c.self.inside.history.items c.count.result.claimed c.self.invariant.run.0 c.deref.ensures.value c.count.ensures.claimed in
    let here : c.self.inside.givens.jobs - c.count.result.claimed ≡ length (object_of c.self.inside.givens (world_of_processes c.self.inside.processes.items c.self.inside.history.items)).unclaimed = omega arith in
    here ∙ ap (λ (v : WorldView). length (object_of v.givens v.world).unclaimed) c.self.view_is
