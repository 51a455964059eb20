-- `World::history`: its promises, by the lemmas of Claims (amo_kk).
use Rattle.std.proofs.Common.{subst}
use Rattle.amo_kk.specs.Object.{first_object}
use Rattle.amo_kk.specs.Run.{IsRun}
use Rattle.amo_kk.proofs.Claims.{claims_distinct, dones_distinct, done_has_claim, end_is_late}
use Rattle.amo_world.specs.Views.{WorldView}
use Rattle.amo_world.proofs.world.World.history.Goals as goal

run_here : (c : goal.After-deref) → IsRun c.args.self.now.givens (first_object c.args.self.now.givens) c.args.self.now.world.history
run_here c = subst (λ (v : WorldView). IsRun v.givens (first_object v.givens) v.world.history) c.self.view_is c.self.invariant.run.0

pub returns-clause-claims : goal.returns-clause-claims
returns-clause-claims c = claims_distinct c.args.self.now.givens c.args.self.now.world.history (run_here c)

pub returns-clause-dones : goal.returns-clause-dones
returns-clause-dones c = dones_distinct c.args.self.now.givens c.args.self.now.world.history (run_here c)

pub returns-clause-claimed_before : goal.returns-clause-claimed_before
returns-clause-claimed_before c = λ before after p j parts.
    done_has_claim c.args.self.now.givens before after p j (subst (λ l. IsRun c.args.self.now.givens (first_object c.args.self.now.givens) l) parts (run_here c))

pub returns-clause-late_end : goal.returns-clause-late_end
returns-clause-late_end c = λ before after p parts.
    end_is_late c.args.self.now.givens before after p c.args.self.now.givens.limits (subst (λ l. IsRun c.args.self.now.givens (first_object c.args.self.now.givens) l) parts (run_here c))
