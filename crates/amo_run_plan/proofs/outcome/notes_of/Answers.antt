-- `notes_of`: its promises, by the lemmas of Fates.
use Rattle.std.proofs.Common.{ℕ, None, List, Vec, Global, ap, ◌∙◌}
use Rattle.amo_sets.specs.Lists.{numbered}
use Rattle.amo_run_plan.specs.Became.{Handed, listed, fate_of}
use Rattle.amo_run_plan.proofs.Fates.{fate_is}
use Rattle.amo_run_plan.proofs.outcome.notes_of.Goals as goal

pub returns-clause-fates : goal.returns-clause-fates
returns-clause-fates c = λ b low high.
    let outputs = c.as_slice-outputs.result.now in
    fate_is (listed c.deref-2.result.now) (listed c.deref.result.now) outputs b (numbered None c.in_ok-filed.filed.items b) (numbered None c.in_ok-claimers.claimers.items b)
    (c.in_ok-filed.ensures.noted b low high) (c.in_ok-claimers.ensures.noted b low high)
    ∙ ap (λ (l : List (Vec ℕ Global)). fate_of (listed l) (listed c.deref.result.now) outputs b) c.deref-2.ensures.value
    ∙ ap (λ (l : List (Vec ℕ Global)). fate_of (listed c.args.outcome.now.settlement.claims.items) (listed l) outputs b) c.deref.ensures.value
    ∙ ap (λ (l : List Handed). fate_of (listed c.args.outcome.now.settlement.claims.items) (listed c.args.outcome.now.settlement.dones.items) l b) c.as_slice-outputs.ensures.value
