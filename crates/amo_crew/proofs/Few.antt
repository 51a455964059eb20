-- The workers that came back have done at most as many jobs as there are.
use Rattle.std.proofs.Common.{◌≡◌, ℕ, zero, suc, ◌+◌, ◌≤◌, List, [], ◌∷◌, length, take, get_or, refl, ap, ◌∙◌, subst, arith}
use Rattle.std.specs.List.{sum_by}
use Rattle.std.proofs.lemmas.List.{take_more, take_all}
use Rattle.std.proofs.lemmas.List.Sums.{sum_by-append, sum_by-cons}
use Rattle.amo_params.specs.declared.givens.Givens.{Givens}
use Rattle.amo_params.specs.declared.moves.Move.{Move}
use Rattle.amo_words.specs.declared.rule.Spot.{Spot}
use Rattle.amo_words.specs.declared.rule.Spot.TheVariants.{Home, Out, Back}
use Rattle.amo_words.specs.Rule.{AllStand}
use Rattle.amo_words.specs.Looking.{done_in}
use Rattle.amo_words.proofs.Meetings.{back_few}
use Rattle.amo_crew.specs.Outcomes.{dones_in}
use Rattle.amo_crew.specs.Collecting.{dones_upto}

counted : (x : Spot) → length (dones_in x) ≡ done_in x
counted Home = refl
counted Out = refl
counted (Back l) = refl

-- the dones of 1..k are those of the first k spots
first_dones : (spots : List Spot) (k : ℕ) → k ≤ length spots → dones_upto spots k ≡ sum_by done_in (take k spots)
first_dones spots zero h = refl
first_dones spots (suc k) h =
    let before = first_dones spots k (omega arith) in
    let x : Spot = get_or spots k Home in
    let next : suc k ≡ k + 1 = omega arith in
    let grown : sum_by done_in (take (suc k) spots) ≡ sum_by done_in (take k spots) + (done_in x + 0) =
    ap (λ i. sum_by done_in (take i spots)) next ∙ ap (sum_by done_in) (take_more spots k Home (omega arith))
    ∙ sum_by-append done_in (take k spots) (x ∷ []) ∙ ap (λ n. sum_by done_in (take k spots) + n) (sum_by-cons done_in x []) in
    let same = counted x in
    omega (arith, before, grown, same)

pub dones_within : (g : Givens) (log : List Move) (spots : List Spot) → AllStand g log spots → dones_upto spots (length spots) ≤ g.jobs
dones_within g log spots stand =
    let all = subst (λ l. dones_upto spots (length spots) ≡ sum_by done_in l) (take_all (length spots) spots (omega arith)) (first_dones spots (length spots) (omega arith)) in
    let few = back_few g log spots stand in
    omega (arith, all, few)
