-- The budgets of a plan are a stop plan's.
use Rattle.std.proofs.Common.{◌≡◌, ℕ, suc, Bool, true, List, [], ◌∷◌, length, Option, Some, None, refl, ap, ◌∙◌, subst, le-ltb}
use Rattle.std.specs.Prelude.{if◌then◌else◌, ◌==◌}
use Rattle.std.specs.List.{list_all}
use Rattle.std.proofs.lemmas.Bool.{and_parts, leb-true, eq-eqb}
use Rattle.amo_params.specs.declared.givens.Givens.{Givens}
use Rattle.amo_plan.specs.Limits.{is_small}
use Rattle.amo_crew.specs.declared.plan.making.StopFault.{StopFault}
use Rattle.amo_crew.specs.declared.plan.making.StopFault.TheVariants.{WrongCount, TooLarge, NoMemory}
use Rattle.amo_crew.specs.Faults.{first_large, stop_fault, IsRefusedPlan}
use Rattle.amo_params.specs.declared.limits.TheConstants.{MAX_STEPS}

none_large : (p : ℕ) (budgets : List ℕ) → list_all is_small budgets ≡ true → first_large p budgets ≡ None
none_large p [] small = refl
none_large p (b ∷ bs) small =
    let (here, more) = and_parts (is_small b) (list_all is_small bs) small in
    ap (λ (x : Bool). if x then Some (TooLarge p) else first_large (suc p) bs) (le-ltb MAX_STEPS b (leb-true b MAX_STEPS here)) ∙ none_large (suc p) bs more

nothing_wrong : (g : Givens) (budgets : List ℕ) → length budgets ≡ g.workers → list_all is_small budgets ≡ true → stop_fault g budgets ≡ None
nothing_wrong g budgets count small =
    let same : (length budgets == g.workers) ≡ true = eq-eqb (length budgets) g.workers count in
    ap (λ (x : Bool). if x then first_large 1 budgets else Some WrongCount) same ∙ none_large 1 budgets small

-- as many budgets as workers, each of them small, are refused for want of memory alone
pub only_memory : (g : Givens) (budgets : List ℕ) (fault : StopFault) → length budgets ≡ g.workers → list_all is_small budgets ≡ true → IsRefusedPlan (stop_fault g budgets) fault → fault ≡ NoMemory
only_memory g budgets fault count small refused = subst (λ (o : Option StopFault). IsRefusedPlan o fault) (nothing_wrong g budgets count small) refused
