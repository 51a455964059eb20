-- The digits of a schedule's number, and what the judge says of explored histories.
use Rattle.std.proofs.Common.{◌≡◌, ℕ, ◌+◌, ◌/◌, ◌%◌, ◌^◌, List, [], ◌∷◌, ◌++◌, sym, ap, ◌∙◌, add-one}
use Rattle.std.specs.Prelude.{if◌then◌else◌, ◌==◌}
use Rattle.std.proofs.Math.Nat.{div-div-eq-div-mul, pow-suc}
use Rattle.amo_kk.specs.Object.{first_object}
use Rattle.amo_kk.specs.Run.{first_bad}
use Rattle.amo_params.specs.declared.givens.Givens.{Givens}
use Rattle.amo_kk.specs.declared.event.Event.{Event}
use Rattle.amo_params.specs.declared.moves.Move.TheVariants.{Turn}
use Rattle.amo_world.specs.Answer.{verdict}
use Rattle.amo_world.specs.declared.answer.Verdict.{Verdict}
use Rattle.amo_world.specs.declared.answer.Verdict.TheVariants.{Lawful, FirstBad}
use Rattle.amo_report.specs.Explorer.{schedule}

-- one turn more, by the lowest of the digits that are left
pub schedule_more : (m workers s i digits : ℕ) → workers ≡ m → digits ≡ s / m ^ i → schedule m s (i + 1) ≡ schedule m s i ++ Turn (digits % workers + 1) ∷ []
schedule_more m workers s i digits base left =
    ap (schedule m s) (add-one i) ∙ (λ k. schedule m s i ++ Turn (sym left k % sym base k + 1) ∷ [])

-- the digits that are left after one more
pub digits_more : (m workers s i digits : ℕ) → workers ≡ m → digits ≡ s / m ^ i → digits / workers ≡ s / m ^ (i + 1)
digits_more m workers s i digits base left =
    (λ k. left k / base k) ∙ div-div-eq-div-mul s (m ^ i) m ∙ ap (λ b. s / b) (sym (pow-suc m i)) ∙ ap (λ j. s / m ^ j) (sym (add-one i))

-- a history of which no event is bad
pub lawful_history : (g : Givens) (events : List Event) → first_bad g (first_object g) events ≡ 0 → verdict g events ≡ Lawful
lawful_history g events none = ap (λ (n : ℕ). let v : Verdict = if n == 0 then Lawful else FirstBad n in v) none
