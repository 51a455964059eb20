-- The rest of a batch after a job is recorded as done.
use Rattle.std.proofs.Common.{◌≡◌, ℕ, false, refl, sym, [], ◌++◌, Some, None, append-nil}
use Rattle.std.specs.Prelude.{if◌then◌else◌}
use Rattle.amo_kk.specs.Step.{want, record_after}
use Rattle.amo_params.specs.declared.givens.Givens.{Givens}
use Rattle.amo_kk.specs.declared.phase.Want.{Want}
use Rattle.amo_kk.specs.declared.phase.Want.TheVariants.{StoreDone}
use Rattle.amo_process.specs.declared.standing.Standing.{Standing}
use Rattle.amo_process.specs.declared.standing.Standing.TheVariants.{Beginning, Going}
use Rattle.amo_process.specs.Heard.{can_hear}
use Rattle.amo_process.specs.Stepped.{standing_after}
use Rattle.amo_process.specs.Batch.{items_wanted, items_from, items_beginning, items_of, items_to_filing, is_filing, files}

pub goes_on : (g : Givens) (p : ℕ) (s : Standing)
    → items_of g p s ≡ items_to_filing g p (Some s) ++ (if files s then items_to_filing g p (standing_after g p 0 [] (Some s)) else [])
goes_on g p (Beginning word) = sym (append-nil (items_beginning g p word))
goes_on g p (Going l fresh) = go (want l.state)
  where
    go : (x : Want) → items_from g p l.state x
        ≡ items_wanted g p l.state.fronts x
        ++ (if is_filing x then items_to_filing g p (if can_hear g 0 x then Some (Going (record l { state = record_after g p 0 l.state }) false) else None) else [])
    go (StoreDone k j) = refl
    go x = sym (append-nil (items_wanted g p l.state.fronts x))
