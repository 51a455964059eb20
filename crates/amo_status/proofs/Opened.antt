-- The lines one after the other: how they stand, and which are open.
use Rattle.std.proofs.Common.{◌≡◌, ℕ, ◌+◌, ◌<◌, List, [], ◌∷◌, length, get_or, map, refl, ap, ◌∙◌}
use Rattle.std.specs.List.{range_with_len}
use Rattle.std.proofs.lemmas.List.FromFn.{fill_by_all}
use Rattle.amo_run_log.specs.declared.finding.Finding.{Finding}
use Rattle.amo_run_log.specs.declared.journal.Attempt.{Attempt}
use Rattle.amo_run_log.specs.Open.{is_open, numbers}
use Rattle.amo_status.specs.declared.standing.LineStatus.{LineStatus}
use Rattle.amo_status.specs.declared.state.AttemptId.{AttemptId}
use Rattle.amo_status.specs.declared.state.State.TheVariants.{Open}
use Rattle.amo_status.specs.Deciding.{decided_from}
use Rattle.amo_status.specs.States.{is}
use Rattle.amo_status.specs.Standings.{open_standing, closing, standing_of, standings_of}
use Rattle.amo_status.proofs.Closers.{open_just}
use Rattle.amo_status.proofs.Noting.{decides_all}

map_map : {A B C : Type 0} (f : B → C) (g : A → B) (xs : List A) → map (λ x. f (g x)) xs ≡ map f (map g xs)
map_map f g [] = refl
map_map f g (x ∷ xs) = ap (λ ys. f (g x) ∷ ys) (map_map f g xs)

module _ (findings : List Finding) (journals : List (List Attempt)) (finals : List AttemptId) where
  pub all_stand : (found : List LineStatus) (count : ℕ) → length found ≡ count → ((k : ℕ) → k < count → get_or found k open_standing ≡ decided_from open_standing (closing findings finals 1 journals (k + 1)))
      → found ≡ standings_of findings journals finals count
  all_stand found count size each =
      fill_by_all (λ k. standing_of findings journals finals (k + 1)) found count open_standing size (λ k lt. each k lt ∙ decides_all findings finals 1 journals (k + 1))
      ∙ map_map (standing_of findings journals finals) (λ k. k + 1) (range_with_len 0 count)

  open_lines : (lines : List ℕ) → map (λ (s : LineStatus). is Open s.state) (map (standing_of findings journals finals) lines) ≡ map (is_open findings journals) lines
  open_lines [] = refl
  open_lines (line ∷ lines) =
      ap (λ b. b ∷ map (λ (s : LineStatus). is Open s.state) (map (standing_of findings journals finals) lines)) (open_just findings finals line 1 journals)
      ∙ ap (λ bs. is_open findings journals line ∷ bs) (open_lines lines)

  pub just_open : (found : List LineStatus) (count : ℕ) → found ≡ standings_of findings journals finals count → map (λ (s : LineStatus). is Open s.state) found ≡ map (is_open findings journals) (numbers count)
  just_open found count stand = ap (map (λ (s : LineStatus). is Open s.state)) stand ∙ open_lines (numbers count)
