-- The lines of a run, and how they stand.
use Rattle.std.proofs.Common.{◌≡◌, ℕ, zero, suc, ◌+◌, ◌<◌, List, [], ◌∷◌, ◌++◌, drop, length, map, Option, None, Some, sym, ap, subst, ◌∙◌, append_assoc, arith}
use Rattle.std.proofs.lemmas.List.{length-map, map_push}
use Rattle.std.proofs.lemmas.List.FromFn.{length-map-range_with_len}
use Rattle.std.specs.Option.{unwrap_or}
use Rattle.std.specs.Prelude.{option_map}
use Rattle.amo_run_files.specs.Jobs.{line_of}
use Rattle.amo_run_log.specs.Open.{numbers}
use Rattle.amo_run_log.specs.declared.finding.Finding.{Finding}
use Rattle.amo_run_log.specs.declared.journal.Attempt.{Attempt}
use Rattle.amo_status.specs.declared.state.AttemptId.{AttemptId}
use Rattle.amo_status.specs.Standings.{standing_of, standings_of}

-- each line stands somewhere
pub as_many : (fs : List Finding) (js : List (List Attempt)) (finals : List AttemptId) (n : ℕ) → length (standings_of fs js finals n) ≡ n
as_many fs js finals n = length-map (numbers n) (standing_of fs js finals) ∙ length-map-range_with_len (λ k. k + 1) 0 n

-- the lines from place k on begin with the line of number k + 1
from_place : (lines : List (List ℕ)) (k : ℕ) (line : List ℕ) → Some line ≡ line_of lines (suc k) → drop k lines ≡ line ∷ drop (suc k) lines
from_place [] k line is = absurd (cc)
from_place (x ∷ xs) zero line is = let same : line ≡ x = cc in ap (λ (l : List ℕ). l ∷ xs) (sym same)
from_place (x ∷ xs) (suc k) line is = from_place xs k line is

-- there is such a line
there : (lines : List (List ℕ)) (k : ℕ) → k < length lines → None ≡ line_of lines (suc k) → ⊥
there [] k few is = omega (arith, few)
there (x ∷ xs) zero few is = cc
there (x ∷ xs) (suc k) few is = there xs k (omega (arith, few)) is

module _ {R : Type 0} (now : R → List ℕ) (lines : List (List ℕ)) (k n : ℕ) (next : n ≡ suc k) (few : k < length lines) (ts : List R) (so_far : lines ≡ map now ts ++ drop k lines) where
  -- with the line of number k + 1 there are k + 1
  pub one_more : (o : Option R) (d : R) → option_map now o ≡ line_of lines n → lines ≡ map now (ts ++ unwrap_or o d ∷ []) ++ drop n lines
  one_more o d is = subst (λ (m : ℕ). lines ≡ map now (ts ++ unwrap_or o d ∷ []) ++ drop m lines) (sym next) (by_line o (is ∙ ap (line_of lines) next))
    where
      by_line : (o : Option R) → option_map now o ≡ line_of lines (suc k) → lines ≡ map now (ts ++ unwrap_or o d ∷ []) ++ drop (suc k) lines
      by_line None at = absurd (there lines k few at)
      by_line (Some r) at =
          so_far ∙ ap (λ ls. map now ts ++ ls) (from_place lines k (now r) at) ∙ sym (append_assoc (map now ts) (now r ∷ []) (drop (suc k) lines))
          ∙ ap (λ ls. ls ++ drop (suc k) lines) (sym (map_push now ts r))
