-- The front part of a round's record, as a text: its head, and the lines that are its jobs, in
-- order.
use Rattle.std.specs.Prelude.{◌≡◌, ◌≢◌, ◌<◌, ◌^◌, ℕ, Bool, true, ◌&&◌, ◌==◌, nat_lt, nat_le, List, [], ◌∷◌, ◌++◌, codes, length, map, take, drop, Option, Some, None, option_and_then, option_map, if◌then◌else◌}
use Rattle.std.specs.Fmt.{decimal}
use Rattle.std.specs.List.{AllByRecursion}
use Rattle.std.specs.Str.{bytes_eq}
use Rattle.amo_decimal.specs.Numbers.{number_in}
use Rattle.amo_run_log.specs.Texts.{ended}
use Rattle.amo_run_log.specs.Numbers.{two_in, three_in, read_all}
use Rattle.amo_params.specs.declared.limits.TheConstants.{MAX_JOBS, MAX_WORKERS, MAX_BETA}
use Rattle.amo_run_files.specs.declared.header.RoundHeader.{RoundHeader}
use Rattle.amo_run_files.specs.declared.seats.RoundParams.{RoundParams}

-- a record, with lists for vectors
pub record RecordView : Type 0 where
  pub round : ℕ
  pub boot : List ℕ
  pub givens : RoundParams
  pub workers : ℕ
  pub first : ℕ
  pub lines : List ℕ

-- what a record says
abbrev pub said_by : RoundHeader → RecordView
said_by r = record { round = r.round; boot = r.boot.items; givens = r.givens; workers = r.workers; first = r.first; lines = r.lines.items }

-- the texts of a record, one for each of its lines
abbrev pub texts_of : RecordView → List (List ℕ)
texts_of r =
    codes "amo-run 2" ∷ ((codes "round " ++ decimal r.round) ∷ ((codes "boot " ++ r.boot)
    ∷ ((codes "givens " ++ (decimal r.givens.jobs ++ (codes " " ++ (decimal r.givens.workers ++ (codes " " ++ decimal r.givens.beta)))))
    ∷ ((codes "workers " ++ (decimal r.workers ++ (codes " " ++ decimal r.first))) ∷ map decimal r.lines))))

-- the text of a record
abbrev pub text_of_record : RecordView → List ℕ
text_of_record r = ended (texts_of r)

-- each is greater than the one before it, and the first than this
abbrev pub ascends_from : ℕ → List ℕ → Bool
ascends_from low [] = true
ascends_from low (line ∷ lines) = nat_lt low line && ascends_from line lines

-- there are as many jobs as lines, at most `MAX_JOBS`, each of another line than those before; they
-- are shared by at least one of at most `MAX_WORKERS` workers, who stop at a threshold of at least
-- their number and at most `MAX_BETA`; and one of them was the first
abbrev pub is_sound : RecordView → Bool
is_sound r =
    ((r.givens.jobs == length r.lines) && (nat_le r.givens.jobs MAX_JOBS && ascends_from 0 r.lines))
    && ((nat_le 1 r.givens.workers && (nat_le r.givens.workers r.workers && nat_le r.workers MAX_WORKERS))
    && ((nat_le r.givens.workers r.givens.beta && nat_le r.givens.beta MAX_BETA) && (nat_le 1 r.first && nat_le r.first r.workers)))

-- it is sound, its numbers have 64 bits, and the boot id is one line
pub record IsRecord (r : RecordView) : Type 0 where
  pub sound : is_sound r ≡ true
  pub round : r.round < 2 ^ 64
  pub lines : AllByRecursion (λ line. line < 2 ^ 64) r.lines
  pub boot : AllByRecursion (λ b. b ≢ 10) r.boot

-- the texts of a file in which each ends by a line feed; with what was read of the first one
abbrev pub texts_from : List ℕ → List ℕ → Option (List (List ℕ))
texts_from [] [] = Some []
texts_from [] (b ∷ begun) = None
texts_from (b ∷ bs) begun = if b == 10 then option_map (λ texts. begun ∷ texts) (texts_from bs []) else texts_from bs (begun ++ b ∷ [])

-- the bytes after this label
abbrev pub labelled : List ℕ → List ℕ → Option (List ℕ)
labelled label text = if bytes_eq (take (length label) text) label then Some (drop (length label) text) else None

-- the round, the givens, the workers, and the first of them
abbrev pub head_in : List ℕ → List ℕ → List ℕ → Option (ℕ × RoundParams × ℕ × ℕ)
head_in round givens workers =
    option_and_then (λ r. option_and_then (λ g. option_and_then (λ w. Some (r, record { jobs = g.0; workers = g.1; beta = g.2 }, w.0, w.1))
    (option_and_then two_in (labelled (codes "workers ") workers)))
    (option_and_then three_in (labelled (codes "givens ") givens)))
    (option_and_then number_in (labelled (codes "round ") round))

-- the record, if it is sound
abbrev pub if_sound : RecordView → Option RecordView
if_sound r = if is_sound r then Some r else None

-- the record that these texts say, after the text of the version
abbrev pub record_behind : List ℕ → List ℕ → List ℕ → List ℕ → List (List ℕ) → Option RecordView
record_behind round boot givens workers lines =
    option_and_then (λ h. option_and_then (λ b. option_and_then (λ ls. if_sound (record { round = h.0; boot = b; givens = h.1; workers = h.2; first = h.3; lines = ls }))
    (read_all number_in lines)) (labelled (codes "boot ") boot)) (head_in round givens workers)

-- the record that texts say
abbrev pub record_of : List (List ℕ) → Option RecordView
record_of [] = None
record_of (version ∷ []) = None
record_of (version ∷ round ∷ []) = None
record_of (version ∷ round ∷ boot ∷ []) = None
record_of (version ∷ round ∷ boot ∷ givens ∷ []) = None
record_of (version ∷ round ∷ boot ∷ givens ∷ workers ∷ lines) = if bytes_eq version (codes "amo-run 2") then record_behind round boot givens workers lines else None
