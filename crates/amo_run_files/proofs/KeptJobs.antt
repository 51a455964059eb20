-- The copy of the job list that a run keeps.
use Rattle.std.proofs.Common.{◌≡◌, ℕ, zero, suc, ◌-◌, ◌<◌, ◌≤◌, Bool, false, List, [], ◌++◌, length, get_or, take, Some, None, sym, ap, subst, ◌∙◌, arith, append-nil}
use Rattle.std.proofs.lemmas.Option.{slice_get-get_or, slice_get_past}
use Rattle.amo_run_log.specs.Texts.{ended}
use Rattle.amo_run_files.specs.Jobs.{line_of, AreJobs, AreKept}
use Rattle.amo_run_files.specs.Lines.{lines_in, remainder_in, ends_of}
use Rattle.amo_run_files.specs.Refusals.{MayStand, IsTaken, why_remainder}
use Rattle.amo_run_files.proofs.Cuts.{whole, front_is, front_lines, lacking}
use Rattle.amo_run_files.proofs.Refusals.{stands, remainder_none, no_remainder, jobs_are}

pub front_from : (file : List ℕ) (n : ℕ) → n ≡ length (ended (lines_in file)) → take n file ≡ ended (lines_in file)
front_from file n is = ap (λ (k : ℕ). take k file) is ∙ front_is file

pub view_is : (file : List ℕ) (n : ℕ) → n ≡ length (ended (lines_in file)) → lines_in (take n file) ≡ lines_in file
view_is file n is = ap lines_in (front_from file n is) ∙ (front_lines file).0

pub kept : (file ends : List ℕ) (n : ℕ) → ends ≡ ends_of 0 (lines_in file) → MayStand (lines_in file) → n ≡ length (ended (lines_in file)) → AreKept (take n file) ends
kept file ends n are stand is =
    let same = view_is file n is in
    record {
      ends = are ∙ ap (ends_of 0) (sym same);
      whole = ap remainder_in (front_from file n is) ∙ (front_lines file).1;
      stand = subst (λ (ls : List (List ℕ)). MayStand ls) (sym same) stand;
    }

pub bytes_are : (bytes : List ℕ) → remainder_in bytes ≡ [] → bytes ≡ ended (lines_in bytes)
bytes_are bytes none = sym (whole bytes) ∙ ap (λ (r : List ℕ). ended (lines_in bytes) ++ r) none ∙ append-nil (ended (lines_in bytes))

-- what is known of jobs that were read: n bytes of the file were kept
pub record AreRead (file : List ℕ) (cut : Bool) (bytes places : List ℕ) : Type 0 where
  pub kept : AreKept bytes places
  pub lines : lines_in bytes ≡ lines_in file
  pub whole : cut ≡ false → ended (lines_in file) ≡ file
  pub jobs : AreJobs (lines_in file)

pub are_read : (file : List ℕ) (cut : Bool) (bytes ends : List ℕ) (n : ℕ) → ends ≡ ends_of 0 (lines_in file) → IsTaken file cut → n ≡ length (ended (lines_in file)) → bytes ≡ take n file → AreRead file cut bytes ends
are_read file cut bytes ends n are taken is cuts =
    let stand : MayStand (lines_in file) = stands file cut taken in
    record {
      kept = subst (λ (bs : List ℕ). AreKept bs ends) (sym cuts) (kept file ends n are stand is);
      lines = ap lines_in cuts ∙ view_is file n is;
      whole = λ uncut. sym (bytes_are file (no_remainder (lines_in file) (remainder_in file) (ap (why_remainder (lines_in file) (remainder_in file)) (sym uncut) ∙ remainder_none file cut taken)));
      jobs = jobs_are (lines_in file) stand (lacking file).0;
    }

-- a line by its number
pub line_is : (lines : List (List ℕ)) (number : ℕ) (line : List ℕ) → 0 < number → number ≤ length lines → line ≡ get_or lines (number - 1) [] → Some line ≡ line_of lines number
line_is lines zero line some le is = absurd (omega arith)
line_is lines (suc i) line some le is =
    let same : suc i - 1 ≡ i = omega arith in
    ap Some (is ∙ ap (λ (k : ℕ). get_or lines k []) same) ∙ sym (slice_get-get_or lines i [] (omega arith))

pub no_line_0 : (lines : List (List ℕ)) (number : ℕ) → number ≡ 0 → None ≡ line_of lines number
no_line_0 lines number is = ap (line_of lines) (sym is)

pub no_line_past : (lines : List (List ℕ)) (number : ℕ) → length lines < number → None ≡ line_of lines number
no_line_past lines zero past = absurd (omega arith)
no_line_past lines (suc i) past = sym (slice_get_past lines i (omega arith))
