-- Facts about a command stay true if settled attempts stay settled and the command keeps its locks.
use Rattle.std.proofs.Common.{◌≡◌, ◌-◌, ℕ, suc, List, Some}
use Rattle.std.specs.Prelude.{slice_get}
use Rattle.amo_safety_by_journals.specs.Model.{Site, line_of}
use Rattle.amo_run_log.specs.declared.finding.Finding.{Finding}
use Rattle.amo_status.specs.declared.state.AttemptId.{AttemptId}
use Rattle.amo_operator.specs.Phase.{Known, Texts, Phase, Enters, Guards, Checked, HasHeader, Reads, Checks, Settles, Looks, Behind, Pends, Idles, Rests, Probes, Finds, Dates, Records, Reports, Prints, Waits, Puts, Ended}
use Rattle.amo_program_safety.specs.Machine.{Machine}
use Rattle.amo_program_safety.proofs.Standing.{Settled}
use Rattle.amo_program_safety.proofs.Ordering.{TextsHold, HasIdle, KnownHold, HasOne, HasAll, LooksHold, LooksAt, StandsAt}

module _ (m m' : Machine) (v v' : Site) (pid : ℕ)
    (settled : (q s : ℕ) → Settled v q s → Settled v' q s)
    (kept : (q s line : ℕ) → line_of (v.kept q) s ≡ Some line → line_of (v'.kept q) s ≡ Some line)
    (held : (q : ℕ) → m.held q ≡ Some pid → m'.held q ≡ Some pid) where
  pub texts_still : (t : Texts) → TextsHold v t → TextsHold v' t
  texts_still t h k texts is text s c one says = settled (suc k) s (h k texts is text s c one says)

  pub idle_still : (t : Texts) → HasIdle m v pid t → HasIdle m' v' pid t
  idle_still t h q one =
      let was = h q one in
      (was.0, held q was.1, λ (texts : List (List ℕ)) (is : slice_get t.journals (q - 1) ≡ Some texts) (s line : ℕ) at. kept q s line (was.2 texts is s line at))

  pub known_still : (k : Known) → KnownHold v k → KnownHold v' k
  known_still k h = record {
    answered = λ j es is i e c at says. settled (suc j) (suc i) (h.answered j es is i e c at says);
    finals = λ i one. settled i.worker i.serial (h.finals i one);
  }

  pub one_still : (i : AttemptId) → HasOne m v pid i → HasOne m' v' pid i
  one_still i h = (h.0, held i.worker h.1, settled i.worker i.serial h.2)

  pub all_still : (is : List AttemptId) → HasAll m v pid is → HasAll m' v' pid is
  all_still is h i one = one_still i (h i one)

  pub looks_still : (t : Texts) (left : List ℕ) (k : ℕ) → LooksHold m v pid t left k → LooksHold m' v' pid t left k
  looks_still t left k h = record { texts = texts_still t h.texts; idle = idle_still t h.idle; from = h.from; low = h.low; before = h.before }

  pub look_still : (t : Texts) (w : ℕ) (left : List ℕ) → LooksAt m v pid t w left → LooksAt m' v' pid t w left
  look_still t w left h = record { looks = looks_still t left (suc w) h.looks; low = h.low; held = held w h.held; before = h.before }

  pub stands_so : (ph : Phase) → StandsAt m v pid ph → StandsAt m' v' pid ph
  stands_so (Enters command tried) h = tt
  stands_so (Guards command) h = tt
  stands_so (Checked command) h = tt
  stands_so (HasHeader command last) h = tt
  stands_so (Reads command last t left) h = (texts_still t h.0, h.1, h.2)
  stands_so (Checks command last t) h = (texts_still t h.0, h.1)
  stands_so (Settles command last t) h = (texts_still t h.0, h.1)
  stands_so (Looks command last t left) h = (h.0, looks_still t left h.0 h.1)
  stands_so (Behind command last t w left) h = look_still t w left h
  stands_so (Pends command last t w left) h = look_still t w left h
  stands_so (Idles command last t w left) h = look_still t w left h
  stands_so (Rests command last t w left) h = look_still t w left h
  stands_so (Probes command k left) h = (known_still k h.0, all_still left h.1)
  stands_so (Finds command k i left) h = (known_still k h.0, one_still i h.1, all_still left h.2)
  stands_so (Dates command k i time left) h = (known_still k h.0, one_still i h.1, all_still left h.2)
  stands_so (Records command k i left) h = (known_still k h.0, all_still left h.1)
  stands_so (Reports text) h = tt
  stands_so (Prints text) h = tt
  stands_so (Waits command) h = tt
  stands_so (Puts left) h = λ (f : Finding) one not. settled f.worker f.serial (h f one not)
  stands_so Ended h = tt

-- The facts of a command's phase stay true if settled attempts, kept intents and the command's
-- locks stay.
pub stands_still : (m m' : Machine) (v v' : Site) (pid : ℕ) (ph : Phase) → ((q s : ℕ) → Settled v q s → Settled v' q s)
    → ((q s line : ℕ) → line_of (v.kept q) s ≡ Some line → line_of (v'.kept q) s ≡ Some line) → ((q : ℕ) → m.held q ≡ Some pid → m'.held q ≡ Some pid)
    → StandsAt m v pid ph → StandsAt m' v' pid ph
stands_still m m' v v' pid ph settled kept held h = stands_so m m' v v' pid settled kept held ph h
