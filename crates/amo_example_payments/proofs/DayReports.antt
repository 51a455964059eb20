-- The report of a day, piece by piece.
use Rattle.std.proofs.Common.{◌≡◌, ℕ, List, [], ◌++◌, filter, codes, Option, sym, ap, ap₂, ◌∙◌, subst}
use Rattle.std.specs.Io.KnownBytes.{Appends}
use Rattle.std.proofs.KnownBytes.{Appends-trans}
use Rattle.amo_run_log.specs.declared.journal.Attempt.{Attempt}
use Rattle.amo_example_payments.specs.declared.day.Day.{Day}
use Rattle.amo_example_payments.specs.declared.day.payment.Payment.{Payment}
use Rattle.amo_example_payments.specs.declared.restarting.Restart.{Restart}
use Rattle.amo_example_payments.specs.Restarts.{IsParted, was_made, is_in_doubt, is_untried}
use Rattle.amo_io.specs.Streams.{AppendsFront}
use Rattle.amo_example_payments.specs.Reports.{ArePaid, AreTried, TellsNext, TellsPart, IsReport, Reports, ReportsFront, lines_of}
use Rattle.amo_example_payments.proofs.Floors.{none}
use Rattle.amo_example_payments.proofs.Fronts.{nothing, first, next}
use Rattle.amo_example_payments.proofs.Tellings.{each_is_told}

-- what was parted is what the journal says
pub made_of : (day : Day) (journal said : List Attempt) (parts : Restart) (xs : List Payment) → IsParted said day.payments.items parts → said ≡ journal → xs ≡ parts.made.items
    → xs ≡ filter (was_made journal) day.payments.items
made_of day journal said parts xs is same here = here ∙ is.made ∙ ap (λ j. filter (was_made j) day.payments.items) same

pub doubtful_of : (day : Day) (journal said : List Attempt) (parts : Restart) (xs : List Payment) → IsParted said day.payments.items parts → said ≡ journal → xs ≡ parts.in_doubt.items
    → xs ≡ filter (is_in_doubt journal) day.payments.items
doubtful_of day journal said parts xs is same here = here ∙ is.in_doubt ∙ ap (λ j. filter (is_in_doubt j) day.payments.items) same

pub untried_of : (day : Day) (journal said : List Attempt) (parts : Restart) → IsParted said day.payments.items parts → said ≡ journal
    → parts.untried.items ≡ filter (is_untried journal) day.payments.items
untried_of day journal said parts is same = is.untried ∙ ap (λ j. filter (is_untried j) day.payments.items) same

module _ (day : Day) (journal : List Attempt) (made doubtful untried : List Payment) (made_is : made ≡ filter (was_made journal) day.payments.items)
    (doubtful_is : doubtful ≡ filter (is_in_doubt journal) day.payments.items) (untried_is : untried ≡ filter (is_untried journal) day.payments.items) where
  abbrev before_lines : List ℕ
  before_lines = lines_of (codes "before") made

  abbrev doubt_lines : List ℕ
  doubt_lines = lines_of (codes "doubt") doubtful

  abbrev free_lines : List Payment → List ℕ
  free_lines left = lines_of (codes "free") left

  report : (waiting late free left : List Payment) (t u : List ℕ) → ArePaid day.crew untried waiting free t → AreTried free late left u
      → IsReport day journal waiting late (before_lines ++ (doubt_lines ++ (t ++ (u ++ free_lines left))))
  report waiting late free left t u rounds floors = record {
    free = free;
    left = left;
    rounds_text = t;
    floors_text = u;
    rounds = subst (λ l. ArePaid day.crew l waiting free t) untried_is rounds;
    floors = floors;
    text_is = ap₂ (λ m d. lines_of (codes "before") m ++ (lines_of (codes "doubt") d ++ (t ++ (u ++ free_lines left)))) made_is doubtful_is;
  }

  not_begun : ArePaid day.crew untried untried [] []
  not_begun = none _ _ _ untried

  not_tried : (free : List Payment) → AreTried free free [] []
  not_tried free = none _ _ _ free

  -- the list that the rounds gave back is just what they added
  paid_to : (free added : List Payment) (t : List ℕ) → free ≡ added → ArePaid day.crew untried [] added t → ArePaid day.crew untried [] free t
  paid_to free added t same paid = subst (λ l. ArePaid day.crew untried [] l t) (sym same) paid

  tried_to : (free left added : List Payment) (u : List ℕ) → left ≡ added → AreTried free [] added u → AreTried free [] left u
  tried_to free left added u same tried = subst (λ l. AreTried free [] l u) (sym same) tried

  -- an error before anything was written
  pub at_first : (a : Option (List ℕ)) → ReportsFront day journal a a
  at_first a = (untried, [], _, report untried [] [] [] [] [] not_begun (not_tried []), nothing a _)

  -- an error among the first lines
  pub at_before : (a b : Option (List ℕ)) → AppendsFront a b before_lines → ReportsFront day journal a b
  at_before a b h = (untried, [], _, report untried [] [] [] [] [] not_begun (not_tried []), first a b before_lines _ h)

  pub at_doubt : (a b c : Option (List ℕ)) → Appends a b before_lines → AppendsFront b c doubt_lines → ReportsFront day journal a c
  at_doubt a b c h k = (untried, [], _, report untried [] [] [] [] [] not_begun (not_tried []), next a b c before_lines _ h (first b c doubt_lines _ k))

  -- an error among the rounds
  pub at_rounds : (a b c d : Option (List ℕ)) → Appends a b before_lines → Appends b c doubt_lines → TellsPart (ArePaid day.crew) untried c d → ReportsFront day journal a d
  at_rounds a b c d h k p = (p.0, p.1, _, report p.0 p.1 p.1 [] p.2 [] p.3 (not_tried p.1), next a b d before_lines _ h (next b c d doubt_lines _ k (first c d p.2 _ p.4)))

  -- an error among the floors of one worker
  pub at_floors : (free : List Payment) (a b c d e : Option (List ℕ)) → Appends a b before_lines → Appends b c doubt_lines → TellsNext (ArePaid day.crew) untried [] [] free c d
      → TellsPart AreTried free d e → ReportsFront day journal a e
  at_floors free a b c d e h k p q = (
    [],
    q.0,
    _,
    report [] q.0 free q.1 p.1 q.2 (paid_to free p.0 p.1 p.2 p.3) q.3,
    next a b e before_lines _ h (next b c e doubt_lines _ k (next c d e p.1 _ p.4 (first d e q.2 _ q.4))),
  )

  -- an error among the last lines
  pub at_last : (free left : List Payment) (a b c d e f : Option (List ℕ)) → Appends a b before_lines → Appends b c doubt_lines → TellsNext (ArePaid day.crew) untried [] [] free c d
      → TellsNext AreTried free [] [] left d e → AppendsFront e f (free_lines left) → ReportsFront day journal a f
  at_last free left a b c d e f h k p q l = (
    [],
    [],
    _,
    report [] [] free left p.1 q.1 (paid_to free p.0 p.1 p.2 p.3) (tried_to free left q.0 q.1 q.2 q.3),
    next a b f before_lines _ h (next b c f doubt_lines _ k (next c d f p.1 _ p.4 (next d e f q.1 _ q.4 l))),
  )

  -- the whole report
  pub at_end : (free left : List Payment) (a b c d e f : Option (List ℕ)) → Appends a b before_lines → Appends b c doubt_lines → TellsNext (ArePaid day.crew) untried [] [] free c d
      → TellsNext AreTried free [] [] left d e → Appends e f (free_lines left) → Reports day journal a f
  at_end free left a b c d e f h k p q l = let whole = report [] [] free left p.1 q.1 (paid_to free p.0 p.1 p.2 p.3) (tried_to free left q.0 q.1 q.2 q.3) in (
    _,
    whole,
    each_is_told day journal _ whole,
    Appends-trans a b f before_lines _ h (Appends-trans b c f doubt_lines _ k (Appends-trans c d f p.1 _ p.4 (Appends-trans d e f q.1 _ q.4 l))),
  )
