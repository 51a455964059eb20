-- Bytes that are in no entry: the line feed and the semicolon.
use Rattle.std.proofs.Common.{◌≡◌, ◌≢◌, ℕ, ◌^◌, ◌<◌, Bool, true, List, ◌∷◌, ◌++◌, refl, arith}
use Rattle.std.specs.Prelude.{◌==◌, not, codes}
use Rattle.std.specs.Fmt.{decimal}
use Rattle.std.specs.List.{list_all}
use Rattle.amo_run_log.specs.declared.append.Append.{Append}
use Rattle.amo_run_log.specs.declared.append.Append.TheVariants.{One, Two}
use Rattle.amo_run_log.specs.declared.entry.Outcome.{Outcome}
use Rattle.amo_run_log.specs.declared.entry.Outcome.TheVariants.{Done, Doubt, Unbegun, Untouched}
use Rattle.amo_run_log.specs.declared.entry.Entry.{Entry}
use Rattle.amo_run_log.specs.declared.entry.Entry.TheVariants.{Intent, Answer as Answered}
use Rattle.amo_run_log.specs.Entries.{text_of, text_of_answer, text_of_append, Fits, FitsAnswer, FitsAppend}
use Rattle.amo_run_log.proofs.Words.{IsNoDigit, Lacks, lacks_append, lacks_by_test, decimal_without}

-- whether the byte is not in the text
abbrev is_missing : ℕ → List ℕ → Bool
is_missing c text = list_all (λ b. not (b == c)) text

-- the byte is no digit, no blank, and in no word of an entry
record IsForeign (c : ℕ) : Type 0 where
  pub digit : IsNoDigit c
  pub blank : 32 ≢ c
  pub intent : is_missing c (codes "intent ") ≡ true
  pub done : is_missing c (codes "done ") ≡ true
  pub doubt : is_missing c (codes "doubt ") ≡ true
  pub unbegun : is_missing c (codes "unbegun ") ≡ true
  pub untouched : is_missing c (codes "untouched ") ≡ true

line_feed : IsForeign 10
line_feed = record { digit = refl; blank = λ e. omega arith; intent = refl; done = refl; doubt = refl; unbegun = refl; untouched = refl }

semicolon : IsForeign 59
semicolon = record { digit = refl; blank = λ e. omega arith; intent = refl; done = refl; doubt = refl; unbegun = refl; untouched = refl }

module _ (c : ℕ) (foreign : IsForeign c) where
  two_lack : (a b : ℕ) → a < 2 ^ 64 → b < 2 ^ 64 → Lacks c (decimal a ++ 32 ∷ decimal b)
  two_lack a b fa fb = lacks_append c (decimal a) (32 ∷ decimal b) (decimal_without c a foreign.digit fa) (foreign.blank, decimal_without c b foreign.digit fb)

  three_lack : (a b d : ℕ) → a < 2 ^ 64 → b < 2 ^ 64 → d < 2 ^ 64 → Lacks c (decimal a ++ 32 ∷ (decimal b ++ 32 ∷ decimal d))
  three_lack a b d fa fb fd = lacks_append c (decimal a) (32 ∷ (decimal b ++ 32 ∷ decimal d)) (decimal_without c a foreign.digit fa) (foreign.blank, two_lack b d fb fd)

  answer_lacks : (s : ℕ) (a : Outcome) → FitsAnswer s a → Lacks c (text_of_answer s a)
  answer_lacks s (Done d t) f = lacks_append c (codes "done ") (decimal s ++ 32 ∷ (decimal d ++ 32 ∷ decimal t)) (lacks_by_test c (codes "done ") foreign.done) (three_lack s d t f.0 (omega (arith, f.1)) f.2)
  answer_lacks s (Doubt t) f = lacks_append c (codes "doubt ") (decimal s ++ 32 ∷ decimal t) (lacks_by_test c (codes "doubt ") foreign.doubt) (two_lack s t f.0 f.1)
  answer_lacks s Unbegun f = lacks_append c (codes "unbegun ") (decimal s) (lacks_by_test c (codes "unbegun ") foreign.unbegun) (decimal_without c s foreign.digit f)
  answer_lacks s (Untouched d t) f =
      lacks_append c (codes "untouched ") (decimal s ++ 32 ∷ (decimal d ++ 32 ∷ decimal t)) (lacks_by_test c (codes "untouched ") foreign.untouched) (three_lack s d t f.0 (omega (arith, f.1)) f.2)

  entry_lacks : (e : Entry) → Fits e → Lacks c (text_of e)
  entry_lacks (Intent s l t) f = lacks_append c (codes "intent ") (decimal s ++ 32 ∷ (decimal l ++ 32 ∷ decimal t)) (lacks_by_test c (codes "intent ") foreign.intent) (three_lack s l t f.0 f.1 f.2)
  entry_lacks (Answered s a) f = answer_lacks s a f

-- no entry has a semicolon
pub no_semicolon : (e : Entry) → Fits e → Lacks 59 (text_of e)
no_semicolon e f = entry_lacks 59 semicolon e f

-- the text of an append is one line
pub one_line : (a : Append) → FitsAppend a → Lacks 10 (text_of_append a)
one_line (One e) f = entry_lacks 10 line_feed e f
one_line (Two e g) f = lacks_append 10 (text_of e) (59 ∷ 32 ∷ text_of g) (entry_lacks 10 line_feed e f.0) ((λ is. omega arith), ((λ is. omega arith), entry_lacks 10 line_feed g f.1))
