-- The serial numbers of a journal's intents count on without a gap: by the number of those that
-- there are.
use Rattle.std.proofs.Common.{◌≡◌, ℕ, zero, suc, ◌+◌, ◌<◌, ◌≤◌, Bool, true, false, List, [], ◌∷◌, ◌++◌, length, Option, Some, None, refl, sym, ap, ◌∙◌, subst, arith}
use Rattle.std.specs.List.{AllByRecursion}
use Rattle.std.specs.Prelude.{⊤, is_none, option_map, ◌==◌, ◌&&◌, if◌then◌else◌}
use Rattle.std.proofs.lemmas.Bool.{true≢false}
use Rattle.std.proofs.lemmas.Option.{none-some, same_Some, cond_some, option_and_then_some}
use Rattle.std.proofs.lemmas.List.{length_push}
use Rattle.amo_sets.specs.Lists.{numbered}
use Rattle.amo_process.specs.Stepped.{ProcessView, process_after}
use Rattle.amo_driver.specs.declared.answer.JobResult.{JobResult}
use Rattle.amo_driver.specs.declared.answer.Reply.{Reply}
use Rattle.amo_driver.specs.declared.answer.Reply.TheVariants.{Answered, Running, Garbled, Closed}
use Rattle.amo_driver.specs.declared.answer.Way.{Way}
use Rattle.amo_driver.specs.declared.model.Deed.{Deed}
use Rattle.amo_driver.specs.declared.model.Deed.TheVariants.{Loaded, Stored, Found, Intended, Cleared, Performed, Noted, Asked, Fell}
use Rattle.amo_driver.specs.declared.model.Try.TheVariants.{Intend}
use Rattle.amo_driver.specs.Stage.{Stage, Going, Finding, Intending, Clearing, Performing, Noting, Leaving, Asking, Settling, Unanswered}
use Rattle.amo_driver.specs.Course.{try_of, due, stage_told, stage_replied, stage_after}
use Rattle.amo_driver_safety.proofs.Stages.{intending_at}
use Rattle.amo_run_log.specs.declared.entry.Outcome.{Outcome as NotedAnswer}
use Rattle.amo_run_log.specs.declared.entry.Entry.{Entry}
use Rattle.amo_run_log.specs.declared.entry.Entry.TheVariants.{Intent as IntentOf, Answer as AnswerTo}
use Rattle.amo_run_log.specs.declared.journal.Attempt.{Attempt}
use Rattle.amo_run_log.specs.Grammar.{intent_in, intents}
use Rattle.amo_run_log.specs.Open.{IsAnswer}
use Rattle.amo_run_log.specs.Journals.{answered, is_line, noted, journal_from, journal_of}
use Rattle.amo_run_safety.proofs.Files.{Grows}
use Rattle.amo_run_safety.proofs.Stages.{by_value, is_performing, any_then, entries_of_deed}

-- how many there are

pub intents-append : (xs ys : List Entry) → intents (xs ++ ys) ≡ intents xs + intents ys
intents-append [] ys = omega arith
intents-append (x ∷ xs) ys = let rest = intents-append xs ys in omega (arith, rest)

-- answers have no intent among them
pub no_intents : (xs : List Entry) → AllByRecursion IsAnswer xs → intents xs ≡ 0
no_intents [] h = refl
no_intents (IntentOf n line time ∷ xs) h = absurd h.0
no_intents (AnswerTo n a ∷ xs) h = ap (λ k. 0 + k) (no_intents xs h.1)

pub intents_grow : (old new : List Entry) → Grows old new → intents old ≤ intents new
intents_grow old new grows = let both = ap intents grows.1 ∙ intents-append old grows.0 in omega (arith, both)

answered_size : (es : List Attempt) (i : ℕ) (a : NotedAnswer) (next : List Attempt) → answered es i a ≡ Some next → length next ≡ length es
answered_size [] i a next h = absurd (none-some next h)
answered_size (e ∷ es) zero a next h = ap length (sym (cond_some (is_none e.answer) (record e { answer = Some a } ∷ es) next h).1)
answered_size (e ∷ es) (suc i) a next h = by (answered es i a) h (answered_size es i a)
  where
    by : (o : Option (List Attempt)) → option_map (λ rest. e ∷ rest) o ≡ Some next → ((rest : List Attempt) → o ≡ Some rest → length rest ≡ length es) → length next ≡ length (e ∷ es)
    by None h size = absurd (none-some next h)
    by (Some rest) h size = ap length (sym (same_Some (e ∷ rest) next h)) ∙ ap suc (size rest refl)

noted_size : (lines : ℕ) (es : List Attempt) (x : Entry) (next : List Attempt) → noted lines es x ≡ Some next → length next ≡ intent_in x + length es
noted_size lines es (IntentOf n line time) next h =
    let at = cond_some ((n == length es + 1) && is_line lines line) (es ++ record { line = line; time = time; answer = None } ∷ []) next h in
    let pushed = length_push es (record { line = line; time = time; answer = None }) in
    let same = ap length (sym at.1) in
    omega (arith, pushed, same)
noted_size lines es (AnswerTo zero a) next h = absurd (none-some next h)
noted_size lines es (AnswerTo (suc i) a) next h = let same = answered_size es i a next h in omega (arith, same)

journal_size : (lines : ℕ) (es : List Attempt) (xs : List Entry) (next : List Attempt) → journal_from lines es xs ≡ Some next → length next ≡ intents xs + length es
journal_size lines es [] next h = let same = ap length (same_Some es next h) in omega (arith, same)
journal_size lines es (x ∷ xs) next h = option_and_then_some (λ mid. journal_from lines mid xs) (noted lines es x) next h
    (λ mid is rest. let one = noted_size lines es x mid is in let more = journal_size lines mid xs next rest in omega (arith, one, more))

pub size_is : (lines : ℕ) (xs : List Entry) (es : List Attempt) → journal_of lines xs ≡ Some es → length es ≡ intents xs
size_is lines xs es h = let size = journal_size lines [] xs es h in omega (arith, size)

-- In a round the next serial number is one more than there are intents, and that of the intent that
-- is being dealt with is their number. There nobody asks for what former processes have left.
abbrev pub IsCounted : ℕ → Stage → Type 0
IsCounted k (Going n a way) = n ≡ k + 1
IsCounted k (Finding n a j) = n ≡ k + 1
IsCounted k (Intending n a j) = n ≡ k + 1
IsCounted k (Clearing n a j) = n ≡ k
IsCounted k (Performing n a j) = n ≡ k
IsCounted k (Noting n a c way) = n ≡ k
IsCounted k (Asking intents) = ⊥
IsCounted k (Settling n c way rest) = ⊥
IsCounted k s = ⊤

module _ (k : ℕ) where
  told_counted : (w v n : ℕ) → n ≡ k + 1 → (way : Way) (a : ProcessView) → IsCounted k (stage_told w v n way a)
  told_counted w v n h way a = by_value (IsCounted k) n a (λ x. h) (λ j. h) (λ j. h) tt w v tt way

  replied_counted : (n : ℕ) → n ≡ k → (a : ProcessView) (reply : Reply) → IsCounted k (stage_replied n a reply)
  replied_counted n h a (Answered m c way) = by (m == n)
    where
      by : (b : Bool) → IsCounted k (if b then Noting n a c way else Unanswered n (Answered m c way))
      by true = h
      by false = tt
  replied_counted n h a (Running m way) = by (m == n)
    where
      by : (b : Bool) → IsCounted k (if b then Going (n + 1) a way else Unanswered n (Running m way))
      by true = ap (λ x. x + 1) h
      by false = tt
  replied_counted n h a Garbled = tt
  replied_counted n h a Closed = tt

  loaded_counted : (s : Stage) (w v : ℕ) → IsCounted k s → IsCounted k (stage_after s (Loaded w v))
  loaded_counted (Going n a way) w v h = told_counted w v n h way (process_after a v)
  loaded_counted s w v h = h

  stored_counted : (s : Stage) (w v : ℕ) → IsCounted k s → IsCounted k (stage_after s (Stored w v))
  stored_counted (Going n a way) w v h = told_counted w v n h way (process_after a 0)
  stored_counted (Leaving a) w v h = tt
  stored_counted s w v h = h

  found_counted : (s : Stage) (j : ℕ) → IsCounted k s → IsCounted k (stage_after s (Found j))
  found_counted (Finding n a i) j h = h
  found_counted s j h = h

  cleared_counted : (s : Stage) (n j : ℕ) (clear : Bool) → IsCounted k s → IsCounted k (stage_after s (Cleared n j clear))
  cleared_counted (Clearing m a i) n j true h = h
  cleared_counted (Clearing m a i) n j false h = h
  cleared_counted s n j clear h = h

  performed_counted : (s : Stage) (n j : ℕ) (reply : Reply) → IsCounted k s → IsCounted k (stage_after s (Performed n j reply))
  performed_counted (Performing m a i) n j reply h = replied_counted m h a reply
  performed_counted s n j reply h = h

  noted_counted : (s : Stage) (n : ℕ) (c : JobResult) → IsCounted k s → IsCounted k (stage_after s (Noted n c))
  noted_counted (Noting m a x way) n c h = ap (λ x. x + 1) h
  noted_counted (Settling m x way rest) n c h = absurd h
  noted_counted s n c h = h

  asked_for_counted : (s : Stage) (n line : ℕ) (reply : Reply) → IsCounted k s → IsCounted k (stage_after s (Asked n line reply))
  asked_for_counted (Asking intents) n line reply h = absurd h
  asked_for_counted s n line reply h = h

module _ (k : ℕ) where
  pub quiet : (s : Stage) → IsCounted k s → IsCounted (k + 0) s
  quiet s h = let same : k ≡ k + 0 = omega arith in subst (λ x. IsCounted x s) same h

  intended_counted : (s : Stage) (n j : ℕ) → due s ≡ Some (Intend n j) → IsCounted k s → IsCounted (k + 1) (stage_after s (Intended n j))
  intended_counted s n j e h =
      let at = intending_at s n j e in
      let was : IsCounted k (Intending n at.0 j) = subst (IsCounted k) at.1 h in
      subst (λ x. IsCounted (k + 1) (stage_after x (Intended n j))) (sym at.1) was

  -- the same once a deed that was due is done
  pub counted_then : (owed : List Entry) → AllByRecursion IsAnswer owed → (lines : List ℕ) (time : ℕ) (s : Stage) (d : Deed) → due s ≡ Some (try_of d) → IsCounted k s
      → IsCounted (k + intents (entries_of_deed owed lines time d)) (stage_after s d)
  counted_then owed answers lines time s (Loaded w v) e h = quiet (stage_after s (Loaded w v)) (loaded_counted k s w v h)
  counted_then owed answers lines time s (Stored w v) e h = quiet (stage_after s (Stored w v)) (stored_counted k s w v h)
  counted_then owed answers lines time s (Found j) e h = quiet (stage_after s (Found j)) (found_counted k s j h)
  counted_then owed answers lines time s (Intended n j) e h =
      let intent = IntentOf n (numbered 0 lines j) time ∷ [] in
      let one : intents (owed ++ intent) ≡ 1 = intents-append owed intent ∙ ap (λ x. x + intents intent) (no_intents owed answers) in
      subst (λ x. IsCounted (k + x) (stage_after s (Intended n j))) (sym one) (intended_counted s n j e h)
  counted_then owed answers lines time s (Cleared n j clear) e h = quiet (stage_after s (Cleared n j clear)) (cleared_counted k s n j clear h)
  counted_then owed answers lines time s (Performed n j reply) e h = quiet (stage_after s (Performed n j reply)) (performed_counted k s n j reply h)
  counted_then owed answers lines time s (Noted n c) e h = quiet (stage_after s (Noted n c)) (noted_counted k s n c h)
  counted_then owed answers lines time s (Asked n line reply) e h = quiet (stage_after s (Asked n line reply)) (asked_for_counted k s n line reply h)
  counted_then owed answers lines time s (Fell t) e h = tt

  pub counted_grown : (xs : List Entry) (s : Stage) → IsCounted (k + intents xs) s → (ys : List Entry) → intents ys ≡ k → IsCounted (intents (ys ++ xs)) s
  counted_grown xs s h ys is = subst (λ x. IsCounted x s) (ap (λ x. x + intents xs) (sym is) ∙ sym (intents-append ys xs)) h

-- The next intent that is handed over, or of which it is asked whether it may be, has a greater
-- number than this one.
abbrev pub IsBehind : ℕ → Stage → Type 0
IsBehind m (Clearing n a j) = m < n
IsBehind m (Performing n a j) = m < n
IsBehind m s = ⊤

pub behind_unless : (m : ℕ) (s : Stage) → is_performing s ≡ false → IsBehind m s
behind_unless m (Clearing n a j) h = absurd (true≢false h)
behind_unless m (Performing n a j) h = absurd (true≢false h)
behind_unless m s h = tt

-- if the numbers of all intents so far are at most k
pub behind_then : (m k : ℕ) → m ≤ k → (s : Stage) (d : Deed) → due s ≡ Some (try_of d) → IsCounted k s → IsBehind m s → IsBehind m (stage_after s d)
behind_then m k few s d e counted h = any_then (IsBehind m) (IsBehind m) (behind_unless m) (λ x y. y) (λ n a j y. y) s d
    (λ n j is.
    let at = intending_at s n j (e ∙ ap (λ x. Some (try_of x)) is) in
    let was : n ≡ k + 1 = subst (IsCounted k) at.1 counted in
    let later : m < n = omega (arith, was, few) in
    subst (λ x. IsBehind m (stage_after s x)) (sym is) (subst (λ x. IsBehind m (stage_after x (Intended n j))) (sym at.1) later))
    h
