-- Each payment of a day has a line in its report.
use Rattle.std.proofs.Common.{◌≡◌, inl, inr, ℕ, zero, suc, ◌+◌, ◌-◌, ◌<◌, Bool, true, false, cond, not, eqb, ◌&&◌, ◌||◌, List, [], ◌∷◌, ◌++◌, length, filter, get_or, Option, None, Some, slice_get, option_map, refl, sym, ap, ap₂, ◌∙◌, subst, arith, append-nil, codes}
use Rattle.std.specs.Prelude.{All}
use Rattle.std.specs.List.{flat_map, enumerate_from}
use Rattle.std.proofs.lemmas.Bool.{true≢false, eqb-true}
use Rattle.std.proofs.lemmas.List.{get_or_append_left, get_or-append-add, length-append}
use Rattle.std.proofs.lemmas.List.Elements.{All-nil, All-head, All-tail, All-append, All-weaker}
use Rattle.std.proofs.lemmas.Option.{slice_get-get_or, slice_get-map}
use Rattle.amo_sets.specs.Sets.{has}
use Rattle.amo_mailbox.specs.declared.output.Output.{Output}
use Rattle.amo_crew.specs.Outcomes.{jobs_of}
use Rattle.amo_crew.specs.Running.{IsRelated}
use Rattle.amo_example_payments.specs.declared.day.Day.{Day}
use Rattle.amo_example_payments.specs.declared.day.payment.Payment.{Payment}
use Rattle.amo_run_log.specs.declared.journal.Attempt.{Attempt}
use Rattle.amo_example_payments.specs.declared.bank.BankReply.{BankReply}
use Rattle.amo_example_payments.specs.declared.bank.BankReply.TheVariants.{Paid, Unpaid}
use Rattle.amo_example_payments.specs.declared.second.Leftover.{Leftover}
use Rattle.amo_example_payments.specs.declared.sorting.Sorted.{Sorted}
use Rattle.amo_example_payments.specs.declared.rounds.Crew.{Crew}
use Rattle.amo_example_payments.specs.Payments.{Answers}
use Rattle.amo_example_payments.specs.Lines.{line}
use Rattle.amo_example_payments.specs.Days.{is_ended}
use Rattle.amo_example_payments.specs.Restarts.{has_intent, has_receipt, was_made, is_in_doubt, is_untried}
use Rattle.amo_example_payments.specs.Sorting.{is_paid, has_receipt_of, has_job, ids_of, IsOneOf, IsOwn, IsNumberOf}
use Rattle.amo_example_payments.specs.Rounds.{IsRound}
use Rattle.amo_example_payments.specs.Second.{IsLeftover}
use Rattle.amo_example_payments.specs.Reports.{AreFloors, HasLine, IsTold, IsReport, answer_line, answer_lines, done_line, done_lines, doubt_lines, round_text, leftover_text, payments_of, lines_of}
use Rattle.amo_example_payments.proofs.HasLines.{ended_line, ended_append, ended_flat, line_here, line_after, each_line, told_before, told_after}

-- ---- parts of lists

All-left : {X : Type 0} (P : X → Type 0) (xs ys : List X) → All P (xs ++ ys) → All P xs
All-left P xs ys h k d within = let size = length-append xs ys in subst P (get_or_append_left xs ys d k within) (h k d (omega (arith, within, size)))

All-right : {X : Type 0} (P : X → Type 0) (xs ys : List X) → All P (xs ++ ys) → All P ys
All-right P xs ys h k d within = let size = length-append xs ys in subst P (get_or-append-add xs ys k d) (h (length xs + k) d (omega (arith, within, size)))

-- who passes is among those that pass
of_filtered : {X : Type 0} (P : X → Type 0) (f : X → Bool) (xs : List X) → All P (filter f xs) → (k : ℕ) (d : X) → k < length xs → f (get_or xs k d) ≡ true → P (get_or xs k d)
of_filtered P f [] h k d within passes = absurd (omega (arith, within))
of_filtered {X} P f (x ∷ xs) h zero d within passes = All-head P x (filter f xs) (subst (λ b. All P (cond b (x ∷ filter f xs) (filter f xs))) passes h)
of_filtered {X} P f (x ∷ xs) h (suc k) d within passes = of_filtered P f xs (go (f x) h) k d (omega (arith, within)) passes
  where
    go : (b : Bool) → All P (cond b (x ∷ filter f xs) (filter f xs)) → All P (filter f xs)
    go true a = All-tail P x (filter f xs) a
    go false a = a

-- who comes back with a job that passes
of_free : (Q : Payment → Type 0) (f : ℕ → Bool) (i : ℕ) (xs : List Payment) → All Q (payments_of (filter (λ t. f t.0) (enumerate_from i xs))) → (k : ℕ) (d : Payment) → k < length xs → f (i + k) ≡ true → Q (get_or xs k d)
of_free Q f i [] h k d within passes = absurd (omega (arith, within))
of_free Q f i (x ∷ xs) h zero d within passes =
    let same : i + 0 ≡ i = omega arith in
    All-head Q x (payments_of rest) (subst (λ b. All Q (payments_of (cond b ((i, x) ∷ rest) rest))) (ap f (sym same) ∙ passes) h)
  where
    rest : List (ℕ × Payment)
    rest = filter (λ t. f t.0) (enumerate_from (i + 1) xs)
of_free Q f i (x ∷ xs) h (suc k) d within passes =
    let same : i + 1 + k ≡ i + suc k = omega arith in
    of_free Q f (i + 1) xs (go (f i) h) k d (omega (arith, within)) (ap f same ∙ passes)
  where
    rest : List (ℕ × Payment)
    rest = filter (λ t. f t.0) (enumerate_from (i + 1) xs)

    go : (b : Bool) → All Q (payments_of (cond b ((i, x) ∷ rest) rest)) → All Q (payments_of rest)
    go true a = All-tail Q x (payments_of rest) a
    go false a = a

abbrev some_in : {X : Type 0} → X → Option X → X
some_in d None = d
some_in d (Some x) = x

same_some : {X : Type 0} (o : Option X) (x y : X) → o ≡ Some x → o ≡ Some y → y ≡ x
same_some o x y e f = ap (some_in x) (sym f ∙ e)

-- ---- the lines of an answer have their end

ended_done : (x : Output BankReply) → is_ended (done_line x.out) ≡ true
ended_done x = go x.out
  where
    go : (a : BankReply) → is_ended (done_line a) ≡ true
    go (Paid r) = ended_line (codes "done") r.id
    go (Unpaid q) = refl

ended_answer : (x : Output BankReply) → is_ended (answer_line x.out) ≡ true
ended_answer x = go x.out
  where
    go : (a : BankReply) → is_ended (answer_line a) ≡ true
    go (Paid r) = ended_line (codes "done") r.id
    go (Unpaid q) = ended_line (codes "doubt") q.id

-- ---- one payment, which is the job j

module _ (payments : List Payment) (j : ℕ) (p : Payment) (at : slice_get payments (j - 1) ≡ Some p) where
  -- of which there is a receipt
  done : (xs : List (Output BankReply)) → All (IsRelated Answers payments) xs → has_receipt_of xs j ≡ true → HasLine (done_lines xs) (codes "done") p.id
  done [] all h = absurd (true≢false (sym h))
  done (x ∷ xs) all h = go (λ n. line_after (done_line x.out) (done_lines xs) (codes "done") p.id (ended_done x) (done xs (All-tail (IsRelated Answers payments) x xs all) n)) (eqb x.job j) refl (is_paid x.out) refl h
    where
      here : (a : BankReply) (y : Payment) → x.job ≡ j → slice_get payments (x.job - 1) ≡ Some y → Answers x.worker x.job y a → is_paid a ≡ true → HasLine (done_line a ++ done_lines xs) (codes "done") p.id
      here (Paid r) y e s is paid =
          let own : y ≡ p = same_some (slice_get payments (j - 1)) p y at (subst (λ k. slice_get payments (k - 1) ≡ Some y) e s) in
          subst (λ id. HasLine (line (codes "done") r.id ++ done_lines xs) (codes "done") id) (is.id ∙ ap (λ (q : Payment). q.id) own) (line_here (codes "done") r.id (done_lines xs))
      here (Unpaid q) y e s is paid = absurd (true≢false (sym paid))

      go : (has_receipt_of xs j ≡ true → HasLine (done_lines (x ∷ xs)) (codes "done") p.id) → (b : Bool) → eqb x.job j ≡ b → (c : Bool) → is_paid x.out ≡ c → (b && c) || has_receipt_of xs j ≡ true → HasLine (done_lines (x ∷ xs)) (codes "done") p.id
      go more true e true paid n = let first = All-head (IsRelated Answers payments) x xs all in here x.out first.0 (eqb-true x.job j e) first.1 first.2 paid
      go more true e false paid n = more n
      go more false e c paid n = more n

  -- that is free
  free : (Q : Payment → Type 0) (ts : List (ℕ × Payment)) → All (IsOwn payments) ts → All Q (payments_of ts) → has_job ts j ≡ true → Q p
  free Q [] own all h = absurd (true≢false (sym h))
  free Q (t ∷ ts) own all h = go (λ n. free Q ts (All-tail (IsOwn payments) t ts own) (All-tail Q t.1 (payments_of ts) all) n) (eqb t.0 j) refl h
    where
      go : (has_job ts j ≡ true → Q p) → (b : Bool) → eqb t.0 j ≡ b → b || has_job ts j ≡ true → Q p
      go more true e n =
          let same = same_some (slice_get payments (j - 1)) p t.1 at (subst (λ k. slice_get payments (k - 1) ≡ Some t.1) (eqb-true t.0 j e) (All-head (IsOwn payments) t ts own)) in
          subst Q same (All-head Q t.1 (payments_of ts) all)
      go more false e n = more n

  -- that is in doubt
  doubt : (ts : List (ℕ × ℕ)) → All (IsNumberOf payments) ts → has_job ts j ≡ true → HasLine (doubt_lines ts) (codes "doubt") p.id
  doubt [] own h = absurd (true≢false (sym h))
  doubt (t ∷ ts) own h = go (λ n. line_after (line (codes "doubt") t.1) (doubt_lines ts) (codes "doubt") p.id (ended_line (codes "doubt") t.1) (doubt ts (All-tail (IsNumberOf payments) t ts own) n)) (eqb t.0 j) refl h
    where
      number : slice_get (ids_of payments) (j - 1) ≡ Some p.id
      number = slice_get-map (λ (q : Payment). q.id) payments (j - 1) ∙ ap (option_map (λ (q : Payment). q.id)) at

      go : (has_job ts j ≡ true → HasLine (doubt_lines (t ∷ ts)) (codes "doubt") p.id) → (b : Bool) → eqb t.0 j ≡ b → b || has_job ts j ≡ true → HasLine (doubt_lines (t ∷ ts)) (codes "doubt") p.id
      go more true e n =
          let same : t.1 ≡ p.id = same_some (slice_get (ids_of payments) (j - 1)) p.id t.1 number (subst (λ k. slice_get (ids_of payments) (k - 1) ≡ Some t.1) (eqb-true t.0 j e) (All-head (IsNumberOf payments) t ts own)) in
          subst (λ id. HasLine (line (codes "doubt") t.1 ++ doubt_lines ts) (codes "doubt") id) same (line_here (codes "doubt") t.1 (doubt_lines ts))
      go more false e n = more n

  -- that has an answer
  answered : (xs : List (Output BankReply)) → All (IsRelated Answers payments) xs → has (jobs_of xs) j ≡ true → IsTold (answer_lines xs) p
  answered [] all h = absurd (true≢false (sym h))
  answered (x ∷ xs) all h = go (λ n. told_after (answer_line x.out) (answer_lines xs) p (ended_answer x) (answered xs (All-tail (IsRelated Answers payments) x xs all) n)) (eqb x.job j) refl h
    where
      own : (y : Payment) → x.job ≡ j → slice_get payments (x.job - 1) ≡ Some y → y ≡ p
      own y e s = same_some (slice_get payments (j - 1)) p y at (subst (λ k. slice_get payments (k - 1) ≡ Some y) e s)

      here : (a : BankReply) (y : Payment) → y ≡ p → Answers x.worker x.job y a → IsTold (answer_line a ++ answer_lines xs) p
      here (Paid r) y e is = inr (inl (subst (λ id. HasLine (line (codes "done") r.id ++ answer_lines xs) (codes "done") id) (is.id ∙ ap (λ (q : Payment). q.id) e) (line_here (codes "done") r.id (answer_lines xs))))
      here (Unpaid q) y e is = inr (inr (inl (subst (λ (o : Payment). HasLine (line (codes "doubt") q.id ++ answer_lines xs) (codes "doubt") o.id) (is ∙ e) (line_here (codes "doubt") q.id (answer_lines xs)))))

      go : (has (jobs_of xs) j ≡ true → IsTold (answer_lines (x ∷ xs)) p) → (b : Bool) → eqb x.job j ≡ b → b || has (jobs_of xs) j ≡ true → IsTold (answer_lines (x ∷ xs)) p
      go more true e n = let first = All-head (IsRelated Answers payments) x xs all in here x.out first.0 (own first.0 (eqb-true x.job j e) first.1) first.2
      go more false e n = more n

-- ---- all of a round, and of a floor of one worker: the free jobs and the written lines

round_ended : (s : Sorted) → is_ended (round_text s) ≡ true
round_ended s = ended_append (done_lines s.answers.items) (doubt_lines s.in_doubt.items) (ended_flat (λ x. done_line x.out) s.answers.items ended_done) (ended_flat (λ t. line (codes "doubt") t.1) s.in_doubt.items (λ t. ended_line (codes "doubt") t.1))

rest_ended : (r : Leftover Payment BankReply) → is_ended (leftover_text r) ≡ true
rest_ended r = ended_flat (λ x. answer_line x.out) r.outputs.items ended_answer

place_of : (payments : List Payment) (k : ℕ) (d : Payment) → k < length payments → slice_get payments (k + 1 - 1) ≡ Some (get_or payments k d)
place_of payments k d within = let same : k + 1 - 1 ≡ k = omega arith in ap (slice_get payments) same ∙ slice_get-get_or payments k d within

of_round : (crew : Crew) (Q : Payment → Type 0) (payments : List Payment) (s : Sorted) → IsRound crew payments s → All Q (payments_of s.free.items) → ((p : Payment) → IsTold (round_text s) p → Q p) → All Q payments
of_round crew Q payments s is free_are told k d within =
    go (has_receipt_of s.answers.items (k + 1)) refl (has_job s.free.items (k + 1)) refl (has_job s.in_doubt.items (k + 1)) refl (is.sorted.one (k + 1) (omega arith) (omega (arith, within)))
  where
    p : Payment
    p = get_or payments k d

    at : slice_get payments (k + 1 - 1) ≡ Some p
    at = place_of payments k d within

    go : (a : Bool) → has_receipt_of s.answers.items (k + 1) ≡ a → (b : Bool) → has_job s.free.items (k + 1) ≡ b → (c : Bool) → has_job s.in_doubt.items (k + 1) ≡ c → IsOneOf a b c → Q p
    go true h b i c l one = told p (told_before (done_lines s.answers.items) (doubt_lines s.in_doubt.items) p (inr (inl (done payments (k + 1) p at s.answers.items is.sorted.answers h))))
    go false h true i c l one = free payments (k + 1) p at Q s.free.items is.sorted.own free_are i
    go false h false i true l one =
        told p (told_after (done_lines s.answers.items) (doubt_lines s.in_doubt.items) p (ended_flat (λ x. done_line x.out) s.answers.items ended_done)
        (inr (inr (inl (doubt payments (k + 1) p at s.in_doubt.items is.sorted.numbers l)))))
    go false h false i false l one = absurd (true≢false (sym one))

of_rest : (Q : Payment → Type 0) (payments : List Payment) (r : Leftover Payment BankReply) → IsLeftover Answers payments r → All Q (payments_of r.free.items) → ((p : Payment) → IsTold (leftover_text r) p → Q p) → All Q payments
of_rest Q payments r is free_are told k d within = go (has (jobs_of r.outputs.items) (k + 1)) refl
  where
    p : Payment
    p = get_or payments k d

    go : (b : Bool) → has (jobs_of r.outputs.items) (k + 1) ≡ b → Q p
    go true h = told p (answered payments (k + 1) p (place_of payments k d within) r.outputs.items is.answers h)
    go false h =
        let same : k + 1 ≡ 1 + k = omega arith in
        of_free Q (λ j. not (has (jobs_of r.outputs.items) j)) 1 payments (subst (λ l. All Q (payments_of l)) is.free free_are) k d within (ap (λ j. not (has (jobs_of r.outputs.items) j)) (sym same) ∙ ap not h)

-- ---- all floors together

of_floors : {X : Type 0} (Is : List Payment → X → Type 0) (free_in : X → List (ℕ × Payment)) (text_of : X → List ℕ) (Q : Payment → Type 0)
    → ((payments : List Payment) (x : X) → Is payments x → All Q (payments_of (free_in x)) → ((p : Payment) → IsTold (text_of x) p → Q p) → All Q payments) → ((x : X) → is_ended (text_of x) ≡ true)
    → (fs : List (List Payment × X)) → All (λ f. Is f.0 f.1) fs → All Q (flat_map (λ f. payments_of (free_in f.1)) fs) → ((p : Payment) → IsTold (flat_map (λ f. text_of f.1) fs) p → Q p) → All Q (flat_map (λ f. f.0) fs)
of_floors Is free_in text_of Q of_one ended [] each free_are told = All-nil Q
of_floors {X} Is free_in text_of Q of_one ended (f ∷ fs) each free_are told =
    All-append Q f.0 (flat_map (λ (g : List Payment × X). g.0) fs)
    (of_one f.0 f.1 (All-head (λ (g : List Payment × X). Is g.0 g.1) f fs each) (All-left Q (payments_of (free_in f.1)) frees free_are) (λ p h. told p (told_before (text_of f.1) texts p h)))
    (of_floors Is free_in text_of Q of_one ended fs (All-tail (λ (g : List Payment × X). Is g.0 g.1) f fs each) (All-right Q (payments_of (free_in f.1)) frees free_are) (λ p h. told p (told_after (text_of f.1) texts p (ended f.1) h)))
  where
    frees : List Payment
    frees = flat_map (λ (g : List Payment × X). payments_of (free_in g.1)) fs

    texts : List ℕ
    texts = flat_map (λ (g : List Payment × X). text_of g.1) fs

-- no payment waits for a floor
all_floors : {X : Type 0} (Is : List Payment → X → Type 0) (free_in : X → List (ℕ × Payment)) (text_of : X → List ℕ) (Q : Payment → Type 0)
    → ((payments : List Payment) (x : X) → Is payments x → All Q (payments_of (free_in x)) → ((p : Payment) → IsTold (text_of x) p → Q p) → All Q payments) → ((x : X) → is_ended (text_of x) ≡ true)
    → (payments free : List Payment) (text : List ℕ) → AreFloors Is free_in text_of payments [] free text → All Q free → ((p : Payment) → IsTold text p → Q p) → All Q payments
all_floors {X} Is free_in text_of Q of_one ended payments free text are free_are told =
    subst (All Q) (sym (are.whole ∙ append-nil (flat_map (λ (f : List Payment × X). f.0) are.floors)))
    (of_floors Is free_in text_of Q of_one ended are.floors are.each (subst (All Q) are.free_is free_are) (λ p h. told p (subst (λ t. IsTold t p) (sym are.text_is) h)))

-- ---- the whole report

module _ (day : Day) (entries : List Attempt) (text : List ℕ) (is : IsReport day entries [] [] text) where
  abbrev all : List Payment
  all = day.payments.items

  -- the pieces of the text, from the last to the first
  abbrev last : List ℕ
  last = lines_of (codes "free") is.left

  abbrev of_floors_on : List ℕ
  of_floors_on = is.floors_text ++ last

  abbrev of_rounds_on : List ℕ
  of_rounds_on = is.rounds_text ++ of_floors_on

  abbrev of_payments : List ℕ → (Payment → Bool) → List ℕ
  of_payments word f = lines_of word (filter f all)

  abbrev of_doubt_on : List ℕ
  of_doubt_on = of_payments (codes "doubt") (is_in_doubt entries) ++ of_rounds_on

  abbrev Told : Payment → Type 0
  Told p = IsTold text p

  ended_lines : (word : List ℕ) (xs : List Payment) → is_ended (lines_of word xs) ≡ true
  ended_lines word xs = ended_flat (λ (p : Payment). line word p.id) xs (λ p. ended_line word p.id)

  at_made : (p : Payment) → IsTold (of_payments (codes "before") (was_made entries) ++ of_doubt_on) p → Told p
  at_made p h = subst (λ t. IsTold t p) (sym is.text_is) h

  at_doubt : (p : Payment) → IsTold of_doubt_on p → Told p
  at_doubt p h = at_made p (told_after (of_payments (codes "before") (was_made entries)) of_doubt_on p (ended_lines (codes "before") (filter (was_made entries) all)) h)

  at_rounds : (p : Payment) → IsTold of_rounds_on p → Told p
  at_rounds p h = at_doubt p (told_after (of_payments (codes "doubt") (is_in_doubt entries)) of_rounds_on p (ended_lines (codes "doubt") (filter (is_in_doubt entries) all)) h)

  at_floors : (p : Payment) → IsTold of_floors_on p → Told p
  at_floors p h = at_rounds p (told_after is.rounds_text of_floors_on p (ap is_ended is.rounds.text_is ∙ ended_flat (λ (f : List Payment × Sorted). round_text f.1) is.rounds.floors (λ f. round_ended f.1)) h)

  at_last : (p : Payment) → IsTold last p → Told p
  at_last p h = at_floors p (told_after is.floors_text last p (ap is_ended is.floors.text_is ∙ ended_flat (λ (f : List Payment × Leftover Payment BankReply). leftover_text f.1) is.floors.floors (λ f. rest_ended f.1)) h)

  left_are_told : All Told is.left
  left_are_told = All-weaker (λ p. HasLine last (codes "free") p.id) Told (λ p h. at_last p (inr (inr (inr h)))) is.left (each_line (codes "free") is.left)

  free_are_told : All Told is.free
  free_are_told = all_floors (IsLeftover Answers) (λ r. r.free.items) leftover_text Told (of_rest Told) rest_ended is.free is.left is.floors_text is.floors left_are_told (λ p h. at_floors p (told_before is.floors_text last p h))

  untried_are_told : All Told (filter (is_untried entries) all)
  untried_are_told = all_floors (IsRound day.crew) (λ s. s.free.items) round_text Told (of_round day.crew Told) round_ended (filter (is_untried entries) all) is.free is.rounds_text is.rounds free_are_told
      (λ p h. at_rounds p (told_before is.rounds_text of_floors_on p h))

  made_are_told : All Told (filter (was_made entries) all)
  made_are_told = All-weaker (λ p. HasLine (of_payments (codes "before") (was_made entries)) (codes "before") p.id) Told
      (λ p h. at_made p (told_before (of_payments (codes "before") (was_made entries)) of_doubt_on p (inl h))) (filter (was_made entries) all) (each_line (codes "before") (filter (was_made entries) all))

  doubtful_are_told : All Told (filter (is_in_doubt entries) all)
  doubtful_are_told = All-weaker (λ p. HasLine (of_payments (codes "doubt") (is_in_doubt entries)) (codes "doubt") p.id) Told
      (λ p h. at_doubt p (told_before (of_payments (codes "doubt") (is_in_doubt entries)) of_rounds_on p (inr (inr (inl h))))) (filter (is_in_doubt entries) all) (each_line (codes "doubt") (filter (is_in_doubt entries) all))

  pub each_is_told : All Told all
  each_is_told k d within = go (has_receipt entries p.id) refl (has_intent entries p.id) refl
    where
      p : Payment
      p = get_or all k d

      go : (r : Bool) → has_receipt entries p.id ≡ r → (i : Bool) → has_intent entries p.id ≡ i → Told p
      go true r i h = of_filtered Told (was_made entries) all made_are_told k d within r
      go false r true h = of_filtered Told (is_in_doubt entries) all doubtful_are_told k d within (ap₂ (λ a b. a && not b) h r)
      go false r false h = of_filtered Told (is_untried entries) all untried_are_told k d within (ap₂ (λ a b. not (a || b)) h r)
