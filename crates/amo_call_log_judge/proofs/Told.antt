-- An event that is read of a line is the event of that line.
use Rattle.std.proofs.Common.{◌≡◌, ℕ, ◌^◌, ◌<◌, ◌≤◌, Bool, true, false, List, [], ◌∷◌, length, Option, Some, None, Result, Ok, Err, refl, sym, ap, ◌∙◌, subst, arith}
use Rattle.std.specs.Prelude.{nat_lt, ◌==◌, ◌&&◌, if◌then◌else◌, codes}
use Rattle.std.specs.Fmt.{decimal}
use Rattle.std.specs.Option.{ok_or}
use Rattle.std.specs.Str.{bytes_eq}
use Rattle.std.proofs.lemmas.Bool.{and_parts}
use Rattle.std.proofs.lemmas.Bool.Decides.{nat_tests}
use Rattle.std.proofs.lemmas.Slice.Eq.{bytes_eq-Decides}
use Rattle.amo_safety_by_journals.specs.Model.{Event, Dies, Begins, Lands, Wants, Intends, Looks, HandsOver, Performs, Ends, Opens}
use Rattle.amo_decimal.specs.Numbers.{number_in as number_said}
use Rattle.amo_decimal.proofs.NumberTexts.{reads_printed, printed_of_read}
use Rattle.amo_params.specs.declared.limits.TheConstants.{MAX_WORKERS}
use Rattle.amo_call_log_judge.specs.Events.{event_of}
use Rattle.amo_call_log_judge.specs.Grammar.{words_for, MayStand}
use Rattle.amo_call_log_judge.specs.Lines.{has_word, word_at}
use Rattle.amo_call_log_judge.specs.Reading.{as_worker, event_in, event_of_four, event_of_three, event_of_two, number_in, numbers_in, with_number, worker_in}
use Rattle.amo_call_log_judge.specs.Results.{next}
use Rattle.amo_call_log_judge.specs.declared.event.Event.{Event as EventRead}
use Rattle.amo_call_log_judge.specs.declared.event.Event.TheVariants.{Begins as BeginsRead, Dies as DiesRead, Lands as LandsRead, Intends as IntendsRead, Looks as LooksRead, HandsOver as HandsOverRead, Performs as PerformsRead, Ends as EndsRead, Opens as OpensRead}
use Rattle.amo_call_log_judge.specs.declared.verdict.Wrong.{Wrong}
use Rattle.amo_call_log_judge.specs.declared.verdict.Wrong.TheVariants.{NoEvent, NoNumber, WorkerBeyond}
use Rattle.amo_call_log_judge.proofs.Places.{differ, is_equal}

-- ---- numbers

number_read : (n : ℕ) → n < 2 ^ 64 → number_in (decimal n) ≡ Ok n
number_read n fits = ap (λ (o : Option ℕ). ok_or o NoNumber) (reads_printed n fits)

worker_read : (p : ℕ) → p ≤ MAX_WORKERS → worker_in (decimal p) ≡ Ok p
worker_read p le = ap (λ (r : Result ℕ Wrong). next r as_worker) (number_read p (omega (arith, le))) ∙ ap (λ (b : Bool). if b then Err WorkerBeyond else Ok p) (no_less p le)
  where
    no_less : (p : ℕ) → p ≤ MAX_WORKERS → nat_lt MAX_WORKERS p ≡ false
    no_less p le = grind (arith, nat_tests)

numbers_read : (n m : ℕ) → n < 2 ^ 64 → m < 2 ^ 64 → numbers_in (decimal n) (decimal m) ≡ Ok (n, m)
numbers_read n m one other =
    ap (λ (r : Result ℕ Wrong). next r (λ a. next (number_in (decimal m)) (λ b. Ok (a, b)))) (number_read n one)
    ∙ ap (λ (r : Result ℕ Wrong). next r (λ b. Ok (n, b))) (number_read m other)

number_printed : (word : List ℕ) (n : ℕ) → number_in word ≡ Ok n → (word ≡ decimal n) × (n < 2 ^ 64)
number_printed word n is = by_said (number_said word) refl is
  where
    same : (m : ℕ) → ◌≡◌ {A = Result ℕ Wrong} (Ok m) (Ok n) → m ≡ n
    same m e = cc

    by_said : (o : Option ℕ) → number_said word ≡ o → ok_or o NoNumber ≡ Ok n → (word ≡ decimal n) × (n < 2 ^ 64)
    by_said None said e = absurd (cc)
    by_said (Some m) said e =
        let both = printed_of_read word n (said ∙ ap Some (same m e)) in (sym both.0, both.1)

-- what led to it
next_ok : {A B : Type 0} (r : Result A Wrong) (f : A → Result B Wrong) (y : B) → next r f ≡ Ok y → (x : A) × (r ≡ Ok x) × (f x ≡ Ok y)
next_ok (Ok x) f y is = (x, refl, is)
next_ok (Err e) f y is = absurd (cc)

worker_printed : (word : List ℕ) (p : ℕ) → worker_in word ≡ Ok p → (word ≡ decimal p) × (p ≤ MAX_WORKERS)
worker_printed word p is =
    let led = next_ok (number_in word) as_worker p is in
    let within = by_test led.0 (nat_lt MAX_WORKERS led.0) refl led.2 in
    ((number_printed word led.0 led.1).0 ∙ ap decimal within.0, within.1)
  where
    at_most : (n : ℕ) → nat_lt MAX_WORKERS n ≡ false → n ≤ MAX_WORKERS
    at_most n t = grind (arith, nat_tests)

    same : (n : ℕ) → ◌≡◌ {A = Result ℕ Wrong} (Ok n) (Ok p) → n ≡ p
    same n e = cc

    by_test : (n : ℕ) (b : Bool) → nat_lt MAX_WORKERS n ≡ b → (if b then Err WorkerBeyond else Ok n) ≡ Ok p → (n ≡ p) × (p ≤ MAX_WORKERS)
    by_test n true t e = absurd (cc)
    by_test n false t e = (same n e, subst (λ (m : ℕ). m ≤ MAX_WORKERS) (same n e) (at_most n t))

-- two words that are numbers
record ArePrinted (word next_word : List ℕ) (n : ℕ × ℕ) : Type 0 where
  pub one : word ≡ decimal n.0
  pub other : next_word ≡ decimal n.1
  pub short : n.0 < 2 ^ 64
  pub short_too : n.1 < 2 ^ 64

numbers_printed : (one other : List ℕ) (n : ℕ × ℕ) → numbers_in one other ≡ Ok n → ArePrinted one other n
numbers_printed one other n is =
    let led = next_ok (number_in one) (λ a. next (number_in other) (λ b. Ok (a, b))) n is in
    let more = next_ok (number_in other) (λ b. Ok (led.0, b)) n led.2 in
    let first = number_printed one led.0 led.1 in
    let second = number_printed other more.0 more.1 in
    subst (ArePrinted one other) (same (led.0, more.0) more.2) (record { one = first.0; other = second.0; short = first.1; short_too = second.1 })
  where
    same : (m : ℕ × ℕ) → ◌≡◌ {A = Result (ℕ × ℕ) Wrong} (Ok m) (Ok n) → m ≡ n
    same m e = cc

-- ---- an event is read

pub event_read : (e : Event) → MayStand e → (x : EventRead) × (event_in (words_for e) ≡ Ok x) × (event_of x ≡ e)
event_read (Begins p) may = (BeginsRead p, ap (λ (r : Result ℕ Wrong). next r (λ p. Ok (BeginsRead p))) (worker_read p may), refl)
event_read (Dies p) may = (DiesRead p, ap (λ (r : Result ℕ Wrong). next r (λ p. Ok (DiesRead p))) (worker_read p may), refl)
event_read (Lands p line) may = (
  LandsRead p line,
  ap (λ (r : Result ℕ Wrong). next r (λ p. next (number_in (decimal line)) (λ n. Ok (LandsRead p n)))) (worker_read p may.0) ∙ ap (λ (r : Result ℕ Wrong). next r (λ n. Ok (LandsRead p n))) (number_read line may.1),
  refl,
)
event_read (Wants p line) may = absurd may
event_read (Intends p line) may = (
  IntendsRead p line,
  ap (λ (r : Result ℕ Wrong). next r (λ p. next (number_in (decimal line)) (λ n. Ok (IntendsRead p n)))) (worker_read p may.0) ∙ ap (λ (r : Result ℕ Wrong). next r (λ n. Ok (IntendsRead p n))) (number_read line may.1),
  refl,
)
event_read (Looks p q) may = (
  LooksRead p q,
  ap (λ (r : Result ℕ Wrong). next r (λ p. next (worker_in (decimal q)) (λ n. Ok (LooksRead p n)))) (worker_read p may.0) ∙ ap (λ (r : Result ℕ Wrong). next r (λ n. Ok (LooksRead p n))) (worker_read q may.1),
  refl,
)
event_read (HandsOver p) may = (HandsOverRead p, ap (λ (r : Result ℕ Wrong). next r (λ p. Ok (HandsOverRead p))) (worker_read p may), refl)
event_read (Performs h) may = (
  PerformsRead (record { worker = h.worker; serial = h.serial; line = h.line }),
  ap (λ (r : Result ℕ Wrong). next r (λ p. next (numbers_in (decimal h.serial) (decimal h.line)) (λ n. Ok (PerformsRead (record { worker = p; serial = n.0; line = n.1 }))))) (worker_read h.worker may.0)
      ∙ ap (λ (r : Result (ℕ × ℕ) Wrong). next r (λ n. Ok (PerformsRead (record { worker = h.worker; serial = n.0; line = n.1 })))) (numbers_read h.serial h.line may.1 may.2),
  refl,
)
event_read (Ends i) may = (EndsRead i, ap (λ (r : Result ℕ Wrong). next r (λ i. Ok (EndsRead i))) (number_read i may), refl)
event_read (Opens a) may = (
  OpensRead (record { worker = a.worker; serial = a.serial }),
  ap (λ (r : Result ℕ Wrong). next r (λ p. next (number_in (decimal a.serial)) (λ n. Ok (OpensRead (record { worker = p; serial = n }))))) (worker_read a.worker may.0)
      ∙ ap (λ (r : Result ℕ Wrong). next r (λ n. Ok (OpensRead (record { worker = a.worker; serial = n })))) (number_read a.serial may.1),
  refl,
)

-- ---- what is read is an event

-- the words are those of the event, which a log may have
pub record AreOf (all : List (List ℕ)) (e : Event) : Type 0 where
  pub words : all ≡ words_for e
  pub may : MayStand e

same_word : (xs ys : List ℕ) → bytes_eq xs ys ≡ true → xs ≡ ys
same_word xs ys t = (bytes_eq-Decides xs ys).0 t

never : (n k : ℕ) (b : Bool) → (n == k) && b ≡ true → (n ≡ k → ⊥) → ⊥
never n k b t other = other (is_equal n k (and_parts (n == k) b t).0)

two : (word : List ℕ) (words : List (List ℕ)) → has_word 2 word words ≡ true → words ≡ word ∷ word_at words 1 ∷ []
two word [] t = absurd (differ (sym t))
two word (a ∷ []) t = absurd (differ (sym t))
two word (a ∷ b ∷ []) t = ap (λ (w : List ℕ). w ∷ b ∷ []) (same_word a word t)
two word (a ∷ b ∷ c ∷ words) t = absurd (never (length (a ∷ b ∷ c ∷ words)) 2 (bytes_eq a word) t (λ e. omega (arith, e)))

three : (word : List ℕ) (words : List (List ℕ)) → has_word 3 word words ≡ true → words ≡ word ∷ word_at words 1 ∷ word_at words 2 ∷ []
three word [] t = absurd (differ (sym t))
three word (a ∷ []) t = absurd (differ (sym t))
three word (a ∷ b ∷ []) t = absurd (differ (sym t))
three word (a ∷ b ∷ c ∷ []) t = ap (λ (w : List ℕ). w ∷ b ∷ c ∷ []) (same_word a word t)
three word (a ∷ b ∷ c ∷ d ∷ words) t = absurd (never (length (a ∷ b ∷ c ∷ d ∷ words)) 3 (bytes_eq a word) t (λ e. omega (arith, e)))

four : (word : List ℕ) (words : List (List ℕ)) → has_word 4 word words ≡ true → words ≡ word ∷ word_at words 1 ∷ word_at words 2 ∷ word_at words 3 ∷ []
four word [] t = absurd (differ (sym t))
four word (a ∷ []) t = absurd (differ (sym t))
four word (a ∷ b ∷ []) t = absurd (differ (sym t))
four word (a ∷ b ∷ c ∷ []) t = absurd (differ (sym t))
four word (a ∷ b ∷ c ∷ d ∷ []) t = ap (λ (w : List ℕ). w ∷ b ∷ c ∷ d ∷ []) (same_word a word t)
four word (a ∷ b ∷ c ∷ d ∷ f ∷ words) t = absurd (never (length (a ∷ b ∷ c ∷ d ∷ f ∷ words)) 4 (bytes_eq a word) t (λ e. omega (arith, e)))

if_either : {R Z : Type 0} (b : Bool) (x y z : R) → (if b then x else y) ≡ z → (b ≡ true → x ≡ z → Z) → (b ≡ false → y ≡ z → Z) → Z
if_either true x y z is f g = f refl is
if_either false x y z is f g = g refl is

same_event : (x y : EventRead) → ◌≡◌ {A = Result EventRead Wrong} (Ok x) (Ok y) → x ≡ y
same_event x y e = cc

no_event : (wrong : Wrong) (x : EventRead) → ◌≡◌ {A = Result EventRead Wrong} (Err wrong) (Ok x) → ⊥
no_event wrong x e = cc

module _ (words : List (List ℕ)) (x : EventRead) where
  of_worker : (word : List ℕ) (make : ℕ → EventRead) → ((p : ℕ) → words_for (event_of (make p)) ≡ word ∷ decimal p ∷ []) → ((p : ℕ) → p ≤ MAX_WORKERS → MayStand (event_of (make p)))
      → has_word 2 word words ≡ true → next (worker_in (word_at words 1)) (λ p. Ok (make p)) ≡ Ok x → AreOf words (event_of x)
  of_worker word make spelled may t is =
      let led = next_ok (worker_in (word_at words 1)) (λ p. Ok (make p)) x is in
      let first = worker_printed (word_at words 1) led.0 led.1 in
      subst (λ (y : EventRead). AreOf words (event_of y)) (same_event (make led.0) x led.2) (record {
        words = two word words t ∙ (ap (λ (w : List ℕ). word ∷ w ∷ []) first.0 ∙ sym (spelled led.0));
        may = may led.0 first.1;
      })

  of_number : (word : List ℕ) (make : ℕ → EventRead) → ((n : ℕ) → words_for (event_of (make n)) ≡ word ∷ decimal n ∷ []) → ((n : ℕ) → n < 2 ^ 64 → MayStand (event_of (make n)))
      → has_word 2 word words ≡ true → next (number_in (word_at words 1)) (λ n. Ok (make n)) ≡ Ok x → AreOf words (event_of x)
  of_number word make spelled may t is =
      let led = next_ok (number_in (word_at words 1)) (λ n. Ok (make n)) x is in
      let first = number_printed (word_at words 1) led.0 led.1 in
      subst (λ (y : EventRead). AreOf words (event_of y)) (same_event (make led.0) x led.2) (record {
        words = two word words t ∙ (ap (λ (w : List ℕ). word ∷ w ∷ []) first.0 ∙ sym (spelled led.0));
        may = may led.0 first.1;
      })

  of_both : (word : List ℕ) (make : ℕ → ℕ → EventRead) → ((p n : ℕ) → words_for (event_of (make p n)) ≡ word ∷ decimal p ∷ decimal n ∷ []) → ((p n : ℕ) → p ≤ MAX_WORKERS → n < 2 ^ 64 → MayStand (event_of (make p n)))
      → has_word 3 word words ≡ true → with_number words make ≡ Ok x → AreOf words (event_of x)
  of_both word make spelled may t is =
      let led = next_ok (worker_in (word_at words 1)) (λ p. next (number_in (word_at words 2)) (λ n. Ok (make p n))) x is in
      let more = next_ok (number_in (word_at words 2)) (λ n. Ok (make led.0 n)) x led.2 in
      let first = worker_printed (word_at words 1) led.0 led.1 in
      let second = number_printed (word_at words 2) more.0 more.1 in
      subst (λ (y : EventRead). AreOf words (event_of y)) (same_event (make led.0 more.0) x more.2) (record {
        words = three word words t ∙ (ap (λ (w : List ℕ). word ∷ w ∷ word_at words 2 ∷ []) first.0 ∙ (ap (λ (w : List ℕ). word ∷ decimal led.0 ∷ w ∷ []) second.0 ∙ sym (spelled led.0 more.0)));
        may = may led.0 more.0 first.1 second.1;
      })

  of_look : has_word 3 (codes "looks") words ≡ true → next (worker_in (word_at words 1)) (λ p. next (worker_in (word_at words 2)) (λ q. Ok (LooksRead p q))) ≡ Ok x → AreOf words (event_of x)
  of_look t is =
      let led = next_ok (worker_in (word_at words 1)) (λ p. next (worker_in (word_at words 2)) (λ q. Ok (LooksRead p q))) x is in
      let more = next_ok (worker_in (word_at words 2)) (λ q. Ok (LooksRead led.0 q)) x led.2 in
      let first = worker_printed (word_at words 1) led.0 led.1 in
      let second = worker_printed (word_at words 2) more.0 more.1 in
      subst (λ (y : EventRead). AreOf words (event_of y)) (same_event (LooksRead led.0 more.0) x more.2) (record {
        words = three (codes "looks") words t ∙ (ap (λ (w : List ℕ). codes "looks" ∷ w ∷ word_at words 2 ∷ []) first.0 ∙ ap (λ (w : List ℕ). codes "looks" ∷ decimal led.0 ∷ w ∷ []) second.0);
        may = (first.1, second.1);
      })

  of_performance : has_word 4 (codes "performs") words ≡ true
      → next (worker_in (word_at words 1)) (λ p. next (numbers_in (word_at words 2) (word_at words 3)) (λ n. Ok (PerformsRead (record { worker = p; serial = n.0; line = n.1 })))) ≡ Ok x → AreOf words (event_of x)
  of_performance t is =
      let led = next_ok (worker_in (word_at words 1)) (λ p. next (numbers_in (word_at words 2) (word_at words 3)) (λ n. Ok (PerformsRead (record { worker = p; serial = n.0; line = n.1 })))) x is in
      let more = next_ok (numbers_in (word_at words 2) (word_at words 3)) (λ n. Ok (PerformsRead (record { worker = led.0; serial = n.0; line = n.1 }))) x led.2 in
      let first = worker_printed (word_at words 1) led.0 led.1 in
      let others = numbers_printed (word_at words 2) (word_at words 3) more.0 more.1 in
      subst (λ (y : EventRead). AreOf words (event_of y)) (same_event (PerformsRead (record { worker = led.0; serial = more.0.0; line = more.0.1 })) x more.2) (record {
        words =
            four (codes "performs") words t
            ∙ (ap (λ (w : List ℕ). codes "performs" ∷ w ∷ word_at words 2 ∷ word_at words 3 ∷ []) first.0
            ∙ (ap (λ (w : List ℕ). codes "performs" ∷ decimal led.0 ∷ w ∷ word_at words 3 ∷ []) others.one ∙ ap (λ (w : List ℕ). codes "performs" ∷ decimal led.0 ∷ decimal more.0.0 ∷ w ∷ []) others.other));
        may = (first.1, others.short, others.short_too);
      })

  of_two : event_of_two words ≡ Ok x → AreOf words (event_of x)
  of_two is =
      if_either (has_word 2 (codes "begins") words) _ _ (Ok x) is (λ t e. of_worker (codes "begins") BeginsRead (λ p. refl) (λ p le. le) t e) (λ _ e1.
      if_either (has_word 2 (codes "dies") words) _ _ (Ok x) e1 (λ t e. of_worker (codes "dies") DiesRead (λ p. refl) (λ p le. le) t e) (λ _ e2.
      if_either (has_word 2 (codes "hands-over") words) _ _ (Ok x) e2 (λ t e. of_worker (codes "hands-over") HandsOverRead (λ p. refl) (λ p le. le) t e) (λ _ e3.
      if_either (has_word 2 (codes "ends") words) _ _ (Ok x) e3 (λ t e. of_number (codes "ends") EndsRead (λ n. refl) (λ n lt. lt) t e) (λ _ e4.
      absurd (no_event NoEvent x e4)))))

  of_three : event_of_three words ≡ Ok x → AreOf words (event_of x)
  of_three is =
      if_either (has_word 3 (codes "lands") words) _ _ (Ok x) is (λ t e. of_both (codes "lands") LandsRead (λ p n. refl) (λ p n le lt. (le, lt)) t e) (λ _ e1.
      if_either (has_word 3 (codes "intends") words) _ _ (Ok x) e1 (λ t e. of_both (codes "intends") IntendsRead (λ p n. refl) (λ p n le lt. (le, lt)) t e) (λ _ e2.
      if_either (has_word 3 (codes "looks") words) _ _ (Ok x) e2 (λ t e. of_look t e) (λ _ e3.
      if_either (has_word 3 (codes "opens") words) _ _ (Ok x) e3 (λ t e. of_both (codes "opens") (λ p s. OpensRead (record { worker = p; serial = s })) (λ p n. refl) (λ p n le lt. (le, lt)) t e) (λ _ e4.
      absurd (no_event NoEvent x e4)))))

  of_four : event_of_four words ≡ Ok x → AreOf words (event_of x)
  of_four is = if_either (has_word 4 (codes "performs") words) _ _ (Ok x) is (λ t e. of_performance t e) (λ _ e. absurd (no_event NoEvent x e))

  pub event_told : event_in words ≡ Ok x → AreOf words (event_of x)
  event_told is =
      if_either (length words == 2) _ _ (Ok x) is (λ _ e. of_two e) (λ _ e1.
      if_either (length words == 3) _ _ (Ok x) e1 (λ _ e. of_three e) (λ _ e2. of_four e2))
