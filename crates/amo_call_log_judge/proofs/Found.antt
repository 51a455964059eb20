-- Which attempts stand, are held or are listed.
use Rattle.std.proofs.Common.{◌≡◌, ◌⊎◌, inl, inr, ⊎_elim, ℕ, zero, suc, ◌+◌, ◌<◌, Bool, true, false, ◌&&◌, ◌||◌, List, [], ◌∷◌, length, map, get_or, Some, None, refl, sym, ap, ◌∙◌, subst, arith}
use Rattle.std.specs.Prelude.{not, ◌==◌, nat_le, if◌then◌else◌}
use Rattle.std.specs.List.{slice_get, list_any}
use Rattle.std.proofs.lemmas.Bool.{and_from, and_parts}
use Rattle.std.proofs.lemmas.Bool.Decides.{nat_tests}
use Rattle.std.proofs.lemmas.Option.{slice_get-get_or, slice_get_within}
use Rattle.amo_safety_by_journals.specs.Model.{Handing, IsOneOf, line_of}
use Rattle.amo_safety_by_journals.specs.Runs.{IsOf}
use Rattle.amo_call_log_judge.specs.Events.{attempt_of, handing_of}
use Rattle.amo_call_log_judge.specs.Rules.{first_standing, has_serial, is_of, is_other, is_same, stands}
use Rattle.amo_call_log_judge.specs.Seen.{is_open_at, lines_in}
use Rattle.amo_call_log_judge.specs.declared.event.Attempt.{Attempt as AttemptRead}
use Rattle.amo_call_log_judge.specs.declared.event.Handing.{Handing as HandingRead}
use Rattle.amo_call_log_judge.specs.declared.journal.Intent.{Intent}
use Rattle.amo_call_log_judge.proofs.Places.{any_one, differ, equal_is, is_equal, not_false, not_true, one_any, or_none, or_parts, or_right}

-- ---- the first attempt that stands

pub same_attempt : (own : AttemptRead) (q serial : ℕ) → is_other own q serial ≡ false → (own.worker ≡ q) × (own.serial ≡ serial)
same_attempt own q serial h =
    let both = or_none (not (own.worker == q)) (not (own.serial == serial)) h in
    (is_equal own.worker q (not_false (own.worker == q) both.0), is_equal own.serial serial (not_false (own.serial == serial) both.1))

pub other_attempt : (own : AttemptRead) (q serial : ℕ) → is_other own q serial ≡ true → own.worker ≡ q → own.serial ≡ serial → ⊥
other_attempt own q serial h worker number =
    ⊎_elim (λ t. differ (sym (equal_is own.worker q worker) ∙ not_true (own.worker == q) t))
    (λ t. differ (sym (equal_is own.serial serial number) ∙ not_true (own.serial == serial) t))
    (or_parts (not (own.worker == q)) (not (own.serial == serial)) h)

-- of an intent that stands
stands_parts : (q : ℕ) (own : AttemptRead) (line serial : ℕ) (x : Intent) → stands q own line serial x ≡ true → (x.line ≡ line) × (x.opened ≡ false) × (is_other own q serial ≡ true)
stands_parts q own line serial x h =
    let front = and_parts (x.line == line) (not x.opened && is_other own q serial) h in
    let back = and_parts (not x.opened) (is_other own q serial) front.1 in
    (is_equal x.line line front.0, not_true x.opened back.0, back.1)

-- of one at the line that doesn't
falls : (at opened other : Bool) → (at && (not opened && other)) ≡ false → at ≡ true → (opened ≡ true) ⊎ (other ≡ false)
falls true true other h t = inl refl
falls true false other h t = inr h
falls false opened other h t = absurd (differ (sym t))

-- it is the one at this index
pub record IsAt (q : ℕ) (own : AttemptRead) (line before serial : ℕ) (kept : List Intent) : Type 0 where
  pub index : ℕ
  pub number : serial ≡ before + 1 + index
  pub at_line : slice_get (lines_in kept) index ≡ Some line
  pub not_opened : is_open_at kept index ≡ false
  pub other : is_other own q serial ≡ true

pub standing_some : (q : ℕ) (own : AttemptRead) (line before serial : ℕ) (kept : List Intent) → first_standing q own line before kept ≡ Some serial → IsAt q own line before serial kept
standing_some q own line before serial [] is = absurd (cc)
standing_some q own line before serial (x ∷ kept) is = by_test (λ e. standing_some q own line (before + 1) serial kept e) (stands q own line (before + 1) x) refl
  where
    chosen : (b : Bool) → stands q own line (before + 1) x ≡ b → (if b then Some (before + 1) else first_standing q own line (before + 1) kept) ≡ Some serial
    chosen b t = subst (λ (c : Bool). (if c then Some (before + 1) else first_standing q own line (before + 1) kept) ≡ Some serial) t is

    number_of : (n : ℕ) → Some n ≡ Some serial → n ≡ serial
    number_of n e = cc

    by_test : (first_standing q own line (before + 1) kept ≡ Some serial → IsAt q own line (before + 1) serial kept) → (b : Bool) → stands q own line (before + 1) x ≡ b → IsAt q own line before serial (x ∷ kept)
    by_test rest true t =
        let here = stands_parts q own line (before + 1) x t in
        let e : before + 1 ≡ serial = number_of (before + 1) (chosen true t) in
        record {
          index = 0;
          number = omega (arith, e);
          at_line = ap Some here.0;
          not_opened = here.1;
          other = subst (λ (n : ℕ). is_other own q n ≡ true) e here.2;
        }
    by_test rest false t =
        let later = rest (chosen false t) in
        record {
          index = suc later.index;
          number = omega (arith, later.number);
          at_line = later.at_line;
          not_opened = later.not_opened;
          other = later.other;
        }

pub standing_none : (q : ℕ) (own : AttemptRead) (line before : ℕ) (kept : List Intent) → first_standing q own line before kept ≡ None → (i : ℕ) → slice_get (lines_in kept) i ≡ Some line → (is_open_at kept i ≡ true) ⊎ (is_other own q (before + 1 + i) ≡ false)
standing_none q own line before [] none i at = absurd (cc)
standing_none q own line before (x ∷ kept) none i at = by_test (λ e k there. standing_none q own line (before + 1) kept e k there) (stands q own line (before + 1) x) refl i at
  where
    chosen : (b : Bool) → stands q own line (before + 1) x ≡ b → (if b then Some (before + 1) else first_standing q own line (before + 1) kept) ≡ None
    chosen b t = subst (λ (c : Bool). (if c then Some (before + 1) else first_standing q own line (before + 1) kept) ≡ None) t none

    never : (n : ℕ) → Some n ≡ None → ⊥
    never n e = cc

    line_is : Some x.line ≡ Some line → x.line ≡ line
    line_is e = cc

    by_test : (first_standing q own line (before + 1) kept ≡ None → (k : ℕ) → slice_get (lines_in kept) k ≡ Some line → (is_open_at kept k ≡ true) ⊎ (is_other own q (before + 1 + 1 + k) ≡ false))
        → (b : Bool) → stands q own line (before + 1) x ≡ b → (k : ℕ) → slice_get (lines_in (x ∷ kept)) k ≡ Some line → (is_open_at (x ∷ kept) k ≡ true) ⊎ (is_other own q (before + 1 + k) ≡ false)
    by_test rest true t k there = absurd (never (before + 1) (chosen true t))
    by_test rest false t zero there =
        let e : before + 1 ≡ before + 1 + 0 = omega arith in
        ⊎_elim (λ o. inl o) (λ o. inr (subst (λ (n : ℕ). is_other own q n ≡ false) e o)) (falls (x.line == line) x.opened (is_other own q (before + 1)) t (equal_is x.line line (line_is there)))
    by_test rest false t (suc k) there =
        let e : before + 1 + 1 + k ≡ before + 1 + suc k = omega arith in
        ⊎_elim (λ o. inl o) (λ o. inr (subst (λ (n : ℕ). is_other own q n ≡ false) e o)) (rest (chosen false t) k there)

-- ---- serial numbers

pub has_line : (lines : List ℕ) (serial : ℕ) → has_serial (length lines) serial ≡ true → (line : ℕ) × (line_of lines serial ≡ Some line)
has_line lines zero h = absurd (differ (sym h))
has_line lines (suc i) h =
    let lt : i < length lines = within (and_parts (nat_le 1 (suc i)) (nat_le (suc i) (length lines)) h).1 in
    (get_or lines i 0, slice_get-get_or lines i 0 lt)
  where
    within : nat_le (suc i) (length lines) ≡ true → i < length lines
    within t = grind (arith, nat_tests)

pub line_has : (lines : List ℕ) (serial line : ℕ) → line_of lines serial ≡ Some line → has_serial (length lines) serial ≡ true
line_has lines zero line is = absurd (cc)
line_has lines (suc i) line is = and_from (nat_le 1 (suc i)) (nat_le (suc i) (length lines)) (from i) (within (slice_get_within lines i line is))
  where
    from : (i : ℕ) → nat_le 1 (suc i) ≡ true
    from i = grind (arith, nat_tests)

    within : i < length lines → nat_le (suc i) (length lines) ≡ true
    within lt = grind (arith, nat_tests)

-- ---- attempts that were handed over

abbrev made : ℕ → ℕ → ℕ → Handing
made worker serial line = record { worker = worker; serial = serial; line = line }

pub same_handing : (h x : HandingRead) → is_same h x ≡ true → handing_of x ≡ handing_of h
same_handing h x t =
    let front = and_parts (x.worker == h.worker) ((x.serial == h.serial) && (x.line == h.line)) t in
    let back = and_parts (x.serial == h.serial) (x.line == h.line) front.1 in
    by_numbers (is_equal x.worker h.worker front.0) (is_equal x.serial h.serial back.0) (is_equal x.line h.line back.1)
  where
    by_numbers : x.worker ≡ h.worker → x.serial ≡ h.serial → x.line ≡ h.line → handing_of x ≡ handing_of h
    by_numbers a b c = ap (λ (n : ℕ). made n x.serial x.line) a ∙ (ap (λ (n : ℕ). made h.worker n x.line) b ∙ ap (λ (n : ℕ). made h.worker h.serial n) c)

pub handing_same : (h x : HandingRead) → handing_of x ≡ handing_of h → is_same h x ≡ true
handing_same h x e =
    and_from (x.worker == h.worker) ((x.serial == h.serial) && (x.line == h.line)) (equal_is x.worker h.worker (ap (λ (y : Handing). y.worker) e))
    (and_from (x.serial == h.serial) (x.line == h.line) (equal_is x.serial h.serial (ap (λ (y : Handing). y.serial) e)) (equal_is x.line h.line (ap (λ (y : Handing). y.line) e)))

pub listed_is : (h : HandingRead) (xs : List HandingRead) → list_any (is_same h) xs ≡ true → IsOneOf (map handing_of xs) (handing_of h)
listed_is h xs t = any_one handing_of (is_same h) (handing_of h) (same_handing h) xs t

pub is_listed : (h : HandingRead) (xs : List HandingRead) → IsOneOf (map handing_of xs) (handing_of h) → list_any (is_same h) xs ≡ true
is_listed h xs one = one_any handing_of (is_same h) (handing_of h) (handing_same h) xs one

pub any_of : (a : AttemptRead) (xs : List HandingRead) → list_any (is_of a) xs ≡ true → (h : Handing) × IsOneOf (map handing_of xs) h × IsOf (attempt_of a) h
any_of a [] t = absurd (differ (sym t))
any_of a (x ∷ xs) t = ⊎_elim here (λ is. let more = any_of a xs is in (more.0, inr more.1, more.2)) (or_parts (is_of a x) (list_any (is_of a) xs) t)
  where
    here : is_of a x ≡ true → (h : Handing) × IsOneOf (map handing_of (x ∷ xs)) h × IsOf (attempt_of a) h
    here is =
        let both = and_parts (x.worker == a.worker) (x.serial == a.serial) is in
        (handing_of x, inl refl, (is_equal x.worker a.worker both.0, is_equal x.serial a.serial both.1))

pub of_any : (a : AttemptRead) (xs : List HandingRead) (h : Handing) → IsOneOf (map handing_of xs) h → IsOf (attempt_of a) h → list_any (is_of a) xs ≡ true
of_any a [] h one of = absurd one
of_any a (x ∷ xs) h (inl is) of =
    ap (λ (b : Bool). b || list_any (is_of a) xs)
    (and_from (x.worker == a.worker) (x.serial == a.serial) (equal_is x.worker a.worker (ap (λ (y : Handing). y.worker) is ∙ of.0)) (equal_is x.serial a.serial (ap (λ (y : Handing). y.serial) is ∙ of.1)))
of_any a (x ∷ xs) h (inr one) of = or_right (is_of a x) (list_any (is_of a) xs) (of_any a xs h one of)
