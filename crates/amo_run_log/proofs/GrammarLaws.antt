-- Entries are read as a journal exactly if they are one by the grammar.
use Rattle.std.proofs.Common.{◌≡◌, ◌≢◌, inl, inr, ℕ, zero, suc, ◌+◌, ◌<◌, ◌≤◌, Bool, true, false, cond, ◌&&◌, ◌||◌, List, [], ◌∷◌, ◌++◌, length, Option, Some, None, refl, sym, ap, subst, ◌∙◌, arith, length-append}
use Rattle.std.specs.Prelude.{◌==◌, nat_le, is_some, is_none, option_and_then, option_map}
use Rattle.std.proofs.lemmas.Bool.{cases_eq, and_from, and_parts}
use Rattle.std.proofs.lemmas.Bool.Decides.{nat_tests}
use Rattle.amo_run_log.specs.declared.entry.Outcome.{Outcome}
use Rattle.amo_run_log.specs.declared.entry.Entry.{Entry}
use Rattle.amo_run_log.specs.declared.entry.Entry.TheVariants.{Intent, Answer as Answered}
use Rattle.amo_run_log.specs.declared.journal.Attempt.{Attempt}
use Rattle.amo_run_log.specs.Journals.{answered, answered_to, is_line, noted, journal_from, journal_of}
use Rattle.amo_run_log.specs.Grammar.{intent_in, intents, answers, is_answered, IsPending, MayFollow, FollowFrom, IsJournal}
use Rattle.amo_run_log.proofs.Words.{equal, not_equal}

is_within : (count line : ℕ) → is_line count line ≡ true → (1 ≤ line) × (line ≤ count)
is_within count line h = let parts = and_parts (nat_le 1 line) (nat_le line count) h in (at_most 1 line parts.0, at_most line count parts.1)
  where
    at_most : (a b : ℕ) → nat_le a b ≡ true → a ≤ b
    at_most a b t = grind (arith, nat_tests)

within_is : (count line : ℕ) → 1 ≤ line → line ≤ count → is_line count line ≡ true
within_is count line from there = and_from (nat_le 1 line) (nat_le line count) (at_most 1 line from) (at_most line count there)
  where
    at_most : (a b : ℕ) → a ≤ b → nat_le a b ≡ true
    at_most a b t = grind (arith, nat_tests)

is_equal : (a b : ℕ) → (a == b) ≡ true → a ≡ b
is_equal a b h = grind (arith, nat_tests)

-- whether the attempt at an index, or of a serial number, has an answer
abbrev has : List Attempt → ℕ → Bool
has [] i = false
has (e ∷ es) zero = is_some e.answer
has (e ∷ es) (suc i) = has es i

abbrev has_answer : List Attempt → ℕ → Bool
has_answer es zero = false
has_answer es (suc i) = has es i

-- the attempts stand for the entries
record StandsFor (entries : List Entry) (es : List Attempt) : Type 0 where
  pub size : length es ≡ intents entries
  pub same : (s : ℕ) → has_answer es s ≡ is_answered s entries

intents_push : (entries : List Entry) (l : Entry) → intents (entries ++ l ∷ []) ≡ intents entries + intent_in l
intents_push [] l = omega arith
intents_push (x ∷ entries) l = omega (arith, intents_push entries l)

answered_push : (s : ℕ) (entries : List Entry) (l : Entry) → is_answered s (entries ++ l ∷ []) ≡ (is_answered s entries || answers s l)
answered_push s [] l = or_nil (answers s l)
  where
    or_nil : (b : Bool) → (b || false) ≡ b
    or_nil true = refl
    or_nil false = refl
answered_push s (x ∷ entries) l = ap (λ b. answers s x || b) (answered_push s entries l) ∙ assoc (answers s x) (is_answered s entries) (answers s l)
  where
    assoc : (a b c : Bool) → (a || (b || c)) ≡ ((a || b) || c)
    assoc true b c = refl
    assoc false b c = refl

or_false : (b : Bool) → (b || false) ≡ b
or_false true = refl
or_false false = refl

or_true : (b : Bool) → (b || true) ≡ true
or_true true = refl
or_true false = refl

-- a blank attempt more
has_push : (es : List Attempt) (line time i : ℕ) → has (es ++ record { line = line; time = time; answer = None } ∷ []) i ≡ has es i
has_push [] line time zero = refl
has_push [] line time (suc i) = refl
has_push (e ∷ es) line time zero = refl
has_push (e ∷ es) line time (suc i) = has_push es line time i

-- an attempt answered
head : (e : Attempt) (es next : List Attempt) (a : Outcome) (o : Option Outcome) → cond (is_none o) (Some (record e { answer = Some a } ∷ es)) None ≡ Some next → (o ≡ None) × (record e { answer = Some a } ∷ es ≡ next)
head e es next a None h = (refl, cc)
head e es next a (Some b) h = absurd (cc)

tail : (e : Attempt) (o : Option (List Attempt)) (next : List Attempt) → option_map (λ rest. e ∷ rest) o ≡ Some next → (rest : List Attempt) × (o ≡ Some rest) × (e ∷ rest ≡ next)
tail e None next h = absurd (cc)
tail e (Some rest) next h = (rest, refl, cc)

record Answers (es next : List Attempt) (i : ℕ) : Type 0 where
  pub within : i < length es
  pub size : length next ≡ length es
  pub free : has es i ≡ false
  pub own : has next i ≡ true
  pub others : (j : ℕ) → j ≢ i → has next j ≡ has es j

answers_one : (es next : List Attempt) (i : ℕ) (a : Outcome) → answered es i a ≡ Some next → Answers es next i
answers_one [] next i a h = absurd (cc)
answers_one (e ∷ es) next zero a h =
    let (none, is) = head e es next a e.answer h in
    subst (λ (x : List Attempt). Answers (e ∷ es) x zero) is (record { within = omega arith; size = omega arith; free = ap is_some none; own = refl; others = later })
  where
    later : (j : ℕ) → j ≢ 0 → has (record e { answer = Some a } ∷ es) j ≡ has (e ∷ es) j
    later zero ne = absurd (ne refl)
    later (suc j) ne = refl
answers_one (e ∷ es) next (suc i) a h =
    let (rest, is_rest, is) = tail e (answered es i a) next h in
    let r : Answers es rest i = answers_one es rest i a is_rest in
    subst (λ (x : List Attempt). Answers (e ∷ es) x (suc i)) is (record { within = omega (arith, r.within); size = omega (arith, r.size); free = r.free; own = r.own; others = later rest r.others })
  where
    later : (rest : List Attempt) → ((j : ℕ) → j ≢ i → has rest j ≡ has es j) → (j : ℕ) → j ≢ suc i → has (e ∷ rest) j ≡ has (e ∷ es) j
    later rest each zero ne = refl
    later rest each (suc j) ne = each j (λ same. ne (ap suc same))

can_answer : (es : List Attempt) (i : ℕ) (a : Outcome) → i < length es → has es i ≡ false → (next : List Attempt) × (answered es i a ≡ Some next)
can_answer [] i a lt free = absurd (omega arith)
can_answer (e ∷ es) zero a lt free = (record e { answer = Some a } ∷ es, ap (λ o. cond (is_none o) (Some (record e { answer = Some a } ∷ es)) None) (none_of e.answer free))
  where
    none_of : (o : Option Outcome) → is_some o ≡ false → o ≡ None
    none_of None h = refl
    none_of (Some b) h = absurd (cc)
can_answer (e ∷ es) (suc i) a lt free =
    let rest = can_answer es i a (omega arith) free in
    (e ∷ rest.0, ap (option_map (λ x. e ∷ x)) rest.1)

-- what is noted may follow, and then the attempts stand for the entries with it

record Follows (count : ℕ) (entries : List Entry) (l : Entry) (next : List Attempt) : Type 0 where
  pub may : MayFollow count entries l
  pub stands : StandsFor (entries ++ l ∷ []) next

follow_intent : (count : ℕ) (entries : List Entry) (es next : List Attempt) (s m t : ℕ) → StandsFor entries es → noted count es (Intent s m t) ≡ Some next → Follows count entries (Intent s m t) next
follow_intent count entries es next s m t stands h =
    by_test ((s == length es + 1) && is_line count m) refl h
  where
    by_test : (b : Bool) → ((s == length es + 1) && is_line count m) ≡ b → cond b (Some (es ++ record { line = m; time = t; answer = None } ∷ [])) None ≡ Some next → Follows count entries (Intent s m t) next
    by_test false e none = absurd (cc)
    by_test true e some =
        let is : es ++ record { line = m; time = t; answer = None } ∷ [] ≡ next = cc in
        let parts = and_parts (s == length es + 1) (is_line count m) e in
        let serial : s ≡ length es + 1 = is_equal s (length es + 1) parts.0 in
        let within = is_within count m parts.1 in
        record {
          may = record { in_turn = omega (arith, serial, stands.size); line_from_1 = within.0; line_there = within.1 };
          stands = subst (λ (x : List Attempt). StandsFor (entries ++ Intent s m t ∷ []) x) is record {
            size = omega (arith, stands.size, length-append es (record { line = m; time = t; answer = None } ∷ []), intents_push entries (Intent s m t));
            same = each;
          };
        }
      where
        each : (n : ℕ) → has_answer (es ++ record { line = m; time = t; answer = None } ∷ []) n ≡ is_answered n (entries ++ Intent s m t ∷ [])
        each zero = stands.same zero ∙ sym (answered_push zero entries (Intent s m t) ∙ or_false (is_answered zero entries))
        each (suc i) = has_push es m t i ∙ stands.same (suc i) ∙ sym (answered_push (suc i) entries (Intent s m t) ∙ or_false (is_answered (suc i) entries))

-- an answer: the entry l answers just this serial number
record IsAnswerTo (l : Entry) (s : ℕ) : Type 0 where
  pub none : intent_in l ≡ 0
  pub test : (n : ℕ) → answers n l ≡ (s == n)

follow_answer : (entries : List Entry) (es next : List Attempt) (l : Entry) (s : ℕ) (a : Outcome) → StandsFor entries es → IsAnswerTo l s → answered_to es s a ≡ Some next → IsPending s entries × StandsFor (entries ++ l ∷ []) next
follow_answer entries es next l zero a stands is h = absurd (cc)
follow_answer entries es next l (suc i) a stands is h =
    let r : Answers es next i = answers_one es next i a h in (
      record { from_1 = omega arith; there = omega (arith, r.within, stands.size); unanswered = sym (stands.same (suc i)) ∙ r.free },
      record { size = omega (arith, r.size, stands.size, intents_push entries l, is.none); same = each r },
    )
  where
    each : Answers es next i → (n : ℕ) → has_answer next n ≡ is_answered n (entries ++ l ∷ [])
    each r zero = stands.same zero ∙ sym (answered_push zero entries l ∙ ap (λ b. is_answered zero entries || b) (is.test zero ∙ not_equal (suc i) zero (omega arith)) ∙ or_false (is_answered zero entries))
    each r (suc j) = elim (cases_eq i j) [
      | inl same ↦ ap (has next) (sym same) ∙ r.own
          ∙ sym (answered_push (suc j) entries l ∙ ap (λ b. is_answered (suc j) entries || b) (is.test (suc j) ∙ equal (suc i) (suc j) (ap suc same)) ∙ or_true (is_answered (suc j) entries))
      | inr other ↦ r.others j (λ e. other (sym e)) ∙ stands.same (suc j)
          ∙ sym (answered_push (suc j) entries l ∙ ap (λ b. is_answered (suc j) entries || b) (is.test (suc j) ∙ not_equal (suc i) (suc j) (λ e. other (omega (arith, e)))) ∙ or_false (is_answered (suc j) entries))
    ]

follow : (count : ℕ) (entries : List Entry) (es next : List Attempt) (l : Entry) → StandsFor entries es → noted count es l ≡ Some next → Follows count entries l next
follow count entries es next (Intent s m t) stands h = follow_intent count entries es next s m t stands h
follow count entries es next (Answered s a) stands h = let (may, more) = follow_answer entries es next (Answered s a) s a stands record { none = refl; test = λ n. refl } h in record { may = may; stands = more }

-- what may follow is noted

pending_noted : (entries : List Entry) (es : List Attempt) (s : ℕ) (a : Outcome) → StandsFor entries es → IsPending s entries → (next : List Attempt) × (answered_to es s a ≡ Some next)
pending_noted entries es zero a stands p = absurd (omega (arith, p.from_1))
pending_noted entries es (suc i) a stands p = can_answer es i a (omega (arith, p.there, stands.size)) (stands.same (suc i) ∙ p.unanswered)

can_note : (count : ℕ) (entries : List Entry) (es : List Attempt) (l : Entry) → StandsFor entries es → MayFollow count entries l → (next : List Attempt) × (noted count es l ≡ Some next)
can_note count entries es (Intent s m t) stands may =
    let serial : s ≡ length es + 1 = omega (arith, may.in_turn, stands.size) in
    let passes : ((s == length es + 1) && is_line count m) ≡ true = and_from (s == length es + 1) (is_line count m) (equal s (length es + 1) serial) (within_is count m may.line_from_1 may.line_there) in
    (es ++ record { line = m; time = t; answer = None } ∷ [], ap (λ b. cond b (Some (es ++ record { line = m; time = t; answer = None } ∷ [])) None) passes)
can_note count entries es (Answered s a) stands may = pending_noted entries es s a stands may

next_of : (count : ℕ) (o : Option (List Attempt)) (entries : List Entry) (next : List Attempt) → option_and_then (λ (x : List Attempt). journal_from count x entries) o ≡ Some next → (mid : List Attempt) × (o ≡ Some mid) × (journal_from count mid entries ≡ Some next)
next_of count None entries next h = absurd (cc)
next_of count (Some mid) entries next h = (mid, refl, h)

from_journal : (count : ℕ) (before entries : List Entry) (es next : List Attempt) → StandsFor before es → journal_from count es entries ≡ Some next → FollowFrom count before entries
from_journal count before [] es next stands h = tt
from_journal count before (l ∷ entries) es next stands h =
    let (mid, first, rest) = next_of count (noted count es l) entries next h in
    let f : Follows count before l mid = follow count before es mid l stands first in
    (f.may, from_journal count (before ++ l ∷ []) entries mid next f.stands rest)

to_journal : (count : ℕ) (before entries : List Entry) (es : List Attempt) → StandsFor before es → FollowFrom count before entries → (next : List Attempt) × (journal_from count es entries ≡ Some next)
to_journal count before [] es stands all = (es, refl)
to_journal count before (l ∷ entries) es stands all =
    let (mid, first) = can_note count before es l stands all.0 in
    let f : Follows count before l mid = follow count before es mid l stands first in
    let (next, rest) = to_journal count (before ++ l ∷ []) entries mid f.stands all.1 in
    (next, ap (λ o. option_and_then (λ (x : List Attempt). journal_from count x entries) o) first ∙ rest)

at_first : StandsFor [] []
at_first = record { size = refl; same = none }
  where
    none : (s : ℕ) → has_answer [] s ≡ is_answered s []
    none zero = refl
    none (suc i) = refl

pub law_journal : (count : ℕ) (entries : List Entry) (es : List Attempt) → journal_of count entries ≡ Some es → IsJournal count entries
law_journal count entries es h = from_journal count [] entries [] es at_first h

pub law_is_journal : (count : ℕ) (entries : List Entry) → IsJournal count entries → (es : List Attempt) × (journal_of count entries ≡ Some es)
law_is_journal count entries all = to_journal count [] entries [] at_first all
