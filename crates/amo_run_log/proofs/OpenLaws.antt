-- The lines that one more entry opens in its own journal, and those that it doesn't.
use Rattle.std.proofs.Common.{◌≡◌, ◌≢◌, ℕ, zero, suc, ◌+◌, Bool, true, false, cond, ◌&&◌, ◌||◌, List, [], ◌∷◌, ◌++◌, length, Option, Some, None, refl, sym, ap, subst, ◌∙◌, arith}
use Rattle.std.specs.Prelude.{not, ◌==◌, is_none, option_and_then, option_map}
use Rattle.std.specs.List.{AllByRecursion}
use Rattle.std.proofs.lemmas.Bool.{and_parts}
use Rattle.std.proofs.lemmas.Bool.Decides.{nat_tests}
use Rattle.amo_run_log.specs.declared.entry.Outcome.{Outcome}
use Rattle.amo_run_log.specs.declared.entry.Entry.{Entry}
use Rattle.amo_run_log.specs.declared.entry.Entry.TheVariants.{Intent, Answer as Answered}
use Rattle.amo_run_log.specs.declared.finding.Finding.{Finding}
use Rattle.amo_run_log.specs.declared.journal.Attempt.{Attempt}
use Rattle.amo_run_log.specs.Findings.{is_undone}
use Rattle.amo_run_log.specs.Journals.{answered, answered_to, is_line, noted, journal_from}
use Rattle.amo_run_log.specs.Open.{opens, reopens, closes, any_closes, OpensNone, OpensNot, IsAnswer, serial_of, IsAtIndex, IsOfLine, NoneOpens}
use Rattle.amo_run_log.proofs.Words.{equal}

pub is_equal : (a b : ℕ) → (a == b) ≡ true → a ≡ b
is_equal a b h = grind (arith, nat_tests)

-- an entry with an answer
abbrev pub with : Attempt → Outcome → Attempt
with e a = record e { answer = Some a }

-- the first entry is answered if it has no answer
pub head : (e : Attempt) (es next : List Attempt) (a : Outcome) (o : Option Outcome) → cond (is_none o) (Some (with e a ∷ es)) None ≡ Some next → (o ≡ None) × (with e a ∷ es ≡ next)
head e es next a None h = (refl, cc)
head e es next a (Some b) h = absurd (cc)

-- a later one
pub tail : (e : Attempt) (o : Option (List Attempt)) (next : List Attempt) → option_map (λ rest. e ∷ rest) o ≡ Some next → (rest : List Attempt) × (o ≡ Some rest) × (e ∷ rest ≡ next)
tail e None next h = absurd (cc)
tail e (Some rest) next h = (rest, refl, cc)

module _ (count : ℕ) (findings : List Finding) (worker line : ℕ) where
  abbrev any : ℕ → List Attempt → Bool
  any serial es = any_closes findings worker serial es line

  -- of its parts: whether it is of the line, whether it is answered so, whether it was found undone, and what follows
  abbrev one : Bool → Bool → Bool → Bool → Bool
  one m r f t = (m && not (r || f)) || t

  less : (m r f t : Bool) → one m r f t ≡ true → one m false f t ≡ true
  less false r f t h = h
  less true false f t h = h
  less true true true t h = h
  less true true false t h = refl

  own : (m r f t : Bool) → one m false f t ≡ true → one m r f t ≡ false → m ≡ true
  own true r f t h g = refl
  own false r f t h g = absurd (cc (h, g))

  -- an answer closes nothing
  pub answer_closes_none : (es next : List Attempt) (i serial : ℕ) (a : Outcome) → answered es i a ≡ Some next → any serial next ≡ true → any serial es ≡ true
  answer_closes_none [] next i serial a h closed = absurd (cc)
  answer_closes_none (e ∷ es) next zero serial a h closed =
      let (none, is) = head e es next a e.answer h in
      let was : any serial (with e a ∷ es) ≡ true = ap (any serial) is ∙ closed in
      ap (λ o. one (e.line == line) (reopens o) (is_undone findings worker serial) (any (serial + 1) es)) none
      ∙ less (e.line == line) (opens a) (is_undone findings worker serial) (any (serial + 1) es) was
  answer_closes_none (e ∷ es) next (suc i) serial a h closed =
      let (rest, is_rest, is) = tail e (answered es i a) next h in
      by_head (closes findings worker serial e line) (any (serial + 1) es) (any (serial + 1) rest) (answer_closes_none es rest i (serial + 1) a is_rest) (ap (any serial) is ∙ closed)
    where
      by_head : (s t u : Bool) → (u ≡ true → t ≡ true) → (s || u) ≡ true → (s || t) ≡ true
      by_head true t u follows c = refl
      by_head false t u follows c = follows c

  -- an answer that opens nothing leaves closed what is closed
  pub answer_opens_none : (es next : List Attempt) (i serial : ℕ) (a : Outcome) → opens a ≡ false → answered es i a ≡ Some next → any serial es ≡ true → any serial next ≡ true
  answer_opens_none [] next i serial a shut h closed = absurd (cc)
  answer_opens_none (e ∷ es) next zero serial a shut h closed =
      let (none, is) = head e es next a e.answer h in
      sym (ap (any serial) is) ∙ ap (λ r. one (e.line == line) r (is_undone findings worker serial) (any (serial + 1) es)) shut
      ∙ ap (λ o. one (e.line == line) (reopens o) (is_undone findings worker serial) (any (serial + 1) es)) (sym none) ∙ closed
  answer_opens_none (e ∷ es) next (suc i) serial a shut h closed =
      let (rest, is_rest, is) = tail e (answered es i a) next h in
      sym (ap (any serial) is) ∙ by_head (closes findings worker serial e line) (any (serial + 1) es) (any (serial + 1) rest) (answer_opens_none es rest i (serial + 1) a shut is_rest) closed
    where
      by_head : (s t u : Bool) → (t ≡ true → u ≡ true) → (s || t) ≡ true → (s || u) ≡ true
      by_head true t u follows c = refl
      by_head false t u follows c = follows c

  -- what an answer opens is the line of its intent
  pub answer_opens_own : (es next : List Attempt) (i serial : ℕ) (a : Outcome) → answered es i a ≡ Some next → any serial es ≡ true → any serial next ≡ false → IsAtIndex es i line
  answer_opens_own [] next i serial a h closed opened = absurd (cc)
  answer_opens_own (e ∷ es) next zero serial a h closed opened =
      let (none, is) = head e es next a e.answer h in
      is_equal e.line line (own (e.line == line) (opens a) (is_undone findings worker serial) (any (serial + 1) es)
      (ap (λ o. one (e.line == line) (reopens o) (is_undone findings worker serial) (any (serial + 1) es)) (sym none) ∙ closed)
      (ap (any serial) is ∙ opened))
  answer_opens_own (e ∷ es) next (suc i) serial a h closed opened =
      let (rest, is_rest, is) = tail e (answered es i a) next h in
      by_head (closes findings worker serial e line) (any (serial + 1) es) (any (serial + 1) rest) (answer_opens_own es rest i (serial + 1) a is_rest) closed (ap (any serial) is ∙ opened)
    where
      by_head : {P : Type 0} (s t u : Bool) → (t ≡ true → u ≡ false → P) → (s || t) ≡ true → (s || u) ≡ false → P
      by_head true t u follows c o = absurd (cc)
      by_head false t u follows c o = follows c o

  -- an intent more opens nothing
  pub intent_opens_none : (es : List Attempt) (e : Attempt) (serial : ℕ) → any serial es ≡ true → any serial (es ++ e ∷ []) ≡ true
  intent_opens_none [] e serial closed = absurd (cc)
  intent_opens_none (d ∷ es) e serial closed =
      by_head (closes findings worker serial d line) (any (serial + 1) es) (any (serial + 1) (es ++ e ∷ [])) (intent_opens_none es e (serial + 1)) closed
    where
      by_head : (s t u : Bool) → (t ≡ true → u ≡ true) → (s || t) ≡ true → (s || u) ≡ true
      by_head true t u follows c = refl
      by_head false t u follows c = follows c

  -- the same of an entry of a journal

  pub to_serial : {P : Type 0} (es next : List Attempt) (s : ℕ) (a : Outcome) → ((i : ℕ) → suc i ≡ s → answered es i a ≡ Some next → P) → answered_to es s a ≡ Some next → P
  to_serial es next zero a follows h = absurd (cc)
  to_serial es next (suc i) a follows h = follows i refl h

  pub intent_is : (es next : List Attempt) (b : Bool) (e : Attempt) → cond b (Some (es ++ e ∷ [])) None ≡ Some next → (b ≡ true) × (es ++ e ∷ [] ≡ next)
  intent_is es next true e h = (refl, cc)
  intent_is es next false e h = absurd (cc)

  pub noted_opens_none : (es next : List Attempt) (l : Entry) → OpensNone l → noted count es l ≡ Some next → any 1 es ≡ true → any 1 next ≡ true
  noted_opens_none es next (Intent s m t) opens h closed =
      let is = intent_is es next ((s == length es + 1) && is_line count m) (record { line = m; time = t; answer = None }) h in
      subst (λ (x : List Attempt). any 1 x ≡ true) is.1 (intent_opens_none es (record { line = m; time = t; answer = None }) 1 closed)
  noted_opens_none es next (Answered s a) shut h closed = to_serial es next s a (λ i is at. answer_opens_none es next i 1 a shut at closed) h

  pub noted_closes_none : (es next : List Attempt) (l : Entry) → IsAnswer l → noted count es l ≡ Some next → any 1 next ≡ true → any 1 es ≡ true
  noted_closes_none es next (Intent s m t) answers h closed = absurd answers
  noted_closes_none es next (Answered s a) answers h closed = to_serial es next s a (λ i is at. answer_closes_none es next i 1 a at closed) h

  opens_own_at : (es next : List Attempt) (s : ℕ) (a : Outcome) → answered_to es s a ≡ Some next → any 1 es ≡ true → any 1 next ≡ false → IsOfLine es s line
  opens_own_at es next zero a h closed opened = absurd (cc)
  opens_own_at es next (suc i) a h closed opened = answer_opens_own es next i 1 a h closed opened

  pub noted_opens_own : (es next : List Attempt) (l : Entry) → noted count es l ≡ Some next → any 1 es ≡ true → any 1 next ≡ false → IsOfLine es (serial_of l) line
  noted_opens_own es next (Intent s m t) h closed opened =
      let still = noted_opens_none es next (Intent s m t) tt h closed in absurd (cc (still, opened))
  noted_opens_own es next (Answered s a) h closed opened = opens_own_at es next s a h closed opened

  -- an intent that nothing opened

  abbrev Unopened : List Attempt → ℕ → Type 0
  Unopened [] i = ⊥
  Unopened (e ∷ es) zero = (e.line ≡ line) × (reopens e.answer ≡ false)
  Unopened (e ∷ es) (suc i) = Unopened es i

  unopened_closes : (es : List Attempt) (i serial : ℕ) → Unopened es i → is_undone findings worker (serial + i) ≡ false → any serial es ≡ true
  unopened_closes [] i serial u f = absurd u
  unopened_closes (e ∷ es) zero serial u f =
      let same : serial + 0 ≡ serial = omega arith in
      ap (λ m. one m (reopens e.answer) (is_undone findings worker serial) (any (serial + 1) es)) (equal e.line line u.0)
      ∙ ap (λ r. one true r (is_undone findings worker serial) (any (serial + 1) es)) u.1
      ∙ ap (λ d. one true false d (any (serial + 1) es)) (ap (is_undone findings worker) (sym same) ∙ f)
  unopened_closes (e ∷ es) (suc i) serial u f =
      let same : serial + suc i ≡ (serial + 1) + i = omega arith in
      ap (λ t. closes findings worker serial e line || t) (unopened_closes es i (serial + 1) u (ap (is_undone findings worker) (sym same) ∙ f)) ∙ or_true (closes findings worker serial e line)
    where
      or_true : (b : Bool) → (b || true) ≡ true
      or_true true = refl
      or_true false = refl

  unopened_last : (es : List Attempt) (e : Attempt) → e.line ≡ line → reopens e.answer ≡ false → Unopened (es ++ e ∷ []) (length es)
  unopened_last [] e is shut = (is, shut)
  unopened_last (d ∷ es) e is shut = let same : length (d ∷ es) ≡ suc (length es) = omega arith in subst (λ n. Unopened (d ∷ (es ++ e ∷ [])) n) (sym same) (unopened_last es e is shut)

  unopened_push : (es : List Attempt) (e : Attempt) (i : ℕ) → Unopened es i → Unopened (es ++ e ∷ []) i
  unopened_push [] e i u = absurd u
  unopened_push (d ∷ es) e zero u = u
  unopened_push (d ∷ es) e (suc i) u = unopened_push es e i u

  unopened_other : (es next : List Attempt) (i j : ℕ) (a : Outcome) → j ≢ i → answered es j a ≡ Some next → Unopened es i → Unopened next i
  unopened_other [] next i j a ne h u = absurd u
  unopened_other (e ∷ es) next zero zero a ne h u = absurd (ne refl)
  unopened_other (e ∷ es) next (suc i) zero a ne h u = let (none, is) = head e es next a e.answer h in subst (λ (x : List Attempt). Unopened x (suc i)) is u
  unopened_other (e ∷ es) next zero (suc j) a ne h u = let (rest, is_rest, is) = tail e (answered es j a) next h in subst (λ (x : List Attempt). Unopened x zero) is u
  unopened_other (e ∷ es) next (suc i) (suc j) a ne h u =
      let (rest, is_rest, is) = tail e (answered es j a) next h in
      subst (λ (x : List Attempt). Unopened x (suc i)) is (unopened_other es rest i j a (λ same. ne (ap suc same)) is_rest u)

  unopened_shut : (es next : List Attempt) (i j : ℕ) (a : Outcome) → opens a ≡ false → answered es j a ≡ Some next → Unopened es i → Unopened next i
  unopened_shut [] next i j a shut h u = absurd u
  unopened_shut (e ∷ es) next zero zero a shut h u = let (none, is) = head e es next a e.answer h in subst (λ (x : List Attempt). Unopened x zero) is (u.0, shut)
  unopened_shut (e ∷ es) next (suc i) zero a shut h u = let (none, is) = head e es next a e.answer h in subst (λ (x : List Attempt). Unopened x (suc i)) is u
  unopened_shut (e ∷ es) next zero (suc j) a shut h u = let (rest, is_rest, is) = tail e (answered es j a) next h in subst (λ (x : List Attempt). Unopened x zero) is u
  unopened_shut (e ∷ es) next (suc i) (suc j) a shut h u =
      let (rest, is_rest, is) = tail e (answered es j a) next h in
      subst (λ (x : List Attempt). Unopened x (suc i)) is (unopened_shut es rest i j a shut is_rest u)

  unopened_noted : (es next : List Attempt) (i : ℕ) (l : Entry) → OpensNot (suc i) l → noted count es l ≡ Some next → Unopened es i → Unopened next i
  unopened_noted es next i (Intent s m t) opens h u =
      let is = intent_is es next ((s == length es + 1) && is_line count m) (record { line = m; time = t; answer = None }) h in
      subst (λ (x : List Attempt). Unopened x i) is.1 (unopened_push es (record { line = m; time = t; answer = None }) i u)
  unopened_noted es next i (Answered s a) other h u = by_test (opens a) refl
    where
      by_test : (b : Bool) → opens a ≡ b → Unopened next i
      by_test true t = to_serial es next s a (λ j is at. unopened_other es next i j a (λ same. other t (sym is ∙ ap suc same)) at u) h
      by_test false t = to_serial es next s a (λ j is at. unopened_shut es next i j a t at u) h

  next_of : (o : Option (List Attempt)) (entries : List Entry) (next : List Attempt) → option_and_then (λ (x : List Attempt). journal_from count x entries) o ≡ Some next → (mid : List Attempt) × (o ≡ Some mid) × (journal_from count mid entries ≡ Some next)
  next_of None entries next h = absurd (cc)
  next_of (Some mid) entries next h = (mid, refl, h)

  unopened_stays : (es next : List Attempt) (i : ℕ) (entries : List Entry) → NoneOpens (suc i) entries → journal_from count es entries ≡ Some next → Unopened es i → Unopened next i
  unopened_stays es next i [] opens h u = let same : es ≡ next = cc in subst (λ (x : List Attempt). Unopened x i) same u
  unopened_stays es next i (l ∷ entries) opens h u =
      let (mid, first, rest) = next_of (noted count es l) entries next h in
      unopened_stays mid next i entries opens.1 rest (unopened_noted es mid i l opens.0 first u)

  -- after its intent a line is closed, until that intent is answered by one that opens it
  pub intent_closes : (es mid next : List Attempt) (s t : ℕ) (entries : List Entry) → noted count es (Intent s line t) ≡ Some mid → NoneOpens s entries → journal_from count mid entries ≡ Some next → is_undone findings worker s ≡ false → any 1 next ≡ true
  intent_closes es mid next s t entries put opens h f =
      let is = intent_is es mid ((s == length es + 1) && is_line count line) (record { line = line; time = t; answer = None }) put in
      let serial : s ≡ length es + 1 = is_equal s (length es + 1) (and_parts (s == length es + 1) (is_line count line) is.0).0 in
      let numbered : s ≡ suc (length es) = omega (arith, serial) in
      let at : 1 + length es ≡ s = omega (arith, serial) in
      let u : Unopened mid (length es) = subst (λ (x : List Attempt). Unopened x (length es)) is.1 (unopened_last es (record { line = line; time = t; answer = None }) refl refl) in
      unopened_closes next (length es) 1 (unopened_stays mid next (length es) entries (subst (λ n. NoneOpens n entries) numbered opens) h u) (ap (is_undone findings worker) at ∙ f)

  pub answers_close_none : (es next : List Attempt) (entries : List Entry) → AllByRecursion IsAnswer entries → journal_from count es entries ≡ Some next → any 1 next ≡ true → any 1 es ≡ true
  answers_close_none es next [] answers h closed = let same : next ≡ es = cc in ap (any 1) (sym same) ∙ closed
  answers_close_none es next (l ∷ entries) answers h closed =
      let (mid, first, rest) = next_of (noted count es l) entries next h in
      noted_closes_none es mid l answers.0 first (answers_close_none mid next entries answers.1 rest closed)
