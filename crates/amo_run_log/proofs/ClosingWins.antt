-- Closing wins: what an entry or a journal more opens among all the journals, and what it doesn't.
use Rattle.std.proofs.Common.{◌≡◌, ℕ, ◌+◌, Bool, true, false, ◌||◌, List, [], ◌∷◌, ◌++◌, length, Option, Some, None, refl, sym, ap, ◌∙◌, arith, append_assoc}
use Rattle.std.specs.Prelude.{not, option_and_then}
use Rattle.std.specs.List.{AllByRecursion}
use Rattle.amo_run_log.specs.declared.entry.Entry.{Entry}
use Rattle.amo_run_log.specs.declared.entry.Entry.TheVariants.{Intent}
use Rattle.amo_run_log.specs.declared.finding.Finding.{Finding}
use Rattle.amo_run_log.specs.declared.journal.Attempt.{Attempt}
use Rattle.amo_run_log.specs.Findings.{is_undone}
use Rattle.amo_run_log.specs.Journals.{noted, journal_from, journal_of}
use Rattle.amo_run_log.specs.Open.{opens, any_closes, closed_by, is_open, OpensNone, IsAnswer, serial_of, IsOfLine, NoneOpens, HasIntent}
use Rattle.amo_run_log.proofs.OpenLaws.{noted_opens_none, noted_opens_own, intent_closes, answers_close_none}

module _ (count : ℕ) (findings : List Finding) (line : ℕ) where
  abbrev shut : ℕ → List (List Attempt) → Bool
  shut worker journals = closed_by findings worker journals line

  or_more : (s t u : Bool) → (t ≡ true → u ≡ true) → (s || t) ≡ true → (s || u) ≡ true
  or_more true t u follows h = refl
  or_more false t u follows h = follows h

  or_first : (s r t : Bool) → (s ≡ true → r ≡ true) → (s || t) ≡ true → (r || t) ≡ true
  or_first true r t follows h = ap (λ b. b || t) (follows refl)
  or_first false true t follows h = refl
  or_first false false t follows h = h

  -- what is closed in one journal is closed in all
  lift : (before after : List (List Attempt)) (es next : List Attempt) (worker : ℕ) → ((w : ℕ) → any_closes findings w 1 es line ≡ true → any_closes findings w 1 next line ≡ true)
      → shut worker (before ++ es ∷ after) ≡ true → shut worker (before ++ next ∷ after) ≡ true
  lift [] after es next worker follows h = or_first (any_closes findings worker 1 es line) (any_closes findings worker 1 next line) (shut (worker + 1) after) (follows worker) h
  lift (j ∷ before) after es next worker follows h =
      or_more (any_closes findings worker 1 j line) (shut (worker + 1) (before ++ es ∷ after)) (shut (worker + 1) (before ++ next ∷ after)) (lift before after es next (worker + 1) follows) h

  closed_more : (journals more : List (List Attempt)) (worker : ℕ) → shut worker journals ≡ true → shut worker (journals ++ more) ≡ true
  closed_more [] more worker h = absurd (cc)
  closed_more (j ∷ journals) more worker h = or_more (any_closes findings worker 1 j line) (shut (worker + 1) journals) (shut (worker + 1) (journals ++ more)) (closed_more journals more (worker + 1)) h

  closed_at : (before after : List (List Attempt)) (es : List Attempt) (worker : ℕ) → any_closes findings (worker + length before) 1 es line ≡ true → shut worker (before ++ es ∷ after) ≡ true
  closed_at [] after es worker h = let same : worker + 0 ≡ worker = omega arith in ap (λ b. b || shut (worker + 1) after) (ap (λ w. any_closes findings w 1 es line) (sym same) ∙ h)
  closed_at (j ∷ before) after es worker h =
      let same : worker + length (j ∷ before) ≡ (worker + 1) + length before = omega arith in
      or_more (any_closes findings worker 1 j line) true (shut (worker + 1) (before ++ es ∷ after)) (λ t. closed_at before after es (worker + 1) (ap (λ w. any_closes findings w 1 es line) (sym same) ∙ h)) (or_true (any_closes findings worker 1 j line))
    where
      or_true : (b : Bool) → (b || true) ≡ true
      or_true true = refl
      or_true false = refl

  -- where closed follows from closed, open follows from open the other way
  contrary : (s t : Bool) → (s ≡ true → t ≡ true) → not t ≡ true → not s ≡ true
  contrary true t follows h = absurd (cc (follows refl, ap not (follows refl), h))
  contrary false t follows h = refl

  contrary_false : (s : Bool) → s ≡ true → not s ≡ false
  contrary_false s h = ap not h

  closed_from_false : (s : Bool) → not s ≡ false → s ≡ true
  closed_from_false true h = refl
  closed_from_false false h = absurd (cc)

  open_to_false : (s : Bool) → not s ≡ true → s ≡ false
  open_to_false true h = absurd (cc)
  open_to_false false h = refl

  pub law_journal : (journals more : List (List Attempt)) → is_open findings (journals ++ more) line ≡ true → is_open findings journals line ≡ true
  law_journal journals more = contrary (shut 1 journals) (shut 1 (journals ++ more)) (closed_more journals more 1)

  pub law_intent : (before after : List (List Attempt)) (es next : List Attempt) (l : Entry) → OpensNone l → noted count es l ≡ Some next → is_open findings (before ++ next ∷ after) line ≡ true → is_open findings (before ++ es ∷ after) line ≡ true
  law_intent before after es next l opens h = contrary (shut 1 (before ++ es ∷ after)) (shut 1 (before ++ next ∷ after)) (lift before after es next 1 (λ w. noted_opens_none count findings w line es next l opens h))

  pub law_missed : (before after : List (List Attempt)) (es next : List Attempt) (answers : List Entry) → AllByRecursion IsAnswer answers → journal_from count es answers ≡ Some next → is_open findings (before ++ es ∷ after) line ≡ true → is_open findings (before ++ next ∷ after) line ≡ true
  law_missed before after es next answers all h = contrary (shut 1 (before ++ next ∷ after)) (shut 1 (before ++ es ∷ after)) (lift before after next es 1 (λ w. answers_close_none count findings w line es next answers all h))

  pub law_closes : (before after : List (List Attempt)) (es mid next : List Attempt) (s t : ℕ) (entries : List Entry) → noted count es (Intent s line t) ≡ Some mid → NoneOpens s entries → journal_from count mid entries ≡ Some next → is_undone findings (length before + 1) s ≡ false → is_open findings (before ++ next ∷ after) line ≡ false
  law_closes before after es mid next s t entries put opens h f =
      let same : 1 + length before ≡ length before + 1 = omega arith in
      ap not (closed_at before after next 1 (intent_closes count findings (1 + length before) line es mid next s t entries put opens h (ap (λ w. is_undone findings w s) same ∙ f)))

  own_journal : (before after : List (List Attempt)) (es next : List Attempt) (l : Entry) (worker : ℕ) → noted count es l ≡ Some next → shut worker (before ++ es ∷ after) ≡ true → shut worker (before ++ next ∷ after) ≡ false → IsOfLine es (serial_of l) line
  own_journal [] after es next l worker h closed opened = by_head (any_closes findings worker 1 es line) (any_closes findings worker 1 next line) (shut (worker + 1) after) (noted_opens_own count findings worker line es next l h) closed opened
    where
      by_head : {P : Type 0} (s r t : Bool) → (s ≡ true → r ≡ false → P) → (s || t) ≡ true → (r || t) ≡ false → P
      by_head true true t follows c o = absurd (cc)
      by_head true false t follows c o = follows refl refl
      by_head false true t follows c o = absurd (cc)
      by_head false false t follows c o = absurd (cc (c, o))
  own_journal (j ∷ before) after es next l worker h closed opened =
      by_head (any_closes findings worker 1 j line) (shut (worker + 1) (before ++ es ∷ after)) (shut (worker + 1) (before ++ next ∷ after)) (own_journal before after es next l (worker + 1) h) closed opened
    where
      by_head : {P : Type 0} (s t u : Bool) → (t ≡ true → u ≡ false → P) → (s || t) ≡ true → (s || u) ≡ false → P
      by_head true t u follows c o = absurd (cc)
      by_head false t u follows c o = follows c o

  pub law_own : (before after : List (List Attempt)) (es next : List Attempt) (l : Entry) → noted count es l ≡ Some next → is_open findings (before ++ es ∷ after) line ≡ false → is_open findings (before ++ next ∷ after) line ≡ true → IsOfLine es (serial_of l) line
  law_own before after es next l h closed opened = own_journal before after es next l 1 h (closed_from_false (shut 1 (before ++ es ∷ after)) closed) (open_to_false (shut 1 (before ++ next ∷ after)) opened)

  journal_split : (es fs : List Attempt) (xs ys : List Entry) → journal_from count es (xs ++ ys) ≡ Some fs → (mid : List Attempt) × (journal_from count es xs ≡ Some mid) × (journal_from count mid ys ≡ Some fs)
  journal_split es fs [] ys h = (es, refl, h)
  journal_split es fs (x ∷ xs) ys h =
      let (first, is, rest) = next_line (noted count es x) (xs ++ ys) fs h in
      let (mid, front, back) = journal_split first fs xs ys rest in
      (mid, ap (λ o. option_and_then (λ (e : List Attempt). journal_from count e xs) o) is ∙ front, back)
    where
      next_line : (o : Option (List Attempt)) (entries : List Entry) (next : List Attempt) → option_and_then (λ (e : List Attempt). journal_from count e entries) o ≡ Some next → (mid : List Attempt) × (o ≡ Some mid) × (journal_from count mid entries ≡ Some next)
      next_line None entries next n = absurd (cc)
      next_line (Some mid) entries next n = (mid, refl, n)

  pub closed_with : (before after : List (List Attempt)) (s : ℕ) (entries : List Entry) → HasIntent s line entries → is_undone findings (length before + 1) s ≡ false
      → (es : List Attempt) → journal_of count entries ≡ Some es → is_open findings (before ++ es ∷ after) line ≡ false
  closed_with before after s entries has f es h =
      let (front, time, back, split, opens) = has in
      let (mid, first, rest) = journal_split [] es front (Intent s line time ∷ back) (ap (journal_of count) (sym split) ∙ h) in
      let (next, put, more) = journal_split mid es (Intent s line time ∷ []) back rest in
      let one : noted count mid (Intent s line time) ≡ Some next = sym (only (noted count mid (Intent s line time))) ∙ put in
      law_closes before after mid next es s time back one opens more f
    where
      only : (o : Option (List Attempt)) → option_and_then (λ (e : List Attempt). Some e) o ≡ o
      only None = refl
      only (Some e) = refl

  pub has_more : (s : ℕ) (entries more : List Entry) → HasIntent s line entries → NoneOpens s more → HasIntent s line (entries ++ more)
  has_more s entries more has opens =
      let (front, time, back, split, none) = has in
      (front, time, back ++ more, ap (λ ls. ls ++ more) split ∙ append_assoc front (Intent s line time ∷ back) more, none_more back none)
    where
      none_more : (ls : List Entry) → NoneOpens s ls → NoneOpens s (ls ++ more)
      none_more [] n = opens
      none_more (x ∷ ls) n = (n.0, none_more ls n.1)

  pub has_after : (s : ℕ) (entries more : List Entry) → HasIntent s line more → HasIntent s line (entries ++ more)
  has_after s entries more has =
      let (front, time, back, split, none) = has in
      (entries ++ front, time, back, ap (λ ls. entries ++ ls) split ∙ sym (append_assoc entries front (Intent s line time ∷ back)), none)
