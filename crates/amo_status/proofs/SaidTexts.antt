-- The text that is printed of an answer is read as that answer, and a text that is read was printed
-- so.
use Rattle.std.proofs.Common.{◌≡◌, ◌≢◌, inl, inr, ℕ, ◌+◌, ◌-◌, ◌^◌, ◌<◌, Bool, true, false, cond, List, [], ◌∷◌, ◌++◌, length, take, drop, map, Option, Some, None, refl, sym, ap, subst, ◌∙◌, arith, append_assoc, length-append}
use Rattle.std.specs.Prelude.{not, ◌==◌, nat_lt, codes, option_and_then, position, IfSome, IfNone}
use Rattle.std.specs.Fmt.{decimal}
use Rattle.std.specs.List.{AllByRecursion, after_first, before_first, position_or_len}
use Rattle.std.specs.Str.{bytes_eq}
use Rattle.std.proofs.lemmas.Bool.{eqb-true, lt-ltb, ltb-true}
use Rattle.std.proofs.lemmas.List.{append-nil, drop_at, drop-drop, take_at, take_rest, take-append-drop}
use Rattle.std.proofs.lemmas.List.Sums.{passes_at_first, split_at_first}
use Rattle.std.proofs.lemmas.Slice.Eq.{bytes_eq-Decides}
use Rattle.amo_run_log.specs.declared.finding.Resolution.{Resolution}
use Rattle.amo_run_log.specs.declared.finding.Resolution.TheVariants.{Done, NotDone}
use Rattle.amo_run_log.specs.Findings.{verdict_in, word_of}
use Rattle.amo_decimal.specs.Numbers.{number_in}
use Rattle.amo_run_log.specs.Texts.{ended}
use Rattle.amo_decimal.proofs.NumberTexts.{printed_of_read, reads_printed}
use Rattle.amo_run_log.proofs.Words.{Lacks, and_then_some, blank_and, decimal_lacks, either_way, equal, lacks_append, lacks_by_test, not_equal}
use Rattle.amo_status.specs.declared.state.AttemptId.{AttemptId}
use Rattle.amo_status.specs.declared.standing.LineStatus.{LineStatus}
use Rattle.amo_status.specs.declared.state.State.{State}
use Rattle.amo_status.specs.declared.state.State.TheVariants.{Open}
use Rattle.amo_status.specs.States.{is}
use Rattle.amo_status.specs.Rows.{kind_head, kind_row}
use Rattle.amo_status.specs.Said.{SaidView, FitsSaid, intent_in, intent_text, lines_from, lines_in, place_in, said_in, said_text, split_at, verdict_behind, words_in}

-- the texts before a byte and after it

place : (c : ℕ) (w r : List ℕ) → Lacks c w → position_or_len (λ b. b == c) (w ++ c ∷ r) ≡ length w
place c [] r lacks = ap (λ t. cond (not t) (1 + position_or_len (λ b. b == c) r) 0) (equal c c refl)
place c (b ∷ w) r lacks = ap (λ t. cond (not t) (1 + position_or_len (λ d. d == c) (w ++ c ∷ r)) 0) (not_equal b c lacks.0) ∙ omega (arith, place c w r lacks.1)

abbrev pair : List ℕ → List ℕ → Option (List ℕ × List ℕ)
pair a b = Some (a, b)

split_reads : (c : ℕ) (w r : List ℕ) → Lacks c w → split_at c (w ++ c ∷ r) ≡ Some (w, r)
split_reads c w r lacks =
    let text = w ++ c ∷ r in
    let at : position_or_len (λ b. b == c) text ≡ length w = place c w r lacks in
    ap (λ t. cond t (pair (before_first (λ b. b == c) text) (after_first (λ b. b == c) text)) None) (lt-ltb (position_or_len (λ b. b == c) text) (length text) (omega (arith, at, length-append w (c ∷ r))))
    ∙ ap (λ n. pair (take n text) (drop (n + 1) text)) at
    ∙ ap (λ x. pair x (drop (length w + 1) text)) (take_at w (c ∷ r) (length w) refl)
    ∙ ap (pair w) (ap (drop (length w + 1)) (sym (append_assoc w (c ∷ []) r)) ∙ drop_at (w ++ c ∷ []) r (length w + 1) (length-append w (c ∷ [])))

split_printed : (c : ℕ) (text : List ℕ) (p : List ℕ × List ℕ) → split_at c text ≡ Some p → text ≡ p.0 ++ c ∷ p.1
split_printed c text p h =
    let (there, some) = blank_and (nat_lt (position_or_len (λ b. b == c) text) (length text)) (pair (before_first (λ b. b == c) text) (after_first (λ b. b == c) text)) p h in
    let at = ltb-true (position_or_len (λ b. b == c) text) (length text) there in
    let is : (before_first (λ b. b == c) text, after_first (λ b. b == c) text) ≡ p = cc in
    subst (λ (q : List ℕ × List ℕ). text ≡ q.0 ++ c ∷ q.1) is
    (split_at_first (λ b. b == c) text 0 at
    ∙ ap (λ n. before_first (λ b. b == c) text ++ n ∷ after_first (λ b. b == c) text) (eqb-true _ c (passes_at_first (λ b. b == c) text 0 at)))

-- the byte was looked for and found

pub found_at : (c : ℕ) (text : List ℕ) (at : ℕ) → Some at ≡ position (λ b. b == c) text → Some (take at text, take (length text - (at + 1)) (drop (at + 1) text)) ≡ split_at c text
found_at c text at h =
    let (there, some) = blank_and (nat_lt (position_or_len (λ b. b == c) text) (length text)) (Some (position_or_len (λ b. b == c) text)) at (sym h) in
    let is : position_or_len (λ b. b == c) text ≡ at = cc in
    ap (pair (take at text)) (take_rest text (at + 1))
    ∙ sym (ap (λ t. cond t (pair (before_first (λ b. b == c) text) (after_first (λ b. b == c) text)) None) there ∙ ap (λ n. pair (take n text) (drop (n + 1) text)) is)

pub found_nowhere : (c : ℕ) (text : List ℕ) → None ≡ position (λ b. b == c) text → None ≡ split_at c text
found_nowhere c text h = by_test (nat_lt (position_or_len (λ b. b == c) text) (length text)) refl h
  where
    by_test : (t : Bool) → nat_lt (position_or_len (λ b. b == c) text) (length text) ≡ t → None ≡ cond t (Some (position_or_len (λ b. b == c) text)) None → None ≡ split_at c text
    by_test true e x = absurd (cc)
    by_test false e x = ap (λ t. cond t (pair (before_first (λ b. b == c) text) (after_first (λ b. b == c) text)) None) (sym e)

-- an intent

abbrev intent_with : Option ℕ → Option ℕ → Option AttemptId
intent_with worker serial = option_and_then (λ (w : ℕ). option_and_then (λ (s : ℕ). Some (record { worker = w; serial = s })) serial) worker

intent_reads : (w s : ℕ) → w < 2 ^ 64 → s < 2 ^ 64 → intent_in (intent_text w s) ≡ Some (record { worker = w; serial = s })
intent_reads w s fw fs =
    ap (λ o. option_and_then (λ (p : List ℕ × List ℕ). intent_with (number_in p.0) (number_in p.1)) o) (split_reads 46 (decimal w) (decimal s) (decimal_lacks 46 w (omega arith) fw))
    ∙ ap (λ o. intent_with o (number_in (decimal s))) (reads_printed w fw)
    ∙ ap (λ o. intent_with (Some w) o) (reads_printed s fs)

abbrev IsIntentText : List ℕ → AttemptId → Type 0
IsIntentText text i = (intent_text i.worker i.serial ≡ text) × (i.worker < 2 ^ 64) × (i.serial < 2 ^ 64)

intent_printed : (text : List ℕ) (i : AttemptId) → intent_in text ≡ Some i → IsIntentText text i
intent_printed text i h =
    let (p, cut, more) = and_then_some _ (split_at 46 text) i h in
    let (w, first, rest) = and_then_some _ (number_in p.0) i more in
    let (s, second, some) = and_then_some _ (number_in p.1) i rest in
    let (w_is, fw) = printed_of_read p.0 w first in
    let (s_is, fs) = printed_of_read p.1 s second in
    let is : record { worker = w; serial = s } ≡ i = cc in
    subst (IsIntentText text) is (ap (λ x. x ++ 46 ∷ decimal s) w_is ∙ ap (λ x. p.0 ++ 46 ∷ x) s_is ∙ sym (split_printed 46 text p cut), fw, fs)

intent_lacks : (w s : ℕ) → w < 2 ^ 64 → s < 2 ^ 64 → Lacks 9 (intent_text w s)
intent_lacks w s fw fs = lacks_append 9 (decimal w) (46 ∷ decimal s) (decimal_lacks 9 w (omega arith) fw) ((λ e. omega arith), decimal_lacks 9 s (omega arith) fs)

-- an intent and a line

abbrev place_with : Option AttemptId → Option ℕ → Option (AttemptId × ℕ)
place_with intent line = option_and_then (λ (i : AttemptId). option_and_then (λ (n : ℕ). Some (i, n)) line) intent

place_reads : (w s n : ℕ) → w < 2 ^ 64 → s < 2 ^ 64 → n < 2 ^ 64 → place_in (intent_text w s) (decimal n) ≡ Some (record { worker = w; serial = s }, n)
place_reads w s n fw fs fn = ap (λ o. place_with o (number_in (decimal n))) (intent_reads w s fw fs) ∙ ap (λ o. place_with (Some (record { worker = w; serial = s })) o) (reads_printed n fn)

abbrev IsPlaceText : List ℕ → List ℕ → AttemptId × ℕ → Type 0
IsPlaceText intent line p = IsIntentText intent p.0 × (decimal p.1 ≡ line) × (p.1 < 2 ^ 64)

place_printed : (intent line : List ℕ) (p : AttemptId × ℕ) → place_in intent line ≡ Some p → IsPlaceText intent line p
place_printed intent line p h =
    let (i, first, more) = and_then_some _ (intent_in intent) p h in
    let (n, second, some) = and_then_some _ (number_in line) p more in
    let (n_is, fn) = printed_of_read line n second in
    let is : (i, n) ≡ p = cc in
    subst (IsPlaceText intent line) is (intent_printed intent i first, n_is, fn)

-- a verdict

verdict_reads : (v : Resolution) → verdict_in (word_of v) ≡ Some v
verdict_reads Done = refl
verdict_reads NotDone = refl

verdict_printed : (w : List ℕ) (v : Resolution) → verdict_in w ≡ Some v → word_of v ≡ w
verdict_printed w v h = elim (either_way (bytes_eq w (codes "done")) _ _ (Some v) h) [
  | inl t ↦ let is : Done ≡ v = cc in ap word_of (sym is) ∙ sym ((bytes_eq-Decides w (codes "done")).0 t.0)
  | inr f ↦ elim (either_way (bytes_eq w (codes "not-done")) _ _ (Some v) f.1) [
    | inl t ↦ let is : NotDone ≡ v = cc in ap word_of (sym is) ∙ sym ((bytes_eq-Decides w (codes "not-done")).0 t.0)
    | inr z ↦ absurd (none_some z.1)
  ]
]
  where
    none_some : None ≡ Some v → ⊥
    none_some x = cc

-- three words

abbrev words_with : Option (AttemptId × ℕ) → Option Resolution → Option (AttemptId × ℕ × Resolution)
words_with place verdict = option_and_then (λ (p : AttemptId × ℕ). option_and_then (λ (v : Resolution). Some (p.0, p.1, v)) verdict) place

words_read : (w s n : ℕ) (v : Resolution) → w < 2 ^ 64 → s < 2 ^ 64 → n < 2 ^ 64 → words_in (intent_text w s) (decimal n) (word_of v) ≡ Some (record { worker = w; serial = s }, n, v)
words_read w s n v fw fs fn = ap (λ o. words_with o (verdict_in (word_of v))) (place_reads w s n fw fs fn) ∙ ap (λ o. words_with (Some (record { worker = w; serial = s }, n)) o) (verdict_reads v)

abbrev AreWordsOf : List ℕ → List ℕ → List ℕ → AttemptId × ℕ × Resolution → Type 0
AreWordsOf intent line verdict o = (intent_text o.0.worker o.0.serial ≡ intent) × (decimal o.1 ≡ line) × (word_of o.2 ≡ verdict)

words_printed : (intent line verdict : List ℕ) (o : AttemptId × ℕ × Resolution) → words_in intent line verdict ≡ Some o → AreWordsOf intent line verdict o
words_printed intent line verdict o h =
    let (p, first, more) = and_then_some _ (place_in intent line) o h in
    let (v, second, some) = and_then_some _ (verdict_in verdict) o more in
    let placed = place_printed intent line p first in
    let is : (p.0, p.1, v) ≡ o = cc in
    subst (AreWordsOf intent line verdict) is (placed.0.0, placed.1, verdict_printed verdict v second)

pub words_found : (intent line verdict : List ℕ) (r : Option (AttemptId × ℕ × Resolution)) → r ≡ words_in intent line verdict → IfSome r (AreWordsOf intent line verdict)
words_found intent line verdict None is = tt
words_found intent line verdict (Some o) is = words_printed intent line verdict o (sym is)

pub words_none : (intent line verdict : List ℕ) (r : Option (AttemptId × ℕ × Resolution)) → r ≡ words_in intent line verdict
    → IfNone r ((w s n : ℕ) (v : Resolution) → w < 2 ^ 64 → s < 2 ^ 64 → n < 2 ^ 64 → intent_text w s ≡ intent → decimal n ≡ line → word_of v ≡ verdict → ⊥)
words_none intent line verdict (Some o) is = tt
words_none intent line verdict None is =
    λ w s n v fw fs fn i_is n_is v_is.
    never (is ∙ ap (λ x. words_in x line verdict) (sym i_is) ∙ ap (λ x. words_in (intent_text w s) x verdict) (sym n_is) ∙ ap (words_in (intent_text w s) (decimal n)) (sym v_is) ∙ words_read w s n v fw fs fn)
  where
    never : {A : Type 0} {x : A} → None ≡ Some x → ⊥
    never e = cc

-- the verdict that stands last

abbrev before_done : List ℕ
before_done = 9 ∷ codes "done"

abbrev before_not_done : List ℕ
before_not_done = 9 ∷ codes "not-done"

abbrev parted : Bool → Bool → List ℕ → List ℕ → Option (List ℕ × Resolution)
parted done not_done a b = cond done (Some (a, Done)) (cond not_done (Some (b, NotDone)) None)

behind_reads : (t : List ℕ) (v : Resolution) → verdict_behind (t ++ 9 ∷ word_of v) ≡ Some (t, v)
behind_reads t Done =
    let text = t ++ before_done in
    let at : length text - 5 ≡ length t = omega (arith, length-append t before_done) in
    ap (λ b. parted b (bytes_eq (drop (length text - 9) text) before_not_done) (take (length text - 5) text) (take (length text - 9) text))
    ((bytes_eq-Decides (drop (length text - 5) text) before_done).1 (ap (λ n. drop n text) at ∙ drop_at t before_done (length t) refl))
    ∙ ap (λ x. parted true false x x) (ap (λ n. take n text) at ∙ take_at t before_done (length t) refl)
behind_reads t NotDone =
    let text = t ++ before_not_done in
    let at : length text - 9 ≡ length t = omega (arith, length-append t before_not_done) in
    let nearer : length text - 5 ≡ length t + 4 = omega (arith, length-append t before_not_done) in
    let ends : drop (length text - 5) text ≡ codes "-done" = ap (λ n. drop n text) nearer ∙ sym (drop-drop 4 (length t) text) ∙ ap (drop 4) (drop_at t before_not_done (length t) refl) in
    ap (λ l. parted (bytes_eq l before_done) (bytes_eq (drop (length text - 9) text) before_not_done) (take (length text - 5) text) (take (length text - 9) text)) ends
    ∙ ap (λ b. parted false b (take (length text - 5) text) (take (length text - 9) text))
    ((bytes_eq-Decides (drop (length text - 9) text) before_not_done).1 (ap (λ n. drop n text) at ∙ drop_at t before_not_done (length t) refl))
    ∙ ap (λ x. parted false true x x) (ap (λ n. take n text) at ∙ take_at t before_not_done (length t) refl)

behind_printed : (text : List ℕ) (p : List ℕ × Resolution) → verdict_behind text ≡ Some p → text ≡ p.0 ++ 9 ∷ word_of p.1
behind_printed text p h = elim (either_way (bytes_eq (drop (length text - 5) text) before_done) _ _ (Some p) h) [
  | inl t ↦
      let is : (take (length text - 5) text, Done) ≡ p = cc in
      subst (λ (q : List ℕ × Resolution). text ≡ q.0 ++ 9 ∷ word_of q.1) is
      (sym (take-append-drop (length text - 5) text) ∙ ap (λ l. take (length text - 5) text ++ l) ((bytes_eq-Decides (drop (length text - 5) text) before_done).0 t.0))
  | inr f ↦
      let (same, some) = blank_and (bytes_eq (drop (length text - 9) text) before_not_done) _ p f.1 in
      let is : (take (length text - 9) text, NotDone) ≡ p = cc in
      subst (λ (q : List ℕ × Resolution). text ≡ q.0 ++ 9 ∷ word_of q.1) is
      (sym (take-append-drop (length text - 9) text) ∙ ap (λ l. take (length text - 9) text ++ l) ((bytes_eq-Decides (drop (length text - 9) text) before_not_done).0 same))
]

-- an answer

abbrev said_with : Option (List ℕ × Resolution) → Option (AttemptId × ℕ) → Option SaidView
said_with behind place =
    option_and_then (λ (t : List ℕ × Resolution). option_and_then (λ (p : AttemptId × ℕ). Some (record { worker = p.0.worker; serial = p.0.serial; line = p.1; text = t.0; verdict = t.1 })) place) behind

pub said_reads : (s : SaidView) → FitsSaid s → said_in (said_text s) ≡ Some s
said_reads s fits =
    let intent = intent_text s.worker s.serial in
    let rest = s.text ++ 9 ∷ word_of s.verdict in
    ap (λ o. option_and_then (λ (a : List ℕ × List ℕ). option_and_then (λ (b : List ℕ × List ℕ). said_with (verdict_behind b.1) (place_in a.0 b.0)) (split_at 9 a.1)) o)
    (split_reads 9 intent (decimal s.line ++ 9 ∷ rest) (intent_lacks s.worker s.serial fits.0 fits.1))
    ∙ ap (λ o. option_and_then (λ (b : List ℕ × List ℕ). said_with (verdict_behind b.1) (place_in intent b.0)) o) (split_reads 9 (decimal s.line) rest (decimal_lacks 9 s.line (omega arith) fits.2))
    ∙ ap (λ o. said_with o (place_in intent (decimal s.line))) (behind_reads s.text s.verdict)
    ∙ ap (λ o. said_with (Some (s.text, s.verdict)) o) (place_reads s.worker s.serial s.line fits.0 fits.1 fits.2)

abbrev IsSaidText : List ℕ → SaidView → Type 0
IsSaidText bytes s = (said_text s ≡ bytes) × FitsSaid s

pub said_printed : (bytes : List ℕ) (s : SaidView) → said_in bytes ≡ Some s → IsSaidText bytes s
said_printed bytes s h =
    let (a, first, more) = and_then_some _ (split_at 9 bytes) s h in
    let (b, second, rest) = and_then_some _ (split_at 9 a.1) s more in
    let (t, third, last) = and_then_some _ (verdict_behind b.1) s rest in
    let (p, fourth, some) = and_then_some _ (place_in a.0 b.0) s last in
    let placed = place_printed a.0 b.0 p fourth in
    let is : record { worker = p.0.worker; serial = p.0.serial; line = p.1; text = t.0; verdict = t.1 } ≡ s = cc in
    subst (IsSaidText bytes) is (
      ap (λ x. x ++ 9 ∷ (decimal p.1 ++ 9 ∷ (t.0 ++ 9 ∷ word_of t.1))) placed.0.0
          ∙ ap (λ x. a.0 ++ 9 ∷ (x ++ 9 ∷ (t.0 ++ 9 ∷ word_of t.1))) placed.1
          ∙ ap (λ x. a.0 ++ 9 ∷ (b.0 ++ 9 ∷ x)) (sym (behind_printed b.1 t third))
          ∙ ap (λ x. a.0 ++ 9 ∷ x) (sym (split_printed 9 a.1 b second))
          ∙ sym (split_printed 9 bytes a first),
      (placed.0.1, placed.0.2, placed.2),
    )

-- lines that are ended, cut again

cut_one : (text begun rest : List ℕ) → Lacks 10 text → lines_from (text ++ 10 ∷ rest) begun ≡ (begun ++ text) ∷ lines_from rest []
cut_one [] begun rest lacks = ap (λ (l : List ℕ). l ∷ lines_from rest []) (sym (append-nil begun))
cut_one (b ∷ text) begun rest lacks =
    ap (λ (t : Bool). cond t (begun ∷ lines_from (text ++ 10 ∷ rest) []) (lines_from (text ++ 10 ∷ rest) (begun ++ b ∷ []))) (not_equal b 10 lacks.0)
    ∙ cut_one text (begun ++ b ∷ []) rest lacks.1
    ∙ ap (λ (l : List ℕ). l ∷ lines_from rest []) (append_assoc begun (b ∷ []) text)

pub cuts : (texts : List (List ℕ)) → AllByRecursion (Lacks 10) texts → lines_in (ended texts) ≡ texts
cuts [] all = refl
cuts (text ∷ texts) all = cut_one text [] (ended texts) all.0 ∙ ap (λ ts. text ∷ ts) (cuts texts all.1)

-- the text of an answer is one line

word_lacks : (v : Resolution) → Lacks 10 (word_of v)
word_lacks Done = lacks_by_test 10 (codes "done") refl
word_lacks NotDone = lacks_by_test 10 (codes "not-done") refl

text_lacks : (s : SaidView) → FitsSaid s → Lacks 10 s.text → Lacks 10 (said_text s)
text_lacks s fits lack =
    lacks_append 10 (decimal s.worker ++ 46 ∷ decimal s.serial) (9 ∷ (decimal s.line ++ 9 ∷ (s.text ++ 9 ∷ word_of s.verdict)))
    (lacks_append 10 (decimal s.worker) (46 ∷ decimal s.serial) (decimal_lacks 10 s.worker (omega arith) fits.0) ((λ e. omega arith), decimal_lacks 10 s.serial (omega arith) fits.1)) (
      (λ e. omega arith),
      lacks_append 10 (decimal s.line) (9 ∷ (s.text ++ 9 ∷ word_of s.verdict)) (decimal_lacks 10 s.line (omega arith) fits.2)
          ((λ e. omega arith), lacks_append 10 s.text (9 ∷ word_of s.verdict) lack ((λ e. omega arith), word_lacks s.verdict)),
    )

pub texts_lack : (answers : List SaidView) → AllByRecursion FitsSaid answers → AllByRecursion (λ (s : SaidView). AllByRecursion (λ b. b ≢ 10) s.text) answers → AllByRecursion (Lacks 10) (map said_text answers)
texts_lack [] fit lack = tt
texts_lack (s ∷ answers) fit lack = (text_lacks s fit.0 lack.0, texts_lack answers fit.1 lack.1)

-- a row that a verdict follows

regroup : (a b c t v : List ℕ) → ((a ++ 46 ∷ (b ++ 9 ∷ (c ++ 9 ∷ []))) ++ t) ++ 9 ∷ v ≡ (a ++ 46 ∷ b) ++ 9 ∷ (c ++ 9 ∷ (t ++ 9 ∷ v))
regroup a b c t v = simp append_assoc

pub row_is_answer : (kind : State) (line : ℕ) (s : LineStatus) (text : List ℕ) (v : Resolution) → is Open s.state ≡ false → is kind s.state ≡ true
    → (row : List ℕ) × (kind_row kind line s text ≡ row ++ 10 ∷ []) × (row ++ 9 ∷ word_of v ≡ said_text (record { worker = s.worker; serial = s.serial; line = line; text = text; verdict = v }))
row_is_answer kind line s text v closed of_kind =
    let head : List ℕ = decimal s.worker ++ 46 ∷ (decimal s.serial ++ 9 ∷ (decimal line ++ 9 ∷ [])) in (
      head ++ text,
      ap (λ b. cond b (kind_head line s ++ (text ++ 10 ∷ [])) []) of_kind
          ∙ ap (λ b. cond b (45 ∷ 9 ∷ (decimal line ++ 9 ∷ [])) head ++ (text ++ 10 ∷ [])) closed
          ∙ sym (append_assoc head text (10 ∷ [])),
      regroup (decimal s.worker) (decimal s.serial) (decimal line) text (word_of v),
    )
