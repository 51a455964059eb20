-- Each crash leaves a file that is read: whole appends, and then at most what was cut off.
use Rattle.std.proofs.Common.{◌≡◌, ◌≢◌, ◌⊎◌, inl, inr, ⊎_elim, ℕ, zero, suc, ◌+◌, ◌-◌, ◌≤◌, List, [], ◌∷◌, ◌++◌, length, get_or, take, drop, Some, refl, sym, ◌∙◌, ap, subst, arith, append_assoc, length-append, length-take, take-append-drop}
use Rattle.std.specs.List.{slice_get}
use Rattle.std.proofs.lemmas.Bool.{cases_lt}
use Rattle.std.proofs.lemmas.List.{append-nil}
use Rattle.amo_journal.specs.Device.{Cut, Holds, Torn, TornFrom, WritesFront}
use Rattle.amo_journal.specs.Texts.{IsOneLine, AreOneLine, texts_in, blocks, at_rest}
use Rattle.amo_journal.specs.Appends.{IsCutOff, IsCutOffAppend, IsNextByte, longest}
use Rattle.amo_journal.specs.Journal.{IsNear, IsShut, IsWhole}
use Rattle.amo_journal.proofs.Blocks.{all_push, blocks-push, closed, texts_in-blocks}
use Rattle.amo_journal.proofs.Ending.{close_done, torn_short}
use Rattle.amo_journal.proofs.Moments.{IsShort}
use Rattle.amo_journal.proofs.Opening.{all_before, around, one_byte, shut_around, shut_texts}
use Rattle.amo_journal.proofs.Parts.{parts, take_past}
use Rattle.amo_journal.proofs.Places.{get-seam, same_push, within_get}
use Rattle.amo_journal.proofs.Putting.{behind, length-at_rest, length-staged, staged, torn_block, torn_rest}
use Rattle.amo_journal.proofs.Splits.{next_of}

-- what was cut off stands for no text
pub cut_off_nothing : (end : List ℕ) → IsCutOff end → texts_in end ≡ []
cut_off_nothing [] cut = refl
cut_off_nothing (b ∷ []) cut = closed b [] cut
cut_off_nothing (b ∷ c ∷ rest) cut = let is = cut.0 in closed b (c ∷ rest) (λ (opens : b ≡ 43). let both : 45 ≡ 43 = sym is ∙ opens in omega (arith, both))

pub whole_of : (texts : List (List ℕ)) (end file : List ℕ) → AreOneLine texts → file ≡ blocks texts ++ end → IsCutOff end → IsWhole file
whole_of texts end file all is cut =
    let stand : texts_in file ≡ texts = ap texts_in is ∙ texts_in-blocks texts end all ∙ ap (λ (ts : List (List ℕ)). texts ++ ts) (cut_off_nothing end cut) ∙ append-nil texts in
    record { end = end; file_is = is ∙ ap (λ (ts : List (List ℕ)). blocks ts ++ end) (sym stand); cut_off = cut }

pub closed_cut_off : (bytes : List ℕ) → IsCutOffAppend bytes → IsCutOff (45 ∷ bytes)
closed_cut_off [] cut = λ (is : 45 ≡ 43). omega (arith, is)
closed_cut_off (b ∷ bytes) cut = (refl, cut)

-- of an append that is torn each byte came, or it is 0
abbrev CameOrNone : List ℕ → List ℕ → Type 0
CameOrNone text bytes = (i b : ℕ) → slice_get bytes i ≡ Some b → (slice_get (behind text) i ≡ Some b) ⊎ (b ≡ 0)

-- such bytes have one line feed at most
abbrev TornForm : List ℕ → Type 0
TornForm bytes = IsOneLine bytes ⊎ ((line : List ℕ) × (next : List ℕ) × (bytes ≡ line ++ 10 ∷ next) × IsOneLine line × IsNextByte next)

no_feed_zero : (b : ℕ) → b ≡ 0 → b ≢ 10
no_feed_zero b is feed = let both : 0 ≡ 10 = sym is ∙ feed in omega (arith, both)

same_byte_of : (a b : ℕ) → Some a ≡ Some b → a ≡ b
same_byte_of a b is = cc is

with_one_more : (a : ℕ) (bytes : List ℕ) → a ≢ 10 → TornForm bytes → TornForm (a ∷ bytes)
with_one_more a bytes isnt (inl one) = inl (isnt, one)
with_one_more a bytes isnt (inr (line, next, is, one, byte)) = inr (a ∷ line, next, ap (λ (l : List ℕ). a ∷ l) is, (isnt, one), byte)

torn_feed : (a : ℕ) (next : List ℕ) → a ≡ 10 → IsNextByte next → TornForm (a ∷ next)
torn_feed a next is byte = inr ([], next, ap (λ (n : ℕ). n ∷ next) is, tt, byte)

torn_form : (text bytes : List ℕ) → IsOneLine text → length bytes ≤ length text + 2 → CameOrNone text bytes → TornForm bytes
torn_form text [] one short each = inl tt
torn_form [] (a ∷ []) one short each = ⊎_elim
    (λ (came : Some 10 ≡ Some a). torn_feed a [] (sym (same_byte_of 10 a came)) tt)
    (λ (none : a ≡ 0). inl (no_feed_zero a none, tt))
    (each 0 a refl)
torn_form [] (a ∷ b ∷ []) one short each = ⊎_elim
    (λ (came : Some 10 ≡ Some a). torn_feed a (b ∷ []) (sym (same_byte_of 10 a came)) (⊎_elim (λ (last : Some 45 ≡ Some b). inl (sym (same_byte_of 45 b last))) (λ (none : b ≡ 0). inr none) (each 1 b refl)))
    (λ (none : a ≡ 0). with_one_more a (b ∷ []) (no_feed_zero a none)
    (⊎_elim
    (λ (last : Some 45 ≡ Some b). let is = same_byte_of 45 b last in inl ((λ (feed : b ≡ 10). let both : 45 ≡ 10 = is ∙ feed in omega (arith, both)), tt))
    (λ (zero_byte : b ≡ 0). inl (no_feed_zero b zero_byte, tt))
    (each 1 b refl)))
    (each 0 a refl)
torn_form [] (a ∷ b ∷ c ∷ rest) one short each = absurd (omega (arith, short))
torn_form (t ∷ text) (a ∷ bytes) one short each =
    let isnt : a ≢ 10 = ⊎_elim
    (λ (came : Some t ≡ Some a). λ (feed : a ≡ 10). one.0 (same_byte_of t a came ∙ feed))
    (λ (none : a ≡ 0). no_feed_zero a none)
    (each 0 a refl) in
    with_one_more a bytes isnt (torn_form text bytes one.1 (omega (arith, short)) (λ i b. each (suc i) b))

-- what is left of an append that is torn
pub torn_append : (text bytes : List ℕ) → IsOneLine text → length text + 2 ≤ longest → length bytes ≤ length text + 2 → CameOrNone text bytes → IsCutOffAppend bytes
torn_append text bytes one fits short each = (omega (arith, fits, short), torn_form text bytes one short each)

-- the whole of one
whole_append : (text : List ℕ) → IsOneLine text → length text + 2 ≤ longest → IsCutOffAppend (behind text)
whole_append text one fits = (omega (arith, fits, length-append text (10 ∷ 45 ∷ [])), inr (text, 45 ∷ [], refl, one, inl refl))

get-take : (k : ℕ) (xs : List ℕ) (i b : ℕ) → slice_get (take k xs) i ≡ Some b → slice_get xs i ≡ Some b
get-take zero xs i b is = absurd (cc is)
get-take (suc k) [] i b is = absurd (cc is)
get-take (suc k) (x ∷ xs) zero b is = is
get-take (suc k) (x ∷ xs) (suc i) b is = get-take k xs i b is

get-behind : (xs ys : List ℕ) (i j : ℕ) → j ≡ length xs + i → slice_get (xs ++ ys) j ≡ slice_get ys i
get-behind [] ys i j is = let same : j ≡ i = omega (arith, is) in ap (λ (n : ℕ). slice_get ys n) same
get-behind (x ∷ xs) ys i zero is = absurd (omega (arith, is))
get-behind (x ∷ xs) ys i (suc j) is = get-behind xs ys i j (omega (arith, is))

-- ---- the two steps of an append

module _ (texts : List (List ℕ)) (all : AreOneLine texts) (gate : ℕ) (stands : gate ≡ length (blocks texts)) (text : List ℕ) (one : IsOneLine text) (fits : length text + 2 ≤ longest) where
  pub stage_read_whole : (k : ℕ) (seen : List ℕ) → seen ≡ at_rest texts ++ take k (behind text) → IsWhole seen
  stage_read_whole k seen is =
      let bytes = take k (behind text) in
      let short : length bytes ≤ length text + 2 = omega (arith, length-take k (behind text), length-append text (10 ∷ 45 ∷ [])) in
      whole_of texts (45 ∷ bytes) seen all (is ∙ append_assoc (blocks texts) (45 ∷ []) bytes)
      (closed_cut_off bytes (torn_append text bytes one fits short (λ i b here. inl (get-take k (behind text) i b here))))

  pub stage_crash_whole : (k n : ℕ) (read old c : List ℕ) → n ≡ length (behind text) → old ≡ at_rest texts → read ≡ at_rest texts ++ take k (behind text) → Torn (gate + 1) n read old c → IsWhole c
  stage_crash_whole k n read old c long is reads torn =
      let rest = drop (gate + 1) c in
      let split : c ≡ at_rest texts ++ rest = torn_rest texts all gate stands n read old c is torn in
      let at : length (at_rest texts) ≡ gate + 1 = length-at_rest texts all gate stands in
      let old_long : length old ≡ gate + 1 = ap length is ∙ at in
      let no_longer = torn.no_longer in
      let short : length rest ≤ length text + 2 = omega (arith, no_longer, old_long, long, length-append text (10 ∷ 45 ∷ []), ap length split, length-append (at_rest texts) rest, at) in
      let each : CameOrNone text rest = λ i b here.
      let place : gate + 1 + i ≡ length (at_rest texts) + i = omega (arith, at) in
      let there : slice_get c (gate + 1 + i) ≡ Some b = ap (λ (l : List ℕ). slice_get l (gate + 1 + i)) split ∙ get-behind (at_rest texts) rest i (gate + 1 + i) place ∙ here in
      ⊎_elim
      (λ (stood : slice_get old (gate + 1 + i) ≡ Some b). let inside = within_get old (gate + 1 + i) b stood in absurd (omega (arith, inside, old_long)))
      (λ other. ⊎_elim
      (λ (came : slice_get read (gate + 1 + i) ≡ Some b). inl (get-take k (behind text) i b
      (sym (get-behind (at_rest texts) (take k (behind text)) i (gate + 1 + i) place) ∙ sym (ap (λ (l : List ℕ). slice_get l (gate + 1 + i)) reads) ∙ came)))
      (λ (past : (length old ≤ gate + 1 + i) × (b ≡ 0)). inr past.1)
      other)
      (torn.each (gate + 1 + i) b there) in
      whole_of texts (45 ∷ rest) c all (split ∙ append_assoc (blocks texts) (45 ∷ []) rest) (closed_cut_off rest (torn_append text rest one fits short each))

  -- with its commit byte closed or open
  gate_form : (b : ℕ) (c : List ℕ) → (b ≡ 45) ⊎ (b ≡ 43) → c ≡ blocks texts ++ (b ∷ behind text) → IsWhole c
  gate_form b c (inl shut) is =
      whole_of texts (45 ∷ behind text) c all (is ∙ ap (λ (n : ℕ). blocks texts ++ (n ∷ behind text)) shut) (closed_cut_off (behind text) (whole_append text one fits))
  gate_form b c (inr opens) is =
      whole_of (texts ++ text ∷ []) (45 ∷ []) c (all_push texts text all one)
      (is ∙ ap (λ (n : ℕ). blocks texts ++ (n ∷ behind text)) opens ∙ sym (blocks-push texts text (45 ∷ []))) (λ (same : 45 ≡ 43). omega (arith, same))

  pub gate_read_whole : (seen : List ℕ) → (seen ≡ staged texts text) ⊎ (seen ≡ at_rest (texts ++ text ∷ [])) → IsWhole seen
  gate_read_whole seen (inl is) = gate_form 45 seen (inl refl) is
  gate_read_whole seen (inr is) = gate_form 43 seen (inr refl) (is ∙ blocks-push texts text (45 ∷ []))

  gate_byte : (read : List ℕ) (b : ℕ) → (read ≡ staged texts text) ⊎ (read ≡ at_rest (texts ++ text ∷ [])) → slice_get read gate ≡ Some b → (b ≡ 45) ⊎ (b ≡ 43)
  gate_byte read b (inl is) here = inl (sym (same_byte_of 45 b (sym (ap (λ (l : List ℕ). slice_get l gate) is ∙ get-seam (blocks texts) 45 (behind text) gate stands) ∙ here)))
  gate_byte read b (inr is) here = inr (sym (same_byte_of 43 b (sym (ap (λ (l : List ℕ). slice_get l gate) (is ∙ blocks-push texts text (45 ∷ [])) ∙ get-seam (blocks texts) 43 (behind text) gate stands) ∙ here)))

  pub gate_crash_whole : (read old c : List ℕ) → old ≡ staged texts text → (read ≡ staged texts text) ⊎ (read ≡ at_rest (texts ++ text ∷ [])) → Torn gate 1 read old c → IsWhole c
  gate_crash_whole read old c is reads torn =
      let b = get_or c gate 0 in
      let whole : c ≡ blocks texts ++ (b ∷ behind text) = torn_block texts all gate stands text read old c is torn in
      let here : slice_get c gate ≡ Some b = ap (λ (l : List ℕ). slice_get l gate) whole ∙ get-seam (blocks texts) b (behind text) gate stands in
      let long = length-staged texts all gate stands text in
      let old_long = ap length is in
      gate_form b c
      (⊎_elim
      (λ (stood : slice_get old gate ≡ Some b). gate_byte old b (inl is) stood)
      (λ other. ⊎_elim
      (λ (came : slice_get read gate ≡ Some b). gate_byte read b reads came)
      (λ (past : (length old ≤ gate) × (b ≡ 0)). let far = past.0 in absurd (omega (arith, far, old_long, long)))
      other)
      (torn.each gate b here))
      whole

-- ---- recovery

-- what is left of an end by a cut
front_next : (k : ℕ) (next : List ℕ) → IsNextByte next → IsNextByte (take k next)
front_next zero next byte = tt
front_next (suc k) [] byte = tt
front_next (suc zero) (b ∷ []) byte = byte
front_next (suc (suc k)) (b ∷ []) byte = byte
front_next (suc k) (b ∷ c ∷ rest) byte = absurd byte

front_one : (k : ℕ) (bytes : List ℕ) → IsOneLine bytes → IsOneLine (take k bytes)
front_one zero bytes one = tt
front_one (suc k) [] one = tt
front_one (suc k) (b ∷ bytes) one = (one.0, front_one k bytes one.1)

front_line : (k : ℕ) (line next : List ℕ) → IsOneLine line → IsNextByte next → TornForm (take k (line ++ 10 ∷ next))
front_line zero line next one byte = inl tt
front_line (suc k) [] next one byte = torn_feed 10 (take k next) refl (front_next k next byte)
front_line (suc k) (b ∷ line) next one byte = with_one_more b (take k (line ++ 10 ∷ next)) one.0 (front_line k line next one.1 byte)

front_form : (k : ℕ) (bytes : List ℕ) → TornForm bytes → TornForm (take k bytes)
front_form k bytes (inl one) = inl (front_one k bytes one)
front_form k bytes (inr (line, next, is, one, byte)) = subst (λ (l : List ℕ). TornForm (take k l)) (sym is) (front_line k line next one byte)

front_append : (k : ℕ) (bytes : List ℕ) → IsCutOffAppend bytes → IsCutOffAppend (take k bytes)
front_append k bytes cut = let short = cut.0 in (omega (arith, short, length-take k bytes), front_form k bytes cut.1)

front_cut_off : (k : ℕ) (end : List ℕ) → IsCutOff end → IsCutOff (take k end)
front_cut_off zero end cut = tt
front_cut_off (suc k) [] cut = tt
front_cut_off (suc zero) (b ∷ []) cut = cut
front_cut_off (suc (suc k)) (b ∷ []) cut = cut
front_cut_off (suc k) (b ∷ c ∷ rest) cut = subst (λ (n : ℕ). IsCutOff (n ∷ take k (c ∷ rest))) (sym cut.0) (closed_cut_off (take k (c ∷ rest)) (front_append k (c ∷ rest) cut.1))

append_cancel : (xs ys zs : List ℕ) → xs ++ ys ≡ xs ++ zs → ys ≡ zs
append_cancel [] ys zs is = is
append_cancel (x ∷ xs) ys zs is = let rest : xs ++ ys ≡ xs ++ zs = cc is in append_cancel xs ys zs rest

closed_parts : (b : ℕ) (line next : List ℕ) → IsCutOff (b ∷ line ++ 10 ∷ next) → (b ≡ 45) × IsCutOffAppend (line ++ 10 ∷ next)
closed_parts b [] next cut = cut
closed_parts b (l ∷ line) next cut = cut

next_cut_off : (next : List ℕ) → IsNextByte next → IsCutOff next
next_cut_off [] byte = tt
next_cut_off (b ∷ []) (inl is) = λ (opens : b ≡ 43). let both : 45 ≡ 43 = sym is ∙ opens in omega (arith, both)
next_cut_off (b ∷ []) (inr is) = λ (opens : b ≡ 43). let both : 0 ≡ 43 = sym is ∙ opens in omega (arith, both)
next_cut_off (b ∷ c ∷ rest) byte = absurd byte

-- the commit byte of the last append is written again
module _ (texts : List (List ℕ)) (all : AreOneLine texts) (before : List (List ℕ)) (last : List ℕ) (one : IsOneLine last) (are : texts ≡ before ++ last ∷ []) (gate : ℕ) (stands : gate ≡ length (blocks before)) where
  byte_at : (file : List ℕ) (b : ℕ) (end : List ℕ) → file ≡ blocks before ++ (b ∷ last ++ 10 ∷ end) → slice_get file gate ≡ Some b
  byte_at file b end is = ap (λ (l : List ℕ). slice_get l gate) is ∙ get-seam (blocks before) b (last ++ 10 ∷ end) gate stands

  open_form : (file end : List ℕ) → file ≡ blocks texts ++ end → file ≡ blocks before ++ (43 ∷ last ++ 10 ∷ end)
  open_form file end is = is ∙ ap (λ (ts : List (List ℕ)). blocks ts ++ end) are ∙ blocks-push before last end

  -- the byte of an outcome is that of the old one, or the open one
  next_byte : (read d c : List ℕ) (b was : ℕ) (end : List ℕ) → (r : List ℕ) → read ≡ blocks before ++ (43 ∷ last ++ 10 ∷ r) → d ≡ blocks before ++ (was ∷ last ++ 10 ∷ end) → Torn gate 1 read d c → slice_get c gate ≡ Some b → (b ≡ was) ⊎ (b ≡ 43)
  next_byte read d c b was end r reads is torn here = ⊎_elim
      (λ (stood : slice_get d gate ≡ Some b). inl (sym (same_byte_of was b (sym (byte_at d was end is) ∙ stood))))
      (λ other. ⊎_elim
      (λ (came : slice_get read gate ≡ Some b). inr (sym (same_byte_of 43 b (sym (byte_at read 43 r reads) ∙ came))))
      (λ (past : (length d ≤ gate) × (b ≡ 0)). let far = past.0 in let inside = within_get d gate was (byte_at d was end is) in absurd (omega (arith, far, inside)))
      other)
      (torn.each gate b here)

  opened : (c end : List ℕ) (b : ℕ) → b ≡ 43 → c ≡ blocks before ++ (b ∷ last ++ 10 ∷ end) → IsCutOff end → IsWhole c
  opened c end b opens is cut =
      whole_of texts end c all
      (is ∙ ap (λ (n : ℕ). blocks before ++ (n ∷ last ++ 10 ∷ end)) opens ∙ sym (blocks-push before last end) ∙ ap (λ (ts : List (List ℕ)). blocks ts ++ end) (sym are)) cut

  again_open : (read d c : List ℕ) → texts_in read ≡ texts → texts_in d ≡ texts → IsWhole d → Torn gate 1 read d c → IsWhole c
  again_open read d c reads is w torn =
      let form : d ≡ blocks before ++ (43 ∷ last ++ 10 ∷ w.end) = open_form d w.end (w.file_is ∙ ap (λ (ts : List (List ℕ)). blocks ts ++ w.end) is) in
      let whole = one_byte (blocks before) 43 (last ++ 10 ∷ w.end) gate stands read d c form torn in
      let byte = next_byte read d c (get_or c gate 0) 43 w.end (parts read).end (around texts all before last are gate stands read reads) form torn (byte_at c (get_or c gate 0) w.end whole) in
      opened c w.end (get_or c gate 0) (⊎_elim (λ is43. is43) (λ is43. is43) byte) whole w.cut_off

  again_shut : (read d c : List ℕ) → texts_in read ≡ texts → IsShut texts d → IsWhole d → Torn gate 1 read d c → IsWhole c
  again_shut read d c reads shut w torn =
      let form : d ≡ blocks before ++ (shut.gate ∷ last ++ 10 ∷ shut.end) = shut_around texts all before last are gate stands d shut in
      let same = same_push shut.before before shut.last last (sym shut.texts_are ∙ are) in
      let stand : texts_in d ≡ before = shut_texts texts d all shut ∙ same.0 in
      let end_is : w.end ≡ shut.gate ∷ last ++ 10 ∷ shut.end = append_cancel (blocks before) w.end (shut.gate ∷ last ++ 10 ∷ shut.end)
      (sym (w.file_is ∙ ap (λ (ts : List (List ℕ)). blocks ts ++ w.end) stand) ∙ form) in
      let cut = closed_parts shut.gate last shut.end (subst IsCutOff end_is w.cut_off) in
      let next = next_of (last ++ 10 ∷ shut.end) last shut.end cut.1 refl one in
      let whole = one_byte (blocks before) shut.gate (last ++ 10 ∷ shut.end) gate stands read d c form torn in
      let b = get_or c gate 0 in
      let byte = next_byte read d c b shut.gate shut.end (parts read).end (around texts all before last are gate stands read reads) form torn (byte_at c b shut.end whole) in
      ⊎_elim
      (λ (stays : b ≡ shut.gate). whole_of before (45 ∷ last ++ 10 ∷ shut.end) c (all_before before last (subst AreOneLine are all))
      (whole ∙ ap (λ (n : ℕ). blocks before ++ (n ∷ last ++ 10 ∷ shut.end)) (stays ∙ cut.0)) (closed_cut_off (last ++ 10 ∷ shut.end) cut.1))
      (λ (opens : b ≡ 43). opened c shut.end b opens whole (next_cut_off shut.end next))
      byte

  pub again_whole : (read : List ℕ) (old : List ℕ → Type 0) → texts_in read ≡ texts → ((c : List ℕ) → old c → IsNear texts c) → ((c : List ℕ) → old c → IsWhole c) → (c : List ℕ) → TornFrom gate 1 read old c → IsWhole c
  again_whole read old reads near whole c from = ⊎_elim
      (λ is. again_open read from.0 c reads is (whole from.0 from.1) from.2)
      (λ shut. again_shut read from.0 c reads shut (whole from.0 from.1) from.2)
      (near from.0 from.1)

-- what follows the appends is cut, and the commit byte closed
module _ (texts : List (List ℕ)) (all : AreOneLine texts) (end : ℕ) (stands : end ≡ length (blocks texts)) where
  form_of : (file : List ℕ) → texts_in file ≡ texts → (w : IsWhole file) → file ≡ blocks texts ++ w.end
  form_of file is w = w.file_is ∙ ap (λ (ts : List (List ℕ)). blocks ts ++ w.end) is

  pub cut_whole : (keep : ℕ) (d c : List ℕ) → end ≤ keep → texts_in d ≡ texts → IsWhole d → Cut keep d c → IsWhole c
  cut_whole keep d c le is w cut =
      let form = form_of d is w in
      let no_shorter = cut.no_shorter in
      let n = length c - length (blocks texts) in
      let split : c ≡ blocks texts ++ take n w.end = sym cut.front ∙ ap (λ (l : List ℕ). take (length c) l) form
      ∙ take_past (blocks texts) w.end (length c) n (omega (arith, no_shorter, stands, ap length form, length-append (blocks texts) w.end, le)) in
      whole_of texts (take n w.end) c all split (front_cut_off n w.end w.cut_off)

  not_open : (file : List ℕ) → texts_in file ≡ texts → IsWhole file → (b : ℕ) → slice_get file end ≡ Some b → b ≢ 43
  not_open file is w b here = first_not_open w.end w.cut_off b (sym (get-behind (blocks texts) w.end 0 end (omega (arith, stands))) ∙ sym (ap (λ (l : List ℕ). slice_get l end) (form_of file is w)) ∙ here)
    where
      first_not_open : (rest : List ℕ) → IsCutOff rest → (b : ℕ) → slice_get rest 0 ≡ Some b → b ≢ 43
      first_not_open [] cut b none = absurd (cc none)
      first_not_open (x ∷ []) cut b is_b = λ (opens : b ≡ 43). cut (same_byte_of x b is_b ∙ opens)
      first_not_open (x ∷ y ∷ rest) cut b is_b = λ (opens : b ≡ 43). let shut = cut.0 in let both : 45 ≡ 43 = sym shut ∙ same_byte_of x b is_b ∙ opens in omega (arith, both)

  short_whole : (rest c : List ℕ) → c ≡ blocks texts ++ rest → length rest ≤ 1 → ((b : ℕ) → slice_get c end ≡ Some b → b ≢ 43) → IsWhole c
  short_whole [] c is short isnt = whole_of texts [] c all is tt
  short_whole (b ∷ []) c is short isnt = whole_of texts (b ∷ []) c all is (isnt b (ap (λ (l : List ℕ). slice_get l end) is ∙ get-seam (blocks texts) b [] end stands))
  short_whole (a ∷ b ∷ rest) c is short isnt = absurd (omega (arith, short))

  pub close_whole : (read d c : List ℕ) → IsShort texts d → IsWhole d → texts_in d ≡ texts → IsWhole read → texts_in read ≡ texts → Torn end 1 read d c → IsWhole c
  close_whole read d c s w is read_whole reads torn =
      let short = torn_short texts all end stands read d c s torn in
      short_whole short.rest c short.file_is short.one (λ b here. ⊎_elim
      (λ (stood : slice_get d end ≡ Some b). not_open d is w b stood)
      (λ other. ⊎_elim
      (λ (came : slice_get read end ≡ Some b). not_open read reads read_whole b came)
      (λ (past : (length d ≤ end) × (b ≡ 0)). λ (opens : b ≡ 43). let none = past.1 in let both : 0 ≡ 43 = sym none ∙ opens in omega (arith, both))
      other)
      (torn.each end b here))

  pub close_read_whole : (old seen : List ℕ) → IsShort texts old → IsWhole old → WritesFront old end (45 ∷ []) seen → IsWhole seen
  close_read_whole old seen s w front = elim (cases_lt front.count 1) [
    | inl none ↦
        let n : front.count ≡ 0 = omega arith in
        let holds = subst (λ k. Holds old end (take k (45 ∷ [])) seen) n front.holds in
        let zero_more : end + 0 ≡ end = omega arith in
        let same : seen ≡ old = holds ∙ ap (λ (l : List ℕ). l ++ drop (end + 0) old) (append-nil (take end old)) ∙ ap (λ (k : ℕ). take end old ++ drop k old) zero_more ∙ take-append-drop end old in
        subst IsWhole (sym same) w
    | inr some ↦
        let some_bytes = front.some in
        let n : front.count ≡ 1 = omega arith in
        let holds = subst (λ k. Holds old end (take k (45 ∷ [])) seen) n front.holds in
        whole_of texts (45 ∷ []) seen all (close_done texts all end stands old seen s holds) (λ (same : 45 ≡ 43). omega (arith, same))
  ]
