-- A crash or a kill while the last gate is written again.
use Rattle.std.proofs.Common.{◌≡◌, ◌≢◌, inl, inr, ⊎_elim, ℕ, ◌+◌, ◌<◌, ◌≤◌, List, [], ◌∷◌, ◌++◌, length, get_or, take, drop, Some, refl, sym, ◌∙◌, ap, subst, arith, append_assoc, length-append, take-append-drop}
use Rattle.std.specs.List.{slice_get}
use Rattle.std.proofs.lemmas.Bool.{cases_eq, cases_lt}
use Rattle.std.proofs.lemmas.List.{take_at, drop_at, drop_more, append-nil}
use Rattle.amo_journal.specs.Device.{Holds, Torn, TornFrom, AgreesBut, Differs, WritesFront, IsOutside}
use Rattle.amo_journal.specs.Texts.{AreOneLine, IsOneLine, texts_in, blocks}
use Rattle.amo_journal.specs.Journal.{HasLast, IsNear, IsShut, IsUnsure, StaysNear, HasAllOrAllButLast}
use Rattle.amo_journal.proofs.Blocks.{texts_in_closed, length-blocks_push, blocks-push}
use Rattle.amo_journal.proofs.Parts.{parts}
use Rattle.amo_journal.proofs.Places.{get-seam, stays_of, differ_at_or_behind, same_push}
use Rattle.amo_journal.proofs.Ending.{with_end, nothing_more}

-- a torn write of one byte leaves a file that is the same but for that byte
pub one_byte : (xs : List ℕ) (x : ℕ) (ys : List ℕ) (gate : ℕ) → gate ≡ length xs → (read old c : List ℕ) → old ≡ xs ++ x ∷ ys → Torn gate 1 read old c → c ≡ xs ++ get_or c gate 0 ∷ ys
one_byte xs x ys gate stands read old c is torn =
    let same = ap length is in
    let long : length old ≡ length xs + (1 + length ys) = omega (arith, same, length-append xs (x ∷ ys)) in
    let split : old ≡ (xs ++ x ∷ []) ++ ys = is ∙ sym (append_assoc xs (x ∷ []) ys) in
    let back : drop (gate + 1) old ≡ ys = ap (λ (l : List ℕ). drop (gate + 1) l) split ∙ drop_at (xs ++ x ∷ []) ys (gate + 1) (omega (arith, length-append xs (x ∷ []), stands)) in
    let rest : drop gate c ≡ get_or c gate 0 ∷ ys = drop_more c gate 0 (omega (arith, torn.no_shorter, long, stands)) ∙ ap (λ (l : List ℕ). get_or c gate 0 ∷ l) (torn.after ∙ back) in
    let front : take gate c ≡ xs = torn.before (omega (arith, long, stands)) ∙ ap (λ (l : List ℕ). take gate l) is ∙ take_at xs (x ∷ ys) gate (sym stands) in
    sym (take-append-drop gate c) ∙ ap (λ (l : List ℕ). l ++ drop gate c) front ∙ ap (λ (l : List ℕ). xs ++ l) rest

-- a byte that is written as it stands changes nothing
pub same_byte : (xs : List ℕ) (x : ℕ) (ys : List ℕ) (gate : ℕ) → gate ≡ length xs → (old new : List ℕ) → old ≡ xs ++ x ∷ ys → WritesFront old gate (x ∷ []) new → new ≡ old
same_byte xs x ys gate stands old new is w = elim (cases_lt w.count 1) [
  | inl none ↦
      let n : w.count ≡ 0 = omega arith in
      let holds = subst (λ k. Holds old gate (take k (x ∷ [])) new) n w.holds in
      let zero_more : gate + 0 ≡ gate = omega arith in
      holds ∙ ap (λ (l : List ℕ). l ++ drop (gate + 0) old) (append-nil (take gate old)) ∙ ap (λ (k : ℕ). take gate old ++ drop k old) zero_more ∙ take-append-drop gate old
  | inr some ↦
      let some_bytes = w.some in
      let n : w.count ≡ 1 = omega arith in
      let holds = subst (λ k. Holds old gate (take k (x ∷ [])) new) n w.holds in
      let split : old ≡ (xs ++ x ∷ []) ++ ys = is ∙ sym (append_assoc xs (x ∷ []) ys) in
      holds ∙ ap (λ (l : List ℕ). l ++ (x ∷ []) ++ drop (gate + 1) old) (ap (λ (l : List ℕ). take gate l) is ∙ take_at xs (x ∷ ys) gate (sym stands))
      ∙ ap (λ (l : List ℕ). xs ++ (x ∷ []) ++ l) (ap (λ (l : List ℕ). drop (gate + 1) l) split ∙ drop_at (xs ++ x ∷ []) ys (gate + 1) (omega (arith, length-append xs (x ∷ []), stands)))
      ∙ sym split
]

pub all_before : (before : List (List ℕ)) (last : List ℕ) → AreOneLine (before ++ last ∷ []) → AreOneLine before
all_before [] last all = tt
all_before (t ∷ before) last all = (all.0, all_before before last all.1)

-- a file whose last gate is closed stands for all but the last text
pub shut_texts : (texts : List (List ℕ)) (c : List ℕ) → AreOneLine texts → (shut : IsShut texts c) → texts_in c ≡ shut.before
shut_texts texts c all shut = ap texts_in shut.file_is ∙ texts_in_closed shut.before shut.gate (shut.last ++ 10 ∷ shut.end) (all_before shut.before shut.last (subst AreOneLine shut.texts_are all)) shut.closed

pub stays_texts : (texts : List (List ℕ)) (outcomes : List ℕ → Type 0) (c : List ℕ) → AreOneLine texts → StaysNear outcomes texts c → HasAllOrAllButLast texts c
stays_texts texts outcomes c all (inl is) = inl is
stays_texts texts outcomes c all (inr (shut, some)) = inr (shut.last, shut.texts_are ∙ ap (λ (ts : List (List ℕ)). ts ++ shut.last ∷ []) (sym (shut_texts texts c all shut)))

-- if no outcome had it closed, it stays open
pub stays_open : (texts : List (List ℕ)) (outcomes : List ℕ → Type 0) (c : List ℕ) → AreOneLine texts → ((d : List ℕ) → outcomes d → texts_in d ≡ texts) → StaysNear outcomes texts c → texts_in c ≡ texts
stays_open texts outcomes c all kept (inl is) = is
stays_open texts outcomes c all kept (inr (shut, some)) =
    let was = some.2 in
    let without : was.before ≡ texts = sym (shut_texts texts some.0 all was) ∙ kept some.0 some.1 in
    absurd (omega (arith, ap length without, ap length was.texts_are, length-append was.before (was.last ∷ [])))

pub near_stays : (texts : List (List ℕ)) (outcomes : List ℕ → Type 0) (c : List ℕ) → IsNear texts c → outcomes c → StaysNear outcomes texts c
near_stays texts outcomes c (inl is) now = inl is
near_stays texts outcomes c (inr shut) now = inr (shut, (c, now, shut))

pub stays_near : (texts : List (List ℕ)) (outcomes : List ℕ → Type 0) (c : List ℕ) → StaysNear outcomes texts c → IsNear texts c
stays_near texts outcomes c (inl is) = inl is
stays_near texts outcomes c (inr (shut, some)) = inr shut

-- of fewer outcomes
pub stays_more : (texts : List (List ℕ)) (less more : List ℕ → Type 0) (c : List ℕ) → ((d : List ℕ) → less d → more d) → StaysNear less texts c → StaysNear more texts c
stays_more texts less more c wider (inl is) = inl is
stays_more texts less more c wider (inr (shut, some)) = inr (shut, (some.0, wider some.0 some.1, some.2))

-- the places of the last text and its gate, if it has n bytes
pub record IsLast (texts : List (List ℕ)) (end n : ℕ) : Type 0 where
  pub before : List (List ℕ)
  pub last : List ℕ
  pub are : texts ≡ before ++ last ∷ []
  pub place : end ≡ length (blocks before) + (n + 2)

pub last_gate : (texts : List (List ℕ)) (end n : ℕ) → HasLast n texts → end ≡ length (blocks texts) → IsLast texts end n
last_gate texts end n has stands =
    let long = has.3 in
    record {
      before = has.0;
      last = has.1;
      are = has.2;
      place = omega (arith, stands, ap (λ (ts : List (List ℕ)). length (blocks ts)) has.2, length-blocks_push has.0 has.1, long);
    }

pub last_one_line : (texts before : List (List ℕ)) (last : List ℕ) → AreOneLine texts → texts ≡ before ++ last ∷ [] → IsOneLine last
last_one_line texts before last all are = of_push before last (subst AreOneLine are all)
  where
    of_push : (before : List (List ℕ)) (last : List ℕ) → AreOneLine (before ++ last ∷ []) → IsOneLine last
    of_push [] last all = all.0
    of_push (t ∷ before) last all = of_push before last all.1

module _ (texts : List (List ℕ)) (all : AreOneLine texts) (before : List (List ℕ)) (last : List ℕ) (are : texts ≡ before ++ last ∷ []) (gate : ℕ) (stands : gate ≡ length (blocks before)) where
  -- the bytes of a file with these texts around their last gate
  pub around : (file : List ℕ) → texts_in file ≡ texts → file ≡ blocks before ++ (43 ∷ last ++ 10 ∷ (parts file).end)
  around file is = with_end texts all (length (blocks texts)) refl file is ∙ ap (λ (ts : List (List ℕ)). blocks ts ++ (parts file).end) are ∙ blocks-push before last (parts file).end

  pub shut_around : (file : List ℕ) (shut : IsShut texts file) → file ≡ blocks before ++ (shut.gate ∷ last ++ 10 ∷ shut.end)
  shut_around file shut =
      let same = same_push shut.before before shut.last last (sym shut.texts_are ∙ are) in
      shut.file_is ∙ ap (λ (ts : List (List ℕ)). blocks ts ++ (shut.gate ∷ shut.last ++ 10 ∷ shut.end)) same.0 ∙ ap (λ (l : List ℕ). blocks before ++ (shut.gate ∷ l ++ 10 ∷ shut.end)) same.1

  pub end_is : length (blocks texts) ≡ gate + (length last + 2)
  end_is = omega (arith, ap (λ (ts : List (List ℕ)). length (blocks ts)) are, length-blocks_push before last, stands)

  pub again_read : (old new : List ℕ) → texts_in old ≡ texts → WritesFront old gate (43 ∷ []) new → new ≡ old
  again_read old new is w = same_byte (blocks before) 43 (last ++ 10 ∷ (parts old).end) gate stands old new (around old is) w

  -- an open gate stays open
  open_stays : (read d c : List ℕ) → texts_in read ≡ texts → texts_in d ≡ texts → Torn gate 1 read d c → texts_in c ≡ texts
  open_stays read d c reads is torn =
      let rest = last ++ 10 ∷ (parts d).end in
      let open_at : (f : List ℕ) → texts_in f ≡ texts → slice_get f gate ≡ Some 43 = λ f stand. ap (λ l. slice_get l gate) (around f stand) ∙ get-seam (blocks before) 43 (last ++ 10 ∷ (parts f).end) gate stands in
      let stays = stays_of gate 1 read d c torn gate 43 (open_at d is) (open_at read reads) in
      let whole = one_byte (blocks before) 43 rest gate stands read d c (around d is) torn in
      let byte : Some (get_or c gate 0) ≡ Some 43 = sym (ap (λ l. slice_get l gate) whole ∙ get-seam (blocks before) (get_or c gate 0) rest gate stands) ∙ stays in
      let same : get_or c gate 0 ≡ 43 = cc byte in
      ap texts_in (whole ∙ ap (λ (b : ℕ). blocks before ++ (b ∷ rest)) same ∙ sym (around d is)) ∙ is

  -- a closed one is opened, or stays closed
  shut_opens : (read d c : List ℕ) → IsShut texts d → Torn gate 1 read d c → IsNear texts c
  shut_opens read d c shut torn =
      let rest = last ++ 10 ∷ shut.end in
      let whole = one_byte (blocks before) shut.gate rest gate stands read d c (shut_around d shut) torn in
      elim (cases_eq (get_or c gate 0) 43) [
        | inl is ↦
            let opened : c ≡ blocks texts ++ shut.end =
            whole ∙ ap (λ (b : ℕ). blocks before ++ (b ∷ rest)) is ∙ sym (blocks-push before last shut.end) ∙ ap (λ (ts : List (List ℕ)). blocks ts ++ shut.end) (sym are) in
            inl (nothing_more texts all (length (blocks texts)) refl shut.end c opened shut.nothing)
        | inr isnt ↦ inr (record { before = before; last = last; gate = get_or c gate 0; end = shut.end; texts_are = are; closed = isnt; file_is = whole; nothing = shut.nothing })
      ]

  pub again_crash : (read : List ℕ) (old : List ℕ → Type 0) → texts_in read ≡ texts → ((c : List ℕ) → old c → IsNear texts c) → (c : List ℕ) → TornFrom gate 1 read old c → StaysNear old texts c
  again_crash read old reads near c from = ⊎_elim
      (λ is. inl (open_stays read from.0 c reads is from.2))
      (λ shut. ⊎_elim (λ is. inl is) (λ now. inr (now, (from.0, from.1, shut))) (shut_opens read from.0 c shut from.2))
      (near from.0 from.1)

  -- once it is synced, it is open
  pub again_kept : (places : ℕ → Type 0) (read c : List ℕ) → texts_in read ≡ texts → IsNear texts c → AgreesBut places read c → (places gate → ⊥) → texts_in c ≡ texts
  again_kept places read c reads (inl is) agrees sure = is
  again_kept places read c reads (inr shut) agrees sure =
      let here : slice_get c gate ≡ Some shut.gate = ap (λ l. slice_get l gate) (shut_around c shut) ∙ get-seam (blocks before) shut.gate (last ++ 10 ∷ shut.end) gate stands in
      let read_open : slice_get read gate ≡ Some 43 = ap (λ l. slice_get l gate) (around read reads) ∙ get-seam (blocks before) 43 (last ++ 10 ∷ (parts read).end) gate stands in
      let both : Some shut.gate ≡ Some 43 = sym here ∙ agrees gate sure ∙ read_open in
      absurd (shut.closed (cc both))

  pub again_fresh : (i : ℕ) → IsUnsure texts i → IsOutside gate 1 i → length (blocks texts) ≤ i
  again_fresh i (inl here) outside =
      let same = same_push here.before before here.last last (sym here.texts_are ∙ are) in
      let at_gate : i ≡ gate = here.place ∙ ap (λ (ts : List (List ℕ)). length (blocks ts)) same.0 ∙ sym stands in
      absurd (⊎_elim (λ (lt : i < gate). omega arith) (λ (le : gate + 1 ≤ i). omega arith) outside)
  again_fresh i (inr far) outside = far

  differ_around : (a b : ℕ) (zs us c read : List ℕ) (i : ℕ) → c ≡ blocks before ++ (a ∷ last ++ 10 ∷ zs) → read ≡ blocks before ++ (b ∷ last ++ 10 ∷ us) → slice_get c i ≢ slice_get read i → IsUnsure texts i
  differ_around a b zs us c read i is reads isnt =
      let shape : (x : ℕ) (vs : List ℕ) → blocks before ++ (x ∷ last ++ 10 ∷ vs) ≡ blocks before ++ (x ∷ (last ++ 10 ∷ []) ++ vs) = λ x vs. ap (λ (l : List ℕ). blocks before ++ (x ∷ l)) (sym (append_assoc last (10 ∷ []) vs)) in
      let first = subst (λ f. slice_get f i ≢ slice_get read i) (is ∙ shape a zs) isnt in
      let both = subst (λ f. slice_get (blocks before ++ (a ∷ (last ++ 10 ∷ []) ++ zs)) i ≢ slice_get f i) (reads ∙ shape b us) first in
      ⊎_elim
      (λ here. inl (record { before = before; last = last; texts_are = are; place = here }))
      (λ far. inr (omega (arith, end_is, stands, far, length-append last (10 ∷ []))))
      (differ_at_or_behind (blocks before) a b (last ++ 10 ∷ []) zs us i both)

  pub again_unsure : (read : List ℕ) (old : List ℕ → Type 0) → texts_in read ≡ texts → ((c : List ℕ) → old c → IsNear texts c) → (i : ℕ) → Differs (TornFrom gate 1 read old) read i → IsUnsure texts i
  again_unsure read old reads near i differs = ⊎_elim
      (λ is. differ_around 43 43 (parts differs.0).end (parts read).end differs.0 read i (around differs.0 is) (around read reads) differs.2)
      (λ shut. differ_around shut.0.gate 43 shut.0.end (parts read).end differs.0 read i (shut_around differs.0 shut.0) (around read reads) differs.2)
      (again_crash read old reads near differs.0 differs.1)
