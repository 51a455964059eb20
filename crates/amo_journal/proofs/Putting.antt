-- A crash or a kill in each of the two steps of a put.
use Rattle.std.proofs.Common.{◌≡◌, ◌≢◌, ◌⊎◌, inl, inr, ⊎_elim, ℕ, ◌+◌, List, [], ◌∷◌, ◌++◌, length, get_or, take, drop, Some, refl, sym, ◌∙◌, ap, subst, arith, append_assoc, length-append, take-append-drop}
use Rattle.std.specs.List.{slice_get}
use Rattle.std.proofs.lemmas.Bool.{cases_eq, cases_lt}
use Rattle.std.proofs.lemmas.List.{take_at, drop_at, drop_more, take_all, drop_all, append-nil}
use Rattle.amo_journal.specs.Device.{AgreesBut, Differs, Holds, IsOutside, LeavesOnly, Only, Torn, TornFrom, WritesFront}
use Rattle.amo_journal.specs.Texts.{IsOneLine, AreOneLine, texts_in, blocks, at_rest}
use Rattle.amo_journal.specs.Journal.{IsAtRest, IsBeforeOrAfter, IsNear, IsUnsure, MayRecover}
use Rattle.amo_journal.proofs.Blocks.{blocks-push, texts_in_closed, texts_in_gate, texts_in-blocks, texts_in_block, all_push}
use Rattle.amo_journal.proofs.Moments.{IsOnDisk, KeepsTexts, keeps_texts, leaves_weaker, near_same}
use Rattle.amo_journal.proofs.Parts.{texts_are_one_line}
use Rattle.amo_journal.proofs.Places.{agrees_all, stays_of, get-seam, differ_behind, differ_at}

-- the bytes after a gate
abbrev pub behind : List ℕ → List ℕ
behind text = text ++ 10 ∷ 45 ∷ []

-- the file with a block after the closed gate
abbrev pub staged : List (List ℕ) → List ℕ → List ℕ
staged texts text = blocks texts ++ 45 ∷ behind text

module _ (texts : List (List ℕ)) (all : AreOneLine texts) (gate : ℕ) (stands : gate ≡ length (blocks texts)) where
  pub length-at_rest : length (at_rest texts) ≡ gate + 1
  length-at_rest = omega (arith, stands, length-append (blocks texts) (45 ∷ []))

  closed_with : (c rest : List ℕ) → c ≡ at_rest texts ++ rest → texts_in c ≡ texts
  closed_with c rest is = ap texts_in (is ∙ append_assoc (blocks texts) (45 ∷ []) rest) ∙ texts_in_closed texts 45 rest all (omega arith)

  -- the closed gate stands in each outcome of the first write
  pub torn_rest : (n : ℕ) (read old c : List ℕ) → old ≡ at_rest texts → Torn (gate + 1) n read old c → c ≡ at_rest texts ++ drop (gate + 1) c
  torn_rest n read old c is torn =
      let long : gate + 1 ≡ length old = sym length-at_rest ∙ sym (ap length is) in
      let front : take (gate + 1) c ≡ at_rest texts = torn.before (omega (arith, long)) ∙ take_all _ _ (omega (arith, long)) ∙ is in
      sym (take-append-drop (gate + 1) c) ∙ ap (λ (l : List ℕ). l ++ drop (gate + 1) c) front

  pub stage_crash : (n : ℕ) (read : List ℕ) (old : List ℕ → Type 0) → Only (at_rest texts) old → (c : List ℕ) → TornFrom (gate + 1) n read old c → texts_in c ≡ texts
  stage_crash n read old only c from = closed_with c (drop (gate + 1) c) (torn_rest n read from.0 c (only from.0 from.1) from.2)

  -- so it does in what is read
  pub read_rest : (bytes seen : List ℕ) (w : WritesFront (at_rest texts) (gate + 1) bytes seen) → seen ≡ at_rest texts ++ take w.count bytes
  read_rest bytes seen w =
      w.holds
      ∙ ap (λ (l : List ℕ). l ++ take w.count bytes ++ drop (gate + 1 + length (take w.count bytes)) (at_rest texts)) (take_all _ _ (omega (arith, length-at_rest)))
      ∙ ap (λ (l : List ℕ). at_rest texts ++ take w.count bytes ++ l) (drop_all (gate + 1 + length (take w.count bytes)) (at_rest texts) (omega (arith, length-at_rest)))
      ∙ append-nil (at_rest texts ++ take w.count bytes)

  pub stage_read : (bytes seen : List ℕ) → WritesFront (at_rest texts) (gate + 1) bytes seen → texts_in seen ≡ texts
  stage_read bytes seen w = closed_with seen (take w.count bytes) (read_rest bytes seen w)

  pub stage_unsure : (n : ℕ) (bytes seen : List ℕ) (old : List ℕ → Type 0) → Only (at_rest texts) old → WritesFront (at_rest texts) (gate + 1) bytes seen
      → (i : ℕ) → Differs (TornFrom (gate + 1) n seen old) seen i → IsUnsure (texts_in seen) i
  stage_unsure n bytes seen old only w i differs =
      let from = differs.1 in
      let is = torn_rest n seen from.0 differs.0 (only from.0 from.1) from.2 in
      let isnt = subst (λ f. slice_get f i ≢ slice_get seen i) is differs.2 in
      let far = differ_behind (at_rest texts) (drop (gate + 1) differs.0) (take w.count bytes) i (subst (λ f. slice_get (at_rest texts ++ drop (gate + 1) differs.0) i ≢ slice_get f i) (read_rest bytes seen w) isnt) in
      inr (omega (arith, ap (λ (ts : List (List ℕ)). length (blocks ts)) (stage_read bytes seen w), far, length-at_rest, stands))

  pub written_behind : (text c : List ℕ) → Holds (at_rest texts) (gate + 1) (behind text) c → c ≡ staged texts text
  written_behind text c holds =
      let bytes = behind text in
      holds
      ∙ ap (λ (l : List ℕ). l ++ bytes ++ drop (gate + 1 + length bytes) (at_rest texts)) (take_all _ _ (omega (arith, length-at_rest)))
      ∙ ap (λ (l : List ℕ). at_rest texts ++ bytes ++ l) (drop_all (gate + 1 + length bytes) (at_rest texts) (omega (arith, length-at_rest)))
      ∙ append-nil (at_rest texts ++ bytes)
      ∙ append_assoc (blocks texts) (45 ∷ []) bytes

  staged_split : (text : List ℕ) → staged texts text ≡ at_rest texts ++ behind text
  staged_split text = sym (append_assoc (blocks texts) (45 ∷ []) (behind text))

  front : (text : List ℕ) → take gate (staged texts text) ≡ blocks texts
  front text = take_at (blocks texts) (45 ∷ behind text) gate (sym stands)

  back : (text : List ℕ) → drop (gate + 1) (staged texts text) ≡ behind text
  back text = ap (λ (l : List ℕ). drop (gate + 1) l) (staged_split text) ∙ drop_at (at_rest texts) (behind text) (gate + 1) length-at_rest

  pub length-staged : (text : List ℕ) → length (staged texts text) ≡ gate + length text + 3
  length-staged text = omega (arith, stands, length-append (blocks texts) (45 ∷ behind text), length-append text (10 ∷ 45 ∷ []))

  -- the block stands whole in each outcome of the second write
  pub torn_block : (text read old c : List ℕ) → old ≡ staged texts text → Torn gate 1 read old c → c ≡ blocks texts ++ (get_or c gate 0 ∷ behind text)
  torn_block text read old c is torn =
      let long = length-staged text in
      let same = ap length is in
      let rest : drop gate c ≡ get_or c gate 0 ∷ behind text =
      drop_more c gate 0 (omega (arith, torn.no_shorter, same, long)) ∙ ap (λ (l : List ℕ). get_or c gate 0 ∷ l) (torn.after ∙ ap (λ (l : List ℕ). drop (gate + 1) l) is ∙ back text) in
      sym (take-append-drop gate c) ∙ ap (λ (l : List ℕ). l ++ drop gate c) (torn.before (omega (arith, same, long)) ∙ ap (λ (l : List ℕ). take gate l) is ∙ front text)
      ∙ ap (λ (l : List ℕ). blocks texts ++ l) rest

  pub gate_crash : (text read : List ℕ) (old : List ℕ → Type 0) → IsOneLine text → Only (staged texts text) old → (c : List ℕ) → TornFrom gate 1 read old c → IsBeforeOrAfter texts text c
  gate_crash text read old one only c from =
      subst (IsBeforeOrAfter texts text) (sym (torn_block text read from.0 c (only from.0 from.1) from.2)) (texts_in_gate texts (get_or c gate 0) text all one)

  pub written_gate : (text c : List ℕ) → Holds (staged texts text) gate (43 ∷ []) c → c ≡ at_rest (texts ++ text ∷ [])
  written_gate text c holds =
      holds
      ∙ ap (λ (l : List ℕ). l ++ (43 ∷ []) ++ drop (gate + 1) (staged texts text)) (front text)
      ∙ ap (λ (l : List ℕ). blocks texts ++ (43 ∷ []) ++ l) (back text)
      ∙ append_assoc (blocks texts) (43 ∷ []) (behind text)
      ∙ sym (blocks-push texts text (45 ∷ []))

  -- the gate's byte is written or it isn't
  pub gate_read : (text seen : List ℕ) → WritesFront (staged texts text) gate (43 ∷ []) seen → (seen ≡ staged texts text) ⊎ (seen ≡ at_rest (texts ++ text ∷ []))
  gate_read text seen w = elim (cases_lt w.count 1) [
    | inl none ↦
        let n : w.count ≡ 0 = omega arith in
        let holds = subst (λ k. Holds (staged texts text) gate (take k (43 ∷ [])) seen) n w.holds in
        let zero_more : gate + 0 ≡ gate = omega arith in
        inl (holds ∙ ap (λ (l : List ℕ). l ++ drop (gate + 0) (staged texts text)) (append-nil (take gate (staged texts text)))
        ∙ ap (λ (k : ℕ). take gate (staged texts text) ++ drop k (staged texts text)) zero_more ∙ take-append-drop gate (staged texts text))
    | inr some ↦
        let some_bytes = w.some in
        let n : w.count ≡ 1 = omega arith in
        inr (written_gate text seen (subst (λ k. Holds (staged texts text) gate (take k (43 ∷ [])) seen) n w.holds))
  ]

  texts_staged : (text seen : List ℕ) → seen ≡ staged texts text → texts_in seen ≡ texts
  texts_staged text seen is = ap texts_in is ∙ texts_in_closed texts 45 (behind text) all (omega arith)

  pub texts_opened : (text seen : List ℕ) → IsOneLine text → seen ≡ at_rest (texts ++ text ∷ []) → texts_in seen ≡ texts ++ text ∷ []
  texts_opened text seen one is = ap texts_in is ∙ texts_in_closed (texts ++ text ∷ []) 45 [] (all_push texts text all one) (omega arith)

  pub gate_texts : (text seen : List ℕ) → IsOneLine text → WritesFront (staged texts text) gate (43 ∷ []) seen → IsBeforeOrAfter texts text seen
  gate_texts text seen one w = ⊎_elim (λ is. inl (texts_staged text seen is)) (λ is. inr (texts_opened text seen one is)) (gate_read text seen w)

  -- if it isn't, the closed gate stays on the disk
  stays_closed : (text read old c : List ℕ) → old ≡ staged texts text → read ≡ staged texts text → Torn gate 1 read old c → c ≡ staged texts text
  stays_closed text read old c is reads torn =
      let at_gate = get-seam (blocks texts) 45 (behind text) gate stands in
      let stays : slice_get c gate ≡ Some 45 = stays_of gate 1 read old c torn gate 45 (ap (λ f. slice_get f gate) is ∙ at_gate) (ap (λ f. slice_get f gate) reads ∙ at_gate) in
      let whole = torn_block text read old c is torn in
      let byte : Some (get_or c gate 0) ≡ Some 45 = sym (ap (λ f. slice_get f gate) whole ∙ get-seam (blocks texts) (get_or c gate 0) (behind text) gate stands) ∙ stays in
      let same : get_or c gate 0 ≡ 45 = cc byte in
      whole ∙ ap (λ (b : ℕ). blocks texts ++ (b ∷ behind text)) same

  pub gate_near : (text seen : List ℕ) (old : List ℕ → Type 0) → IsOneLine text → Only (staged texts text) old → WritesFront (staged texts text) gate (43 ∷ []) seen
      → (c : List ℕ) → TornFrom gate 1 seen old c → IsNear (texts_in seen) c
  gate_near text seen old one only w c from = ⊎_elim
      (λ reads. near_same texts (texts_in seen) c (texts_staged text seen reads) (texts_staged text c (stays_closed text seen from.0 c (only from.0 from.1) reads from.2)))
      (λ reads.
      let whole = torn_block text seen from.0 c (only from.0 from.1) from.2 in
      let read = texts_opened text seen one reads in
      elim (cases_eq (get_or c gate 0) 43) [
        | inl is ↦ near_same (texts ++ text ∷ []) (texts_in seen) c read
            (ap texts_in (whole ∙ ap (λ (b : ℕ). blocks texts ++ (b ∷ behind text)) is) ∙ texts_in-blocks texts (43 ∷ behind text) all ∙ ap (λ (l : List (List ℕ)). texts ++ l) (texts_in_block text (45 ∷ []) one))
        | inr isnt ↦ inr (record { before = texts; last = text; gate = get_or c gate 0; end = 45 ∷ []; texts_are = read; closed = isnt; file_is = whole; nothing = refl })
      ])
      (gate_read text seen w)

  pub gate_unsure : (text seen : List ℕ) (old : List ℕ → Type 0) → IsOneLine text → Only (staged texts text) old → WritesFront (staged texts text) gate (43 ∷ []) seen
      → (i : ℕ) → Differs (TornFrom gate 1 seen old) seen i → IsUnsure (texts_in seen) i
  gate_unsure text seen old one only w i differs =
      let from = differs.1 in
      let c = differs.0 in
      ⊎_elim
      (λ reads. absurd (differs.2 (ap (λ f. slice_get f i) (stays_closed text seen from.0 c (only from.0 from.1) reads from.2 ∙ sym reads))))
      (λ reads.
      let whole = torn_block text seen from.0 c (only from.0 from.1) from.2 in
      let read_whole : seen ≡ blocks texts ++ (43 ∷ behind text) = reads ∙ blocks-push texts text (45 ∷ []) in
      let isnt = subst (λ f. slice_get f i ≢ slice_get seen i) whole differs.2 in
      let place = differ_at (blocks texts) (get_or c gate 0) 43 (behind text) i (subst (λ f. slice_get (blocks texts ++ (get_or c gate 0 ∷ behind text)) i ≢ slice_get f i) read_whole isnt) in
      inl (record { before = texts; last = text; texts_are = texts_opened text seen one reads; place = place }))
      (gate_read text seen w)

-- what the second write of a put comes to, whatever it answers
pub record IsTried {D : Type 0} (moment : D → ℕ) (left_since : D → ℕ → List ℕ → Type 0) (seen : D → List ℕ) (may_leave : D → List ℕ → Type 0) (stale : D → ℕ → Type 0) (texts : List (List ℕ)) (text : List ℕ) (old new : D) : Type 0 where
  pub any_moment : LeavesOnly moment left_since old new (IsBeforeOrAfter texts text)
  pub read : IsBeforeOrAfter texts text (seen new)
  pub again : MayRecover seen may_leave stale new

module _ {D : Type 0} (moment : D → ℕ) (left_since : D → ℕ → List ℕ → Type 0) (seen : D → List ℕ) (may_leave : D → List ℕ → Type 0) (stale : D → ℕ → Type 0) where
  -- what the first comes to, whatever it answers
  pub begun : (old new : D) (gate : ℕ) (bytes : List ℕ) → IsAtRest seen may_leave stale old → gate ≡ length (blocks (texts_in (seen old))) → WritesFront (seen old) (gate + 1) bytes (seen new)
      → ((c : List ℕ) → may_leave new c → TornFrom (gate + 1) (length bytes) (seen new) (may_leave old) c)
      → ((i : ℕ) → stale new i → stale old i ⊎ Differs (TornFrom (gate + 1) (length bytes) (seen new) (may_leave old)) (seen new) i)
      → LeavesOnly moment left_since old new (TornFrom (gate + 1) (length bytes) (seen new) (may_leave old)) → KeepsTexts moment left_since seen may_leave stale (texts_in (seen old)) old new
  begun old new gate bytes rest stands front crash unsure run =
      let texts = texts_in (seen old) in
      let all = texts_are_one_line (seen old) in
      let only = subst (λ f. Only f (may_leave old)) rest.file rest.durable in
      let w = subst (λ f. WritesFront f (gate + 1) bytes (seen new)) rest.file front in
      keeps_texts moment left_since seen may_leave stale texts old new _ run crash (stage_crash texts all gate stands (length bytes) (seen new) (may_leave old) only) (stage_read texts all gate stands bytes (seen new) w)
      (λ i st. ⊎_elim (λ was. absurd (rest.fresh i was)) (stage_unsure texts all gate stands (length bytes) bytes (seen new) (may_leave old) only w i) (unsure i st))

  -- and once it is done: the block follows the closed gate
  pub is_staged : (old new : D) (gate : ℕ) (text bytes : List ℕ) → IsAtRest seen may_leave stale old → gate ≡ length (blocks (texts_in (seen old))) → bytes ≡ behind text → Holds (seen old) (gate + 1) bytes (seen new)
      → ((c : List ℕ) → may_leave new c → AgreesBut (λ i. stale old i × IsOutside (gate + 1) (length bytes) i) (seen new) c)
      → ((i : ℕ) → stale new i → stale old i × IsOutside (gate + 1) (length bytes) i) → IsOnDisk seen may_leave stale (staged (texts_in (seen old)) text) new
  is_staged old new gate text bytes rest stands are holds durable fresh =
      let texts = texts_in (seen old) in
      let on_rest = subst (λ f. Holds f (gate + 1) bytes (seen new)) rest.file holds in
      let is = written_behind texts (texts_are_one_line (seen old)) gate stands text (seen new) (subst (λ bs. Holds (at_rest texts) (gate + 1) bs (seen new)) are on_rest) in
      record {
        file_is = is;
        durable = λ c now. agrees_all _ (seen new) c (durable c now) (λ i p. rest.fresh i p.0) ∙ is;
        fresh = λ i st. rest.fresh i (fresh i st).0;
      }

  -- what the second comes to
  pub tried : (texts : List (List ℕ)) (text : List ℕ) (old new : D) (gate : ℕ) → AreOneLine texts → IsOneLine text → gate ≡ length (blocks texts) → IsOnDisk seen may_leave stale (staged texts text) old
      → WritesFront (seen old) gate (43 ∷ []) (seen new) → ((c : List ℕ) → may_leave new c → TornFrom gate 1 (seen new) (may_leave old) c)
      → ((i : ℕ) → stale new i → stale old i ⊎ Differs (TornFrom gate 1 (seen new) (may_leave old)) (seen new) i)
      → LeavesOnly moment left_since old new (TornFrom gate 1 (seen new) (may_leave old)) → IsTried moment left_since seen may_leave stale texts text old new
  tried texts text old new gate all one stands s front crash unsure run =
      let w = subst (λ f. WritesFront f gate (43 ∷ []) (seen new)) s.file_is front in
      record {
        any_moment = leaves_weaker moment left_since old new _ (IsBeforeOrAfter texts text) run (gate_crash texts all gate stands text (seen new) (may_leave old) one s.durable);
        read = gate_texts texts all gate stands text (seen new) one w;
        again = record {
          near = λ c now. gate_near texts all gate stands text (seen new) (may_leave old) one s.durable w c (crash c now);
          unsure = λ i st. ⊎_elim (λ was. absurd (s.fresh i was)) (gate_unsure texts all gate stands text (seen new) (may_leave old) one s.durable w i) (unsure i st);
        };
      }

  -- and once it is done: the file is whole blocks and a closed gate again
  pub is_put : (texts : List (List ℕ)) (text : List ℕ) (old new : D) (gate : ℕ) → AreOneLine texts → IsOneLine text → gate ≡ length (blocks texts) → IsOnDisk seen may_leave stale (staged texts text) old
      → Holds (seen old) gate (43 ∷ []) (seen new) → ((c : List ℕ) → may_leave new c → AgreesBut (λ i. stale old i × IsOutside gate 1 i) (seen new) c)
      → ((i : ℕ) → stale new i → stale old i × IsOutside gate 1 i) → IsAtRest seen may_leave stale new × (texts_in (seen new) ≡ texts ++ text ∷ [])
  is_put texts text old new gate all one stands s holds durable fresh =
      let is = written_gate texts all gate stands text (seen new) (subst (λ f. Holds f gate (43 ∷ []) (seen new)) s.file_is holds) in
      let stand = texts_opened texts all gate stands text (seen new) one is in (
        record {
          file = is ∙ ap at_rest (sym stand);
          durable = λ c now. agrees_all _ (seen new) c (durable c now) (λ i p. s.fresh i p.0);
          fresh = λ i st. s.fresh i (fresh i st).0;
        },
        stand,
      )
