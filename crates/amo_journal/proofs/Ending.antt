-- A crash or a kill while the bytes after the blocks are cut, and the gate after the blocks is
-- closed.
use Rattle.std.proofs.Common.{◌≡◌, ◌≢◌, ◌⊎◌, inl, inr, ⊎_elim, ℕ, ◌+◌, ◌-◌, ◌<◌, ◌≤◌, List, [], ◌∷◌, ◌++◌, length, take, drop, refl, sym, ◌∙◌, ap, subst, arith, append_assoc, length-append, length-drop, length-take, take-append-drop}
use Rattle.std.specs.List.{slice_get}
use Rattle.std.proofs.lemmas.List.{take_at, take_all, drop_all, append-nil}
use Rattle.amo_journal.specs.Device.{AgreesBut, Cut, CutFrom, Differs, Holds, IsOutside, LeavesOnly, Torn, TornFrom, WritesFront}
use Rattle.amo_journal.specs.Journal.{IsAtRest, IsUnsure}
use Rattle.amo_journal.specs.Texts.{AreOneLine, texts_in, blocks, at_rest}
use Rattle.amo_journal.proofs.Blocks.{texts_in-blocks, texts_in_closed}
use Rattle.amo_journal.proofs.Moments.{IsCut, IsShort, KeepsTexts, keeps_texts}
use Rattle.amo_journal.proofs.Parts.{parts, front_nothing, short_nothing, take_past, texts_are_one_line}
use Rattle.amo_journal.proofs.Places.{agrees_all, differ_behind, ends_before, nothing_beyond}

-- no cut is a cut
pub cut_none : (n : ℕ) (file : List ℕ) → Cut n file file
cut_none n file = record { no_shorter = omega arith; front = take_all (length file) file (omega arith) }

-- of some bytes a cut that keeps some leaves some
pub cut_some : (n : ℕ) (old new : List ℕ) → 1 ≤ n → Cut n old new → 1 ≤ length old → 1 ≤ length new
cut_some n old new keeps cut some = omega (arith, cut.no_shorter, keeps, some)

-- so does a write
pub write_some : (at : ℕ) (old new : List ℕ) → at ≤ length old → WritesFront old at (45 ∷ []) new → 1 ≤ length old → 1 ≤ length new
write_some at old new inside w some =
    let bytes : List ℕ = take w.count (45 ∷ []) in
    let behind = drop (at + length bytes) old in
    omega (arith, ap length w.holds, length-append (take at old ++ bytes) behind, length-append (take at old) bytes, length-take at old, length-drop (at + length bytes) old, inside, some)

module _ (texts : List (List ℕ)) (all : AreOneLine texts) (end : ℕ) (stands : end ≡ length (blocks texts)) where
  -- a file with these texts is their blocks and an end
  pub with_end : (file : List ℕ) (is : texts_in file ≡ texts) → file ≡ blocks texts ++ (parts file).end
  with_end file is = (parts file).split ∙ ap (λ (ts : List (List ℕ)). blocks ts ++ (parts file).end) is

  pub nothing_more : (rest c : List ℕ) → c ≡ blocks texts ++ rest → texts_in rest ≡ [] → texts_in c ≡ texts
  nothing_more rest c is none = ap texts_in is ∙ texts_in-blocks texts rest all ∙ ap (λ (ts : List (List ℕ)). texts ++ ts) none ∙ append-nil texts

  pub within : (file : List ℕ) → texts_in file ≡ texts → end ≤ length file
  within file is = omega (arith, ap length (with_end file is), length-append (blocks texts) (parts file).end, stands)

  -- a cut that keeps the blocks, and one byte more if there is one
  pub cut_near : (file : List ℕ) (keep len : ℕ) → texts_in file ≡ texts → len ≡ length file → (end ≤ len → (end ≤ keep) × (keep ≤ end + 1)) → (end ≤ keep) × (keep ≤ end + 1)
  cut_near file keep len is long near = let inside = within file is in near (omega (arith, inside, long))

  -- a cut leaves a front of that end
  cut_split : (keep : ℕ) (d c : List ℕ) → end ≤ keep → (is : texts_in d ≡ texts) → Cut keep d c → c ≡ blocks texts ++ take (length c - length (blocks texts)) (parts d).end
  cut_split keep d c le is cut =
      let long = within d is in
      sym cut.front ∙ ap (λ (l : List ℕ). take (length c) l) (with_end d is)
      ∙ take_past (blocks texts) (parts d).end (length c) (length c - length (blocks texts)) (omega (arith, cut.no_shorter, stands, long, le))

  pub cut_keeps : (keep : ℕ) (d c : List ℕ) → end ≤ keep → texts_in d ≡ texts → Cut keep d c → texts_in c ≡ texts
  cut_keeps keep d c le is cut =
      let n = length c - length (blocks texts) in
      nothing_more (take n (parts d).end) c (cut_split keep d c le is cut) (front_nothing n (parts d).end (parts d).nothing)

  pub cut_unsure : (keep : ℕ) (old : List ℕ → Type 0) (before seen : List ℕ) → end ≤ keep → ((c : List ℕ) → old c → texts_in c ≡ texts) → texts_in before ≡ texts → Cut keep before seen
      → (i : ℕ) → Differs (CutFrom keep old) seen i → length (blocks texts) ≤ i
  cut_unsure keep old before seen le kept is cut i differs =
      let c = differs.0 in
      let from = differs.1 in
      let isnt = subst (λ f. slice_get f i ≢ slice_get seen i) (cut_split keep from.0 c le (kept from.0 from.1) from.2) differs.2 in
      let other = take (length c - length (blocks texts)) (parts from.0).end in
      differ_behind (blocks texts) other _ i (subst (λ f. slice_get (blocks texts ++ other) i ≢ slice_get f i) (cut_split keep before seen le is cut) isnt)

  -- such a front that is one byte longer at most is short
  pub cut_short : (keep : ℕ) (d c : List ℕ) → end ≤ keep → texts_in d ≡ texts → Cut keep d c → length c ≤ end + 1 → IsShort texts c
  cut_short keep d c le is cut short =
      let split = cut_split keep d c le is cut in
      record {
        rest = take (length c - length (blocks texts)) (parts d).end;
        file_is = split;
        one = omega (arith, ap length split, length-append (blocks texts) (take (length c - length (blocks texts)) (parts d).end), short, stands);
      }

  -- one byte after the blocks is no block
  short_texts : (c : List ℕ) → IsShort texts c → texts_in c ≡ texts
  short_texts c s = nothing_more s.rest c s.file_is (short_nothing s.rest s.one)

  short_front : (c : List ℕ) → IsShort texts c → take end c ≡ blocks texts
  short_front c s = ap (λ (l : List ℕ). take end l) s.file_is ∙ take_at (blocks texts) s.rest end (sym stands)

  short_length : (c : List ℕ) → IsShort texts c → (end ≤ length c) × (length c ≤ end + 1)
  short_length c s =
      let split = ap length s.file_is in
      let both = length-append (blocks texts) s.rest in
      let one = s.one in
      (omega (arith, split, both, one, stands), omega (arith, split, both, one, stands))

  pub torn_short : (read old c : List ℕ) → IsShort texts old → Torn end 1 read old c → IsShort texts c
  torn_short read old c s torn =
      let long = short_length old s in
      let inside = long.0 in
      let short = long.1 in
      let front : take end c ≡ blocks texts = torn.before inside ∙ short_front old s in
      record {
        rest = drop end c;
        file_is = sym (take-append-drop end c) ∙ ap (λ (l : List ℕ). l ++ drop end c) front;
        one = omega (arith, length-drop end c, torn.no_longer, short);
      }

  pub close_crash : (read : List ℕ) (old : List ℕ → Type 0) → ((c : List ℕ) → old c → IsShort texts c) → (c : List ℕ) → TornFrom end 1 read old c → texts_in c ≡ texts
  close_crash read old crash c from = short_texts c (torn_short read from.0 c (crash from.0 from.1) from.2)

  written_short : (old seen : List ℕ) → IsShort texts old → WritesFront old end (45 ∷ []) seen → IsShort texts seen
  written_short old seen s w =
      let long = short_length old s in
      let inside = long.0 in
      let short = long.1 in
      let new : List ℕ = take w.count (45 ∷ []) in
      let rest = new ++ drop (end + length new) old in
      let some = w.some in
      record {
        rest = rest;
        file_is = w.holds ∙ append_assoc (take end old) new (drop (end + length new) old) ∙ ap (λ (l : List ℕ). l ++ rest) (short_front old s);
        one = omega (arith, length-append new (drop (end + length new) old), length-drop (end + length new) old, length-take {A = ℕ} w.count (45 ∷ []), some, short);
      }

  pub close_read : (old seen : List ℕ) → IsShort texts old → WritesFront old end (45 ∷ []) seen → texts_in seen ≡ texts
  close_read old seen s w = short_texts seen (written_short old seen s w)

  pub close_unsure : (read seen : List ℕ) (old : List ℕ → Type 0) → IsShort texts read → ((c : List ℕ) → old c → IsShort texts c) → WritesFront read end (45 ∷ []) seen
      → (i : ℕ) → Differs (TornFrom end 1 seen old) seen i → length (blocks texts) ≤ i
  close_unsure read seen old s crash w i differs =
      let from = differs.1 in
      let torn = torn_short seen from.0 differs.0 (crash from.0 from.1) from.2 in
      let front = written_short read seen s w in
      let isnt = subst (λ f. slice_get f i ≢ slice_get seen i) torn.file_is differs.2 in
      differ_behind (blocks texts) torn.rest front.rest i (subst (λ f. slice_get (blocks texts ++ torn.rest) i ≢ slice_get f i) front.file_is isnt)

  pub close_done : (old c : List ℕ) → IsShort texts old → Holds old end (45 ∷ []) c → c ≡ at_rest texts
  close_done old c s holds =
      let long = short_length old s in
      let short = long.1 in
      holds
      ∙ ap (λ (l : List ℕ). l ++ (45 ∷ []) ++ drop (end + 1) old) (short_front old s)
      ∙ ap (λ (l : List ℕ). blocks texts ++ (45 ∷ []) ++ l) (drop_all (end + 1) old short)
      ∙ append-nil (at_rest texts)

  -- then the file stands for the texts
  pub rest_texts : (seen : List ℕ) → seen ≡ at_rest texts → texts_in seen ≡ texts
  rest_texts seen is = ap texts_in is ∙ texts_in_closed texts 45 [] all (omega arith)

pub not_outside : (i : ℕ) → IsOutside i 1 i → ⊥
not_outside i (inl lt) = omega arith
not_outside i (inr le) = omega arith

-- a place after the blocks of what is read is unsure
behind_blocks : (texts : List (List ℕ)) (read : List ℕ) (i : ℕ) → texts_in read ≡ texts → length (blocks texts) ≤ i → IsUnsure (texts_in read) i
behind_blocks texts read i is far = subst (λ (ts : List (List ℕ)). IsUnsure ts i) (sym is) (inr far)

module _ {D : Type 0} (moment : D → ℕ) (left_since : D → ℕ → List ℕ → Type 0) (seen : D → List ℕ) (may_leave : D → List ℕ → Type 0) (stale : D → ℕ → Type 0) where
  -- what the cut comes to, whatever it answers
  pub cut_off : (old new : D) (end keep : ℕ) → end ≤ keep → end ≡ length (blocks (texts_in (seen old))) → ((c : List ℕ) → may_leave old c → texts_in c ≡ texts_in (seen old))
      → ((i : ℕ) → stale old i → length (blocks (texts_in (seen old))) ≤ i) → Cut keep (seen old) (seen new) → ((c : List ℕ) → may_leave new c → CutFrom keep (may_leave old) c)
      → ((i : ℕ) → stale new i → stale old i ⊎ Differs (CutFrom keep (may_leave old)) (seen new) i) → LeavesOnly moment left_since old new (CutFrom keep (may_leave old))
      → KeepsTexts moment left_since seen may_leave stale (texts_in (seen old)) old new
  cut_off old new end keep le stands kept fresh cut crash unsure run =
      let texts = texts_in (seen old) in
      let all = texts_are_one_line (seen old) in
      let keeps = λ (c : List ℕ) (from : CutFrom keep (may_leave old) c). cut_keeps texts all end stands keep from.0 c le (kept from.0 from.1) from.2 in
      let read = cut_keeps texts all end stands keep (seen old) (seen new) le refl cut in
      keeps_texts moment left_since seen may_leave stale texts old new _ run crash keeps read
      (λ i st. behind_blocks texts (seen new) i read (⊎_elim (fresh i) (cut_unsure texts all end stands keep (may_leave old) (seen old) (seen new) le kept refl cut i) (unsure i st)))

  -- and once it is done: at most one byte follows the blocks
  pub is_cut_off : (old new : D) (end keep : ℕ) → end ≤ keep → keep ≤ end + 1 → end ≡ length (blocks (texts_in (seen old))) → ((c : List ℕ) → may_leave old c → texts_in c ≡ texts_in (seen old))
      → ((i : ℕ) → stale old i → length (blocks (texts_in (seen old))) ≤ i) → Cut keep (seen old) (seen new) → seen new ≡ take keep (seen old) → ((c : List ℕ) → may_leave new c → CutFrom keep (may_leave old) c)
      → ((c : List ℕ) → may_leave new c → AgreesBut (λ i. stale old i × (i < keep)) (seen new) c) → ((i : ℕ) → stale new i → stale old i × (i < keep))
      → IsCut seen may_leave stale (texts_in (seen old)) new
  is_cut_off old new end keep le near stands kept fresh cut is crash durable within_end =
      let texts = texts_in (seen old) in
      let all = texts_are_one_line (seen old) in
      let short : length (seen new) ≤ end + 1 = omega (arith, ap length is, length-take keep (seen old), near) in
      let beyond = λ (p : stale old (end + 1) × (end + 1 < keep)). let far = p.1 in let no : ⊥ = omega (arith, far, near) in no in
      record {
        read = cut_short texts all end stands keep (seen old) (seen new) le refl cut short;
        crash = λ c now.
            let from = crash c now in
            let ends = ends_before c (end + 1) (durable c now (end + 1) beyond ∙ nothing_beyond (seen new) (end + 1) short) in
            cut_short texts all end stands keep from.0 c le (kept from.0 from.1) from.2 ends;
        stale_at = λ i st. let p = within_end i st in let far = fresh i p.0 in let inside = p.1 in omega (arith, far, inside, near, stands);
      }

  -- what closing the gate comes to, whatever it answers
  pub closed : (texts : List (List ℕ)) (old new : D) (end : ℕ) → AreOneLine texts → end ≡ length (blocks texts) → IsCut seen may_leave stale texts old → WritesFront (seen old) end (45 ∷ []) (seen new)
      → ((c : List ℕ) → may_leave new c → TornFrom end 1 (seen new) (may_leave old) c) → ((i : ℕ) → stale new i → stale old i ⊎ Differs (TornFrom end 1 (seen new) (may_leave old)) (seen new) i)
      → LeavesOnly moment left_since old new (TornFrom end 1 (seen new) (may_leave old)) → KeepsTexts moment left_since seen may_leave stale texts old new
  closed texts old new end all stands s front crash unsure run =
      let read = close_read texts all end stands (seen old) (seen new) s.read front in
      let there = λ (i : ℕ) (was : stale old i). let at = s.stale_at i was in let far : length (blocks texts) ≤ i = omega (arith, at) in far in
      keeps_texts moment left_since seen may_leave stale texts old new _ run crash (close_crash texts all end stands (seen new) (may_leave old) s.crash) read
      (λ i st. behind_blocks texts (seen new) i read (⊎_elim (there i) (close_unsure texts all end stands (seen old) (seen new) (may_leave old) s.read s.crash front i) (unsure i st)))

  -- and once it is done
  pub is_closed : (texts : List (List ℕ)) (old new : D) (end : ℕ) → AreOneLine texts → end ≡ length (blocks texts) → IsCut seen may_leave stale texts old → Holds (seen old) end (45 ∷ []) (seen new)
      → ((c : List ℕ) → may_leave new c → AgreesBut (λ i. stale old i × IsOutside end 1 i) (seen new) c) → ((i : ℕ) → stale new i → stale old i × IsOutside end 1 i) → IsAtRest seen may_leave stale new
  is_closed texts old new end all stands s holds durable fresh =
      let is = close_done texts all end stands (seen old) (seen new) s.read holds in
      let none = λ (i : ℕ) (p : stale old i × IsOutside end 1 i). not_outside end (subst (λ k. IsOutside end 1 k) (s.stale_at i p.0 ∙ sym stands) p.1) in
      record {
        file = is ∙ ap at_rest (sym (rest_texts texts all end stands (seen new) is));
        durable = λ c now. agrees_all _ (seen new) c (durable c now) none;
        fresh = λ i st. none i (fresh i st);
      }
