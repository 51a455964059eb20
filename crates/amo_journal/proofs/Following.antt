-- This file proves what reading on from a place shows of the whole file.
use Rattle.std.proofs.Common.{◌≡◌, ℕ, ◌+◌, ◌-◌, ◌<◌, ◌≤◌, ◌^◌, List, [], ◌∷◌, ◌++◌, length, take, drop, Option, Some, None, refl, sym, ◌∙◌, ap, subst, arith, append_assoc, length-append}
use Rattle.std.specs.Prelude.{IfSome, IfNone}
use Rattle.std.specs.Option.{MatchOption}
use Rattle.std.proofs.lemmas.List.{append-nil, take_at, drop_at}
use Rattle.amo_journal.specs.Appends.{appends, checksum_after, line_of, next_checksum, IsDamagedAt, IsLog, IsWrong}
use Rattle.amo_journal.specs.Following.{all_but_last, error_behind, file_with, IsPlace, IsReasonThere, NumberFits}
use Rattle.amo_journal.specs.Logs.{IsReason}
use Rattle.amo_journal.specs.Texts.{AreOneLine}
use Rattle.amo_journal.specs.declared.follow.Place.{Place}
use Rattle.amo_journal.specs.declared.log.DamageKind.{DamageKind}
use Rattle.amo_journal.specs.declared.log.DamageKind.TheVariants.{CommitByte, Unfinished, Checksum, Surplus}
use Rattle.amo_journal.specs.declared.log.ReadError.{ReadError}
use Rattle.amo_journal.specs.declared.log.ReadError.TheVariants.{Memory, Damaged}
use Rattle.amo_journal.proofs.Chains.{checksum_after-push}
use Rattle.amo_journal.proofs.Checksums.{length-line_of}

pub in_some : {A : Type 0} (r : Option A) (P : Type 0) (Q : A → Type 0) → MatchOption r P Q → IfSome r Q
in_some None P Q m = tt
in_some (Some x) P Q m = m

pub in_none : {A : Type 0} (r : Option A) (P : Type 0) (Q : A → Type 0) → MatchOption r P Q → IfNone r P
in_none None P Q m = m
in_none (Some x) P Q m = tt

-- appends behind appends

pub but_last : (all : List (List ℕ)) (records : List ℕ) → all_but_last (all ++ records ∷ []) ≡ all
but_last [] records = refl
but_last (a ∷ []) records = refl
but_last (a ∷ b ∷ all) records = ap (λ (l : List (List ℕ)). a ∷ l) (but_last (b ∷ all) records)

pub appends-append : (checksum : List ℕ) (all more : List (List ℕ)) → appends checksum (all ++ more) ≡ appends checksum all ++ appends (checksum_after checksum all) more
appends-append checksum [] more = refl
appends-append checksum (r ∷ all) more =
    ap (λ (l : List ℕ). 43 ∷ line_of checksum r ++ 10 ∷ l) (appends-append (next_checksum checksum r) all more)
    ∙ ap (λ (l : List ℕ). 43 ∷ l) (sym (append_assoc (line_of checksum r) (10 ∷ appends (next_checksum checksum r) all) (appends (checksum_after (next_checksum checksum r) all) more)))

pub checksum_after-append : (checksum : List ℕ) (all more : List (List ℕ)) → checksum_after checksum (all ++ more) ≡ checksum_after (checksum_after checksum all) more
checksum_after-append checksum [] more = refl
checksum_after-append checksum (r ∷ all) more = checksum_after-append (next_checksum checksum r) all more

both_one_line : (all more : List (List ℕ)) → AreOneLine all → AreOneLine more → AreOneLine (all ++ more)
both_one_line [] more one two = two
both_one_line (r ∷ all) more one two = (one.0, both_one_line all more one.1 two)

pub length-appends : (checksum : List ℕ) (all : List (List ℕ)) → length all ≤ length (appends checksum all)
length-appends checksum [] = omega arith
length-appends checksum (r ∷ all) =
    omega (arith, length-appends (next_checksum checksum r) all, length-append (line_of checksum r) (10 ∷ appends (next_checksum checksum r) all))

wrong_is_some : (kind : DamageKind) (checksum rest : List ℕ) → IsWrong kind checksum rest → 1 ≤ length rest
wrong_is_some CommitByte checksum [] wrong = absurd wrong
wrong_is_some CommitByte checksum (b ∷ rest) wrong = omega arith
wrong_is_some Unfinished checksum rest wrong = omega (arith, ap length wrong.1)
wrong_is_some Checksum checksum rest wrong = omega (arith, ap length wrong.2)
wrong_is_some Surplus checksum rest wrong = omega (arith, ap length wrong.1)

-- 64 bits can count the append that is damaged, if they can count the bytes
pub number_fits : (count : ℕ) (error : ReadError) (checksum rest : List ℕ) (n : ℕ) → IsReason error checksum rest → length rest ≤ n → count + n < 2 ^ 64 → NumberFits count error
number_fits count Memory checksum rest n reason long fits = tt
number_fits count (Damaged number kind) checksum rest n reason long fits =
    let there = reason.2 in
    omega (arith, reason.1, long, fits, ap length there.file_is, length-append (appends checksum reason.0) there.rest, length-appends checksum reason.0, wrong_is_some kind (checksum_after checksum reason.0) there.rest there.wrong)

-- the last append of some
block_size : (checksum : List ℕ) (before : List (List ℕ)) (last : List ℕ) → length (appends checksum (before ++ last ∷ [])) ≡ length (appends checksum before) + (length last + 11)
block_size checksum before last =
    let behind = checksum_after checksum before in
    omega (arith, ap length (appends-append checksum before (last ∷ [])), length-append (appends checksum before) (appends behind (last ∷ [])), length-append (line_of behind last) (10 ∷ []), length-line_of behind last)

module _ (checksum : List ℕ) (more before : List (List ℕ)) (last rest tail : List ℕ) (line end : ℕ) (are : more ≡ before ++ last ∷ []) (long : line ≡ length last + 9) (end_is : end ≡ length (appends checksum more)) where
  -- the last append begins after the appends before it
  pub block_place : end ≡ length (appends checksum before) + (line + 2)
  block_place = omega (arith, end_is, ap (λ (m : List (List ℕ)). length (appends checksum m)) are, block_size checksum before last, long)

  -- its bytes
  pub block_is : rest ≡ appends checksum more ++ tail → take (end - (end - (line + 2))) (drop (end - (line + 2)) rest) ≡ appends (checksum_after checksum before) (last ∷ [])
  block_is rest_is =
      let block = appends (checksum_after checksum before) (last ∷ []) in
      let front : length (appends checksum before) ≡ end - (line + 2) = omega (arith, block_place) in
      let joined : rest ≡ appends checksum before ++ (block ++ tail) =
      rest_is ∙ ap (λ (m : List (List ℕ)). appends checksum m ++ tail) are ∙ ap (λ (l : List ℕ). l ++ tail) (appends-append checksum before (last ∷ [])) ∙ append_assoc (appends checksum before) block tail in
      let size : length block ≡ end - (end - (line + 2)) =
      omega (arith, block_place, ap length (appends-append checksum before (last ∷ [])), length-append (appends checksum before) block, block_size checksum before last, long) in
      ap (λ (l : List ℕ). take (end - (end - (line + 2))) (drop (end - (line + 2)) l)) joined
      ∙ ap (λ (l : List ℕ). take (end - (end - (line + 2))) l) (drop_at (appends checksum before) (block ++ tail) (end - (line + 2)) (omega (arith, front)))
      ∙ take_at block tail (end - (end - (line + 2))) (omega (arith, size))

module _ (first : List ℕ) (all : List (List ℕ)) (place : Place) (at : IsPlace first all place) where
  -- the whole file
  pub file_is : (bytes rest : List ℕ) → bytes ≡ place.append.items ++ rest → file_with first all bytes ≡ appends first all ++ rest
  file_is bytes rest is =
      ap (λ (l : List ℕ). appends first (all_but_last all) ++ l) is ∙ sym (append_assoc (appends first (all_but_last all)) place.append.items rest) ∙ ap (λ (l : List ℕ). l ++ rest) (sym at.append)

  joined : (bytes rest tail : List ℕ) (more : List (List ℕ)) → bytes ≡ place.append.items ++ rest → rest ≡ appends place.checksum.digits more ++ tail → file_with first all bytes ≡ appends first (all ++ more) ++ tail
  joined bytes rest tail more is rest_is =
      file_is bytes rest is
      ∙ ap (λ (l : List ℕ). appends first all ++ l) (rest_is ∙ ap (λ (c : List ℕ). appends c more ++ tail) at.checksum)
      ∙ sym (append_assoc (appends first all) (appends (checksum_after first all) more) tail)
      ∙ ap (λ (l : List ℕ). l ++ tail) (sym (appends-append first all more))

  pub log_there : (bytes rest : List ℕ) (more : List (List ℕ)) → bytes ≡ place.append.items ++ rest → IsLog place.checksum.digits more rest → IsLog first (all ++ more) (file_with first all bytes)
  log_there bytes rest more is log = record {
    end = log.end;
    file_is = joined bytes rest log.end more is log.file_is;
    cut_off = log.cut_off;
    one_line = both_one_line all more at.one_line log.one_line;
  }

  pub damage_there : (bytes rest : List ℕ) (more : List (List ℕ)) (kind : DamageKind) → bytes ≡ place.append.items ++ rest → IsDamagedAt place.checksum.digits more kind rest → IsDamagedAt first (all ++ more) kind (file_with first all bytes)
  damage_there bytes rest more kind is there = record {
    rest = there.rest;
    file_is = joined bytes rest there.rest more is there.file_is;
    one_line = both_one_line all more at.one_line there.one_line;
    wrong = subst (λ (c : List ℕ). IsWrong kind c there.rest) (ap (λ (c : List ℕ). checksum_after c more) at.checksum ∙ sym (checksum_after-append first all more)) there.wrong;
  }

  -- how many bytes the appends have
  pub end_there : (more : List (List ℕ)) (end : ℕ) → end ≡ length (appends place.checksum.digits more) → place.start + length place.append.items + end ≡ length (appends first (all ++ more))
  end_there more end is =
      omega (
        arith,
        at.start,
        is,
        ap length at.append,
        length-append (appends first (all_but_last all)) place.append.items,
        ap (λ (c : List ℕ). length (appends c more)) at.checksum,
        ap length (appends-append first all more),
        length-append (appends first all) (appends (checksum_after first all) more),
      )

  -- nothing more was read
  pub stays : (more : List (List ℕ)) (next : Place) → more ≡ [] → next.count ≡ place.count → next.start ≡ place.start → next.append.items ≡ place.append.items → next.checksum.digits ≡ place.checksum.digits → IsPlace first (all ++ more) next
  stays more next none count start append checksum =
      subst (λ (rs : List (List ℕ)). IsPlace first rs next) (sym (ap (λ (m : List (List ℕ)). all ++ m) none ∙ append-nil all))
      (record {
        count = count ∙ at.count;
        start = start ∙ at.start;
        append = at.append ∙ ap (λ (l : List ℕ). appends first (all_but_last all) ++ l) (sym append);
        checksum = checksum ∙ at.checksum;
        one_line = at.one_line;
      })

  -- its checksum
  pub checksum_there : (more before : List (List ℕ)) (last digits : List ℕ) → more ≡ before ++ last ∷ [] → digits ≡ next_checksum (checksum_after place.checksum.digits before) last → digits ≡ checksum_after first (all ++ more)
  checksum_there more before last digits are is =
      is ∙ sym (checksum_after-push place.checksum.digits before last) ∙ ap (checksum_after place.checksum.digits) (sym are)
      ∙ ap (λ (c : List ℕ). checksum_after c more) at.checksum ∙ sym (checksum_after-append first all more)

  -- some more was read
  pub moves : (more before : List (List ℕ)) (last rest : List ℕ) (line end : ℕ) (next : Place) → more ≡ before ++ last ∷ [] → line ≡ length last + 9 → end ≡ length (appends place.checksum.digits more) → IsLog place.checksum.digits more rest
      → next.count ≡ place.count + length more → next.start ≡ place.start + length place.append.items + (end - (line + 2))
      → next.append.items ≡ take (end - (end - (line + 2))) (drop (end - (line + 2)) rest) → next.checksum.digits ≡ next_checksum (checksum_after place.checksum.digits before) last → IsPlace first (all ++ more) next
  moves more before last rest line end next are long end_is log count start append checksum =
      let split : all ++ more ≡ (all ++ before) ++ last ∷ [] = ap (λ (m : List (List ℕ)). all ++ m) are ∙ sym (append_assoc all before (last ∷ [])) in
      let front : all_but_last (all ++ more) ≡ all ++ before = ap all_but_last split ∙ but_last (all ++ before) last in
      let place_is : end ≡ length (appends place.checksum.digits before) + (line + 2) = block_place place.checksum.digits more before last rest log.end line end are long end_is in
      let block = appends (checksum_after place.checksum.digits before) (last ∷ []) in
      let block_there : next.append.items ≡ block = append ∙ block_is place.checksum.digits more before last rest log.end line end are long end_is log.file_is in
      let behind : checksum_after place.checksum.digits before ≡ checksum_after first (all ++ before) = ap (λ (c : List ℕ). checksum_after c before) at.checksum ∙ sym (checksum_after-append first all before) in
      record {
        count = omega (arith, count, at.count, length-append all more);
        start = start ∙ end_there before (end - (line + 2)) (omega (arith, place_is)) ∙ ap (λ (a : List (List ℕ)). length (appends first a)) (sym front);
        append =
            ap (appends first) split ∙ appends-append first (all ++ before) (last ∷ [])
            ∙ ap (λ (a : List (List ℕ)). appends first a ++ appends (checksum_after first (all ++ before)) (last ∷ [])) (sym front)
            ∙ ap (λ (l : List ℕ). appends first (all_but_last (all ++ more)) ++ l) (ap (λ (c : List ℕ). appends c (last ∷ [])) (sym behind) ∙ sym block_there);
        checksum = checksum_there more before last next.checksum.digits are checksum;
        one_line = both_one_line all more at.one_line log.one_line;
      }

-- the error there
pub reason_there : (place : Place) (error : ReadError) (bytes rest : List ℕ) → bytes ≡ place.append.items ++ rest → IsReason error place.checksum.digits rest → IsReasonThere (error_behind place.count error) place bytes
reason_there place Memory bytes rest is reason = tt
reason_there place (Damaged number kind) bytes rest is reason = λ first all at.
    (reason.0, omega (arith, reason.1, at.count, length-append all reason.0), damage_there first all place at bytes rest reason.0 kind is reason.2)
