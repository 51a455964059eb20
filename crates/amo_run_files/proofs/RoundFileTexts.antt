-- A round's file is read back as it was printed, and each one that is read was printed so.
use Rattle.std.proofs.Common.{◌≡◌, ℕ, ◌+◌, ◌-◌, ◌<◌, ◌≤◌, cond, List, [], ◌∷◌, ◌++◌, Vec, Global, length, get_or, take, drop, map, Option, Some, None, refl, sym, ap, subst, ◌∙◌, arith, length-append, length-take, length-drop}
use Rattle.std.specs.Prelude.{option_and_then, option_map, IfSome, IfNone}
use Rattle.std.specs.List.{AllByRecursion}
use Rattle.std.specs.Str.{bytes_eq}
use Rattle.std.proofs.lemmas.List.{take_at, drop_at, take-append-drop, length-map, drop_more, map_push}
use Rattle.std.proofs.lemmas.Slice.Eq.{bytes_eq-Decides}
use Rattle.amo_journal.specs.Appends.{next_checksum}
use Rattle.amo_journal.proofs.Checksums.{length-checksum_of}
use Rattle.amo_run_log.specs.Numbers.{read_all}
use Rattle.amo_run_log.specs.Texts.{ended}
use Rattle.amo_run_log.proofs.TextLists.{bytes_of, reads_back, was_printed}
use Rattle.amo_run_log.proofs.Words.{Lacks, and_then_some, blank_and}
use Rattle.amo_run_files.specs.declared.extent.Extent.{Extent}
use Rattle.amo_run_files.specs.declared.round_file.RoundFile.{RoundFile}
use Rattle.amo_run_files.specs.declared.round_file.TheConstants.{EXTENTS, SEAL_LEN}
use Rattle.amo_run_files.specs.Records.{RecordView, texts_of, texts_from, record_of}
use Rattle.amo_run_files.specs.Extents.{ExtentView, IsExtent, extent_said, text_of_extent, extent_in}
use Rattle.amo_run_files.specs.RoundFiles.{RoundFileView, IsRoundFile, file_said, body_texts, seal_line, text_of_round_file, body_in, round_of, round_file_in}
use Rattle.amo_run_files.proofs.RecordTexts.{cuts, was_cut, map_some, texts_lack, record_reads, texts_printed}
use Rattle.amo_run_files.proofs.Records.{read_on}
use Rattle.amo_run_files.proofs.ExtentTexts.{WasRead, extent_reads, extent_lacks, extent_printed, extent_is}

-- the seal

body_reads : (first body : List ℕ) → body_in first (body ++ seal_line first body) ≡ Some body
body_reads first body =
    let seal = seal_line first body in
    let file = body ++ seal in
    let n = length file - SEAL_LEN in
    let size : length seal ≡ SEAL_LEN = omega (arith, length-append (next_checksum first body) (10 ∷ []), length-checksum_of (first ++ body)) in
    let at : length body ≡ n = omega (arith, size, length-append body seal) in
    let front : take n file ≡ body = take_at body seal n at in
    let back : drop n file ≡ seal = drop_at body seal n at in
    ap (λ x. cond (bytes_eq x (seal_line first (take n file))) (Some (take n file)) None) back
    ∙ ap (λ x. cond (bytes_eq seal (seal_line first x)) (Some x) None) front
    ∙ ap (λ t. cond t (Some body) None) ((bytes_eq-Decides seal seal).1 refl)

body_printed : (first file body : List ℕ) → body_in first file ≡ Some body → body ++ seal_line first body ≡ file
body_printed first file body h =
    let n = length file - SEAL_LEN in
    let (sealed, some) = blank_and (bytes_eq (drop n file) (seal_line first (take n file))) (Some (take n file)) body h in
    let is : take n file ≡ body = cc in
    ap (λ b. b ++ seal_line first b) (sym is) ∙ ap (λ e. take n file ++ e) (sym ((bytes_eq-Decides (drop n file) (seal_line first (take n file))).0 sealed)) ∙ take-append-drop n file

-- lists of texts

abbrev AllLack : List (List ℕ) → Type 0
AllLack texts = AllByRecursion (Lacks 10) texts

all_append : (xs ys : List (List ℕ)) → AllLack xs → AllLack ys → AllLack (xs ++ ys)
all_append [] ys x y = y
all_append (t ∷ xs) ys x y = (x.0, all_append xs ys x.1 y)

all_behind : (xs ys : List (List ℕ)) → AllLack (xs ++ ys) → AllLack ys
all_behind [] ys all = all
all_behind (t ∷ xs) ys all = all_behind xs ys all.1

all_front : (xs ys : List (List ℕ)) → AllLack (xs ++ ys) → AllLack xs
all_front [] ys all = tt
all_front (t ∷ xs) ys all = (all.0, all_front xs ys all.1)

extents_lack : (es : List ExtentView) → AllByRecursion IsExtent es → AllLack (map text_of_extent es)
extents_lack [] all = tt
extents_lack (e ∷ es) all = (extent_lacks e all.0, extents_lack es all.1)

extents_are : (es : List ExtentView) → AllByRecursion WasRead es → AllLack (map text_of_extent es) → AllByRecursion IsExtent es
extents_are [] all lack = tt
extents_are (e ∷ es) all lack = (extent_is e all.0 lack.0, extents_are es all.1 lack.1)

-- what is printed is read

abbrev of_both : Option RecordView → Option (List ExtentView) → Option RoundFileView
of_both h es = option_and_then (λ (x : RecordView). option_map (λ (ys : List ExtentView). record { header = x; extents = ys }) es) h

round_reads : (f : RoundFileView) → IsRoundFile f → round_of (body_texts f) ≡ Some f
round_reads f is =
    let front = texts_of f.header in
    let back = map text_of_extent f.extents in
    let texts = front ++ back in
    let n = length texts - EXTENTS in
    let at : length front ≡ n = omega (arith, is.many, length-append front back, length-map f.extents text_of_extent) in
    ap (λ x. of_both (record_of (take n texts)) (read_all extent_in x)) (drop_at front back n at)
    ∙ ap (λ x. of_both (record_of x) (read_all extent_in back)) (take_at front back n at)
    ∙ ap (λ h. of_both h (read_all extent_in back)) (record_reads f.header is.header)
    ∙ ap (λ es. of_both (Some f.header) es) (reads_back extent_in text_of_extent IsExtent extent_reads f.extents is.extents)

pub file_reads : (first : List ℕ) (f : RoundFileView) → IsRoundFile f → round_file_in first (text_of_round_file first f) ≡ Some f
file_reads first f is =
    ap (option_and_then (λ body. option_and_then round_of (texts_from body []))) (body_reads first (ended (body_texts f)))
    ∙ ap (option_and_then round_of) (cuts (body_texts f) (all_append (texts_of f.header) (map text_of_extent f.extents) (texts_lack f.header is.header) (extents_lack f.extents is.extents)))
    ∙ round_reads f is

-- what is read was printed so

abbrev WasRound : List (List ℕ) → RoundFileView → Type 0
WasRound texts f = IsRoundFile f × (body_texts f ≡ texts)

many_back : (front back texts : List (List ℕ)) (n : ℕ) → n ≡ length texts - EXTENTS → 1 ≤ length front → length front ≡ length (take n texts) → length back ≡ length (drop n texts) → length back ≡ EXTENTS
many_back front back texts n is some fronts backs = omega (arith, length-take n texts, length-drop n texts)

round_printed : (texts : List (List ℕ)) (f : RoundFileView) → AllLack texts → round_of texts ≡ Some f → WasRound texts f
round_printed texts f all h =
    let n = length texts - EXTENTS in
    let (r, is_r, more) = and_then_some _ (record_of (take n texts)) f h in
    let (es, is_es, same) = map_some (λ (ys : List ExtentView). record { header = r; extents = ys }) (read_all extent_in (drop n texts)) f more in
    let whole : take n texts ++ drop n texts ≡ texts = take-append-drop n texts in
    let lack : AllLack (take n texts ++ drop n texts) = subst AllLack (sym whole) all in
    let (is, front) = texts_printed (take n texts) r (all_front (take n texts) (drop n texts) lack) is_r in
    let (back, read) = was_printed extent_in text_of_extent WasRead extent_printed (drop n texts) es is_es in
    let lacks : AllLack (map text_of_extent es) = subst AllLack (sym back) (all_behind (take n texts) (drop n texts) lack) in
    let many : length (map text_of_extent es) ≡ EXTENTS = many_back (texts_of r) (map text_of_extent es) texts n refl (omega arith) (ap length front) (ap length back) in
    subst (λ (x : RoundFileView). WasRound texts x) same (
      record { header = is; extents = extents_are es read lacks; many = sym (length-map es text_of_extent) ∙ many },
      ap (λ xs. xs ++ map text_of_extent es) front ∙ ap (λ ys. take n texts ++ ys) back ∙ whole,
    )

pub file_printed : (first file : List ℕ) (f : RoundFileView) → round_file_in first file ≡ Some f → IsRoundFile f × (text_of_round_file first f ≡ file)
file_printed first file f e =
    let (body, is_body, more) = and_then_some _ (body_in first file) f e in
    let (texts, cut, read) = and_then_some _ (texts_from body []) f more in
    let (body_is, all) = was_cut body [] texts tt cut in
    let (is, are) = round_printed texts f all read in
    (is, ap (λ b. b ++ seal_line first b) (ap ended are ∙ sym body_is) ∙ body_printed first file body is_body)

pub read_found : (first file : List ℕ) (o : Option RoundFile) → option_map file_said o ≡ round_file_in first file → IfSome o (λ f. IsRoundFile (file_said f) × (text_of_round_file first (file_said f) ≡ file))
read_found first file None is = tt
read_found first file (Some f) is = file_printed first file (file_said f) (sym is)

pub read_none : (first file : List ℕ) (o : Option RoundFile) → option_map file_said o ≡ round_file_in first file → IfNone o ((f : RoundFileView) → IsRoundFile f → text_of_round_file first f ≡ file → ⊥)
read_none first file (Some f) is = tt
read_none first file None is = λ f fits printed. absurd (none_some (is ∙ ap (round_file_in first) (sym printed) ∙ file_reads first f fits))
  where
    none_some : {A : Type 0} {x : A} → None ≡ Some x → ⊥
    none_some e = cc

-- one extent more that is read

pub extents_on : (texts : List (Vec ℕ Global)) (i : ℕ) (text : Vec ℕ Global) (old new : List Extent) (e : Extent) → i < length texts → text ≡ get_or texts i text
    → extent_in text.items ≡ Some (extent_said e) → new ≡ old ++ e ∷ []
    → option_map (λ more. map extent_said new ++ more) (read_all extent_in (map bytes_of (drop (i + 1) texts))) ≡ option_map (λ more. map extent_said old ++ more) (read_all extent_in (map bytes_of (drop i texts)))
extents_on texts i text old new e lt stands says more =
    let rest = map bytes_of (drop (i + 1) texts) in
    let back : text ∷ drop (i + 1) texts ≡ drop i texts = sym (drop_more texts i text lt ∙ ap (λ (t : Vec ℕ Global). t ∷ drop (i + 1) texts) (sym stands)) in
    ap (λ (es : List Extent). option_map (λ xs. map extent_said es ++ xs) (read_all extent_in rest)) more
    ∙ ap (λ (es : List ExtentView). option_map (λ xs. es ++ xs) (read_all extent_in rest)) (map_push extent_said old e)
    ∙ sym (read_on extent_in text.items rest (map extent_said old) (extent_said e) says)
    ∙ ap (λ (ts : List (Vec ℕ Global)). option_map (λ xs. map extent_said old ++ xs) (read_all extent_in (map bytes_of ts))) back
