-- The texts of a record are read back as it, and each record that is read has these texts.
use Rattle.std.proofs.Common.{◌≡◌, inl, inr, ℕ, ◌^◌, ◌<◌, ◌≤◌, Bool, true, cond, List, [], ◌∷◌, ◌++◌, length, take, drop, map, Option, Some, None, refl, sym, ap, subst, ◌∙◌, arith, append_assoc}
use Rattle.std.specs.Prelude.{◌==◌, ◌&&◌, nat_le, codes, option_and_then, option_map}
use Rattle.std.specs.Fmt.{decimal}
use Rattle.std.specs.List.{AllByRecursion}
use Rattle.std.specs.Str.{bytes_eq}
use Rattle.std.proofs.lemmas.Bool.{and_parts, cases_eq}
use Rattle.std.proofs.lemmas.Bool.Decides.{nat_tests}
use Rattle.std.proofs.lemmas.List.{take_at, drop_at, take-append-drop, append-nil}
use Rattle.std.proofs.lemmas.Slice.Eq.{bytes_eq-Decides}
use Rattle.amo_params.specs.declared.limits.TheConstants.{MAX_JOBS, MAX_WORKERS, MAX_BETA}
use Rattle.amo_run_files.specs.declared.seats.RoundParams.{RoundParams}
use Rattle.amo_decimal.specs.Numbers.{number_in}
use Rattle.amo_run_log.specs.Numbers.{two_in, three_in, read_all}
use Rattle.amo_run_log.specs.Texts.{ended}
use Rattle.amo_run_files.specs.Records.{RecordView, texts_of, ascends_from, is_sound, IsRecord, texts_from, labelled, head_in, if_sound, record_behind, record_of}
use Rattle.amo_decimal.proofs.NumberTexts.{reads_printed, printed_of_read}
use Rattle.amo_run_log.proofs.TextLists.{reads_back, was_printed}
use Rattle.amo_run_log.proofs.Words.{Lacks, lacks_append, lacks_by_test, decimal_lacks, equal, not_equal, two_reads, three_reads, and_then_some, blank_and, two_printed, three_printed}

-- cutting into texts

cut_one : (text begun rest : List ℕ) → Lacks 10 text → texts_from (text ++ 10 ∷ rest) begun ≡ option_map (λ ts. (begun ++ text) ∷ ts) (texts_from rest [])
cut_one [] begun rest lacks = ap (λ (l : List ℕ). option_map (λ ts. l ∷ ts) (texts_from rest [])) (sym (append-nil begun))
cut_one (b ∷ text) begun rest lacks =
    ap (λ (t : Bool). cond t (option_map (λ ts. begun ∷ ts) (texts_from (text ++ 10 ∷ rest) [])) (texts_from (text ++ 10 ∷ rest) (begun ++ b ∷ []))) (not_equal b 10 lacks.0)
    ∙ cut_one text (begun ++ b ∷ []) rest lacks.1
    ∙ ap (λ (l : List ℕ). option_map (λ ts. l ∷ ts) (texts_from rest [])) (append_assoc begun (b ∷ []) text)

pub cuts : (texts : List (List ℕ)) → AllByRecursion (Lacks 10) texts → texts_from (ended texts) [] ≡ Some texts
cuts [] all = refl
cuts (text ∷ texts) all = cut_one text [] (ended texts) all.0 ∙ ap (option_map (λ ts. text ∷ ts)) (cuts texts all.1)

pub map_some : {A B : Type 0} (f : A → B) (o : Option A) (y : B) → option_map f o ≡ Some y → (x : A) × (o ≡ Some x) × (f x ≡ y)
map_some f None y h = absurd (cc)
map_some f (Some x) y h = (x, refl, cc)

abbrev pub IsCut : List ℕ → List (List ℕ) → Type 0
IsCut bytes texts = (bytes ≡ ended texts) × AllByRecursion (Lacks 10) texts

pub was_cut : (bytes begun : List ℕ) (texts : List (List ℕ)) → Lacks 10 begun → texts_from bytes begun ≡ Some texts → IsCut (begun ++ bytes) texts
was_cut [] [] texts lacks h = let none : [] ≡ texts = cc in subst (λ (ts : List (List ℕ)). IsCut [] ts) none (refl, tt)
was_cut [] (b ∷ begun) texts lacks h = absurd (cc)
was_cut (b ∷ bytes) begun texts lacks h = elim (cases_eq b 10) [
  | inl same ↦
      let (ts, rest, is) = map_some (λ (xs : List (List ℕ)). begun ∷ xs) (texts_from bytes []) texts (sym (ap (λ (t : Bool). cond t (option_map (λ xs. begun ∷ xs) (texts_from bytes [])) (texts_from bytes (begun ++ b ∷ []))) (equal b 10 same)) ∙ h) in
      let (bytes_are, all) = was_cut bytes [] ts tt rest in
      subst (λ (xs : List (List ℕ)). IsCut (begun ++ b ∷ bytes) xs) is (ap (λ x. begun ++ x ∷ bytes) same ∙ ap (λ x. begun ++ 10 ∷ x) bytes_are, (lacks, all))
  | inr other ↦
      let (bytes_are, all) = was_cut bytes (begun ++ b ∷ []) texts (lacks_append 10 begun (b ∷ []) lacks (other, tt))
      (sym (ap (λ (t : Bool). cond t (option_map (λ xs. begun ∷ xs) (texts_from bytes [])) (texts_from bytes (begun ++ b ∷ []))) (not_equal b 10 other)) ∙ h) in
      (sym (append_assoc begun (b ∷ []) bytes) ∙ bytes_are, all)
]

-- labels

labelled_reads : (label r : List ℕ) → labelled label (label ++ r) ≡ Some r
labelled_reads label r =
    ap (λ t. cond t (Some (drop (length label) (label ++ r))) None) ((bytes_eq-Decides (take (length label) (label ++ r)) label).1 (take_at label r (length label) refl))
    ∙ ap Some (drop_at label r (length label) refl)

labelled_printed : (label text r : List ℕ) → labelled label text ≡ Some r → text ≡ label ++ r
labelled_printed label text r h =
    let (same, some) = blank_and (bytes_eq (take (length label) text) label) (Some (drop (length label) text)) r h in
    let is : drop (length label) text ≡ r = cc in
    sym (take-append-drop (length label) text) ∙ ap (λ t. t ++ drop (length label) text) ((bytes_eq-Decides (take (length label) text) label).0 same) ∙ ap (λ t. label ++ t) is

-- what is printed is read

abbrev Head : Type 0
Head = ℕ × RoundParams × ℕ × ℕ

abbrev head_of : Option ℕ → Option (ℕ × ℕ × ℕ) → Option (ℕ × ℕ) → Option Head
head_of a b c = option_and_then (λ (r : ℕ). option_and_then (λ (g : ℕ × ℕ × ℕ). option_and_then (λ (w : ℕ × ℕ). Some (r, record { jobs = g.0; workers = g.1; beta = g.2 }, w.0, w.1)) c) b) a

head_reads : (r : ℕ) (g : RoundParams) (w f : ℕ) → r < 2 ^ 64 → g.jobs < 2 ^ 64 → g.workers < 2 ^ 64 → g.beta < 2 ^ 64 → w < 2 ^ 64 → f < 2 ^ 64
    → head_in (codes "round " ++ decimal r) (codes "givens " ++ (decimal g.jobs ++ 32 ∷ (decimal g.workers ++ 32 ∷ decimal g.beta))) (codes "workers " ++ (decimal w ++ 32 ∷ decimal f)) ≡ Some (r, g, w, f)
head_reads r g w f fr fj fm fb fw ff =
    let givens = decimal g.jobs ++ 32 ∷ (decimal g.workers ++ 32 ∷ decimal g.beta) in
    let workers = decimal w ++ 32 ∷ decimal f in
    ap (λ o. head_of (option_and_then number_in o) (option_and_then three_in (labelled (codes "givens ") (codes "givens " ++ givens))) (option_and_then two_in (labelled (codes "workers ") (codes "workers " ++ workers)))) (labelled_reads (codes "round ") (decimal r))
    ∙ ap (λ o. head_of o (option_and_then three_in (labelled (codes "givens ") (codes "givens " ++ givens))) (option_and_then two_in (labelled (codes "workers ") (codes "workers " ++ workers)))) (reads_printed r fr)
    ∙ ap (λ o. head_of (Some r) (option_and_then three_in o) (option_and_then two_in (labelled (codes "workers ") (codes "workers " ++ workers)))) (labelled_reads (codes "givens ") givens)
    ∙ ap (λ o. head_of (Some r) o (option_and_then two_in (labelled (codes "workers ") (codes "workers " ++ workers)))) (three_reads g.jobs g.workers g.beta fj fm fb)
    ∙ ap (λ o. head_of (Some r) (Some (g.jobs, g.workers, g.beta)) (option_and_then two_in o)) (labelled_reads (codes "workers ") workers)
    ∙ ap (λ o. head_of (Some r) (Some (g.jobs, g.workers, g.beta)) o) (two_reads w f fw ff)

at_most : (a b : ℕ) → nat_le a b ≡ true → a ≤ b
at_most a b t = grind (arith, nat_tests)

-- what a sound record keeps of its numbers
pub record KeepsLimits (r : RecordView) : Type 0 where
  pub jobs : r.givens.jobs ≤ MAX_JOBS
  pub sharing : r.givens.workers ≤ r.workers
  pub workers : r.workers ≤ MAX_WORKERS
  pub beta : r.givens.beta ≤ MAX_BETA
  pub first : r.first ≤ r.workers

pub limits : (r : RecordView) → is_sound r ≡ true → KeepsLimits r
limits r h =
    let (about_jobs, others) = and_parts ((r.givens.jobs == length r.lines) && (nat_le r.givens.jobs MAX_JOBS && ascends_from 0 r.lines)) _ h in
    let (one, jobs) = and_parts (r.givens.jobs == length r.lines) _ about_jobs in
    let (few, ascend) = and_parts (nat_le r.givens.jobs MAX_JOBS) _ jobs in
    let (sharing, rest) = and_parts (nat_le 1 r.givens.workers && (nat_le r.givens.workers r.workers && nat_le r.workers MAX_WORKERS)) _ others in
    let (some, within) = and_parts (nat_le 1 r.givens.workers) _ sharing in
    let (share, workers) = and_parts (nat_le r.givens.workers r.workers) _ within in
    let (betas, firsts) = and_parts (nat_le r.givens.workers r.givens.beta && nat_le r.givens.beta MAX_BETA) _ rest in
    let (low, high) = and_parts (nat_le r.givens.workers r.givens.beta) _ betas in
    let (from, there) = and_parts (nat_le 1 r.first) _ firsts in
    record {
      jobs = at_most r.givens.jobs MAX_JOBS few;
      sharing = at_most r.givens.workers r.workers share;
      workers = at_most r.workers MAX_WORKERS workers;
      beta = at_most r.givens.beta MAX_BETA high;
      first = at_most r.first r.workers there;
    }

abbrev FitLines : List ℕ → Type 0
FitLines lines = AllByRecursion (λ line. line < 2 ^ 64) lines

-- the texts of a record are one line each

lines_lack : (lines : List ℕ) → FitLines lines → AllByRecursion (Lacks 10) (map decimal lines)
lines_lack [] fit = tt
lines_lack (line ∷ lines) fit = (decimal_lacks 10 line (omega arith) fit.0, lines_lack lines fit.1)

two_lack : (a b : ℕ) → a < 2 ^ 64 → b < 2 ^ 64 → Lacks 10 (decimal a ++ 32 ∷ decimal b)
two_lack a b fa fb = lacks_append 10 (decimal a) (32 ∷ decimal b) (decimal_lacks 10 a (omega arith) fa) ((λ e. omega arith), decimal_lacks 10 b (omega arith) fb)

pub texts_lack : (r : RecordView) → IsRecord r → AllByRecursion (Lacks 10) (texts_of r)
texts_lack r is =
    let l : KeepsLimits r = limits r is.sound in
    let version = lacks_by_test 10 (codes "amo-run 2") refl in
    let round = lacks_append 10 (codes "round ") (decimal r.round) (lacks_by_test 10 (codes "round ") refl) (decimal_lacks 10 r.round (omega arith) is.round) in
    let boot = lacks_append 10 (codes "boot ") r.boot (lacks_by_test 10 (codes "boot ") refl) is.boot in
    let givens : Lacks 10 (codes "givens " ++ (decimal r.givens.jobs ++ 32 ∷ (decimal r.givens.workers ++ 32 ∷ decimal r.givens.beta))) =
    lacks_append 10 (codes "givens ") (decimal r.givens.jobs ++ 32 ∷ (decimal r.givens.workers ++ 32 ∷ decimal r.givens.beta)) (lacks_by_test 10 (codes "givens ") refl)
    (lacks_append 10 (decimal r.givens.jobs) (32 ∷ (decimal r.givens.workers ++ 32 ∷ decimal r.givens.beta)) (decimal_lacks 10 r.givens.jobs (omega arith) (omega (arith, l.jobs)))
    ((λ e. omega arith), two_lack r.givens.workers r.givens.beta (omega (arith, l.sharing, l.workers)) (omega (arith, l.beta)))) in
    let workers = lacks_append 10 (codes "workers ") (decimal r.workers ++ 32 ∷ decimal r.first) (lacks_by_test 10 (codes "workers ") refl) (two_lack r.workers r.first (omega (arith, l.workers)) (omega (arith, l.workers, l.first))) in
    (version, (round, (boot, (givens, (workers, lines_lack r.lines is.lines)))))

abbrev built : Head → List ℕ → List ℕ → RecordView
built h b ls = record { round = h.0; boot = b; givens = h.1; workers = h.2; first = h.3; lines = ls }

abbrev of_parts : Option Head → Option (List ℕ) → Option (List ℕ) → Option RecordView
of_parts h b ls = option_and_then (λ (x : Head). option_and_then (λ (y : List ℕ). option_and_then (λ (z : List ℕ). if_sound (built x y z)) ls) b) h

pub record_reads : (r : RecordView) → IsRecord r → record_of (texts_of r) ≡ Some r
record_reads r is =
    let l : KeepsLimits r = limits r is.sound in
    let lines = read_all number_in (map decimal r.lines) in
    ap (λ h. of_parts h (labelled (codes "boot ") (codes "boot " ++ r.boot)) lines)
    (head_reads r.round r.givens r.workers r.first is.round (omega (arith, l.jobs)) (omega (arith, l.sharing, l.workers)) (omega (arith, l.beta)) (omega (arith, l.workers)) (omega (arith, l.workers, l.first)))
    ∙ ap (λ b. of_parts (Some (r.round, r.givens, r.workers, r.first)) b lines) (labelled_reads (codes "boot ") r.boot)
    ∙ ap (λ ls. of_parts (Some (r.round, r.givens, r.workers, r.first)) (Some r.boot) ls) (reads_back number_in decimal (λ n. n < 2 ^ 64) reads_printed r.lines is.lines)
    ∙ ap (λ b. cond b (Some r) None) is.sound

-- what is read was printed so

abbrev IsHead : List ℕ → List ℕ → List ℕ → Head → Type 0
IsHead round givens workers h =
    (round ≡ codes "round " ++ decimal h.0) × (givens ≡ codes "givens " ++ (decimal h.1.jobs ++ 32 ∷ (decimal h.1.workers ++ 32 ∷ decimal h.1.beta)))
    × (workers ≡ codes "workers " ++ (decimal h.2 ++ 32 ∷ decimal h.3)) × (h.0 < 2 ^ 64)

head_printed : (round givens workers : List ℕ) (h : Head) → head_in round givens workers ≡ Some h → IsHead round givens workers h
head_printed round givens workers h e =
    let (r, is_r, more) = and_then_some _ (option_and_then number_in (labelled (codes "round ") round)) h e in
    let (g, is_g, rest) = and_then_some _ (option_and_then three_in (labelled (codes "givens ") givens)) h more in
    let (w, is_w, same) = and_then_some _ (option_and_then two_in (labelled (codes "workers ") workers)) h rest in
    let (r_text, r_label, r_read) = and_then_some _ (labelled (codes "round ") round) r is_r in
    let (g_text, g_label, g_read) = and_then_some _ (labelled (codes "givens ") givens) g is_g in
    let (w_text, w_label, w_read) = and_then_some _ (labelled (codes "workers ") workers) w is_w in
    let (r_is, r_fits) = printed_of_read r_text r r_read in
    let g_is = three_printed g_text g g_read in
    let w_is = two_printed w_text w w_read in
    let is : (r, record { jobs = g.0; workers = g.1; beta = g.2 }, w.0, w.1) ≡ h = cc in
    subst (λ (x : Head). IsHead round givens workers x) is (
      labelled_printed (codes "round ") round r_text r_label ∙ ap (λ t. codes "round " ++ t) (sym r_is),
      labelled_printed (codes "givens ") givens g_text g_label ∙ ap (λ t. codes "givens " ++ t) (sym g_is.0),
      labelled_printed (codes "workers ") workers w_text w_label ∙ ap (λ t. codes "workers " ++ t) (sym w_is.0),
      r_fits,
    )

-- the texts behind that of the version say a record that is printed so
record SaysRecord (round boot givens workers : List ℕ) (lines : List (List ℕ)) (r : RecordView) : Type 0 where
  pub sound : is_sound r ≡ true
  pub round_fits : r.round < 2 ^ 64
  pub lines_fit : FitLines r.lines
  pub printed : codes "amo-run 2" ∷ round ∷ boot ∷ givens ∷ workers ∷ lines ≡ texts_of r

behind_printed : (round boot givens workers : List ℕ) (lines : List (List ℕ)) (r : RecordView) → record_behind round boot givens workers lines ≡ Some r → SaysRecord round boot givens workers lines r
behind_printed round boot givens workers lines r e =
    let (h, is_h, more) = and_then_some _ (head_in round givens workers) r e in
    let (b, is_b, rest) = and_then_some _ (labelled (codes "boot ") boot) r more in
    let (ls, is_ls, last) = and_then_some _ (read_all number_in lines) r rest in
    let (sound, some) = blank_and (is_sound (built h b ls)) (Some (built h b ls)) r last in
    let is : built h b ls ≡ r = cc in
    let head = head_printed round givens workers h is_h in
    let boot_is = labelled_printed (codes "boot ") boot b is_b in
    let (ls_are, ls_fit) = was_printed number_in decimal (λ n. n < 2 ^ 64) printed_of_read lines ls is_ls in
    subst (λ (x : RecordView). SaysRecord round boot givens workers lines x) is record {
      sound = sound;
      round_fits = head.3;
      lines_fit = ls_fit;
      printed =
          ap (λ x. codes "amo-run 2" ∷ x ∷ boot ∷ givens ∷ workers ∷ lines) head.0
          ∙ ap (λ x. codes "amo-run 2" ∷ (codes "round " ++ decimal h.0) ∷ x ∷ givens ∷ workers ∷ lines) boot_is
          ∙ ap (λ x. codes "amo-run 2" ∷ (codes "round " ++ decimal h.0) ∷ (codes "boot " ++ b) ∷ x ∷ workers ∷ lines) head.1
          ∙ ap (λ x. codes "amo-run 2" ∷ (codes "round " ++ decimal h.0) ∷ (codes "boot " ++ b) ∷ (codes "givens " ++ (decimal h.1.jobs ++ 32 ∷ (decimal h.1.workers ++ 32 ∷ decimal h.1.beta))) ∷ x ∷ lines) head.2
          ∙ ap (λ x. codes "amo-run 2" ∷ (codes "round " ++ decimal h.0) ∷ (codes "boot " ++ b) ∷ (codes "givens " ++ (decimal h.1.jobs ++ 32 ∷ (decimal h.1.workers ++ 32 ∷ decimal h.1.beta))) ∷ (codes "workers " ++ (decimal h.2 ++ 32 ∷ decimal h.3)) ∷ x) (sym ls_are);
    }

-- the boot id of the texts
pub lacks_behind : (label text : List ℕ) → Lacks 10 (label ++ text) → Lacks 10 text
lacks_behind [] text all = all
lacks_behind (b ∷ label) text all = lacks_behind label text all.1

abbrev pub WasPrinted : List (List ℕ) → RecordView → Type 0
WasPrinted texts r = IsRecord r × (texts_of r ≡ texts)

pub texts_printed : (texts : List (List ℕ)) (r : RecordView) → AllByRecursion (Lacks 10) texts → record_of texts ≡ Some r → WasPrinted texts r
texts_printed [] r all e = absurd (cc)
texts_printed (a ∷ []) r all e = absurd (cc)
texts_printed (a ∷ b ∷ []) r all e = absurd (cc)
texts_printed (a ∷ b ∷ c ∷ []) r all e = absurd (cc)
texts_printed (a ∷ b ∷ c ∷ d ∷ []) r all e = absurd (cc)
texts_printed (version ∷ round ∷ boot ∷ givens ∷ workers ∷ lines) r all e =
    let (is_version, behind) = blank_and (bytes_eq version (codes "amo-run 2")) (record_behind round boot givens workers lines) r e in
    let version_is : version ≡ codes "amo-run 2" = (bytes_eq-Decides version (codes "amo-run 2")).0 is_version in
    let s : SaysRecord round boot givens workers lines r = behind_printed round boot givens workers lines r behind in
    let are : version ∷ round ∷ boot ∷ givens ∷ workers ∷ lines ≡ texts_of r = ap (λ v. v ∷ round ∷ boot ∷ givens ∷ workers ∷ lines) version_is ∙ s.printed in
    let lack : AllByRecursion (Lacks 10) (texts_of r) = subst (λ (ts : List (List ℕ)). AllByRecursion (Lacks 10) ts) are all in
    (record { sound = s.sound; round = s.round_fits; lines = s.lines_fit; boot = lacks_behind (codes "boot ") r.boot lack.1.1.0 }, sym are)
