-- Two records with one head say the same of their words.
use Rattle.std.proofs.Common.{◌≡◌, ℕ, zero, suc, ◌-◌, ◌^◌, ◌<◌, true, List, [], ◌∷◌, ◌++◌, length, get_or, replicate, Option, Some, unwrap_or, codes, decimal, refl, sym, ap, ◌∙◌, arith, append-nil}
use Rattle.std.specs.Prelude.{nat_lt}
use Rattle.std.specs.List.{AllByRecursion}
use Rattle.std.proofs.lemmas.Fmt.{decimal_injective}
use Rattle.std.proofs.lemmas.List.{append_cancel_left, same_from_push}
use Rattle.std.proofs.lemmas.Option.{cond_some}
use Rattle.amo_run_files.specs.declared.seats.RoundParams.{RoundParams}
use Rattle.amo_run_log.specs.Numbers.{three_in}
use Rattle.amo_run_log.specs.Texts.{ended}
use Rattle.amo_run_files.specs.Records.{RecordView, IsRecord, is_sound}
use Rattle.amo_run_files.proofs.RecordTexts.{limits}
use Rattle.amo_run_log.proofs.Words.{Lacks, lacks_append, lacks_by_test, decimal_lacks, three_reads}
use Rattle.amo_run_files.specs.declared.head.TheConstants.{HEAD_LEN}
use Rattle.amo_run_files.specs.Heads.{head_lines, head_text, head_of}
use Rattle.amo_run_files.specs.Lines.{lines_in}
use Rattle.amo_run_files.proofs.Cuts.{only}
use Rattle.amo_run_files.proofs.Ends.{ended-append}

-- what a sound record keeps of its givens
record Fits (g : RoundParams) : Type 0 where
  pub jobs : g.jobs < 2 ^ 64
  pub workers : g.workers < 2 ^ 64
  pub beta : g.beta < 2 ^ 64

fits : (r : RecordView) → is_sound r ≡ true → Fits r.givens
fits r h =
    let kept = limits r h in
    record { jobs = omega (arith, kept.jobs); workers = omega (arith, kept.sharing, kept.workers); beta = omega (arith, kept.beta) }

-- the line of the givens
abbrev numbers : RoundParams → List ℕ
numbers g = decimal g.jobs ++ 32 ∷ (decimal g.workers ++ 32 ∷ decimal g.beta)

numbers_lack : (g : RoundParams) → Fits g → Lacks 10 (numbers g)
numbers_lack g f =
    lacks_append 10 (decimal g.jobs) (32 ∷ (decimal g.workers ++ 32 ∷ decimal g.beta)) (decimal_lacks 10 g.jobs (omega arith) f.jobs)
    ((λ e. omega (arith, e)), lacks_append 10 (decimal g.workers) (32 ∷ decimal g.beta) (decimal_lacks 10 g.workers (omega arith) f.workers) ((λ e. omega (arith, e)), decimal_lacks 10 g.beta (omega arith) f.beta))

same_numbers : (g h : RoundParams) → Fits g → Fits h → numbers g ≡ numbers h → g ≡ h
same_numbers g h f k same = by_parts g h
    (sym (three_reads g.jobs g.workers g.beta f.jobs f.workers f.beta) ∙ ap three_in same ∙ three_reads h.jobs h.workers h.beta k.jobs k.workers k.beta)
  where
    by_parts : (a b : RoundParams) → ◌≡◌ {A = Option (ℕ × ℕ × ℕ)} (Some (a.jobs, a.workers, a.beta)) (Some (b.jobs, b.workers, b.beta)) → a ≡ b
    by_parts a b e =
        let jobs : a.jobs ≡ b.jobs = ap (λ (o : Option (ℕ × ℕ × ℕ)). (unwrap_or o (0, 0, 0)).0) e in
        let workers : a.workers ≡ b.workers = ap (λ (o : Option (ℕ × ℕ × ℕ)). (unwrap_or o (0, 0, 0)).1) e in
        let beta : a.beta ≡ b.beta = ap (λ (o : Option (ℕ × ℕ × ℕ)). (unwrap_or o (0, 0, 0)).2) e in
        ap (λ (x : ℕ). record { jobs = x; workers = a.workers; beta = a.beta }) jobs
        ∙ ap (λ (x : ℕ). record { jobs = b.jobs; workers = x; beta = a.beta }) workers
        ∙ ap (λ (x : ℕ). record { jobs = b.jobs; workers = b.workers; beta = x }) beta

-- a head is lines, and one more of blanks

blanks_lack : (n : ℕ) → Lacks 10 (replicate n 32)
blanks_lack zero = tt
blanks_lack (suc n) = ((λ e. omega (arith, e)), blanks_lack n)

lines_lack : (r : RecordView) → IsRecord r → AllByRecursion (Lacks 10) (head_lines r)
lines_lack r is =
    let version : Lacks 10 (codes "amo-words 2") = lacks_by_test 10 (codes "amo-words 2") refl in
    let round = lacks_append 10 (codes "round ") (decimal r.round) (lacks_by_test 10 (codes "round ") refl) (decimal_lacks 10 r.round (omega arith) is.round) in
    let boot = lacks_append 10 (codes "boot ") r.boot (lacks_by_test 10 (codes "boot ") refl) is.boot in
    let givens = lacks_append 10 (codes "givens ") (numbers r.givens) (lacks_by_test 10 (codes "givens ") refl) (numbers_lack r.givens (fits r is.sound)) in
    (version, (round, (boot, (givens, tt))))

push_lacks : (lines : List (List ℕ)) (line : List ℕ) → AllByRecursion (Lacks 10) lines → Lacks 10 line → AllByRecursion (Lacks 10) (lines ++ line ∷ [])
push_lacks [] line all lacks = (lacks, tt)
push_lacks (l ∷ lines) line all lacks = (all.0, push_lacks lines line all.1 lacks)

lines_of : (r : RecordView) (head : List ℕ) → IsRecord r → head_of r ≡ Some head → (blanks : List ℕ) × (lines_in head ≡ head_lines r ++ blanks ∷ [])
lines_of r head is h =
    let blanks = replicate (HEAD_LEN - 1 - length (head_text r)) 32 in
    let lines = head_lines r ++ blanks ∷ [] in
    let (short, made) = cond_some (nat_lt (length (head_text r)) HEAD_LEN) (head_text r ++ (blanks ++ 10 ∷ [])) head h in
    let are : ended lines ++ [] ≡ head = append-nil (ended lines) ∙ ended-append (head_lines r) (blanks ∷ []) ∙ made in
    (blanks, ap lines_in (sym are) ∙ (only lines [] (push_lacks (head_lines r) blanks (lines_lack r is) (blanks_lack (HEAD_LEN - 1 - length (head_text r)))) tt).0)

pub one_round : (one other : RecordView) (head : List ℕ) → IsRecord one → IsRecord other → head_of one ≡ Some head → head_of other ≡ Some head
    → (one.round ≡ other.round) × (one.boot ≡ other.boot) × (one.givens ≡ other.givens)
one_round one other head is_one is_other h k =
    let a = lines_of one head is_one h in
    let b = lines_of other head is_other k in
    let same : head_lines one ≡ head_lines other = (same_from_push (head_lines one) (head_lines other) a.0 b.0 (sym a.1 ∙ b.1)).0 in
    let rounds : codes "round " ++ decimal one.round ≡ codes "round " ++ decimal other.round = ap (λ (ls : List (List ℕ)). get_or ls 1 []) same in
    let boots : codes "boot " ++ one.boot ≡ codes "boot " ++ other.boot = ap (λ (ls : List (List ℕ)). get_or ls 2 []) same in
    let givens : codes "givens " ++ numbers one.givens ≡ codes "givens " ++ numbers other.givens = ap (λ (ls : List (List ℕ)). get_or ls 3 []) same in (
      decimal_injective one.round other.round is_one.round is_other.round (append_cancel_left (codes "round ") (decimal one.round) (decimal other.round) rounds),
      append_cancel_left (codes "boot ") one.boot other.boot boots,
      same_numbers one.givens other.givens (fits one is_one.sound) (fits other is_other.sound) (append_cancel_left (codes "givens ") (numbers one.givens) (numbers other.givens) givens),
    )
