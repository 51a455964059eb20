-- The notes on each block agree with its fate, and so the lines are the same.
use Rattle.std.proofs.Common.{◌≡◌, ℕ, ◌+◌, ◌≤◌, Bool, true, false, List, [], ◌∷◌, ◌++◌, append_assoc, length, Option, Some, None, refl, sym, ap, ◌∙◌, arith}
use Rattle.std.specs.Prelude.{◌&&◌, ◌||◌, ◌==◌, nat_le, is_some}
use Rattle.std.specs.Int.{div_ceil}
use Rattle.std.proofs.lemmas.Bool.{and_parts, eqb-true, leb-true}
use Rattle.std.proofs.lemmas.Grind.{div_ceil_times}
use Rattle.std.proofs.Math.Nat.{div-lt_iff_lt-mul}
use Rattle.amo_sets.proofs.Sets.{members_agree}
use Rattle.amo_plan.specs.Keeps.{is_form}
use Rattle.amo_plan.specs.Passing.{is_between}
use Rattle.amo_plan.specs.declared.plan.Heads.{Heads}
use Rattle.amo_crew.specs.declared.outcome.End.{End}
use Rattle.amo_run_plan.specs.declared.block_done.BlockDone.{BlockDone}
use Rattle.amo_render.specs.Numbers.{first_line}
use Rattle.amo_render.specs.Tallies.{performed_line}
use Rattle.amo_run_plan.specs.Became.{Handed, Fate, fate_of, claimer_of, lists_block, first_output, done_blocks}
use Rattle.amo_run_plan.specs.Noted.{IsNoted, fate_in}
use Rattle.amo_run_plan.specs.OutcomeLines.{fate_line, block_of, place_of, job_line, job_lines, end_lines}
use Rattle.amo_run_plan.specs.OutcomeTexts.{run_lines}
use Rattle.amo_plan.specs.declared.limits.TheConstants.{MOST_IN_BLOCK}

-- blocks have jobs
pub some_block : (version block : ℕ) → is_form version block ≡ true → 1 ≤ block
some_block version block h = split (version == 1 && block == 1) refl h
  where
    split : (c : Bool) → (version == 1 && block == 1) ≡ c → (c || (version == 2 && is_between 1 MOST_IN_BLOCK block)) ≡ true → 1 ≤ block
    split true is e = let same = eqb-true block 1 (and_parts (version == 1) _ is).1 in omega arith
    split false is e = leb-true 1 block (and_parts (nat_le 1 block) _ (and_parts (version == 2) _ e).1).0

-- the block of a job is one of those that the jobs make
block_within : (jobs block j : ℕ) → 1 ≤ block → 1 ≤ j → j ≤ jobs → block_of block j ≤ div_ceil jobs block
block_within jobs block j some low high =
    let enough = (div_ceil_times jobs block some).0 in
    (div-lt_iff_lt-mul some).1 (omega (arith, enough))

-- what is noted is what became of the block
pub fate_is : (claims dones : List (List ℕ)) (outputs : List Handed) (b : ℕ) (o : Option BlockDone) (c : Option ℕ) → IsNoted (lists_block dones) outputs b o → c ≡ claimer_of claims b → fate_in outputs o c ≡ fate_of claims dones outputs b
fate_is claims dones outputs b o c noted claimer =
    ap (λ (x : Option ℕ). fate_in outputs o x) claimer ∙ by o noted
  where
    by : (o : Option BlockDone) → IsNoted (lists_block dones) outputs b o → fate_in outputs o (claimer_of claims b) ≡ fate_of claims dones outputs b
    by None h = ap (λ (d : Option ℕ). let fate : Fate = record { doer = d; output = first_output outputs b d; claimer = claimer_of claims b } in fate) (sym h)
    by (Some f) h =
        ap (λ (x : Option Handed). let fate : Fate = record { doer = Some f.worker; output = x; claimer = claimer_of claims b } in fate) (h.1 ∙ sym h.3)
        ∙ ap (λ (d : Option ℕ). let fate : Fate = record { doer = d; output = first_output outputs b d; claimer = claimer_of claims b } in fate) (sym h.2)

lines_agree : (f g : ℕ → Fate) (jobs block n : ℕ) → ((b : ℕ) → 1 ≤ b → b ≤ n → f b ≡ g b) → 1 ≤ block → div_ceil jobs block ≡ n
    → (j : ℕ) (names : List (List ℕ)) → 1 ≤ j → j + length names ≤ jobs + 1 → job_lines f block j names ≡ job_lines g block j names
lines_agree f g jobs block n same some blocks j [] low high = refl
lines_agree f g jobs block n same some blocks j (name ∷ names) low high =
    let inside = block_within jobs block j some low (omega arith) in
    ap (λ (fate : Fate). fate_line j (place_of block j) name fate.doer fate.output fate.claimer ++ job_lines f block (j + 1) names) (same (block_of block j) (omega arith) (omega (arith, inside, blocks)))
    ∙ ap (λ l. job_line g block j name ++ l) (lines_agree f g jobs block n same some blocks (j + 1) names (omega arith) (omega arith))

-- the lines are the same if each block has the same fate
pub run_agrees : (h : Heads) (ends : List End) (claims dones : List (List ℕ)) (f g : ℕ → Fate) → 1 ≤ h.block → div_ceil (length h.names) h.block ≡ h.givens.jobs
    → ((b : ℕ) → 1 ≤ b → b ≤ h.givens.jobs → f b ≡ g b) → run_lines h ends claims dones f ≡ run_lines h ends claims dones g
unfolding run_lines
run_agrees h ends claims dones f g some blocks same =
    ap (λ l. first_line h.version h.block (length h.names) h.givens ++ end_lines 1 ends claims dones ++ l ++ performed_line h.version h.block (length h.names) (done_blocks f h.givens.jobs))
    (lines_agree f g (length h.names) h.block h.givens.jobs same some blocks 1 h.names (omega arith) (omega arith))
    ∙ ap (λ l. first_line h.version h.block (length h.names) h.givens ++ end_lines 1 ends claims dones ++ job_lines g h.block 1 h.names ++ performed_line h.version h.block (length h.names) l)
    (members_agree h.givens.jobs (λ b. is_some (f b).doer) (λ b. is_some (g b).doer) (λ b low high. ap (λ (fate : Fate). is_some fate.doer) (same b low high)))

-- four parts that are written one after the other
pub four_parts : (old f e j t one two three four : List ℕ) → one ≡ old ++ f → two ≡ one ++ e → three ≡ two ++ j → four ≡ three ++ t → four ≡ old ++ (f ++ e ++ j ++ t)
four_parts old f e j t one two three four a b c d =
    d ∙ ap (λ x. x ++ t) (c ∙ ap (λ x. x ++ j) (b ∙ ap (λ x. x ++ e) a)) ∙ simp append_assoc
