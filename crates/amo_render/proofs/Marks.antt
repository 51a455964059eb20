-- Marks of jobs, which are set if a history claims them.
use Rattle.std.proofs.Common.{◌≡◌, ⊎_elim, ℕ, ◌≤◌, Bool, true, false, not, ◌||◌, List, length, refl, sym, ap, ◌∙◌, subst, arith}
use Rattle.std.specs.Prelude.{◌==◌}
use Rattle.std.proofs.lemmas.Bool.{cases_eq, eq-eqb, ne_eqb}
use Rattle.amo_sets.specs.Lists.{numbered, put}
use Rattle.amo_sets.specs.Sets.{has, members}
use Rattle.amo_sets.proofs.Sets.{members_agree}
use Rattle.amo_kk.specs.Run.{claimed_jobs}
use Rattle.amo_kk.specs.declared.event.Event.{Event}
use Rattle.amo_render.specs.Happened.{unclaimed_jobs}
use Rattle.amo_sets.proofs.Numbers.{numbered-put_same, numbered-put_other}

-- a mark that is set, beside the others
pub numbered-put_true : (marks : List Bool) (job k : ℕ) → 1 ≤ k → k ≤ length marks → numbered false (put marks job true) k ≡ ((job == k) || numbered false marks k)
numbered-put_true marks job k low high = ⊎_elim
    (λ (e : job ≡ k). subst (λ j. numbered false (put marks j true) k ≡ ((j == k) || numbered false marks k)) (sym e) (numbered-put_same false true marks k low high ∙ sym (ap (λ b. b || numbered false marks k) (eq-eqb k k refl))))
    (λ n. numbered-put_other false true marks job k (λ e. n (sym e)) ∙ sym (ap (λ b. b || numbered false marks k) (ne_eqb job k n)))
    (cases_eq job k)

-- a claim to come becomes a mark
pub marked_more : (marks : List Bool) (job k : ℕ) (later all : Bool) → 1 ≤ k → k ≤ length marks → (numbered false marks k || ((job == k) || later)) ≡ all → (numbered false (put marks job true) k || later) ≡ all
marked_more marks job k later all low high h = ap (λ b. b || later) (numbered-put_true marks job k low high) ∙ swap (job == k) (numbered false marks k) later ∙ h
  where
    swap : (a b c : Bool) → ((a || b) || c) ≡ (b || (a || c))
    swap a b c = grind arith

-- the unmarked jobs are the unclaimed ones
pub unmarked_unclaimed : (marks : List Bool) (n : ℕ) (history : List Event) → length marks ≡ n → ((k : ℕ) → 1 ≤ k → k ≤ n → numbered false marks k ≡ has (claimed_jobs history) k) → members (length marks) (λ k. not (numbered false marks k)) ≡ unclaimed_jobs n history
unmarked_unclaimed marks n history size agree =
    ap (λ m. members m (λ k. not (numbered false marks k))) size
    ∙ members_agree n (λ k. not (numbered false marks k)) (λ k. not (has (claimed_jobs history) k)) (λ k low high. ap not (agree k low high))
