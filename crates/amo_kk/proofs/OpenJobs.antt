-- Free jobs as bits: which jobs are known, how many are open, and the choice as it is computed from
-- bits.
use Rattle.std.proofs.Common.{◌≡◌, ◌≢◌, ⊎_elim, ℕ, zero, suc, ◌+◌, ◌≤◌, ◌<◌, List, Bool, true, false, [], not, ◌&&◌, ◌||◌, replicate, length, refl, sym, ap, ◌∙◌, subst, arith}
use Rattle.std.specs.Prelude.{if◌then◌else◌, ◌==◌}
use Rattle.std.proofs.lemmas.Bool.{lt-ltb, le-ltb, le-leb, and_from, and_right, cases_eq, eq-eqb, ne_eqb}
use Rattle.std.proofs.lemmas.List.{get_or-replicate, length-replicate}
use Rattle.amo_sets.specs.Lists.{numbered, put}
use Rattle.amo_sets.specs.Sets.{has, members, set_of_bits, with_number}
use Rattle.amo_sets.specs.Rank.{count, number_of_rank}
use Rattle.amo_sets.specs.Bits.{is_without}
use Rattle.amo_sets.proofs.Numbers.{count_true, count_pos, numbered-put_same, numbered-put_other, length-put}
use Rattle.amo_sets.proofs.Sets.{members_agree, members_none, has-members, with_member, has-set_of_bits}
use Rattle.amo_sets.proofs.Tally.{count_same, count_gain}
use Rattle.amo_kk.specs.Record.{is_free, is_open}
use Rattle.amo_kk.specs.Choice.{chosen_rank, chosen_job, record_after_choice}
use Rattle.amo_kk.specs.Knowledge.{numbers_without}
use Rattle.amo_params.specs.declared.givens.Givens.{Givens}
use Rattle.amo_kk.specs.declared.phase.Phase.TheVariants.{Announcing, Over}
use Rattle.amo_kk.specs.declared.model.Record.{Record}

-- which jobs are known

pub has-numbers_without : (bits : List Bool) (j : ℕ) → 1 ≤ j → j ≤ length bits → has (numbers_without bits) j ≡ not (numbered false bits j)
has-numbers_without bits j low high =
    has-members (length bits) (λ k. not (numbered false bits k)) j
    ∙ ap (λ b. b && not (numbered false bits j)) (and_from _ _ (le-leb 1 j low) (le-leb j (length bits) high))

pub numbers_without-put : (bits : List Bool) (j : ℕ) → 1 ≤ j → j ≤ length bits → numbers_without (put bits j false) ≡ with_number j (numbers_without bits)
numbers_without-put bits j low high =
    ap (λ n. members n (λ k. not (numbered false (put bits j false) k))) (length-put false bits j)
    ∙ members_agree (length bits) (λ k. not (numbered false (put bits j false) k)) (λ k. (j == k) || not (numbered false bits k)) bit
    ∙ sym (with_member (length bits) (λ k. not (numbered false bits k)) j low high)
  where
    bit : (k : ℕ) → 1 ≤ k → k ≤ length bits → not (numbered false (put bits j false) k) ≡ ((j == k) || not (numbered false bits k))
    bit k a b = ⊎_elim
        (λ (e : j ≡ k). subst (λ x. not (numbered false (put bits j false) x) ≡ ((j == x) || not (numbered false bits x))) e
        (ap not (numbered-put_same false false bits j low high) ∙ sym (ap (λ c. c || not (numbered false bits j)) (eq-eqb j j refl))))
        (λ n. ap not (numbered-put_other false false bits j k (λ e. n (sym e))) ∙ sym (ap (λ c. c || not (numbered false bits k)) (ne_eqb j k n)))
        (cases_eq j k)

all_replicate : (n j : ℕ) → 1 ≤ j → j ≤ n → numbered false (replicate n true) j ≡ true
all_replicate n zero low high = absurd (omega arith)
all_replicate n (suc k) low high = get_or-replicate n k true false (omega arith)

pub numbers_without-replicate : (n : ℕ) → numbers_without (replicate n true) ≡ []
numbers_without-replicate n =
    ap (λ m. members m (λ k. not (numbered false (replicate n true) k))) (length-replicate n true)
    ∙ members_agree n (λ k. not (numbered false (replicate n true) k)) (λ _. false) (λ k low high. ap not (all_replicate n k low high))
    ∙ members_none n

-- how many are open

pub opens_at_first : (n : ℕ) (free tried : List Bool) → free ≡ replicate n true → tried ≡ replicate n false → n ≡ count (length free) (is_without free tried)
opens_at_first n free tried all none =
    sym (count_true n)
    ∙ count_same n (λ _. true) (is_without free tried) each
    ∙ sym (ap (λ k. count k (is_without free tried)) (ap length all ∙ length-replicate n true))
  where
    untried : (j : ℕ) → 1 ≤ j → j ≤ n → numbered false (replicate n false) j ≡ false
    untried zero low high = refl
    untried (suc k) low high = get_or-replicate n k false false (omega arith)

    each : (j : ℕ) → 1 ≤ j → j ≤ n → true ≡ is_without free tried j
    each j low high = sym (ap (λ (xs : List Bool). is_without xs tried j) all ∙ ap (λ (ys : List Bool). is_without (replicate n true) ys j) none ∙ (λ i. all_replicate n j low high i && not (untried j low high i)))

-- noting an announcement of j takes j from the open jobs

untouched : (xs : List Bool) (j k : ℕ) (b : Bool) → k ≢ j → numbered false (put xs j b) k ≡ numbered false xs k
untouched xs j k b ne = numbered-put_other false b xs j k ne

pub noted_open : (free tried : List Bool) (j : ℕ) → length tried ≡ length free → 1 ≤ j → j ≤ length free → is_without free tried j ≡ true
    → count (length free) (is_without free tried) ≡ count (length free) (is_without free (put tried j true)) + 1
noted_open free tried j same low high was =
    count_gain (length free) (is_without free (put tried j true)) (is_without free tried) j low high gone was
    (λ k ne. ap (λ b. numbered false free k && not b) (sym (untouched tried j k true ne)))
  where
    gone : is_without free (put tried j true) j ≡ false
    gone = ap (λ b. numbered false free j && not b) (numbered-put_same false true tried j low (omega arith)) ∙ and_right (numbered false free j) false refl

pub noted_other : (free tried : List Bool) (j : ℕ) → length tried ≡ length free → 1 ≤ j → j ≤ length free → is_without free tried j ≡ false
    → count (length free) (is_without free tried) ≡ count (length free) (is_without free (put tried j true))
noted_other free tried j same low high was = count_same (length free) (is_without free tried) (is_without free (put tried j true)) each
  where
    each : (k : ℕ) → 1 ≤ k → k ≤ length free → is_without free tried k ≡ is_without free (put tried j true) k
    each k l h = ⊎_elim
        (λ (e : k ≡ j). subst (λ x. is_without free tried x ≡ is_without free (put tried j true) x) (sym e)
        (was ∙ sym (ap (λ b. numbered false free j && not b) (numbered-put_same false true tried j low (omega arith)) ∙ and_right (numbered false free j) false refl)))
        (λ (ne : k ≢ j). ap (λ b. numbered false free k && not b) (sym (untouched tried j k true ne)))
        (cases_eq k j)

-- where j is open, some job is
pub some_open : (free tried : List Bool) (j : ℕ) → 1 ≤ j → j ≤ length free → numbered false free j ≡ true → numbered false tried j ≡ false → 1 ≤ count (length free) (is_without free tried)
some_open free tried j low high is not_tried = count_pos (length free) (is_without free tried) j low high (λ i. is i && not (not_tried i))

pub noted : (free tried : List Bool) (j opened left : ℕ) → length tried ≡ length free → 1 ≤ j → j ≤ length free → opened ≡ count (length free) (is_without free tried)
    → left + (if is_without free tried j then 1 else 0) ≡ opened → left ≡ count (length free) (is_without free (put tried j true))
noted free tried j opened left same low high is less = go (is_without free tried j) refl less
  where
    go : (b : Bool) → is_without free tried j ≡ b → left + (if b then 1 else 0) ≡ opened → left ≡ count (length free) (is_without free (put tried j true))
    go true was e = let n = noted_open free tried j same low high was in omega arith
    go false was e = let n = noted_other free tried j same low high was in omega arith

-- learning that j is done takes j from the open jobs too

pub learned_open : (free tried : List Bool) (j : ℕ) → 1 ≤ j → j ≤ length free → is_without free tried j ≡ true
    → count (length free) (is_without free tried) ≡ count (length free) (is_without (put free j false) tried) + 1
learned_open free tried j low high was =
    count_gain (length free) (is_without (put free j false) tried) (is_without free tried) j low high
    (ap (λ b. b && not (numbered false tried j)) (numbered-put_same false false free j low high)) was
    (λ k ne. ap (λ b. b && not (numbered false tried k)) (sym (untouched free j k false ne)))

pub learned_other : (free tried : List Bool) (j : ℕ) → 1 ≤ j → j ≤ length free → is_without free tried j ≡ false
    → count (length free) (is_without free tried) ≡ count (length free) (is_without (put free j false) tried)
learned_other free tried j low high was = count_same (length free) (is_without free tried) (is_without (put free j false) tried) each
  where
    each : (k : ℕ) → 1 ≤ k → k ≤ length free → is_without free tried k ≡ is_without (put free j false) tried k
    each k l h = ⊎_elim
        (λ (e : k ≡ j). subst (λ x. is_without free tried x ≡ is_without (put free j false) tried x) (sym e)
        (was ∙ sym (ap (λ b. b && not (numbered false tried j)) (numbered-put_same false false free j low high))))
        (λ (ne : k ≢ j). ap (λ b. b && not (numbered false tried k)) (sym (untouched free j k false ne)))
        (cases_eq k j)

pub learned : (free tried : List Bool) (j opened left : ℕ) → 1 ≤ j → j ≤ length free → opened ≡ count (length free) (is_without free tried)
    → left + (if is_without free tried j then 1 else 0) ≡ opened → left ≡ count (length (put free j false)) (is_without (put free j false) tried)
learned free tried j opened left low high is less = go (is_without free tried j) refl less ∙ sym (ap (λ n. count n (is_without (put free j false) tried)) (length-put false free j))
  where
    go : (b : Bool) → is_without free tried j ≡ b → left + (if b then 1 else 0) ≡ opened → left ≡ count (length free) (is_without (put free j false) tried)
    go true was e = let n = learned_open free tried j low high was in omega arith
    go false was e = let n = learned_other free tried j low high was in omega arith

-- the choice

number_of_rank_same : (n : ℕ) (t u : ℕ → Bool) (i : ℕ) → ((j : ℕ) → 1 ≤ j → j ≤ n → t j ≡ u j) → number_of_rank n t i ≡ number_of_rank n u i
number_of_rank_same zero t u i same = refl
number_of_rank_same (suc n) t u i same =
    λ k. if same (suc n) (omega arith) (omega arith) k && (count_same (suc n) t u same k == i) then suc n else number_of_rank_same n t u i (λ j low high. same j low (omega arith)) k

module _ (g : Givens) (r : Record) (free tried : List Bool) (range : length free ≡ g.jobs) (known_is : r.known ≡ numbers_without free) (tried_is : r.tried ≡ set_of_bits tried) where
  free_is : (k : ℕ) → 1 ≤ k → k ≤ length free → numbered false free k ≡ is_free r k
  free_is k low high = twice (numbered false free k) ∙ sym (ap not (ap (λ l. has l k) known_is ∙ has-numbers_without free k low high))
    where
      twice : (b : Bool) → b ≡ not (not b)
      twice true = refl
      twice false = refl

  untried_is : (k : ℕ) → not (numbered false tried k) ≡ not (has r.tried k)
  untried_is k = ap not (sym (ap (λ l. has l k) tried_is ∙ has-set_of_bits tried k))

  open_is : (k : ℕ) → 1 ≤ k → k ≤ length free → is_without free tried k ≡ is_open r k
  open_is k low high = λ i. free_is k low high i && untried_is k i

  opens : count (length free) (is_without free tried) ≡ count g.jobs (is_open r)
  opens = count_same (length free) (is_without free tried) (is_open r) open_is ∙ ap (λ n. count n (is_open r)) range

  frees : count (length free) (numbered false free) ≡ count g.jobs (is_free r)
  frees = count_same (length free) (numbered false free) (is_free r) free_is ∙ ap (λ n. count n (is_free r)) range

  -- with too few open jobs the worker is over
  pub choice_ends : (p opened : ℕ) → opened ≡ count (length free) (is_without free tried) → opened < g.beta
      → record_after_choice g p r ≡ record r { phase = Over; tried = set_of_bits tried }
  choice_ends p opened o few =
      ap (λ c. if c then record r { phase = Over } else record r { phase = Announcing (chosen_job g p r); tried = [] }) (lt-ltb (count g.jobs (is_open r)) g.beta (let e = opens in omega arith))
      ∙ ap (λ l. record r { phase = Over; tried = l }) tried_is

  -- else it announces the open job of the rank that it wants
  pub choice_goes : (p opened free_count rank job : ℕ) → opened ≡ count (length free) (is_without free tried) → g.beta ≤ opened → free_count ≡ count (length free) (numbered false free)
      → rank ≡ chosen_rank g p free_count → job ≡ number_of_rank (length free) (is_without free tried) rank
      → record_after_choice g p r ≡ record r { phase = Announcing job; tried = [] }
  choice_goes p opened free_count rank job o many f k j =
      ap (λ c. if c then record r { phase = Over } else record r { phase = Announcing (chosen_job g p r); tried = [] }) (le-ltb (count g.jobs (is_open r)) g.beta (let e = opens in omega arith))
      ∙ ap (λ x. record r { phase = Announcing x; tried = [] }) (sym (j ∙ ap (λ x. number_of_rank (length free) (is_without free tried) x) (k ∙ ap (λ x. chosen_rank g p x) (f ∙ frees)) ∙ ranks))
    where
      ranks : number_of_rank (length free) (is_without free tried) (chosen_rank g p (count g.jobs (is_free r))) ≡ chosen_job g p r
      ranks = number_of_rank_same (length free) (is_without free tried) (is_open r) (chosen_rank g p (count g.jobs (is_free r))) open_is ∙ ap (λ n. number_of_rank n (is_open r) (chosen_rank g p (count g.jobs (is_free r)))) range
