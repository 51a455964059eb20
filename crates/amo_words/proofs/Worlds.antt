-- Laws of logs and of what is claimed in the worlds after them.
use Rattle.std.proofs.Common.{◌≡◌, ◌≢◌, ⊎_elim, ℕ, zero, suc, ◌+◌, ◌≤◌, ◌==◌, Bool, true, false, ◌||◌, cond, List, [], ◌∷◌, ◌++◌, length, refl, sym, ap, ◌∙◌, subst, arith, ne_eqb, le-leb, append_assoc}
use Rattle.std.proofs.lemmas.List.Sums.{sum_by-append, sum_by-cons}
use Rattle.std.proofs.lemmas.Bool.{true≢false, cases_eq, or_right, or_parts, and_from, and_parts}
use Rattle.amo_sets.specs.Lists.{numbered, put}
use Rattle.amo_sets.specs.Sets.{has, AreDistinct}
use Rattle.amo_sets.proofs.Numbers.{has-append, has_push}
use Rattle.amo_kk.specs.Alone.{is_claiming}
use Rattle.amo_params.specs.Givens.{IsJob, IsWorker, is_within}
use Rattle.amo_kk.specs.Record.{can_leave}
use Rattle.amo_kk.specs.Step.{want, record_after, record_after_leave}
use Rattle.amo_kk.specs.Lawful.{IsLawful, FitsPhase}
use Rattle.amo_params.specs.Moves.{worker_of, is_halt, are_in_range, has_halt}
use Rattle.amo_kk.specs.World.{nobody, process, loaded_value, process_after, world_after_turn, world_after_leave, world_of}
use Rattle.amo_params.specs.declared.givens.Givens.{Givens}
use Rattle.amo_kk.specs.declared.phase.Phase.TheVariants.{Claiming}
use Rattle.amo_kk.specs.declared.phase.Want.TheVariants.{StoreNext}
use Rattle.amo_kk.specs.declared.model.Record.{Record}
use Rattle.amo_kk.specs.declared.model.Process.{Process}
use Rattle.amo_kk.specs.declared.model.World.{World}
use Rattle.amo_params.specs.declared.moves.Move.{Move}
use Rattle.amo_params.specs.declared.moves.Move.TheVariants.{Turn}
use Rattle.amo_kk.proofs.Growth.{claims_stay, claims_grow}
use Rattle.amo_kk.proofs.Moves.{move_other, turned_processes, turned_local, left_processes}
use Rattle.amo_kk.proofs.Runs.{stored_local, distinct_last}
use Rattle.amo_kk.proofs.Worlds.{always_lawful, turn_lawful, here_is_worker}
use Rattle.amo_words.specs.Logs.{moves_of, AreOwn, StartsWith, is_claimed}

pub lawful : (g : Givens) (log : List Move) → IsLawful g (world_of g log)
lawful g log = always_lawful g log g.limits

-- how many moves are of a worker

pub moves_append : (p : ℕ) (xs ys : List Move) → moves_of p (xs ++ ys) ≡ moves_of p xs + moves_of p ys
moves_append p xs ys = sum_by-append (λ m. cond (worker_of m == p) 1 0) xs ys

pub moves_other : (p : ℕ) (m : Move) (xs : List Move) → worker_of m ≢ p → moves_of p (xs ++ m ∷ []) ≡ moves_of p xs
moves_other p m xs apart =
    moves_append p xs (m ∷ [])
    ∙ ap (λ k. moves_of p xs + k) (sum_by-cons (λ z. cond (worker_of z == p) 1 0) m [] ∙ ap (λ b. cond b 1 0 + 0) (ne_eqb (worker_of m) p apart))
    ∙ omega arith

-- lists of turns and leavings of workers

pub own_none : (g : Givens) → AreOwn g []
own_none g = record { range = refl; no_stop = refl }

range_more : (g : Givens) (log : List Move) (m : Move) → are_in_range g log ≡ true → IsWorker g (worker_of m) → are_in_range g (log ++ m ∷ []) ≡ true
range_more g [] m h o = and_from (is_within g.workers (worker_of m)) true (and_from _ _ (le-leb 1 (worker_of m) o.low) (le-leb (worker_of m) g.workers o.high)) refl
range_more g (n ∷ log) m h o =
    let parts = and_parts (is_within g.workers (worker_of n)) (are_in_range g log) h in
    and_from (is_within g.workers (worker_of n)) (are_in_range g (log ++ m ∷ [])) parts.0 (range_more g log m parts.1 o)

stops_more : (log : List Move) (m : Move) → has_halt log ≡ false → is_halt m ≡ false → has_halt (log ++ m ∷ []) ≡ false
stops_more [] m h own = ap (λ b. b || false) own
stops_more (n ∷ log) m h own =
    let parts = or_parts (is_halt n) (has_halt log) h in
    ap (λ b. b || has_halt (log ++ m ∷ [])) parts.0 ∙ stops_more log m parts.1 own

pub own_more : (g : Givens) (log : List Move) (m : Move) → AreOwn g log → IsWorker g (worker_of m) → is_halt m ≡ false → AreOwn g (log ++ m ∷ [])
own_more g log m h o own = record { range = range_more g log m h.range o; no_stop = stops_more log m h.no_stop own }

-- a beginning of such a list is one
pub own_start : (g : Givens) (log more : List Move) → AreOwn g (log ++ more) → AreOwn g log
own_start g log more h = record { range = range_of log h.range; no_stop = stops_of log h.no_stop }
  where
    range_of : (log : List Move) → are_in_range g (log ++ more) ≡ true → are_in_range g log ≡ true
    range_of [] h = refl
    range_of (m ∷ log) h =
        let parts = and_parts (is_within g.workers (worker_of m)) (are_in_range g (log ++ more)) h in
        and_from (is_within g.workers (worker_of m)) (are_in_range g log) parts.0 (range_of log parts.1)

    stops_of : (log : List Move) → has_halt (log ++ more) ≡ false → has_halt log ≡ false
    stops_of [] h = refl
    stops_of (m ∷ log) h =
        let parts = or_parts (is_halt m) (has_halt (log ++ more)) h in
        ap (λ b. b || has_halt log) parts.0 ∙ stops_of log parts.1

pub starts_trans : (a b c : List Move) → StartsWith a b → StartsWith b c → StartsWith a c
starts_trans a b c ab bc = (bc.0 ++ ab.0, ab.1 ∙ ap (λ l. l ++ ab.0) bc.1 ∙ append_assoc c bc.0 ab.0)

-- what is claimed

-- whether j is claimed hangs on whether each process has claimed it
claimed_put : (j : ℕ) (a : Process) (all : List Process) (p : ℕ) → has a.local.claimed j ≡ has (numbered nobody all p).local.claimed j → is_claimed (put all p a) j ≡ is_claimed all j
claimed_put j a all zero e = refl
claimed_put j a [] (suc k) e = refl
claimed_put j a (b ∷ all) (suc zero) e = ap (λ c. c || is_claimed all j) e
claimed_put j a (b ∷ all) (suc (suc k)) e = ap (λ c. has b.local.claimed j || c) (claimed_put j a all (suc k) e)

pub claimed_by : (j : ℕ) (all : List Process) (p : ℕ) → has (numbered nobody all p).local.claimed j ≡ true → is_claimed all j ≡ true
claimed_by j all zero h = absurd (true≢false (sym h))
claimed_by j [] (suc k) h = absurd (true≢false (sym h))
claimed_by j (a ∷ all) (suc zero) h = ap (λ b. b || is_claimed all j) h
claimed_by j (a ∷ all) (suc (suc k)) h = or_right (has a.local.claimed j) (is_claimed all j) (claimed_by j all (suc k) h)

pub unclaimed_by : (j : ℕ) (all : List Process) → ((p : ℕ) → 1 ≤ p → p ≤ length all → has (numbered nobody all p).local.claimed j ≡ false) → is_claimed all j ≡ false
unclaimed_by j [] h = refl
unclaimed_by j (a ∷ all) h =
    let first : has a.local.claimed j ≡ false = h 1 (omega arith) (omega arith) in
    ap (λ b. b || is_claimed all j) first ∙ unclaimed_by j all rest
  where
    rest : (p : ℕ) → 1 ≤ p → p ≤ length all → has (numbered nobody all p).local.claimed j ≡ false
    rest zero l m = refl
    rest (suc k) l m = h (suc (suc k)) (omega arith) (omega arith)

module _ (g : Givens) (w : World) (p : ℕ) (law : IsLawful g w) (here : (process w p).gone ≡ false) where
  abbrev r : Record
  r = (process w p).local

  abbrev next : Record
  next = record_after g p (loaded_value w (want r)) r

  o : IsWorker g p
  o = here_is_worker g w p law.size here

  -- a turn after which p has claimed j just if it had before
  turn_claims : (j : ℕ) → has next.claimed j ≡ has r.claimed j → is_claimed (world_after_turn g w p).processes j ≡ is_claimed w.processes j
  turn_claims j same =
      ap (λ l. is_claimed l j) (turned_processes g w p here)
      ∙ claimed_put j (process_after (want r) (process w p) next) w.processes p (ap (λ (s : Record). has s.claimed j) (stored_local (want r) (process w p) next) ∙ same)

  -- a turn that claims nothing leaves what is claimed
  pub quiet_claims : is_claiming (process w p).local.phase ≡ false → (j : ℕ) → is_claimed (world_after_turn g w p).processes j ≡ is_claimed w.processes j
  quiet_claims h j = turn_claims j (ap (λ l. has l j) (claims_stay g p (loaded_value w (want r)) r h))

  pub left_claims : can_leave (process w p).local.phase ≡ true → (j : ℕ) → is_claimed (world_after_leave w p).processes j ≡ is_claimed w.processes j
  left_claims may j =
      ap (λ l. is_claimed l j) (left_processes w p here may)
      ∙ claimed_put j (process_after (StoreNext 0) (process w p) (record_after_leave r)) w.processes p refl

  module _ (j : ℕ) (is : (process w p).local.phase ≡ Claiming j) where
    grows : next.claimed ≡ r.claimed ++ j ∷ []
    grows = claims_grow g p (loaded_value w (want r)) r j is

    grown : (process (world_after_turn g w p) p).local.claimed ≡ r.claimed ++ j ∷ []
    grown = ap (λ (x : Record). x.claimed) (turned_local g w p law here) ∙ grows

    has_new : has (process (world_after_turn g w p) p).local.claimed j ≡ true
    has_new = ap (λ l. has l j) grown ∙ has_push r.claimed j

    -- a claim of j claims it
    pub claim_new : is_claimed (world_after_turn g w p).processes j ≡ true
    claim_new = claimed_by j (world_after_turn g w p).processes p has_new

    -- and no other job
    pub claim_else : (i : ℕ) → i ≢ j → is_claimed (world_after_turn g w p).processes i ≡ is_claimed w.processes i
    claim_else i n = turn_claims i
        (ap (λ l. has l i) grows ∙ has-append r.claimed (j ∷ []) i ∙ ap (λ b. has r.claimed i || (b || false)) (ne_eqb j i (λ e. n (sym e))) ∙ or_false (has r.claimed i))
      where
        or_false : (b : Bool) → (b || false) ≡ b
        or_false true = refl
        or_false false = refl

    -- since the claims are distinct after it, j was free before
    pub claim_free : is_claimed w.processes j ≡ false
    claim_free = unclaimed_by j w.processes (λ q low high. ⊎_elim
        (λ (e : q ≡ p). subst (λ x. has (process w x).local.claimed j ≡ false) (sym e)
        (distinct_last r.claimed j (subst AreDistinct grown (after.lawful.sound p o).local.distinct)))
        (λ (n : q ≢ p).
        let size = law.size in
        ap (λ (a : Process). has a.local.claimed j) (sym (move_other g w (Turn p) q n))
        ∙ (after.lawful.apart p q o (record { worker = record { low = low; high = omega arith }; differs = n })).claims j has_new)
        (cases_eq q p))
      where
        after : IsLawful g (world_after_turn g w p)
        after = turn_lawful g w p g.limits law

    pub claim_job : IsJob g j
    claim_job =
        let stands : IsJob g j × (has r.known j ≡ false) × (has r.tried j ≡ false) = subst (FitsPhase g p r) is (law.lawful.sound p o).local.stands in
        stands.0
