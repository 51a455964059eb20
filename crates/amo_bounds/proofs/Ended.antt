-- A worker that is gone was halted, has left or has ended. So if nobody leaves and fewer are halted
-- than there are, one has ended.
use Rattle.std.proofs.Common.{◌≡◌, ◌≢◌, ⊎_elim, ℕ, zero, suc, ◌+◌, ◌<◌, ◌≤◌, Bool, true, false, List, [], ◌∷◌, ◌++◌, refl, sym, ap, ◌∙◌, subst, arith}
use Rattle.std.specs.Prelude.{if◌then◌else◌}
use Rattle.std.proofs.lemmas.Bool.{cases_eq, or_parts, eqb-false}
use Rattle.amo_sets.specs.Sets.{has}
use Rattle.amo_sets.specs.Rank.{count}
use Rattle.amo_sets.proofs.Numbers.{count_has, numbered-put_same}
use Rattle.amo_sets.proofs.Tables.{numbered-table}
use Rattle.amo_params.specs.Givens.{IsWorker}
use Rattle.amo_kk.specs.Record.{empty_record, is_over, wants_nothing, can_leave}
use Rattle.amo_kk.specs.Step.{record_after_leave}
use Rattle.amo_kk.specs.declared.phase.Phase.{Phase}
use Rattle.amo_kk.specs.declared.phase.Phase.TheVariants.{Over, Left}
use Rattle.amo_kk.specs.declared.phase.Want.TheVariants.{StoreNext}
use Rattle.amo_kk.specs.declared.event.Event.TheVariants.{Left as EventLeft}
use Rattle.amo_params.specs.Moves.{worker_of}
use Rattle.amo_kk.specs.World.{nobody, process, world_after_turn, world_after_move, world_after_moves, world_after_leave, world_with, process_after, first_process, opening_world, world_of}
use Rattle.amo_kk.specs.Lawful.{IsLawful}
use Rattle.amo_params.specs.declared.givens.Givens.{Givens}
use Rattle.amo_kk.specs.declared.model.Record.{Record}
use Rattle.amo_kk.specs.declared.model.Process.{Process}
use Rattle.amo_kk.specs.declared.model.World.{World}
use Rattle.amo_params.specs.declared.moves.Move.{Move}
use Rattle.amo_params.specs.declared.moves.Move.TheVariants.{Turn, Halt, Leave}
use Rattle.amo_kk.proofs.Choice.{choice_cases}
use Rattle.amo_kk.proofs.Moves.{move_other}
use Rattle.amo_kk.proofs.Shows.{idle}
use Rattle.amo_kk.proofs.Worlds.{move_lawful, opening_lawful}
use Rattle.amo_bounds.specs.Fewest.{stopped, leavers, ComesToEnd}
use Rattle.amo_bounds.proofs.Turns.{after_turn}

-- some moves after others

pub stopped-append : (ms ns : List Move) → stopped (ms ++ ns) ≡ stopped ms ++ stopped ns
stopped-append [] ns = refl
stopped-append (Halt p ∷ ms) ns = ap (λ l. p ∷ l) (stopped-append ms ns)
stopped-append (m ∷ ms) ns = stopped-append ms ns

pub leavers-append : (ms ns : List Move) → leavers (ms ++ ns) ≡ leavers ms ++ leavers ns
leavers-append [] ns = refl
leavers-append (Leave p ∷ ms) ns = ap (λ l. p ∷ l) (leavers-append ms ns)
leavers-append (m ∷ ms) ns = leavers-append ms ns

over_rests : (f : Phase) → is_over f ≡ true → wants_nothing f ≡ true
over_rests Over h = refl
over_rests Left h = refl
over_rests phase h = h

rests_over : (f : Phase) → wants_nothing f ≡ true → f ≢ Left → is_over f ≡ true
rests_over Over h n = refl
rests_over Left h n = absurd (n refl)
rests_over phase h n = h

-- if p is gone, its phase is such a one
module _ (test : Phase → Bool) (of_over : (f : Phase) → is_over f ≡ true → test f ≡ true) where
  abbrev PassesIfGone : Process → Type 0
  PassesIfGone a = a.gone ≡ true → test a.local.phase ≡ true

  turn_passes : (g : Givens) (w : World) (q p : ℕ) → IsLawful g w → PassesIfGone (process w p) → PassesIfGone (process (world_after_turn g w q) p)
  turn_passes g w q p law h = go (process w q).gone refl
    where
      go : (b : Bool) → (process w q).gone ≡ b → PassesIfGone (process (world_after_turn g w q) p)
      go true e = subst (λ v. PassesIfGone (process v p)) (sym (idle g w q e)) h
      go false e =
          let t = after_turn g w q law e in
          ⊎_elim
          (λ (same : p ≡ q). subst (λ k. PassesIfGone (process (world_after_turn g w q) k)) (sym same)
          (λ gone. of_over (process (world_after_turn g w q) q).local.phase (ap (λ (x : Record). is_over x.phase) t.local ∙ sym t.gone ∙ gone)))
          (λ n. subst PassesIfGone (sym (t.others p n)) h)
          (cases_eq p q)

  -- a halt or a leaving of another worker
  other_passes : (g : Givens) (w : World) (m : Move) (p : ℕ) → p ≢ worker_of m → PassesIfGone (process w p) → PassesIfGone (process (world_after_move g w m) p)
  other_passes g w m p other h = subst PassesIfGone (sym (move_other g w m p other)) h

  opening_passes : (g : Givens) (p : ℕ) → IsWorker g p → PassesIfGone (first_process g p) → PassesIfGone (process (opening_world g) p)
  opening_passes g p o h = subst PassesIfGone (sym (numbered-table nobody (first_process g) g.workers p o.low o.high)) h

-- if p is gone it has ended
abbrev EndedIfGone : World → ℕ → Type 0
EndedIfGone w p = PassesIfGone is_over (λ f h. h) (process w p)

moves_ended : (g : Givens) (w : World) (ms : List Move) (p : ℕ) → IsLawful g w → has (stopped ms) p ≡ false → has (leavers ms) p ≡ false → EndedIfGone w p → EndedIfGone (world_after_moves g w ms) p
moves_ended g w [] p law goes_on stays h = h
moves_ended g w (Turn q ∷ ms) p law goes_on stays h = moves_ended g (world_after_move g w (Turn q)) ms p (move_lawful g w (Turn q) g.limits law) goes_on stays (turn_passes is_over (λ f h. h) g w q p law h)
moves_ended g w (Halt q ∷ ms) p law goes_on stays h =
    let parts = or_parts _ (has (stopped ms) p) goes_on in
    moves_ended g (world_after_move g w (Halt q)) ms p (move_lawful g w (Halt q) g.limits law) parts.1 stays (other_passes is_over (λ f h. h) g w (Halt q) p (λ e. eqb-false q p parts.0 (sym e)) h)
moves_ended g w (Leave q ∷ ms) p law goes_on stays h =
    let parts = or_parts _ (has (leavers ms) p) stays in
    moves_ended g (world_after_move g w (Leave q)) ms p (move_lawful g w (Leave q) g.limits law) goes_on parts.1 (other_passes is_over (λ f h. h) g w (Leave q) p (λ e. eqb-false q p parts.0 (sym e)) h)

opening_ended : (g : Givens) (p : ℕ) → IsWorker g p → EndedIfGone (opening_world g) p
opening_ended g p o = opening_passes is_over (λ f h. h) g p o
    (choice_cases g p (empty_record g) (λ x. wants_nothing x.phase ≡ true → is_over x.phase ≡ true) (λ _ h. h) (λ _ h. h))

-- whoever is gone, wasn't halted and didn't leave has ended
pub gone_ended : (g : Givens) (ms : List Move) (p : ℕ) → IsWorker g p → has (stopped ms) p ≡ false → has (leavers ms) p ≡ false
    → (process (world_of g ms) p).gone ≡ true → is_over (process (world_of g ms) p).local.phase ≡ true
gone_ended g ms p o goes_on stays = moves_ended g (opening_world g) ms p (opening_lawful g g.limits) goes_on stays (opening_ended g p o)

-- if p is gone it has ended or left
abbrev RestsIfGone : World → ℕ → Type 0
RestsIfGone w p = PassesIfGone wants_nothing over_rests (process w p)

leave_rests : (g : Givens) (w : World) (p : ℕ) → IsLawful g w → IsWorker g p → RestsIfGone w p → RestsIfGone (world_after_leave w p) p
leave_rests g w p law o h = go (process w p).gone (can_leave (process w p).local.phase)
  where
    left : Process
    left = process_after (StoreNext 0) (process w p) (record_after_leave (process w p).local)

    here : process (world_with w p left (EventLeft p ∷ [])) p ≡ left
    here = let size = law.size in let high = o.high in numbered-put_same nobody left w.processes p o.low (omega (arith, size, high))

    go : (b c : Bool) → RestsIfGone (if b then w else (if c then world_with w p left (EventLeft p ∷ []) else w)) p
    go true c = h
    go false true = subst (λ (x : Process). x.gone ≡ true → wants_nothing x.local.phase ≡ true) (sym here) (λ gone. gone)
    go false false = h

moves_rest : (g : Givens) (w : World) (ms : List Move) (p : ℕ) → IsLawful g w → IsWorker g p → has (stopped ms) p ≡ false → RestsIfGone w p → RestsIfGone (world_after_moves g w ms) p
moves_rest g w [] p law o goes_on h = h
moves_rest g w (Turn q ∷ ms) p law o goes_on h = moves_rest g (world_after_move g w (Turn q)) ms p (move_lawful g w (Turn q) g.limits law) o goes_on (turn_passes wants_nothing over_rests g w q p law h)
moves_rest g w (Halt q ∷ ms) p law o goes_on h =
    let parts = or_parts _ (has (stopped ms) p) goes_on in
    moves_rest g (world_after_move g w (Halt q)) ms p (move_lawful g w (Halt q) g.limits law) o parts.1 (other_passes wants_nothing over_rests g w (Halt q) p (λ e. eqb-false q p parts.0 (sym e)) h)
moves_rest g w (Leave q ∷ ms) p law o goes_on h =
    moves_rest g (world_after_move g w (Leave q)) ms p (move_lawful g w (Leave q) g.limits law) o goes_on
    (⊎_elim
    (λ (same : p ≡ q). subst (λ k. RestsIfGone (world_after_leave w k) p) same (leave_rests g w p law o h))
    (λ n. other_passes wants_nothing over_rests g w (Leave q) p n h)
    (cases_eq p q))

opening_rests : (g : Givens) (p : ℕ) → IsWorker g p → RestsIfGone (opening_world g) p
opening_rests g p o = opening_passes wants_nothing over_rests g p o (λ gone. gone)

-- whoever is gone, wasn't halted and hasn't left has ended, also one that was asked to leave
pub stayed_ended : (g : Givens) (ms : List Move) (p : ℕ) → IsWorker g p → has (stopped ms) p ≡ false → (process (world_of g ms) p).gone ≡ true
    → (process (world_of g ms) p).local.phase ≢ Left → is_over (process (world_of g ms) p).local.phase ≡ true
stayed_ended g ms p o goes_on gone stays = rests_over (process (world_of g ms) p).local.phase (moves_rest g (opening_world g) ms p (opening_lawful g g.limits) o goes_on (opening_rests g p o) gone) stays

-- moves that come to an end let nobody leave
pub nobody_leaves : (g : Givens) (ms : List Move) (p : ℕ) → ComesToEnd g ms → has (leavers ms) p ≡ false
nobody_leaves g ms p end = ap (λ l. has l p) end.none_leaves

-- the number p of 1..n fails the test
record Fails (n : ℕ) (test : ℕ → Bool) (p : ℕ) : Type 0 where
  low : 1 ≤ p
  high : p ≤ n
  fails : test p ≡ false

-- where not all numbers pass, there is one that fails
one_fails : (n : ℕ) (test : ℕ → Bool) → count n test < n → (p : ℕ) × Fails n test p
one_fails zero test few = absurd (omega arith)
one_fails (suc n) test few = go (test (suc n)) refl few (one_fails n test)
  where
    go : (b : Bool) → test (suc n) ≡ b → count n test + (if b then 1 else 0) < suc n → (count n test < n → (p : ℕ) × Fails n test p) → (p : ℕ) × Fails (suc n) test p
    go false e few below = (suc n, record { low = omega arith; high = omega arith; fails = e })
    go true e few below =
        let found = below (omega arith) in
        (found.0, record { low = found.1.low; high = let h = found.1.high in omega arith; fails = found.1.fails })

pub someone_ended : (g : Givens) (ms : List Move) → ComesToEnd g ms → (p : ℕ) × IsWorker g p × (is_over (process (world_of g ms) p).local.phase ≡ true)
someone_ended g ms end =
    let most = count_has (stopped ms) g.workers in
    let few = end.few_stops in
    let found = one_fails g.workers (has (stopped ms)) (omega arith) in
    let o : IsWorker g found.0 = record { low = found.1.low; high = found.1.high } in
    (found.0, o, gone_ended g ms found.0 o found.1.fails (nobody_leaves g ms found.0 end) (end.gone found.0 o))
