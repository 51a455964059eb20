-- The workers that have come back stand in one lawful world.
use Rattle.std.proofs.Common.{◌≡◌, ◌≢◌, ℕ, zero, suc, ◌+◌, ◌-◌, ◌≤◌, List, [], ◌∷◌, length, take, get_or, true, false, sym, ap, ◌∙◌, subst, arith}
use Rattle.std.specs.List.{sum_by}
use Rattle.std.proofs.lemmas.List.{take_more, take_all}
use Rattle.std.proofs.lemmas.List.Sums.{sum_by-append, sum_by-cons}
use lib.ListN.{get_elem?}
use Rattle.amo_sets.specs.Sets.{has}
use Rattle.amo_params.specs.Givens.{IsWorker, bound}
use Rattle.amo_kk.specs.Record.{is_over}
use Rattle.amo_kk.specs.World.{process, done_count, world_of}
use Rattle.amo_kk.specs.Machine.{LocalView}
use Rattle.amo_params.specs.declared.givens.Givens.{Givens}
use Rattle.amo_params.specs.declared.moves.Move.{Move}
use Rattle.amo_kk.proofs.Ends.{enough_done}
use Rattle.amo_kk.proofs.RowSums.{total, someone, rows_fit}
use Rattle.amo_sets.proofs.Numbers.{count_le_all}
use Rattle.amo_words.specs.declared.rule.Spot.{Spot}
use Rattle.amo_words.specs.declared.rule.Spot.TheVariants.{Home, Out, Back}
use Rattle.amo_words.specs.Logs.{machine_after}
use Rattle.amo_words.specs.Rule.{AllStand, Stands}
use Rattle.amo_words.specs.declared.floor.looking.Place.TheVariants.{Back as CameBack}
use Rattle.amo_words.specs.Looking.{where_is, HasSpotOf, IsBack, done_in, back_count}
use Rattle.amo_words.proofs.Worlds.{lawful}
use Rattle.amo_words.proofs.Turns.{inside_of, some_at}
use Rattle.amo_words.proofs.Workers.{at_from_get}
use Rattle.amo_words.proofs.Settles.{get_or_at}

module _ (g : Givens) (log : List Move) (spots : List Spot) (stand : AllStand g log spots) where
  pub stands_back : (p : ℕ) (l : LocalView) → IsBack spots p l → l ≡ machine_after g log p
  stands_back p l back = stand.1 p (Back l) back.0 (at_from_get spots (p - 1) (Back l) back.1)

  pub worker_back : (p : ℕ) (l : LocalView) → IsBack spots p l → IsWorker g p
  worker_back p l back =
      let low = back.0 in
      let inside = inside_of spots (p - 1) (Back l) (at_from_get spots (p - 1) (Back l) back.1) in
      let wide = stand.0 in
      record { low = low; high = omega (arith, inside, wide, low) }

  pub claims_apart : (p q j : ℕ) (l m : LocalView) → IsBack spots p l → IsBack spots q m → q ≢ p → has l.state.claimed j ≡ true → has m.state.claimed j ≡ false
  claims_apart p q j l m lp mq apart claimed =
      ap (λ (x : LocalView). has x.state.claimed j) (stands_back q m mq)
      ∙ ((lawful g log).lawful.apart p q (worker_back p l lp) (record { worker = worker_back q m mq; differs = apart })).claims j
      (ap (λ (x : LocalView). has x.state.claimed j) (sym (stands_back p l lp)) ∙ claimed)

  -- if one of them has ended, enough jobs are done
  pub late_back : (p : ℕ) (l : LocalView) → IsBack spots p l → is_over l.state.phase ≡ true → bound g ≤ done_count (world_of g log)
  late_back p l back ended =
      enough_done g (world_of g log) p (lawful g log) (worker_back p l back) (ap (λ (m : LocalView). is_over m.state.phase) (sym (stands_back p l back)) ∙ ended)

  -- how many jobs they have done together

  abbrev rows : ℕ → ℕ
  rows q = length (process (world_of g log) q).local.dones

  done_few : (p : ℕ) (x : Spot) → Stands g log p x → done_in x ≤ rows p
  done_few p Home h = omega arith
  done_few p Out h = omega arith
  done_few p (Back l) h = let same = ap (λ (m : LocalView). length m.state.dones) h in omega arith

  first_few : (k : ℕ) → k ≤ length spots → sum_by done_in (take k spots) ≤ total k rows
  first_few zero h = omega arith
  first_few (suc k) h =
      let at = some_at spots k (omega arith) in
      let x : Spot = at.0 in
      let place : suc k - 1 ≡ k = omega arith in
      let here = done_few (suc k) x (stand.1 (suc k) x (omega arith) (ap (get_elem? spots) place ∙ at.1)) in
      let before = first_few k (omega arith) in
      let next : suc k ≡ k + 1 = omega arith in
      let grown : sum_by done_in (take (suc k) spots) ≡ sum_by done_in (take k spots) + (done_in x + 0) =
      ap (λ i. sum_by done_in (take i spots)) next ∙ ap (sum_by done_in) (take_more spots k x (omega arith))
      ∙ sum_by-append done_in (take k spots) (get_or spots k x ∷ []) ∙ ap (λ n. sum_by done_in (take k spots) + n) (sum_by-cons done_in (get_or spots k x) [])
      ∙ ap (λ y. sum_by done_in (take k spots) + (done_in y + 0)) (sym (get_or_at spots k x x at.1)) in
      omega (arith, here, before, grown)

  pub back_few : back_count spots ≤ g.jobs
  back_few =
      let wide = stand.0 in
      let sums = subst (λ l. sum_by done_in l ≤ total (length spots) rows) (take_all (length spots) spots (omega arith)) (first_few (length spots) (omega arith)) in
      let fit = rows_fit g (world_of g log) (lawful g log) (length spots) (omega arith) in
      let all = count_le_all (someone (process (world_of g log)) (length spots)) g.jobs in
      omega (arith, sums, fit, all)

-- a worker whose place is said to be Back has a machine in the book
pub back_from : (spots : List Spot) (p : ℕ) (x : Spot) → HasSpotOf spots p x → where_is x ≡ CameBack → (l : LocalView) × IsBack spots p l
back_from spots p Home h is = absurd cc
back_from spots p Out h is = absurd cc
back_from spots p (Back l) h is = (l, h)
