-- The rest that one worker leaves on a floor of its own.
use Rattle.std.proofs.Common.{◌≡◌, ℕ, ◌-◌, Bool, true, false, not, ◌||◌, List, [], ◌∷◌, ◌++◌, length, filter, replicate, slice_get, slice_set, refl, sym, ap, ◌∙◌, subst, arith, append-nil}
use Rattle.std.specs.Prelude.{All}
use Rattle.std.specs.List.{enumerate_from}
use Rattle.amo_sets.specs.Lists.{numbered}
use Rattle.amo_sets.specs.Sets.{has, AreDistinct}
use Rattle.amo_kk.specs.World.{nobody, world_of}
use Rattle.amo_kk.specs.Lawful.{IsSoundRecord}
use Rattle.amo_kk.specs.Machine.{LocalView}
use Rattle.amo_params.specs.declared.givens.Givens.{Givens}
use Rattle.amo_kk.specs.declared.model.Process.{Process}
use Rattle.amo_words.specs.declared.rule.Spot.TheVariants.{Home, Out as Away, Back}
use Rattle.amo_words.specs.declared.floor.settling.Settlement.{Settlement}
use Rattle.amo_words.specs.Faces.{Seated, machine, spots}
use Rattle.amo_words.specs.Hiring.{HasHired, HasCollected}
use Rattle.amo_words.specs.Logs.{machine_after, is_claimed}
use Rattle.amo_words.specs.Looking.{IsBack}
use Rattle.amo_words.specs.Settling.{IsWhole}
use Rattle.amo_words.proofs.Worlds.{lawful}
use Rattle.amo_words.proofs.Meetings.{stands_back, worker_back}
use Rattle.amo_mailbox.specs.declared.output.Output.{Output}
use Rattle.amo_crew.specs.Outcomes.{jobs_of}
use Rattle.amo_crew.specs.Running.{IsRelated}
use Rattle.amo_crew.proofs.Hires.{fresh_first}
use Rattle.amo_example_payments.specs.declared.second.Leftover.{Leftover}
use Rattle.amo_example_payments.specs.Second.{IsLeftover}
use Rattle.amo_example_payments.specs.Stopping.{HasPaid, IsEmpty}
use Rattle.amo_example_payments.proofs.Filters.{free_filtered}

-- a lone worker has claimed all that is claimed
single : (all : List Process) → length all ≡ 1 → (j : ℕ) → is_claimed all j ≡ has (numbered nobody all 1).local.claimed j
single [] n j = absurd (omega (arith, n))
single (a ∷ []) n j = none (has a.local.claimed j)
  where
    none : (b : Bool) → (b || false) ≡ b
    none true = refl
    none false = refl
single (a ∷ b ∷ more) n j = absurd (omega (arith, n))

-- the one worker that was hired and collected
module _ {P Out : Type 0} (related : ℕ → ℕ → P → Out → Type 0) (b c d w gone : Seated P) (outputs : List (Output Out)) (s : Settlement P)
    (alone : b.view.givens.workers ≡ 1) (home : spots b ≡ replicate 1 Home) (hired : HasHired b 1 c w) (paid : HasPaid related w gone outputs)
    (empty : IsEmpty gone) (collected : HasCollected c gone d) (whole : IsWhole d.view.givens d.view.payloads d.view.seen (spots d) s) where
  number : (machine gone).number ≡ 1
  number = paid.number ∙ ap (λ (l : LocalView). l.number) hired.worker.machine_is

  away : spots c ≡ Away ∷ []
  away = hired.spots_are ∙ ap (λ l. slice_set l 0 Away) home

  come : spots d ≡ Back (machine gone) ∷ []
  come = collected.spots_are ∙ ap (λ n. slice_set (spots c) (n - 1) (Back (machine gone))) number ∙ ap (λ l. slice_set l 0 (Back (machine gone))) away

  back : IsBack (spots d) 1 (machine gone)
  back = (omega arith, ap (λ l. slice_get l 0) come)

  same : machine gone ≡ machine_after d.view.givens whole.log 1
  same = stands_back d.view.givens whole.log (spots d) whole.stand 1 (machine gone) back

  sound : IsSoundRecord d.view.givens 1 (machine gone).state
  sound = subst (λ (l : LocalView). IsSoundRecord d.view.givens 1 l.state) (sym same)
      ((lawful d.view.givens whole.log).lawful.sound 1 (worker_back d.view.givens whole.log (spots d) whole.stand 1 (machine gone) back)).local

  done : (machine gone).state.dones ≡ jobs_of outputs
  done = paid.dones ∙ ap (λ l. l ++ jobs_of outputs) (fresh_first w b.view.givens 1 hired.worker.machine_is).dones

  claimed : (machine gone).state.claimed ≡ jobs_of outputs
  claimed = sound.claims ∙ ap (λ l. (machine gone).state.dones ++ l) empty ∙ append-nil (machine gone).state.dones ∙ done

  givens : d.view.givens ≡ b.view.givens
  givens = collected.kept.givens ∙ hired.kept.givens

  payloads : d.view.payloads ≡ b.view.payloads
  payloads = collected.kept.payloads ∙ hired.kept.payloads

  one : length (world_of d.view.givens whole.log).processes ≡ 1
  one = (lawful d.view.givens whole.log).size ∙ ap (λ (x : Givens). x.workers) givens ∙ alone

  only : (j : ℕ) → is_claimed (world_of d.view.givens whole.log).processes j ≡ has (jobs_of outputs) j
  only j = single (world_of d.view.givens whole.log).processes one j ∙ ap (λ (l : LocalView). has l.state.claimed j) (sym same) ∙ ap (λ l. has l j) claimed

  pub rest_of : (r : Leftover P Out) → r.outputs.items ≡ outputs → r.free.items ≡ s.free.items → IsLeftover related b.view.payloads r
  rest_of r is free = record {
    answers = subst (λ l. All (IsRelated related b.view.payloads) l) (sym is) (subst (λ xs. All (IsRelated related xs) outputs) hired.worker.payloads paid.answers);
    distinct = subst AreDistinct (claimed ∙ ap jobs_of (sym is)) sound.distinct;
    free = free ∙ whole.free ∙ free_filtered (world_of d.view.givens whole.log).processes (has (jobs_of outputs)) only 1 d.view.payloads
        ∙ ap (λ xs. filter (λ (t : ℕ × P). not (has (jobs_of outputs) t.0)) (enumerate_from 1 xs)) payloads
        ∙ ap (λ (l : List (Output Out)). filter (λ (t : ℕ × P). not (has (jobs_of l) t.0)) (enumerate_from 1 b.view.payloads)) (sym is);
  }
