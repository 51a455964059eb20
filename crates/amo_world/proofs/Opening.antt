-- The processes and the history of the opening world, one worker more at a time.
use Rattle.std.proofs.Common.{◌≡◌, ⊎_elim, ℕ, ◌+◌, ◌*◌, ◌<◌, List, [], ◌∷◌, ◌++◌, map, length, get_or, sym, ap, subst, ◌∙◌, arith}
use Rattle.std.proofs.lemmas.Bool.{cases_eq}
use Rattle.std.proofs.lemmas.List.{length_push, get_or_push, get_or_append_left, map-append}
use Rattle.std.specs.Vec.{vec_capacity}
use Rattle.amo_sets.specs.Lists.{table}
use Rattle.amo_sets.proofs.Tables.{table_next}
use Rattle.amo_kk.specs.World.{first_process, opening_world}
use Rattle.amo_kk.specs.Lawful.{IsLawful, HasRun}
use Rattle.amo_params.specs.declared.givens.Givens.{Givens}
use Rattle.amo_kk.specs.declared.event.Event.{Event}
use Rattle.amo_kk.specs.declared.model.World.{World}
use Rattle.amo_kk.proofs.Worlds.{opening_lawful}
use Rattle.amo_kk.proofs.Runs.{always_runs}
use Rattle.amo_world.specs.declared.process.SimProcess.{SimProcess as OwnProcess}
use Rattle.amo_world.specs.Processes.{process_of, world_of_processes, AreInOrder, IsKept}

pub processes_next : (g : Givens) (n : ℕ) (processes : List OwnProcess) (s : OwnProcess) → map process_of processes ≡ table n (first_process g) → process_of s ≡ first_process g (n + 1)
    → map process_of (processes ++ s ∷ []) ≡ table (n + 1) (first_process g)
processes_next g n processes s all one = map-append process_of processes (s ∷ []) ∙ (λ i. all i ++ one i ∷ []) ∙ table_next n (first_process g)

pub in_order_next : (g : Givens) (n : ℕ) (processes : List OwnProcess) (s : OwnProcess) → AreInOrder g n processes → s.local.givens ≡ g → s.local.number ≡ n + 1 → vec_capacity s.row ≡ g.jobs + 1 → AreInOrder g (n + 1) (processes ++ s ∷ [])
in_order_next g n processes s in_order givens number room =
    record {
      size = length_push processes s ∙ ap (λ k. k + 1) in_order.size;
      givens = λ k d h. ⊎_elim
          (λ (e : k ≡ n). ap (λ (x : OwnProcess). x.local.givens) (last k d e) ∙ givens)
          (λ m. ap (λ (x : OwnProcess). x.local.givens) (old k d (let more = length_push processes s in let size = in_order.size in omega arith)) ∙ in_order.givens k d (let more = length_push processes s in let size = in_order.size in omega arith))
          (cases_eq k n);
      number = λ k d h. ⊎_elim
          (λ (e : k ≡ n). ap (λ (x : OwnProcess). x.local.number) (last k d e) ∙ number ∙ ap (λ x. x + 1) (sym e))
          (λ m. ap (λ (x : OwnProcess). x.local.number) (old k d (let more = length_push processes s in let size = in_order.size in omega arith)) ∙ in_order.number k d (let more = length_push processes s in let size = in_order.size in omega arith))
          (cases_eq k n);
      room = λ k d h. ⊎_elim
          (λ (e : k ≡ n). ap (λ (x : OwnProcess). vec_capacity x.row) (last k d e) ∙ room)
          (λ m. ap (λ (x : OwnProcess). vec_capacity x.row) (old k d (let more = length_push processes s in let size = in_order.size in omega arith)) ∙ in_order.room k d (let more = length_push processes s in let size = in_order.size in omega arith))
          (cases_eq k n);
    }
  where
    last : (k : ℕ) (d : OwnProcess) → k ≡ n → get_or (processes ++ s ∷ []) k d ≡ s
    last k d e = ap (λ x. get_or (processes ++ s ∷ []) x d) e ∙ get_or_push processes s d n in_order.size

    old : (k : ℕ) (d : OwnProcess) → k < length processes → get_or (processes ++ s ∷ []) k d ≡ get_or processes k d
    old k d h = get_or_append_left processes (s ∷ []) d k h

pub opening_kept : (g : Givens) (processes : List OwnProcess) (history : List Event) (places room : ℕ) → AreInOrder g g.workers processes → world_of_processes processes history ≡ opening_world g
    → places ≡ g.workers → room ≡ 2 * g.jobs + g.workers → IsKept g processes history places room
opening_kept g processes history places room in_order is processes_fit history_fits =
    record {
      in_order = in_order;
      lawful = subst (λ (w : World). IsLawful g w) (sym is) (opening_lawful g g.limits);
      run = subst (λ (w : World). HasRun g w) (sym is) (always_runs g [] g.limits);
      processes_fit = processes_fit;
      history_fits = history_fits;
    }
