-- At first every process begins.
use Rattle.std.proofs.Common.{◌≡◌, inl, ℕ, zero, suc, ◌+◌, Bool, true, false, refl, sym, ap, ◌∙◌, subst, arith, List, [], ◌∷◌, ◌++◌, replicate, map}
use Rattle.std.specs.Prelude.{if◌then◌else◌, nat_lt}
use Rattle.std.proofs.lemmas.List.{map-append}
use Rattle.amo_sets.specs.Lists.{numbered, table}
use Rattle.amo_sets.proofs.Numbers.{length-table}
use Rattle.amo_sets.proofs.Tables.{numbered-table}
use Rattle.amo_params.specs.Givens.{IsWorker}
use Rattle.amo_kk.specs.Again.{entries_of, record_again}
use Rattle.amo_kk.specs.Record.{wants_nothing}
use Rattle.amo_kk.proofs.OpenWords.{opening_words}
use Rattle.amo_kk.specs.World.{nobody, process, first_process}
use Rattle.amo_params.specs.declared.givens.Givens.{Givens}
use Rattle.amo_kk.specs.declared.event.Event.{Event}
use Rattle.amo_kk.specs.declared.event.Event.TheVariants.{Ended}
use Rattle.amo_kk.specs.declared.model.Process.{Process}
use Rattle.amo_restart.specs.Return.{process_after_return, world_of_tale, entries_for, opening_tale}
use Rattle.amo_restart.specs.Story.{may_perform}
use Rattle.amo_restart.specs.declared.model.Entry.TheVariants.{Shown as ShownEntry}
use Rattle.amo_restart.proofs.Once.{may-append}
use Rattle.amo_process.specs.Shared.{first_shared, IsBeginning, ShowsWorker, Shows}

no_entries : (k : ℕ) → entries_of (replicate k 0) ≡ []
no_entries zero = refl
no_entries (suc k) = refl

first_again : (g : Givens) (p : ℕ) → process_after_return g p (first_process g p) ≡ first_process g p
first_again g p = ap (λ l. let r = record_again g p 0 0 l in let a = first_process g p in let b : Process = record a { local = r; gone = wants_nothing r.phase } in b) (no_entries (g.jobs + 1))

ended_may : (p n : ℕ) → may_perform p 0 (entries_for (table n (λ q. Ended q))) ≡ 0
ended_may p zero = refl
ended_may p (suc n) =
    ap (λ l. may_perform p 0 l) (map-append (λ (e : Event). ShownEntry e) (table n (λ q. Ended q)) (Ended (suc n) ∷ []))
    ∙ may-append (entries_for (table n (λ q. Ended q))) (entries_for (Ended (suc n) ∷ [])) p 0 ∙ ended_may p n

pub first_shows : (g : Givens) → Shows g (first_shared g) (opening_tale g)
first_shows g = record { words = sym (opening_words g); size = length-table (λ _. []) g.workers; workers = each }
  where
    may : (p : ℕ) → may_perform p 0 (opening_tale g).entries ≡ 0
    may p = go (nat_lt g.jobs g.beta)
      where
        go : (b : Bool) → may_perform p 0 (entries_for (if b then table g.workers (λ q. Ended q) else [])) ≡ 0
        go true = ended_may p g.workers
        go false = refl

    each : (p : ℕ) → IsWorker g p → ShowsWorker g (numbered [] (first_shared g).lists p) (opening_tale g) p
    each p o =
        subst (λ l. ShowsWorker g l (opening_tale g) p) (sym (numbered-table [] (λ _. []) g.workers p o.low o.high))
        (record {
          gone = subst (λ (a : Process). a.gone ≡ wants_nothing a.local.phase) (sym is) refl;
          stands = inl (subst (λ (a : Process). IsBeginning g p [] a) (sym is) (record { few = omega arith; loaded = refl; same = first_again g p }));
          performs = may p;
        })
      where
        is : process (world_of_tale (opening_tale g)) p ≡ first_process g p
        is = numbered-table nobody (first_process g) g.workers p o.low o.high
