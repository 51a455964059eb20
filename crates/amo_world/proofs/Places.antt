-- The processes of the code as those of the definitions, and what loads find there.
use Rattle.std.proofs.Common.{◌≡◌, ℕ, zero, suc, ◌+◌, ◌-◌, ◌≤◌, List, map, length, get_or, sym, ap, subst, ◌∙◌, arith}
use Rattle.std.proofs.lemmas.List.{get_or-map, get_or_default}
use Rattle.amo_sets.specs.Lists.{numbered}
use Rattle.amo_kk.specs.Fits.{WantFits}
use Rattle.amo_params.specs.Givens.{IsOther}
use Rattle.amo_kk.specs.World.{nobody, process, loaded_value}
use Rattle.amo_params.specs.declared.givens.Givens.{Givens}
use Rattle.amo_kk.specs.declared.model.Process.{Process}
use Rattle.amo_kk.specs.declared.model.World.{World}
use Rattle.amo_kk.specs.declared.phase.Want.{Want}
use Rattle.amo_kk.specs.declared.phase.Want.TheVariants.{LoadNext, LoadDone}
use Rattle.amo_kk.proofs.Bits.{numbered_before}
use Rattle.amo_world.specs.declared.process.SimProcess.{SimProcess as OwnProcess}
use Rattle.amo_world.specs.Processes.{process_of}

pub process_at : (processes : List OwnProcess) (q : ℕ) (d : OwnProcess) → 1 ≤ q → q ≤ length processes → numbered nobody (map process_of processes) q ≡ process_of (get_or processes (q - 1) d)
process_at processes zero d l h = absurd (omega arith)
process_at processes (suc k) d l h = let e : k ≡ suc k - 1 = omega arith in get_or-map process_of processes k d nobody (omega arith) ∙ ap (λ i. process_of (get_or processes i d)) e

-- a wanted announcement
pub next_found : (w : World) (want : Want) (q : ℕ) (a : Process) → want ≡ LoadNext q → a ≡ process w q → a.next ≡ loaded_value w want
next_found w want q a is here = ap (λ (x : Process). x.next) here ∙ sym (ap (λ x. loaded_value w x) is)

-- a wanted entry of a row
pub entry_fits : (g : Givens) (p : ℕ) (want : Want) (q k : ℕ) → want ≡ LoadDone q k → WantFits g p want → (1 ≤ k) × (k ≤ g.jobs + 1)
entry_fits g p want q k is fits = let f : IsOther g p q × (1 ≤ k) × (k ≤ g.jobs + 1) = subst (λ x. WantFits g p x) is fits in (f.1, f.2)

pub entry_found : (w : World) (want : Want) (q k : ℕ) (a : Process) (v : ℕ) → want ≡ LoadDone q k → a ≡ process w q → 1 ≤ k → k ≤ length a.row → v ≡ get_or a.row (k - 1) v → v ≡ loaded_value w want
entry_found w want q k a v is here low high read =
    read ∙ get_or_default a.row (k - 1) v 0 (omega arith) ∙ sym (numbered_before 0 a.row k low)
    ∙ ap (λ (x : Process). numbered 0 x.row k) here ∙ sym (ap (λ x. loaded_value w x) is)
