-- In a lawful world in which a worker has ended, all workers together have done enough jobs.
use Rattle.std.proofs.Common.{◌≡◌, ℕ, zero, suc, ◌<◌, ◌≤◌, true, ◌||◌, List, [], ◌∷◌, length, sym, ap, ◌∙◌, arith}
use Rattle.std.specs.List.{flat_map}
use Rattle.std.proofs.lemmas.Bool.{true≢false, or_right}
use Rattle.std.proofs.lemmas.List.Concat.{flat_map-cons, length-flat_map}
use Rattle.amo_sets.specs.Lists.{numbered}
use Rattle.amo_sets.specs.Sets.{has}
use Rattle.amo_sets.specs.Rank.{count}
use Rattle.amo_sets.proofs.Numbers.{has-append}
use Rattle.amo_params.specs.Givens.{IsWorker, bound}
use Rattle.amo_kk.specs.Record.{is_open, is_over}
use Rattle.amo_kk.specs.World.{nobody, process, done_count}
use Rattle.amo_kk.specs.Lawful.{FitsPhase, IsSoundRecord, IsLawful}
use Rattle.amo_params.specs.declared.givens.Givens.{Givens}
use Rattle.amo_kk.specs.declared.phase.Phase.{Phase}
use Rattle.amo_kk.specs.declared.phase.Phase.TheVariants.{Over}
use Rattle.amo_kk.specs.declared.model.Record.{Record}
use Rattle.amo_kk.specs.declared.model.Process.{Process}
use Rattle.amo_kk.specs.declared.model.World.{World}
use Rattle.amo_kk.proofs.Steps.{enough_known}

-- if a worker is over, few jobs are open
pub over_few : (g : Givens) (p : ℕ) (r : Record) (phase : Phase) → is_over phase ≡ true → FitsPhase g p r phase → count g.jobs (is_open r) < g.beta
over_few g p r Over h st = st
over_few g p r phase h st = absurd (true≢false (sym h))

-- the dones of all these workers
abbrev dones_of : List Process → List ℕ
dones_of all = flat_map (λ (a : Process). a.local.dones) all

has_first_or_rest : (a : Process) (all : List Process) (j : ℕ) → has (dones_of (a ∷ all)) j ≡ (has a.local.dones j || has (dones_of all) j)
has_first_or_rest a all j = ap (λ l. has l j) (flat_map-cons (λ (b : Process). b.local.dones) a all) ∙ has-append a.local.dones (dones_of all) j

has_done_of : (all : List Process) (q j : ℕ) → has (numbered nobody all q).local.dones j ≡ true → has (dones_of all) j ≡ true
has_done_of all zero j h = absurd (true≢false (sym h))
has_done_of [] (suc k) j h = absurd (true≢false (sym h))
has_done_of (a ∷ all) (suc zero) j h = has_first_or_rest a all j ∙ ap (λ b. b || has (dones_of all) j) h
has_done_of (a ∷ all) (suc (suc k)) j h = has_first_or_rest a all j ∙ or_right (has a.local.dones j) (has (dones_of all) j) (has_done_of all (suc k) j h)

pub enough_done : (g : Givens) (w : World) (p : ℕ) → IsLawful g w → IsWorker g p → is_over (process w p).local.phase ≡ true → bound g ≤ done_count w
enough_done g w p law o ended =
    let sound : IsSoundRecord g p (process w p).local = (law.lawful.sound p o).local in
    let few = over_few g p (process w p).local (process w p).local.phase ended sound.stands in
    let many = enough_known g (process w p).local (dones_of w.processes) g.limits.some few sound.tried_few
    (λ j h. let d = law.lawful.known p j o h in has_done_of w.processes d.0 j d.2) in
    let size : length (dones_of w.processes) ≡ done_count w = length-flat_map (λ (a : Process). a.local.dones) w.processes in
    let some = g.limits.some in
    let low = g.limits.beta_low in
    omega arith
