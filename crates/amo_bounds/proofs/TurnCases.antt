-- The nine cases of a turn, each with the record that it leaves.
use Rattle.std.proofs.Common.{◌≡◌, ⊎_elim, ℕ, ◌+◌, ◌<◌, ◌≤◌, Bool, [], ◌∷◌, ◌++◌, length, get_or, refl, sym, ap, ◌∙◌, arith, ◌≢◌}
use Rattle.std.specs.Prelude.{if◌then◌else◌}
use Rattle.std.proofs.lemmas.List.{get_or_past}
use Rattle.std.proofs.lemmas.Bool.{cases_eq, cases_lt, true≢false, eq-eqb, ne_eqb}
use Rattle.amo_sets.specs.Lists.{numbered, put}
use Rattle.amo_sets.specs.Sets.{with_number}
use Rattle.amo_sets.proofs.Numbers.{has-get_or}
use Rattle.amo_params.specs.Givens.{IsJob, IsWorker, IsOther, next_other, others_before}
use Rattle.amo_kk.specs.Record.{wants_nothing}
use Rattle.amo_kk.specs.Choice.{record_after_choice, record_after_check}
use Rattle.amo_kk.specs.Step.{want_in, want, with_announced, record_at_row, record_at_announcement, record_after_phase}
use Rattle.amo_kk.specs.Lawful.{AreLawful, IsSoundProcess}
use Rattle.amo_params.specs.declared.givens.Givens.{Givens}
use Rattle.amo_kk.specs.declared.phase.Phase.{Phase}
use Rattle.amo_kk.specs.declared.phase.Phase.TheVariants.{Announcing, Trying, Reading, Claiming, Holding, Over, Left}
use Rattle.amo_kk.specs.declared.model.Record.{Record}
use Rattle.amo_kk.specs.declared.model.Process.{Process}
use Rattle.amo_kk.proofs.Choice.{next_other_differs, next_other_above, to_row_cases, to_announcement_cases}
use Rattle.amo_kk.proofs.Kept.{numbered_next, first_other, done_job}
use Rattle.amo_bounds.proofs.Still.{still, heard, IsTurnOf}

module _ (g : Givens) (at now : ℕ → Process) (p : ℕ) (law : AreLawful g at) (turn : IsTurnOf g at now p) where
  abbrev r : Record
  r = (at p).local

  abbrev v : ℕ
  v = heard at (want r)

  o : IsWorker g p
  o = turn.worker

  sound : IsSoundProcess g p (at p)
  sound = law.sound p o

  -- p reads in the row of q what q has done
  read_is : (j q : ℕ) → r.phase ≡ Reading j q → IsOther g p q → v ≡ get_or (at q).local.dones (numbered 0 r.fronts q) 0
  read_is j q is other =
      ap (λ phase. heard at (want_in r phase)) is ∙ numbered_next 0 (at q).row (numbered 0 r.fronts q) ∙ (law.sound q other.worker).row (numbered 0 r.fronts q)

  -- a worker that reads a zero there has read all
  all_read : (j q : ℕ) → r.phase ≡ Reading j q → IsOther g p q → v ≡ 0 → length (at q).local.dones ≤ numbered 0 r.fronts q
  all_read j q is other none = ⊎_elim
      (λ (l : front < length (at q).local.dones).
      let job = done_job g at law p o q (get_or (at q).local.dones front 0) other.worker (has-get_or (at q).local.dones front l) in
      let low = job.low in
      let read = read_is j q is other in
      absurd (omega arith))
      (λ l. l)
      (cases_lt front (length (at q).local.dones))
    where
      front : ℕ
      front = numbered 0 r.fronts q

  -- and else there was more
  more_to_read : (j q : ℕ) → r.phase ≡ Reading j q → IsOther g p q → v ≢ 0 → numbered 0 r.fronts q < length (at q).local.dones
  more_to_read j q is other some = ⊎_elim
      (λ l. l)
      (λ (m : length (at q).local.dones ≤ numbered 0 r.fronts q). absurd (some (read_is j q is other ∙ get_or_past (at q).local.dones (numbered 0 r.fronts q) 0 m)))
      (cases_lt (numbered 0 r.fronts q) (length (at q).local.dones))

  -- what a turn can be
  pub turn_cases : (C : Type 0)
      → ((j : ℕ) → r.phase ≡ Announcing j → r.tried ≡ [] → IsOther g p (next_other p 0) → (now p).local ≡ record r { phase = Trying j (next_other p 0); steps = 0 } → C)
      → ((j : ℕ) → r.phase ≡ Announcing j → r.tried ≡ [] → ((q : ℕ) → IsOther g p q → ⊥) → (now p).local ≡ still (record_after_check g p j r) → C)
      → ((j q : ℕ) → r.phase ≡ Trying j q → IsOther g p q → next_other p q ≤ g.workers → (now p).local ≡ record r { phase = Trying j (next_other p q); tried = with_announced (at q).next r.tried; steps = 0 } → C)
      → ((j q : ℕ) → r.phase ≡ Trying j q → IsOther g p q → g.workers < next_other p q → IsOther g p (next_other p 0) → (now p).local ≡ record r { phase = Reading j (next_other p 0); tried = with_announced (at q).next r.tried; steps = 0 } → C)
      → ((j q i : ℕ) → r.phase ≡ Reading j q → IsOther g p q → numbered 0 r.fronts q < length (at q).local.dones → (now p).local ≡ record r { known = with_number i r.known; fronts = put r.fronts q (numbered 0 r.fronts q + 1); steps = 0 } → C)
      → ((j q : ℕ) → r.phase ≡ Reading j q → IsOther g p q → length (at q).local.dones ≤ numbered 0 r.fronts q → next_other p q ≤ g.workers → (now p).local ≡ record r { phase = Reading j (next_other p q); steps = 0 } → C)
      → ((j q : ℕ) → r.phase ≡ Reading j q → IsOther g p q → length (at q).local.dones ≤ numbered 0 r.fronts q → g.workers < next_other p q → (now p).local ≡ still (record_after_check g p j r) → C)
      → ((j : ℕ) → r.phase ≡ Claiming j → (now p).local ≡ record r { phase = Holding j; claimed = r.claimed ++ j ∷ []; steps = 0 } → C)
      → ((j : ℕ) → r.phase ≡ Holding j → (now p).local ≡ still (record_after_choice g p (record r { dones = r.dones ++ j ∷ []; known = with_number j r.known })) → C)
      → C
  turn_cases C begins alone tries rows learns reads checks claims holds = go r.phase refl
    where
      by_phase : (phase : Phase) → r.phase ≡ phase → (now p).local ≡ still (record_after_phase g p v r phase)
      by_phase phase is = turn.local ∙ ap (λ x. still (record_after_phase g p v r x)) is

      go : (phase : Phase) → r.phase ≡ phase → C
      go (Announcing j) is =
          let stands : IsJob g j × (r.tried ≡ []) = rw is at sound.local.stands in
          to_announcement_cases g p j (next_other p 0) r (λ x. (now p).local ≡ still x → C)
          (λ in_range e. begins j is stands.1 (record { worker = record { low = next_other_above p 0; high = in_range }; differs = next_other_differs p 0 }) e)
          (λ above. to_row_cases g p j (next_other p 0) r (λ x. (now p).local ≡ still x → C)
          (λ in_range. absurd (omega arith))
          (λ _ e. alone j is stands.1 (λ q other. let f = (first_other g at law p o q other).worker.high in omega arith) e))
          (by_phase (Announcing j) is)
      go (Trying j q) is =
          let stands : IsJob g j × IsOther g p q × (length r.tried ≤ others_before p q) = rw is at sound.local.stands in
          let hears : v ≡ (at q).next = ap (λ phase. heard at (want_in r phase)) is in
          to_announcement_cases g p j (next_other p q) (record r { tried = with_announced (at q).next r.tried }) (λ x. (now p).local ≡ still x → C)
          (λ in_range e. tries j q is stands.1 in_range e)
          (λ above. let f = first_other g at law p o q stands.1 in to_row_cases g p j (next_other p 0) (record r { tried = with_announced (at q).next r.tried }) (λ x. (now p).local ≡ still x → C)
          (λ in_range e. rows j q is stands.1 above f e)
          (λ none. absurd (let h = f.worker.high in omega arith)))
          (by_phase (Trying j q) is ∙ ap (λ y. still (record_at_announcement g p j (next_other p q) (record r { tried = with_announced y r.tried }))) hears)
      go (Reading j q) is = ⊎_elim
          (λ (z : v ≡ 0). to_row_cases g p j (next_other p q) r (λ x. (now p).local ≡ still x → C)
          (λ in_range e. reads j q is stands.1 (all_read j q is stands.1 z) in_range e)
          (λ above e. checks j q is stands.1 (all_read j q is stands.1 z) above e)
          (by_phase (Reading j q) is ∙ ap choice (eq-eqb v 0 z)))
          (λ n. learns j q v is stands.1 (more_to_read j q is stands.1 n) (by_phase (Reading j q) is ∙ ap choice (ne_eqb v 0 n)))
          (cases_eq v 0)
        where
          stands : IsJob g j × IsOther g p q
          stands = rw is at sound.local.stands

          choice : Bool → Record
          choice b = still (if b then record_at_row g p j (next_other p q) r else record r { known = with_number v r.known; fronts = put r.fronts q (numbered 0 r.fronts q + 1) })
      go (Claiming j) is = claims j is (by_phase (Claiming j) is)
      go (Holding j) is = holds j is (by_phase (Holding j) is)
      go Over is = absurd (true≢false (sym (sound.gone (ap wants_nothing is)) ∙ turn.here))
      go Left is = absurd (true≢false (sym (sound.gone (ap wants_nothing is)) ∙ turn.here))
