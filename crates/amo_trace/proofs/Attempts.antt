-- A worker is about to claim its job, or the attempt has failed, by what it has loaded in the
-- attempt.
use Rattle.std.proofs.Common.{◌≡◌, ◌≢◌, ℕ, ◌+◌, ◌<◌, ◌≤◌, Bool, true, false, List, [], ◌∷◌, ◌++◌, length, refl, sym, ap, ◌∙◌, subst, arith}
use Rattle.std.specs.Prelude.{not, ◌&&◌, ◌||◌, ◌==◌, if◌then◌else◌, ⊤}
use Rattle.std.proofs.lemmas.Bool.{ne_eqb, eqb-true, true≢false}
use Rattle.amo_sets.specs.Lists.{numbered, put}
use Rattle.amo_sets.specs.Sets.{has, with_number}
use Rattle.amo_sets.proofs.Numbers.{has-with_number}
use Rattle.amo_params.specs.Givens.{IsWorker, next_other}
use Rattle.amo_kk.specs.Lawful.{IsSoundRecord, FitsPhase}
use Rattle.amo_kk.specs.Record.{is_open}
use Rattle.amo_kk.specs.Choice.{record_after_choice, record_after_check}
use Rattle.amo_kk.specs.Step.{want_in, is_load, with_announced, record_at_row, record_at_announcement, record_after_phase, record_after}
use Rattle.amo_params.specs.declared.givens.Givens.{Givens}
use Rattle.amo_kk.specs.declared.model.Record.{Record}
use Rattle.amo_kk.specs.declared.phase.Phase.{Phase}
use Rattle.amo_kk.specs.declared.phase.Phase.TheVariants.{Announcing, Trying, Reading, Claiming, Holding, Over, Left}
use Rattle.amo_kk.proofs.Choice.{choice_cases, to_row_cases, to_announcement_cases}
use Rattle.amo_kk.proofs.FirstChoice.{choice_finds}
use Rattle.amo_kk.proofs.Kept.{noted_length, others_room}
use Rattle.amo_trace.specs.Transitions.{has_chosen, job_of}
use Rattle.amo_trace.specs.Attempts.{has_met_by, looks_on}

-- an invariant between steps: the job to be announced is open, and in an attempt the job isn't open
-- exactly if it was met
abbrev pub Stands : Bool → List ℕ → List ℕ → Phase → Type 0
Stands met known tried (Announcing j) = (not (has known j) && not (has tried j)) ≡ true
Stands met known tried (Trying j q) = not (not (has known j) && not (has tried j)) ≡ met
Stands met known tried (Reading j q) = not (not (has known j) && not (has tried j)) ≡ met
Stands met known tried (Claiming j) = ⊤
Stands met known tried (Holding j) = ⊤
Stands met known tried Over = ⊤
Stands met known tried Left = ⊤

-- what a load leads to
abbrev pub Decides : Bool → Phase → Type 0
Decides met (Announcing j) = met ≡ true
Decides met (Trying j q) = ⊤
Decides met (Reading j q) = ⊤
Decides met (Claiming j) = met ≡ false
Decides met (Holding j) = ⊥
Decides met Over = met ≡ true
Decides met Left = ⊥

-- so it has failed exactly if the job was met
pub chosen_if_met : (met : Bool) (phase : Phase) → Decides met phase → looks_on phase ≡ false → has_chosen phase ≡ met
chosen_if_met met (Announcing j) h over = sym h
chosen_if_met met (Trying j q) h over = absurd (true≢false over)
chosen_if_met met (Reading j q) h over = absurd (true≢false over)
chosen_if_met met (Claiming j) h over = sym h
chosen_if_met met (Holding j) h over = absurd h
chosen_if_met met Over h over = sym h
chosen_if_met met Left h over = absurd h

-- what is read in an announcement or a row closes a job

closes_tried : (k t e : Bool) → not (not k && not (e || t)) ≡ (not (not k && not t) || e)
closes_tried true t e = refl
closes_tried false true true = refl
closes_tried false true false = refl
closes_tried false false true = refl
closes_tried false false false = refl

closes_known : (k t e : Bool) → not (not (e || k) && not t) ≡ (not (not k && not t) || e)
closes_known true true true = refl
closes_known true true false = refl
closes_known true false true = refl
closes_known true false false = refl
closes_known false true true = refl
closes_known false true false = refl
closes_known false false true = refl
closes_known false false false = refl

has_noted : (v j : ℕ) (tried : List ℕ) → 1 ≤ j → has (with_announced v tried) j ≡ ((v == j) || has tried j)
has_noted v j tried low = go (v == 0) refl
  where
    go : (b : Bool) → (v == 0) ≡ b → has (if b then tried else with_number v tried) j ≡ ((v == j) || has tried j)
    go true e = let apart : v ≢ j = (λ s. let z : v ≡ 0 = eqb-true v 0 e in omega arith) in ap (λ b. b || has tried j) (sym (ne_eqb v j apart))
    go false e = has-with_number v tried j

or_none : (b : Bool) → (b || false) ≡ b
or_none true = refl
or_none false = refl

module _ (g : Givens) (p : ℕ) (o : IsWorker g p) where
  -- after the choice the chosen job is open
  chooses : (met : Bool) (x : Record) → length x.tried < g.workers → (let y = record_after_choice g p x in Stands met y.known y.tried y.phase)
  chooses met x few = choice_cases g p x (λ y. Stands met y.known y.tried y.phase) (λ _. tt)
      (λ many. let found = choice_finds g p x o few many in ap (λ b. not b && true) found.2)

  -- it is made if a load has shown that the job isn't open
  abbrev Ends : Bool → Record → Type 0
  Ends met y = Stands met y.known y.tried y.phase × Decides met y.phase

  fails_by : (x : Record) → length x.tried < g.workers → Ends true (record_after_choice g p x)
  fails_by x few = choice_cases g p x (Ends true) (λ _. (tt, refl))
      (λ many. let found = choice_finds g p x o few many in (ap (λ b. not b && true) found.2, refl))

  module _ (met : Bool) (j : ℕ) (x : Record) (few : length x.tried < g.workers) (open_or_met : not (is_open x j) ≡ met) where
    checks : Ends met (record_after_check g p j x)
    checks = go (is_open x j) open_or_met
      where
        go : (b : Bool) → not b ≡ met → Ends met (if b then record x { phase = Claiming j } else record_after_choice g p x)
        go true e = (tt, sym e)
        go false e = subst (λ m. Ends m (record_after_choice g p x)) e (fails_by x few)

    to_row : (q : ℕ) → Ends met (record_at_row g p j q x)
    to_row q = to_row_cases g p j q x (Ends met) (λ _. (open_or_met, tt)) (λ _. checks)

    to_announcement : (q : ℕ) → Ends met (record_at_announcement g p j q x)
    to_announcement q = to_announcement_cases g p j q x (Ends met) (λ _. (open_or_met, tt)) (λ _. to_row (next_other p 0))

  -- a step keeps what holds, and a load decides
  module _ (r : Record) (v : ℕ) (sound : IsSoundRecord g p r) where
    abbrev StepEnds : Bool → Phase → Record → Type 0
    StepEnds met phase y =
        let after = has_met_by met (job_of phase) (want_in r phase) v in
        Stands after y.known y.tried y.phase × (is_load (want_in r phase) ≡ true → Decides after y.phase)

    by_phase : (met : Bool) (phase : Phase) → r.phase ≡ phase → Stands met r.known r.tried phase → StepEnds met phase (record_after_phase g p v r phase)
    by_phase met (Announcing j) is h = ((to_announcement false j r sound.tried_few (ap not h) (next_other p 0)).0, λ e. absurd (true≢false (sym e)))
    by_phase met (Trying j q) is h =
        let stands = subst (λ ph. FitsPhase g p r ph) is sound.stands in
        let few : length (with_announced v r.tried) < g.workers =
        (let more = noted_length v r.tried in let room = others_room p q g.workers o.low o.high stands.1.worker.low stands.1.worker.high stands.1.differs in let before = stands.2 in omega arith) in
        let now : not (not (has r.known j) && not (has (with_announced v r.tried) j)) ≡ (met || (v == j)) =
        ap (λ b. not (not (has r.known j) && not b)) (has_noted v j r.tried stands.0.low) ∙ closes_tried (has r.known j) (has r.tried j) (v == j) ∙ ap (λ b. b || (v == j)) h in
        let ends = to_announcement (met || (v == j)) j (record r { tried = with_announced v r.tried }) few now (next_other p q) in
        (ends.0, λ _. ends.1)
    by_phase met (Reading j q) is h =
        let stands = subst (λ ph. FitsPhase g p r ph) is sound.stands in
        go stands.0.low (v == 0) refl
      where
        learnt : Record
        learnt = record r { known = with_number v r.known; fronts = put r.fronts q (numbered 0 r.fronts q + 1) }

        go : 1 ≤ j → (b : Bool) → (v == 0) ≡ b → StepEnds met (Reading j q) (if b then record_at_row g p j (next_other p q) r else learnt)
        go low true e =
            let apart : v ≢ j = (λ s. let z : v ≡ 0 = eqb-true v 0 e in omega arith) in
            let now : not (is_open r j) ≡ (met || (v == j)) = h ∙ sym (or_none met) ∙ ap (λ b. met || b) (sym (ne_eqb v j apart)) in
            let ends = to_row (met || (v == j)) j r sound.tried_few now (next_other p q) in
            (ends.0, λ _. ends.1)
        go low false e =
            subst (λ ph. Stands (met || (v == j)) (with_number v r.known) r.tried ph × (true ≡ true → Decides (met || (v == j)) ph)) (sym is)
            (ap (λ b. not (not b && not (has r.tried j))) (has-with_number v r.known j) ∙ closes_known (has r.known j) (has r.tried j) (v == j) ∙ ap (λ b. b || (v == j)) h, λ _. tt)
    by_phase met (Claiming j) is h = (tt, λ e. absurd (true≢false (sym e)))
    by_phase met (Holding j) is h = (chooses met (record r { dones = r.dones ++ j ∷ []; known = with_number j r.known }) sound.tried_few, λ e. absurd (true≢false (sym e)))
    by_phase met Over is h = (subst (λ ph. Stands met r.known r.tried ph) (sym is) tt, λ e. absurd (true≢false (sym e)))
    by_phase met Left is h = (subst (λ ph. Stands met r.known r.tried ph) (sym is) tt, λ e. absurd (true≢false (sym e)))

    pub step_decides : (met : Bool) → Stands met r.known r.tried r.phase → StepEnds met r.phase (record_after g p v r)
    step_decides met h = by_phase met r.phase refl h
