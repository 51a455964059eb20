-- A batch is as long as it can be.
use Rattle.std.proofs.Common.{◌≡◌, ◌⊎◌, inl, inr, ℕ, zero, suc, ◌+◌, ◌≤◌, ◌^◌, ◌-◌, min, Bool, true, false, ◌||◌, refl, sym, ap, ◌∙◌, subst, List, [], ◌∷◌, ◌++◌, length, append-nil, Option, Some, None}
use Rattle.std.specs.Prelude.{if◌then◌else◌, ◌==◌}
use Rattle.std.proofs.lemmas.Bool.{true≢false, eq-eqb, or_left}
use Rattle.std.proofs.lemmas.Option.{same_Some, none-some}
use Rattle.amo_sets.specs.Sets.{has, with_number}
use Rattle.amo_params.specs.Givens.{IsJob, IsWorker}
use Rattle.amo_kk.specs.Record.{wants_nothing, job_in_hand}
use Rattle.amo_kk.specs.Choice.{chosen_job, record_after_choice}
use Rattle.amo_kk.specs.Step.{want, want_in, record_after_phase, record_after}
use Rattle.amo_kk.specs.Words.{next_word, claim_word, done_word}
use Rattle.amo_kk.specs.Lawful.{IsSoundRecord, FitsPhase}
use Rattle.amo_params.specs.declared.givens.Givens.{Givens}
use Rattle.amo_kk.specs.declared.model.Record.{Record}
use Rattle.amo_kk.specs.declared.phase.Phase.{Phase}
use Rattle.amo_kk.specs.declared.phase.Phase.TheVariants.{Announcing, Trying, Reading, Claiming, Holding, Over}
use Rattle.amo_kk.proofs.Choice.{choice_cases}
use Rattle.amo_process.specs.declared.standing.Standing.{Standing}
use Rattle.amo_process.specs.declared.standing.Standing.TheVariants.{Beginning, Going}
use Rattle.amo_process.specs.declared.batch.Item.{Item}
use Rattle.amo_process.specs.declared.batch.Item.TheVariants.{Store, Load, LoadUntilZero}
use Rattle.amo_process.specs.Heard.{record_after_all, going, standing_of}
use Rattle.amo_process.specs.Batch.{last_word, items_wanted, items_from, items_beginning, items_of, left_after_all, loads_or_announces, PerformsOrRests, IsAtEnd}
use Rattle.amo_process.proofs.Hearing.{hear_parts, going_by, going_sound, more_going}
use Rattle.amo_process.proofs.Passes.{goer}
use Rattle.amo_process.proofs.Batches.{rest_wanted}

-- if no item is left, nothing is left once a value is read
nothing_more : (vs : List ℕ) → left_after_all [] vs ≡ Some [] → vs ≡ []
nothing_more [] h = refl
nothing_more (v ∷ vs) h = absurd (none-some [] h)

-- a store gives 0
after_store : (word value v : ℕ) (items : List Item) (vs : List ℕ) → left_after_all (Store word value ∷ items) (v ∷ vs) ≡ Some [] → (v ≡ 0) × (left_after_all items vs ≡ Some [])
after_store word value zero items vs h = (refl, h)
after_store word value (suc v) items vs h = absurd (none-some [] h)

later : (a b : Bool) → (a || b) ≡ false → b ≡ false
later true b h = absurd (true≢false h)
later false b h = h

-- who announces, announces
announces : (p j : ℕ) (items : List Item) → loads_or_announces p (Store (next_word p) j ∷ items) ≡ false → ⊥
announces p j items h = true≢false (sym (or_left (p == p) (loads_or_announces p items) (eq-eqb p p refl)) ∙ h)

module _ (g : Givens) (p : ℕ) where
  -- a job is in the hand, or nothing more is wanted
  abbrev Rested : Record → Type 0
  Rested s = (1 ≤ job_in_hand s.phase) ⊎ (wants_nothing s.phase ≡ true)

  -- after a choice alone
  chosen : (x : Record) (n : ℕ) (vs : List ℕ) (s : Record) → let y = record (record_after_choice g p x) { steps = n } in
      loads_or_announces p (items_wanted g p y.fronts (want y)) ≡ false → left_after_all (items_wanted g p y.fronts (want y)) vs ≡ Some []
      → record_after_all g p y vs ≡ Some s → Rested s
  chosen x n vs s = choice_cases g p x
      (λ z. let y = record z { steps = n } in loads_or_announces p (items_wanted g p y.fronts (want y)) ≡ false → left_after_all (items_wanted g p y.fronts (want y)) vs ≡ Some []
      → record_after_all g p y vs ≡ Some s → Rested s)
      (λ _ none left after. inr (ap (λ (z : Record). wants_nothing z.phase) (sym (same_Some (record x { phase = Over; steps = n }) s (ap (record_after_all g p (record x { phase = Over; steps = n })) (sym (nothing_more vs left)) ∙ after)))))
      (λ _ none left after. absurd (announces p (chosen_job g p x) _ none))

  rested : (r : Record) (v : ℕ) (vs : List ℕ) (s : Record) → IsSoundRecord g p r → loads_or_announces p (items_from g p r (want r)) ≡ false
      → left_after_all (items_from g p r (want r)) (v ∷ vs) ≡ Some [] → record_after_all g p r (v ∷ vs) ≡ Some s → Rested s
  rested r v vs s fit none left after = go r.phase refl none left (hear_parts g p r v vs s after).1
    where
      Goal : Phase → Type 0
      Goal phase = loads_or_announces p (items_from g p r (want_in r phase)) ≡ false → left_after_all (items_from g p r (want_in r phase)) (v ∷ vs) ≡ Some []
          → record_after_all g p (record (record_after_phase g p v r phase) { steps = min (r.steps + 1) (2 ^ 64 - 1) }) vs ≡ Some s → Rested s

      go : (phase : Phase) → r.phase ≡ phase → Goal r.phase
      go (Announcing j) is = subst (λ x. Goal x) (sym is) (λ n l a. absurd (announces p j _ n))
      go (Trying j q) is = subst (λ x. Goal x) (sym is) (λ n l a. absurd (true≢false n))
      go (Reading j q) is = subst (λ x. Goal x) (sym is) (λ n l a. absurd (true≢false n))
      go (Claiming j) is = subst (λ x. Goal x) (sym is) (λ n l a.
          let after_it = record r { phase = Holding j; claimed = r.claimed ++ j ∷ []; steps = min (r.steps + 1) (2 ^ 64 - 1) } in
          let same = same_Some after_it s (ap (record_after_all g p after_it) (sym (nothing_more vs (after_store (claim_word g p) (length r.claimed + 1) v [] vs l).1)) ∙ a) in
          inl (subst (λ (z : Record). 1 ≤ job_in_hand z.phase) same stands.0.low))
        where
          stands : IsJob g j × (has r.known j ≡ false) × (has r.tried j ≡ false)
          stands = subst (λ x. FitsPhase g p r x) is fit.stands
      go (Holding j) is = subst (λ x. Goal x) (sym is) (λ n l a.
          let z = record_after g p 0 r in
          held z next (later (done_word g p (length r.dones + 1) == next_word p) (loads_or_announces p (items_wanted g p z.fronts (want z))) n)
          (after_store (done_word g p (length r.dones + 1)) j v (items_wanted g p z.fronts (want z)) vs l).1 a)
        where
          after_it : Record
          after_it = record (record_after_choice g p (record r { dones = r.dones ++ j ∷ []; known = with_number j r.known })) { steps = min (r.steps + 1) (2 ^ 64 - 1) }

          next : record_after g p 0 r ≡ after_it
          next = ap (λ x. record (record_after_phase g p 0 r x) { steps = min (r.steps + 1) (2 ^ 64 - 1) }) is

          held : (z : Record) → z ≡ after_it → loads_or_announces p (items_wanted g p z.fronts (want z)) ≡ false → left_after_all (items_wanted g p z.fronts (want z)) vs ≡ Some []
              → record_after_all g p after_it vs ≡ Some s → Rested s
          held z e = subst (λ (y : Record). loads_or_announces p (items_wanted g p y.fronts (want y)) ≡ false → left_after_all (items_wanted g p y.fronts (want y)) vs ≡ Some []
              → record_after_all g p after_it vs ≡ Some s → Rested s) (sym e)
              (chosen (record r { dones = r.dones ++ j ∷ []; known = with_number j r.known }) (min (r.steps + 1) (2 ^ 64 - 1)) vs s)
      go ended is = subst (λ x. Goal x) (sym is) (λ n l a. absurd (none-some [] l))

  -- if there is no item, nothing is wanted
  abbrev is_empty : List Item → Bool
  is_empty [] = true
  is_empty (item ∷ items) = false

  empty_from : (r : Record) (phase : Phase) → is_empty (items_from g p r (want_in r phase)) ≡ wants_nothing phase
  empty_from r (Announcing j) = refl
  empty_from r phase = refl

  -- own words are loaded
  own_loads : (word : ℕ) → loads_or_announces p (items_beginning g p word) ≡ true
  own_loads word = go (word == next_word p) (word == claim_word g p)
    where
      go : (b c : Bool) → loads_or_announces p (if b then Load word ∷ Load (claim_word g p) ∷ LoadUntilZero (done_word g p 1) (last_word g p) ∷ []
          else if c then Load word ∷ LoadUntilZero (done_word g p 1) (last_word g p) ∷ [] else LoadUntilZero word (last_word g p) ∷ []) ≡ true
      go true c = refl
      go false true = refl
      go false false = refl

  there : (heard more : List ℕ) (s t : Standing) → IsWorker g p → standing_of g p heard ≡ Some s → left_after_all (items_of g p s) more ≡ Some [] → standing_of g p (heard ++ more) ≡ Some t
      → loads_or_announces p (items_of g p s) ≡ false → PerformsOrRests t
  there heard more (Beginning word) t o stands left after none = absurd (true≢false (sym (own_loads word) ∙ none))
  there heard [] (Going l fresh) t o stands left after none =
      subst (λ x. PerformsOrRests x) (same_Some (Going l fresh) t (sym stands ∙ ap (standing_of g p) (sym (append-nil heard)) ∙ after))
      (inr (sym (empty_from l.state l.state.phase) ∙ ap is_empty (same_Some (items_of g p (Going l fresh)) [] left)))
  there heard (v ∷ vs) (Going l fresh) t o stands left after none =
      go (record_after_all g p l.state (v ∷ vs)) refl
      (sym (more_going g p heard l.state fresh v vs (stands ∙ ap (λ x. Some (Going x fresh)) (going_by g p heard l fresh stands).same)) ∙ after)
    where
      go : (x : Option Record) → record_after_all g p l.state (v ∷ vs) ≡ x → going g p false x ≡ Some t → PerformsOrRests t
      go None is e = absurd (none-some t e)
      go (Some s) is e = subst (λ x. PerformsOrRests x) (same_Some (goer g p s) t e) (rested l.state v vs s (going_sound g p heard l fresh o stands) none left is)

pub ends_late : (g : Givens) (p : ℕ) (heard more : List ℕ) (s t : Standing) → IsWorker g p
    → standing_of g p heard ≡ Some s → left_after_all (items_of g p s) more ≡ Some [] → standing_of g p (heard ++ more) ≡ Some t → IsAtEnd p (items_of g p s) t
ends_late g p heard more s t o stands left after = record { no_load = rest_wanted g p heard more s t [] o stands left after; rests = there g p heard more s t o stands left after }
