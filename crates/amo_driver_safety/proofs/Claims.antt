-- A process gets a job to perform only by the store of its claim, and never a job that it has
-- claimed already.
use Rattle.std.proofs.Common.{◌≡◌, ◌≢◌, ℕ, zero, suc, ◌+◌, ◌≤◌, arith, Bool, true, false, refl, sym, ap, ◌∙◌, subst, List, [], ◌∷◌, ◌++◌, length, Option, Some, None, append-nil}
use Rattle.std.specs.Prelude.{⊤, if◌then◌else◌, nat_le}
use Rattle.std.proofs.lemmas.Bool.{true≢false}
use Rattle.std.proofs.lemmas.Option.{none-some}
use Rattle.amo_sets.specs.Sets.{has}
use Rattle.amo_sets.proofs.Numbers.{has_push, has_push_kept}
use Rattle.amo_kk.specs.Again.{entries_of, are_own_words, record_again}
use Rattle.amo_kk.specs.Alone.{is_claiming}
use Rattle.amo_params.specs.Givens.{IsWorker}
use Rattle.amo_kk.specs.Lawful.{FitsPhase}
use Rattle.amo_kk.specs.Machine.{LocalView}
use Rattle.amo_kk.specs.Record.{job_in_hand, jobs_in_hand}
use Rattle.amo_kk.specs.Step.{want, want_in, record_after, record_after_phase}
use Rattle.amo_kk.specs.Words.{claim_word, done_word}
use Rattle.amo_params.specs.declared.givens.Givens.{Givens}
use Rattle.amo_kk.specs.declared.model.Record.{Record}
use Rattle.amo_kk.specs.declared.phase.Phase.{Phase}
use Rattle.amo_kk.specs.declared.phase.Phase.TheVariants.{Claiming, Holding}
use Rattle.amo_kk.proofs.Growth.{claims_stay, claims_grow}
use Rattle.amo_kk.proofs.Runs.{HasDone, has_done}
use Rattle.amo_process.specs.Heard.{can_hear, record_after_all, rest_of, is_nothing, going, standing_in, standing_of, told_by, doubted_by}
use Rattle.amo_process.specs.Stepped.{standing_after, access_for, access_of}
use Rattle.amo_process.specs.declared.access.Access.TheVariants.{Store as StoreAccess}
use Rattle.amo_process.specs.declared.standing.Standing.{Standing}
use Rattle.amo_process.specs.declared.standing.Standing.TheVariants.{Beginning, Going as GoingOn}
use Rattle.amo_process.proofs.Hearing.{is_going, rest_none_push, rest_zero_push, standing_push, going_sound}

-- what a step does to the hand, and to the claims

held_was_claimed : (g : Givens) (p v : ℕ) (r : Record) (j : ℕ) → 1 ≤ j → job_in_hand (record_after g p v r).phase ≡ j → r.phase ≡ Claiming j
held_was_claimed g p v r j some e = go r.phase refl (has_done g p v r r.phase refl)
  where
    go : (phase : Phase) → r.phase ≡ phase → HasDone r (record_after_phase g p v r r.phase) phase → r.phase ≡ Claiming j
    go (Claiming i) is d = is ∙ ap Claiming (sym d.held_now ∙ e)
    go phase is d = absurd (let none : j ≡ 0 = sym e ∙ d.held_now in omega arith)

stays_claimed : (g : Givens) (p v : ℕ) (r : Record) (j : ℕ) → has r.claimed j ≡ true → has (record_after g p v r).claimed j ≡ true
stays_claimed g p v r j h = go r.phase refl
  where
    go : (phase : Phase) → r.phase ≡ phase → has (record_after g p v r).claimed j ≡ true
    go (Claiming i) is = ap (λ l. has l j) (claims_grow g p v r i is) ∙ has_push_kept r.claimed i j h
    go phase is = ap (λ l. has l j) (claims_stay g p v r (ap is_claiming is)) ∙ h

-- It has job j in its hand. If that is what it began with, it is fresh.
pub record IsHolding (s : Option Standing) (fresh : Bool) (j : ℕ) : Type 0 where
  pub machine : LocalView
  pub stands : s ≡ Some (GoingOn machine fresh)
  pub phase : machine.state.phase ≡ Holding j

module _ (j : ℕ) (some : 1 ≤ j) where
  in_hand : (l : LocalView) (fresh : Bool) → job_in_hand l.state.phase ≡ j → IsHolding (Some (GoingOn l fresh)) fresh j
  in_hand l fresh e = by l.state.phase refl e
    where
      by : (phase : Phase) → l.state.phase ≡ phase → job_in_hand phase ≡ j → IsHolding (Some (GoingOn l fresh)) fresh j
      by (Holding i) at e = record { machine = l; stands = refl; phase = at ∙ ap Holding e }
      by phase at e = absurd (omega arith)

  -- a process that is to perform j, and one that has j in doubt
  pub told_holds : (s : Option Standing) → told_by s ≡ j → IsHolding s false j
  told_holds (Some (GoingOn l false)) e = in_hand l false e
  told_holds s e = absurd (omega arith)

  pub doubted_holds : (s : Option Standing) → doubted_by s ≡ j → IsHolding s true j
  doubted_holds (Some (GoingOn l true)) e = in_hand l true e
  doubted_holds s e = absurd (omega arith)

-- It has claimed j. A process that has read an impossible number has no job to perform any more.
abbrev pub HasClaimed : ℕ → Option Standing → Type 0
HasClaimed j None = ⊤
HasClaimed j (Some (Beginning word)) = ⊥
HasClaimed j (Some (GoingOn l fresh)) = has l.state.claimed j ≡ true

module _ (g : Givens) (p : ℕ) where
  -- a process that has read no more than its own words has no job to perform

  fresh_untold : (b : Bool) (r : Record) → told_by (if b then going g p true (Some r) else None) ≡ 0
  fresh_untold true r = refl
  fresh_untold false r = refl

  loading_untold : (b : Bool) (word : ℕ) → told_by (if b then Some (Beginning word) else None) ≡ 0
  loading_untold true word = refl
  loading_untold false word = refl

  not_begun : (b fresh : Bool) (o : Option Record) (word : ℕ) → (if b then going g p fresh o else None) ≡ Some (Beginning word) → true ≡ false
  not_begun true fresh None word e = absurd (none-some (Beginning word) e)
  not_begun true fresh (Some r) word e = ap is_going e
  not_begun false fresh o word e = absurd (none-some (Beginning word) e)

  begins_untold : (hs : List ℕ) (v word : ℕ) → standing_of g p hs ≡ Some (Beginning word) → told_by (standing_of g p (hs ++ v ∷ [])) ≡ 0
  begins_untold [] v word e = refl
  begins_untold (next ∷ []) v word e = loading_untold (nat_le 0 g.jobs) (done_word g p 1)
  begins_untold (next ∷ claim ∷ row) v word e = go (rest_of row) refl e
    where
      more : (v : ℕ) → rest_of row ≡ None → told_by (standing_of g p (next ∷ claim ∷ row ++ v ∷ [])) ≡ 0
      more zero none =
          ap (λ o. told_by (standing_in g p next claim (row ++ 0 ∷ []) o)) (rest_zero_push row none)
          ∙ fresh_untold (are_own_words g next claim (entries_of (row ++ 0 ∷ []))) (record_again g p next claim (entries_of (row ++ 0 ∷ [])))
      more (suc j) none =
          ap (λ o. told_by (standing_in g p next claim (row ++ suc j ∷ []) o)) (rest_none_push row j none)
          ∙ loading_untold (nat_le (length (row ++ suc j ∷ [])) g.jobs) (done_word g p (length (row ++ suc j ∷ []) + 1))

      go : (o : Option (List ℕ)) → rest_of row ≡ o → standing_in g p next claim row o ≡ Some (Beginning word) → told_by (standing_of g p (next ∷ claim ∷ row ++ v ∷ [])) ≡ 0
      go None is e = more v is
      go (Some rest) is e = absurd (true≢false (not_begun (are_own_words g next claim (entries_of row)) (is_nothing rest) (record_after_all g p (record_again g p next claim (entries_of row)) rest) word e))

  -- The worker that has read this is about to claim j.
  pub record IsClaiming (hs : List ℕ) (j : ℕ) : Type 0 where
    pub machine : LocalView
    pub fresh : Bool
    pub stands : standing_of g p hs ≡ Some (GoingOn machine fresh)
    pub phase : machine.state.phase ≡ Claiming j

  -- it wants to store its count of claims
  pub claim_wanted : (hs : List ℕ) (j : ℕ) (c : IsClaiming hs j) → access_of g p (standing_of g p hs) ≡ StoreAccess (claim_word g p) (length c.machine.state.claimed + 1)
  claim_wanted hs j c = ap (access_of g p) c.stands ∙ ap (λ x. access_for g p (want_in c.machine.state x)) c.phase

  -- a process that gets a job by one more number was about to claim it
  pub was_claiming : (hs : List ℕ) (v j : ℕ) → 1 ≤ j → told_by (standing_of g p (hs ++ v ∷ [])) ≡ j → IsClaiming hs j
  was_claiming hs v j some told = go (standing_of g p hs) refl
    where
      none : told_by (standing_of g p (hs ++ v ∷ [])) ≡ 0 → IsClaiming hs j
      none e = absurd (let zero_told : j ≡ 0 = sym told ∙ e in omega arith)

      hears : (l : LocalView) (fresh b : Bool) → standing_of g p hs ≡ Some (GoingOn l fresh)
          → told_by (if b then Some (GoingOn (record l { state = record_after g p v l.state }) false) else None) ≡ j → IsClaiming hs j
      hears l fresh true is e = record { machine = l; fresh = fresh; stands = is; phase = held_was_claimed g p v l.state j some e }
      hears l fresh false is e = absurd (omega arith)

      go : (s : Option Standing) → standing_of g p hs ≡ s → IsClaiming hs j
      go None is = none (ap told_by (standing_push g p hs v ∙ ap (standing_after g p v (hs ++ v ∷ [])) is))
      go (Some (Beginning word)) is = none (begins_untold hs v word is)
      go (Some (GoingOn l fresh)) is = hears l fresh (can_hear g v (want l.state)) is (ap told_by (sym (standing_push g p hs v ∙ ap (standing_after g p v (hs ++ v ∷ [])) is)) ∙ told)

  -- what was claimed stays so
  pub claim_stays : (hs : List ℕ) (v j : ℕ) → HasClaimed j (standing_of g p hs) → HasClaimed j (standing_of g p (hs ++ v ∷ []))
  claim_stays hs v j h = subst (HasClaimed j) (sym (standing_push g p hs v)) (by (standing_of g p hs) h)
    where
      hears : (l : LocalView) (b : Bool) → has l.state.claimed j ≡ true → HasClaimed j (if b then Some (GoingOn (record l { state = record_after g p v l.state }) false) else None)
      hears l true h = stays_claimed g p v l.state j h
      hears l false h = tt

      by : (s : Option Standing) → HasClaimed j s → HasClaimed j (standing_after g p v (hs ++ v ∷ []) s)
      by None h = tt
      by (Some (Beginning word)) h = absurd h
      by (Some (GoingOn l fresh)) h = hears l (can_hear g v (want l.state)) h

  module _ (o : IsWorker g p) (hs : List ℕ) (j : ℕ) (some : 1 ≤ j) where
    -- the job in its hand was claimed, and so the job that it is to perform, and the job that it
    -- has in doubt

    held_claimed : (fresh : Bool) → IsHolding (standing_of g p hs) fresh j → HasClaimed j (standing_of g p hs)
    held_claimed fresh h =
        subst (HasClaimed j) (sym h.stands) (
        ap (λ x. has x j) ((going_sound g p hs h.machine fresh o h.stands).claims ∙ ap (λ x. h.machine.state.dones ++ jobs_in_hand x) h.phase)
        ∙ has_push h.machine.state.dones j
        )

    pub told_claimed : told_by (standing_of g p hs) ≡ j → HasClaimed j (standing_of g p hs)
    told_claimed e = held_claimed false (told_holds j some (standing_of g p hs) e)

    pub doubted_claimed : doubted_by (standing_of g p hs) ≡ j → HasClaimed j (standing_of g p hs)
    doubted_claimed e = held_claimed true (doubted_holds j some (standing_of g p hs) e)

    -- a job that was claimed is no longer to perform after the next number: a job that is about to
    -- be claimed is not known to be done
    pub told_no_more : (v : ℕ) → HasClaimed j (standing_of g p hs) → told_by (standing_of g p (hs ++ v ∷ [])) ≢ j
    told_no_more v claimed told =
        let c = was_claiming hs v j some told in
        let sound = going_sound g p hs c.machine c.fresh o c.stands in
        let only_dones : c.machine.state.claimed ≡ c.machine.state.dones
        = sound.claims ∙ ap (λ x. c.machine.state.dones ++ jobs_in_hand x) c.phase ∙ append-nil c.machine.state.dones in
        let known = sound.own j (ap (λ l. has l j) (sym only_dones) ∙ subst (HasClaimed j) c.stands claimed) in
        true≢false (sym known ∙ (subst (FitsPhase g p c.machine.state) c.phase sound.stands).1)
