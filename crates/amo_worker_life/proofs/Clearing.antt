-- A worker that asks whether a line is clear: each log that it reads on leads it on.
use Rattle.std.proofs.Common.{◌≡◌, inl, ⊎_elim, ℕ, suc, ◌+◌, ◌-◌, ◌<◌, true, false, List, [], ◌∷◌, Option, Some, None, refl, sym, ap, subst, ◌∙◌, arith}
use Rattle.amo_params.specs.declared.limits.TheConstants.{MAX_WORKERS}
use Rattle.amo_process.specs.Stepped.{ProcessView}
use Rattle.amo_process.specs.Stepped.{access_of}
use Rattle.amo_process.specs.declared.access.Access.{Access}
use Rattle.amo_process.specs.declared.access.Access.TheVariants.{Load as LoadAccess, Store as StoreAccess, Nothing}
use Rattle.amo_driver.specs.declared.model.Try.{Try}
use Rattle.amo_driver.specs.declared.model.Try.TheVariants.{Clear}
use Rattle.amo_driver.specs.Course.{access_tried, due}
use Rattle.amo_driver.specs.Stage.{Stage, Going, Asking, Clearing, Broken as BrokenStage}
use Rattle.amo_driver.specs.Standing.{MayCall as MayTry}
use Rattle.amo_host.specs.declared.model.LogFile.{LogFile}
use Rattle.amo_host.specs.declared.model.LogFile.TheVariants.{Answers, Journal}
use Rattle.amo_host.specs.Calls.{HasRead, ReadOn, Fell}
use Rattle.amo_host.specs.Logs.{Logs, journals_from, logs_after}
use Rattle.amo_host.specs.Phase.{Identity, Phase, Works, Clears, Unclear}
use Rattle.amo_host.specs.Protocol.{reads_on, MayCall, Moves}
use Rattle.amo_worker_life.specs.declared.halt.Halt.{Halt}
use Rattle.amo_worker_life.specs.declared.halt.Health.{Health}
use Rattle.amo_worker_life.specs.declared.halt.Health.TheVariants.{Fine, Broken, Lost}
use Rattle.amo_worker_life.specs.Where.{WorksAt}
use Rattle.amo_worker_life.specs.Reading.{IsClearing, Reads, ReadsOne}

-- where something has failed nothing is due
not_broken : (st : Stage) (t : Try) → st ≡ BrokenStage → due st ≡ Some t → ⊥
not_broken st t is e = none_some (sym (ap due is) ∙ e)
  where
    none_some : None ≡ Some t → ⊥
    none_some e = cc

-- the journals that are left, the first of which is that of worker k + 1
pub journals_left : (k : ℕ) → k < MAX_WORKERS → journals_from (k + 1) (MAX_WORKERS - k) ≡ Journal (k + 1) ∷ journals_from ((k + 1) + 1) (MAX_WORKERS - (k + 1))
journals_left k lt =
    let n : MAX_WORKERS - k ≡ suc (MAX_WORKERS - (k + 1)) = omega arith in
    ap (journals_from (k + 1)) n

no_access : (x : Access) (s j : ℕ) → access_tried x ≡ Some (Clear s j) → ⊥
no_access (LoadAccess w) s j e = cc
no_access (StoreAccess w v) s j e = cc
no_access Nothing s j e = cc

-- the stage at which clearance is due
clearing_is : (st : Stage) (s j : ℕ) → due st ≡ Some (Clear s j) → (a : ProcessView) × (st ≡ Clearing s a j)
clearing_is (Clearing n a i) s j e =
    let same : n ≡ s = cc in
    let job : i ≡ j = cc in
    (a, ap (λ (x : ℕ). Clearing x a i) same ∙ ap (λ (x : ℕ). Clearing s a x) job)
clearing_is (Going n a way) s j e = absurd (no_access (access_of a.givens a.number a.standing) s j e)
clearing_is (Asking []) s j e = absurd (cc)
clearing_is (Asking (i ∷ rest)) s j e = absurd (cc)
clearing_is st s j e = absurd (cc)

-- a worker whose clearance is due asks for it
pub clearing_of : (stands : Phase → Type 0) (me : Identity) (jobs : List ℕ) (logs : Logs) (h : Health) (halt : Option Halt) (s j : ℕ) → MayTry (WorksAt stands me jobs logs h halt) (Clear s j) → IsClearing stands me jobs s j logs
clearing_of stands me jobs logs Fine halt s j may =
    let it = clearing_is may.0 s j may.2 in
    (it.0, may.1.0, subst (λ (st : Stage). stands (Works me jobs st may.1.0 logs)) it.1 may.1.1)
clearing_of stands me jobs logs Broken halt s j may = absurd (not_broken may.0 (Clear s j) may.1.0 may.2)
clearing_of stands me jobs logs Lost halt s j may = absurd (not_broken may.0 (Clear s j) may.1.0 may.2)

module _ (me : Identity) (jobs : List ℕ) (s j : ℕ) where
  module _ (before : Phase → Type 0) (first : Logs) (asks : IsClearing before me jobs s j first) where
    -- it may read the answers on
    pub may_begin : MayCall before (ReadOn Answers)
    may_begin = (Works me jobs (Clearing s asks.0 j) asks.1 first, asks.2, inl (Clear s j, refl, refl))

    -- it has read them
    pub begins : (after : Phase → Type 0) (logs : Logs) → ReadsOne true before after Answers first logs → Reads before after me jobs s j first logs (journals_from 1 MAX_WORKERS)
    begins after logs read a owes here =
        subst (λ (o : Option Logs). after (reads_on me jobs s a j o (journals_from 1 MAX_WORKERS))) read.2
        (read.1 (Works me jobs (Clearing s a j) owes first) here (inl (Clear s j, refl, refl)))

    -- or it couldn't
    pub begins_not : (after : Phase → Type 0) (logs : Logs) → ReadsOne false before after Answers first logs → after (Unclear s)
    begins_not after logs read = ⊎_elim
        (λ (fell : Moves before after (Fell (ReadOn Answers))). fell (Works me jobs (Clearing s asks.0 j) asks.1 first) asks.2 (inl (Clear s j, refl, refl)))
        (λ (unread : (texts : List (List ℕ)) × Moves before after (HasRead Answers texts) × (logs_after first Answers texts ≡ None)).
        subst (λ (o : Option Logs). after (reads_on me jobs s asks.0 j o (journals_from 1 MAX_WORKERS))) unread.2
        (unread.1 (Works me jobs (Clearing s asks.0 j) asks.1 first) asks.2 (inl (Clear s j, refl, refl))))
        read

    module _ (mid : Phase → Type 0) (logs : Logs) (f : LogFile) (left : List LogFile) (reads : Reads before mid me jobs s j first logs (f ∷ left)) where
      -- it may read on what is next
      pub may_go_on : MayCall mid (ReadOn f)
      may_go_on = (Clears me jobs s asks.0 j logs (f ∷ left), reads asks.0 asks.1 asks.2, inl refl)

      -- it has read that
      pub goes_on : (after : Phase → Type 0) (next : Logs) → ReadsOne true mid after f logs next → Reads before after me jobs s j first next left
      goes_on after next read a owes here =
          subst (λ (o : Option Logs). after (reads_on me jobs s a j o left)) read.2 (read.1 (Clears me jobs s a j logs (f ∷ left)) (reads a owes here) (inl refl))

      -- or it couldn't
      pub goes_on_not : (after : Phase → Type 0) (next : Logs) → ReadsOne false mid after f logs next → after (Unclear s)
      goes_on_not after next read = ⊎_elim
          (λ (fell : Moves mid after (Fell (ReadOn f))). fell (Clears me jobs s asks.0 j logs (f ∷ left)) (reads asks.0 asks.1 asks.2) (inl refl))
          (λ (unread : (texts : List (List ℕ)) × Moves mid after (HasRead f texts) × (logs_after logs f texts ≡ None)).
          subst (λ (o : Option Logs). after (reads_on me jobs s asks.0 j o left)) unread.2
          (unread.1 (Clears me jobs s asks.0 j logs (f ∷ left)) (reads asks.0 asks.1 asks.2) (inl refl)))
          read
