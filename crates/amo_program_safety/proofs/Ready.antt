-- A process that asks its runner to perform an attempt holds this attempt, and has not handed it
-- over before.
use Rattle.std.proofs.Common.{◌≡◌, inr, ⊎_elim, ◌<◌, ◌^◌, ℕ, Bool, List, [], ◌∷◌, length, Some, sym, ◌∙◌, subst}
use Rattle.amo_safety_by_journals.specs.Model.{Clearing as ModelClearing, Site, line_of}
use Rattle.amo_safety_by_journals.specs.Runs.{HasSeenAll}
use Rattle.amo_process.specs.Stepped.{ProcessView}
use Rattle.amo_process.specs.declared.access.Access.{Access}
use Rattle.amo_process.specs.declared.access.Access.TheVariants.{Load as LoadAccess, Store as StoreAccess, Nothing}
use Rattle.amo_driver.specs.declared.model.Try.{Try}
use Rattle.amo_driver.specs.declared.model.Try.TheVariants.{Load, Store, Find, Intend, Clear, Perform, Note, Ask}
use Rattle.amo_driver.specs.Course.{access_tried, due}
use Rattle.amo_driver.specs.Stage.{Stage, Going, Finding, Intending, Clearing, Performing, Noting, Leaving, Asking, Settling, Dismissed, Gone, Unanswered, Refused, Broken}
use Rattle.amo_params.specs.declared.limits.TheConstants.{MAX_WORKERS}
use Rattle.amo_host.specs.declared.model.LogFile.{LogFile}
use Rattle.amo_host.specs.Calls.{Say}
use Rattle.amo_host.specs.Logs.{Logs}
use Rattle.amo_host.specs.Phase.{Identity, Start, Unborn, Guards, Checked, Knows as KnowsRound, HasRecovered, Settled, Join, Locked, Booted, HasHeader, HasJobs, Seated, Begin, LockedAlone, BootedAlone, HasLast, KnowsJobs, ListHasGrown, KnowsAll, RoundMade, RegistersMade, Purpose, Phase, Starts, Asks, Idle, Begins, Joins, Reads, Works, Clears, Unclear, Over, Stays, Ended}
use Rattle.amo_host.specs.Beginning.{MayDo}
use Rattle.amo_host.specs.Joining.{MayJoin}
use Rattle.amo_host.specs.Reading.{MayRead}
use Rattle.amo_host.specs.Starting.{MayStart}
use Rattle.amo_host.specs.Protocol.{line_at, CarriesOut, CarriesOutBefore, MayTryRound, MayClear, Allows}
use Rattle.amo_runner_protocol.specs.Sayings.{perform_text}
use Rattle.amo_runner_protocol.proofs.SayingTexts.{words_differ, over_differs}
use Rattle.amo_program_safety.specs.World.{Process, World}
use Rattle.amo_program_safety.specs.Runs.{IsFirst}
use Rattle.amo_program_safety.proofs.Standing.{IsOpened, Knows, Owns, Gave, WorksAt, At}
use Rattle.amo_program_safety.proofs.Steps.{knows_more}
use Rattle.amo_program_safety.proofs.Said.{same_serial, same_line}

pub say_is : (a b : List ℕ) → Say a ≡ Say b → a ≡ b
say_is a b e = cc

some_is : {A : Type 0} {a b : A} → Some a ≡ Some b → a ≡ b
some_is e = cc

-- ---- phases in which a process hands no attempt over

pub starts_quietly : (worker : ℕ) (start : Start) (x : List ℕ) → MayStart worker start (Say x) → ⊥
starts_quietly worker Unborn x e = cc
starts_quietly worker Guards x e = cc
starts_quietly worker Checked x e = cc
starts_quietly worker (KnowsRound last) x e = cc
starts_quietly worker (HasRecovered last texts) x e = cc
starts_quietly worker (Settled last texts) x e = cc

pub tries_quietly : (x : List ℕ) → MayTryRound (Say x) → ⊥
tries_quietly x h = let e = h.1 in cc

pub begins_quietly : (me : Identity) (begin : Begin) (x : List ℕ) → MayDo me begin (Say x) → ⊥
begins_quietly me (LockedAlone prior) x e = cc
begins_quietly me (BootedAlone prior boot) x e = cc
begins_quietly me (HasLast prior boot last) x e = cc
begins_quietly me (KnowsJobs prior boot last) x e = cc
begins_quietly me (ListHasGrown boot last logs counts) x e = cc
begins_quietly me (KnowsAll boot last logs counts) x h = ⊎_elim (λ made. let e = made.2 in cc) (λ e. cc e) h
begins_quietly me (RoundMade file logs) x h = let e = h.2 in cc
begins_quietly me (RegistersMade logs) x e = cc

pub joins_quietly : (join : Join) (x : List ℕ) → MayJoin join (Say x) → ⊥
joins_quietly (Locked prior) x e = cc
joins_quietly (Booted prior boot) x e = cc
joins_quietly (HasHeader prior file) x h = ⊎_elim (λ e. cc e) (λ e. cc e) h
joins_quietly (HasJobs prior file) x h = let e = h.1 in cc
joins_quietly (Seated prior file givens seat) x e = cc

pub reads_quietly : (purpose : Purpose) (left : List LogFile) (x : List ℕ) → MayRead purpose left (Say x) → ⊥
reads_quietly purpose [] x h = h
reads_quietly purpose (f ∷ left) x h = let e = h.1 in cc

pub clears_quietly : (s : ℕ) (left : List LogFile) (x : List ℕ) → MayClear s left (Say x) → ⊥
clears_quietly s [] x h = h
clears_quietly s (f ∷ left) x h = ⊎_elim (λ e. cc e) (λ e. cc e) h

pub asks_otherwise : (me : Identity) (t : Try) (s line : ℕ) (text : List ℕ) → CarriesOutBefore me t (Say (perform_text s line text)) → ⊥
asks_otherwise me (Note n c) s line text h = let e = h.1 in absurd (cc e)
asks_otherwise me (Ask n l) s line text h = words_differ s line n l text h.0 (say_is _ _ h.2)
asks_otherwise me _ s line text h = h

-- ---- the stage at which a process performs

no_access : (x : Access) (s j : ℕ) → access_tried x ≡ Some (Perform s j) → ⊥
no_access (LoadAccess w) s j e = cc
no_access (StoreAccess w n) s j e = cc
no_access Nothing s j e = cc

performs_at : (st : Stage) (s j : ℕ) → due st ≡ Some (Perform s j) → (a : ProcessView) × (Performing s a j ≡ st)
performs_at (Going s1 a way) s j e = absurd (no_access _ s j e)
performs_at (Finding s1 a j1) s j e = absurd (cc e)
performs_at (Intending s1 a j1) s j e = absurd (cc e)
performs_at (Clearing s1 a j1) s j e = absurd (cc e)
performs_at (Performing s1 a j1) s j e = (a, same s1 s j1 j a (some_is e))
  where
    same : (b c d f : ℕ) (x : ProcessView) → Perform b d ≡ Perform c f → Performing c x f ≡ Performing b x d
    same b c d f x is = cc
performs_at (Noting s1 a c way) s j e = absurd (cc e)
performs_at (Leaving a) s j e = absurd (cc e)
performs_at (Asking []) s j e = absurd (cc e)
performs_at (Asking (i ∷ is)) s j e = absurd (cc e)
performs_at (Settling s1 c way is) s j e = absurd (cc e)
performs_at (Dismissed is) s j e = absurd (cc e)
performs_at Gone s j e = absurd (cc e)
performs_at (Unanswered s1 reply) s j e = absurd (cc e)
performs_at (Refused word value) s j e = absurd (cc e)
performs_at Broken s j e = absurd (cc e)

-- The process may hand the attempt over. The facts of its phase still hold after that.
pub record Ready (w : World) (v : Site) (pid : ℕ) (p : Process) (ph : Phase) (s line : ℕ) : Type 0 where
  pub seen : List ℕ
  pub owns : Owns w pid p
  pub stage : v.stage p.worker ≡ ModelClearing s line seen
  pub all : HasSeenAll MAX_WORKERS seen
  pub serial : s ≡ length (v.kept p.worker)
  pub kept : line_of (v.kept p.worker) s ≡ Some line
  pub fits : s < 2 ^ 64
  pub after : (w' : World) (v' : Site) → ((q n : ℕ) → IsOpened v q n → IsOpened v' q n) → Gave w' v' pid p s → At w' v' pid p ph

module _ (w : World) (v : Site) (pid : ℕ) (p : Process) (s line : ℕ) (text : List ℕ) (first : IsFirst w p.worker s) where
  ready_at : (me : Identity) (jobs : List ℕ) (a : ProcessView) (j s1 line1 : ℕ) (text1 : List ℕ) (owes : Bool) (logs : Logs) → me.worker ≡ p.worker → Knows v p.read logs
      → line_at jobs j ≡ Some line1 → perform_text s line text ≡ perform_text s1 line1 text1 → WorksAt w v pid p jobs (Performing s1 a j) → Ready w v pid p (Works me jobs (Performing s1 a j) owes logs) s line
  ready_at me jobs a j s1 line1 text1 owes logs worker_is knows job e here = ⊎_elim
      (λ has.
      let h = has.2 in
      let ready : Ready w v pid p (Works me jobs (Performing s1 a j) owes logs) s1 has.0 = record {
        seen = has.1;
        owns = h.owns;
        stage = h.stage;
        all = has.3;
        serial = h.serial;
        kept = h.kept;
        fits = h.fits.0;
        after = λ w' v' more gave. (worker_is, knows_more v v' p.read logs more knows, inr gave);
      } in
      let line_is : has.0 ≡ line1 = some_is (sym h.job ∙ job) in
      let same : line ≡ line1 = same_line s line s1 line1 text text1 h.fits.0 (subst (λ k. k < 2 ^ 64) line_is h.fits.1) e in
      subst (λ k. Ready w v pid p (Works me jobs (Performing s1 a j) owes logs) k line) (sym (same_serial s line s1 line1 text text1 h.fits.0 e).0)
      (subst (λ k. Ready w v pid p (Works me jobs (Performing s1 a j) owes logs) s1 k) (line_is ∙ sym same) ready))
      (λ gave. absurd (first gave.given.0 gave.given.1 (gave.given.2.0, gave.given.2.1 ∙ sym (same_serial s line s1 line1 text text1 gave.fits e).0)))
      here

  works_ready : (me : Identity) (jobs : List ℕ) (st : Stage) (owes : Bool) (logs : Logs) → At w v pid p (Works me jobs st owes logs) → (t : Try) → due st ≡ Some t
      → CarriesOut me jobs t (Say (perform_text s line text)) → Ready w v pid p (Works me jobs st owes logs) s line
  works_ready me jobs st owes logs at (Load n) is e = absurd (cc e)
  works_ready me jobs st owes logs at (Store n x) is e = absurd (cc e)
  works_ready me jobs st owes logs at (Find j) is e = absurd (cc e)
  works_ready me jobs st owes logs at (Intend s1 j) is h = let e = h.3 in absurd (cc e)
  works_ready me jobs st owes logs at (Clear s1 j) is e = absurd (cc e)
  works_ready me jobs st owes logs at (Perform s1 j) is h =
      let here = performs_at st s1 j is in
      subst (λ (x : Stage). WorksAt w v pid p jobs x → Ready w v pid p (Works me jobs x owes logs) s line) here.1
      (ready_at me jobs here.0 j s1 h.0 h.1 owes logs at.0 at.1 h.2 (say_is _ _ h.4)) at.2
  works_ready me jobs st owes logs at (Note s1 c) is h = let e = h.1 in absurd (cc e)
  works_ready me jobs st owes logs at (Ask s1 l) is h = absurd h

  pub is_ready : (ph : Phase) → At w v pid p ph → Allows ph (Say (perform_text s line text)) → Ready w v pid p ph s line
  is_ready (Starts k start) at may = absurd (starts_quietly k start _ may)
  is_ready (Asks me st) at may = ⊎_elim (λ asks. absurd (asks_otherwise me asks.0 s line text asks.2)) (λ tries. absurd (tries_quietly _ tries.1)) may
  is_ready (Idle me logs) at may = absurd (tries_quietly _ may)
  is_ready (Begins me begin) at may = absurd (begins_quietly me begin _ may)
  is_ready (Joins me join) at may = absurd (joins_quietly join _ may)
  is_ready (Reads me purpose logs counts left) at may = absurd (reads_quietly purpose left _ may)
  is_ready (Works me jobs st owes logs) at may = ⊎_elim
      (λ does. works_ready me jobs st owes logs at does.0 does.1 does.2)
      (λ none. ⊎_elim (λ pays. absurd (cc pays)) (λ unlocks. let e = unlocks.1 in absurd (cc e)) none.1)
      may
  is_ready (Clears me jobs n a j logs left) at may = absurd (clears_quietly n left _ may)
  is_ready (Unclear n) at may = absurd (cc may)
  is_ready (Over me logs) at may = absurd ((over_differs s line text).0 (say_is _ _ may))
  is_ready (Stays me logs) at may = absurd (cc may)
  is_ready Ended at may = absurd may
