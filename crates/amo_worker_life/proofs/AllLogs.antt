-- A worker that reads all logs: each log that it reads leads it on.
use Rattle.std.proofs.Common.{◌≡◌, List, [], ◌∷◌, ◌++◌, Option, Some, sym, ap, subst}
use Rattle.amo_params.specs.declared.limits.TheConstants.{MAX_WORKERS}
use Rattle.amo_run_files.specs.declared.extent.Extent.{Extent}
use Rattle.amo_run_files.specs.declared.round_file.RoundFile.{RoundFile}
use Rattle.amo_host.specs.declared.model.LogFile.{LogFile}
use Rattle.amo_host.specs.declared.model.LogFile.TheVariants.{Answers}
use Rattle.amo_host.specs.Calls.{ReadLog}
use Rattle.amo_host.specs.Logs.{Logs, all_logs, journals_from}
use Rattle.amo_host.specs.Phase.{Identity, Phase, Purpose, Reads as ReadsFor}
use Rattle.amo_host.specs.Protocol.{Lives, MayCall}
use Rattle.amo_host.specs.Reading.{last_for, reads_more, MayReadFor}
use Rattle.amo_worker_life.specs.declared.halt.Halt.{Halt}
use Rattle.amo_worker_life.specs.declared.halt.Halt.TheVariants as H
use Rattle.amo_worker_life.specs.Halting.{HaltsBy, IsWhyUnread}
use Rattle.amo_worker_life.specs.Reading.{MayReadAll, ReadsLog, ReadsTo}

module _ (me : Identity) (last : Option RoundFile) where
  step : (mid after : Phase → Type 0) (logs next : Logs) (counts more : List Extent) (f : LogFile) (left : List LogFile) (purpose : Purpose)
      → MayReadFor purpose → last_for purpose ≡ last → ReadsLog mid after last f logs next counts more
      → mid (ReadsFor me purpose logs counts (f ∷ left)) → after (reads_more me purpose (Some next) more left)
  step mid after logs next counts more f left purpose may is read here =
      subst (λ (cs : List Extent). after (reads_more me purpose (Some next) cs left)) (sym read.4)
      (subst (λ (o : Option Logs). after (reads_more me purpose o (counts ++ read.1 ∷ []) left)) read.3
      (read.2 (ReadsFor me purpose logs counts (f ∷ left)) here (may, ap (ReadLog f) (sym is))))

  module _ (before : Phase → Type 0) (first : Logs) (may : MayReadAll before me last first) where
    -- it may read the answers
    pub may_begin : MayCall before (ReadLog Answers last)
    may_begin = (ReadsFor me may.0 first [] all_logs, may.3, (may.1, ap (ReadLog Answers) (sym may.2)))

    -- it has read them
    pub begins : (after : Phase → Type 0) (logs : Logs) (none more : List Extent) → none ≡ [] → ReadsLog before after last Answers first logs none more
        → ReadsTo before after me last first logs more (journals_from 1 MAX_WORKERS)
    begins after logs none more is read purpose for_it of here =
        step before after first logs [] more Answers (journals_from 1 MAX_WORKERS) purpose for_it of
        (subst (λ (cs : List Extent). ReadsLog before after last Answers first logs cs more) is read) here

    module _ (mid : Phase → Type 0) (logs : Logs) (counts : List Extent) (f : LogFile) (left : List LogFile) (reads : ReadsTo before mid me last first logs counts (f ∷ left)) where
      -- it may read what is next
      pub may_go_on : MayCall mid (ReadLog f last)
      may_go_on = (ReadsFor me may.0 logs counts (f ∷ left), reads may.0 may.1 may.2 may.3, (may.1, ap (ReadLog f) (sym may.2)))

      -- it has read that
      pub goes_on : (after : Phase → Type 0) (next : Logs) (more : List Extent) → ReadsLog mid after last f logs next counts more → ReadsTo before after me last first next more left
      goes_on after next more read purpose for_it of here = step mid after logs next counts more f left purpose for_it of read (reads purpose for_it of here)

      -- or it couldn't
      pub goes_no_further : (after : Phase → Type 0) (who : Identity) (read : Option Logs) (why : Halt) → IsWhyUnread why mid after last f logs → Lives after → HaltsBy after who read why
      goes_no_further after who read H.Memory is lives = lives
      goes_no_further after who read H.Host is lives = is (ReadsFor me may.0 logs counts (f ∷ left)) (reads may.0 may.1 may.2 may.3) (may.1, ap (ReadLog f) (sym may.2))
      goes_no_further after who read (H.Unread log) is lives =
          subst (λ (o : Option Logs). after (reads_more me may.0 o (counts ++ is.2 ∷ []) left)) is.4
          (is.3 (ReadsFor me may.0 logs counts (f ∷ left)) (reads may.0 may.1 may.2 may.3) (may.1, ap (ReadLog f) (sym may.2)))
      goes_no_further after who read H.NoLine is lives = absurd is
      goes_no_further after who read (H.Held lock) is lives = absurd is
      goes_no_further after who read (H.Entry n) is lives = absurd is
      goes_no_further after who read (H.Changed n) is lives = absurd is
      goes_no_further after who read (H.List n fault) is lives = absurd is
      goes_no_further after who read (H.Misplaced n) is lives = absurd is
      goes_no_further after who read H.OtherRound is lives = absurd is
      goes_no_further after who read H.BadRound is lives = absurd is
