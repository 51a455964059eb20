-- A worker that begins a round: it makes the file of the round.
use Rattle.std.proofs.Common.{inl, refl}
use Rattle.amo_run_files.specs.declared.round_file.RoundFile.{RoundFile}
use Rattle.amo_host.specs.Calls.{MakeRound, RoundIsMade, Fell}
use Rattle.amo_host.specs.Logs.{Logs}
use Rattle.amo_host.specs.Phase.{Identity, KnowsAll, RoundMade, Phase, Begins, Ended}
use Rattle.amo_host.specs.Protocol.{Lives, MayCall, Moves}
use Rattle.amo_worker_life.specs.Begin.{MayMake}

module _ (before : Phase → Type 0) (me : Identity) (logs : Logs) (file : RoundFile) (may : MayMake before me logs file) where
  -- it may make it
  pub may_make : MayCall before (MakeRound file)
  may_make = (Begins me (KnowsAll may.0 may.1 logs may.2), may.3, inl (file, may.4, refl))

  -- it has made it
  pub makes : (after : Phase → Type 0) → Moves before after (RoundIsMade file) → after (Begins me (RoundMade file logs))
  makes after moves = moves (Begins me (KnowsAll may.0 may.1 logs may.2)) may.3 (inl (file, may.4, refl))

  -- or it couldn't
  pub makes_none : (after : Phase → Type 0) → Moves before after (Fell (MakeRound file)) → after Ended
  makes_none after moves = moves (Begins me (KnowsAll may.0 may.1 logs may.2)) may.3 (inl (file, may.4, refl))

  pub makes_not : (after : Phase → Type 0) → Moves before after (Fell (MakeRound file)) → Lives after
  makes_not after moves = (Ended, makes_none after moves)
