-- A request that is returned is the one that a command asks for.
use Rattle.std.proofs.Common.{◌≡◌, List, Result, Ok, Err, IfOk, sym}
use Rattle.clap.specs.Words.{Row, Text}
use Rattle.amo_run_faults.specs.declared.settings.Setting.{Setting}
use Rattle.amo_worker_args.specs.Asked.{answer_in, said_in}
use Rattle.amo_worker_args.specs.Requests.{asked_by, IsAskedFor}
use Rattle.amo_worker_args.specs.declared.args.Misuse.{Misuse}
use Rattle.amo_worker_args.specs.declared.args.Request.{Request}

pub is_asked_for : (r : Result (Setting × Request) Misuse) (name : Text) (rows : List Row) → answer_in said_in r ≡ asked_by name rows → IfOk r (λ said. IsAskedFor (said_in said))
is_asked_for (Ok said) name rows is = record { name = name; rows = rows; asks = sym is }
is_asked_for (Err misuse) name rows is = tt
