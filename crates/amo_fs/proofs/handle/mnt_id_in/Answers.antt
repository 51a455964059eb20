-- `mnt_id_in`: its promises, by the lemmas of First and Lines.
use Rattle.std.proofs.Common.{ℕ, List, Bor}
use Rattle.amo_fs.specs.Handles.{mnt_id_in, IsIdIn, NoIdIn}
use Rattle.amo_fs.proofs.First.{in_ok, if_some, if_none}
use Rattle.amo_fs.proofs.Lines.{id_is, no_id_is}
use Rattle.amo_fs.proofs.handle.mnt_id_in.Goals as goal

pub returns-clause-found : goal.returns-clause-found
returns-clause-found c =
    let text = c.args.fdinfo.now in
    in_ok c.find_id.result c.find_id.ensures (λ o is. if_some (λ (id : Bor (List ℕ)). id.now) (λ id. IsIdIn text id) (mnt_id_in text) (λ id e. id_is text id e) o is)

pub returns-clause-none : goal.returns-clause-none
returns-clause-none c =
    let text = c.args.fdinfo.now in
    in_ok c.find_id.result c.find_id.ensures (λ o is. if_none (λ (id : Bor (List ℕ)). id.now) (NoIdIn text) (mnt_id_in text) (λ e. no_id_is text e) o is)
