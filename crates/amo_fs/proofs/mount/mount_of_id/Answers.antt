-- `mount_of_id`: its promises, by the lemmas of First and Lines.
use Rattle.amo_fs.specs.Mounts.{seen, mount_of_id, IsMountOf, NoMountOf}
use Rattle.amo_fs.proofs.First.{in_ok, if_some, if_none}
use Rattle.amo_fs.proofs.Lines.{mount_is, no_mount_is}
use Rattle.amo_fs.proofs.mount.mount_of_id.Goals as goal

pub returns-clause-found : goal.returns-clause-found
returns-clause-found c =
    let text = c.args.mountinfo.now in
    let id = c.args.id.now in
    in_ok c.find_mount.result c.find_mount.ensures (λ o is. if_some seen (λ m. IsMountOf text id m) (mount_of_id text id) (λ m e. mount_is text id m e) o is)

pub returns-clause-none : goal.returns-clause-none
returns-clause-none c =
    let text = c.args.mountinfo.now in
    let id = c.args.id.now in
    in_ok c.find_mount.result c.find_mount.ensures (λ o is. if_none seen (NoMountOf text id) (mount_of_id text id) (λ e. no_mount_is text id e) o is)
