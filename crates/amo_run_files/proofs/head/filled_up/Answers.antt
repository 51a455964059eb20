-- `filled_up`: its promises, by the lemmas of Heads.
use Rattle.std.proofs.Common.{arith, vec_len}
use Rattle.amo_run_files.proofs.Heads.{filled}
use Rattle.amo_run_files.proofs.head.filled_up.Goals as goal

pub returns-clause-exact : goal.returns-clause-exact
returns-clause-exact c =
    filled c.args.text.items c.resize.new.self.items c.push.new.self.items (vec_len c.args.text) (omega (arith, c.args.text.ok.0)) (omega (arith, c.len.ensures, c.if-len-ge-HEAD_LEN.false))
    c.in_ok-resize.ensures.items c.in_ok-push.ensures.items
