-- `Site::perform`: its promises, by the lemmas of Steps.
use Rattle.std.proofs.Common.{refl}
use Rattle.amo_call_log_judge.proofs.Steps.{performs_follows}
use Rattle.amo_call_log_judge.proofs.site.Site.perform.Goals as goal

pub returns : goal.returns
returns c =
    performs_follows c.args.self.now (record { journals = c.args.self.now.journals; alive = c.args.self.now.alive; performed = c.push_front.new.self }) c.args.handing refl refl c.in_ok-push_front.ensures.items
