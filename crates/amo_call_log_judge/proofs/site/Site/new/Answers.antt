-- `Site::new`: its promises, by the lemmas of Steps.
use Rattle.amo_call_log_judge.proofs.Steps.{fresh_shows}
use Rattle.amo_call_log_judge.proofs.site.Site.new.Goals as goal

pub returns : goal.returns
returns c = fresh_shows (record { journals = c.in_ok-journals.journals; alive = c.new.result; performed = c.new-2.result }) c.in_ok-journals.ensures.many c.in_ok-journals.ensures.fresh c.new.ensures.items c.new-2.ensures.items
