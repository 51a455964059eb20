-- `met_workers_do_each_job_once`: its promises, by the lemmas of Meetings.
use Rattle.amo_words.proofs.Meetings.{back_few}
use Rattle.amo_words.proofs.laws.met_workers_do_each_job_once.Goals as goal

pub returns : goal.returns
returns c = λ g log spots stand. back_few g log spots stand
