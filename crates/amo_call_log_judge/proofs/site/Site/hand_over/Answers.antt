-- `Site::hand_over`: its promises, by the lemmas of Steps.
use Rattle.std.proofs.Common.{inl, inr}
use Rattle.std.proofs.lemmas.Result.{on_ok_weaker}
use Rattle.amo_call_log_judge.proofs.Steps.{nothing_to_hand}
use Rattle.amo_call_log_judge.proofs.site.Site.hand_over.Goals as goal

pub returns-in-Away : goal.returns-in-Away
returns-in-Away c = nothing_to_hand c.args.self.now c.args.self.now c.args.worker c.journal-journal.result.now c.journal-journal.ensures (inl c.in-Away.is)

pub returns-in-Free : goal.returns-in-Free
returns-in-Free c = nothing_to_hand c.args.self.now c.args.self.now c.args.worker c.journal-journal.result.now c.journal-journal.ensures (inr c.in-Free.is)

pub returns-in-Clearing : goal.returns-in-Clearing
returns-in-Clearing c = on_ok_weaker c.release.result (λ e. e c.journal-journal.result.now c.journal-journal.ensures c.in-Clearing.is) c.release.ensures
