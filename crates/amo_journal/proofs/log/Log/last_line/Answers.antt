-- `Log::last_line`: its promises, by the lemmas of Logs.
use Rattle.std.proofs.Common.{◌≡◌, ◌+◌, ℕ, length, ap, rules}
use Rattle.amo_journal.proofs.Logs.{last_of_records}
use Rattle.amo_journal.proofs.log.Log.last_line.Goals as goal

pub returns-in-Some-clause-some : goal.returns-in-Some-clause-some
returns-in-Some-clause-some c =
    let split = last_of_records c.args.self.now.records.items c.in-Some.records.now (search rules) in
    let long : c.len.result ≡ length c.in-Some.records.now.items = search rules in
    (split.0, c.in-Some.records.now.items, split.1, ap (λ (n : ℕ). n + 9) long)
