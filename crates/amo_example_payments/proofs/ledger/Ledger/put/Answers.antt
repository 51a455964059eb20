-- `Ledger::put`: what its type keeps, by the lemmas of AttemptLemmas (amo_run_log) and Ledgers.
use mathlib.Core.Logic.{∥∥₁_map}
use Rattle.amo_run_log.proofs.AttemptLemmas.{is_noted}
use Rattle.amo_example_payments.proofs.Ledgers.{known_more}
use Rattle.amo_example_payments.proofs.ledger.Ledger.put.Goals as goal

-- the journal that was known, and the entry that was noted, are what the file is now
pub invariant_of-self-in-Ok-append_entries-clause-known : goal.invariant_of-self-in-Ok-append_entries-clause-known
invariant_of-self-in-Ok-append_entries-clause-known g c _ =
    ∥∥₁_map (c.args.self.now.known c.if-self.false)
    (known_more c.args.self.now.lines (g.D.Device.seen c.args.self.now.journal.device) (g.D.Device.seen c.append_entries.new.journal.device) c.args.self.now.attempts.items c.note.new.attempts.items c.args.entry
    c.in-Ok-append_entries.ensures.acknowledged (is_noted c.args.self.now.lines c.in-Ok.may_follow _ _ _ c.if-not-may_follow.false c.in-Ok.ensures.noted))

-- so is the set of the payments whose intents stand
pub invariant_of-self-in-Ok-append_entries-clause-intended : goal.invariant_of-self-in-Ok-append_entries-clause-intended
invariant_of-self-in-Ok-append_entries-clause-intended g c _ =
    ∥∥₁_map (c.args.self.now.intended c.if-self.false)
    (λ before. c.follow.ensures c.if-not-follow.false c.args.self.now.lines c.args.self.now.attempts.items c.note.new.attempts.items
    (is_noted c.args.self.now.lines c.in-Ok.may_follow _ _ _ c.if-not-may_follow.false c.in-Ok.ensures.noted) before)
