-- `Site::end`: its promises, by the lemmas of Steps.
use Rattle.std.proofs.Common.{◌<◌, ◌≤◌, ℕ, length, refl, subst, arith}
use Rattle.amo_call_log_judge.proofs.Steps.{ends_follows, nothing_ends, some_of}
use Rattle.amo_call_log_judge.proofs.site.Site.end.Goals as goal

pub returns-then-place-len : goal.returns-then-place-len
returns-then-place-len c =
    let le : length c.args.self.now.alive.items ≤ c.args.place = omega (arith, c.args.self.now.alive.ok.0, c.len.ensures) in
    nothing_ends c.args.self.now c.args.self.now c.args.place refl refl le refl

pub returns : goal.returns
returns c =
    ends_follows c.args.self.now (record { journals = c.args.self.now.journals; alive = c.remove-ended.new.self; performed = c.args.self.now.performed }) c.args.place refl
    (some_of c.remove-ended.result _ (c.remove-ended.ensures.variant.1 (subst (λ (n : ℕ). c.args.place < n) c.len.ensures c.if-place-len.false)) c.remove-ended.ensures.items) refl
