-- `Worker::read_log`: its promises, directly from definitions and clauses.
use Rattle.std.proofs.Common.{◌≡◌, ℕ, List, Vec, Global, None, map, true, refl, sym, subst}
use Rattle.std.specs.Prelude.{option_map}
use Rattle.amo_host.specs.Calls.{LogIs}
use Rattle.amo_host.specs.Logs.{logs_after}
use Rattle.amo_host.specs.Protocol.{Moves}
use Rattle.amo_worker_life.specs.declared.halt.Halt.TheVariants.{Unread}
use Rattle.amo_worker_life.specs.Reading.{logs_of, Adds}
use Rattle.amo_worker_life.proofs.worker.Worker.read_log.Goals as goal

pub returns-in-Ok-push-clause-read : goal.returns-in-Ok-push-clause-read
returns-in-Ok-push-clause-read g c =
    let added = subst (λ b. Adds b (logs_of c.args.logs.now) c.args.log (map (λ text. text.items) c.deref.result.now) (logs_of c.add.new.logs)) c.if-not-added.false c.in-Ok-add.ensures in
    let read =
    subst (λ (ts : List (Vec ℕ Global)). Adds true (logs_of c.args.logs.now) c.args.log (map (λ text. text.items) ts) (logs_of c.add.new.logs))
    c.deref.ensures.value added in
    (map (λ text. text.items) c.in-Ok.part.texts.items, c.in-Ok.part.counted, c.in-Ok.ensures.done, read, c.in-Ok-push.ensures.items)

pub returns-then-not-added-clause-halts : goal.returns-then-not-added-clause-halts
returns-then-not-added-clause-halts g c =
    let old = logs_of c.args.logs.now in
    let texts = map (λ text. text.items) c.in-Ok.part.texts.items in
    let added = subst (λ b. Adds b old c.args.log (map (λ text. text.items) c.deref.result.now) (logs_of c.add.new.logs)) c.if-not-added.true c.in-Ok-add.ensures in
    let unread : logs_after old c.args.log texts ≡ None =
    subst (λ (ts : List (Vec ℕ Global)). logs_after old c.args.log (map (λ text. text.items) ts) ≡ None) c.deref.ensures.value added in
    let moves =
    subst (λ host. Moves (g.H.Host.stands c.args.self.now.host) (g.H.Host.stands host) (LogIs c.args.log (option_map (λ file. file.now) c.args.last) texts c.in-Ok.part.counted))
    (sym c.fails-then-not-added.ensures.host) c.in-Ok.ensures.done in
    (Unread c.args.log, c.fails-then-not-added.ensures.halt, (refl, texts, c.in-Ok.part.counted, moves, unread))
