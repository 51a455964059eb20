-- `Worker::take_back`: the premises of its calls and what its type keeps, by the lemmas of Workers
-- and Moves.
use Rattle.std.proofs.Common.{◌≡◌, ap, sym, ◌∙◌, true}
use Rattle.amo_kk.specs.Record.{can_leave}
use Rattle.amo_kk.specs.Machine.{LocalView}
use Rattle.amo_words.proofs.Workers.{at_table, next_within, machine_is, working_left}
use Rattle.amo_words.proofs.Moves.{leaves}
use Rattle.amo_words.proofs.floor.Worker.take_back.Goals as goal

pub store-requires : goal.store-requires
store-requires g c =
    let w = c.self.inside in
    let is = c.self.invariant in
    let may : can_leave w.local.state.phase ≡ true = ap (λ (l : LocalView). can_leave l.state.phase) (sym (machine_is _ _ _ _ _ is c.self.view_is)) ∙ c.requires.may in
    let word = c.next_word-word.ensures ∙ c.number.ensures.number in
    let there = at_table _ _ _ _ _ is c.self.view_is _ c.requires.table _ _ word (next_within w.local.givens w.local.number is.worker) in
    (there.0, there.1, leaves c.args.words.now.key _ _ _ w.local is.role _ may word)

pub invariant_of-self : goal.invariant_of-self
invariant_of-self g c =
    let w = c.self.inside in
    let may : can_leave w.local.state.phase ≡ true = ap (λ (l : LocalView). can_leave l.state.phase) (sym (machine_is _ _ _ _ _ c.self.invariant c.self.view_is)) ∙ c.requires.may in
    working_left w.seat.me.0 c.store.new.seat.me.0 w.seat.table_id _ w.local c.leave.new.self c.self.invariant c.store.ensures.0 c.store.ensures.2.0 may c.leave.ensures.record
