-- `Worker::hear`: the premises of its calls and what its type keeps, by the lemmas of Workers and
-- Moves.
use Rattle.std.proofs.Common.{◌≡◌, ap, sym, ◌∙◌, subst, true}
use Rattle.amo_kk.specs.Step.{want, is_load, MayLoad}
use Rattle.amo_kk.specs.Words.{loaded_word}
use Rattle.amo_kk.specs.Machine.{LocalView}
use Rattle.amo_words.specs.Plays.{MayLoadBy}
use Rattle.amo_words.proofs.Workers.{machine_is, working_after}
use Rattle.amo_words.proofs.Moves.{loads}
use Rattle.amo_words.proofs.floor.Worker.hear.Goals as goal

pub load-found-requires : goal.load-found-requires
load-found-requires g c =
    let w = c.self.inside in
    let is = c.self.invariant in
    let tied = ap (λ f. f.table_id) c.self.view_is ∙ c.requires.table in
    let same = machine_is _ _ _ _ _ is c.self.view_is in
    let wants : is_load (want w.local.state) ≡ true = ap (λ (l : LocalView). is_load (want l.state)) (sym same) ∙ c.requires.wants in
    let word : c.args.word ≡ loaded_word w.local.givens (want w.local.state) = c.requires.word ∙ ap (λ (l : LocalView). loaded_word l.givens (want l.state)) same in
    (tied, c.requires.inside, loads c.args.words.now.key _ _ _ w.local is.role _ wants word)

pub invariant_of-self : goal.invariant_of-self
invariant_of-self g c =
    let w = c.self.inside in
    let is = c.self.invariant in
    let may : MayLoad w.local.givens c.load-found.result (want w.local.state) = subst (λ ro. MayLoadBy ro c.load-found.result) is.role c.load-found.ensures.2.1 in
    working_after w.seat.me.0 c.load-found.new.seat.me.0 w.seat.table_id _ w.local c.told.new.self is c.load-found.ensures.0
    c.load-found.result c.load-found.ensures.2.0 may c.told.ensures.record
