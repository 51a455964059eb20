-- `batch_after`: its promises, by the lemmas of Batches.
use Rattle.std.proofs.Common.{map, sym, subst}
use Rattle.std.specs.List.{All}
use Rattle.amo_kk.specs.Words.{word_count}
use Rattle.amo_process.specs.Heard.{standing_of}
use Rattle.amo_c.specs.Batch.{item_told, IsBelow}
use Rattle.amo_c.specs.Reply.{givens_in}
use Rattle.amo_c.specs.declared.worker.Worker.{Worker}
use Rattle.amo_c.proofs.Batches.{told_below, words_are, stands_so}
use Rattle.amo_c.proofs.exports.batch_after.Goals as goal

pub returns-clause-below : goal.returns-clause-below
returns-clause-below c =
    let w : Worker = c.in_ok-worker.worker in
    subst (λ n. All (IsBelow n) (map item_told c.in-Ok.items.items)) (sym (words_are (givens_in c.args.numbers.now) c.args.p w (sym c.in_ok-worker.ensures.worker)))
    (subst (λ l. All (IsBelow (word_count w.givens)) (map item_told l)) (sym c.in-Ok.ensures)
    (told_below w c.args.heard.now c.in_ok-standing.standing c.in_ok-worker.ensures.is
    (stands_so (standing_of w.givens w.number c.args.heard.now) c.in_ok-standing.standing c.in_ok-standing.ensures.standing)))
