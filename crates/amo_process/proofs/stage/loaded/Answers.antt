-- `loaded`: its promises, by the lemmas of Hearing and Stepped.
use Rattle.std.proofs.Common.{ℕ, ◌≤◌, ◌<◌, true, List, length, get_or, drop, Some, ap, sym, subst, ◌∙◌}
use Rattle.amo_kk.specs.Again.{are_own_words, record_again}
use Rattle.amo_kk.specs.Machine.{LocalView}
use Rattle.amo_process.specs.declared.standing.Standing.TheVariants.{Going}
use Rattle.amo_process.proofs.Hearing.{with_record}
use Rattle.amo_process.proofs.Stepped.{row_from, loads_on, loads_no_more, begun_by, loaded_all}
use Rattle.amo_process.proofs.stage.loaded.Goals as goal

pub returns-then-row-givens-clause-stands : goal.returns-then-row-givens-clause-stands
returns-then-row-givens-clause-stands c =
    sym (loads_no_more c.args.givens c.args.p c.args.own.now c.args.v c.requires.loading c.in-len2-up.len_at_least c.if-v-ne0.true
    (subst (λ l. c.args.givens.jobs ≤ length l) (row_from c.args.own.now) c.if-row-givens.true))

pub returns-then-v-ne0-clause-fits : goal.returns-then-v-ne0-clause-fits
returns-then-v-ne0-clause-fits c = (
  c.requires.new,
  loads_on c.args.givens c.args.own.now c.args.v c.requires.loading c.in-len2-up.len_at_least c.if-v-ne0.true
      (subst (λ l. length l < c.args.givens.jobs) (row_from c.args.own.now) c.if-row-givens.false),
)

pub returns-in-Ok-clause-stands : goal.returns-in-Ok-clause-stands
returns-in-Ok-clause-stands c =
    let own : List ℕ = c.args.own.now in
    let machine = c.in-Ok.ensures.machine ∙ (λ i. let l : LocalView = c.requires.new i in with_record l.givens l.number (record_again l.givens l.number (get_or own 0 0) (get_or own 1 0) (row_from own i))) in
    let words = sym (λ i. are_own_words (c.requires.new i).givens (get_or own 0 0) (get_or own 1 0) (row_from own i)) ∙ c.in-Ok.ensures.words in
    (λ i. Some (Going (machine i) true))
    ∙ sym (loaded_all c.args.givens c.args.p own c.args.v c.requires.loading c.in-len2-up.len_at_least c.if-v-ne0.false
    ∙ ap (begun_by c.args.givens c.args.p (get_or own 0 0) (get_or own 1 0) (drop 2 own)) words)

pub returns-in-Err-clause-stands : goal.returns-in-Err-clause-stands
returns-in-Err-clause-stands c =
    let own : List ℕ = c.args.own.now in
    let words = sym (λ i. are_own_words (c.requires.new i).givens (get_or own 0 0) (get_or own 1 0) (row_from own i)) ∙ c.in-Err.ensures.refused in
    sym (loaded_all c.args.givens c.args.p own c.args.v c.requires.loading c.in-len2-up.len_at_least c.if-v-ne0.false
    ∙ ap (begun_by c.args.givens c.args.p (get_or own 0 0) (get_or own 1 0) (drop 2 own)) words)
