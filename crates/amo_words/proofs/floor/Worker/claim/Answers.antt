-- `Worker::claim`: the premises of its calls, what its type keeps and its promises, by the lemmas
-- of Holding (amo_kk), Wants (amo_kk), Workers and Moves.
use Rattle.std.proofs.Common.{◌≡◌, ◌-◌, ap, sym, ◌∙◌, set, subst, Some, slice_get}
use Rattle.amo_kk.specs.Step.{want}
use Rattle.amo_kk.specs.Words.{claim_word}
use Rattle.amo_kk.specs.declared.phase.Want.TheVariants.{StoreClaim}
use Rattle.amo_kk.proofs.Holding.{hears_zero}
use Rattle.amo_kk.proofs.Wants.{claiming_job}
use Rattle.amo_words.specs.Plays.{Takes, TakesIn, TakenBy, TurnedBy}
use Rattle.amo_words.proofs.Workers.{at_table, claim_within, fits, working_after, with_rest, get_from_at}
use Rattle.amo_words.proofs.Moves.{claims}
use Rattle.amo_words.proofs.floor.Worker.claim.Goals as goal

pub store-requires : goal.store-requires
store-requires g c =
    let w = c.self.inside in
    let is = c.self.invariant in
    let wants = fits _ _ _ _ _ is c.self.view_is (StoreClaim c.args.count c.args.j) c.requires.wants in
    let word : c.claim_word-word.result ≡ claim_word w.local.givens w.local.number = c.claim_word-word.ensures ∙ (λ i. claim_word (c.givens.ensures i) (c.number.ensures.number i)) in
    let there = at_table _ _ _ _ _ is c.self.view_is _ c.requires.table _ _ word (claim_within w.local.givens w.local.number is.worker) in
    (there.0, there.1, claims c.args.words.now.key _ _ _ w.local is.role _ c.args.count c.args.j wants.0 (λ ws. ap (λ i. set ws i c.args.count) word))

pub take_out-requires-clause-job : goal.take_out-requires-clause-job
take_out-requires-clause-job g c = (fits _ _ _ _ _ c.self.invariant c.self.view_is (StoreClaim c.args.count c.args.j) c.requires.wants).1.0.low

pub take_out-requires-clause-full : goal.take_out-requires-clause-full
take_out-requires-clause-full g c =
    let w = c.self.inside in
    let is = c.self.invariant in
    let wants = fits _ _ _ _ _ is c.self.view_is (StoreClaim c.args.count c.args.j) c.requires.wants in
    let got : Takes w.seat.me.0.payloads w.seat.me.1 c.args.j c.store.new.seat.me.1 = subst (λ ph. TakesIn w.seat.me.0.payloads w.seat.me.1 ph c.store.new.seat.me.1)
    (claiming_job w.local.state w.local.state.phase c.args.count c.args.j wants.0) (subst (λ ro. TakenBy w.seat.me.0.payloads w.seat.me.1 ro c.store.new.seat.me.1) is.role c.store.ensures.2.1) in
    (got.0, with_rest c.store.new.seat.me.1 (c.args.j - 1, Some got.0) w.seat.me.1 got.2)

pub invariant_of-self : goal.invariant_of-self
invariant_of-self g c =
    let w = c.self.inside in
    working_after w.seat.me.0 c.take_out.new.seat.me.0 w.seat.table_id _ w.local c.stored.new.self c.self.invariant (c.take_out.ensures.seat.0 ∙ c.store.ensures.0)
    0 (subst (λ v. TurnedBy w.seat.me.0 w.seat.me.0.role 0 v) (sym c.take_out.ensures.seat.2) c.store.ensures.2.0) (hears_zero w.local.givens (want w.local.state)) c.stored.ensures.record

pub returns-clause-payload : goal.returns-clause-payload
returns-clause-payload g c =
    let w = c.self.inside in
    let is = c.self.invariant in
    let wants = fits _ _ _ _ _ is c.self.view_is (StoreClaim c.args.count c.args.j) c.requires.wants in
    let got : Takes w.seat.me.0.payloads w.seat.me.1 c.args.j c.store.new.seat.me.1 = subst (λ ph. TakesIn w.seat.me.0.payloads w.seat.me.1 ph c.store.new.seat.me.1)
    (claiming_job w.local.state w.local.state.phase c.args.count c.args.j wants.0) (subst (λ ro. TakenBy w.seat.me.0.payloads w.seat.me.1 ro c.store.new.seat.me.1) is.role c.store.ensures.2.1) in
    ap (λ f. slice_get f.view.payloads (c.args.j - 1)) (sym c.self.view_is)
    ∙ get_from_at w.seat.me.0.payloads (c.args.j - 1) got.0 got.1 ∙ ap Some (c.take_out.ensures.payload w.seat.me.1 got.0 got.2)
