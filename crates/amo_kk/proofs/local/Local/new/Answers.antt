-- `Local::new`: the premises of its calls and its promises, by the lemmas of Bits.
use Rattle.std.proofs.Common.{[], ap, sym, ◌∙◌}
use Rattle.amo_kk.specs.Again.{set_of, are_new, record_of_dones}
use Rattle.amo_kk.specs.Choice.{record_after_choice}
use Rattle.amo_kk.specs.Knowledge.{KnowledgeView}
use Rattle.amo_kk.specs.Machine.{LocalView}
use Rattle.amo_kk.proofs.Bits.{replicate_table}
use Rattle.amo_kk.proofs.local.Local.new.Goals as goal

pub rested-requires : goal.rested-requires
rested-requires c =
    let none = c.in_ok-dones.ensures.items in
    record {
      taken_up = record {
        worker = c.requires.worker;
        new = ap (λ l. are_new c.args.givens [] l) none;
        knows = c.in_ok-knowledge.ensures ∙ ap {B = KnowledgeView} (λ l. record { range = c.args.givens.jobs; known = set_of l; tried = [] }) (sym none);
        claims_are = c.in_ok-claims.ensures.items ∙ sym none;
        fronts_are = c.in_ok-fronts.ensures.items ∙ replicate_table 0 c.args.givens.workers;
        fronts_room_is = c.in_ok-fronts.ensures.room;
        claims_room_is = c.in_ok-claims.ensures.exact;
        dones_room_is = c.in_ok-dones.ensures.exact;
      };
    }

pub returns : goal.returns
returns c =
    c.rested.ensures
    ∙ ap {B = LocalView} (λ l. record { givens = c.args.givens; number = c.args.p; state = record_after_choice c.args.givens c.args.p (record_of_dones c.args.givens l) }) c.in_ok-dones.ensures.items
