-- `Local::rested`: the premises of its calls and its promises, by the lemmas of Fit and Holding.
use Rattle.std.proofs.Common.{◌≡◌, ℕ, List, ap, sym, subst, ◌∙◌}
use Rattle.std.specs.Vec.{vec_capacity}
use Rattle.amo_kk.specs.Choice.{record_after_choice}
use Rattle.amo_kk.specs.Again.{set_of, record_of_dones}
use Rattle.amo_kk.specs.Lawful.{IsSoundRecord}
use Rattle.amo_kk.specs.Knowledge.{KnowledgeView, LeadsTo}
use Rattle.amo_kk.specs.Machine.{LocalView, record_of, IsTakenUp}
use Rattle.amo_params.specs.declared.givens.Givens.{Givens}
use Rattle.amo_kk.specs.declared.phase.Phase.{Phase}
use Rattle.amo_kk.specs.declared.model.Record.{Record}
use Rattle.amo_kk.proofs.Fit.{rested_fit}
use Rattle.amo_kk.proofs.Holding.{held}
use Rattle.amo_kk.proofs.local.Local.rested.Goals as goal

chosen_is : (g : Givens) (p : ℕ) (k new : KnowledgeView) (phase : Phase) (fronts claims dones : List ℕ) (a b c : ℕ) → IsTakenUp g p k fronts claims dones a b c
    → new ≡ record k { tried = new.tried } → LeadsTo k (record_after_choice g p) phase new.tried → record_of phase new fronts claims dones 0 ≡ record_after_choice g p (record_of_dones g dones)
chosen_is g p k new phase fronts claims dones a b c taken stays leads =
    let knew = ap (λ (v : KnowledgeView). v.known) taken.knows in
    let known : new.known ≡ set_of dones = ap (λ (v : KnowledgeView). v.known) stays ∙ knew in
    (λ i. record { phase = phase; known = known i; tried = new.tried; fronts = taken.fronts_are i; claimed = taken.claims_are i; dones = dones; steps = 0 })
    ∙ sym (leads (record_of_dones g dones) (sym knew) (sym (ap (λ (v : KnowledgeView). v.tried) taken.knows)))

pub of_parts-requires : goal.of_parts-requires
of_parts-requires c =
    let taken = c.requires.taken_up in
    record {
      held = held c.args.givens c.args.p _ c.choose-phase.new.self.range (vec_capacity c.args.fronts) (vec_capacity c.args.claims) (vec_capacity c.args.dones) c.args.givens.limits taken.worker
          (subst (λ r. IsSoundRecord c.args.givens c.args.p r)
          (sym (chosen_is c.args.givens c.args.p c.args.knowledge c.choose-phase.new.self c.choose-phase.result c.args.fronts.items c.args.claims.items c.args.dones.items _ _ _ taken c.choose-phase.ensures.stays c.choose-phase.ensures.choice))
          (rested_fit c.args.givens c.args.givens.limits c.args.p taken.worker c.args.dones.items taken.new))
          (ap (λ (v : KnowledgeView). v.range) c.choose-phase.ensures.stays ∙ ap (λ (v : KnowledgeView). v.range) taken.knows)
          taken.fronts_room_is taken.claims_room_is taken.dones_room_is;
    }

pub returns : goal.returns
returns c =
    c.of_parts.ensures
    ∙ ap {B = LocalView} (λ (r : Record). record { givens = c.args.givens; number = c.args.p; state = r })
    (chosen_is c.args.givens c.args.p c.args.knowledge c.choose-phase.new.self c.choose-phase.result c.args.fronts.items c.args.claims.items c.args.dones.items _ _ _ c.requires.taken_up c.choose-phase.ensures.stays c.choose-phase.ensures.choice)
