-- `Local::in_doubt`: the premises of its calls and its promises, by the lemmas of Fit and Holding.
use Rattle.std.proofs.Common.{◌≡◌, ℕ, List, [], ◌∷◌, ◌++◌, length, ap, sym, subst, ◌∙◌, arith}
use Rattle.std.proofs.lemmas.List.{length_push}
use Rattle.std.specs.Vec.{vec_capacity}
use Rattle.amo_kk.specs.Again.{record_of_dones}
use Rattle.amo_kk.specs.Lawful.{IsSoundRecord}
use Rattle.amo_kk.specs.Knowledge.{KnowledgeView}
use Rattle.amo_kk.specs.Machine.{LocalView, record_of, IsTakenUp}
use Rattle.amo_params.specs.declared.givens.Givens.{Givens}
use Rattle.amo_kk.specs.declared.phase.Phase.TheVariants.{Holding}
use Rattle.amo_kk.specs.declared.model.Record.{Record}
use Rattle.amo_kk.proofs.Fit.{doubted_fit, claims_fit}
use Rattle.amo_kk.proofs.Holding.{held}
use Rattle.amo_kk.proofs.local.Local.in_doubt.Goals as goal

pub push_reserved-requires : goal.push_reserved-requires
push_reserved-requires c =
    let taken = c.requires.taken_up in
    let few = (claims_fit c.args.givens c.args.p _ (doubted_fit c.args.givens c.args.givens.limits c.args.p taken.worker c.args.job c.args.dones.items taken.new c.requires.job c.requires.fresh)).0 in
    let more = length_push c.args.dones.items c.args.job in
    let same = ap length taken.claims_are in
    let room = taken.claims_room_is in
    omega arith

held_is : (g : Givens) (p : ℕ) (k : KnowledgeView) (fronts claims dones pushed : List ℕ) (job a b c : ℕ) → IsTakenUp g p k fronts claims dones a b c → pushed ≡ claims ++ job ∷ []
    → record_of (Holding job) k fronts pushed dones 0 ≡ record (record_of_dones g dones) { phase = Holding job; claimed = dones ++ job ∷ [] }
held_is g p k fronts claims dones pushed job a b c taken push =
    let claimed : pushed ≡ dones ++ job ∷ [] = push ∙ ap (λ l. l ++ job ∷ []) taken.claims_are in
    (λ i. record { phase = Holding job; known = ap (λ (v : KnowledgeView). v.known) taken.knows i; tried = ap (λ (v : KnowledgeView). v.tried) taken.knows i; fronts = taken.fronts_are i; claimed = claimed i; dones = dones; steps = 0 })

pub of_parts-requires : goal.of_parts-requires
of_parts-requires c =
    let taken = c.requires.taken_up in
    record {
      held = held c.args.givens c.args.p _ c.args.knowledge.range (vec_capacity c.args.fronts) (vec_capacity c.push_reserved.new.self) (vec_capacity c.args.dones) c.args.givens.limits taken.worker
          (subst (λ r. IsSoundRecord c.args.givens c.args.p r)
          (sym (held_is c.args.givens c.args.p c.args.knowledge c.args.fronts.items c.args.claims.items c.args.dones.items c.push_reserved.new.self.items c.args.job _ _ _ taken c.push_reserved.ensures.items))
          (doubted_fit c.args.givens c.args.givens.limits c.args.p taken.worker c.args.job c.args.dones.items taken.new c.requires.job c.requires.fresh))
          (ap (λ (v : KnowledgeView). v.range) taken.knows)
          taken.fronts_room_is (c.push_reserved.ensures.capacity ∙ taken.claims_room_is) taken.dones_room_is;
    }

pub returns : goal.returns
returns c =
    c.of_parts.ensures
    ∙ ap {B = LocalView} (λ (r : Record). record { givens = c.args.givens; number = c.args.p; state = r })
    (held_is c.args.givens c.args.p c.args.knowledge c.args.fronts.items c.args.claims.items c.args.dones.items c.push_reserved.new.self.items c.args.job _ _ _ c.requires.taken_up c.push_reserved.ensures.items)
