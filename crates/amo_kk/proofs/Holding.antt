-- A machine whose record fits is held.
use Rattle.std.proofs.Common.{◌≡◌, ℕ, zero, suc, true, List, set, ◌≤◌, ◌+◌, ◌-◌, ◌^◌, min, length, get_or, subst, ap, sym, refl, ◌∙◌, arith, ◌<◌, ◌++◌, ◌∷◌, []}
use Rattle.std.proofs.lemmas.List.{length_push, get_or_default}
use Rattle.std.proofs.lemmas.Bool.{ne_eqb}
use Rattle.std.specs.Prelude.{if◌then◌else◌}
use Rattle.amo_sets.specs.Lists.{numbered, put}
use Rattle.amo_sets.specs.Sets.{with_number}
use Rattle.amo_params.specs.Givens.{AreGivens, IsWorker, next_other}
use Rattle.amo_kk.specs.Step.{want, record_at_row, record_after_phase, record_after, MayLoad}
use Rattle.amo_kk.specs.Lawful.{IsSoundRecord}
use Rattle.amo_kk.specs.declared.phase.Phase.TheVariants.{Claiming, Reading, Left}
use Rattle.amo_kk.specs.declared.phase.Phase.{Phase}
use Rattle.amo_kk.specs.declared.phase.Want.{Want}
use Rattle.amo_kk.specs.declared.phase.Want.TheVariants.{LoadNext, LoadDone}
use Rattle.amo_params.specs.declared.givens.Givens.{Givens}
use Rattle.amo_kk.specs.declared.model.Record.{Record}
use Rattle.amo_kk.proofs.Bits.{numbered_before}
use Rattle.amo_kk.proofs.Fit.{claims_fit, after_fit, left_fit}
use Rattle.amo_kk.proofs.Worlds.{leaves_empty}
use Rattle.amo_kk.specs.Record.{can_leave}
use Rattle.amo_kk.specs.Machine.{IsHeld}

pub held : (g : Givens) (p : ℕ) (r : Record) (range fronts claims dones : ℕ) → AreGivens g → IsWorker g p → IsSoundRecord g p r → range ≡ g.jobs → fronts ≡ g.workers → claims ≡ g.jobs → dones ≡ g.jobs → IsHeld g p r range fronts claims dones
held g p r range fronts claims dones ok o fit k f c d =
    let few = claims_fit g p r fit in
    record { givens = ok; worker = o; fit = fit; claims_few = few.0; dones_few = few.1; front_few = λ i. fit.front (suc i); range_is = k; fronts_room_is = f; claims_room_is = c; dones_room_is = d }

-- after a step
pub held_after : (g : Givens) (p v : ℕ) (r x : Record) (range fronts claims dones range' fronts' claims' dones' : ℕ) → IsHeld g p r range fronts claims dones → MayLoad g v (want r) → record_after g p v r ≡ x
    → range' ≡ range → fronts' ≡ fronts → claims' ≡ claims → dones' ≡ dones → IsHeld g p x range' fronts' claims' dones'
held_after g p v r x range fronts claims dones range' fronts' claims' dones' h heard is k f c d =
    held g p x range' fronts' claims' dones' h.givens h.worker (subst (λ y. IsSoundRecord g p y) is (after_fit g h.givens p h.worker r v h.fit heard))
    (k ∙ h.range_is) (f ∙ h.fronts_room_is) (c ∙ h.claims_room_is) (d ∙ h.dones_room_is)

pub after_by : (g : Givens) (p v : ℕ) (r y : Record) (phase : Phase) (n : ℕ) → r.phase ≡ phase → record_after_phase g p v r phase ≡ y → n ≡ min (r.steps + 1) (2 ^ 64 - 1) → record_after g p v r ≡ record y { steps = n }
after_by g p v r y phase n is to steps = ap (λ x. record (record_after_phase g p v r x) { steps = min (r.steps + 1) (2 ^ 64 - 1) }) is ∙ (λ i. record (to i) { steps = sym steps i })

pub hears_zero : (g : Givens) (w : Want) → MayLoad g 0 w
hears_zero g (LoadNext q) = omega arith
hears_zero g (LoadDone q k) = (omega arith, λ _. refl)
hears_zero g want = tt

-- after leaving
pub held_left : (g : Givens) (p : ℕ) (r : Record) (n range fronts claims dones : ℕ) → IsHeld g p r range fronts claims dones → can_leave r.phase ≡ true → n ≡ min (r.steps + 1) (2 ^ 64 - 1)
    → IsHeld g p (record r { phase = Left; steps = n }) range fronts claims dones
held_left g p r n range fronts claims dones h may steps =
    held g p (record r { phase = Left; steps = n }) range fronts claims dones h.givens h.worker
    (subst (λ x. IsSoundRecord g p (record r { phase = Left; steps = x })) (sym steps) (left_fit g h.givens p h.worker r (leaves_empty r.phase may) h.fit))
    h.range_is h.fronts_room_is h.claims_room_is h.dones_room_is

-- before a claim there is room for it
pub claim_room : (g : Givens) (p : ℕ) (r : Record) (j : ℕ) → AreGivens g → IsWorker g p → IsSoundRecord g p r → r.phase ≡ Claiming j → length r.claimed < g.jobs
claim_room g p r j ok o fit is =
    let next : IsSoundRecord g p (record_after g p 0 r) = after_fit g ok p o r 0 fit (hears_zero g (want r)) in
    let few = (claims_fit g p (record_after g p 0 r) next).0 in
    let same : (record_after g p 0 r).claimed ≡ r.claimed ++ j ∷ [] = ap (λ x. (record_after_phase g p 0 r x).claimed) is in
    let more = ap length same ∙ length_push r.claimed j in
    omega arith

pub put_before : {X : Type 0} (xs : List X) (q : ℕ) (x : X) → 1 ≤ q → put xs q x ≡ set xs (q - 1) x
put_before xs zero x l = absurd (omega arith)
put_before xs (suc k) x l = let e : k ≡ suc k - 1 = omega arith in ap (λ i. set xs i x) e

-- one entry more of the row of q
pub entry_moves : (g : Givens) (p v j q w : ℕ) (r : Record) (known fronts : List ℕ) → 1 ≤ v → 1 ≤ q → q ≤ length r.fronts → w ≡ get_or r.fronts (q - 1) w
    → known ≡ with_number v r.known → fronts ≡ set r.fronts (q - 1) (w + 1)
    → record_after_phase g p v r (Reading j q) ≡ record r { known = known; fronts = fronts }
entry_moves g p v j q w r known fronts some low high read k f =
    ap (λ b. if b then record_at_row g p j (next_other p q) r else record r { known = with_number v r.known; fronts = put r.fronts q (numbered 0 r.fronts q + 1) }) (ne_eqb v 0 (λ e. omega arith))
    ∙ (λ i. record r { known = sym k i; fronts = places i })
  where
    front : numbered 0 r.fronts q ≡ w
    front = numbered_before 0 r.fronts q low ∙ get_or_default r.fronts (q - 1) 0 w (omega arith) ∙ sym read

    places : put r.fronts q (numbered 0 r.fronts q + 1) ≡ fronts
    places = ap (λ x. put r.fronts q (x + 1)) front ∙ put_before r.fronts q (w + 1) low ∙ sym f
