-- The wish of a sound record fits, and the phase follows from the wanted load or store.
use Rattle.std.proofs.Common.{◌≡◌, ℕ, ◌+◌, ◌++◌, Bool, true, false, List, length, arith, refl, sym, ap, ◌∙◌}
use Rattle.std.proofs.lemmas.Bool.{true≢false}
use Rattle.std.proofs.lemmas.List.{length_push}
use Rattle.amo_params.specs.Givens.{AreGivens, IsWorker}
use Rattle.amo_kk.specs.Fits.{WantFits}
use Rattle.amo_kk.specs.Lawful.{FitsPhase, IsSoundRecord}
use Rattle.amo_kk.specs.Alone.{is_claiming}
use Rattle.amo_kk.specs.Record.{wants_nothing, can_leave, jobs_in_hand}
use Rattle.amo_kk.specs.Step.{want, want_in, is_load, is_store}
use Rattle.amo_kk.specs.Words.{words_after}
use Rattle.amo_params.specs.declared.givens.Givens.{Givens}
use Rattle.amo_kk.specs.declared.phase.Phase.{Phase}
use Rattle.amo_kk.specs.declared.phase.Phase.TheVariants.{Announcing, Trying, Reading, Claiming, Holding, Over, Left}
use Rattle.amo_kk.specs.declared.phase.Want.{Want}
use Rattle.amo_kk.specs.declared.phase.Want.TheVariants.{LoadNext, LoadDone, StoreClaim, Nothing}
use Rattle.amo_kk.specs.declared.model.Record.{Record}
use Rattle.amo_kk.proofs.Fit.{claims_fit}
use Rattle.amo_kk.proofs.Holding.{claim_room}

pub want_fits : (g : Givens) (p : ℕ) (r : Record) → AreGivens g → IsWorker g p → IsSoundRecord g p r → WantFits g p (want r)
want_fits g p r ok o fit = go r.phase refl fit.stands
  where
    go : (phase : Phase) → r.phase ≡ phase → FitsPhase g p r phase → WantFits g p (want_in r phase)
    go (Announcing j) is stands = stands.0
    go (Trying j q) is stands = stands.1
    go (Reading j q) is stands = let front = fit.front q in (stands.1, omega arith, omega arith)
    go (Claiming j) is stands = let room = claim_room g p r j ok o fit is in (stands.0, omega arith, omega arith)
    go (Holding j) is stands =
        let few = (claims_fit g p r fit).0 in
        let claims : r.claimed ≡ r.dones ++ jobs_in_hand (Holding j) = fit.claims ∙ ap (λ x. r.dones ++ jobs_in_hand x) is in
        let size : length r.claimed ≡ length r.dones + 1 = ap length claims ∙ length_push r.dones j in
        (stands.0, omega arith, omega (arith, few, size))
    go phase is stands = tt

-- what is wanted, by cases

-- a claim is wanted
abbrev pub is_claim : Want → Bool
is_claim (StoreClaim c j) = true
is_claim want = false

-- nothing is wanted
abbrev pub is_nothing : Want → Bool
is_nothing Nothing = true
is_nothing want = false

-- the job of the claim, or 0
abbrev claimed_job : Want → ℕ
claimed_job (StoreClaim c j) = j
claimed_job want = 0

-- a claim is wanted just by who is about to claim
pub claiming_is : (r : Record) (phase : Phase) → is_claiming phase ≡ is_claim (want_in r phase)
claiming_is r (Announcing j) = refl
claiming_is r phase = refl

-- nothing is wanted just by who has ended or left
pub nothing_is : (r : Record) (phase : Phase) → wants_nothing phase ≡ is_nothing (want_in r phase)
nothing_is r (Announcing j) = refl
nothing_is r phase = refl

-- who wants to claim j is about to claim j
pub claiming_job : (r : Record) (phase : Phase) (c j : ℕ) → want_in r phase ≡ StoreClaim c j → phase ≡ Claiming j
claiming_job r (Claiming i) c j e = ap Claiming (ap claimed_job e)
claiming_job r phase c j e = absurd (true≢false (sym (ap is_claim e)))

-- whoever may leave wants something
pub leave_goes : (phase : Phase) → can_leave phase ≡ true → wants_nothing phase ≡ false
leave_goes (Holding j) h = absurd (true≢false (sym h))
leave_goes Over h = absurd (true≢false (sym h))
leave_goes Left h = absurd (true≢false (sym h))
leave_goes phase h = refl

-- a load writes nothing
pub load_writes : (g : Givens) (p : ℕ) (x : Want) (words : List ℕ) → is_load x ≡ true → words_after g p x words ≡ words
load_writes g p (LoadNext q) words h = refl
load_writes g p (LoadDone q k) words h = refl
load_writes g p want words h = absurd (true≢false (sym h))

-- a load claims nothing
pub load_quiet : (x : Want) → is_load x ≡ true → is_claim x ≡ false
load_quiet (StoreClaim c j) h = absurd (true≢false (sym h))
load_quiet want h = refl

-- a load and a store are something
pub load_goes : (x : Want) → is_load x ≡ true → is_nothing x ≡ false
load_goes Nothing h = absurd (true≢false (sym h))
load_goes want h = refl

pub store_goes : (x : Want) → is_store x ≡ true → is_nothing x ≡ false
store_goes Nothing h = absurd (true≢false (sym h))
store_goes want h = refl

-- a store is no load
pub store_loads : (x : Want) → is_store x ≡ true → is_load x ≡ false
store_loads (LoadNext q) h = absurd (true≢false (sym h))
store_loads (LoadDone q k) h = absurd (true≢false (sym h))
store_loads want h = refl
