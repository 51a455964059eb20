-- One worker more is hired.
use Rattle.std.proofs.Common.{◌≡◌, ◌≢◌, ◌⊎◌, inl, inr, ⊎_elim, ℕ, zero, suc, ◌+◌, ◌-◌, ◌<◌, ◌≤◌, List, Vec, Global, [], ◌∷◌, ◌++◌, length, vec_capacity, refl, sym, ap, ◌∙◌, subst, arith}
use Rattle.std.specs.Prelude.{slice_set, if◌then◌else◌, Bool, true, false}
use Rattle.amo_claims.specs.declared.states.After.TheVariants.{More, Over}
use Rattle.std.proofs.lemmas.List.{length_push}
use Rattle.std.proofs.lemmas.Bool.{cases_lt}
use mathlib.Core.Logic.{dite}
use native.Mathlib.Decide.{ℕ_discrete}
use mathlib.Core.Option.{some}
use lib.ListN.{get_elem?}
use Rattle.atomic_table.specs.Seated.{TableId}
use Rattle.atomic_table.proofs.Lists.{at_longer, at_last}
use Rattle.amo_sets.specs.Lists.{numbered, put}
use Rattle.amo_sets.proofs.Numbers.{numbered-put_same, numbered-put_other, length-put}
use Rattle.amo_kk.specs.Record.{is_over, wants_nothing, jobs_in_hand, empty_record}
use Rattle.amo_kk.specs.Choice.{first_record}
use Rattle.amo_params.specs.declared.givens.Givens.{Givens}
use Rattle.amo_params.specs.declared.limits.TheConstants.{MAX_STEPS}
use Rattle.amo_kk.specs.declared.model.Record.{Record}
use Rattle.amo_kk.proofs.Choice.{choice_cases}
use Rattle.amo_words.specs.declared.rule.Spot.TheVariants.{Home, Out as Away}
use Rattle.amo_words.specs.Logs.{first_machine}
use Rattle.amo_words.specs.Faces.{Seated, machine, spots}
use Rattle.amo_words.specs.Hiring.{HasHired}
use Rattle.amo_words.specs.Rule.{AllStand}
use Rattle.amo_claims.specs.Calls.{state_of, worker_in}
use Rattle.amo_mailbox.specs.declared.outlet.Outlet.{Outlet}
use Rattle.amo_crew.specs.declared.kit.Kit.{Kit}
use Rattle.amo_crew.specs.declared.run.member.Member.{Member}
use Rattle.amo_mailbox.specs.Endpoints.{IsNewOutletOf}
use Rattle.amo_crew.specs.Running.{IsFresh, IsMember}
use Rattle.amo_crew.specs.Outcomes.{spot_of}
use Rattle.amo_crew.specs.Hired.{AreHired}
use Rattle.amo_crew.proofs.Collects.{at_push}

-- a first record
record IsFirst (r : Record) : Type 0 where
  steps : r.steps ≡ 0
  claimed : r.claimed ≡ []
  dones : r.dones ≡ []
  empty : jobs_in_hand r.phase ≡ []
  over : wants_nothing r.phase ≡ is_over r.phase

first_is : (g : Givens) (p : ℕ) → IsFirst (first_record g p)
first_is g p = choice_cases g p (empty_record g) IsFirst (λ _. record { steps = refl; claimed = refl; dones = refl; empty = refl; over = refl }) (λ _. record { steps = refl; claimed = refl; dones = refl; empty = refl; over = refl })

pub first_claims : (g : Givens) (p : ℕ) → (first_record g p).claimed ≡ []
first_claims g p = (first_is g p).claimed

pub fresh_first : {P : Type 0} (w : Seated P) (g : Givens) (p : ℕ) → machine w ≡ first_machine g p → IsFresh w
fresh_first w g p e = let f = subst (λ m. IsFirst m.state) (sym e) (first_is g p) in record { steps = f.steps; claimed = f.claimed; dones = f.dones; empty = f.empty; over = f.over }

-- a worker that has begun is the same
begun_with : {P : Type 0} (w : Seated P) → worker_in (state_of w) ≡ w
begun_with {P} w = by (wants_nothing (machine w).state.phase)
  where
    by : (b : Bool) → worker_in (if b then Over w else More w) ≡ w
    by true = refl
    by false = refl

module _ {P Out : Type 0} (table : TableId) (g : Givens) (payloads : List P) (budgets : List ℕ) (b : Seated P) (kit : Kit P Out) (h : AreHired table g payloads budgets b kit) where
  -- the worker of the last outlet
  pub hires_more : (rest : Vec (Outlet Out) Global) (crew : Vec (Member P Out) Global) (o : Outlet Out) (m : Member P Out) (c w : Seated P) → kit.outlets.items ≡ rest.items ++ o ∷ [] → vec_capacity rest ≡ vec_capacity kit.outlets
      → crew.items ≡ kit.crew.items ++ m ∷ [] → vec_capacity crew ≡ vec_capacity kit.crew → HasHired b (length kit.outlets.items) c w → m.after ≡ state_of w → m.outlet ≡ o → m.budget ≡ numbered 0 budgets (length kit.outlets.items) → m.budget ≤ MAX_STEPS
      → AreHired table g payloads budgets c (record kit { outlets = rest; crew = crew })
  hires_more rest crew o m c w left rest_room grown crew_room did begun own budget small = record {
    tied = did.kept.table ∙ h.tied;
    givens = did.kept.givens ∙ h.givens;
    payloads_are = did.kept.payloads ∙ h.payloads_are;
    size = ap length now ∙ length-put Away (spots b) p ∙ h.size;
    stand = subst (λ gg. AllStand gg c.view.seen (spots c)) (did.kept.givens ∙ h.givens) did.stand;
    kit_is = record {
      outlets_are = λ k x at. h.kit_is.outlets_are k x (subst (λ l. get_elem? l k ≡ some x) (sym left) (at_longer rest.items (o ∷ []) k x at));
      count = let n = at in let f = fewer in let m = more in omega arith;
      takes = h.kit_is.takes;
      inlet_room = h.kit_is.inlet_room;
      no_finishes = h.kit_is.no_finishes;
      no_ends = h.kit_is.no_ends;
      no_hands = h.kit_is.no_hands;
      no_spare = h.kit_is.no_spare;
      outlets_room = let z = h.kit_is.outlets_room in omega arith;
      crew_room = let z = h.kit_is.crew_room in omega arith;
      finishes_room = h.kit_is.finishes_room;
      ends_room = h.kit_is.ends_room;
      hands_room = h.kit_is.hands_room;
      spare_room = h.kit_is.spare_room;
    };
    home = λ q l. let n = at in let m' = more in let f = fewer in other q (λ e. omega arith) ∙ h.home q (omega arith);
    out = λ q l high. let n = at in let m' = more in dite (ℕ_discrete q p) (λ e. ap (spot_of (spots c)) e ∙ here) (λ d. other q d ∙ h.out q (let x = apart q p d in ⊎_elim (λ a. omega arith) (λ a. omega arith) x) high);
    members = λ k x e. ⊎_elim (λ t. h.members k x t.1) (λ t. subst (λ y. IsMember kit.queue table g payloads (g.workers - k) (numbered 0 budgets (g.workers - k)) y) t.1
        (subst (λ n. IsMember kit.queue table g payloads n (numbered 0 budgets n) m) (let z = t.0 in let n = at in let e : p ≡ g.workers - k = omega arith in e) member)) (at_push kit.crew.items m x k (subst (λ l. get_elem? l k ≡ some x) grown e));
  }
    where
      p : ℕ
      p = length kit.outlets.items

      at : p + length kit.crew.items ≡ g.workers
      at = h.kit_is.count

      fewer : p ≡ length rest.items + 1
      fewer = ap length left ∙ length_push rest.items o

      more : length crew.items ≡ length kit.crew.items + 1
      more = ap length grown ∙ length_push kit.crew.items m

      now : spots c ≡ put (spots b) p Away
      now = did.spots_are ∙ put_is p (let f = fewer in omega arith)
        where
          put_is : (q : ℕ) → 1 ≤ q → slice_set (spots b) (q - 1) Away ≡ put (spots b) q Away
          put_is zero low = absurd (omega arith)
          put_is (suc k) low = let n : suc k - 1 ≡ k = omega arith in ap (λ i. slice_set (spots b) i Away) n

      here : spot_of (spots c) p ≡ Away
      here = ap (λ s. spot_of s p) now ∙ numbered-put_same Home Away (spots b) p (let f = fewer in omega arith) (let z = h.size in let n = at in omega arith)

      other : (q : ℕ) → q ≢ p → spot_of (spots c) q ≡ spot_of (spots b) q
      other q n = ap (λ s. spot_of s q) now ∙ numbered-put_other Home Away (spots b) p q n

      apart : (q r : ℕ) → q ≢ r → (q < r) ⊎ (r < q)
      apart q r d = ⊎_elim (λ a. inl a) (λ a. inr (omega arith)) (cases_lt q r)

      same : worker_in m.after ≡ w
      same = ap worker_in begun ∙ begun_with w

      outlet : IsNewOutletOf kit.queue g.jobs m.outlet × (m.outlet.worker ≡ p)
      outlet = let new = h.kit_is.outlets_are (length rest.items) o (subst (λ l. get_elem? l (length rest.items) ≡ some o) (sym left) (at_last rest.items o (length rest.items) refl)) in
          subst (λ x. IsNewOutletOf kit.queue g.jobs x × (x.worker ≡ p)) (sym own) (new.0, new.1 ∙ sym fewer)

      member : IsMember kit.queue table g payloads p (numbered 0 budgets p) m
      member = record {
        begun = begun ∙ ap state_of (sym same);
        table_is = ap (λ v. v.table_id) same ∙ did.worker.table ∙ h.tied;
        givens = ap (λ v. v.view.givens) same ∙ did.worker.givens ∙ h.givens;
        payloads_are = ap (λ v. v.view.payloads) same ∙ did.worker.payloads ∙ h.payloads_are;
        number = ap (λ v. (machine v).number) same ∙ ap (λ l. l.number) did.worker.machine_is;
        fresh = fresh_first (worker_in m.after) b.view.givens p (ap machine same ∙ did.worker.machine_is);
        belongs = outlet.0.belongs;
        worker = outlet.1;
        room = outlet.0.room_is;
        empty = outlet.0.empty;
        budget_is = budget;
        small = small;
      }
