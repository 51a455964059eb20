-- Each step keeps the facts about one record alone.
use Rattle.std.proofs.Common.{◌≡◌, ◌≢◌, ⊎_elim, ℕ, ◌+◌, ◌-◌, ◌<◌, ◌≤◌, ◌^◌, min, Bool, true, false, List, [], ◌∷◌, ◌++◌, length, refl, sym, ap, ◌∙◌, subst, arith, append-nil, length-append}
use Rattle.std.specs.Prelude.{if◌then◌else◌, ◌==◌}
use Rattle.std.proofs.lemmas.Bool.{cases_eq, cases_Bool, true≢false, eqb-false}
use Rattle.amo_sets.specs.Lists.{numbered, put, table}
use Rattle.amo_sets.specs.Sets.{has, AreDistinct, with_number}
use Rattle.amo_params.specs.Givens.{AreGivens, IsJob, IsWorker, IsOther, next_other, others_before}
use Rattle.amo_kk.specs.Record.{empty_record, jobs_in_hand}
use Rattle.amo_kk.specs.Choice.{chosen_job, record_after_choice, record_after_check, first_record}
use Rattle.amo_kk.specs.Step.{want_in, want, with_announced, record_at_row, record_after_phase, record_after, record_after_leave, MayLoad}
use Rattle.amo_kk.specs.Again.{set_of, are_new, record_of_dones}
use Rattle.amo_kk.specs.Lawful.{FitsPhase, IsSoundRecord}
use Rattle.amo_params.specs.declared.givens.Givens.{Givens}
use Rattle.amo_kk.specs.declared.phase.Phase.{Phase}
use Rattle.amo_kk.specs.declared.phase.Phase.TheVariants.{Announcing, Trying, Reading, Claiming, Holding, Over, Left}
use Rattle.amo_kk.specs.declared.model.Record.{Record}
use Rattle.amo_sets.proofs.Numbers.{numbered-put_same, numbered-put_other, length-put, length-table, has_with_same, has_with_kept, has_push_cases, distinct_push, length_distinct, count_le_all}
use Rattle.amo_kk.proofs.Choice.{chosen_is_job, choice_cases, check_cases, to_row_cases, to_announcement_cases, next_other_differs, next_other_above}
use Rattle.amo_kk.proofs.Kept.{noted_length, noted_cases, others_room, others_next}
use Rattle.amo_sets.proofs.Tables.{numbered-table_same}
use Rattle.amo_kk.proofs.Again.{has-set_of, AreNew, new_are}

module _ (g : Givens) (ok : AreGivens g) (p : ℕ) (o : IsWorker g p) where
  -- the same lists of claims and dones, another phase, and other sets
  quietly : (r : Record) (phase : Phase) (known tried fronts : List ℕ) (n : ℕ) → IsSoundRecord g p r → jobs_in_hand r.phase ≡ jobs_in_hand phase
      → ((j : ℕ) → has r.known j ≡ true → has known j ≡ true) → length tried < g.workers → ((j : ℕ) → has tried j ≡ true → IsJob g j)
      → length fronts ≡ g.workers → ((q : ℕ) → numbered 0 fronts q ≤ g.jobs) → FitsPhase g p (record r { phase = phase; known = known; tried = tried; fronts = fronts; steps = n }) phase
      → IsSoundRecord g p (record r { phase = phase; known = known; tried = tried; fronts = fronts; steps = n })
  quietly r phase known tried fronts n f hold kept few jobs size front stands =
      record { claims = f.claims ∙ ap (λ l. r.dones ++ l) hold; distinct = f.distinct; jobs = f.jobs; own = λ j h. kept j (f.own j h); tried_few = few; tried_jobs = jobs; fronts = size; front = front; stands = stands }

  -- what a choice needs of the record before it
  record IsBefore (r : Record) : Type 0 where
    claims : r.claimed ≡ r.dones
    distinct : AreDistinct r.claimed
    jobs : (j : ℕ) → has r.claimed j ≡ true → IsJob g j
    own : (j : ℕ) → has r.dones j ≡ true → has r.known j ≡ true
    tried_few : length r.tried < g.workers
    tried_jobs : (j : ℕ) → has r.tried j ≡ true → IsJob g j
    fronts : length r.fronts ≡ g.workers
    front : (q : ℕ) → numbered 0 r.fronts q ≤ g.jobs

  placed : (r : Record) (phase : Phase) (n : ℕ) → IsBefore r → jobs_in_hand phase ≡ [] → FitsPhase g p (record r { phase = phase; steps = n }) phase → IsSoundRecord g p (record r { phase = phase; steps = n })
  placed r phase n b empty stands =
      record { claims = b.claims ∙ sym (append-nil r.dones) ∙ ap (λ l. r.dones ++ l) (sym empty); distinct = b.distinct; jobs = b.jobs; own = b.own; tried_few = b.tried_few; tried_jobs = b.tried_jobs; fronts = b.fronts; front = b.front; stands = stands }

  chooses : (r : Record) (n : ℕ) → IsBefore r → IsSoundRecord g p (record (record_after_choice g p r) { steps = n })
  chooses r n b = choice_cases g p r (λ x. IsSoundRecord g p (record x { steps = n }))
      (λ few. placed r Over n b refl few)
      (λ many. placed (record r { tried = [] }) (Announcing (chosen_job g p r)) n
      (record { claims = b.claims; distinct = b.distinct; jobs = b.jobs; own = b.own; tried_few = let t = b.tried_few in omega arith; tried_jobs = λ j h. absurd (true≢false (sym h)); fronts = b.fronts; front = b.front })
      refl (chosen_is_job g p r o ok.beta_low b.tried_few many, refl))

  checks : (r : Record) (j n : ℕ) → IsBefore r → IsJob g j → IsSoundRecord g p (record (record_after_check g p j r) { steps = n })
  checks r j n b job = check_cases g p j r (λ x. IsSoundRecord g p (record x { steps = n })) (λ a c. placed r (Claiming j) n b refl (job, a, c)) (chooses r n b)

  to_rows : (r : Record) (j q n : ℕ) → IsBefore r → IsJob g j → 1 ≤ q → q ≢ p → IsSoundRecord g p (record (record_at_row g p j q r) { steps = n })
  to_rows r j q n b job low differs = to_row_cases g p j q r (λ x. IsSoundRecord g p (record x { steps = n }))
      (λ high. placed r (Reading j q) n b refl (job, record { worker = record { low = low; high = high }; differs = differs }))
      (λ _. checks r j n b job)

  pub after_fit : (r : Record) (v : ℕ) → IsSoundRecord g p r → MayLoad g v (want r) → IsSoundRecord g p (record_after g p v r)
  after_fit r v f heard = go r.phase refl heard
    where
      n : ℕ
      n = min (r.steps + 1) (2 ^ 64 - 1)

      first_low : 1 ≤ next_other p 0
      first_low = next_other_above p 0

      -- with nothing in hand
      before : (tried : List ℕ) → jobs_in_hand r.phase ≡ [] → length tried < g.workers → ((j : ℕ) → has tried j ≡ true → IsJob g j) → IsBefore (record r { tried = tried })
      before tried empty few jobs =
          record { claims = f.claims ∙ ap (λ l. r.dones ++ l) empty ∙ append-nil r.dones; distinct = f.distinct; jobs = f.jobs; own = f.own; tried_few = few; tried_jobs = jobs; fronts = f.fronts; front = f.front }

      go : (phase : Phase) → r.phase ≡ phase → MayLoad g v (want_in r phase) → IsSoundRecord g p (record (record_after_phase g p v r r.phase) { steps = n })
      go (Announcing j) is h = subst (λ x. IsSoundRecord g p (record (record_after_phase g p v r x) { steps = n })) (sym is) (
          let stands : IsJob g j × (r.tried ≡ []) = rw is at f.stands in
          let b = before r.tried (ap jobs_in_hand is) f.tried_few f.tried_jobs in
          to_announcement_cases g p j (next_other p 0) r (λ x. IsSoundRecord g p (record x { steps = n }))
          (λ high. placed r (Trying j (next_other p 0)) n b refl (stands.0, record { worker = record { low = first_low; high = high }; differs = next_other_differs p 0 }, omega (arith, ap length stands.1)))
          (λ _. to_rows r j (next_other p 0) n b stands.0 first_low (next_other_differs p 0)))
      go (Trying j q) is h = subst (λ x. IsSoundRecord g p (record (record_after_phase g p v r x) { steps = n })) (sym is) (
          let stands : IsJob g j × IsOther g p q × (length r.tried ≤ others_before p q) = rw is at f.stands in
          let room = others_room p q g.workers o.low o.high stands.1.worker.low stands.1.worker.high stands.1.differs in
          let more = others_next p q o.low stands.1.worker.low stands.1.differs in
          let few = noted_length v r.tried in
          let b = before (with_announced v r.tried) (ap jobs_in_hand is) (omega arith) (λ i t. ⊎_elim (λ x. record { low = omega arith; high = omega arith }) (λ t'. f.tried_jobs i t') (noted_cases v i r.tried t)) in
          to_announcement_cases g p j (next_other p q) (record r { tried = with_announced v r.tried }) (λ x. IsSoundRecord g p (record x { steps = n }))
          (λ high. placed (record r { tried = with_announced v r.tried }) (Trying j (next_other p q)) n b refl (stands.0, record { worker = record { low = let l = next_other_above p q in omega arith; high = high }; differs = next_other_differs p q }, omega arith))
          (λ _. to_rows (record r { tried = with_announced v r.tried }) j (next_other p 0) n b stands.0 first_low (next_other_differs p 0)))
      go (Reading j q) is h = subst (λ x. IsSoundRecord g p (record (record_after_phase g p v r x) { steps = n })) (sym is) (reads (v == 0) refl)
        where
          stands : IsJob g j × IsOther g p q
          stands = rw is at f.stands

          reads : (c : Bool) → (v == 0) ≡ c → IsSoundRecord g p (record (if c then record_at_row g p j (next_other p q) r else record r { known = with_number v r.known; fronts = put r.fronts q (numbered 0 r.fronts q + 1) }) { steps = n })
          reads true e = to_rows r j (next_other p q) n (before r.tried (ap jobs_in_hand is) f.tried_few f.tried_jobs) stands.0 (let l = next_other_above p q in omega arith) (next_other_differs p q)
          reads false e =
              let size = f.fronts in
              let top : numbered 0 r.fronts q ≢ g.jobs = λ x. eqb-false v 0 e (h.1 (ap (λ y. y + 1) x)) in
              let old = f.front q in
              quietly r r.phase (with_number v r.known) r.tried (put r.fronts q (numbered 0 r.fronts q + 1)) n f refl (λ i k. has_with_kept v r.known i k) f.tried_few f.tried_jobs
              (length-put (numbered 0 r.fronts q + 1) r.fronts q ∙ f.fronts)
              (λ i. ⊎_elim
              (λ (x : i ≡ q). subst (λ y. numbered 0 (put r.fronts q (numbered 0 r.fronts q + 1)) y ≤ g.jobs) (sym x) (let s = numbered-put_same 0 (numbered 0 r.fronts q + 1) r.fronts q stands.1.worker.low (let t = stands in omega arith) in omega arith))
              (λ m. let s = numbered-put_other 0 (numbered 0 r.fronts q + 1) r.fronts q i m in let t = f.front i in omega arith)
              (cases_eq i q))
              (subst (λ x. FitsPhase g p (record r { known = with_number v r.known; fronts = put r.fronts q (numbered 0 r.fronts q + 1); steps = n }) x) (sym is) stands)
      go (Claiming j) is h = subst (λ x. IsSoundRecord g p (record (record_after_phase g p v r x) { steps = n })) (sym is) (
          let stands : IsJob g j × (has r.known j ≡ false) × (has r.tried j ≡ false) = rw is at f.stands in
          let same : r.claimed ≡ r.dones = f.claims ∙ ap (λ x. r.dones ++ jobs_in_hand x) is ∙ append-nil r.dones in
          record {
            claims = ap (λ l. l ++ j ∷ []) same;
            distinct = distinct_push r.claimed j f.distinct (⊎_elim (λ t. absurd (true≢false (sym (f.own j (ap (λ l. has l j) (sym same) ∙ t)) ∙ stands.1))) (λ x. x) (cases_Bool (has r.claimed j)));
            jobs = λ i t. ⊎_elim (λ x. f.jobs i x) (λ (e : j ≡ i). subst (λ x. IsJob g x) e stands.0) (has_push_cases r.claimed j i t);
            own = f.own;
            tried_few = f.tried_few;
            tried_jobs = f.tried_jobs;
            fronts = f.fronts;
            stands = stands;
            front = f.front;
          })
      go (Holding j) is h = subst (λ x. IsSoundRecord g p (record (record_after_phase g p v r x) { steps = n })) (sym is)
          (chooses (record r { dones = r.dones ++ j ∷ []; known = with_number j r.known }) n (record {
            claims = f.claims ∙ ap (λ x. r.dones ++ jobs_in_hand x) is;
            distinct = f.distinct;
            jobs = f.jobs;
            own = λ i t. ⊎_elim (λ x. has_with_kept j r.known i (f.own i x)) (λ (e : j ≡ i). subst (λ x. has (with_number j r.known) x ≡ true) e (has_with_same j r.known)) (has_push_cases r.dones j i t);
            tried_few = f.tried_few;
            tried_jobs = f.tried_jobs;
            fronts = f.fronts;
            front = f.front;
          }))
      go Over is h = subst (λ x. IsSoundRecord g p (record (record_after_phase g p v r x) { steps = n })) (sym is)
          (record { claims = f.claims; distinct = f.distinct; jobs = f.jobs; own = f.own; tried_few = f.tried_few; tried_jobs = f.tried_jobs; fronts = f.fronts; front = f.front; stands = f.stands })
      go Left is h = subst (λ x. IsSoundRecord g p (record (record_after_phase g p v r x) { steps = n })) (sym is)
          (record { claims = f.claims; distinct = f.distinct; jobs = f.jobs; own = f.own; tried_few = f.tried_few; tried_jobs = f.tried_jobs; fronts = f.fronts; front = f.front; stands = f.stands })

  pub left_fit : (r : Record) → jobs_in_hand r.phase ≡ [] → IsSoundRecord g p r → IsSoundRecord g p (record_after_leave r)
  left_fit r empty f = quietly r Left r.known r.tried r.fronts (min (r.steps + 1) (2 ^ 64 - 1)) f empty (λ j h. h) f.tried_few f.tried_jobs f.fronts f.front tt

  -- a record that begins again by words that can be so

  -- the record that has claimed these jobs, of which it has done some and knows just these
  pub again_fit : (dones claimed : List ℕ) (phase : Phase) → claimed ≡ dones ++ jobs_in_hand phase → AreDistinct claimed → ((j : ℕ) → has claimed j ≡ true → IsJob g j)
      → FitsPhase g p (record (record_of_dones g dones) { phase = phase; claimed = claimed }) phase → IsSoundRecord g p (record (record_of_dones g dones) { phase = phase; claimed = claimed })
  again_fit dones claimed phase claims distinct jobs stands =
      record {
        claims = claims;
        distinct = distinct;
        jobs = jobs;
        own = λ j t. has-set_of dones j ∙ t;
        tried_few = ok.some;
        tried_jobs = λ j t. absurd (true≢false (sym t));
        fronts = length-table (λ _. 0) g.workers;
        front = λ q. let z : numbered {X = ℕ} 0 (table g.workers (λ _. 0)) q ≡ 0 = numbered-table_same 0 g.workers q in omega arith;
        stands = stands;
      }

  pub rested_fit : (dones : List ℕ) → are_new g [] dones ≡ true → IsSoundRecord g p (record_after_choice g p (record_of_dones g dones))
  rested_fit dones h =
      let new : AreNew g [] dones = new_are g [] dones h in
      choice_cases g p (record_of_dones g dones) (λ x. IsSoundRecord g p x)
      (λ few. again_fit dones dones Over (sym (append-nil dones)) new.distinct new.jobs few)
      (λ many. again_fit dones dones (Announcing (chosen_job g p (record_of_dones g dones))) (sym (append-nil dones)) new.distinct new.jobs (chosen_is_job g p (record_of_dones g dones) o ok.beta_low ok.some many, refl))

  pub doubted_fit : (next : ℕ) (dones : List ℕ) → are_new g [] dones ≡ true → IsJob g next → has (set_of dones) next ≡ false
      → IsSoundRecord g p (record (record_of_dones g dones) { phase = Holding next; claimed = dones ++ next ∷ [] })
  doubted_fit next dones h job fresh =
      let new : AreNew g [] dones = new_are g [] dones h in
      again_fit dones (dones ++ next ∷ []) (Holding next) refl
      (distinct_push dones next new.distinct (sym (has-set_of dones next) ∙ fresh))
      (λ i t. ⊎_elim (λ x. new.jobs i x) (λ (e : next ≡ i). subst (λ x. IsJob g x) e job) (has_push_cases dones next i t))
      (job, fresh, refl)

  -- at first nothing is done
  pub first_fit : IsSoundRecord g p (first_record g p)
  first_fit = rested_fit [] refl

-- claims and dones fit into lists of n
pub claims_fit : (g : Givens) (p : ℕ) (r : Record) → IsSoundRecord g p r → (length r.claimed ≤ g.jobs) × (length r.dones ≤ g.jobs)
claims_fit g p r f =
    let few = length_distinct r.claimed g.jobs f.distinct (λ j h. ((f.jobs j h).low, (f.jobs j h).high)) in
    let most = count_le_all (has r.claimed) g.jobs in
    let parts = ap length f.claims ∙ length-append r.dones (jobs_in_hand r.phase) in
    (omega arith, omega arith)

-- whoever has made its first choice knows nothing, and has claimed, done and read nothing
pub record IsUnstepped (g : Givens) (r : Record) : Type 0 where
  pub known : r.known ≡ []
  pub tried : r.tried ≡ []
  pub claimed : r.claimed ≡ []
  pub dones : r.dones ≡ []
  pub fronts : r.fronts ≡ table g.workers (λ _. 0)

pub first_unstepped : (g : Givens) (p : ℕ) → IsUnstepped g (first_record g p)
first_unstepped g p =
    choice_cases g p (empty_record g) (λ x. IsUnstepped g x)
    (λ few. record { known = refl; tried = refl; claimed = refl; dones = refl; fronts = refl })
    (λ many. record { known = refl; tried = refl; claimed = refl; dones = refl; fronts = refl })
