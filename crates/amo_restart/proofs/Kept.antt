-- A return keeps what is lawful.
use Rattle.std.proofs.Common.{◌≡◌, ◌⊎◌, inl, inr, ⊎_elim, ℕ, zero, suc, ◌≤◌, Bool, true, false, ◌||◌, List, [], ◌∷◌, ◌++◌, length, get_or, refl, sym, ap, ◌∙◌, subst, arith, append-nil}
use Rattle.std.specs.Prelude.{if◌then◌else◌, ◌==◌}
use Rattle.std.proofs.lemmas.Bool.{true≢false, or_left, eq-eqb, ne_eqb}
use Rattle.std.proofs.lemmas.List.{length_push}
use Rattle.amo_sets.specs.Lists.{numbered, table}
use Rattle.amo_sets.specs.Sets.{has, AreDistinct}
use Rattle.amo_sets.proofs.Numbers.{has-append, has_push, length-table}
use Rattle.amo_params.specs.Givens.{AreGivens, IsJob, IsWorker}
use Rattle.amo_kk.specs.Record.{wants_nothing, job_in_hand, jobs_in_hand, IsPast, IsClear}
use Rattle.amo_kk.specs.Choice.{chosen_job, record_after_choice}
use Rattle.amo_kk.specs.Lawful.{Announces, FitsPhase, IsSoundProcess, AreLawful}
use Rattle.amo_params.specs.declared.givens.Givens.{Givens}
use Rattle.amo_kk.specs.declared.phase.Phase.{Phase}
use Rattle.amo_kk.specs.declared.phase.Phase.TheVariants.{Announcing, Trying, Reading, Claiming, Holding, Over, Left}
use Rattle.amo_kk.specs.declared.model.Record.{Record}
use Rattle.amo_kk.specs.declared.model.Process.{Process}
use Rattle.amo_kk.proofs.Again.{has-set_of}
use Rattle.amo_kk.proofs.Choice.{chosen_is_job, choice_cases}
use Rattle.amo_kk.proofs.Fit.{again_fit}
use Rattle.amo_kk.proofs.Kept.{IsKept, not_both, sound_with}
use Rattle.amo_sets.proofs.Tables.{numbered-table_same}
use Rattle.amo_kk.specs.Again.{entries_of, set_of, record_of_dones}
use Rattle.amo_restart.specs.Return.{process_again, process_after_return}

-- what the words of a worker show

pub entries_are : (row dones : List ℕ) → ((k : ℕ) → get_or row k 0 ≡ get_or dones k 0) → ((j : ℕ) → has dones j ≡ true → 1 ≤ j) → entries_of row ≡ dones
entries_are [] [] same some = refl
entries_are [] (d ∷ ds) same some = let e : 0 ≡ d = same 0 in absurd (omega (arith, some d (or_left _ _ (eq-eqb d d refl))))
entries_are (zero ∷ xs) [] same some = refl
entries_are (suc x ∷ xs) [] same some = absurd (let e : suc x ≡ 0 = same 0 in omega arith)
entries_are (zero ∷ xs) (d ∷ ds) same some = let e : 0 ≡ d = same 0 in absurd (omega (arith, some d (or_left _ _ (eq-eqb d d refl))))
entries_are (suc x ∷ xs) (d ∷ ds) same some =
    let e : suc x ≡ d = same 0 in
    ap (λ l. suc x ∷ l) (entries_are xs ds (λ k. same (suc k)) (λ j h. some j (later (d == j) (has ds j) h))) ∙ ap (λ y. y ∷ ds) e
  where
    later : (a b : Bool) → b ≡ true → (a || b) ≡ true
    later a b h = grind arith

-- a hand is empty, or holds a job
pub hand_cases : (phase : Phase) → (jobs_in_hand phase ≡ []) ⊎ ((j : ℕ) × (phase ≡ Holding j))
hand_cases (Holding j) = inr (j, refl)
hand_cases phase = inl refl

pub empty_hand : (phase : Phase) → jobs_in_hand phase ≡ [] → job_in_hand phase ≡ 0
empty_hand (Holding j) h = absurd (cc)
empty_hand phase h = refl

module _ (g : Givens) (ok : AreGivens g) (at : ℕ → Process) (before : AreLawful g at) (p : ℕ) (w : IsWorker g p) where
  -- a record with these dones, another phase and these claims
  begins : (phase : Phase) (claimed : List ℕ) → claimed ≡ (at p).local.claimed → jobs_in_hand phase ≡ jobs_in_hand (at p).local.phase
      → ((q i : ℕ) → IsPast phase q i → IsClear (at p).local q i × (has (at p).local.claimed i ≡ true))
      → Announces phase (at p).next
      → FitsPhase g p (record (record_of_dones g (at p).local.dones) { phase = phase; claimed = claimed }) phase
      → IsKept g at p (record (at p) { local = record (record_of_dones g (at p).local.dones) { phase = phase; claimed = claimed }; gone = wants_nothing phase })
  begins phase claimed same hand past announces stands =
      record {
        sound = sound_with g at before p w (record (record_of_dones g dones) { phase = phase; claimed = claimed }) (at p).next (wants_nothing phase)
            (again_fit g ok p w dones claimed phase (same ∙ s.local.claims ∙ ap (λ l. dones ++ l) (sym hand))
            (subst (λ l. AreDistinct l) (sym same) s.local.distinct) (λ j h. s.local.jobs j (ap (λ l. has l j) (sym same) ∙ h)) stands)
            announces s.next same refl (λ h. h);
        mine = λ q o. let was = before.apart p q w o in
            record {
              claims = λ j h. was.claims j (ap (λ l. has l j) (sym same) ∙ h);
              front = let z = zero_front q in omega arith;
              read = λ k h. absurd (let z = zero_front q in omega arith);
              clear = λ j c. let x = past q j c.0 in
                  ⊎_elim (λ d. not_both _ (done_claimed q j o.worker d.done) (was.claims j x.1)) (λ f. inr (record { free = f.free; unclear = f.unclear })) (was.clear j x.0);
            };
        theirs = λ q o. let was = before.apart q p o.worker (record { worker = w; differs = λ e. o.differs (sym e) }) in
            record {
              claims = λ j h. ap (λ l. has l j) same ∙ was.claims j h;
              front = was.front;
              read = was.read;
              clear = λ j c. ⊎_elim (λ d. inl (record { done = d.done; known = d.known }))
                  (λ f. inr (record { free = ap (λ l. has l j) same ∙ f.free; unclear = λ c'. f.unclear (past q j c'.0).0 })) (was.clear j c);
            };
        known = λ j h. inl (sym (has-set_of dones j) ∙ h);
        dones = λ j h. h;
      }
    where
      s : IsSoundProcess g p (at p)
      s = before.sound p w

      dones : List ℕ
      dones = (at p).local.dones

      zero_front : (q : ℕ) → numbered {X = ℕ} 0 (table g.workers (λ _. 0)) q ≡ 0
      zero_front q = numbered-table_same 0 g.workers q

      done_claimed : (q i : ℕ) → IsWorker g q → has (at q).local.dones i ≡ true → has (at q).local.claimed i ≡ true
      done_claimed q i o h = ap (λ l. has l i) (before.sound q o).local.claims ∙ has-append (at q).local.dones (jobs_in_hand (at q).local.phase) i ∙ or_left _ _ h

  -- what is done is a job
  pub some_dones : (j : ℕ) → has (at p).local.dones j ≡ true → 1 ≤ j
  some_dones j h =
      let s = before.sound p w in
      (s.local.jobs j (ap (λ l. has l j) s.local.claims ∙ has-append (at p).local.dones (jobs_in_hand (at p).local.phase) j ∙ or_left _ _ h)).low

  -- the row shows the dones
  pub entries : entries_of (at p).row ≡ (at p).local.dones
  entries = entries_are (at p).row (at p).local.dones (before.sound p w).row some_dones

  -- an empty hand means as many claims as dones, and a full one means one claim more
  pub counts_empty : jobs_in_hand (at p).local.phase ≡ [] → ((at p).claim == length (at p).local.dones) ≡ true
  counts_empty empty =
      let s = before.sound p w in
      eq-eqb _ _ (s.claim ∙ ap length (s.local.claims ∙ ap (λ l. (at p).local.dones ++ l) empty ∙ append-nil (at p).local.dones))

  pub counts_held : (j : ℕ) → (at p).local.phase ≡ Holding j → ((at p).claim == length (at p).local.dones) ≡ false
  counts_held j is =
      let s = before.sound p w in
      let more = s.claim ∙ ap length (s.local.claims ∙ ap (λ phase. (at p).local.dones ++ jobs_in_hand phase) is) ∙ length_push (at p).local.dones j in
      ne_eqb _ _ (λ e. omega arith)

  pub announced_held : (j : ℕ) → (at p).local.phase ≡ Holding j → (at p).next ≡ j
  announced_held j is = rw is at (before.sound p w).announces

  again : IsKept g at p (process_again g p (at p) (at p).local.dones)
  again = ⊎_elim
      (λ (empty : jobs_in_hand (at p).local.phase ≡ []).
      subst (λ b. IsKept g at p (becomes (if b then record_after_choice g p (record_of_dones g dones) else held))) (sym (counts_empty empty)) (
      let list : dones ≡ (at p).local.claimed = sym (s.local.claims ∙ ap (λ l. dones ++ l) empty ∙ append-nil dones) in
      choice_cases g p (record_of_dones g dones) (λ x. IsKept g at p (becomes x))
      (λ few. begins Over dones list (sym empty) (λ q i c. absurd c) tt few)
      (λ many. begins (Announcing (chosen_job g p (record_of_dones g dones))) dones list (sym empty) (λ q i c. absurd c) tt (chosen_is_job g p (record_of_dones g dones) w ok.beta_low ok.some many, refl))))
      (λ (h : (j : ℕ) × ((at p).local.phase ≡ Holding j)).
      subst (λ b. IsKept g at p (becomes (if b then record_after_choice g p (record_of_dones g dones) else held))) (sym (counts_held h.0 h.1)) (holds h.0 h.1))
      (hand_cases (at p).local.phase)
    where
      s : IsSoundProcess g p (at p)
      s = before.sound p w

      dones : List ℕ
      dones = (at p).local.dones

      held : Record
      held = record (record_of_dones g (at p).local.dones) { phase = Holding (at p).next; claimed = (at p).local.dones ++ (at p).next ∷ [] }

      becomes : Record → Process
      becomes x = record (at p) { local = x; gone = wants_nothing x.phase }

      holds : (j : ℕ) → (at p).local.phase ≡ Holding j → IsKept g at p (becomes held)
      holds j is = begins (Holding (at p).next) (dones ++ (at p).next ∷ []) list hand
          (λ q i c. let ji : j ≡ i = sym e ∙ c in ((subst (λ phase. IsPast phase q i) (sym is) ji, subst (λ x. has (at p).local.tried x ≡ false) ji stands.2), subst (λ l. has l i ≡ true) list (subst (λ x. has (dones ++ (at p).next ∷ []) x ≡ true) c (has_push dones (at p).next))))
          refl
          (subst (λ x. IsJob g x) (sym e) stands.0, subst (λ x. has (set_of dones) x ≡ false) (sym e) fresh, refl)
        where
          e : (at p).next ≡ j
          e = announced_held j is

          stands : IsJob g j × (has (at p).local.known j ≡ false) × (has (at p).local.tried j ≡ false)
          stands = rw is at s.local.stands

          hand : jobs_in_hand (Holding (at p).next) ≡ jobs_in_hand (at p).local.phase
          hand = ap (λ x. x ∷ []) e ∙ sym (ap jobs_in_hand is)

          list : dones ++ (at p).next ∷ [] ≡ (at p).local.claimed
          list = ap (λ l. dones ++ l) hand ∙ sym s.local.claims

          none : (b : Bool) → has dones j ≡ b → has dones j ≡ false
          none true h = not_both _ (s.local.own j h) stands.1
          none false h = h

          fresh : has (set_of dones) j ≡ false
          fresh = has-set_of dones j ∙ none (has dones j) refl

  -- a return of p
  pub returned_kept : IsKept g at p (process_after_return g p (at p))
  returned_kept = subst (λ l. IsKept g at p (process_again g p (at p) l)) (sym entries) again
