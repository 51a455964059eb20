-- A machine that goes on: what is left of its batch is its batch.
use Rattle.std.proofs.Common.{◌≡◌, ℕ, zero, suc, ◌+◌, ◌-◌, ◌<◌, ◌^◌, min, Bool, true, false, not, refl, sym, ap, ◌∙◌, subst, arith, List, [], ◌∷◌, ◌++◌, length, Option, Some, None}
use Rattle.std.specs.Prelude.{if◌then◌else◌, ◌==◌, map, cond}
use Rattle.std.specs.List.{filter, range_with_len}
use Rattle.std.proofs.lemmas.Bool.{ne_eqb}
use Rattle.std.proofs.lemmas.Option.{same_Some, none-some}
use Rattle.amo_sets.specs.Lists.{numbered, put}
use Rattle.amo_sets.specs.Sets.{with_number}
use Rattle.amo_sets.proofs.Numbers.{numbered-put_same, numbered-put_other}
use Rattle.amo_params.specs.Givens.{IsWorker, IsOther, IsJob, next_other}
use Rattle.amo_kk.specs.Record.{job_in_hand}
use Rattle.amo_kk.specs.Choice.{record_after_choice, record_after_check}
use Rattle.amo_kk.specs.Step.{want, want_in, is_load, with_announced, record_at_row, record_at_announcement, record_after_phase, record_after}
use Rattle.amo_kk.specs.Words.{next_word, claim_word, done_word}
use Rattle.amo_kk.specs.Lawful.{IsSoundRecord, FitsPhase}
use Rattle.amo_params.specs.declared.givens.Givens.{Givens}
use Rattle.amo_kk.specs.declared.model.Record.{Record}
use Rattle.amo_kk.specs.declared.phase.Phase.{Phase}
use Rattle.amo_kk.specs.declared.phase.Phase.TheVariants.{Announcing, Trying, Reading, Claiming, Holding}
use Rattle.amo_kk.specs.declared.phase.Want.{Want}
use Rattle.amo_kk.specs.declared.phase.Want.TheVariants.{Nothing}
use Rattle.amo_kk.proofs.Choice.{choice_cases, check_cases, to_row_cases, to_announcement_cases}
use Rattle.amo_kk.proofs.Fit.{after_fit}
use Rattle.amo_process.specs.declared.standing.Standing.{Standing}
use Rattle.amo_process.specs.declared.standing.Standing.TheVariants.{Going}
use Rattle.amo_process.specs.declared.batch.Item.{Item}
use Rattle.amo_process.specs.declared.batch.Item.TheVariants.{Store, Load, LoadUntilZero}
use Rattle.amo_process.specs.Heard.{record_after_all}
use Rattle.amo_process.specs.Batch.{last_word, row_item, loads_above, rows_above, items_wanted, items_from, left_after, left_if, left_after_all, WantsLeft, HasNoJob}
use Rattle.amo_process.proofs.Hearing.{may_load, hear_parts}
use Rattle.amo_process.proofs.Others.{above_next, above_none}

-- the worker that goes on with this record
abbrev pub goer : Givens → ℕ → Record → Standing
goer g p r = Going (record { givens = g; number = p; state = r }) false

-- Worker p with this record wants what is left, and has no job while something is.
pub record HasLeft (g : Givens) (p : ℕ) (r : Record) (rest : List Item) : Type 0 where
  pub wants : WantsLeft g p (goer g p r) rest
  pub none : HasNoJob (goer g p r) rest

-- whoever wants something that is a store, a load or a row has a batch that begins with it
pub whole : (g : Givens) (p : ℕ) (r : Record) → WantsLeft g p (goer g p r) (items_from g p r (want r))
whole g p r = go (want r) refl
  where
    go : (x : Want) → want r ≡ x → WantsLeft g p (goer g p r) (items_from g p r x)
    go Nothing is = ap is_load is
    go x is = ap (items_from g p r) is

-- the rows above q are the same after one more entry of the row of q
rows_same : (g : Givens) (fronts : List ℕ) (x q p a n : ℕ) → q < a
    → map (row_item g (put fronts q x)) (filter (λ i. not (i == p)) (range_with_len a n)) ≡ map (row_item g fronts) (filter (λ i. not (i == p)) (range_with_len a n))
rows_same g fronts x q p a zero l = refl
rows_same g fronts x q p a (suc n) l = go (rows_same g fronts x q p (a + 1) n (omega arith)) (not (a == p))
  where
    go : map (row_item g (put fronts q x)) (filter (λ i. not (i == p)) (range_with_len (a + 1) n)) ≡ map (row_item g fronts) (filter (λ i. not (i == p)) (range_with_len (a + 1) n))
        → (b : Bool) → map (row_item g (put fronts q x)) (cond b (a ∷ filter (λ i. not (i == p)) (range_with_len (a + 1) n)) (filter (λ i. not (i == p)) (range_with_len (a + 1) n)))
        ≡ map (row_item g fronts) (cond b (a ∷ filter (λ i. not (i == p)) (range_with_len (a + 1) n)) (filter (λ i. not (i == p)) (range_with_len (a + 1) n)))
    go rest true = (λ i. LoadUntilZero (done_word g a (numbered-put_other 0 x fronts q a (λ e. omega arith) i + 1)) (last_word g a) ∷ rest i)
    go rest false = rest

module _ (g : Givens) (p n : ℕ) where
  -- once the others up to q were read, there is what is left of them

  choose : (x : Record) → HasLeft g p (record (record_after_choice g p x) { steps = n }) []
  choose x = choice_cases g p x (λ y. HasLeft g p (record y { steps = n }) []) (λ _. record { wants = refl; none = tt }) (λ _. record { wants = refl; none = tt })

  row : (r : Record) (j q : ℕ) → HasLeft g p (record (record_at_row g p j (next_other p q) r) { steps = n }) (rows_above g p r.fronts q)
  row r j q = to_row_cases g p j (next_other p q) r (λ x. HasLeft g p (record x { steps = n }) (rows_above g p r.fronts q))
      (λ h. subst (λ l. HasLeft g p (record r { phase = Reading j (next_other p q); steps = n }) (map (row_item g r.fronts) l)) (sym (above_next g p q h)) (record { wants = refl; none = (refl, refl) }))
      (λ h. subst (λ l. HasLeft g p (record (record_after_check g p j r) { steps = n }) (map (row_item g r.fronts) l)) (sym (above_none g p q h))
      (check_cases g p j r (λ x. HasLeft g p (record x { steps = n }) []) (λ _ _. record { wants = refl; none = tt }) (choose r)))

  announcement : (r : Record) (j q : ℕ) → HasLeft g p (record (record_at_announcement g p j (next_other p q) r) { steps = n }) (loads_above g p q ++ rows_above g p r.fronts 0)
  announcement r j q = to_announcement_cases g p j (next_other p q) r (λ x. HasLeft g p (record x { steps = n }) (loads_above g p q ++ rows_above g p r.fronts 0))
      (λ h. subst (λ l. HasLeft g p (record r { phase = Trying j (next_other p q); steps = n }) (map (λ i. Load i) l ++ rows_above g p r.fronts 0)) (sym (above_next g p q h)) (record { wants = refl; none = (refl, refl) }))
      (λ h. subst (λ l. HasLeft g p (record (record_at_row g p j (next_other p 0) r) { steps = n }) (map (λ i. Load i) l ++ rows_above g p r.fronts 0)) (sym (above_none g p q h)) (row r j 0))

  -- after a choice the whole batch is wanted
  chosen : (x : Record) → let y = record (record_after_choice g p x) { steps = n } in HasLeft g p y (items_wanted g p y.fronts (want y))
  chosen x = choice_cases g p x (λ z. let y = record z { steps = n } in HasLeft g p y (items_wanted g p y.fronts (want y)))
      (λ _. record { wants = refl; none = tt }) (λ _. record { wants = refl; none = (refl, refl) })

-- one number
pub step_rests : (g : Givens) (p v : ℕ) (r : Record) (rest : List Item) → IsSoundRecord g p r → left_after (items_from g p r (want r)) v ≡ Some rest → HasLeft g p (record_after g p v r) rest
step_rests g p v r rest fit = go r.phase refl
  where
    n : ℕ
    n = min (r.steps + 1) (2 ^ 64 - 1)

    Goal : Phase → Type 0
    Goal phase = left_after (items_from g p r (want_in r phase)) v ≡ Some rest → HasLeft g p (record (record_after_phase g p v r phase) { steps = min (r.steps + 1) (2 ^ 64 - 1) }) rest

    stored : (word value : ℕ) (items : List Item) (k : ℕ) → left_after (Store word value ∷ items) k ≡ Some rest → items ≡ rest
    stored word value items zero h = same_Some items rest h
    stored word value items (suc k) h = absurd (none-some rest h)

    go : (phase : Phase) → r.phase ≡ phase → left_after (items_from g p r (want_in r r.phase)) v ≡ Some rest → HasLeft g p (record (record_after_phase g p v r r.phase) { steps = min (r.steps + 1) (2 ^ 64 - 1) }) rest
    go (Announcing j) is = subst (λ x. Goal x) (sym is) (λ h. subst (λ l. HasLeft g p (record (record_after_phase g p v r (Announcing j)) { steps = n }) l) (stored (next_word p) j (loads_above g p 0 ++ rows_above g p r.fronts 0) v h) (announcement g p n r j 0))
    go (Trying j q) is = subst (λ x. Goal x) (sym is) (λ h. subst (λ l. HasLeft g p (record (record_after_phase g p v r (Trying j q)) { steps = n }) l) (same_Some (loads_above g p q ++ rows_above g p r.fronts 0) rest h) (announcement g p n (record r { tried = with_announced v r.tried }) j q))
    go (Reading j q) is = subst (λ x. Goal x) (sym is) (by v)
      where
        word : ℕ
        word = done_word g q (numbered 0 r.fronts q + 1)

        stands : IsJob g j × IsOther g p q
        stands = subst (λ x. FitsPhase g p r x) is fit.stands

        front : numbered 0 (put r.fronts q (numbered 0 r.fronts q + 1)) q ≡ numbered 0 r.fronts q + 1
        front = numbered-put_same 0 (numbered 0 r.fronts q + 1) r.fronts q stands.1.worker.low (let h = stands.1.worker.high in let e = fit.fronts in omega arith)

        place : done_word g q (numbered 0 (put r.fronts q (numbered 0 r.fronts q + 1)) q + 1) ≡ done_word g q (numbered 0 r.fronts q + 1) + 1
        place = let e = front in omega arith

        grown : (k : ℕ) → HasLeft g p (record r { known = with_number k r.known; fronts = put r.fronts q (numbered 0 r.fronts q + 1); steps = n }) (LoadUntilZero (word + 1) (last_word g q) ∷ rows_above g p r.fronts q)
        grown k =
            record {
              wants = ap (λ x. let y = record r { known = with_number k r.known; fronts = put r.fronts q (numbered 0 r.fronts q + 1); steps = n } in items_from g p y (want_in y x)) is
                  ∙ (λ i. LoadUntilZero (place i) (last_word g q) ∷ rows_same g r.fronts (numbered 0 r.fronts q + 1) q p (q + 1) (g.workers - q) (omega arith) i);
              none = (ap job_in_hand is, refl);
            }

        by : (k : ℕ) → left_after (LoadUntilZero word (last_word g q) ∷ rows_above g p r.fronts q) k ≡ Some rest
            → HasLeft g p (record (record_after_phase g p k r (Reading j q)) { steps = n }) rest
        by zero h = subst (λ l. HasLeft g p (record (record_at_row g p j (next_other p q) r) { steps = n }) l) (same_Some (rows_above g p r.fronts q) rest h) (row g p n r j q)
        by (suc k) h =
            subst (λ b. HasLeft g p (record (if b then record_at_row g p j (next_other p q) r else record r { known = with_number (suc k) r.known; fronts = put r.fronts q (numbered 0 r.fronts q + 1) }) { steps = n }) rest)
            (sym (ne_eqb (suc k) 0 (λ e. omega arith)))
            (subst (λ l. HasLeft g p (record r { known = with_number (suc k) r.known; fronts = put r.fronts q (numbered 0 r.fronts q + 1); steps = n }) l) (same_Some (LoadUntilZero (word + 1) (last_word g q) ∷ rows_above g p r.fronts q) rest h) (grown (suc k)))
    go (Claiming j) is = subst (λ x. Goal x) (sym is) (λ h. subst (λ l. HasLeft g p (record (record_after_phase g p v r (Claiming j)) { steps = n }) l) (stored (claim_word g p) (length r.claimed + 1) [] v h) (record { wants = refl; none = tt }))
    go (Holding j) is = subst (λ x. Goal x) (sym is) (λ h. subst (λ l. HasLeft g p (record (record_after_phase g p v r (Holding j)) { steps = n }) l) (stored (done_word g p (length r.dones + 1)) j (items_wanted g p (record_after g p 0 r).fronts (want (record_after g p 0 r))) v h)
        (subst (λ (z : Record). HasLeft g p (record (record_after_phase g p v r (Holding j)) { steps = n }) (items_wanted g p z.fronts (want z))) (sym next)
        (chosen g p n (record r { dones = r.dones ++ j ∷ []; known = with_number j r.known }))))
      where
        next : record_after g p 0 r ≡ record (record_after_phase g p 0 r (Holding j)) { steps = n }
        next = ap (λ x. record (record_after_phase g p 0 r x) { steps = min (r.steps + 1) (2 ^ 64 - 1) }) is
    go ended is = subst (λ x. Goal x) (sym is) (λ h. absurd (none-some rest h))

-- what fits is one number, and then what fits what is left

pub record LeftParts (items : List Item) (v : ℕ) (vs : List ℕ) (rest : List Item) : Type 0 where
  pub mid : List Item
  pub first : left_after items v ≡ Some mid
  pub others : left_after_all mid vs ≡ Some rest

pub left_parts : (items : List Item) (v : ℕ) (vs : List ℕ) (rest : List Item) → left_after_all items (v ∷ vs) ≡ Some rest → LeftParts items v vs rest
left_parts items v vs rest = go (left_after items v) refl
  where
    go : (o : Option (List Item)) → left_after items v ≡ o → left_if (λ l. left_after_all l vs) o ≡ Some rest → LeftParts items v vs rest
    go None is h = absurd (none-some rest h)
    go (Some mid) is h = record { mid = mid; first = is; others = h }

-- if more was read, something was left
left_some : (g : Givens) (p : ℕ) (r : Record) (mid : List Item) (v : ℕ) (vs : List ℕ) (rest : List Item) → HasLeft g p r mid → left_after_all mid (v ∷ vs) ≡ Some rest → items_from g p r (want r) ≡ mid
left_some g p r [] v vs rest t h = absurd (none-some rest h)
left_some g p r (item ∷ mid) v vs rest t h = t.wants

-- any numbers that fit
pub steps_rest : (g : Givens) (p : ℕ) → IsWorker g p → (r : Record) (v : ℕ) (vs : List ℕ) (rest : List Item) (s : Record) → IsSoundRecord g p r
    → left_after_all (items_from g p r (want r)) (v ∷ vs) ≡ Some rest → record_after_all g p r (v ∷ vs) ≡ Some s → HasLeft g p s rest
steps_rest g p o r v [] rest s fit left after =
    let parts = left_parts (items_from g p r (want r)) v [] rest left in
    let heard = hear_parts g p r v [] s after in
    subst (λ x. HasLeft g p x rest) (same_Some _ s heard.1)
    (step_rests g p v r rest fit (parts.first ∙ parts.others))
steps_rest g p o r v (w ∷ ws) rest s fit left after =
    let parts = left_parts (items_from g p r (want r)) v (w ∷ ws) rest left in
    let heard = hear_parts g p r v (w ∷ ws) s after in
    steps_rest g p o (record_after g p v r) w ws rest s (after_fit g g.limits p o r v fit (may_load g v (want r) heard.0))
    (subst (λ l. left_after_all l (w ∷ ws) ≡ Some rest) (sym (left_some g p (record_after g p v r) parts.mid w ws rest (step_rests g p v r parts.mid fit parts.first) parts.others)) parts.others)
    heard.1
