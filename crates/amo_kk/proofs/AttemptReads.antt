-- The reads that an attempt still has to make, and how a turn of its worker takes from them.
use Rattle.std.proofs.Common.{◌≡◌, ◌≢◌, ⊎_elim, ℕ, ◌+◌, ◌-◌, ◌≤◌, Bool, true, false, not, ◌&&◌, List, [], ◌∷◌, ◌++◌, refl, sym, ap, ◌∙◌, subst, arith}
use Rattle.std.specs.Prelude.{if◌then◌else◌, ◌==◌, nat_le}
use Rattle.std.proofs.lemmas.Bool.Decides.{nat_tests}
use Rattle.std.proofs.lemmas.Bool.{cases_eq, ne_eqb}
use Rattle.amo_sets.specs.Lists.{numbered, put}
use Rattle.amo_sets.specs.Sets.{with_number}
use Rattle.amo_params.specs.Givens.{next_other}
use Rattle.amo_kk.specs.Step.{want_in, want, with_announced, record_at_row, record_at_announcement, record_after_phase}
use Rattle.amo_kk.specs.World.{process, loaded_value}
use Rattle.amo_kk.specs.Alone.{stores_announcement, reads_announcement, reads_zero, reads_entry, attempts_going_on}
use Rattle.amo_kk.specs.Lawful.{IsLawful}
use Rattle.amo_params.specs.declared.givens.Givens.{Givens}
use Rattle.amo_kk.specs.declared.phase.Phase.{Phase}
use Rattle.amo_kk.specs.declared.phase.Phase.TheVariants.{Announcing, Trying, Reading, Claiming, Holding, Over, Left}
use Rattle.amo_kk.specs.declared.phase.Want.{Want}
use Rattle.amo_kk.specs.declared.model.Record.{Record}
use Rattle.amo_kk.specs.declared.model.World.{World}
use Rattle.amo_sets.proofs.Numbers.{numbered-put_same, numbered-put_other}
use Rattle.amo_kk.proofs.Choice.{choice_cases, check_cases, to_row_cases, to_announcement_cases}
use Rattle.amo_kk.proofs.Worlds.{here_is_worker}
use Rattle.amo_kk.proofs.OwnTurns.{next_record, stored, left_from, one_fewer, heard, read_of}

-- 1 if the entry at place e of the row of q is still to be read
abbrev pub unread_in : (q e : ℕ) → List ℕ → ℕ
unread_in q e fronts = if nat_le e (numbered 0 fronts q) then 0 else 1

-- an entry that is read is the next one after the front, which then stands at it
entry_next : (front e : ℕ) → (if (front + 1 == e) && true then 1 else 0) + (if nat_le e (front + 1) then 0 else 1) ≤ (if nat_le e front then 0 else 1)
entry_next front e = grind (arith, nat_tests)

entry_kept : (front e : ℕ) → (if nat_le e (front + 1) then 0 else 1) ≤ (if nat_le e front then 0 else 1)
entry_kept front e = grind (arith, nat_tests)

an_entry : (b : Bool) (front e : ℕ) → (if b && ((front + 1 == e) && true) then 1 else 0) + (if nat_le e (front + 1) then 0 else 1) ≤ (if nat_le e front then 0 else 1)
an_entry true front e = entry_next front e
an_entry false front e = let l = entry_kept front e in omega arith

-- a zero is no entry
no_entry : (a b : Bool) → ◌≡◌ {A = ℕ} (if a && (b && false) then 1 else 0) 0
no_entry true true = refl
no_entry true false = refl
no_entry false b = refl

-- P holds of what r may become if no other worker is left to be asked
record HoldsThrough (P : Record → Type 0) (r : Record) : Type 0 where
  over : P (record r { phase = Over })
  announcing : (j : ℕ) → P (record r { phase = Announcing j; tried = [] })
  claiming : (j : ℕ) → P (record r { phase = Claiming j })

module _ (g : Givens) (p : ℕ) (P : Record → Type 0) where
  at_row : (j q : ℕ) (r : Record) → HoldsThrough P r → P (record r { phase = Reading j q }) → P (record_at_row g p j q r)
  at_row j q r h reads = to_row_cases g p j q r P (λ _. reads) (λ _. check_cases g p j r P (λ _ _. h.claiming j) (choice_cases g p r P (λ _. h.over) (λ _. h.announcing _)))

  at_announcement : (j q : ℕ) (r : Record) → HoldsThrough P r → P (record r { phase = Trying j q }) → P (record r { phase = Reading j (next_other p 0) }) → P (record_at_announcement g p j q r)
  at_announcement j q r h tries reads = to_announcement_cases g p j q r P (λ _. tries) (λ _. at_row j (next_other p 0) r h reads)

-- the same of what is read in a row: 0, or an entry
at_reading : (g : Givens) (p : ℕ) (P : Bool → Record → Type 0) (j q v : ℕ) (r : Record) → HoldsThrough (P true) r → P true (record r { phase = Reading j (next_other p q) })
    → P false (record r { known = with_number v r.known; fronts = put r.fronts q (numbered 0 r.fronts q + 1) }) → P (v == 0) (record_after_phase g p v r (Reading j q))
at_reading g p P j q v r h reads more = go (v == 0)
  where
    go : (b : Bool) → P b (if b then record_at_row g p j (next_other p q) r else record r { known = with_number v r.known; fronts = put r.fronts q (numbered 0 r.fronts q + 1) })
    go true = at_row g p (P true) j (next_other p q) r h reads
    go false = more

module _ (g : Givens) (p : ℕ) where
  -- whether the next turn of p passes the test, as 0 or 1
  abbrev pub counted : (Want → ℕ → Bool) → World → ℕ
  counted test w = let wanted = want (process w p).local in if test wanted (loaded_value w wanted) then 1 else 0

  -- Each turn that passes the test takes one from what the attempt has left, and an announcement that is stored gives
  -- a new attempt so many.
  abbrev pub IsPaid : (Want → ℕ → Bool) → ℕ → (Record → ℕ) → Type 0
  IsPaid test each left = (w : World) → IsLawful g w → (process w p).gone ≡ false
      → counted test w + left (next_record g w p) ≤ (if stores_announcement (want (process w p).local) then each else left (process w p).local)

  -- Each turn that passes the test takes one from what the record has left, and nothing gives any.
  abbrev pub IsSpent : (Want → ℕ → Bool) → (Record → ℕ) → Type 0
  IsSpent test left = (w : World) → IsLawful g w → (process w p).gone ≡ false → counted test w + left (next_record g w p) ≤ left (process w p).local

  -- how many announcements an attempt in this phase has still to read
  abbrev pub to_hear : Phase → ℕ
  to_hear (Trying j q) = left_from g p q
  to_hear phase = 0

  -- how many rows an attempt in this phase has still to read to a zero
  abbrev pub to_read : Phase → ℕ
  to_read (Trying j q) = g.workers - 1
  to_read (Reading j q) = left_from g p q
  to_read phase = 0

  -- if a turn takes no more than n from what the next phase has left, whatever that is
  abbrev Pays : ℕ → (Phase → ℕ) → ℕ → Record → Type 0
  Pays spent left n y = spent + left y.phase ≤ n

  pub announcements_paid : IsPaid (λ x v. reads_announcement x) (g.workers - 1) (λ r. to_hear r.phase)
  announcements_paid w law here = go (loaded_value w (want (process w p).local)) (process w p).local refl (process w p).local.phase refl
    where
      go : (v : ℕ) (r : Record) → (process w p).local ≡ r → (phase : Phase) → r.phase ≡ phase
          → Pays (if reads_announcement (want_in r phase) then 1 else 0) to_hear (if stores_announcement (want_in r phase) then g.workers - 1 else to_hear phase) (record_after_phase g p v r phase)
      go v r at (Announcing i) is = at_announcement g p (Pays 0 to_hear (g.workers - 1)) i (next_other p 0) r
          (record { over = omega arith; announcing = λ _. omega arith; claiming = λ _. omega arith }) (omega arith) (omega arith)
      go v r at (Trying i q) is =
          let o = here_is_worker g w p law.size here in
          let fewer = one_fewer g p q o (heard g w p i q law o (ap (λ (x : Record). x.phase) at ∙ is)) in
          at_announcement g p (Pays 1 to_hear (left_from g p q)) i (next_other p q) (record r { tried = with_announced v r.tried })
          (record { over = omega arith; announcing = λ _. omega arith; claiming = λ _. omega arith }) (omega arith) (omega arith)
      go v r at (Reading i q) is = at_reading g p (λ _. Pays 0 to_hear 0) i q v r (record { over = omega arith; announcing = λ _. omega arith; claiming = λ _. omega arith }) (omega arith) (let z = ap to_hear is in omega arith)
      go v r at (Holding i) is = choice_cases g p (record r { dones = r.dones ++ i ∷ []; known = with_number i r.known }) (Pays 0 to_hear 0) (λ _. omega arith) (λ _. omega arith)
      go v r at (Claiming i) is = omega arith
      go v r at phase is = let z = ap to_hear is in omega arith

  pub zeros_paid : IsPaid reads_zero (g.workers - 1) (λ r. to_read r.phase)
  zeros_paid w law here = go (loaded_value w (want (process w p).local)) (process w p).local refl (process w p).local.phase refl
    where
      go : (v : ℕ) (r : Record) → (process w p).local ≡ r → (phase : Phase) → r.phase ≡ phase
          → Pays (if reads_zero (want_in r phase) v then 1 else 0) to_read (if stores_announcement (want_in r phase) then g.workers - 1 else to_read phase) (record_after_phase g p v r phase)
      go v r at (Announcing i) is = at_announcement g p (Pays 0 to_read (g.workers - 1)) i (next_other p 0) r
          (record { over = omega arith; announcing = λ _. omega arith; claiming = λ _. omega arith }) (omega arith) (omega arith)
      go v r at (Trying i q) is = at_announcement g p (Pays 0 to_read (g.workers - 1)) i (next_other p q) (record r { tried = with_announced v r.tried })
          (record { over = omega arith; announcing = λ _. omega arith; claiming = λ _. omega arith }) (omega arith) (omega arith)
      go v r at (Reading i q) is =
          let o = here_is_worker g w p law.size here in
          let fewer = one_fewer g p q o (read_of g w p i q law o (ap (λ (x : Record). x.phase) at ∙ is)) in
          at_reading g p (λ b. Pays (if b then 1 else 0) to_read (left_from g p q)) i q v r
          (record { over = omega arith; announcing = λ _. omega arith; claiming = λ _. omega arith }) (omega arith) (let z = ap to_read is in omega arith)
      go v r at (Holding i) is = choice_cases g p (record r { dones = r.dones ++ i ∷ []; known = with_number i r.known }) (Pays 0 to_read 0) (λ _. omega arith) (λ _. omega arith)
      go v r at (Claiming i) is = omega arith
      go v r at phase is = let z = ap to_read is in omega arith

  pub entries_spent : (q e : ℕ) → IsSpent (reads_entry q e) (λ r. unread_in q e r.fronts)
  entries_spent q e w law here = go r.phase refl
    where
      r : Record
      r = (process w p).local

      v : ℕ
      v = loaded_value w (want r)

      -- no less is unread if the fronts are those of r
      AsBefore : Record → Type 0
      AsBefore y = 0 + unread_in q e y.fronts ≤ unread_in q e r.fronts

      through : (x : Record) → x.fronts ≡ r.fronts → HoldsThrough AsBefore x
      through x same = let z = ap (unread_in q e) same in record { over = omega arith; announcing = λ _. omega arith; claiming = λ _. omega arith }

      go : (phase : Phase) → r.phase ≡ phase → (if reads_entry q e (want_in r phase) v then 1 else 0) + unread_in q e (record_after_phase g p v r phase).fronts ≤ unread_in q e r.fronts
      go (Announcing i) is = at_announcement g p AsBefore i (next_other p 0) r (through r refl) (omega arith) (omega arith)
      go (Trying i q0) is = let x = record r { tried = with_announced v r.tried } in at_announcement g p AsBefore i (next_other p q0) x (through x refl) (omega arith) (omega arith)
      go (Reading i q0) is = read (v == 0)
        where
          front : ℕ
          front = numbered 0 r.fronts q0

          put_here : numbered 0 (put r.fronts q0 (front + 1)) q0 ≡ front + 1
          put_here =
              let o = here_is_worker g w p law.size here in
              let other = read_of g w p i q0 law o is in
              let h = other.worker.high in
              let size = (law.lawful.sound p o).local.fronts in
              numbered-put_same 0 (front + 1) r.fronts q0 other.worker.low (omega arith)

          read : (b : Bool) → (if (q0 == q) && ((front + 1 == e) && not b) then 1 else 0) + unread_in q e (if b then record_at_row g p i (next_other p q0) r else record r { known = with_number v r.known; fronts = put r.fronts q0 (front + 1) }).fronts ≤ unread_in q e r.fronts
          read true = let none = no_entry (q0 == q) (front + 1 == e) in let same = at_row g p AsBefore i (next_other p q0) r (through r refl) (omega arith) in omega arith
          read false = ⊎_elim
              (λ (same : q0 ≡ q). subst (λ x. (if (q0 == x) && ((front + 1 == e) && true) then 1 else 0) + (if nat_le e (numbered 0 (put r.fronts q0 (front + 1)) x) then 0 else 1) ≤ (if nat_le e (numbered 0 r.fronts x) then 0 else 1)) same
              (subst (λ x. (if (q0 == q0) && ((front + 1 == e) && true) then 1 else 0) + (if nat_le e x then 0 else 1) ≤ (if nat_le e front then 0 else 1)) (sym put_here) (an_entry (q0 == q0) front e)))
              (λ (apart : q0 ≢ q). subst (λ x. (if x && ((front + 1 == e) && true) then 1 else 0) + unread_in q e (put r.fronts q0 (front + 1)) ≤ unread_in q e r.fronts) (sym (ne_eqb q0 q apart))
              (subst (λ x. 0 + (if nat_le e x then 0 else 1) ≤ unread_in q e r.fronts) (sym (numbered-put_other 0 (front + 1) r.fronts q0 q (λ s. apart (sym s)))) (omega arith)))
              (cases_eq q0 q)
      go (Claiming i) is = omega arith
      go (Holding i) is = choice_cases g p (record r { dones = r.dones ++ i ∷ []; known = with_number i r.known }) AsBefore (λ _. omega arith) (λ _. omega arith)
      go Over is = omega arith
      go Left is = omega arith

  -- an attempt that goes on went on before, or its announcement is stored
  pub attempt_begun : (w : World) → IsLawful g w → (process w p).gone ≡ false → attempts_going_on (next_record g w p).phase ≤ attempts_going_on (process w p).local.phase + stored w p
  attempt_begun w law here = let begun = go (loaded_value w (want (process w p).local)) (process w p).local (process w p).local.phase refl in omega arith
    where
      go : (v : ℕ) (r : Record) (phase : Phase) → r.phase ≡ phase → Pays 0 attempts_going_on (attempts_going_on phase + (if stores_announcement (want_in r phase) then 1 else 0)) (record_after_phase g p v r phase)
      go v r (Announcing i) is = at_announcement g p (Pays 0 attempts_going_on 1) i (next_other p 0) r (record { over = omega arith; announcing = λ _. omega arith; claiming = λ _. omega arith }) (omega arith) (omega arith)
      go v r (Trying i q) is = at_announcement g p (Pays 0 attempts_going_on 1) i (next_other p q) (record r { tried = with_announced v r.tried }) (record { over = omega arith; announcing = λ _. omega arith; claiming = λ _. omega arith }) (omega arith) (omega arith)
      go v r (Reading i q) is = at_reading g p (λ _. Pays 0 attempts_going_on 1) i q v r (record { over = omega arith; announcing = λ _. omega arith; claiming = λ _. omega arith }) (omega arith) (let z = ap attempts_going_on is in omega arith)
      go v r (Holding i) is = choice_cases g p (record r { dones = r.dones ++ i ∷ []; known = with_number i r.known }) (Pays 0 attempts_going_on 0) (λ _. omega arith) (λ _. omega arith)
      go v r (Claiming i) is = omega arith
      go v r phase is = let z = ap attempts_going_on is in omega arith
