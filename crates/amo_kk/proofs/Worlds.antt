-- The opening world is lawful, and each turn and each stop keeps that.
use Rattle.std.proofs.Common.{◌≡◌, ⊎_elim, ℕ, zero, suc, ◌+◌, ◌<◌, ◌≤◌, Bool, true, false, List, [], ◌∷◌, length, get_or, replicate, refl, sym, ap, ◌∙◌, subst, arith}
use Rattle.std.specs.Prelude.{if◌then◌else◌}
use Rattle.std.proofs.lemmas.Bool.{cases_lt, true≢false}
use Rattle.std.proofs.lemmas.List.{get_or_past, get_or-replicate, length-replicate}
use Rattle.amo_sets.specs.Lists.{numbered, put, table}
use Rattle.amo_sets.specs.Sets.{has}
use Rattle.amo_params.specs.Givens.{AreGivens, IsWorker}
use Rattle.amo_kk.specs.Record.{empty_record, wants_nothing, can_leave, jobs_in_hand, IsPast}
use Rattle.amo_kk.specs.Choice.{chosen_job, first_record}
use Rattle.amo_kk.specs.Step.{want, record_after, record_after_leave}
use Rattle.amo_kk.specs.World.{nobody, process, loaded_value, process_after, world_with, world_after_step, world_after_turn, world_after_halt, world_after_leave, world_after_move, world_after_moves, first_process, opening_world, world_of}
use Rattle.amo_kk.specs.Lawful.{Announces, IsSoundRecord, IsSoundProcess, IsSoundTowards, IsLawful}
use Rattle.amo_params.specs.declared.givens.Givens.{Givens}
use Rattle.amo_kk.specs.declared.phase.Phase.{Phase}
use Rattle.amo_kk.specs.declared.phase.Phase.TheVariants.{Announcing, Holding, Over}
use Rattle.amo_kk.specs.declared.model.Record.{Record}
use Rattle.amo_kk.specs.declared.phase.Want.{Want}
use Rattle.amo_kk.specs.declared.phase.Want.TheVariants.{StoreNext, LoadNext, LoadDone}
use Rattle.amo_kk.specs.declared.model.Process.{Process}
use Rattle.amo_kk.specs.declared.model.World.{World}
use Rattle.amo_kk.specs.declared.event.Event.TheVariants.{Halted, Left as LeftEvent}
use Rattle.amo_params.specs.declared.moves.Move.{Move}
use Rattle.amo_params.specs.declared.moves.Move.TheVariants.{Turn, Halt, Leave}
use Rattle.amo_sets.proofs.Numbers.{numbered-put_same, numbered-put_other, length-put, length-table}
use Rattle.amo_sets.proofs.Tables.{numbered-table, numbered-table_same}
use Rattle.amo_kk.proofs.Choice.{choice_cases}
use Rattle.amo_kk.proofs.Fit.{first_fit}
use Rattle.amo_kk.proofs.Kept.{IsKept, Hears, turns, stops, leaves, lawful_put}

zeros : (n k : ℕ) → get_or {A = ℕ} (replicate n 0) k 0 ≡ 0
zeros n k = ⊎_elim (λ (l : k < n). get_or-replicate n k 0 0 l) (λ (l : n ≤ k). get_or_past (replicate n 0) k 0 (let e : length (replicate {A = ℕ} n 0) ≡ n = length-replicate n 0 in omega arith)) (cases_lt k n)

-- whoever isn't gone is a worker
pub here_is_worker : (g : Givens) (w : World) (p : ℕ) → length w.processes ≡ g.workers → (process w p).gone ≡ false → IsWorker g p
here_is_worker g w zero size h = absurd (true≢false h)
here_is_worker g w (suc k) size h = ⊎_elim
    (λ (l : k < length w.processes). record { low = omega arith; high = omega arith })
    (λ (l : length w.processes ≤ k). absurd (true≢false (sym (ap (λ (x : Process). x.gone) (get_or_past w.processes k nobody l)) ∙ h)))
    (cases_lt k (length w.processes))

pub hears : (w : World) (x : Want) → Hears (process w) x (loaded_value w x)
hears w (LoadNext q) = refl
hears w (LoadDone q k) = refl
hears w want = tt

-- a process that takes the place of another
pub put_here : (g : Givens) (w : World) (p : ℕ) (a : Process) → length w.processes ≡ g.workers → IsWorker g p → numbered nobody (put w.processes p a) p ≡ a
put_here g w p a size o = numbered-put_same nobody a w.processes p o.low (let h = o.high in omega arith)

pub kept_lawful : (g : Givens) (w v : World) (p : ℕ) (a : Process) → IsLawful g w → IsWorker g p → IsKept g (process w) p a → v.processes ≡ put w.processes p a → IsLawful g v
kept_lawful g w v p a law o kept is =
    record {
      size = ap length is ∙ length-put a w.processes p ∙ law.size;
      lawful = lawful_put g (process w) p a (process v) law.lawful o kept
          (ap (λ l. numbered nobody l p) is ∙ put_here g w p a law.size o)
          (λ q n. ap (λ l. numbered nobody l q) is ∙ numbered-put_other nobody a w.processes p q n);
    }

-- a worker in its turn
pub turned_kept : (g : Givens) (w : World) (p : ℕ) → AreGivens g → IsLawful g w → (o : IsWorker g p) → (process w p).gone ≡ false
    → IsKept g (process w) p (let a = process w p in process_after (want a.local) a (record_after g p (loaded_value w (want a.local)) a.local))
turned_kept g w p ok law o here = turns g (process w) law.lawful p o (loaded_value w (want (process w p).local)) ok.beta_low here (hears w (want (process w p).local))

pub turn_lawful : (g : Givens) (w : World) (p : ℕ) → AreGivens g → IsLawful g w → IsLawful g (world_after_turn g w p)
turn_lawful g w p ok law = go (process w p).gone refl
  where
    go : (b : Bool) → (process w p).gone ≡ b → IsLawful g (if b then w else world_after_step g w p (process w p))
    go true e = law
    go false e =
        let o = here_is_worker g w p law.size e in
        kept_lawful g w (world_after_step g w p (process w p)) p (let a = process w p in process_after (want a.local) a (record_after g p (loaded_value w (want a.local)) a.local)) law o (turned_kept g w p ok law o e) refl

pub halt_lawful : (g : Givens) (w : World) (p : ℕ) → IsLawful g w → IsLawful g (world_after_halt w p)
halt_lawful g w p law = go (process w p).gone refl
  where
    go : (b : Bool) → (process w p).gone ≡ b → IsLawful g (if b then w else world_with w p (record (process w p) { gone = true }) (Halted p ∷ []))
    go true e = law
    go false e =
        let o = here_is_worker g w p law.size e in
        kept_lawful g w (world_with w p (record (process w p) { gone = true }) (Halted p ∷ [])) p (record (process w p) { gone = true }) law o (stops g (process w) law.lawful p o) refl

-- who may leave has nothing in its hand
pub leaves_empty : (phase : Phase) → can_leave phase ≡ true → jobs_in_hand phase ≡ []
leaves_empty (Holding j) h = absurd (true≢false (sym h))
leaves_empty phase h = refl

pub leave_lawful : (g : Givens) (w : World) (p : ℕ) → IsLawful g w → IsLawful g (world_after_leave w p)
leave_lawful g w p law = go (process w p).gone (can_leave (process w p).local.phase) refl refl
  where
    go : (b c : Bool) → (process w p).gone ≡ b → can_leave (process w p).local.phase ≡ c → IsLawful g (if b then w else (if c then world_with w p (process_after (StoreNext 0) (process w p) (record_after_leave (process w p).local)) (LeftEvent p ∷ []) else w))
    go true c e f = law
    go false false e f = law
    go false true e f =
        let o = here_is_worker g w p law.size e in
        kept_lawful g w (world_with w p (process_after (StoreNext 0) (process w p) (record_after_leave (process w p).local)) (LeftEvent p ∷ [])) p (process_after (StoreNext 0) (process w p) (record_after_leave (process w p).local)) law o (leaves g (process w) law.lawful p o (leaves_empty (process w p).local.phase f)) refl

pub move_lawful : (g : Givens) (w : World) (m : Move) → AreGivens g → IsLawful g w → IsLawful g (world_after_move g w m)
move_lawful g w (Turn p) ok law = turn_lawful g w p ok law
move_lawful g w (Halt p) ok law = halt_lawful g w p law
move_lawful g w (Leave p) ok law = leave_lawful g w p law

pub worlds_lawful : (g : Givens) (w : World) (ms : List Move) → AreGivens g → IsLawful g w → IsLawful g (world_after_moves g w ms)
worlds_lawful g w [] ok law = law
worlds_lawful g w (m ∷ ms) ok law = worlds_lawful g (world_after_move g w m) ms ok (move_lawful g w m ok law)

-- the opening world

-- a first record, and a process with it
record IsFirst (g : Givens) (p : ℕ) (r : Record) : Type 0 where
  sound : IsSoundProcess g p (record { local = r; next = 0; claim = 0; row = replicate (g.jobs + 1) 0; gone = wants_nothing r.phase })
  apart : (q : ℕ) (s : Record) → IsSoundTowards p r q s
  nothing : (j : ℕ) → has r.known j ≡ false

first_is : (g : Givens) (p : ℕ) → AreGivens g → IsWorker g p → IsFirst g p (first_record g p)
first_is g p ok o = choice_cases g p (empty_record g) (λ r. IsSoundRecord g p r → IsFirst g p r) (λ few. one Over tt (λ q j c. c)) (λ many. one (Announcing (chosen_job g p (empty_record g))) tt (λ q j c. c)) (first_fit g ok p o)
  where
    zero_front : (q : ℕ) → numbered {X = ℕ} 0 (table g.workers (λ _. 0)) q ≡ 0
    zero_front q = numbered-table_same 0 g.workers q

    one : (phase : Phase) → Announces phase 0 → ((q j : ℕ) → IsPast phase q j → ⊥) → IsSoundRecord g p (record (empty_record g) { phase = phase }) → IsFirst g p (record (empty_record g) { phase = phase })
    one phase announces fresh sound =
        record {
          sound = record {
            local = sound;
            announces = announces;
            next = omega arith;
            claim = refl;
            row_length = length-replicate (g.jobs + 1) 0;
            row = λ k. zeros (g.jobs + 1) k;
            gone = λ h. h;
          };
          apart = λ q s. record {
            claims = λ j h. absurd (true≢false (sym h));
            front = let z = zero_front q in omega arith;
            read = λ k h. absurd (let z = zero_front q in omega arith);
            clear = λ j c. absurd (fresh q j c.0);
          };
          nothing = λ j. refl;
        }

pub opening_lawful : (g : Givens) → AreGivens g → IsLawful g (opening_world g)
opening_lawful g ok =
    record {
      size = length-table (first_process g) g.workers;
      lawful = record {
        sound = λ p o. subst (λ x. IsSoundProcess g p x) (sym (at p o)) (first_is g p ok o).sound;
        apart = λ p q o other. subst (λ x. IsSoundTowards p x.local q (process (opening_world g) q).local) (sym (at p o)) ((first_is g p ok o).apart q (process (opening_world g) q).local);
        known = λ p j o h. absurd (true≢false (sym (subst (λ x. has x.local.known j ≡ true) (at p o) h) ∙ (first_is g p ok o).nothing j));
      };
    }
  where
    at : (p : ℕ) → IsWorker g p → process (opening_world g) p ≡ first_process g p
    at p o = numbered-table nobody (first_process g) g.workers p o.low o.high

pub always_lawful : (g : Givens) (ms : List Move) → AreGivens g → IsLawful g (world_of g ms)
always_lawful g ms ok = worlds_lawful g (opening_world g) ms ok (opening_lawful g ok)
