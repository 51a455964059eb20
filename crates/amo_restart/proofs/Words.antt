-- A return touches no shared word, needs its own words alone, and may stand at any moment between
-- the moves of others.
use Rattle.std.proofs.Common.{◌≡◌, ◌≢◌, ⊎_elim, ℕ, zero, suc, ◌≤◌, Bool, true, false, List, [], ◌∷◌, ◌++◌, length, get_or, refl, sym, ap, ◌∙◌, subst, arith}
use Rattle.std.specs.Prelude.{if◌then◌else◌, nat_le}
use Rattle.std.proofs.lemmas.Bool.{cases_eq, and_parts, leb-true}
use Rattle.std.proofs.lemmas.List.{set_comm}
use Rattle.amo_sets.specs.Lists.{numbered, put}
use Rattle.amo_sets.proofs.Numbers.{numbered-put_same, numbered-put_other}
use Rattle.amo_params.specs.Givens.{is_within}
use Rattle.amo_kk.specs.Record.{can_leave}
use Rattle.amo_kk.specs.Step.{want, record_after, record_after_leave}
use Rattle.amo_params.specs.Moves.{worker_of}
use Rattle.amo_kk.specs.World.{nobody, process, loaded_value, process_after, world_with, world_after_step, world_after_turn, world_after_halt, world_after_leave, world_after_move}
use Rattle.amo_kk.specs.Words.{words_of}
use Rattle.amo_params.specs.declared.givens.Givens.{Givens}
use Rattle.amo_kk.specs.declared.phase.Want.{Want}
use Rattle.amo_kk.specs.declared.phase.Want.TheVariants.{StoreNext, LoadNext, LoadDone, StoreClaim, StoreDone, Nothing}
use Rattle.amo_kk.specs.declared.model.Process.{Process}
use Rattle.amo_kk.specs.declared.model.World.{World}
use Rattle.amo_kk.specs.declared.event.Event.TheVariants.{Halted, Left}
use Rattle.amo_params.specs.declared.moves.Move.{Move}
use Rattle.amo_params.specs.declared.moves.Move.TheVariants.{Turn, Halt, Leave}
use Rattle.amo_kk.proofs.Words.{map-set_same, flat_map-set_same}
use Rattle.amo_restart.specs.declared.model.Tale.{Tale}
use Rattle.amo_restart.specs.Return.{process_after_return, world_of_tale, tale_after_move, tale_with_return, tale_after_return}

-- the words

put_words : (g : Givens) (xs : List Process) (p : ℕ) → words_of (put xs p (process_after_return g p (numbered nobody xs p))) ≡ words_of xs
put_words g xs zero = refl
put_words g xs (suc k) =
    let b = process_after_return g (suc k) (get_or xs k nobody) in
    (λ i. 0 ∷ map-set_same (λ (a : Process). a.next) xs k b nobody refl i
    ++ (map-set_same (λ (a : Process). a.claim) xs k b nobody refl i ++ flat_map-set_same (λ (a : Process). a.row) xs k b nobody refl i))

pub words_stay : (g : Givens) (t : Tale) (p : ℕ) → words_of (tale_after_return g t p).processes ≡ words_of t.processes
words_stay g t p = go (is_within g.workers p)
  where
    go : (c : Bool) → words_of (if c then tale_with_return g t p (process (world_of_tale t) p) else t).processes ≡ words_of t.processes
    go true = put_words g t.processes p
    go false = refl

-- the process after a return, from the words
abbrev from_words : Givens → ℕ → (next claim : ℕ) → List ℕ → Process
from_words g p next claim row = process_after_return g p (record { local = nobody.local; next = next; claim = claim; row = row; gone = true })

pub own_words : (g : Givens) (p : ℕ) (a b : Process) → a.next ≡ b.next → a.claim ≡ b.claim → a.row ≡ b.row → process_after_return g p a ≡ process_after_return g p b
own_words g p a b n c r = (λ i. from_words g p (n i) (c i) (r i))

-- the moment

swap : (xs : List Process) (p q : ℕ) (b c : Process) → q ≢ p → put (put xs p b) q c ≡ put (put xs q c) p b
swap xs zero q b c n = refl
swap xs (suc k) zero b c n = refl
swap xs (suc k) (suc l) b c n = set_comm xs k l b c (λ e. n (ap suc (sym e)))

module _ (g : Givens) (w : World) (p q : ℕ) (low : 1 ≤ p) (high : p ≤ length w.processes) (n : q ≢ p) where
  abbrev b : Process
  b = process_after_return g p (process w p)

  -- the world after the return
  abbrev after : World
  after = record { processes = put w.processes p b; history = [] }

  other : process after q ≡ process w q
  other = numbered-put_other nobody b w.processes p q n

  here : process after p ≡ b
  here = numbered-put_same nobody b w.processes p low high

  same_at : {X : Type 0} (f : Process → X) → f b ≡ f (process w p) → (i : ℕ) → f (process after i) ≡ f (process w i)
  same_at f e i = ⊎_elim
      (λ (is : i ≡ p). subst (λ x. f (process after x) ≡ f (process w x)) (sym is) (ap f here ∙ e))
      (λ m. ap f (numbered-put_other nobody b w.processes p i m))
      (cases_eq i p)

  loads : (x : Want) → loaded_value after x ≡ loaded_value w x
  loads (LoadNext i) = same_at (λ (a : Process). a.next) refl i
  loads (LoadDone i k) = same_at (λ (a : Process). numbered 0 a.row k) refl i
  loads want = refl

  -- the two orders, where q becomes c
  both : (c d : Process) → c ≡ d → put after.processes q c ≡ put (put w.processes q d) p (process_after_return g p (numbered nobody (put w.processes q d) p))
  both c d e =
      ap (λ x. put after.processes q x) e ∙ swap w.processes p q b d n
      ∙ ap (λ x. put (put w.processes q d) p (process_after_return g p x)) (sym (numbered-put_other nobody d w.processes q p (λ e. n (sym e))))

  -- p after it
  abbrev then_back : World → List Process
  then_back v = put v.processes p (process_after_return g p (process v p))

  abbrev turned : Process → World → Process
  turned a v = process_after (want a.local) a (record_after g q (loaded_value v (want a.local)) a.local)

  turn_swaps : (world_after_turn g after q).processes ≡ then_back (world_after_turn g w q)
  turn_swaps = go (process w q).gone (ap (λ (a : Process). a.gone) other)
    where
      go : (c : Bool) → (process after q).gone ≡ c
          → (if (process after q).gone then after else world_after_step g after q (process after q)).processes ≡ then_back (if c then w else world_after_step g w q (process w q))
      go true e = ap (λ c. (if c then after else world_after_step g after q (process after q)).processes) e
      go false e = ap (λ c. (if c then after else world_after_step g after q (process after q)).processes) e
          ∙ both (turned (process after q) after) (turned (process w q) w)
          (ap (λ a. turned a after) other ∙ ap (λ v. process_after (want (process w q).local) (process w q) (record_after g q v (process w q).local)) (loads (want (process w q).local)))

  halt_swaps : (world_after_halt after q).processes ≡ then_back (world_after_halt w q)
  halt_swaps = go (process w q).gone (ap (λ (a : Process). a.gone) other)
    where
      go : (c : Bool) → (process after q).gone ≡ c
          → (if (process after q).gone then after else world_with after q (record (process after q) { gone = true }) (Halted q ∷ [])).processes
          ≡ then_back (if c then w else world_with w q (record (process w q) { gone = true }) (Halted q ∷ []))
      go true e = ap (λ c. (if c then after else world_with after q (record (process after q) { gone = true }) (Halted q ∷ [])).processes) e
      go false e = ap (λ c. (if c then after else world_with after q (record (process after q) { gone = true }) (Halted q ∷ [])).processes) e
          ∙ both (record (process after q) { gone = true }) (record (process w q) { gone = true }) (ap (λ (a : Process). record a { gone = true }) other)

  abbrev gone_from : Process → Process
  gone_from a = process_after (StoreNext 0) a (record_after_leave a.local)

  leave_swaps : (world_after_leave after q).processes ≡ then_back (world_after_leave w q)
  leave_swaps = go (process w q).gone (can_leave (process w q).local.phase) (ap (λ (a : Process). a.gone) other) (ap (λ (a : Process). can_leave a.local.phase) other)
    where
      by : Bool → Bool → List Process
      by c d = (if c then after else (if d then world_with after q (process_after (StoreNext 0) (process after q) (record_after_leave (process after q).local)) (Left q ∷ []) else after)).processes

      go : (c d : Bool) → (process after q).gone ≡ c → can_leave (process after q).local.phase ≡ d
          → (if (process after q).gone then after else (if can_leave (process after q).local.phase then world_with after q (process_after (StoreNext 0) (process after q) (record_after_leave (process after q).local)) (Left q ∷ []) else after)).processes
          ≡ then_back (if c then w else (if d then world_with w q (process_after (StoreNext 0) (process w q) (record_after_leave (process w q).local)) (Left q ∷ []) else w))
      go true d e f = ap (λ c. by c (can_leave (process after q).local.phase)) e
      go false false e f = (λ i. by (e i) (f i))
      go false true e f = (λ i. by (e i) (f i)) ∙ both (gone_from (process after q)) (gone_from (process w q)) (ap gone_from other)

move_swaps : (g : Givens) (w : World) (p : ℕ) (m : Move) → 1 ≤ p → p ≤ length w.processes → worker_of m ≢ p
    → (world_after_move g (record { processes = put w.processes p (process_after_return g p (process w p)); history = [] }) m).processes
    ≡ put (world_after_move g w m).processes p (process_after_return g p (process (world_after_move g w m) p))
move_swaps g w p (Turn q) low high n = turn_swaps g w p q low high n
move_swaps g w p (Halt q) low high n = halt_swaps g w p q low high n
move_swaps g w p (Leave q) low high n = leave_swaps g w p q low high n

pub any_moment : (g : Givens) (t : Tale) (p : ℕ) (m : Move) → length t.processes ≡ g.workers → worker_of m ≢ p
    → (tale_after_move g (tale_after_return g t p) m).processes ≡ (tale_after_return g (tale_after_move g t m) p).processes
any_moment g t p m size n = go (is_within g.workers p) refl
  where
    go : (c : Bool) → is_within g.workers p ≡ c
        → (tale_after_move g (if c then tale_with_return g t p (process (world_of_tale t) p) else t) m).processes
        ≡ (if c then tale_with_return g (tale_after_move g t m) p (process (world_of_tale (tale_after_move g t m)) p) else tale_after_move g t m).processes
    go false e = refl
    go true e =
        let a = and_parts (nat_le 1 p) (nat_le p g.workers) e in
        let l = leb-true p g.workers a.1 in
        move_swaps g (world_of_tale t) p m (leb-true 1 p a.0) (omega arith) n
