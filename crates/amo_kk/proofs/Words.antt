-- The words of a world in one list: what stands at each number, and what a store changes.
use Rattle.std.proofs.Common.{◌≡◌, ℕ, zero, suc, ◌+◌, ◌-◌, ◌*◌, ◌<◌, ◌≤◌, true, false, List, [], ◌∷◌, ◌++◌, length, get_or, set, refl, sym, ap, ◌∙◌, subst, arith, map}
use Rattle.std.specs.List.{flat_map}
use Rattle.std.proofs.lemmas.List.{get_or_append_left, get_or-append-add, set-append_left, set-append_right, length-map, get_or-map, map-set}
use Rattle.amo_sets.specs.Lists.{numbered, put}
use Rattle.amo_params.specs.Givens.{IsJob, IsWorker, IsOther, others_before}
use Rattle.amo_kk.specs.Record.{can_leave}
use Rattle.amo_kk.specs.Step.{want_in, want, record_after, record_after_leave}
use Rattle.amo_kk.specs.World.{nobody, process, loaded_value, process_after, world_with, world_after_step, world_after_turn, world_after_leave}
use Rattle.amo_kk.specs.Words.{words_of, next_word, claim_word, done_word, loaded_word, words_after}
use Rattle.amo_kk.specs.Lawful.{IsLawful}
use Rattle.std.specs.Prelude.{if◌then◌else◌}
use Rattle.amo_kk.proofs.Worlds.{here_is_worker}
use Rattle.amo_params.specs.declared.givens.Givens.{Givens}
use Rattle.amo_kk.specs.declared.phase.Phase.{Phase}
use Rattle.amo_kk.specs.declared.phase.Phase.TheVariants.{Announcing, Trying, Reading, Claiming, Holding}
use Rattle.amo_kk.specs.declared.model.Record.{Record}
use Rattle.amo_kk.specs.declared.model.World.{World}
use Rattle.amo_kk.specs.declared.event.Event.TheVariants.{Left as LeftEvent}
use Rattle.amo_kk.specs.declared.phase.Want.TheVariants.{StoreNext}
use Rattle.amo_kk.proofs.Kept.{row_room}
use Rattle.amo_kk.specs.declared.model.Process.{Process}

-- rows of one length, one after the other

module _ {X : Type 0} (f : X → List ℕ) (size : ℕ) where
  get_or-rows : (xs : List X) (i k : ℕ) (d : X) → ((i : ℕ) → i < length xs → length (f (get_or xs i d)) ≡ size) → i < length xs → k < size → get_or (flat_map f xs) (i * size + k) 0 ≡ get_or (f (get_or xs i d)) k 0
  get_or-rows [] i k d even h l = absurd (omega arith)
  get_or-rows (x ∷ xs) zero k d even h l =
      let e = even 0 (omega arith) in
      subst (λ n. get_or (f x ++ flat_map f xs) n 0 ≡ get_or (f x) k 0) (omega arith) (get_or_append_left (f x) (flat_map f xs) 0 k (omega arith))
  get_or-rows (x ∷ xs) (suc i) k d even h l =
      let e : length (f x) ≡ size = even 0 (omega arith) in
      let n : length (f x) + (i * size + k) ≡ suc i * size + k = omega arith in
      subst (λ n. get_or (f x ++ flat_map f xs) n 0 ≡ get_or (f (get_or xs i d)) k 0) n
      (get_or-append-add (f x) (flat_map f xs) (i * size + k) 0 ∙ get_or-rows xs i k d (λ j m. even (suc j) (omega arith)) (omega arith) l)

  set-rows : (xs : List X) (i k v : ℕ) (d y : X) → ((i : ℕ) → i < length xs → length (f (get_or xs i d)) ≡ size) → i < length xs → k < size → f y ≡ set (f (get_or xs i d)) k v
      → set (flat_map f xs) (i * size + k) v ≡ flat_map f (set xs i y)
  set-rows [] i k v d y even h l is = absurd (omega arith)
  set-rows (x ∷ xs) zero k v d y even h l is =
      let e : length (f x) ≡ size = even 0 (omega arith) in
      subst (λ n. set (f x ++ flat_map f xs) n v ≡ f y ++ flat_map f xs) (omega arith) (set-append_left (f x) (flat_map f xs) k v (omega arith) ∙ ap (λ l. l ++ flat_map f xs) (sym is))
  set-rows (x ∷ xs) (suc i) k v d y even h l is =
      let e : length (f x) ≡ size = even 0 (omega arith) in
      set-append_right (f x) (flat_map f xs) size (suc i * size + k) v e (omega arith)
      ∙ ap (λ n. f x ++ set (flat_map f xs) n v) (omega arith)
      ∙ ap (λ l. f x ++ l) (set-rows xs i k v d y (λ j m. even (suc j) (omega arith)) (omega arith) l is)

pub flat_map-set_same : {X : Type 0} (f : X → List ℕ) (xs : List X) (i : ℕ) (y d : X) → f y ≡ f (get_or xs i d) → flat_map f (set xs i y) ≡ flat_map f xs
flat_map-set_same f [] i y d e = refl
flat_map-set_same f (x ∷ xs) zero y d e = ap (λ l. l ++ flat_map f xs) e
flat_map-set_same f (x ∷ xs) (suc i) y d e = ap (λ l. f x ++ l) (flat_map-set_same f xs i y d e)

pub map-set_same : {X : Type 0} (f : X → ℕ) (xs : List X) (i : ℕ) (y d : X) → f y ≡ f (get_or xs i d) → map f (set xs i y) ≡ map f xs
map-set_same f [] i y d e = refl
map-set_same f (x ∷ xs) zero y d e = ap (λ n. n ∷ map f xs) e
map-set_same f (x ∷ xs) (suc i) y d e = ap (λ l. f x ∷ l) (map-set_same f xs i y d e)

abbrev nexts : List Process → List ℕ
nexts all = map (λ (a : Process). a.next) all

abbrev claims : List Process → List ℕ
claims all = map (λ (a : Process). a.claim) all

abbrev rows : List Process → List ℕ
rows all = flat_map (λ (a : Process). a.row) all

-- rows of one length
abbrev pub AreEven : Givens → List Process → Process → Type 0
AreEven g all d = (i : ℕ) → i < length all → length (get_or all i d).row ≡ g.jobs + 1

module _ (g : Givens) (all : List Process) (d : Process) (size : length all ≡ g.workers) where
  size_next : length (nexts all) ≡ g.workers
  size_next = length-map all (λ (a : Process). a.next) ∙ size

  size_claim : length (claims all) ≡ g.workers
  size_claim = length-map all (λ (a : Process). a.claim) ∙ size

  pub read_next : (p : ℕ) → 1 ≤ p → p ≤ g.workers → get_or (words_of all) (next_word p) 0 ≡ (numbered d all p).next
  read_next zero l h = absurd (omega arith)
  read_next (suc k) l h =
      get_or_append_left (nexts all) (claims all ++ rows all) 0 k (let e = size_next in omega arith) ∙ get_or-map (λ (a : Process). a.next) all k d 0 (omega arith)

  pub read_claim : (p : ℕ) → 1 ≤ p → p ≤ g.workers → get_or (words_of all) (claim_word g p) 0 ≡ (numbered d all p).claim
  read_claim zero l h = absurd (omega arith)
  read_claim (suc k) l h =
      let n : suc (length (nexts all) + k) ≡ g.workers + suc k = let e = size_next in omega arith in
      subst (λ n. get_or (words_of all) n 0 ≡ (get_or all k d).claim) n
      (get_or-append-add (nexts all) (claims all ++ rows all) k 0 ∙ get_or_append_left (claims all) (rows all) 0 k (let e = size_claim in omega arith) ∙ get_or-map (λ (a : Process). a.claim) all k d 0 (omega arith))

  pub read_done : (p k : ℕ) → AreEven g all d → 1 ≤ p → p ≤ g.workers → 1 ≤ k → k ≤ g.jobs + 1 → get_or (words_of all) (done_word g p k) 0 ≡ numbered 0 (numbered d all p).row k
  read_done zero k even l h a b = absurd (omega arith)
  read_done (suc i) zero even l h a b = absurd (omega arith)
  read_done (suc i) (suc k) even l h a b =
      let at = i * (g.jobs + 1) + k in
      let n : suc (length (nexts all) + (length (claims all) + at)) ≡ done_word g (suc i) (suc k) = let e = size_next in let f = size_claim in let m : suc i - 1 ≡ i = omega arith in rw m (omega arith) in
      subst (λ n. get_or (words_of all) n 0 ≡ get_or (get_or all i d).row k 0) n
      (get_or-append-add (nexts all) (claims all ++ rows all) (length (claims all) + at) 0 ∙ get_or-append-add (claims all) (rows all) at 0
      ∙ get_or-rows (λ (a : Process). a.row) (g.jobs + 1) all i k d even (omega arith) (omega arith))

  pub write_next : (p v : ℕ) (a : Process) → 1 ≤ p → p ≤ g.workers → a.next ≡ v → a.claim ≡ (numbered d all p).claim → a.row ≡ (numbered d all p).row
      → set (words_of all) (next_word p) v ≡ words_of (put all p a)
  write_next zero v a l h is claim row = absurd (omega arith)
  write_next (suc k) v a l h is claim row =
      ap (λ l. 0 ∷ l) (set-append_left (nexts all) (claims all ++ rows all) k v (let e = size_next in omega arith)
      ∙ ap (λ l. l ++ (claims all ++ rows all)) (ap (λ x. set (nexts all) k x) (sym is) ∙ sym (map-set (λ (a : Process). a.next) all k a))
      ∙ ap (λ l. nexts (set all k a) ++ (l ++ rows all)) (sym (map-set_same (λ (a : Process). a.claim) all k a d claim))
      ∙ ap (λ l. nexts (set all k a) ++ (claims (set all k a) ++ l)) (sym (flat_map-set_same (λ (a : Process). a.row) all k a d row)))

  pub write_claim : (p v : ℕ) (a : Process) → 1 ≤ p → p ≤ g.workers → a.next ≡ (numbered d all p).next → a.claim ≡ v → a.row ≡ (numbered d all p).row
      → set (words_of all) (claim_word g p) v ≡ words_of (put all p a)
  write_claim zero v a l h next is row = absurd (omega arith)
  write_claim (suc k) v a l h next is row =
      let n : suc (length (nexts all) + k) ≡ g.workers + suc k = let e = size_next in omega arith in
      subst (λ n. set (words_of all) n v ≡ words_of (set all k a)) n (
      ap (λ l. 0 ∷ l) (set-append_right (nexts all) (claims all ++ rows all) (length (nexts all)) (length (nexts all) + k) v refl (omega arith)
      ∙ ap (λ n. nexts all ++ set (claims all ++ rows all) n v) (omega arith)
      ∙ ap (λ l. nexts all ++ l) (set-append_left (claims all) (rows all) k v (let e = size_claim in omega arith))
      ∙ ap (λ l. nexts all ++ (l ++ rows all)) (ap (λ x. set (claims all) k x) (sym is) ∙ sym (map-set (λ (a : Process). a.claim) all k a))
      ∙ ap (λ l. l ++ (claims (set all k a) ++ rows all)) (sym (map-set_same (λ (a : Process). a.next) all k a d next))
      ∙ ap (λ l. nexts (set all k a) ++ (claims (set all k a) ++ l)) (sym (flat_map-set_same (λ (a : Process). a.row) all k a d row))))

  pub write_done : (p k v : ℕ) (a : Process) → AreEven g all d → 1 ≤ p → p ≤ g.workers → 1 ≤ k → k ≤ g.jobs + 1
      → a.next ≡ (numbered d all p).next → a.claim ≡ (numbered d all p).claim → a.row ≡ put (numbered d all p).row k v
      → set (words_of all) (done_word g p k) v ≡ words_of (put all p a)
  write_done zero k v a even l h b c next claim is = absurd (omega arith)
  write_done (suc i) zero v a even l h b c next claim is = absurd (omega arith)
  write_done (suc i) (suc k) v a even l h b c next claim is =
      let at = i * (g.jobs + 1) + k in
      let n : suc (length (nexts all) + (length (claims all) + at)) ≡ done_word g (suc i) (suc k) = let e = size_next in let f = size_claim in let m : suc i - 1 ≡ i = omega arith in rw m (omega arith) in
      subst (λ n. set (words_of all) n v ≡ words_of (set all i a)) n (
      ap (λ l. 0 ∷ l) (set-append_right (nexts all) (claims all ++ rows all) (length (nexts all)) (length (nexts all) + (length (claims all) + at)) v refl (omega arith)
      ∙ ap (λ n. nexts all ++ set (claims all ++ rows all) n v) (omega arith)
      ∙ ap (λ l. nexts all ++ l) (set-append_right (claims all) (rows all) (length (claims all)) (length (claims all) + at) v refl (omega arith)
      ∙ ap (λ n. claims all ++ set (rows all) n v) (omega arith)
      ∙ ap (λ l. claims all ++ l) (set-rows (λ (a : Process). a.row) (g.jobs + 1) all i k v d a even (omega arith) (omega arith) is))
      ∙ ap (λ l. l ++ (claims all ++ rows (set all i a))) (sym (map-set_same (λ (a : Process). a.next) all i a d next))
      ∙ ap (λ l. nexts (set all i a) ++ (l ++ rows (set all i a))) (sym (map-set_same (λ (a : Process). a.claim) all i a d claim))))

  pub keep_words : (p : ℕ) (a : Process) → 1 ≤ p → a.next ≡ (numbered d all p).next → a.claim ≡ (numbered d all p).claim → a.row ≡ (numbered d all p).row → words_of (put all p a) ≡ words_of all
  keep_words zero a l next claim row = refl
  keep_words (suc k) a l next claim row =
      ap (λ l. 0 ∷ l) (ap (λ l. l ++ (claims (set all k a) ++ rows (set all k a))) (map-set_same (λ (a : Process). a.next) all k a d next)
      ∙ ap (λ l. nexts all ++ (l ++ rows (set all k a))) (map-set_same (λ (a : Process). a.claim) all k a d claim)
      ∙ ap (λ l. nexts all ++ (claims all ++ l)) (flat_map-set_same (λ (a : Process). a.row) all k a d row))

module _ (g : Givens) (w : World) (law : IsLawful g w) (p : ℕ) (o : IsWorker g p) where
  even : AreEven g w.processes nobody
  even i h = (law.lawful.sound (suc i) (record { low = omega arith; high = let e = law.size in omega arith })).row_length

  -- a turn's store is one write into the list of words
  pub turn_stores : words_of (world_after_step g w p (process w p)).processes ≡ words_after g p (want (process w p).local) (words_of w.processes)
  turn_stores = go (process w p).local.phase
    where
      x : Record
      x = record_after g p (loaded_value w (want (process w p).local)) (process w p).local

      go : (phase : Phase) → words_of (put w.processes p (process_after (want_in (process w p).local phase) (process w p) x)) ≡ words_after g p (want_in (process w p).local phase) (words_of w.processes)
      go (Announcing j) = sym (write_next g w.processes nobody law.size p j _ o.low o.high refl refl refl)
      go (Claiming j) = sym (write_claim g w.processes nobody law.size p (length (process w p).local.claimed + 1) _ o.low o.high refl refl refl)
      go (Holding j) = sym (write_done g w.processes nobody law.size p (length (process w p).local.dones + 1) j _ even o.low o.high (omega arith) (let r = row_room g (process w) law.lawful p o in omega arith) refl refl refl)
      go phase = keep_words g w.processes nobody law.size p _ o.low refl refl refl

  -- leaving is one write too
  pub leave_stores : words_of (world_with w p (process_after (StoreNext 0) (process w p) (record_after_leave (process w p).local)) (LeftEvent p ∷ [])).processes ≡ words_after g p (StoreNext 0) (words_of w.processes)
  leave_stores = sym (write_next g w.processes nobody law.size p 0 _ o.low o.high refl refl refl)

  -- what it loads is what stands there
  pub turn_loads_next : (j q : ℕ) → (process w p).local.phase ≡ Trying j q → loaded_value w (want (process w p).local) ≡ get_or (words_of w.processes) (next_word q) 0
  turn_loads_next j q is =
      let stands : IsJob g j × IsOther g p q × (length (process w p).local.tried ≤ others_before p q) = rw is at (law.lawful.sound p o).local.stands in
      ap (λ phase. loaded_value w (want_in (process w p).local phase)) is ∙ sym (read_next g w.processes nobody law.size q stands.1.worker.low stands.1.worker.high)

  pub turn_loads_done : (j q : ℕ) → (process w p).local.phase ≡ Reading j q → loaded_value w (want (process w p).local) ≡ get_or (words_of w.processes) (done_word g q (numbered 0 (process w p).local.fronts q + 1)) 0
  turn_loads_done j q is =
      let stands : IsJob g j × IsOther g p q = rw is at (law.lawful.sound p o).local.stands in
      let front : numbered 0 (process w p).local.fronts q ≤ length (process w q).local.dones = (law.lawful.apart p q o stands.1).front in
      let room : length (process w q).local.dones ≤ g.jobs = row_room g (process w) law.lawful q stands.1.worker in
      ap (λ phase. loaded_value w (want_in (process w p).local phase)) is
      ∙ sym (read_done g w.processes nobody law.size q (numbered 0 (process w p).local.fronts q + 1) even stands.1.worker.low stands.1.worker.high (omega arith) (omega arith))

  pub turn_loads : loaded_value w (want (process w p).local) ≡ get_or (words_of w.processes) (loaded_word g (want (process w p).local)) 0
  turn_loads = go (process w p).local.phase refl
    where
      r : Record
      r = (process w p).local

      go : (phase : Phase) → r.phase ≡ phase → loaded_value w (want_in r r.phase) ≡ get_or (words_of w.processes) (loaded_word g (want_in r r.phase)) 0
      go (Trying j q) is = turn_loads_next j q is ∙ sym (ap (λ x. get_or (words_of w.processes) (loaded_word g (want_in r x)) 0) is)
      go (Reading j q) is = turn_loads_done j q is ∙ sym (ap (λ x. get_or (words_of w.processes) (loaded_word g (want_in r x)) 0) is)
      go phase is = subst (λ x. loaded_value w (want_in r x) ≡ get_or (words_of w.processes) (loaded_word g (want_in r x)) 0) (sym is) refl

pub turn_writes : (g : Givens) (w : World) (law : IsLawful g w) (p : ℕ) → (process w p).gone ≡ false → words_of (world_after_turn g w p).processes ≡ words_after g p (want (process w p).local) (words_of w.processes)
turn_writes g w law p here = ap (λ b. words_of (if b then w else world_after_step g w p (process w p)).processes) here ∙ turn_stores g w law p (here_is_worker g w p law.size here)

pub leave_writes : (g : Givens) (w : World) (law : IsLawful g w) (p : ℕ) → (process w p).gone ≡ false → can_leave (process w p).local.phase ≡ true → words_of (world_after_leave w p).processes ≡ words_after g p (StoreNext 0) (words_of w.processes)
leave_writes g w law p here may =
    ap (λ b. words_of (if b then w else (if can_leave (process w p).local.phase then world_with w p (process_after (StoreNext 0) (process w p) (record_after_leave (process w p).local)) (LeftEvent p ∷ []) else w)).processes) here
    ∙ ap (λ b. words_of (if b then world_with w p (process_after (StoreNext 0) (process w p) (record_after_leave (process w p).local)) (LeftEvent p ∷ []) else w).processes) may
    ∙ leave_stores g w law p (here_is_worker g w p law.size here)
