-- A world as a number, counts of steps and history apart.
use Rattle.std.proofs.Common.{◌≡◌, ⊎_elim, ℕ, zero, suc, ◌+◌, ◌<◌, ◌≤◌, Bool, true, false, List, [], ◌∷◌, length, get_or, map, refl, sym, ap, ◌∙◌, subst, arith}
use Rattle.std.specs.Prelude.{if◌then◌else◌, ◌==◌}
use Rattle.std.proofs.lemmas.Bool.{cases_lt}
use Rattle.std.proofs.lemmas.List.{get_or_past, length-map}
use Rattle.amo_sets.specs.Sets.{has}
use Rattle.amo_sets.proofs.Numbers.{has-get_or, get_or-has, length_distinct, count_le_all}
use Rattle.amo_params.specs.Givens.{IsJob, IsWorker, IsOther}
use Rattle.amo_kk.specs.World.{nobody, process}
use Rattle.amo_kk.specs.Lawful.{FitsPhase, IsSoundProcess, IsLawful}
use Rattle.amo_params.specs.declared.givens.Givens.{Givens}
use Rattle.amo_kk.specs.declared.phase.Phase.{Phase}
use Rattle.amo_kk.specs.declared.phase.Phase.TheVariants.{Announcing, Trying, Reading, Claiming, Holding, Over, Left}
use Rattle.amo_kk.specs.declared.model.Process.{Process}
use Rattle.amo_kk.specs.declared.model.World.{World}
use Rattle.amo_kk.proofs.Kept.{done_job}
use Rattle.amo_kk.proofs.Fit.{claims_fit}
use Rattle.amo_bounds.specs.Rest.{without_steps}
use Rattle.amo_bounds.proofs.Still.{view}
use Rattle.amo_bounds.proofs.Digits.{digits, room, AreBelow, digits_same, digits_fit, room_more, below_of, IsRising, rising_distinct}

-- the phase as three small numbers
abbrev phase_digits : Phase → List ℕ
phase_digits (Announcing j) = 1 ∷ j ∷ 0 ∷ []
phase_digits (Trying j q) = 2 ∷ j ∷ q ∷ []
phase_digits (Reading j q) = 3 ∷ j ∷ q ∷ []
phase_digits (Claiming j) = 4 ∷ j ∷ 0 ∷ []
phase_digits (Holding j) = 5 ∷ j ∷ 0 ∷ []
phase_digits Over = 6 ∷ 0 ∷ 0 ∷ []
phase_digits Left = 7 ∷ 0 ∷ 0 ∷ []

abbrev phase_of : ℕ → ℕ → ℕ → Phase
phase_of k j q =
    if k == 1
    then Announcing j
    else (if k == 2
    then Trying j q
    else (if k == 3 then Reading j q else (if k == 4 then Claiming j else (if k == 5 then Holding j else (if k == 6 then Over else Left)))))

phase_back : (phase : Phase) → phase_of (get_or (phase_digits phase) 0 0) (get_or (phase_digits phase) 1 0) (get_or (phase_digits phase) 2 0) ≡ phase
phase_back (Announcing j) = refl
phase_back phase = refl

phase_same : (a b : Phase) → phase_digits a ≡ phase_digits b → a ≡ b
phase_same a b e = sym (phase_back a) ∙ ap (λ l. phase_of (get_or l 0 0) (get_or l 1 0) (get_or l 2 0)) e ∙ phase_back b

abbrev out : Bool → ℕ
out b = if b then 1 else 0

out_back : (b : Bool) → (out b == 1) ≡ b
out_back true = refl
out_back false = refl

-- the bases
abbrev base : Givens → ℕ
base g = g.jobs + g.workers + 10

abbrev list_room : Givens → ℕ
list_room g = room (base g) (base g)

abbrev process_base : Givens → ℕ
process_base g = list_room g + 2

abbrev process_room : Givens → ℕ
process_room g = room (process_base g) 8

abbrev world_base : Givens → ℕ
world_base g = process_room g + 2

-- codes are below this
abbrev pub world_room : Givens → ℕ
world_room g = room (world_base g) g.workers

abbrev code_list : Givens → List ℕ → ℕ
code_list g xs = digits (base g) xs

abbrev process_digits : Givens → Process → List ℕ
process_digits g a =
    code_list g (phase_digits a.local.phase) ∷ code_list g a.local.known ∷ code_list g a.local.tried ∷ code_list g a.local.fronts
    ∷ code_list g a.local.claimed ∷ code_list g a.local.dones ∷ code_list g a.row ∷ code_list g (a.next ∷ a.claim ∷ out a.gone ∷ []) ∷ []

abbrev process_code : Givens → Process → ℕ
process_code g a = digits (process_base g) (process_digits g a)

abbrev pub world_code : Givens → World → ℕ
world_code g w = digits (world_base g) (map (process_code g) w.processes)

-- what is known stands in rising order
abbrev pub IsNeat : World → Type 0
IsNeat w = (q : ℕ) → IsRising (process w q).local.known

-- a short list of small numbers
record IsShort (g : Givens) (xs : List ℕ) : Type 0 where
  short : length xs ≤ base g
  below : AreBelow (base g) xs

-- a process all of whose parts are
record IsSmall (g : Givens) (a : Process) : Type 0 where
  phase : IsShort g (phase_digits a.local.phase)
  known : IsShort g a.local.known
  tried : IsShort g a.local.tried
  fronts : IsShort g a.local.fronts
  claimed : IsShort g a.local.claimed
  dones : IsShort g a.local.dones
  row : IsShort g a.row
  words : IsShort g (a.next ∷ a.claim ∷ out a.gone ∷ [])

code_fits : (g : Givens) (xs : List ℕ) → IsShort g xs → suc (code_list g xs) < process_base g
code_fits g xs s =
    let a = digits_fit (base g) xs s.below in
    let b = room_more (base g) (length xs) (base g) (omega arith) s.short in
    omega arith

digits_below : (g : Givens) (a : Process) → IsSmall g a → AreBelow (process_base g) (process_digits g a)
digits_below g a s = (
  code_fits g (phase_digits a.local.phase) s.phase,
  (
    code_fits g a.local.known s.known,
    (
      code_fits g a.local.tried s.tried,
      (
        code_fits g a.local.fronts s.fronts,
        (
          code_fits g a.local.claimed s.claimed,
          (
            code_fits g a.local.dones s.dones,
            (code_fits g a.row s.row, (code_fits g (a.next ∷ a.claim ∷ out a.gone ∷ []) s.words, tt)),
          ),
        ),
      ),
    ),
  ),
)

process_fits : (g : Givens) (a : Process) → IsSmall g a → suc (process_code g a) < world_base g
process_fits g a s = let f = digits_fit (process_base g) (process_digits g a) (digits_below g a s) in omega arith

-- equal codes, equal processes
process_same : (g : Givens) (a b : Process) → IsSmall g a → IsSmall g b → process_code g a ≡ process_code g b → without_steps a ≡ without_steps b
process_same g a b s t e =
    let ds = digits_same (process_base g) (process_digits g a) (process_digits g b) (digits_below g a s) (digits_below g b t) e in
    let phase = phase_same a.local.phase b.local.phase (digits_same (base g) (phase_digits a.local.phase) (phase_digits b.local.phase) s.phase.below t.phase.below (ap (λ l. get_or l 0 0) ds)) in
    let known = digits_same (base g) a.local.known b.local.known s.known.below t.known.below (ap (λ l. get_or l 1 0) ds) in
    let tried = digits_same (base g) a.local.tried b.local.tried s.tried.below t.tried.below (ap (λ l. get_or l 2 0) ds) in
    let fronts = digits_same (base g) a.local.fronts b.local.fronts s.fronts.below t.fronts.below (ap (λ l. get_or l 3 0) ds) in
    let claimed = digits_same (base g) a.local.claimed b.local.claimed s.claimed.below t.claimed.below (ap (λ l. get_or l 4 0) ds) in
    let dones = digits_same (base g) a.local.dones b.local.dones s.dones.below t.dones.below (ap (λ l. get_or l 5 0) ds) in
    let row = digits_same (base g) a.row b.row s.row.below t.row.below (ap (λ l. get_or l 6 0) ds) in
    let words = digits_same (base g) (a.next ∷ a.claim ∷ out a.gone ∷ []) (b.next ∷ b.claim ∷ out b.gone ∷ []) s.words.below t.words.below (ap (λ l. get_or l 7 0) ds) in
    let gone : a.gone ≡ b.gone = sym (out_back a.gone) ∙ ap (λ l. get_or l 2 0 == 1) words ∙ out_back b.gone in
    λ i. record {
      local = record { phase = phase i; known = known i; tried = tried i; fronts = fronts i; claimed = claimed i; dones = dones i; steps = 0 };
      next = ap (λ l. get_or l 0 0) words i;
      claim = ap (λ l. get_or l 1 0) words i;
      row = row i;
      gone = gone i;
    }

-- workers of lawful worlds are small

of_jobs : (g : Givens) (xs : List ℕ) → ((j : ℕ) → has xs j ≡ true → IsJob g j) → AreBelow (base g) xs
of_jobs g xs h = below_of (base g) xs (λ j t. let m = (h j t).high in omega arith)

module _ (g : Givens) (w : World) (law : IsLawful g w) (neat : IsNeat w) (p : ℕ) (o : IsWorker g p) where
  a : Process
  a = process w p

  s : IsSoundProcess g p (process w p)
  s = law.lawful.sound p o

  phase_small : (phase : Phase) → FitsPhase g p (process w p).local phase → IsShort g (phase_digits phase)
  phase_small (Announcing j) h = let job : IsJob g j = h.0 in let l = job.high in record { short = omega arith; below = (omega arith, (omega arith, (omega arith, tt))) }
  phase_small (Trying j q) h = let job : IsJob g j = h.0 in let l = job.high in let other : IsOther g p q = h.1 in let m = other.worker.high in record { short = omega arith; below = (omega arith, (omega arith, (omega arith, tt))) }
  phase_small (Reading j q) h = let job : IsJob g j = h.0 in let l = job.high in let other : IsOther g p q = h.1 in let m = other.worker.high in record { short = omega arith; below = (omega arith, (omega arith, (omega arith, tt))) }
  phase_small (Claiming j) h = let job : IsJob g j = h.0 in let l = job.high in record { short = omega arith; below = (omega arith, (omega arith, (omega arith, tt))) }
  phase_small (Holding j) h = let job : IsJob g j = h.0 in let l = job.high in record { short = omega arith; below = (omega arith, (omega arith, (omega arith, tt))) }
  phase_small Over h = record { short = omega arith; below = (omega arith, (omega arith, (omega arith, tt))) }
  phase_small Left h = record { short = omega arith; below = (omega arith, (omega arith, (omega arith, tt))) }

  known_job : (j : ℕ) → has (process w p).local.known j ≡ true → IsJob g j
  known_job j h = let d = law.lawful.known p j o h in done_job g (process w) law.lawful p o d.0 j d.1 d.2

  out_small : (b : Bool) → out b ≤ 1
  out_small true = omega arith
  out_small false = omega arith

  small : IsSmall g (process w p)
  small =
      record {
        phase = phase_small (process w p).local.phase s.local.stands;
        known = record {
          short =
              let few = length_distinct (process w p).local.known g.jobs (rising_distinct (process w p).local.known (neat p)) (λ j h. let job = known_job j h in (job.low, job.high)) in
              let most = count_le_all (has (process w p).local.known) g.jobs in
              omega arith;
          below = of_jobs g (process w p).local.known known_job;
        };
        tried = record { short = let l = s.local.tried_few in omega arith; below = of_jobs g (process w p).local.tried s.local.tried_jobs };
        fronts = record {
          short = let l = s.local.fronts in omega arith;
          below = below_of (base g) (process w p).local.fronts (λ j t. let place = get_or-has (process w p).local.fronts j t in let e = place.2 in let m : get_or (process w p).local.fronts place.0 0 ≤ g.jobs = s.local.front (suc place.0) in omega arith);
        };
        claimed = record { short = let l = (claims_fit g p (process w p).local s.local).0 in omega arith; below = of_jobs g (process w p).local.claimed s.local.jobs };
        dones = record { short = let l = (claims_fit g p (process w p).local s.local).1 in omega arith; below = of_jobs g (process w p).local.dones (λ j h. done_job g (process w) law.lawful p o p j o h) };
        row = record {
          short = let l = s.row_length in omega arith;
          below = below_of (base g) (process w p).row (λ j t.
              let place = get_or-has (process w p).row j t in
              let e = place.2 in
              let same = s.row place.0 in
              ⊎_elim
              (λ (l : place.0 < length (process w p).local.dones). let job = done_job g (process w) law.lawful p o p (get_or (process w p).local.dones place.0 0) o (has-get_or (process w p).local.dones place.0 l) in let m = job.high in omega arith)
              (λ l. let z = get_or_past (process w p).local.dones place.0 0 l in omega arith)
              (cases_lt place.0 (length (process w p).local.dones)));
        };
        words = record {
          short = omega arith;
          below = (let m = s.next in omega arith, (let e = s.claim in let l = (claims_fit g p (process w p).local s.local).0 in omega arith, (let b = out_small (process w p).gone in omega arith, tt)));
        };
      }

-- lists of codes

map_below : (f : Process → ℕ) (b : ℕ) (xs : List Process) → ((k : ℕ) → k < length xs → suc (f (get_or xs k nobody)) < b) → AreBelow b (map f xs)
map_below f b [] h = tt
map_below f b (x ∷ xs) h = (h 0 (omega arith), map_below f b xs (λ k l. h (suc k) (omega arith)))

map_at : (f : Process → ℕ) (xs : List Process) (k : ℕ) → k < length xs → get_or (map f xs) k 0 ≡ f (get_or xs k nobody)
map_at f [] k h = absurd (omega arith)
map_at f (x ∷ xs) zero h = refl
map_at f (x ∷ xs) (suc k) h = map_at f xs k (omega arith)

codes_below : (g : Givens) (w : World) → IsLawful g w → IsNeat w → AreBelow (world_base g) (map (process_code g) w.processes)
codes_below g w law neat = map_below (process_code g) (world_base g) w.processes (λ k l.
    let o : IsWorker g (suc k) = record { low = omega arith; high = let e = law.size in omega arith } in
    process_fits g (process w (suc k)) (small g w law neat (suc k) o))

pub code_in_room : (g : Givens) (w : World) → IsLawful g w → IsNeat w → world_code g w < world_room g
code_in_room g w law neat = subst (λ k. world_code g w < room (world_base g) k) (length-map w.processes (process_code g) ∙ law.size)
    (digits_fit (world_base g) (map (process_code g) w.processes) (codes_below g w law neat))

-- equal codes, equal workers
pub code_same : (g : Givens) (w v : World) → IsLawful g w → IsNeat w → IsLawful g v → IsNeat v → world_code g w ≡ world_code g v → (q : ℕ) → view w q ≡ view v q
code_same g w v law neat law' neat' e zero = refl
code_same g w v law neat law' neat' e (suc k) = ⊎_elim
    (λ (l : k < g.workers).
    let o : IsWorker g (suc k) = record { low = omega arith; high = omega arith } in
    let size = law.size in
    let size' = law'.size in
    let codes = digits_same (world_base g) (map (process_code g) w.processes) (map (process_code g) v.processes) (codes_below g w law neat) (codes_below g v law' neat') e in
    process_same g (process w (suc k)) (process v (suc k)) (small g w law neat (suc k) o) (small g v law' neat' (suc k) o)
    (sym (map_at (process_code g) w.processes k (omega arith)) ∙ ap (λ l. get_or l k 0) codes ∙ map_at (process_code g) v.processes k (omega arith)))
    (λ (l : g.workers ≤ k).
    let size = law.size in
    let size' = law'.size in
    ap without_steps (get_or_past w.processes k nobody (omega arith) ∙ sym (get_or_past v.processes k nobody (omega arith))))
    (cases_lt k g.workers)
