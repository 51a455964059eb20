-- The free jobs one at a time, the closed table, and how many jobs are done if a worker has ended.
use Rattle.std.proofs.Common.{◌≡◌, ⊎_elim, ℕ, zero, suc, ◌+◌, ◌-◌, ◌<◌, ◌≤◌, ◌==◌, Bool, true, false, ◌||◌, List, [], ◌∷◌, ◌++◌, length, get_or, set, take, drop, map, refl, sym, ap, ◌∙◌, subst, arith, eq-eqb, ne_eqb, Option, Some, append_assoc, Vec, Global}
use Rattle.std.specs.Prelude.{if◌then◌else◌}
use Rattle.std.specs.List.{sum_by}
use Rattle.std.proofs.lemmas.List.Sums.{sum_by-cons}
use Rattle.std.proofs.lemmas.Bool.{cases_Bool, true≢false, or_right}
use Rattle.std.proofs.lemmas.List.{take_more, get_or-set_same, get_or-set_other, map-append}
use mathlib.Core.Logic.{dite}
use native.Mathlib.Decide.{ℕ_discrete}
use mathlib.Core.Option.{some, some-injective}
use lib.ListN.{get_elem?}
use Rattle.atomic_table.specs.Table.{Final, Seen}
use Rattle.atomic_table.proofs.Lists.{drop_at}
use Rattle.amo_sets.specs.Lists.{numbered}
use Rattle.amo_sets.specs.Sets.{has}
use Rattle.amo_sets.proofs.Numbers.{has-append}
use Rattle.amo_params.specs.Givens.{bound}
use Rattle.amo_kk.specs.Record.{is_over}
use Rattle.amo_kk.specs.World.{nobody, world_of}
use Rattle.amo_kk.specs.Words.{words_of}
use Rattle.amo_kk.specs.Lawful.{IsLawful}
use Rattle.amo_kk.specs.Machine.{LocalView}
use Rattle.amo_params.specs.declared.givens.Givens.{Givens}
use Rattle.amo_params.specs.declared.moves.Move.{Move}
use Rattle.amo_kk.specs.declared.model.Process.{Process}
use Rattle.amo_words.specs.declared.rule.Role.TheVariants.{Keeping}
use Rattle.amo_words.specs.declared.rule.Spot.{Spot}
use Rattle.amo_words.specs.declared.rule.View.{View}
use Rattle.amo_words.specs.declared.rule.Key.{Key}
use Rattle.amo_words.specs.Logs.{is_claimed}
use Rattle.amo_words.specs.Rule.{AllStand, HoldsAll, IsOf, IsKept, home_of}
use Rattle.amo_words.specs.Looking.{IsBack}
use Rattle.amo_words.specs.Settling.{HasFree, AreMarked, IsClosed, any_has, claims_of, dones_of, free_of, job_count, book_view}
use Rattle.amo_words.specs.Faces.{AreShown}
use Rattle.amo_words.proofs.Meetings.{late_back}
use Rattle.amo_words.proofs.Worlds.{lawful}
use Rattle.amo_words.proofs.Turns.{some_at}
use Rattle.amo_words.proofs.Lifts.{is_placing, lift_final}

pub any_claimed : (all : List Process) (j : ℕ) → any_has (claims_of all) j ≡ is_claimed all j
any_claimed [] j = refl
any_claimed (a ∷ all) j = ap (λ b. has a.local.claimed j || b) (any_claimed all j)

module _ {P : Type 0} (all : List Process) where
  choose : (b : Bool) (acc acc' : List (ℕ × P)) (j : ℕ) (x : P) (more : List (ℕ × P)) → (b ≡ true → acc' ≡ acc) → (b ≡ false → acc' ≡ acc ++ (j, x) ∷ []) → acc' ++ more ≡ acc ++ (if b then more else (j, x) ∷ more)
  choose true acc acc' j x more a n = ap (λ l. l ++ more) (a refl)
  choose false acc acc' j x more a n = ap (λ l. l ++ more) (n refl) ∙ append_assoc acc ((j, x) ∷ []) more

  one_more : (i : ℕ) (acc acc' : List (ℕ × P)) (payloads : List P) (x : P) (whole : List (ℕ × P)) → get_elem? payloads i ≡ some x
      → (is_claimed all (i + 1) ≡ true → acc' ≡ acc) → (is_claimed all (i + 1) ≡ false → acc' ≡ acc ++ (i + 1, x) ∷ [])
      → acc ++ free_of all (i + 1) (drop i payloads) ≡ whole → acc' ++ free_of all (i + 1 + 1) (drop (i + 1) payloads) ≡ whole
  one_more i acc acc' payloads x whole at taken free h =
      let next : suc (i + 1) ≡ i + 1 + 1 = omega arith in
      let step : suc i ≡ i + 1 = omega arith in
      let rest : List (ℕ × P) = free_of all (i + 1 + 1) (drop (i + 1) payloads) in
      let opened : free_of all (i + 1) (drop i payloads) ≡ (if is_claimed all (i + 1) then rest else (i + 1, x) ∷ rest) =
      ap (free_of all (i + 1)) (drop_at payloads i x at) ∙ (λ c. if is_claimed all (i + 1) then free_of all (next c) (drop (step c) payloads) else (i + 1, x) ∷ free_of all (next c) (drop (step c) payloads)) in
      choose (is_claimed all (i + 1)) acc acc' (i + 1) x rest taken free ∙ ap (λ l. acc ++ l) (sym opened) ∙ h

-- one slot more
pub passes : {P : Type 0} (g : Givens) (marks : List Bool) (slots : List (Option P)) (i : ℕ) (slot : Option P) (claimed : Bool) (acc acc' : List (ℕ × P))
    → i < g.jobs → get_elem? slots i ≡ some slot → claimed ≡ get_or marks i false
    → (claimed ≡ true → acc' ≡ acc) → ((x : P) → claimed ≡ false → slot ≡ Some x → acc' ≡ acc ++ (i + 1, x) ∷ [])
    → (all : List Process) (payloads : List P) → HasFree g all payloads slots → AreMarked g all marks
    → acc ++ free_of all (i + 1) (drop i payloads) ≡ free_of all 1 payloads
    → acc' ++ free_of all (i + 1 + 1) (drop (i + 1) payloads) ≡ free_of all 1 payloads
passes {P} g marks slots i slot claimed acc acc' inside here tells taken free all payloads s is h =
    let n = s.0 in let y = some_at payloads i (omega arith) in
    let same : claimed ≡ is_claimed all (i + 1) = tells ∙ is i inside in
    one_more all i acc acc' payloads y.0 (free_of all 1 payloads) y.1 (λ e. taken (same ∙ e)) (λ e. free y.0 (same ∙ e) (some-injective slot (Some y.0) (sym here ∙ s.1 i y.0 y.1 e))) h

-- what all processes of a log show
pub all_shown : (g : Givens) (log : List Move) (words : List ℕ) → words ≡ words_of (world_of g log).processes → AreShown g (world_of g log).processes words
all_shown g log words is = let law : IsLawful g (world_of g log) = lawful g log in record { size = law.size; sound = λ p o. law.lawful.sound p o; shown = is }

module _ {P : Type 0} (k : Key P) where
  -- the closed table, if the registry's view was v
  pub settles : (id : ℕ) (v : View P) (spots : List Spot) (words : List ℕ) (slots : List (Option P)) → v.role ≡ Keeping spots → v.moves ≡ [] → Final (Seen (IsKept k) id v) words slots
      → (v.givens ≡ k.givens) × IsClosed v.givens v.payloads v.seen spots words slots × Final (Seen (IsKept k) id (book_view v.givens v.payloads v.seen spots)) words slots
  settles id v spots words slots is none f' = let f = lift_final k id v words slots (ap is_placing is) f' in let s = f.0 in let h = f.1.0 in let g = k.givens in let xs = k.payloads.value.items in
      let b = subst (λ ro. IsOf g xs h.log v ro × HoldsAll g h.log v.seen h.seat id ro) is (h.views id v f.1.1) in (
        b.0.0,
        subst (λ (z : Givens × List P). IsClosed z.0 z.1 v.seen spots words slots) (λ c. (sym b.0.0 c, sym b.0.1 c))
            (record {
              log = h.log;
              turns = h.own;
              begins = b.0.2;
              stand = b.1.0;
              shown = all_shown g h.log words (sym f.2 ∙ h.words);
              free = (h.count, λ j x at free. f.4 j (Some x) (h.slots.1 j x at ∙ ap (λ q. some (home_of q x)) free));
            }),
        subst (λ (u : View P). Final (Seen (IsKept k) id u) words slots) (λ c. record v { moves = none c; role = is c }) f',
      )

-- enough jobs are done if a worker has ended

count_all : (all : List Process) → sum_by (λ (a : Process). length a.local.dones) all ≡ job_count (dones_of all)
count_all [] = refl
count_all (a ∷ all) =
    sum_by-cons (λ (b : Process). length b.local.dones) a all
    ∙ ap (λ n. length a.local.dones + n) (count_all all)
    ∙ sym (sum_by-cons (λ (xs : List ℕ). length xs) a.local.dones (dones_of all))

-- if a worker that came back has ended
pub enough : (g : Givens) (log : List Move) (spots : List Spot) → AllStand g log spots → (p : ℕ) (l : LocalView) → IsBack spots p l → is_over l.state.phase ≡ true → bound g ≤ job_count (dones_of (world_of g log).processes)
enough g log spots stand p l back ended = subst (λ n. bound g ≤ n) (count_all (world_of g log).processes) (late_back g log spots stand p l back ended)

-- marks

or_two : (a b c : Bool) → c ≡ false → (a || b) ≡ (a || (b || (c || false)))
or_two a b c h = grind arith

or_now : (a b c : Bool) → c ≡ true → true ≡ (a || (b || (c || false)))
or_now a b c h = grind arith

pub mark_more : (xs : List ℕ) (i x : ℕ) (start marks : List Bool) → i < length xs → x ≡ get_or xs i 0 → 1 ≤ x → x ≤ length start → length marks ≡ length start
    → ((k : ℕ) → k < length start → get_or marks k false ≡ (get_or start k false || has (take i xs) (k + 1)))
    → (k : ℕ) → k < length start → get_or (set marks (x - 1) true) k false ≡ (get_or start k false || has (take (i + 1) xs) (k + 1))
mark_more xs i x start marks inside is low high size h k l =
    let more : has (take (i + 1) xs) (k + 1) ≡ (has (take i xs) (k + 1) || ((x == k + 1) || false)) =
    ap (λ ys. has ys (k + 1)) (take_more xs i 0 inside ∙ ap (λ y. take i xs ++ y ∷ []) (sym is)) ∙ has-append (take i xs) (x ∷ []) (k + 1) in
    dite (ℕ_discrete k (x - 1))
    (λ e. ap (λ n. get_or (set marks (x - 1) true) n false) e ∙ get_or-set_same marks (x - 1) true false (omega arith) ∙ or_now (get_or start k false) (has (take i xs) (k + 1)) (x == k + 1) (eq-eqb x (k + 1) (omega arith))
    ∙ ap (λ b. get_or start k false || b) (sym more))
    (λ n. get_or-set_other marks (x - 1) k true false n ∙ h k l ∙ or_two (get_or start k false) (has (take i xs) (k + 1)) (x == k + 1) (ne_eqb x (k + 1) (λ e. n (omega arith)))
    ∙ ap (λ b. get_or start k false || b) (sym more))

-- who has claimed a job
any_who : (all : List Process) (j : ℕ) → any_has (claims_of all) j ≡ true → (p : ℕ) × (1 ≤ p) × (p ≤ length all) × (has (numbered nobody all p).local.claimed j ≡ true)
any_who [] j h = absurd (true≢false (sym h))
any_who (a ∷ all) j h = ⊎_elim
    (λ (t : has a.local.claimed j ≡ true). (1, omega arith, omega arith, t))
    (λ (f : has a.local.claimed j ≡ false). let rest = any_who all j (sym (ap (λ b. b || any_has (claims_of all) j) f) ∙ h) in go rest.0 rest.1 rest.2 rest.3)
    (cases_Bool (has a.local.claimed j))
  where
    go : (p : ℕ) → 1 ≤ p → p ≤ length all → has (numbered nobody all p).local.claimed j ≡ true → (p : ℕ) × (1 ≤ p) × (p ≤ suc (length all)) × (has (numbered nobody (a ∷ all) p).local.claimed j ≡ true)
    go zero low high t = absurd (omega arith)
    go (suc k) low high t = (suc (suc k), omega arith, omega arith, t)

pub any_job : (g : Givens) (all : List Process) (words : List ℕ) → AreShown g all words → (j : ℕ) → any_has (claims_of all) j ≡ true → (1 ≤ j) × (j ≤ g.jobs)
any_job g all words h j claimed = let w = any_who all j claimed in let size = h.size in let low = w.1 in let high = w.2 in
    let job = (h.sound w.0 (record { low = w.1; high = omega (arith, high, size) })).local.jobs j w.3 in
    (job.low, job.high)

any_append : (xs ys : List (List ℕ)) (j : ℕ) → any_has (xs ++ ys) j ≡ (any_has xs j || any_has ys j)
any_append [] ys j = refl
any_append (x ∷ xs) ys j = ap (λ b. has x j || b) (any_append xs ys j) ∙ assoc (has x j) (any_has xs j) (any_has ys j)
  where
    assoc : (a b c : Bool) → (a || (b || c)) ≡ ((a || b) || c)
    assoc true b c = refl
    assoc false b c = refl

pub any_more : (lists : List (Vec ℕ Global)) (i : ℕ) (v : Vec ℕ Global) (j : ℕ) → i < length lists → v ≡ get_or lists i v
    → any_has (map (λ (x : Vec ℕ Global). x.items) (take (i + 1) lists)) j ≡ (any_has (map (λ (x : Vec ℕ Global). x.items) (take i lists)) j || has v.items j)
any_more lists i v j inside is = ap (λ l. any_has (map (λ (x : Vec ℕ Global). x.items) l) j) (take_more lists i v inside ∙ ap (λ y. take i lists ++ y ∷ []) (sym is))
    ∙ ap (λ l. any_has l j) (map-append (λ (x : Vec ℕ Global). x.items) (take i lists) (v ∷ []))
    ∙ any_append (map (λ (x : Vec ℕ Global). x.items) (take i lists)) (v.items ∷ []) j ∙ ap (λ b. any_has (map (λ (x : Vec ℕ Global). x.items) (take i lists)) j || b) (or_false (has v.items j))
  where
    or_false : (b : Bool) → (b || false) ≡ b
    or_false true = refl
    or_false false = refl

pub any_from : (lists : List (Vec ℕ Global)) (i : ℕ) (v : Vec ℕ Global) (j : ℕ) → i < length lists → v ≡ get_or lists i v → has v.items j ≡ true → any_has (map (λ (x : Vec ℕ Global). x.items) lists) j ≡ true
any_from [] i v j inside is h = absurd (omega arith)
any_from (x ∷ lists) zero v j inside is h = ap (λ (y : Vec ℕ Global). has y.items j || any_has (map (λ (z : Vec ℕ Global). z.items) lists) j) (sym is) ∙ ap (λ b. b || any_has (map (λ (z : Vec ℕ Global). z.items) lists) j) h
any_from (x ∷ lists) (suc i) v j inside is h = or_right (has x.items j) (any_has (map (λ (z : Vec ℕ Global). z.items) lists) j) (any_from lists i v j (omega arith) is h)

pub marked_more : (lists : List (Vec ℕ Global)) (i : ℕ) (v : Vec ℕ Global) (start old new : List Bool) (size : length old ≡ length start) → i < length lists → v ≡ get_or lists i v
    → ((k : ℕ) → k < length start → get_or old k false ≡ (get_or start k false || any_has (map (λ (x : Vec ℕ Global). x.items) (take i lists)) (k + 1)))
    → ((k : ℕ) → k < length old → get_or new k false ≡ (get_or old k false || has v.items (k + 1)))
    → (k : ℕ) → k < length start → get_or new k false ≡ (get_or start k false || any_has (map (λ (x : Vec ℕ Global). x.items) (take (i + 1) lists)) (k + 1))
marked_more lists i v start old new size inside is h more k l = more k (omega (arith, l, size)) ∙ ap (λ b. b || has v.items (k + 1)) (h k l)
    ∙ assoc (get_or start k false) (any_has (map (λ (x : Vec ℕ Global). x.items) (take i lists)) (k + 1)) (has v.items (k + 1)) ∙ ap (λ b. get_or start k false || b) (sym (any_more lists i v (k + 1) inside is))
  where
    assoc : (a b c : Bool) → ((a || b) || c) ≡ (a || (b || c))
    assoc true b c = refl
    assoc false b c = refl

-- all marks, from none
pub all_marked : (g : Givens) (all : List Process) (claims : List (List ℕ)) (start marks : List Bool) → length start ≡ g.jobs → ((k : ℕ) → k < g.jobs → get_or start k false ≡ false) → claims ≡ claims_of all
    → ((k : ℕ) → k < length start → get_or marks k false ≡ (get_or start k false || any_has claims (k + 1))) → AreMarked g all marks
all_marked g all claims start marks size blank is h k l = h k (omega (arith, l, size)) ∙ ap (λ b. b || any_has claims (k + 1)) (blank k l) ∙ ap (λ c. any_has c (k + 1)) is ∙ any_claimed all (k + 1)
