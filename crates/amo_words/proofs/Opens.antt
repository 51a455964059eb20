-- How the table is opened: the words of the opening world, and what the two kinds of opening step
-- owe.
use Rattle.std.proofs.Common.{◌≡◌, ◌≢◌, ℕ, zero, suc, ◌+◌, ◌-◌, ◌*◌, ◌<◌, ◌==◌, ◌&&◌, List, [], ◌∷◌, ◌++◌, length, replicate, get_or, set, map, sym, refl, ap, ◌∙◌, subst, inl, inr, arith, Option, Some, None, Bool, true, false, cond, ltb, lt-ltb, le-ltb, ltb-true, ltb-false, eq-eqb, ne_eqb, length-set}
use Rattle.std.proofs.lemmas.List.{set-get_or, length-map}
use mathlib.Core.Logic.{dite}
use mathlib.Core.Option.{none, some, some-injective, some-ne-none}
use mathlib.Core.Option as maybe
use native.Mathlib.Decide.{ℕ_discrete, dec_lt}
use lib.ListN.{get_elem?, length-replicate}
use Rattle.atomic_table.specs.Table.{State, Me, step, takes, gives, put_back, rest, opening, Allows}
use Rattle.atomic_table.proofs.Lists.{set_here, set_else, at_map}
use Rattle.amo_sets.specs.Sets.{has}
use Rattle.amo_sets.proofs.Numbers.{length-table}
use Rattle.amo_sets.proofs.Tables.{numbered-table}
use Rattle.amo_params.specs.Givens.{IsWorker}
use Rattle.amo_kk.specs.Record.{empty_record}
use Rattle.amo_kk.specs.Choice.{first_record}
use Rattle.amo_kk.specs.Words.{word_count}
use Rattle.amo_kk.specs.World.{nobody, process, first_process, opening_world, world_of}
use Rattle.amo_kk.specs.Machine.{LocalView}
use Rattle.amo_params.specs.declared.givens.Givens.{Givens}
use Rattle.amo_kk.specs.declared.model.Process.{Process}
use Rattle.amo_kk.proofs.Choice.{choice_cases}
use Rattle.amo_kk.proofs.OpenWords.{opening_words}
use Rattle.amo_words.specs.declared.rule.Role.{Role}
use Rattle.amo_words.specs.declared.rule.Role.TheVariants.{Opening, Keeping}
use Rattle.amo_words.specs.declared.rule.Spot.{Spot}
use Rattle.amo_words.specs.declared.rule.Spot.TheVariants.{Home}
use Rattle.amo_words.specs.declared.rule.View.{View}
use Rattle.amo_words.specs.declared.rule.Key.{Key}
use Rattle.amo_words.specs.Logs.{machine_after, first_machine, is_claimed}
use Rattle.amo_words.specs.Rule.{Stands, AllStand, IsSeated, Fits, IsOf, IsOpen, IsPlacing, IsKept, open_view, placing_view, placed_home, first_view, home_of}
use Rattle.amo_words.specs.Plays.{next_role, PickedBy, PlacedBy, told_by_picking, told_by_placing}
use Rattle.amo_words.proofs.Worlds.{unclaimed_by, own_none}
use Rattle.amo_words.proofs.Turns.{inside_of, some_at}
use Rattle.amo_words.proofs.Lifts.{only}

-- lists of one item again and again

pub one_of_same : {A : Type 0} (n i : ℕ) (a b : A) → get_elem? (replicate n a) i ≡ some b → a ≡ b
one_of_same zero i a b e = absurd (some-ne-none b (sym e))
one_of_same (suc n) zero a b e = some-injective a b e
one_of_same (suc n) (suc i) a b e = one_of_same n i a b e

at_same : {A : Type 0} (n i : ℕ) (a : A) → i < n → get_elem? (replicate n a) i ≡ some a
at_same zero i a h = absurd (omega arith)
at_same (suc n) zero a h = refl
at_same (suc n) (suc i) a h = at_same n i a (omega arith)

-- the opening world

opening_process : (g : Givens) (p : ℕ) → IsWorker g p → process (world_of g []) p ≡ first_process g p
opening_process g p o = numbered-table nobody (first_process g) g.workers p o.low o.high

pub opening_machine : (g : Givens) (p : ℕ) → IsWorker g p → first_machine g p ≡ machine_after g [] p
opening_machine g p o = ap (λ (a : Process). let x : LocalView = record { givens = g; number = p; state = a.local } in x) (sym (opening_process g p o))

first_claims : (g : Givens) (p : ℕ) → (first_record g p).claimed ≡ []
first_claims g p = choice_cases g p (empty_record g) (λ r. r.claimed ≡ []) (λ few. refl) (λ many. refl)

pub opening_claims : (g : Givens) (j : ℕ) → is_claimed (world_of g []).processes j ≡ false
opening_claims g j =
    unclaimed_by j (opening_world g).processes (λ p low high. let size = length-table (first_process g) g.workers in
    ap (λ (a : Process). has a.local.claimed j) (numbered-table nobody (first_process g) g.workers p low (omega (arith, high, size))) ∙ ap (λ l. has l j) (first_claims g p))

-- all workers are at home
pub home_stand : (g : Givens) → AllStand g [] (replicate g.workers Home)
home_stand g = (
  length-replicate g.workers Home,
  λ p x low here.
      let within = inside_of (replicate g.workers Home) (p - 1) x here in
      let size = length-replicate {A = Spot} g.workers Home in
      subst (Stands g [] p) (one_of_same g.workers (p - 1) Home x here) (opening_machine g p (record { low = low; high = omega (arith, within, size, low) }), refl),
)

module _ {P : Type 0} (k : Key P) where
  abbrev xs : List P
  xs = k.payloads.value.items

  -- the table shows the opening world, once each payload is placed
  pub opened : (s : State (Option P) (View P)) → s.words ≡ replicate (word_count k.givens) 0 → s.views ≡ open_view k ∷ [] → length xs ≡ k.givens.jobs → length s.homes ≡ length xs
      → ((j : ℕ) (x : P) → get_elem? xs j ≡ some x → get_elem? s.homes j ≡ some (some (Some x))) → IsOpen k s
  opened s blank alone deep size full = let g = k.givens in record {
    log = [];
    seat = λ _. 0;
    own = own_none k.givens;
    count = deep;
    words = blank ∙ sym (opening_words g);
    slots = (size, λ j x at. full j x at ∙ ap (λ b. some (home_of b x)) (sym (opening_claims g (j + 1))));
    found = λ p o. let low = o.low in let high = o.high in (open_view k, ap (λ vs. get_elem? vs 0) alone, (Home, at_same g.workers (p - 1) Home (omega arith), opening_machine g p o));
    whole = (0, open_view k, ap (λ vs. get_elem? vs 0) alone, inl refl);
    views = λ j e at. let o = only j (open_view k) e (ap (λ vs. get_elem? vs j) (sym alone) ∙ at) in subst (λ (z : ℕ × View P). Fits g xs [] (λ _. 0) z.0 z.1) (λ c. (sym o.0 c, o.1 c)) (
      (refl, refl, ([], refl), ([], refl)),
      (
        home_stand g,
        λ p x low here. subst (IsSeated (λ _. 0) 0 p) (one_of_same g.workers (p - 1) Home x here) refl,
      ),
    );
  }

  -- the contents of a slot, by its place
  low_home : (n j : ℕ) (b : Bool) (x : P) → j < n → placed_home n b j x ≡ some (Some x)
  low_home n j b x h = ap (λ c. cond c (let y : maybe.Option (Option P) = some (Some x) in y) (cond (b && (j == n)) none (some None))) (lt-ltb j n h)

  here_home : (n : ℕ) (b : Bool) (x : P) → placed_home n b n x ≡ cond b none (some None)
  here_home n true x = ap (λ c. cond c (let y : maybe.Option (Option P) = some (Some x) in y) (cond (n == n) none (some None))) (le-ltb n n (omega arith)) ∙ ap (λ c. cond c none (some None)) (eq-eqb n n refl)
  here_home n false x = ap (λ c. cond c (let y : maybe.Option (Option P) = some (Some x) in y) (some None)) (le-ltb n n (omega arith))

  high_home : (n j : ℕ) (b : Bool) (x : P) → n < j → placed_home n b j x ≡ some None
  high_home n j true x h = ap (λ c. cond c (let y : maybe.Option (Option P) = some (Some x) in y) (cond (j == n) none (some None))) (le-ltb j n (omega arith)) ∙ ap (λ c. cond c none (some None)) (ne_eqb j n (λ e. omega arith))
  high_home n j false x h = ap (λ c. cond c (let y : maybe.Option (Option P) = some (Some x) in y) (some None)) (le-ltb j n (omega arith))

  abbrev placed_of : Role → ℕ
  placed_of (Opening n b) = n
  placed_of role = 0

  abbrev out_of : Role → Bool
  out_of (Opening n b) = b
  out_of role = false

  -- while the book places, its view is the only one
  placing : (s : State (Option P) (View P)) → IsKept k s → (id : ℕ) (v : View P) (n : ℕ) (b : Bool) → get_elem? s.views id ≡ some v → v.role ≡ Opening n b → (h : IsPlacing k s) × (id ≡ 0) × (v ≡ placing_view k n b) × (h.placed ≡ n) × (h.out ≡ b)
  placing s (inl h) id v n b at is = absurd (subst (λ ro. IsOf k.givens xs h.log v ro) is (h.views id v at).0)
  placing s (inr h) id v n b at is = let o = only id (placing_view k h.placed h.out) v (ap (λ vs. get_elem? vs id) (sym h.views) ∙ at) in
      let n' : h.placed ≡ n = ap (λ (z : View P). placed_of z.role) o.1 ∙ ap placed_of is in
      let b' : h.out ≡ b = ap (λ (z : View P). out_of z.role) o.1 ∙ ap out_of is in
      (h, o.0, sym o.1 ∙ (λ c. placing_view k (n' c) (b' c)), n', b')

  pub picks : (slots id : ℕ) (me : Me (Option P) (View P)) (n : ℕ) → me.0.role ≡ Opening n false → Allows (IsKept k) slots id me 0 (λ m. m) (told_by_picking (step slots 0 0 0 none) me)
  picks slots id me n is s hk deep at _ = let t = placing s hk id me.0 n false at is in let h = t.0 in let w : View P = record me.0 { role = Opening n true } in
      let within = h.more in let wide = h.count in let n' = t.3 in let y = some_at xs n (omega arith) in
      let old : (j : ℕ) (x : P) → get_elem? xs j ≡ some x → get_elem? s.homes j ≡ some (placed_home n false j x) = λ j x a. h.slots j x a ∙ (λ c. some (placed_home (t.3 c) (t.4 c) j x)) in
      let long = h.size in (
        w,
        takes n None,
        old n y.0 y.1 ∙ ap some (here_home n false y.0),
        inr record {
          placed = n;
          out = true;
          more = omega arith;
          count = h.count;
          words = set-get_or s.words 0 0 ∙ h.words;
          views = (λ c. set (h.views c) (t.1 c) w) ∙ (let next : View P → List (View P) = λ v. record v { role = Opening n true } ∷ [] in ap next t.2);
          size = length-set s.homes n none ∙ h.size;
          slots = λ j x a. dite (ℕ_discrete j n)
              (λ e. ap (get_elem? (set s.homes n none)) e ∙ set_here s.homes n none (omega arith) ∙ sym (ap (λ i. some (placed_home n true i x)) e ∙ ap some (here_home n true x)))
              (λ apart. set_else s.homes n j none apart ∙ old j x a ∙ ap some (aside j x apart));
        },
        subst (λ ro. PickedBy me.0 me.1 ro w ((n, None) ∷ me.1)) (sym is) (refl, refl),
      )
    where
      aside : (j : ℕ) (x : P) → j ≢ n → placed_home n false j x ≡ placed_home n true j x
      aside j x apart = dite (dec_lt j n) (λ l. low_home n j false x l ∙ sym (low_home n j true x l)) (λ l. let g : n < j = omega arith in high_home n j false x g ∙ sym (high_home n j true x g))

  next_cases : (n : ℕ) (b : Bool) → b ≡ ltb (n + 1) k.givens.jobs → next_role k.givens n ≡ (cond b (Opening (n + 1) false) (Keeping (replicate k.givens.workers Home)))
  next_cases n b e = ap (λ c. cond c (Opening (n + 1) false) (Keeping (replicate k.givens.workers Home))) (sym e)

  pub places : (slots id : ℕ) (me : Me (Option P) (View P)) (n : ℕ) (x : P) (out : List (ℕ × Option P)) → me.0.role ≡ Opening n true → me.1 ≡ (n, Some x) ∷ out → get_elem? me.0.payloads n ≡ some x
      → Allows (IsKept k) slots id me 0 (λ m. m) (told_by_placing (step slots 0 0 0 none) me)
  places slots id me n x out is holds own s hk deep at _ = let t = placing s hk id me.0 n true at is in let h = t.0 in let g = k.givens in
      let within = h.more in let wide = h.count in let n' = t.3 in let long = h.size in
      let own' : get_elem? xs n ≡ some x = ap (λ (v : View P). get_elem? v.payloads n) (sym t.2) ∙ own in
      let homes' : List (maybe.Option (Option P)) = set s.homes n (some (Some x)) in
      let same : homes' ≡ put_back s.homes me.1 = ap (put_back s.homes) (sym holds) in
      let given : me.0.givens ≡ g = ap (λ (v : View P). v.givens) t.2 in
      let old : (j : ℕ) (y : P) → get_elem? xs j ≡ some y → get_elem? s.homes j ≡ some (placed_home n true j y) = λ j y a. h.slots j y a ∙ (λ c. some (placed_home (t.3 c) (t.4 c) j y)) in
      let w : View P = record me.0 { role = next_role me.0.givens n } in
      let plain : (role : Role) → next_role g n ≡ role → w ≡ record { givens = g; payloads = xs; seen = []; moves = []; role = role } = λ role e.
      (let next : View P → View P = λ v. record v { role = next_role v.givens n } in ap next t.2) ∙ (let with_role : Role → View P = λ ro. record { givens = g; payloads = xs; seen = []; moves = []; role = ro } in ap with_role e) in
      let words' : set s.words 0 (get_or s.words 0 0) ≡ replicate (word_count g) 0 = set-get_or s.words 0 0 ∙ h.words in
      let views' : (v : View P) → w ≡ v → set s.views id w ≡ v ∷ [] = λ v e. (λ c. set (h.views c) (t.1 c) w) ∙ ap (λ z. z ∷ []) e in
      let long' : length homes' ≡ length xs = length-set s.homes n (some (Some x)) ∙ h.size in
      let here : (y : P) → get_elem? xs n ≡ some y → get_elem? homes' n ≡ some (some (Some y)) = λ y a. set_here s.homes n (some (Some x)) (omega arith) ∙ ap (λ z. some (some (Some z))) (some-injective x y (sym own' ∙ a)) in
      let kept : IsKept k record { words = set s.words 0 (get_or s.words 0 0); homes = homes'; views = set s.views id w } = (dite (dec_lt (n + 1) g.jobs)
      (λ more. inr record {
        placed = n + 1;
        out = false;
        more = more;
        count = h.count;
        words = words';
        views = views' (placing_view k (n + 1) false) (plain (Opening (n + 1) false) (next_cases n true (sym (lt-ltb (n + 1) g.jobs more))));
        size = long';
        slots = λ j y a. dite (ℕ_discrete j n)
            (λ e. ap (get_elem? homes') e ∙ here y (ap (get_elem? xs) (sym e) ∙ a) ∙ sym (ap some (low_home (n + 1) j false y (omega arith))))
            (λ apart. set_else s.homes n j (some (Some x)) apart ∙ old j y a ∙ ap some (dite (dec_lt j n)
            (λ l. low_home n j true y l ∙ sym (low_home (n + 1) j false y (omega arith)))
            (λ l. let far : n < j = omega arith in high_home n j true y far ∙ sym (later n j y far))));
      })
      (λ last. inl (opened record { words = set s.words 0 (get_or s.words 0 0); homes = homes'; views = set s.views id w } words'
      (views' (open_view k) (plain (Keeping (replicate g.workers Home)) (next_cases n false (sym (le-ltb (n + 1) g.jobs (omega arith)))))) h.count long'
      (λ j y a. dite (ℕ_discrete j n)
      (λ e. ap (get_elem? homes') e ∙ here y (ap (get_elem? xs) (sym e) ∙ a))
      (λ apart. let in_list = inside_of xs j y a in set_else s.homes n j (some (Some x)) apart ∙ old j y a ∙ ap some (low_home n j true y (omega arith))))))) in (
        w,
        gives,
        tt,
        subst (λ hs. IsKept k record { words = set s.words 0 (get_or s.words 0 0); homes = hs; views = set s.views id w }) same kept,
        subst (λ ro. PlacedBy me.0 me.1 ro w (rest me.1)) (sym is) (refl, refl),
      )
    where
      later : (n j : ℕ) (y : P) → n < j → placed_home (n + 1) false j y ≡ some None
      later n j y far = dite (ℕ_discrete j (n + 1)) (λ e. ap (λ i. placed_home (n + 1) false i y) e ∙ here_home (n + 1) false y) (λ apart. high_home (n + 1) j false y (omega arith))

  -- the table as it is made; without jobs it is open at once
  pub starts : (words : List ℕ) → words ≡ replicate (word_count k.givens) 0 → length xs ≡ k.givens.jobs → IsKept k (opening words (replicate k.givens.jobs None) (first_view k))
  starts words blank deep = go (ltb 0 k.givens.jobs) refl
    where
      g : Givens
      g = k.givens

      first_is : (b : Bool) → ltb 0 k.givens.jobs ≡ b → first_view k ≡ cond b (placing_view k 0 false) (open_view k)
      first_is b e = ap (λ c. cond c (placing_view k 0 false) (open_view k)) e

      empty : (j : ℕ) (x : P) → placed_home 0 false j x ≡ some None
      empty zero x = here_home 0 false x
      empty (suc j) x = high_home 0 (suc j) false x (omega arith)

      size : length (map (λ (o : Option P). some o) (replicate k.givens.jobs None)) ≡ length xs
      size = length-map (replicate k.givens.jobs None) (λ (o : Option P). some o) ∙ length-replicate k.givens.jobs None ∙ sym deep

      go : (b : Bool) → ltb 0 k.givens.jobs ≡ b → IsKept k (opening words (replicate k.givens.jobs None) (first_view k))
      go true e = let some_jobs = ltb-true 0 k.givens.jobs e in inr record {
        placed = 0;
        out = false;
        more = some_jobs;
        count = deep;
        words = blank;
        views = ap (λ v. v ∷ []) (first_is true e);
        size = size;
        slots = λ j x a. let i = inside_of xs j x a in at_map some (replicate k.givens.jobs None) j None (at_same k.givens.jobs j None (omega (arith, i, deep))) ∙ ap some (sym (empty j x));
      }
      go false e = let none_there = ltb-false 0 k.givens.jobs e in inl (opened (opening words (replicate k.givens.jobs None) (first_view k)) blank (ap (λ v. v ∷ []) (first_is false e)) deep size
          (λ j x a. absurd (let i = inside_of xs j x a in omega (arith, i, deep, none_there))))

  -- the same for as many slots as there are jobs
  pub starts_with : (words : List ℕ) (n : ℕ) → n ≡ k.givens.jobs → words ≡ replicate (word_count k.givens) 0 → length xs ≡ k.givens.jobs → IsKept k (opening words (replicate n None) (first_view k))
  starts_with words n same blank deep = subst (λ z. IsKept k (opening words (replicate z None) (first_view k))) (sym same) (starts words blank deep)
