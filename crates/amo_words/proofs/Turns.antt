-- A move of a worker keeps the rule.
use Rattle.std.proofs.Common.{◌≡◌, ◌≢◌, ℕ, zero, suc, ◌+◌, ◌-◌, ◌<◌, ◌≤◌, List, [], ◌∷◌, ◌++◌, length, set, sym, refl, ap, ◌∙◌, subst, ⊎_elim, inl, arith, Option, true, false, append_assoc, length-set}
use Rattle.std.proofs.lemmas.List.{append-nil}
use mathlib.Core.Logic.{dite}
use mathlib.Core.Option.{none, some, some-injective, some-ne-none}
use mathlib.Core.Option as maybe
use native.Mathlib.Decide.{ℕ_discrete}
use lib.ListN.{get_elem?}
use Rattle.atomic_table.specs.Table.{State}
use Rattle.atomic_table.proofs.Lists.{at_set, set_here, set_else}
use Rattle.amo_params.specs.Givens.{IsWorker}
use Rattle.amo_params.specs.Moves.{worker_of, is_halt}
use Rattle.amo_kk.specs.World.{opening_world, world_of}
use Rattle.amo_kk.specs.Words.{words_of}
use Rattle.amo_kk.specs.Machine.{LocalView}
use Rattle.amo_params.specs.declared.givens.Givens.{Givens}
use Rattle.amo_params.specs.declared.moves.Move.{Move}
use Rattle.amo_kk.specs.declared.model.Process.{Process}
use Rattle.amo_kk.specs.declared.model.World.{World}
use Rattle.amo_words.specs.declared.rule.Role.{Role}
use Rattle.amo_words.specs.declared.rule.Role.TheVariants.{Opening, Keeping, Working, Spent}
use Rattle.amo_words.specs.declared.rule.Spot.{Spot}
use Rattle.amo_words.specs.declared.rule.Spot.TheVariants.{Home, Out, Back}
use Rattle.amo_words.specs.declared.rule.View.{View}
use Rattle.amo_words.specs.Logs.{machine_in, machine_after, moves_of, StartsWith, is_claimed}
use Rattle.amo_words.specs.Rule.{Stands, IsSeated, HoldsAll, Has, Found, IsOf, Fits, SlotsFit, IsShown, home_of}
use Rattle.amo_words.specs.Plays.{view_after}
use Rattle.amo_kk.proofs.Moves.{move_other, world_more}
use Rattle.amo_words.proofs.Worlds.{moves_append, moves_other, own_more}

pub starts_more : (log seen more : List Move) → StartsWith log seen → StartsWith (log ++ more) seen
starts_more log seen more s = (s.0 ++ more, ap (λ l. l ++ more) s.1 ∙ append_assoc seen s.0 more)

pub inside_of : {A : Type 0} (l : List A) (j : ℕ) (a : A) → get_elem? l j ≡ some a → j < length l
inside_of [] j a e = absurd (some-ne-none a (sym e))
inside_of (x ∷ xs) zero a e = omega arith
inside_of (x ∷ xs) (suc j) a e = let h = inside_of xs j a e in omega arith

pub some_at : {A : Type 0} (l : List A) (i : ℕ) → i < length l → (y : A) × (get_elem? l i ≡ some y)
some_at [] i h = absurd (omega arith)
some_at (x ∷ xs) zero h = (x, refl)
some_at (x ∷ xs) (suc i) h = some_at xs i (omega arith)

module _ {P : Type 0} (g : Givens) (payloads : List P) where
  pub of_more : (log more : List Move) (v : View P) (role : Role) → IsOf g payloads log v role → IsOf g payloads (log ++ more) v role
  of_more log more v Spent h = h
  of_more log more v (Opening n b) h = absurd h
  of_more log more v (Working l) h = (h.0, h.1, starts_more log v.seen more h.2, h.3)
  of_more log more v (Keeping spots) h = (h.0, h.1, starts_more log v.seen more h.2, starts_more log v.moves more h.3)

  -- a move leaves the machine of another
  stands_on : (log : List Move) (m : Move) (q : ℕ) (x : Spot) → q ≢ worker_of m → machine_after g (log ++ m ∷ []) q ≡ machine_after g log q → Stands g log q x → Stands g (log ++ m ∷ []) q x
  stands_on log m q Home other same h = (h.0 ∙ sym same, moves_other q m log (λ e. other (sym e)) ∙ h.1)
  stands_on log m q Out other same h = h
  stands_on log m q (Back l) other same h = h ∙ sym same

  -- what another seat has is untouched by a move of a worker whose machine the seat `id` has
  others_hold : (log seen : List Move) (seat : ℕ → ℕ) (m : Move) (id j : ℕ) (role : Role) → seat (worker_of m) ≡ id → j ≢ id
      → ((q : ℕ) → q ≢ worker_of m → machine_after g (log ++ m ∷ []) q ≡ machine_after g log q)
      → HoldsAll g log seen seat j role → HoldsAll g (log ++ m ∷ []) seen seat j role
  others_hold log seen seat m id j Spent here apart same h = h
  others_hold log seen seat m id j (Opening n b) here apart same h = absurd h
  others_hold log seen seat m id j (Working l) here apart same h = let other : l.number ≢ worker_of m = λ e. apart (sym h.1 ∙ ap seat e ∙ here) in
      (h.0, h.1, h.2 ∙ sym (same l.number other), moves_other l.number m log (λ e. other (sym e)) ∙ h.3)
  others_hold log seen seat m id j (Keeping spots) here apart same h = ((h.0.0, λ q x low at. in_book q x (h.0.1 q x low at) (h.1 q x low at)), h.1)
    where
      in_book : (q : ℕ) (x : Spot) → Stands g log q x → IsSeated seat j q x → Stands g (log ++ m ∷ []) q x
      in_book q Home st is = let other : q ≢ worker_of m = λ e. apart (sym is ∙ ap seat e ∙ here) in stands_on log m q Home other (same q other) st
      in_book q Out st is = st
      in_book q (Back l) st is = let other : q ≢ worker_of m = λ e. apart (sym is ∙ ap seat e ∙ here) in stands_on log m q (Back l) other (same q other) st

  -- a seat with the machine l
  module _ (s : State (Option P) (View P)) (h : IsShown g payloads s) (id : ℕ) (v : View P) (l : LocalView) (at : get_elem? s.views id ≡ some v) (is : v.role ≡ Working l) where
    abbrev pub before : World
    before = world_of g h.log

    pub mine : IsOf g payloads h.log v (Working l) × HoldsAll g h.log v.seen h.seat id (Working l)
    mine = subst (λ ro. IsOf g payloads h.log v ro × HoldsAll g h.log v.seen h.seat id ro) is (h.views id v at)

    pub between : List Move
    between = mine.0.2.0

    pub split : h.log ≡ v.seen ++ between
    unfolding between
    split = mine.0.2.1

    pub others_only : moves_of l.number between ≡ 0
    others_only = let a = moves_append l.number v.seen between in let b = ap (moves_of l.number) split in let c = mine.1.3 in omega (arith, a, b, c)

    here_at : {j : ℕ} (w : View P) → get_elem? s.views j ≡ some w → j ≡ id → w ≡ v
    here_at w e same = some-injective w v (sym e ∙ ap (get_elem? s.views) same ∙ at)

    -- its move m, after which its machine is l'
    module _ (m : Move) (of_it : worker_of m ≡ l.number) (own : is_halt m ≡ false) (l' : LocalView) (now : machine_after g (h.log ++ m ∷ []) l.number ≡ l') (number : l'.number ≡ l.number) where
      abbrev pub behind : World
      behind = world_of g (h.log ++ m ∷ [])

      others_after : (q : ℕ) → q ≢ worker_of m → machine_after g (h.log ++ m ∷ []) q ≡ machine_after g h.log q
      others_after q apart = ap (λ (w : World). machine_in g w q) (world_more g (opening_world g) h.log m) ∙ ap (λ (a : Process). let x : LocalView = record { givens = g; number = q; state = a.local } in x) (move_other g before m q apart)

      found_kept : (w : View P) → w.role ≡ Working l' → Found g (h.log ++ m ∷ []) h.seat (set s.views id w)
      found_kept w role q o = dite (ℕ_discrete q l.number)
          (λ e. let there : h.seat q ≡ id = ap h.seat e ∙ mine.1.1 in (
            w,
            ap (get_elem? (set s.views id w)) there ∙ set_here s.views id w (inside_of s.views id v at),
            subst (λ ro. Has ro (machine_after g (h.log ++ m ∷ []) q)) (sym role) (sym now ∙ ap (machine_after g (h.log ++ m ∷ [])) (sym e)),
          ))
          (λ apart. let f = h.found q o in
          let elsewhere : h.seat q ≢ id = λ c. apart (ap (λ (x : LocalView). x.number) (sym (subst (λ ro. Has ro (machine_after g h.log q)) (ap (λ z. z.role) (here_at f.0 f.1 c) ∙ is) f.2))) in
          (f.0, set_else s.views id (h.seat q) w elsewhere ∙ f.1, subst (Has f.0.role) (sym (others_after q (λ e. apart (e ∙ of_it)))) f.2))

      pub move_kept : (words' : List ℕ) → words' ≡ words_of behind.processes → (homes' : List (maybe.Option (Option P))) → SlotsFit behind payloads homes'
          → IsShown g payloads record { words = words'; homes = homes'; views = set s.views id (view_after v between m l') }
      move_kept words' words homes' slots =
          let L' : List Move = h.log ++ m ∷ [] in
          let v' : View P = view_after v between m l' in
          let seen' : (v.seen ++ between) ++ m ∷ [] ≡ L' = ap (λ z. z ++ m ∷ []) (sym split) in
          let t = mine in
          record {
            log = L';
            seat = h.seat;
            own = own_more g h.log m h.own (subst (IsWorker g) (sym of_it) t.1.0) own;
            count = h.count;
            words = words;
            slots = slots;
            found = found_kept v' refl;
            whole = (id, v', set_here s.views id v' (inside_of s.views id v at), inl seen');
            views = λ j e p'. ⊎_elim
                (λ (u : (j ≡ id) × (v' ≡ e)). subst (λ (z : ℕ × View P). Fits g payloads L' h.seat z.0 z.1) (λ c. (sym u.0 c, u.1 c))
                ((t.0.0, t.0.1, ([], sym seen' ∙ sym (append-nil _)), refl), (subst (IsWorker g) (sym number) t.1.0, ap h.seat number ∙ t.1.1, sym now ∙ ap (machine_after g L') (sym number), ap (moves_of l'.number) (sym seen'))))
                (λ (u : (j ≢ id) × (get_elem? s.views j ≡ some e)). let old = h.views j e u.1 in
                (of_more h.log (m ∷ []) e e.role old.0, others_hold h.log e.seen h.seat m id j e.role (ap h.seat of_it ∙ t.1.1) u.0 others_after old.1))
                (at_set s.views id j v' e p');
          }

  -- slots

  pub slots_as : (w u : World) (homes : List (maybe.Option (Option P))) → ((j : ℕ) → is_claimed u.processes j ≡ is_claimed w.processes j) → SlotsFit w payloads homes → SlotsFit u payloads homes
  slots_as w u homes same fit = (fit.0, λ j x at. fit.1 j x at ∙ ap (λ b. some (home_of b x)) (sym (same (j + 1))))

  -- the slot of a job that is claimed goes out
  pub slot_goes : (w u : World) (homes : List (maybe.Option (Option P))) (j : ℕ) → 1 ≤ j → j ≤ length payloads → is_claimed u.processes j ≡ true → ((i : ℕ) → i ≢ j → is_claimed u.processes i ≡ is_claimed w.processes i)
      → SlotsFit w payloads homes → SlotsFit u payloads (set homes (j - 1) none)
  slot_goes w u homes j low high new else fit = let deep = fit.0 in (
    length-set homes (j - 1) none ∙ fit.0,
    λ i x at. dite (ℕ_discrete i (j - 1))
        (λ e. let back : i + 1 ≡ j = omega arith in ap (get_elem? (set homes (j - 1) none)) e ∙ set_here homes (j - 1) none (omega arith) ∙ ap (λ b. some (home_of b x)) (sym new ∙ ap (is_claimed u.processes) (sym back)))
        (λ apart. set_else homes (j - 1) i none apart ∙ fit.1 i x at ∙ ap (λ b. some (home_of b x)) (sym (else (i + 1) (λ e. apart (omega arith))))),
  )
