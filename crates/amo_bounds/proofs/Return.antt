-- Nobody who takes a turn comes back: no moves that begin with a turn lead to a world that is the
-- same, counts of steps and history apart.
use Rattle.std.proofs.Common.{◌≡◌, inl, inr, ℕ, zero, suc, ◌+◌, Bool, true, false, List, [], ◌∷◌, length, refl, sym, ap, ◌∙◌, arith}
use Rattle.std.specs.Prelude.{if◌then◌else◌, ◌==◌}
use Rattle.std.proofs.lemmas.Bool.{true≢false, eqb-true, eq-eqb}
use Rattle.amo_kk.specs.Record.{can_leave}
use Rattle.amo_kk.specs.Step.{want, record_after, record_after_leave}
use Rattle.amo_kk.specs.World.{process, process_after, world_after_turn, world_after_move, world_after_moves}
use Rattle.amo_kk.specs.Lawful.{IsLawful}
use Rattle.amo_params.specs.declared.givens.Givens.{Givens}
use Rattle.amo_kk.specs.declared.phase.Want.TheVariants.{StoreNext}
use Rattle.amo_kk.specs.declared.model.Process.{Process}
use Rattle.amo_kk.specs.declared.model.World.{World}
use Rattle.amo_params.specs.declared.moves.Move.{Move}
use Rattle.amo_params.specs.declared.moves.Move.TheVariants.{Turn, Halt, Leave}
use Rattle.amo_kk.proofs.Worlds.{move_lawful, worlds_lawful}
use Rattle.amo_bounds.specs.Rest.{without_steps, AreAlike}
use Rattle.amo_bounds.proofs.Still.{heard, view, moved, view_moved, still_lawful, turn_of}
use Rattle.amo_bounds.proofs.Circle.{Circle, IsStep}
use Rattle.amo_bounds.proofs.Collisions.{none_turns}

-- alike worlds stay so under the same moves

same_moved : (g : Givens) (w v : World) (m : Move) → IsLawful g w → IsLawful g v → AreAlike w v → AreAlike (world_after_move g w m) (world_after_move g v m)
same_moved g w v m law law' same q = view_moved g w m law q ∙ ap (λ at. moved g at m q) (λ i k. same k i) ∙ sym (view_moved g v m law' q)

same_after : (g : Givens) (w v : World) (ms : List Move) → IsLawful g w → IsLawful g v → AreAlike w v → AreAlike (world_after_moves g w ms) (world_after_moves g v ms)
same_after g w v [] law law' same = same
same_after g w v (m ∷ ms) law law' same = same_after g (world_after_move g w m) (world_after_move g v m) ms (move_lawful g w m g.limits law) (move_lawful g v m g.limits law') (same_moved g w v m law law' same)

-- who is gone stays so
moved_gone : (g : Givens) (at : ℕ → Process) (m : Move) (q : ℕ) → (at q).gone ≡ true → (moved g at m q).gone ≡ true
moved_gone g at (Turn p) q h = go (at p).gone refl (q == p) refl
  where
    a : Process
    a = process_after (want (at p).local) (at p) (record_after g p (heard at (want (at p).local)) (at p).local)

    go : (b : Bool) → (at p).gone ≡ b → (c : Bool) → (q == p) ≡ c → (if b then at q else (if c then without_steps a else at q)).gone ≡ true
    go true e c f = h
    go false e true f = absurd (true≢false (sym h ∙ ap (λ k. (at k).gone) (eqb-true q p f) ∙ e))
    go false e false f = h
moved_gone g at (Halt p) q h = go (at p).gone (q == p)
  where
    go : (b c : Bool) → (if b then at q else (if c then record (at p) { gone = true } else at q)).gone ≡ true
    go true c = h
    go false true = refl
    go false false = h
moved_gone g at (Leave p) q h = go (at p).gone (can_leave (at p).local.phase) (q == p)
  where
    a : Process
    a = process_after (StoreNext 0) (at p) (record_after_leave (at p).local)

    go : (b d c : Bool) → (if b then at q else (if d then (if c then without_steps a else at q) else at q)).gone ≡ true
    go true d c = h
    go false true true = refl
    go false true false = h
    go false false c = h

move_gone : (g : Givens) (w : World) (m : Move) (q : ℕ) → IsLawful g w → (process w q).gone ≡ true → (process (world_after_move g w m) q).gone ≡ true
move_gone g w m q law h = ap (λ (x : Process). x.gone) (view_moved g w m law q) ∙ moved_gone g (view w) m q h

pub after_gone : (g : Givens) (w : World) (ms : List Move) (q : ℕ) → IsLawful g w → (process w q).gone ≡ true → (process (world_after_moves g w ms) q).gone ≡ true
after_gone g w [] q law h = h
after_gone g w (m ∷ ms) q law h = after_gone g (world_after_move g w m) ms q (move_lawful g w m g.limits law) (move_gone g w m q law h)

-- a move that makes nobody gone is a step
quiet_step : (g : Givens) (w : World) (m : Move) → IsLawful g w
    → ((q : ℕ) → (process w q).gone ≡ false → (process (world_after_move g w m) q).gone ≡ false) → IsStep g (view w) (view (world_after_move g w m))
quiet_step g w (Turn p) law quiet = go (process w p).gone refl
  where
    go : (b : Bool) → (process w p).gone ≡ b → IsStep g (view w) (view (world_after_turn g w p))
    go true e = inl (λ q. view_moved g w (Turn p) law q ∙ ap (λ b. if b then view w q else (if q == p then without_steps (process_after (want (view w p).local) (view w p) (record_after g p (heard (view w) (want (view w p).local)) (view w p).local)) else view w q)) e)
    go false e = inr (p, turn_of g w p law e)
quiet_step g w (Halt p) law quiet = go (process w p).gone refl
  where
    go : (b : Bool) → (process w p).gone ≡ b → IsStep g (view w) (view (world_after_move g w (Halt p)))
    go true e = inl (λ q. view_moved g w (Halt p) law q ∙ ap (λ b. if b then view w q else (if q == p then record (view w p) { gone = true } else view w q)) e)
    go false e = absurd (true≢false (sym (ap (λ (x : Process). x.gone) (view_moved g w (Halt p) law p
        ∙ ap (λ b. if b then view w p else (if p == p then record (view w p) { gone = true } else view w p)) e
        ∙ ap (λ b. if b then record (view w p) { gone = true } else view w p) (eq-eqb p p refl))) ∙ quiet p e))
quiet_step g w (Leave p) law quiet = go (process w p).gone refl (can_leave (process w p).local.phase) refl
  where
    a : Process
    a = process_after (StoreNext 0) (view w p) (record_after_leave (view w p).local)

    go : (b : Bool) → (process w p).gone ≡ b → (d : Bool) → can_leave (process w p).local.phase ≡ d → IsStep g (view w) (view (world_after_move g w (Leave p)))
    go true e d f = inl (λ q. view_moved g w (Leave p) law q ∙ ap (λ b. if b then view w q else (if can_leave (process w p).local.phase then (if q == p then without_steps a else view w q) else view w q)) e)
    go false e false f = inl (λ q. view_moved g w (Leave p) law q ∙ ap (λ b. if b then view w q else (if can_leave (process w p).local.phase then (if q == p then without_steps a else view w q) else view w q)) e
        ∙ ap (λ d. if d then (if q == p then without_steps a else view w q) else view w q) f)
    go false e true f = absurd (true≢false (sym (ap (λ (x : Process). x.gone) (view_moved g w (Leave p) law p
        ∙ ap (λ b. if b then view w p else (if can_leave (process w p).local.phase then (if p == p then without_steps a else view w p) else view w p)) e
        ∙ ap (λ d. if d then (if p == p then without_steps a else view w p) else view w p) f
        ∙ ap (λ b. if b then without_steps a else view w p) (eq-eqb p p refl))) ∙ quiet p e))

-- the world after t moves, where `full` comes again and again after ms, with an idle moment between
abbrev round : Givens → List Move → ℕ → World → List Move → World
round g full zero w ms = w
round g full (suc t) w [] = round g full t w full
round g full (suc t) w (m ∷ ms) = round g full t (world_after_move g w m) ms

round_lawful : (g : Givens) (full : List Move) (t : ℕ) (w : World) (ms : List Move) → IsLawful g w → IsLawful g (round g full t w ms)
round_lawful g full zero w ms law = law
round_lawful g full (suc t) w [] law = round_lawful g full t w full law
round_lawful g full (suc t) w (m ∷ ms) law = round_lawful g full t (world_after_move g w m) ms (move_lawful g w m g.limits law)

round_same : (g : Givens) (full : List Move) (t : ℕ) (w v : World) (ms : List Move) → IsLawful g w → IsLawful g v → AreAlike w v → AreAlike (round g full t w ms) (round g full t v ms)
round_same g full zero w v ms law law' same = same
round_same g full (suc t) w v [] law law' same = round_same g full t w v full law law' same
round_same g full (suc t) w v (m ∷ ms) law law' same = round_same g full t (world_after_move g w m) (world_after_move g v m) ms (move_lawful g w m g.limits law) (move_lawful g v m g.limits law') (same_moved g w v m law law' same)

-- after ms and the idle moment
round_after : (g : Givens) (full : List Move) (t : ℕ) (w : World) (ms : List Move) → round g full (length ms + suc t) w ms ≡ round g full t (world_after_moves g w ms) full
round_after g full t w [] = let e : 0 + suc t ≡ suc t = omega arith in ap (λ k. round g full k w []) e
round_after g full t w (m ∷ ms) = ap (λ k. round g full k w (m ∷ ms)) (index (length ms) t) ∙ round_after g full t (world_after_move g w m) ms
  where
    index : (k t : ℕ) → suc k + suc t ≡ suc (k + suc t)
    index k t = omega arith

module _ (g : Givens) (w0 : World) (law0 : IsLawful g w0) (full : List Move) (back : AreAlike (world_after_moves g w0 full) w0) where
  -- what remains of the round leads back
  record IsOnWay (w : World) (ms : List Move) : Type 0 where
    law : IsLawful g w
    leads : AreAlike (world_after_moves g w ms) w0
    gone : (q : ℕ) → (process w0 q).gone ≡ true → (process w q).gone ≡ true

  anew : (w : World) → IsOnWay w [] → IsOnWay w full
  anew w h = record { law = h.law; leads = λ q. same_after g w w0 full h.law law0 h.leads q ∙ back q; gone = h.gone }

  on : (w : World) (m : Move) (ms : List Move) → IsOnWay w (m ∷ ms) → IsOnWay (world_after_move g w m) ms
  on w m ms h = record { law = move_lawful g w m g.limits h.law; leads = h.leads; gone = λ q t. move_gone g w m q h.law (h.gone q t) }

  -- nobody becomes gone on the way
  quiet : (w : World) (m : Move) (ms : List Move) → IsOnWay w (m ∷ ms) → (q : ℕ) → (process w q).gone ≡ false → (process (world_after_move g w m) q).gone ≡ false
  quiet w m ms h q here = go (process (world_after_move g w m) q).gone refl
    where
      go : (b : Bool) → (process (world_after_move g w m) q).gone ≡ b → (process (world_after_move g w m) q).gone ≡ false
      go false e = e
      go true e =
          let end = after_gone g (world_after_move g w m) ms q (move_lawful g w m g.limits h.law) e in
          absurd (true≢false (sym (h.gone q (sym (ap (λ (x : Process). x.gone) (h.leads q)) ∙ end)) ∙ here))

  steps : (t : ℕ) (w : World) (ms : List Move) → IsOnWay w ms → IsStep g (view (round g full t w ms)) (view (round g full (suc t) w ms))
  steps zero w [] h = inl (λ q. refl)
  steps zero w (m ∷ ms) h = quiet_step g w m h.law (quiet w m ms h)
  steps (suc t) w [] h = steps t w full (anew w h)
  steps (suc t) w (m ∷ ms) h = steps t (world_after_move g w m) ms (on w m ms h)

  abbrev circle : Circle g
  circle =
      record {
        at = λ t. view (round g full t w0 full);
        law = λ t. still_lawful g (round g full t w0 full) (round_lawful g full t w0 full law0);
        before = length full;
        period = period;
        step = λ t. steps t w0 full (record { law = law0; leads = back; gone = λ q h. h });
      }
    where
      period : (t q : ℕ) → view (round g full (t + suc (length full)) w0 full) q ≡ view (round g full t w0 full) q
      period t q =
          let e : t + suc (length full) ≡ length full + suc t = omega arith in
          ap (λ k. view (round g full k w0 full) q) e ∙ ap (λ v. view v q) (round_after g full t w0 full)
          ∙ round_same g full t (world_after_moves g w0 full) w0 full (worlds_lawful g w0 full g.limits law0) law0 back q

-- a turn is never undone
pub no_return : (g : Givens) (w : World) (p : ℕ) (ms : List Move) → IsLawful g w → (process w p).gone ≡ false → AreAlike (world_after_moves g w (Turn p ∷ ms)) w → ⊥
no_return g w p ms law here back = none_turns (circle g w law (Turn p ∷ ms) back) 0 p (turn_of g w p law here)
