-- The duty of each kind of a worker's step towards the open table.
use Rattle.std.proofs.Common.{◌≡◌, ℕ, ◌+◌, ◌-◌, List, [], ◌∷◌, ◌++◌, get_or, set, sym, refl, ap, ◌∙◌, subst, arith, Option, Some, true, false}
use Rattle.std.proofs.lemmas.List.{set-get_or}
use mathlib.Core.Option.{none, some}
use lib.ListN.{get_elem?}
use Rattle.atomic_table.specs.Table.{State, Me, step, keeps, takes, Allows}
use Rattle.amo_kk.specs.Alone.{is_claiming}
use Rattle.amo_params.specs.Givens.{IsJob, IsWorker}
use Rattle.amo_kk.specs.Record.{wants_nothing, can_leave}
use Rattle.amo_kk.specs.Step.{want, is_load, is_store, MayLoad}
use Rattle.amo_kk.specs.World.{process, loaded_value, world_after_turn, world_after_leave, opening_world, world_of}
use Rattle.amo_kk.specs.Words.{words_of, next_word, loaded_word, words_after}
use Rattle.amo_kk.specs.Lawful.{IsLawful}
use Rattle.amo_kk.specs.Machine.{LocalView}
use Rattle.amo_params.specs.declared.givens.Givens.{Givens}
use Rattle.amo_params.specs.declared.moves.Move.{Move}
use Rattle.amo_params.specs.declared.moves.Move.TheVariants.{Turn, Leave}
use Rattle.amo_kk.specs.declared.phase.Phase.TheVariants.{Claiming}
use Rattle.amo_kk.specs.declared.phase.Want.{Want}
use Rattle.amo_kk.specs.declared.phase.Want.TheVariants.{StoreClaim}
use Rattle.amo_kk.specs.declared.model.World.{World}
use Rattle.amo_kk.proofs.Words.{turn_writes, leave_writes, turn_loads}
use Rattle.amo_words.specs.declared.rule.Role.TheVariants.{Working}
use Rattle.amo_words.specs.declared.rule.View.{View}
use Rattle.amo_words.specs.declared.rule.Key.{Key}
use Rattle.amo_words.specs.Logs.{machine_in, machine_after, is_claimed, AreOwn}
use Rattle.amo_words.specs.Rule.{IsOpen, home_of}
use Rattle.amo_words.specs.Plays.{machine_turned, machine_left, view_after, TurnedBy, MayLoadBy, LeftBy, TakesIn, TakenBy, told_by_store, told_by_load, told_by_claim, told_by_leave}
use Rattle.amo_kk.proofs.Loads.{may_load, store_zero}
use Rattle.amo_kk.proofs.Moves.{world_more, gone_is, turned_local, left_process}
use Rattle.amo_kk.proofs.Wants.{is_claim, is_nothing, claiming_is, nothing_is, claiming_job, leave_goes, load_writes, load_quiet, load_goes, store_goes, store_loads}
use Rattle.amo_words.proofs.Worlds.{lawful, quiet_claims, left_claims, claim_new, claim_else, claim_free, claim_job}
use Rattle.amo_words.proofs.Turns as turns
use Rattle.amo_words.proofs.Turns.{slots_as, slot_goes, some_at}

-- what a worker's own move does to its machine

turned_machine : (g : Givens) (w : World) (p : ℕ) → IsLawful g w → (process w p).gone ≡ false
    → machine_in g (world_after_turn g w p) p ≡ machine_turned (machine_in g w p) (loaded_value w (want (process w p).local))
turned_machine g w p law here = λ i. record { givens = g; number = p; state = turned_local g w p law here i }

left_machine : (g : Givens) (w : World) (p : ℕ) → IsLawful g w → (process w p).gone ≡ false → can_leave (process w p).local.phase ≡ true
    → machine_in g (world_after_leave w p) p ≡ machine_left (machine_in g w p)
left_machine g w p law here may = λ i. record { givens = g; number = p; state = (left_process g w p law here may i).local }

module _ {P : Type 0} (k : Key P) (slots id : ℕ) (me : Me (Option P) (View P)) (l : LocalView) (is : me.0.role ≡ Working l) where
  abbrev g : Givens
  g = k.givens

  abbrev xs : List P
  xs = k.payloads.value.items

  abbrev p : ℕ
  p = l.number

  -- if the worker goes on
  module _ (s : State (Option P) (View P)) (h : IsOpen k s) (at : get_elem? s.views id ≡ some me.0) where
    abbrev w0 : World
    w0 = world_of g h.log

    abbrev law : IsLawful g (world_of g h.log)
    law = lawful g h.log

    o : IsWorker g p
    o = (turns.mine g xs s h id me.0 l at is).1.0

    machine : l ≡ machine_after g h.log p
    machine = (turns.mine g xs s h id me.0 l at is).1.2

    abbrev b : List Move
    b = turns.between g xs s h id me.0 l at is

    met : world_of me.0.givens (me.0.seen ++ b) ≡ w0
    met = let mine = turns.mine g xs s h id me.0 l at is in (λ c. world_of (mine.0.0 c) (sym (turns.split g xs s h id me.0 l at is) c))

    seen_own : AreOwn me.0.givens (me.0.seen ++ b)
    seen_own = let mine = turns.mine g xs s h id me.0 l at is in subst (λ (z : Givens × List Move). AreOwn z.0 z.1) (λ c. (sym mine.0.0 c, turns.split g xs s h id me.0 l at is c)) h.own

    phase_is : l.state.phase ≡ (process w0 p).local.phase
    phase_is = ap (λ (m : LocalView). m.state.phase) machine

    here : wants_nothing l.state.phase ≡ false → (process w0 p).gone ≡ false
    here goes = gone_is g h.log h.own.no_stop p ∙ ap wants_nothing (sym phase_is) ∙ goes

    -- a turn that loads x, or 0
    now : (x : ℕ) → x ≡ loaded_value w0 (want l.state) → wants_nothing l.state.phase ≡ false → machine_after g (h.log ++ Turn p ∷ []) p ≡ machine_turned l x
    now x saw goes = ap (λ (w : World). machine_in g w p) (world_more g (opening_world g) h.log (Turn p)) ∙ turned_machine g w0 p law (here goes)
        ∙ (λ c. machine_turned (sym machine c) (loaded_value w0 (want (sym machine c).state))) ∙ ap (machine_turned l) (sym saw)

    words_now : wants_nothing l.state.phase ≡ false → words_of (world_of g (h.log ++ Turn p ∷ [])).processes ≡ words_after l.givens p (want l.state) s.words
    words_now goes = ap (λ (w : World). words_of w.processes) (world_more g (opening_world g) h.log (Turn p)) ∙ turn_writes g w0 law p (here goes)
        ∙ (λ c. words_after (sym machine c).givens (sym machine c).number (want (sym machine c).state) (sym h.words c))

    turned_by : (x : ℕ) → x ≡ loaded_value w0 (want l.state) → TurnedBy me.0 me.0.role x (view_after me.0 b (Turn p) (machine_turned l x))
    turned_by x saw = subst (λ ro. TurnedBy me.0 ro x (view_after me.0 b (Turn p) (machine_turned l x))) (sym is)
        (record { between = b; others = turns.others_only g xs s h id me.0 l at is; own = seen_own; loads = saw ∙ ap (λ w. loaded_value w (want l.state)) (sym met); leads = refl })

    still : is_claiming l.state.phase ≡ false → wants_nothing l.state.phase ≡ false → (j : ℕ) → is_claimed (world_of g (h.log ++ Turn p ∷ [])).processes j ≡ is_claimed w0.processes j
    still quiet goes j = ap (λ (w : World). is_claimed w.processes j) (world_more g (opening_world g) h.log (Turn p)) ∙ quiet_claims g w0 p law (here goes) (ap is_claiming (sym phase_is) ∙ quiet) j

  -- an announcement is stored, or a job is filed
  pub stores : (i new : ℕ) (x : Want) → want l.state ≡ x → is_store x ≡ true → is_claim x ≡ false → ((words : List ℕ) → set words i new ≡ words_after l.givens p x words)
      → Allows (IsOpen k) slots id me i (λ _. new) (λ _. told_by_store (step slots i new 0 none) me new)
  stores i new x wants store quiet wrote s h deep at _ =
      let goes : wants_nothing l.state.phase ≡ false = nothing_is l.state l.state.phase ∙ ap is_nothing wants ∙ store_goes x store in
      let calm : is_claiming l.state.phase ≡ false = claiming_is l.state l.state.phase ∙ ap is_claim wants ∙ quiet in
      let saw : 0 ≡ loaded_value (world_of g h.log) (want l.state) = sym (ap (loaded_value (world_of g h.log)) wants ∙ store_zero (world_of g h.log) x (store_loads x store)) in (
        view_after me.0 (b s h at) (Turn p) (machine_turned l 0),
        keeps,
        tt,
        turns.move_kept g xs s h id me.0 l at is (Turn p) refl refl (machine_turned l 0) (now s h at 0 saw goes) refl (set s.words i new)
            (wrote s.words ∙ ap (λ y. words_after l.givens p y s.words) (sym wants) ∙ sym (words_now s h at goes)) s.homes (slots_as g xs (world_of g h.log) (world_of g (h.log ++ Turn p ∷ [])) s.homes (still s h at calm goes) h.slots),
        (turned_by s h at 0 saw, refl, refl),
      )

  -- an announcement or an entry of a row is loaded
  pub loads : (i : ℕ) → is_load (want l.state) ≡ true → i ≡ loaded_word l.givens (want l.state) → Allows (IsOpen k) slots id me i (λ n. n) (told_by_load (step slots i 0 0 none) me)
  loads i load wants s h deep at _ =
      let goes : wants_nothing l.state.phase ≡ false = nothing_is l.state l.state.phase ∙ load_goes (want l.state) load in
      let calm : is_claiming l.state.phase ≡ false = claiming_is l.state l.state.phase ∙ load_quiet (want l.state) load in
      let x : ℕ = get_or s.words i 0 in
      let m : l ≡ machine_after g h.log p = machine s h at in
      let saw : x ≡ loaded_value (world_of g h.log) (want l.state) =
      (λ c. get_or (h.words c) ((wants ∙ ap (λ (y : LocalView). loaded_word y.givens (want y.state)) m) c) 0)
      ∙ sym (turn_loads g (world_of g h.log) (lawful g h.log) p (o s h at)) ∙ ap (λ (y : LocalView). loaded_value (world_of g h.log) (want y.state)) (sym m) in
      let may : MayLoad l.givens x (want l.state) = subst (λ n. MayLoad l.givens n (want l.state)) (sym saw)
      (subst (λ (y : LocalView). MayLoad y.givens (loaded_value (world_of g h.log) (want y.state)) (want y.state)) (sym m) (may_load g (world_of g h.log) (lawful g h.log) p (o s h at))) in (
        view_after me.0 (b s h at) (Turn p) (machine_turned l x),
        keeps,
        tt,
        turns.move_kept g xs s h id me.0 l at is (Turn p) refl refl (machine_turned l x) (now s h at x saw goes) refl (set s.words i x)
            (set-get_or s.words i 0 ∙ sym (load_writes l.givens p (want l.state) s.words load) ∙ sym (words_now s h at goes)) s.homes (slots_as g xs (world_of g h.log) (world_of g (h.log ++ Turn p ∷ [])) s.homes (still s h at calm goes) h.slots),
        (turned_by s h at x saw, subst (λ ro. MayLoadBy ro x) (sym is) may, refl),
      )

  -- a count of claims is stored, and the slot of the job is taken
  pub claims : (i c j : ℕ) → want l.state ≡ StoreClaim c j → ((words : List ℕ) → set words i c ≡ words_after l.givens p (StoreClaim c j) words)
      → Allows (IsOpen k) slots id me i (λ _. c) (λ _. told_by_claim (step slots i c 0 none) me c)
  claims i c j wants wrote s h deep at _ =
      let w : World = world_of g h.log in
      let phase : l.state.phase ≡ Claiming j = claiming_job l.state l.state.phase c j wants in
      let goes : wants_nothing l.state.phase ≡ false = ap wants_nothing phase in
      let there : (process w p).local.phase ≡ Claiming j = sym (phase_is s h at) ∙ phase in
      let saw : 0 ≡ loaded_value w (want l.state) = sym (ap (loaded_value w) wants) in
      let still_here : (process w p).gone ≡ false = here s h at goes in
      let job : IsJob g j = claim_job g w p (lawful g h.log) still_here j there in
      let low = job.low in let high = job.high in let size = h.count in
      let y = some_at xs (j - 1) (omega arith) in
      let back : j - 1 + 1 ≡ j = omega arith in
      let mine = turns.mine g xs s h id me.0 l at is in
      let free : is_claimed w.processes j ≡ false = claim_free g w p (lawful g h.log) still_here j there in
      let more : world_of g (h.log ++ Turn p ∷ []) ≡ world_after_turn g w p = world_more g (opening_world g) h.log (Turn p) in (
        view_after me.0 (b s h at) (Turn p) (machine_turned l 0),
        takes (j - 1) (Some y.0),
        h.slots.1 (j - 1) y.0 y.1 ∙ ap (λ b. some (home_of b y.0)) (ap (is_claimed w.processes) back ∙ free),
        turns.move_kept g xs s h id me.0 l at is (Turn p) refl refl (machine_turned l 0) (now s h at 0 saw goes) refl (set s.words i c)
            (wrote s.words ∙ ap (λ y. words_after l.givens p y s.words) (sym wants) ∙ sym (words_now s h at goes)) (set s.homes (j - 1) none)
            (slot_goes g xs w (world_of g (h.log ++ Turn p ∷ [])) s.homes j low (omega arith) (ap (λ (u : World). is_claimed u.processes j) more ∙ claim_new g w p (lawful g h.log) still_here j there)
            (λ e n. ap (λ (u : World). is_claimed u.processes e) more ∙ claim_else g w p (lawful g h.log) still_here j there e n) h.slots),
        (
          turned_by s h at 0 saw,
          subst (λ ro. TakenBy me.0.payloads me.1 ro ((j - 1, Some y.0) ∷ me.1)) (sym is) (subst (λ z. TakesIn me.0.payloads me.1 z ((j - 1, Some y.0) ∷ me.1)) (sym phase) (y.0, ap (λ l. get_elem? l (j - 1)) mine.0.1 ∙ y.1, refl)),
          refl,
        ),
      )

  -- 0 is stored to the announcement, and the worker has left
  pub leaves : (i : ℕ) → can_leave l.state.phase ≡ true → i ≡ next_word p → Allows (IsOpen k) slots id me i (λ _. 0) (λ _. told_by_leave (step slots i 0 0 none) me 0)
  leaves i may word s h deep at _ =
      let w : World = world_of g h.log in
      let there : (process w p).gone ≡ false = here s h at (leave_goes l.state.phase may) in
      let can : can_leave (process w p).local.phase ≡ true = ap can_leave (sym (phase_is s h at)) ∙ may in
      let more : world_of g (h.log ++ Leave p ∷ []) ≡ world_after_leave w p = world_more g (opening_world g) h.log (Leave p) in
      let m : l ≡ machine_after g h.log p = machine s h at in (
        view_after me.0 (b s h at) (Leave p) (machine_left l),
        keeps,
        tt,
        turns.move_kept g xs s h id me.0 l at is (Leave p) refl refl (machine_left l)
            (ap (λ (u : World). machine_in g u p) more ∙ left_machine g w p (lawful g h.log) there can ∙ (λ c. machine_left (sym m c))) refl (set s.words i 0)
            (sym (ap (λ (u : World). words_of u.processes) more ∙ leave_writes g w (lawful g h.log) p there can ∙ (λ c. set (sym h.words c) (sym word c) 0))) s.homes
            (slots_as g xs w (world_of g (h.log ++ Leave p ∷ [])) s.homes (λ j. ap (λ (u : World). is_claimed u.processes j) more ∙ left_claims g w p (lawful g h.log) there can j) h.slots),
        (subst (λ ro. LeftBy me.0 ro (view_after me.0 (b s h at) (Leave p) (machine_left l))) (sym is) (record { between = b s h at; others = turns.others_only g xs s h id me.0 l at is; own = seen_own s h at; leads = refl }), refl, refl),
      )
