-- Each move keeps the rule.
use Rattle.std.proofs.Common.{◌≡◌, ◌≢◌, ℕ, zero, suc, ◌+◌, ◌<◌, List, [], ◌∷◌, ◌++◌, length, eqb, cond, set, sym, refl, ap, ◌∙◌, subst, ⊎_elim, append_assoc, append-nil, length-append, length-set, get_or, eq-eqb, ne_eqb, arith}
use Rattle.std.proofs.lemmas.List.Elements.{filter-append, All-push}
use Rattle.std.proofs.lemmas.List.Quantifiers.{all_pairs_push}
use mathlib.Core.Option.{some, some-ne-none, some-injective}
use lib.ListN.{get_elem?}
use Rattle.crossbeam_queue.specs.Fifo.{Pushes, Pops, Forks, Merges, Learns}
use Rattle.crossbeam_queue.proofs.Lists.{at_set}
use Rattle.amo_mailbox.specs.declared.output.Output.{Output}
use Rattle.amo_mailbox.specs.declared.pass_state.PassState.{PassState}
use Rattle.amo_mailbox.specs.declared.pass_state.PassState.TheVariants.{Sends, Gets, Spent}
use Rattle.amo_mailbox.specs.Mailbox.{of, CameBack, AreWhole, AreWithin, Fits, Delivers, stays, goes, joined, Adds, Takes, Tells}
use Rattle.amo_mailbox.proofs.Lists.{all_snoc, all_set}

-- the seats, with x at p
abbrev seated : ℕ → ℕ → (ℕ → ℕ) → ℕ → ℕ
seated p x f q = cond (eqb q p) x (f q)

seated_here : (p x : ℕ) (f : ℕ → ℕ) → seated p x f p ≡ x
seated_here p x f = ap (λ b. cond b x (f p)) (eq-eqb p p refl)

seated_else : (p x : ℕ) (f : ℕ → ℕ) (q : ℕ) → q ≢ p → seated p x f q ≡ f q
seated_else p x f q n = ap (λ b. cond b x (f q)) (ne_eqb q p n)

module _ {Out : Type 0} where
  -- the outputs of another worker stay when one is put
  of_other : (q : ℕ) (x : Output Out) (xs : List (Output Out)) → x.worker ≢ q → of q (xs ++ x ∷ []) ≡ of q xs
  of_other q x xs n = filter-append (λ (y : Output Out). eqb y.worker q) xs (x ∷ []) ∙ ap (λ b. of q xs ++ cond b (x ∷ []) []) (ne_eqb x.worker q n) ∙ append-nil (of q xs)

  of_own : (x : Output Out) (xs : List (Output Out)) → of x.worker (xs ++ x ∷ []) ≡ of x.worker xs ++ x ∷ []
  of_own x xs = filter-append (λ (y : Output Out). eqb y.worker x.worker) xs (x ∷ []) ∙ ap (λ b. of x.worker xs ++ cond b (x ∷ []) []) (eq-eqb x.worker x.worker refl)

  came_back_moved : (seat seat' : ℕ → ℕ) (all all' : List (Output Out)) (back : List (ℕ × List (Output Out)))
      → ((q : ℕ) → seat q ≡ 0 → (seat' q ≡ 0) × (of q all' ≡ of q all)) → CameBack seat all back → CameBack seat' all' back
  came_back_moved seat seat' all all' back same h k d lt = let e = h k d lt in let s = same (get_or back k d).0 e.0 in (s.0, e.1 ∙ sym s.1)

  -- what a pass knows stays so where neither its seats change nor what was put of its workers
  fits_moved : (reader : ℕ) (seat seat' : ℕ → ℕ) (got all all' : List (Output Out)) (j : ℕ) (u : PassState Out)
      → ((q : ℕ) → seat q ≡ 0 → (seat' q ≡ 0) × (of q all' ≡ of q all)) → ((q : ℕ) → seat q ≡ j + 1 → (seat' q ≡ j + 1) × (of q all' ≡ of q all))
      → Fits reader seat got all j u → Fits reader seat' got all' j u
  fits_moved reader seat seat' got all all' j (Sends q put) empty mine h = let s = mine q h.0 in (s.0, h.1 ∙ sym s.1)
  fits_moved reader seat seat' got all all' j (Gets taken made back) empty mine h = (
    h.0,
    h.1,
    (λ p more. let e = empty p (h.2 p more).0 in (e.0, e.1 ∙ (h.2 p more).1)),
    came_back_moved seat seat' all all' back empty h.3,
    h.4,
  )
  fits_moved reader seat seat' got all all' j Spent empty mine h = tt

  only_one : (v u : PassState Out) (j : ℕ) → get_elem? (v ∷ []) j ≡ some u → (j ≡ 0) × (v ≡ u)
  only_one v u zero e = (refl, some-injective v u e)
  only_one v u (suc j) e = absurd (some-ne-none u (sym e))

  pub begins : Delivers {Out = Out} [] (Gets [] 0 [] ∷ [])
  begins = record {
    reader = 0;
    seat = λ p. 0;
    got = [];
    each = λ j v e. let o = only_one (Gets [] 0 []) v j e in
        subst (λ (y : ℕ × PassState Out). Fits 0 (λ p. 0) [] [] y.0 y.1) (λ k. (sym o.0 k, o.1 k)) (refl, refl, (λ p h. (refl, refl)), (λ k d lt. absurd (omega arith)), (λ i j d lt lt'. absurd (omega arith)));
  }

  sends_at : (n pass : ℕ) (x : Output Out) (put : List (Output Out)) → Pushes Delivers n pass (Sends x.worker put) x (Adds (Sends x.worker put) x)
  sends_at n pass x put items views room h at =
      let w : PassState Out = Sends x.worker (put ++ x ∷ []) in
      let mine = h.each pass (Sends x.worker put) at in
      let all : List (Output Out) = (h.got ++ items) ++ x ∷ [] in
      let whole : all ≡ h.got ++ (items ++ x ∷ []) = append_assoc h.got items (x ∷ []) in
      let F : ℕ → PassState Out → Type 0 = Fits h.reader h.seat h.got all in (
        w,
        record {
          reader = h.reader;
          seat = h.seat;
          got = h.got;
          each = subst (λ (a : List (Output Out)). (j : ℕ) (u : PassState Out) → get_elem? (set views pass w) j ≡ some u → Fits h.reader h.seat h.got a j u) whole
              (all_set F views pass w (mine.0, ap (λ l. l ++ x ∷ []) mine.1 ∙ sym (of_own x (h.got ++ items)))
              (λ j u other e.
              fits_moved h.reader h.seat h.seat h.got (h.got ++ items) all j u
              (λ q empty. (empty, of_other q x (h.got ++ items) (λ same. let m = mine.0 in let z : h.seat x.worker ≡ 0 = ap h.seat same ∙ empty in absurd (omega arith))))
              (λ q is. (is, of_other q x (h.got ++ items) (λ same. let m = mine.0 in let z : h.seat x.worker ≡ j + 1 = ap h.seat same ∙ is in other (omega arith))))
              (h.each j u e)));
        },
        refl,
      )

  -- an outlet's pass sends an output of its worker
  pub sends : (n pass : ℕ) (v : PassState Out) (x : Output Out) (put : List (Output Out)) → v ≡ Sends x.worker put → Pushes Delivers n pass v x (Adds v x)
  sends n pass v x put is = subst (λ (u : PassState Out). Pushes Delivers n pass u x (Adds u x)) (sym is) (sends_at n pass x put)

  -- of each that came back there are at most as many in a beginning as it sent
  within : (seat : ℕ → ℕ) (xs ys : List (Output Out)) (back : List (ℕ × List (Output Out))) → CameBack seat (xs ++ ys) back → AreWithin xs back
  within seat xs ys back h k d lt =
      let e : ℕ × List (Output Out) = get_or back k d in
      let is : length e.1 ≡ length (of e.0 xs ++ of e.0 ys) = ap length ((h k d lt).1 ∙ filter-append (λ (y : Output Out). eqb y.worker e.0) xs ys) in
      omega (arith, length-append (of e.0 xs) (of e.0 ys))

  whole : (seat : ℕ → ℕ) (xs : List (Output Out)) (back : List (ℕ × List (Output Out))) → CameBack seat xs back → AreWhole xs back
  whole seat xs back h k d lt = sym (h k d lt).1

  -- what the inlet took says nothing of another's pass
  not_reader : (reader : ℕ) (seat : ℕ → ℕ) (got got' all : List (Output Out)) (j : ℕ) (u : PassState Out) → j ≢ reader → Fits reader seat got all j u → Fits reader seat got' all j u
  not_reader reader seat got got' all j (Sends q put) n h = h
  not_reader reader seat got got' all j (Gets taken made back) n h = absurd (n h.0)
  not_reader reader seat got got' all j Spent n h = tt

  -- a pass that is not the inlet's knows of the seats only its own
  only_sends : (reader : ℕ) (seat seat' : ℕ → ℕ) (got all : List (Output Out)) (j : ℕ) (u : PassState Out) → j ≢ reader → ((q : ℕ) → seat q ≡ j + 1 → seat' q ≡ j + 1)
      → Fits reader seat got all j u → Fits reader seat' got all j u
  only_sends reader seat seat' got all j (Sends q put) n same h = (same q h.0, h.1)
  only_sends reader seat seat' got all j (Gets taken made back) n same h = absurd (n h.0)
  only_sends reader seat seat' got all j Spent n same h = tt

  takes_at : (pass : ℕ) (taken : List (Output Out)) (made : ℕ) (back : List (ℕ × List (Output Out))) → Pops Delivers pass (Gets taken made back) (Takes (Gets taken made back))
  takes_at pass taken made back x items views h at =
      let mine = h.each pass (Gets taken made back) at in
      let got : List (Output Out) = h.got ++ x ∷ [] in
      let w : PassState Out = Gets (taken ++ x ∷ []) made back in
      let all : h.got ++ (x ∷ items) ≡ got ++ items = sym (append_assoc h.got (x ∷ []) items) in
      let is : got ≡ taken ++ x ∷ [] = ap (λ l. l ++ x ∷ []) (sym mine.1) in
      let b : CameBack h.seat (got ++ items) back = subst (λ (a : List (Output Out)). CameBack h.seat a back) all mine.3 in
      let F : ℕ → PassState Out → Type 0 = Fits h.reader h.seat got (got ++ items) in (
        w,
        record {
          reader = h.reader;
          seat = h.seat;
          got = got;
          each = all_set F views pass w
              (mine.0, sym is, subst (λ (a : List (Output Out)). (p : ℕ) → made < p → (h.seat p ≡ 0) × (of p a ≡ [])) all mine.2, b, mine.4)
              (λ j u other e. not_reader h.reader h.seat h.got got (got ++ items) j u (λ r. other (r ∙ sym mine.0)) (subst (λ (a : List (Output Out)). Fits h.reader h.seat h.got a j u) all (h.each j u e)));
        },
        (refl, subst (λ (a : List (Output Out)). AreWithin a back) is (within h.seat got items back b)),
      )

  -- the inlet's pass takes an output
  pub takes : (pass : ℕ) (v : PassState Out) (taken : List (Output Out)) (made : ℕ) (back : List (ℕ × List (Output Out))) → v ≡ Gets taken made back → Pops Delivers pass v (Takes v)
  takes pass v taken made back is = subst (λ (u : PassState Out). Pops Delivers pass u (Takes u)) (sym is) (takes_at pass taken made back)

  pub learns : (pass : ℕ) (v : PassState Out) → Learns Delivers pass v (Tells v)
  learns pass (Sends p put) items views h at = tt
  learns pass (Gets taken made back) items views h at =
      let mine = h.each pass (Gets taken made back) at in
      (whole h.seat (taken ++ items) back (subst (λ (a : List (Output Out)). CameBack h.seat (a ++ items) back) (sym mine.1) mine.3), mine.4)
  learns pass Spent items views h at = tt

  -- a new pass has a view that fits its place, and the old one a view that fits its own
  fits_forked : (reader : ℕ) (seat : ℕ → ℕ) (got all : List (Output Out)) (views : List (PassState Out)) (pass : ℕ) (left right : PassState Out)
      → Fits reader seat got all pass left → Fits reader seat got all (length views) right → ((j : ℕ) (u : PassState Out) → j ≢ pass → get_elem? views j ≡ some u → Fits reader seat got all j u)
      → (j : ℕ) (u : PassState Out) → get_elem? (set views pass left ++ right ∷ []) j ≡ some u → Fits reader seat got all j u
  fits_forked reader seat got all views pass left right mine new others =
      all_snoc (Fits reader seat got all) (set views pass left) right (subst (λ (n : ℕ). Fits reader seat got all n right) (sym (length-set views pass left)) new)
      (all_set (Fits reader seat got all) views pass left mine others)

  makes_at : (pass : ℕ) (taken : List (Output Out)) (made : ℕ) → Forks Delivers pass (Gets taken made []) (Gets taken (made + 1) []) (Sends (made + 1) [])
  makes_at pass taken made items views h at =
      let mine = h.each pass (Gets taken made []) at in
      let p : ℕ = made + 1 in
      let k : ℕ = length views + 1 in
      let empty = mine.2 p (omega arith) in
      let seat : ℕ → ℕ = seated p k h.seat in
      let all : List (Output Out) = h.got ++ items in record {
        reader = h.reader;
        seat = seat;
        got = h.got;
        each = fits_forked h.reader seat h.got all views pass (Gets taken (made + 1) []) (Sends p [])
            (mine.0, mine.1, (λ q more. let e = mine.2 q (omega arith) in (seated_else p k h.seat q (λ is. omega arith) ∙ e.0, e.1)), (λ i d lt. absurd (omega arith)), (λ i j d lt lt'. absurd (omega arith)))
            (seated_here p k h.seat, sym empty.1)
            (λ j u other e. only_sends h.reader h.seat seat h.got all j u (λ r. other (r ∙ sym mine.0))
            (λ q is. seated_else p k h.seat q (λ same. let z : 0 ≡ j + 1 = sym empty.0 ∙ ap h.seat (sym same) ∙ is in absurd (omega arith)) ∙ is)
            (h.each j u e));
      }

  -- the inlet's pass makes an outlet's, of the next worker
  pub makes : (pass : ℕ) (v : PassState Out) (taken : List (Output Out)) (made : ℕ) → v ≡ Gets taken made [] → Forks Delivers pass v (stays v) (goes v)
  makes pass v taken made is = subst (λ (u : PassState Out). Forks Delivers pass u (stays u) (goes u)) (sym is) (makes_at pass taken made)

  cuts_at : (pass p : ℕ) (put : List (Output Out)) → Forks Delivers pass (Sends p put) Spent (Sends p put)
  cuts_at pass p put items views h at =
      let mine = h.each pass (Sends p put) at in
      let k : ℕ = length views + 1 in
      let seat : ℕ → ℕ = seated p k h.seat in
      let all : List (Output Out) = h.got ++ items in record {
        reader = h.reader;
        seat = seat;
        got = h.got;
        each = fits_forked h.reader seat h.got all views pass Spent (Sends p put) tt (seated_here p k h.seat, mine.1)
            (λ j u other e. fits_moved h.reader h.seat seat h.got all all j u
            (λ q is. (seated_else p k h.seat q (λ same. let m = mine.0 in let z : h.seat p ≡ 0 = ap h.seat (sym same) ∙ is in absurd (omega arith)) ∙ is, refl))
            (λ q is. (seated_else p k h.seat q (λ same. let m = mine.0 in let z : h.seat p ≡ j + 1 = ap h.seat (sym same) ∙ is in other (omega arith)) ∙ is, refl))
            (h.each j u e));
      }

  -- all that an outlet's pass knows goes into a new one
  pub cuts : (pass : ℕ) (v : PassState Out) (p : ℕ) (put : List (Output Out)) → v ≡ Sends p put → Forks Delivers pass v (stays v) (goes v)
  cuts pass v p put is = subst (λ (u : PassState Out). Forks Delivers pass u (stays u) (goes u)) (sym is) (cuts_at pass p put)

  -- no outlet of a worker that is out came back
  still_new : (seat : ℕ → ℕ) (all : List (Output Out)) (p n : ℕ) → seat p ≡ n + 1 → (back : List (ℕ × List (Output Out))) → CameBack seat all back
      → (k : ℕ) (d : ℕ × List (Output Out)) → k < length back → (get_or back k d).0 ≢ p
  still_new seat all p n out back h k d lt same = let z = (h k d lt).0 in let y : seat p ≡ 0 = ap seat (sym same) ∙ z in absurd (omega arith)

  merges_at : (pass : ℕ) (taken : List (Output Out)) (made : ℕ) (back : List (ℕ × List (Output Out))) (other p : ℕ) (put : List (Output Out))
      → Merges Delivers pass (Gets taken made back) other (Sends p put) (Gets taken made (back ++ (p, put) ∷ [])) Spent
  merges_at pass taken made back other p put items views h at two at' =
      let both : PassState Out = Gets taken made (back ++ (p, put) ∷ []) in
      let mine = h.each pass (Gets taken made back) at in
      let was : get_elem? views other ≡ some (Sends p put) = ⊎_elim (λ x. absurd (two x.0)) (λ x. x.1) (at_set views pass other both (Sends p put) at') in
      let theirs = h.each other (Sends p put) was in
      let seat : ℕ → ℕ = seated p 0 h.seat in
      let all : List (Output Out) = h.got ++ items in
      let empty : (q : ℕ) → h.seat q ≡ 0 → (seat q ≡ 0) × (of q all ≡ of q all) =
      λ q is. (seated_else p 0 h.seat q (λ same. let t = theirs.0 in let z : h.seat p ≡ 0 = ap h.seat (sym same) ∙ is in absurd (omega arith)) ∙ is, refl) in
      let Now : ℕ → PassState Out → Type 0 = λ j u. j ≢ other → Fits h.reader seat h.got all j u in record {
        reader = h.reader;
        seat = seat;
        got = h.got;
        each = all_set (Fits h.reader seat h.got all) (set views pass both) other Spent tt
            (λ j u apart e. all_set Now views pass both
            (λ _. (
              mine.0,
              mine.1,
              (λ q more. let e = mine.2 q more in ((empty q e.0).0, e.1)),
              All-push (λ (e : ℕ × List (Output Out)). (seat e.0 ≡ 0) × (e.1 ≡ of e.0 all)) back (p, put) (came_back_moved h.seat seat all all back empty mine.3) (seated_here p 0 h.seat, theirs.1),
              all_pairs_push (λ (e f : ℕ × List (Output Out)). e.0 ≢ f.0) back (p, put) mine.4 (still_new h.seat all p other theirs.0 back mine.3),
            ))
            (λ i y _ f away. fits_moved h.reader h.seat seat h.got all all i y empty
            (λ q is. (seated_else p 0 h.seat q (λ same. let t = theirs.0 in let z : h.seat p ≡ i + 1 = ap h.seat (sym same) ∙ is in away (omega arith)) ∙ is, refl))
            (h.each i y f))
            j u e apart);
      }

  -- the inlet's pass takes in an outlet's
  pub merges : (pass : ℕ) (v : PassState Out) (other : ℕ) (w : PassState Out) (taken : List (Output Out)) (made : ℕ) (back : List (ℕ × List (Output Out))) (p : ℕ) (put : List (Output Out))
      → v ≡ Gets taken made back → w ≡ Sends p put → Merges Delivers pass v other w (joined v w) Spent
  merges pass v other w taken made back p put is its =
      subst (λ (u : PassState Out × PassState Out). Merges Delivers pass u.0 other u.1 (joined u.0 u.1) Spent) (λ i. (sym is i, sym its i)) (merges_at pass taken made back other p put)
