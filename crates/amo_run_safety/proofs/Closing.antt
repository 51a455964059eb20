-- In the round that can be joined, each intent that is read was tried there, unless it was said
-- that it wasn't begun or done.
use Rattle.std.proofs.Common.{◌≡◌, ◌⊎◌, inl, inr, ⊎_elim, ℕ, ◌+◌, ◌≤◌, true, false, List, [], ◌∷◌, ◌++◌, Option, Some, None, refl, sym, ap, ◌∙◌, subst, append_assoc}
use Rattle.std.specs.Prelude.{⊤}
use Rattle.std.proofs.lemmas.Bool.{true≢false}
use Rattle.amo_sets.specs.Lists.{numbered}
use Rattle.amo_params.specs.Givens.{IsJob}
use Rattle.amo_driver.specs.declared.model.Deed.{Deed}
use Rattle.amo_driver.specs.declared.model.Try.TheVariants.{Intend}
use Rattle.amo_driver.specs.Stage.{Asking}
use Rattle.amo_driver_safety.specs.Tries.{worker_of, tried_in}
use Rattle.amo_driver_safety.specs.declared.model.Moment.{Moment}
use Rattle.amo_driver_safety.specs.declared.model.Moment.TheVariants.{Does, Loses, Begins}
use Rattle.amo_run_files.specs.Rounds.{seat_of}
use Rattle.amo_run_safety.specs.File.{read_of}
use Rattle.amo_run_safety.specs.Site.{Whereabouts, Away, Before, Inside, Round, Site, first_site, Event, Dies, Starts, RoundBegins, Joins, Acts, Misses, Pays, PaysUnheard, PaysUnread, Says, SaysUnheard, SaysUnread, Stops, IsNumber, is_inside, with_at}
use Rattle.amo_run_safety.specs.Run.{left_in, whereabouts_after, whereabouts_missing, with_moment, with_moment_at, site_after, MayHappen, openings_by, is_among}
use Rattle.amo_run_safety.specs.Commands.{is_stop}
use Rattle.amo_run_safety.proofs.Openings.{among_more}
use Rattle.amo_run_safety.proofs.Entries.{HasEntry}
use Rattle.amo_run_safety.proofs.Reading.{TriesIntent, entry_was}
use Rattle.amo_run_safety.proofs.Intending.{intends_here, job_of}
use Rattle.amo_run_safety.proofs.Records.{one_job}
use Rattle.amo_run_safety.proofs.Sane.{at_number, IsSane}
use Rattle.amo_run_safety.proofs.Handed.{opened_then}

-- Worker p has tried this intent of job j in the round, as one of its workers.
pub record HasTried (r : Round) (p n j : ℕ) : Type 0 where
  pub before : List Moment
  pub moment : Moment
  pub after : List Moment
  pub is : r.moments ≡ before ++ moment ∷ after
  pub tries : tried_in moment ≡ Some (Intend n j)
  pub seat : seat_of p r.written.first r.written.workers r.written.givens.workers ≡ Some (worker_of moment)

abbrev pub IsTaken : Option Round → (said : List (ℕ × ℕ)) → (p n line : ℕ) → Type 0
IsTaken None said p n line = ⊤
IsTaken (Some r) said p n line = (j : ℕ) → IsJob r.givens j → numbered 0 r.written.lines j ≡ line → (is_among said p n ≡ true) ⊎ HasTried r p n j

pub record IsClosing (w : Site) (said : List (ℕ × ℕ)) : Type 0 where
  pub joinable : (p : ℕ) → is_inside (w.whereabouts p) ≡ true → w.joinable ≡ true
  pub taken : w.joinable ≡ true → (p n line : ℕ) → IsNumber p → HasEntry n line (read_of (w.journals p)) → IsTaken (w.rounds w.last) said p n line

pub first_closing : IsClosing first_site []
first_closing = record { joinable = λ p h. absurd (true≢false (sym h)); taken = λ h p n line number has. tt }

-- what is taken stays so

taken_more : (o : Option Round) (said more : List (ℕ × ℕ)) (p n line : ℕ) → IsTaken o said p n line → IsTaken o (said ++ more) p n line
taken_more None said more p n line h = tt
taken_more (Some r) said more p n line h = λ j is same. ⊎_elim
    (λ (a : is_among said p n ≡ true). inl (among_more said more p n a))
    (λ (b : HasTried r p n j). inr b)
    (h j is same)

tried_then : (r : Round) (m : Moment) (p n j : ℕ) → HasTried r p n j → HasTried (record r { moments = r.moments ++ m ∷ [] }) p n j
tried_then r m p n j h = record {
  before = h.before;
  moment = h.moment;
  after = h.after ++ m ∷ [];
  is = ap (λ l. l ++ m ∷ []) h.is ∙ append_assoc h.before (h.moment ∷ h.after) (m ∷ []);
  tries = h.tries;
  seat = h.seat;
}

taken_moment : (o : Option Round) (m : Moment) (said : List (ℕ × ℕ)) (p n line : ℕ) → IsTaken o said p n line → IsTaken (with_moment m o) said p n line
taken_moment None m said p n line h = tt
taken_moment (Some r) m said p n line h = λ j is same. ⊎_elim
    (λ (a : is_among said p n ≡ true). inl a)
    (λ (b : HasTried r p n j). inr (tried_then r m p n j b))
    (h j is same)

module _ (rounds : ℕ → Option Round) (last : ℕ) (said : List (ℕ × ℕ)) (p n line : ℕ) (h : IsTaken (rounds last) said p n line) where
  taken_in : (k : ℕ) (m : Moment) → IsTaken (with_at rounds k (with_moment m (rounds k)) last) said p n line
  taken_in k m = at_number (λ o. IsTaken o said p n line) rounds k (with_moment m (rounds k)) last
      (λ e. taken_moment (rounds k) m said p n line (subst (λ x. IsTaken (rounds x) said p n line) e h))
      (λ other. h)

  taken_at : (whereabouts : Whereabouts) (moment : ℕ → Moment) → IsTaken (with_moment_at whereabouts moment rounds last) said p n line
  taken_at Away moment = h
  taken_at (Before s) moment = h
  taken_at (Inside k q) moment = taken_in k (moment q)

inside_after : (whereabouts : Whereabouts) (d : Deed) → is_inside (whereabouts_after whereabouts d) ≡ is_inside whereabouts
inside_after Away d = refl
inside_after (Before s) d = refl
inside_after (Inside k q) d = refl

inside_missing : (whereabouts : Whereabouts) → is_inside (whereabouts_missing whereabouts) ≡ is_inside whereabouts
inside_missing Away = refl
inside_missing (Before s) = refl
inside_missing (Inside k q) = refl

module _ (w : Site) (said : List (ℕ × ℕ)) (sane : IsSane w said) where
  new_taken : (e : Event) → MayHappen w e → (p n line : ℕ) → TriesIntent w e p n line → IsTaken ((site_after w e).rounds (site_after w e).last) (said ++ openings_by w e) p n line
  new_taken e may p n line tries =
      let it = intends_here w said sane e may p n line tries in
      subst (λ o. IsTaken o (said ++ openings_by w e) p n line) (sym (it.afterwards ∙ ap (with_moment it.moment) it.stands)) (λ j is same. inr (
      let job = job_of it in
      let one = one_job it.round.written it.good.sound it.job j job.low (subst (λ k. it.job ≤ k) it.good.jobs job.high) is.low (subst (λ k. j ≤ k) it.good.jobs is.high) (it.line_is ∙ sym same) in
      record { before = it.round.moments; moment = it.moment; after = []; is = refl; tries = it.tries ∙ ap (λ k. Some (Intend n k)) one; seat = it.seat }))

  module _ (closing : IsClosing w said) where
    gone : (q p : ℕ) → is_inside (with_at w.whereabouts q Away p) ≡ true → w.joinable ≡ true
    gone q p h = at_number (λ whereabouts. is_inside whereabouts ≡ true → w.joinable ≡ true) w.whereabouts q Away p (λ e no. absurd (true≢false (sym no))) (λ n. closing.joinable p) h

    joinable_after : (e : Event) → MayHappen w e → (p : ℕ) → is_inside ((site_after w e).whereabouts p) ≡ true → (site_after w e).joinable ≡ true
    joinable_after (Dies q) may p h = gone q p h
    joinable_after (Starts q es) may p h =
        at_number (λ whereabouts. is_inside whereabouts ≡ true → w.joinable ≡ true) w.whereabouts q (Before (Asking (left_in es))) p (λ e no. absurd (true≢false (sym no))) (λ n. closing.joinable p) h
    joinable_after (RoundBegins g r lines) may p h = refl
    joinable_after (Joins q seat n) may p h = may.joinable
    joinable_after (Acts q time d) may p h = at_number (λ whereabouts. is_inside whereabouts ≡ true → w.joinable ≡ true) w.whereabouts q (whereabouts_after (w.whereabouts q) d) p
        (λ e yes. closing.joinable q (sym (inside_after (w.whereabouts q) d) ∙ yes)) (λ n. closing.joinable p) h
    joinable_after (Misses q time t) may p h = at_number (λ whereabouts. is_inside whereabouts ≡ true → w.joinable ≡ true) w.whereabouts q (whereabouts_missing (w.whereabouts q)) p
        (λ e yes. closing.joinable q (sym (inside_missing (w.whereabouts q)) ∙ yes)) (λ n. closing.joinable p) h
    joinable_after (Pays q) may p h = closing.joinable p h
    joinable_after (PaysUnheard q) may p h = gone q p h
    joinable_after (PaysUnread q) may p h = gone q p h
    joinable_after (Says f) may p h = closing.joinable p h
    joinable_after (SaysUnheard f) may p h = closing.joinable p h
    joinable_after (SaysUnread f) may p h = closing.joinable p h
    joinable_after (Stops left n) may p h = absurd (true≢false (sym h))

    -- an intent that was read is taken as before
    old_taken : (e : Event) → MayHappen w e → (site_after w e).joinable ≡ true → (p n line : ℕ) → IsNumber p → HasEntry n line (read_of (w.journals p))
        → IsTaken ((site_after w e).rounds (site_after w e).last) (said ++ openings_by w e) p n line
    old_taken (RoundBegins g r lines) may can p n line number has = at_number (λ o. IsTaken o (said ++ []) p n line) w.rounds (w.last + 1) (Some (record { givens = g; written = r; moments = [] })) (w.last + 1)
        (λ e j is same. inl (among_more said [] p n (opened_then w said p n line g r lines sane number has may j is same)))
        (λ other. absurd (other refl))
    old_taken (Stops left k) may can p n line number has = absurd (true≢false (sym can))
    old_taken (Dies q) may can p n line number has = taken_more (w.rounds w.last) said [] p n line (closing.taken can p n line number has)
    old_taken (Starts q es) may can p n line number has = taken_more (w.rounds w.last) said [] p n line (closing.taken can p n line number has)
    old_taken (Joins q seat k) may can p n line number has =
        taken_in w.rounds w.last (said ++ []) p n line (taken_more (w.rounds w.last) said [] p n line (closing.taken can p n line number has)) w.last (Begins seat k)
    old_taken (Acts q time d) may can p n line number has =
        let more = openings_by w (Acts q time d) in
        taken_at w.rounds w.last (said ++ more) p n line (taken_more (w.rounds w.last) said more p n line (closing.taken can p n line number has)) (w.whereabouts q) (λ seat. Does seat d)
    old_taken (Misses q time t) may can p n line number has =
        let more = openings_by w (Misses q time t) in
        taken_at w.rounds w.last (said ++ more) p n line (taken_more (w.rounds w.last) said more p n line (closing.taken can p n line number has)) (w.whereabouts q) (λ seat. Loses seat t)
    old_taken (Pays q) may can p n line number has = taken_more (w.rounds w.last) said [] p n line (closing.taken can p n line number has)
    old_taken (PaysUnheard q) may can p n line number has = taken_more (w.rounds w.last) said [] p n line (closing.taken can p n line number has)
    old_taken (PaysUnread q) may can p n line number has = taken_more (w.rounds w.last) said [] p n line (closing.taken can p n line number has)
    old_taken (Says f) may can p n line number has = taken_more (w.rounds w.last) said (openings_by w (Says f)) p n line (closing.taken can p n line number has)
    old_taken (SaysUnheard f) may can p n line number has = taken_more (w.rounds w.last) said (openings_by w (SaysUnheard f)) p n line (closing.taken can p n line number has)
    old_taken (SaysUnread f) may can p n line number has = taken_more (w.rounds w.last) said (openings_by w (SaysUnread f)) p n line (closing.taken can p n line number has)

    goes_on : (e : Event) → (site_after w e).joinable ≡ true → is_stop e ≡ false
    goes_on (Stops left n) can = absurd (true≢false (sym can))
    goes_on e can = refl

    pub closing_after : (e : Event) → MayHappen w e → IsClosing (site_after w e) (said ++ openings_by w e)
    closing_after e may = record {
      joinable = joinable_after e may;
      taken = λ can p n line number has. ⊎_elim
          (λ (old : HasEntry n line (read_of (w.journals p))). old_taken e may can p n line number old)
          (λ (new : TriesIntent w e p n line). new_taken e may p n line new)
          (entry_was w sane.owing e (goes_on e can) p n line has);
    }
