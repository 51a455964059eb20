-- A process that asks for intents is at the stage that its deeds lead to, each of which was due.
use Rattle.std.proofs.Common.{◌≡◌, ℕ, List, [], ◌∷◌, Option, Some, None, refl, ap, ◌∙◌, subst}
use Rattle.std.specs.Prelude.{⊤}
use Rattle.amo_driver.specs.declared.model.Deed.{Deed}
use Rattle.amo_driver.specs.declared.model.Deed.TheVariants.{Fell}
use Rattle.amo_driver.specs.declared.model.Try.{Try}
use Rattle.amo_driver.specs.Stage.{Stage, Asking, Broken}
use Rattle.amo_driver.specs.Course.{try_of, due, stage_after}
use Rattle.amo_driver_safety.specs.Log.{Stands}
use Rattle.amo_driver_safety.proofs.Logs.{stage_after_more, due_more}
use Rattle.amo_run_safety.specs.Site.{Whereabouts, Away, Before, Inside, Round, Site, first_site, Event, Dies, Starts, RoundBegins, Joins, Acts, Misses, Pays, PaysUnheard, PaysUnread, Says, SaysUnheard, SaysUnread, Stops, with_at}
use Rattle.amo_run_safety.specs.Run.{left_in, whereabouts_after, whereabouts_missing, site_after, MayAct, MayMiss, MayHappen, IsRunFrom, IsRun, site_after_all, site_of}
use Rattle.amo_run_safety.specs.Asked.{Asker, with_more, asker_after, asker_after_all, asker_of}
use Rattle.amo_run_safety.proofs.Sane.{at_number, at_both}

-- who is here, and has done this
abbrev AskedBy : Option Asker → Whereabouts → Type 0
AskedBy a Away = ⊤
AskedBy None (Before s) = ⊥
AskedBy (Some a) (Before s) = Stands (Asking (left_in a.attempts)) a.deeds s
AskedBy a (Inside k q) = ⊤

more_asked : (a : Option Asker) (s t : Stage) (d : Deed) → AskedBy a (Before s) → due s ≡ Some (try_of d) → stage_after s d ≡ t → AskedBy (with_more a d) (Before t)
more_asked None s t d h e is = absurd h
more_asked (Some a) s t d h e is =
    (due_more (Asking (left_in a.attempts)) a.deeds d h.0 (ap due h.1 ∙ e), stage_after_more (Asking (left_in a.attempts)) a.deeds d ∙ ap (λ (z : Stage). stage_after z d) h.1 ∙ is)

acted_asked : (rounds : ℕ → Option Round) (a : Option Asker) (whereabouts : Whereabouts) (d : Deed) → AskedBy a whereabouts → MayAct rounds whereabouts d → AskedBy (with_more a d) (whereabouts_after whereabouts d)
acted_asked rounds a Away d h may = absurd may
acted_asked rounds a (Before s) d h may = more_asked a s (stage_after s d) d h may refl
acted_asked rounds a (Inside k q) d h may = tt

missed_asked : (rounds : ℕ → Option Round) (a : Option Asker) (whereabouts : Whereabouts) (t : Try) → AskedBy a whereabouts → MayMiss rounds whereabouts t → AskedBy (with_more a (Fell t)) (whereabouts_missing whereabouts)
missed_asked rounds a Away t h may = absurd may
missed_asked rounds a (Before s) t h may = more_asked a s Broken (Fell t) h may refl
missed_asked rounds a (Inside k q) t h may = tt

module _ (p : ℕ) where
  gone : (w : Site) (a : Option Asker) (q : ℕ) → AskedBy a (w.whereabouts p) → AskedBy a (with_at w.whereabouts q Away p)
  gone w a q h = at_number (λ whereabouts. AskedBy a whereabouts) w.whereabouts q Away p (λ e. tt) (λ n. h)

  event_asked : (w : Site) (a : Option Asker) (e : Event) → AskedBy a (w.whereabouts p) → MayHappen w e → AskedBy (asker_after p a e) ((site_after w e).whereabouts p)
  event_asked w a (Dies q) h may = gone w a q h
  event_asked w a (Starts q es) h may = at_both (λ x whereabouts. AskedBy x whereabouts) (λ k. a) w.whereabouts q (Some (record { attempts = es; deeds = [] })) (Before (Asking (left_in es))) p (λ e. (tt, refl)) (λ n. h)
  event_asked w a (RoundBegins g r lines) h may = h
  event_asked w a (Joins q seat n) h may = at_number (λ whereabouts. AskedBy a whereabouts) w.whereabouts q (Inside w.last seat) p (λ e. tt) (λ n. h)
  event_asked w a (Acts q time d) h may = at_both (λ x whereabouts. AskedBy x whereabouts) (λ k. a) w.whereabouts q (with_more a d) (whereabouts_after (w.whereabouts q) d) p
      (λ e. acted_asked w.rounds a (w.whereabouts q) d (subst (λ x. AskedBy a (w.whereabouts x)) e h) may.1) (λ n. h)
  event_asked w a (Misses q time t) h may = at_both (λ x whereabouts. AskedBy x whereabouts) (λ k. a) w.whereabouts q (with_more a (Fell t)) (whereabouts_missing (w.whereabouts q)) p
      (λ e. missed_asked w.rounds a (w.whereabouts q) t (subst (λ x. AskedBy a (w.whereabouts x)) e h) may.1) (λ n. h)
  event_asked w a (Pays q) h may = h
  event_asked w a (PaysUnheard q) h may = gone w a q h
  event_asked w a (PaysUnread q) h may = gone w a q h
  event_asked w a (Says f) h may = h
  event_asked w a (SaysUnheard f) h may = h
  event_asked w a (SaysUnread f) h may = h
  event_asked w a (Stops left n) h may = tt

  all_asked : (w : Site) (a : Option Asker) (es : List Event) → AskedBy a (w.whereabouts p) → IsRunFrom w es → AskedBy (asker_after_all p a es) ((site_after_all w es).whereabouts p)
  all_asked w a [] h run = h
  all_asked w a (e ∷ es) h run = all_asked (site_after w e) (asker_after p a e) es (event_asked w a e h run.0) run.1

  stands : (a : Option Asker) (whereabouts : Whereabouts) (s : Stage) (x : Asker) → AskedBy a whereabouts → whereabouts ≡ Before s → a ≡ Some x → Stands (Asking (left_in x.attempts)) x.deeds s
  stands a whereabouts s x h at is = subst (λ o. AskedBy o (Before s)) is (subst (AskedBy a) at h)

  pub stands_by_asker : (es : List Event) (s : Stage) (a : Asker) → IsRun es → (site_of es).whereabouts p ≡ Before s → asker_of p es ≡ Some a → Stands (Asking (left_in a.attempts)) a.deeds s
  stands_by_asker es s a run at is = stands (asker_of p es) ((site_of es).whereabouts p) s a (all_asked first_site None es tt run) at is
