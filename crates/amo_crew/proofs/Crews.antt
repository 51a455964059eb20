-- Before the threads, after them, and before the first worker is collected.
use Rattle.std.proofs.Common.{◌≡◌, ◌≢◌, inr, ℕ, zero, suc, ◌-◌, Bool, true, false, List, [], ◌∷◌, length, sum_by, All, refl, sym, ap, ◌∙◌, subst, arith}
use Rattle.std.specs.Prelude.{◌||◌}
use Rattle.std.specs.List.{AllZip}
use Rattle.std.proofs.lemmas.Bool.{true≢false}
use Rattle.std.proofs.lemmas.List.Elements.{All-cons, All-nil}
use mathlib.Core.Option.{some, some-injective, some-ne-none}
use lib.ListN.{get_elem?}
use Rattle.atomic_table.specs.Seated.{TableId}
use Rattle.amo_sets.specs.Lists.{numbered}
use Rattle.amo_params.specs.declared.givens.Givens.{Givens}
use Rattle.amo_words.specs.Rule.{AllStand}
use Rattle.amo_words.specs.Faces.{Seated, machine, spots}
use Rattle.amo_claims.specs.Calls.{worker_in}
use Rattle.amo_mailbox.specs.declared.queue.Queue.{Queue}
use Rattle.amo_mailbox.specs.declared.outlet.Outlet.{Outlet}
use Rattle.amo_crew.specs.declared.outcome.End.{End}
use Rattle.amo_crew.specs.declared.outcome.End.TheVariants.{Ended, Halted, NotStarted}
use Rattle.amo_crew.specs.declared.run.member.Member.{Member}
use Rattle.amo_crew.specs.declared.run.member.Finish.{Finish}
use Rattle.amo_crew.specs.declared.run.member.Finish.TheVariants.{Ran as HasRan, NotStarted as WasNotStarted}
use Rattle.amo_crew.specs.Running.{HasRun, IsMember}
use Rattle.amo_crew.specs.declared.kit.Kit.{Kit}
use Rattle.amo_crew.specs.declared.settle.collecting.Collected.{Collected}
use Rattle.amo_mailbox.specs.Endpoints.{IsOutletOf, has_worker}
use Rattle.amo_crew.specs.Hired.{AreHired}
use Rattle.amo_crew.specs.Crew.{MayRun, IsFinishOf, IsCrew, HasFinished, AreFinished}
use Rattle.amo_crew.specs.Outcomes.{spot_of, IsBare, AreEnds, AreInHand, AllStarted, SomeRefused}
use Rattle.amo_crew.specs.Refusing.{is_refused, any_refused}
use Rattle.amo_crew.specs.Collecting.{RanAt, AreCollected}
use Rattle.amo_crew.proofs.Starts.{hired_bare}

pub all_at : {A : Type 0} (Q : A → Type 0) (xs : List A) → ((k : ℕ) (x : A) → get_elem? xs k ≡ some x → Q x) → All Q xs
all_at Q [] h = All-nil Q
all_at Q (x ∷ xs) h = All-cons Q x xs (h 0 x refl) (all_at Q xs (λ k y e. h (suc k) y e))

zip_at : {A B : Type 0} (R : A → B → Type 0) (xs : List A) (ys : List B) → AllZip R xs ys → (k : ℕ) (y : B) → get_elem? ys k ≡ some y → (x : A) × (get_elem? xs k ≡ some x) × R x y
zip_at R [] [] h k y e = absurd (some-ne-none y (sym e))
zip_at R [] (b ∷ ys) h k y e = absurd h
zip_at R (a ∷ xs) [] h k y e = absurd h
zip_at R (a ∷ xs) (b ∷ ys) h zero y e = (a, refl, subst (R a) (some-injective b y e) h.0)
zip_at R (a ∷ xs) (b ∷ ys) h (suc k) y e = zip_at R xs ys h.1 k y e

pub zip_length : {A B : Type 0} (R : A → B → Type 0) (xs : List A) (ys : List B) → AllZip R xs ys → length ys ≡ length xs
zip_length R [] [] h = refl
zip_length R [] (b ∷ ys) h = absurd h
zip_length R (a ∷ xs) [] h = absurd h
zip_length R (a ∷ xs) (b ∷ ys) h = ap suc (zip_length R xs ys h.1)

module _ {P Out : Type 0} (related : ℕ → ℕ → P → Out → Type 0) (queue : Queue Out) (table : TableId) (g : Givens) (payloads : List P) (budgets : List ℕ) where
  may_run : (p budget : ℕ) (m : Member P Out) → IsMember queue table g payloads p budget m → MayRun queue table m
  may_run p budget m is = record {
    begun = is.begun;
    table_is = is.table_is;
    givens = refl;
    payloads_are = refl;
    number = refl;
    fresh = is.fresh;
    belongs = is.belongs;
    worker = is.worker ∙ sym is.number;
    room = is.room ∙ ap (λ (x : Givens). x.jobs) (sym is.givens);
    empty = is.empty;
    budget_is = refl;
    small = is.small;
  }

  pub all_may_run : (crew : List (Member P Out)) → IsCrew queue table g payloads budgets crew → All (MayRun queue table) crew
  all_may_run crew is = all_at (MayRun queue table) crew (λ k m at. may_run (g.workers - k) (numbered 0 budgets (g.workers - k)) m (is k m at))

  run_is : (p budget : ℕ) (m : Member P Out) (f : Finish P Out) → IsMember queue table g payloads p budget m → IsFinishOf related queue table m f → HasFinished related queue table g payloads p budget f
  run_is p budget m (HasRan r) is ran =
      subst (λ x. HasRun related queue table x payloads p budget r) is.givens
      (subst (λ x. HasRun related queue table (worker_in m.after).view.givens x p budget r) is.payloads_are
      (subst (λ x. HasRun related queue table (worker_in m.after).view.givens (worker_in m.after).view.payloads x budget r) is.number
      (subst (λ x. HasRun related queue table (worker_in m.after).view.givens (worker_in m.after).view.payloads (machine (worker_in m.after)).number x r) is.budget_is ran)))
  run_is p budget m (WasNotStarted u) is ran = tt

  pub all_finished : (crew : List (Member P Out)) (fs : List (Finish P Out)) → IsCrew queue table g payloads budgets crew → AllZip (IsFinishOf related queue table) crew fs → AreFinished related queue table g payloads budgets fs
  all_finished crew fs is zip k f at = let m = zip_at (IsFinishOf related queue table) crew fs zip k f at in run_is (g.workers - k) (numbered 0 budgets (g.workers - k)) m.0 f (is k m.0 m.1) m.2

  ran_at : (p budget : ℕ) (f : Finish P Out) → HasFinished related queue table g payloads p budget f → RanAt table f
  ran_at p budget (HasRan r) h = h.filed.table_is
  ran_at p budget (WasNotStarted u) h = tt

  pub all_ran_at : (fs : List (Finish P Out)) → AreFinished related queue table g payloads budgets fs → All (RanAt table) fs
  all_ran_at fs h = all_at (RanAt table) fs (λ k f at. ran_at (g.workers - k) (numbered 0 budgets (g.workers - k)) f (h k f at))

  -- nothing is collected yet
  pub starts : (b : Seated P) (all : Collected P Out) → b.table_id ≡ table → b.view.givens ≡ g → b.view.payloads ≡ payloads → length (spots b) ≡ g.workers → AllStand g b.view.seen (spots b) → ((p : ℕ) → IsBare (spot_of (spots b) p))
      → all.outlets.items ≡ [] → all.ends.items ≡ [] → all.in_hand.items ≡ [] → AreCollected related queue table g payloads budgets 0 b all
  starts b all tied givens own size stand bare no_outlets no_ends no_hands = record {
    table_is = tied;
    givens = givens;
    payloads_are = own;
    size = size;
    stand = stand;
    rest = λ p l. bare p;
    belong = subst (All (IsOutletOf queue)) (sym no_outlets) (All-nil _);
    fits = λ p. inr (ap (λ l. has_worker l p) no_outlets, (bare p).0);
    count = ap (sum_by (λ (o : Outlet Out). o.put_count)) no_outlets;
    ends_are = subst (AreEnds budgets (spots b) 0) (sym no_ends) (record { size = refl; each = λ k e at. absurd (some-ne-none e (sym at)) });
    hands_are = subst (AreInHand payloads (spots b) 0) (sym no_hands) (record { jobs = refl; own = All-nil _ });
  }

-- whether a thread was refused

pub some_refused : (es : List End) → any_refused es ≡ true → SomeRefused es
some_refused [] h = absurd (true≢false (sym h))
some_refused (Ended n ∷ es) h = let r = some_refused es h in (suc r.0, r.1)
some_refused (Halted n ∷ es) h = let r = some_refused es h in (suc r.0, r.1)
some_refused (NotStarted ∷ es) h = (0, refl)

pub all_started : (es : List End) → any_refused es ≡ false → AllStarted es
all_started es h = all_at (λ e. e ≢ NotStarted) es (go es h)
  where
    go : (es : List End) → any_refused es ≡ false → (k : ℕ) (e : End) → get_elem? es k ≡ some e → e ≢ NotStarted
    go [] h k e at = absurd (some-ne-none e (sym at))
    go (x ∷ xs) h zero e at = λ is. first x (x_false x (any_refused xs) h) (some-injective x e at ∙ is)
      where
        x_false : (x : End) (b : Bool) → (is_refused x || b) ≡ false → is_refused x ≡ false
        x_false (Ended n) b h = refl
        x_false (Halted n) b h = refl
        x_false NotStarted b h = h

        first : (x : End) → is_refused x ≡ false → x ≢ NotStarted
        first x h is = true≢false (sym (ap is_refused is) ∙ h)
    go (Ended n ∷ xs) h (suc k) e at = go xs h k e at
    go (Halted n ∷ xs) h (suc k) e at = go xs h k e at
    go (NotStarted ∷ xs) h (suc k) e at = absurd (true≢false h)

none_of : {A : Type 0} (xs : List A) → length xs ≡ 0 → xs ≡ []
none_of [] h = refl
none_of (x ∷ xs) h = absurd (omega arith)

-- of a whole crew that has ended each worker is finished, and nobody is collected yet
pub ended_crew : {P Out : Type 0} (related : ℕ → ℕ → P → Out → Type 0) (table : TableId) (g : Givens) (payloads : List P) (budgets : List ℕ) (book : Seated P) (kit : Kit P Out) (fs : List (Finish P Out)) → AreHired table g payloads budgets book kit
    → length kit.crew.items ≡ g.workers → AllZip (IsFinishOf related kit.queue table) kit.crew.items fs
    → (length fs ≡ g.workers) × AreFinished related kit.queue table g payloads budgets fs × AreCollected related kit.queue table g payloads budgets 0 book record { outlets = kit.outlets; ends = kit.ends; in_hand = kit.in_hand }
ended_crew related table g payloads budgets book kit fs is all zip = (
  zip_length (IsFinishOf related kit.queue table) kit.crew.items fs zip ∙ all,
  all_finished related kit.queue table g payloads budgets kit.crew.items fs is.members zip,
  starts related kit.queue table g payloads budgets book _ is.tied is.givens is.payloads_are is.size is.stand (hired_bare table g payloads budgets book kit is all)
      (none_of kit.outlets.items (let n = is.kit_is.count in omega arith)) is.kit_is.no_ends is.kit_is.no_hands,
)
