-- The closed registers of each worker show its done and claimed jobs.
use Rattle.std.proofs.Common.{◌≡◌, ℕ, zero, suc, ◌+◌, ◌<◌, ◌≤◌, Bool, ⊎_elim, List, [], ◌∷◌, ◌++◌, length, get_or, map, refl, sym, ap, ◌∙◌, subst, arith, eq-eqb, ne_eqb, Vec, Global}
use Rattle.std.specs.Prelude.{if◌then◌else◌}
use Rattle.std.proofs.lemmas.Bool.{cases_lt}
use Rattle.std.proofs.lemmas.List.{length-map, get_or-map, append-nil, length_push}
use Rattle.amo_sets.specs.Lists.{numbered, table}
use Rattle.amo_sets.proofs.Tables.{numbered-table, table_is}
use Rattle.amo_params.specs.Givens.{IsWorker, bound}
use Rattle.amo_kk.specs.World.{nobody, world_of}
use Rattle.amo_kk.specs.Words.{next_word, claim_word, done_word}
use Rattle.amo_params.specs.declared.givens.Givens.{Givens}
use Rattle.amo_kk.specs.declared.model.Process.{Process}
use Rattle.amo_kk.proofs.Fit.{claims_fit}
use mathlib.Core.Option.{some}
use lib.ListN.{get_elem?}
use Rattle.amo_params.specs.declared.moves.Move.{Move}
use Rattle.amo_words.specs.declared.rule.Spot.{Spot}
use Rattle.amo_words.specs.declared.floor.settling.Settlement.{Settlement}
use Rattle.amo_words.specs.Faces.{AreShown, ClosedView}
use Rattle.amo_words.specs.Settling.{HasClosed, HasFree, IsReadFrom, IsWhole, end_of, job_count, unless_zero, row_from, row_in, hand_in_words, dones_in_words, claims_in_words, dones_of, claims_of}
use Rattle.amo_words.proofs.Whole.{enough}
use Rattle.amo_words.proofs.Settles.{get_or_at, done_job, hands, row_word, claim_now, next_now}

go_on : (x d : ℕ) (xs ds : List ℕ) → x ≡ d → 1 ≤ d → xs ≡ ds → unless_zero x xs ≡ d ∷ ds
go_on x zero xs ds e low same = absurd (omega arith)
go_on x (suc d) xs ds e low same = ap (λ y. unless_zero y xs) e ∙ ap (λ l. suc d ∷ l) same

-- the words from i on are this list and then 0
row_is : (words ds : List ℕ) (i n : ℕ) → length ds ≤ n → ((k : ℕ) → k < n → get_or words (i + k) 0 ≡ get_or ds k 0) → ((k : ℕ) → k < length ds → 1 ≤ get_or ds k 0) → row_from words i n ≡ ds
row_is words [] i zero fits same jobs = refl
row_is words [] i (suc n) fits same jobs = let here : i + 0 ≡ i = omega arith in ap (λ x. unless_zero x (row_from words (suc i) n)) (ap (λ a. get_or words a 0) (sym here) ∙ same 0 (omega arith))
row_is words (d ∷ ds) i zero fits same jobs = absurd (omega arith)
row_is words (d ∷ ds) i (suc n) fits same jobs = let here : i + 0 ≡ i = omega arith in
    go_on (get_or words i 0) d (row_from words (suc i) n) ds (ap (λ a. get_or words a 0) (sym here) ∙ same 0 (omega arith)) (jobs 0 (omega arith))
    (row_is words ds (suc i) n (omega arith) (λ k l. let next : suc i + k ≡ i + suc k = omega arith in ap (λ a. get_or words a 0) next ∙ same (suc k) (omega arith)) (λ k l. jobs (suc k) (omega arith)))

-- one list of each worker
of_each : (g : Givens) (all : List Process) (size : length all ≡ g.workers) (f : ℕ → List ℕ) (h : Process → List ℕ) → ((p : ℕ) → IsWorker g p → f p ≡ h (numbered nobody all p)) → table g.workers f ≡ map h all
of_each g all size f h is = table_is [] f g.workers (map h all) (length-map all h ∙ size) each
  where
    each : (p : ℕ) → 1 ≤ p → p ≤ g.workers → f p ≡ numbered [] (map h all) p
    each zero low high = absurd (omega arith)
    each (suc k) low high = is (suc k) (record { low = low; high = high }) ∙ sym (get_or-map h all k nobody [] (omega (arith, high, size)))

module _ (g : Givens) (all : List Process) (words : List ℕ) (h : AreShown g all words) where
  pub row_told : (p : ℕ) → IsWorker g p → row_in g words p ≡ (numbered nobody all p).local.dones
  row_told p o = let fit = (claims_fit g p (numbered nobody all p).local (h.sound p o).local).1 in
      row_is words (numbered nobody all p).local.dones (done_word g p 1) (g.jobs + 1) (omega (arith, fit))
      (λ k l. let at : done_word g p 1 + k ≡ done_word g p (k + 1) = omega arith in ap (λ a. get_or words a 0) at ∙ row_word g all words h p o k l)
      (λ k l. (done_job g all words h p o k l).low)

  hand_told : (p : ℕ) → IsWorker g p → row_in g words p ++ hand_in_words g words p ≡ (numbered nobody all p).local.claimed
  hand_told p o = let row = row_told p o in let n = ap length row in
      let c = claim_now g all words h p o in
      let t = hands g all words h p o in
      ⊎_elim
      (λ (l : length (numbered nobody all p).local.dones < length (numbered nobody all p).local.claimed).
      let more = t.0 l in let long = ap length more ∙ length_push (numbered nobody all p).local.dones (numbered nobody all p).next in
      ap (λ (b : Bool). row_in g words p ++ (if b then get_or words (next_word p) 0 ∷ [] else [])) (eq-eqb (get_or words (claim_word g p) 0) (length (row_in g words p) + 1) (omega (arith, c, n, long)))
      ∙ (λ i. row i ++ next_now g all words h p o i ∷ []) ∙ sym more)
      (λ (l : length (numbered nobody all p).local.claimed ≤ length (numbered nobody all p).local.dones).
      ap (λ (b : Bool). row_in g words p ++ (if b then get_or words (next_word p) 0 ∷ [] else [])) (ne_eqb (get_or words (claim_word g p) 0) (length (row_in g words p) + 1) (λ e. omega (arith, c, n, l, e)))
      ∙ append-nil (row_in g words p) ∙ row ∙ sym (t.1 l))
      (cases_lt (length (numbered nobody all p).local.dones) (length (numbered nobody all p).local.claimed))

  pub dones_told : dones_in_words g words ≡ dones_of all
  dones_told = of_each g all h.size (λ p. row_in g words p) (λ (a : Process). a.local.dones) row_told

  pub claims_told : claims_in_words g words ≡ claims_of all
  claims_told = of_each g all h.size (λ p. row_in g words p ++ hand_in_words g words p) (λ (a : Process). a.local.claimed) hand_told

-- a word of a closed floor, by its place
pub word_at : {P : Type 0} (a b : ClosedView P) → a ≡ b → (f : Givens → ℕ) (i v : ℕ) → i ≡ f a.givens → get_elem? a.words i ≡ some v → v ≡ get_or b.words (f b.givens) 0
word_at {P} a b same f i v e at = get_or_at a.words i v 0 at ∙ ap (λ n. get_or a.words n 0) e ∙ ap (λ (c : ClosedView P). get_or c.words (f c.givens) 0) same

-- what is read from a closed floor is a whole settlement
pub whole_of : {P : Type 0} (g : Givens) (payloads : List P) (seen : List Move) (spots : List Spot) (c : ClosedView P) (s : Settlement P)
    → HasClosed g payloads seen spots c → IsReadFrom c s → IsWhole g payloads seen spots s
whole_of {P} g payloads seen spots c s h r = let w = h.world in
    let all : List Process = (world_of g w.log).processes in
    let shown : AreShown c.givens all c.words = subst (λ (x : Givens). AreShown x all c.words) (sym h.givens) w.shown in
    let claims = r.claims ∙ claims_told c.givens all c.words shown in
    let dones = r.dones ∙ dones_told c.givens all c.words shown in
    record {
      key = h.key;
      seat = h.seat;
      words = c.words;
      slots = c.slots;
      closed = h.closed;
      log = w.log;
      turns = w.turns;
      begins = w.begins;
      shown = w.shown.shown;
      stand = w.stand;
      told_claims = r.claims ∙ ap (λ (x : Givens). claims_in_words x c.words) h.givens;
      told_dones = r.dones ∙ ap (λ (x : Givens). dones_in_words x c.words) h.givens;
      claims = claims;
      dones = dones;
      ends = r.ends ∙ ap (λ l. map end_of l) h.spots_are;
      free = r.free all payloads shown (subst (λ (x : Givens). HasFree x all payloads c.slots) (sym h.givens) w.free);
      enough = λ p l back ended. subst (λ x. bound g ≤ job_count x) (sym dones) (enough g w.log spots w.stand p l back ended);
    }

-- each worker's lists, one at a time

zero_row : (words : List ℕ) (i n : ℕ) → get_or words i 0 ≡ 0 → row_from words i n ≡ []
zero_row words i zero e = refl
zero_row words i (suc n) e = ap (λ x. unless_zero x (row_from words (suc i) n)) e

module _ {P : Type 0} (c : ClosedView P) (s : Settlement P) (read : IsReadFrom c s) (p : ℕ) (o : IsWorker c.givens p) where
  pub dones_one : numbered [] (map (λ (v : Vec ℕ Global). v.items) s.dones.items) p ≡ row_in c.givens c.words p
  dones_one = ap (λ l. numbered [] l p) read.dones ∙ numbered-table [] (λ q. row_in c.givens c.words q) c.givens.workers p o.low o.high

  pub claims_one : numbered [] (map (λ (v : Vec ℕ Global). v.items) s.claims.items) p ≡ row_in c.givens c.words p ++ hand_in_words c.givens c.words p
  claims_one = ap (λ l. numbered [] l p) read.claims ∙ numbered-table [] (λ q. row_in c.givens c.words q ++ hand_in_words c.givens c.words q) c.givens.workers p o.low o.high

  -- of a worker whose words are 0 nothing is said
  no_row : get_or c.words (done_word c.givens p 1) 0 ≡ 0 → row_in c.givens c.words p ≡ []
  no_row e = zero_row c.words (done_word c.givens p 1) (c.givens.jobs + 1) e

  pub idle : get_or c.words (done_word c.givens p 1) 0 ≡ 0 → get_or c.words (claim_word c.givens p) 0 ≡ 0
      → (numbered [] (map (λ (v : Vec ℕ Global). v.items) s.claims.items) p ≡ []) × (numbered [] (map (λ (v : Vec ℕ Global). v.items) s.dones.items) p ≡ [])
  idle row claim = let n = ap length (no_row row) in (
    claims_one ∙ (λ i. no_row row i ++ hand_in_words c.givens c.words p)
        ∙ ap (λ (b : Bool). if b then get_or c.words (next_word p) 0 ∷ [] else []) (ne_eqb (get_or c.words (claim_word c.givens p) 0) (length (row_in c.givens c.words p) + 1) (λ e. omega (arith, e, claim, n))),
    dones_one ∙ no_row row,
  )
