-- The facts about the fields of a registry: once the table is open, and after a hire.
use Rattle.std.proofs.Common.{◌≡◌, ℕ, ◌-◌, ◌<◌, List, Bool, true, false, set, refl, sym, ap, ◌∙◌, subst, ⊎_elim, replicate, length-set}
use Rattle.std.specs.Prelude.{if◌then◌else◌, nat_lt}
use Rattle.atomic_table.specs.Seated.{TableId}
use Rattle.atomic_table.proofs.Lists.{at_set}
use Rattle.amo_params.specs.declared.givens.Givens.{Givens}
use Rattle.amo_params.specs.declared.moves.Move.{Move}
use Rattle.amo_words.specs.declared.rule.Role.TheVariants.{Keeping}
use Rattle.amo_words.specs.declared.rule.Spot.{Spot}
use Rattle.amo_words.specs.declared.rule.Spot.TheVariants.{Home, Out}
use Rattle.amo_words.specs.declared.rule.View.{View}
use Rattle.amo_words.specs.declared.rule.Key.{Key}
use Rattle.amo_kk.specs.Words.{word_count}
use Rattle.amo_words.specs.Logs.{AreOwn}
use Rattle.amo_words.specs.Rule.{Stands, AllStand, placing_view, open_view, open_role, first_view}
use Rattle.amo_words.specs.Plays.{role_of_hired, without_hired, book_left, worker_right}
use Rattle.amo_words.specs.Faces.{machine_of, spots_of, IsBook}
use Rattle.amo_words.specs.Hiring.{HasHired}
use Rattle.amo_words.specs.Opening.{HasOpened}
use Rattle.amo_words.proofs.Worlds.{own_none}
use Rattle.amo_words.proofs.Opens.{home_stand}

-- where p is out, nothing has to stand of it
stands_out : (g : Givens) (log : List Move) (spots : List Spot) (p : ℕ) → 0 < p → AllStand g log spots → AllStand g log (set spots (p - 1) Out)
stands_out g log spots p low h = (
  length-set spots (p - 1) Out ∙ h.0,
  λ q x lq at. ⊎_elim (λ t. subst (Stands g log q) t.1 tt) (λ t. h.1 q x lq t.1) (at_set spots (p - 1) (q - 1) Out x at),
)

-- the book's machines stand, as its view says it
module _ {P : Type 0} (v : View P) (id : TableId) (g : Givens) (spots : List Spot) (room : ℕ) (is : IsBook v id g spots room) where
  pub book_turns : AreOwn v.givens v.seen
  book_turns = subst (λ gg. AreOwn gg v.seen) (sym is.givens) is.turns

  pub book_stand : AllStand v.givens v.seen (spots_of v.role)
  book_stand = subst (λ (z : Givens × List Spot). AllStand z.0 v.seen z.1) (λ c. (sym is.givens c, ap spots_of (sym is.role) c)) is.stand

-- the book with the fields v and id has hired p, and has the fields w and id' now
module _ {P : Type 0} (v : View P) (id : TableId) (seat : ℕ) (g : Givens) (spots : List Spot) (room p : ℕ) (is : IsBook v id g spots room) (low : 0 < p)
    (w : View P) (id' : TableId) (seat' : ℕ) (same : id' ≡ id) (same_seat : seat' ≡ seat) (now : w ≡ book_left p v) where
  pub book_hired : IsBook w id' g (set spots (p - 1) Out) room
  book_hired = record {
    role = ap (λ (u : View P). u.role) now ∙ ap (without_hired p) is.role;
    givens = ap (λ (u : View P). u.givens) now ∙ is.givens;
    words = ap (λ t. t.words) same ∙ is.words;
    slots = ap (λ t. t.slots) same ∙ is.slots;
    moves = ap (λ (u : View P). u.moves) now ∙ is.moves;
    turns = subst (AreOwn g) (sym (ap (λ (u : View P). u.seen) now)) is.turns;
    stand = subst (λ log. AllStand g log (set spots (p - 1) Out)) (sym (ap (λ (u : View P). u.seen) now)) (stands_out g v.seen spots p low is.stand);
    exact = is.exact;
  }

  pub has_hired : (u : View P) (id'' : TableId) (seat'' : ℕ) → id'' ≡ id → u ≡ worker_right p v
      → HasHired (record { table_id = id; id = seat; view = v }) p (record { table_id = id'; id = seat'; view = w }) (record { table_id = id''; id = seat''; view = u })
  has_hired u id'' seat'' table is_worker = record {
    kept = record { table = same; seat = same_seat; givens = ap (λ (z : View P). z.givens) now; payloads = ap (λ (z : View P). z.payloads) now };
    spots_are =
        ap (λ (z : View P). spots_of z.role) now ∙ ap (λ ro. spots_of (without_hired p ro)) is.role ∙ ap (λ ro. set (spots_of ro) (p - 1) Out) (sym is.role);
    seen = ap (λ (z : View P). z.seen) now;
    turns = book_turns w id' g (set spots (p - 1) Out) room book_hired;
    stand = book_stand w id' g (set spots (p - 1) Out) room book_hired;
    worker = record {
      table = table;
      machine_is = ap (λ (z : View P). machine_of z.givens z.role) is_worker ∙ ap (λ ro. machine_of v.givens (role_of_hired v.givens p ro)) is.role;
      seen = ap (λ (z : View P). z.seen) is_worker;
      givens = ap (λ (z : View P). z.givens) is_worker;
      payloads = ap (λ (z : View P). z.payloads) is_worker;
    };
  }

-- an open table, and its book, whose view is v
module _ {P : Type 0} (k : Key P) (v : View P) (id : TableId) (seat : ℕ) (spots : List Spot) (room : ℕ)
    (words : id.words ≡ word_count k.givens) (slots : id.slots ≡ k.givens.jobs) (home : spots ≡ replicate k.givens.workers Home) (exact : room ≡ k.givens.workers)
    (now : v ≡ open_view k) where
  book_opened : IsBook v id k.givens spots room
  book_opened = record {
    role = ap (λ (u : View P). u.role) now ∙ ap Keeping (sym home);
    givens = ap (λ (u : View P). u.givens) now;
    words = words;
    slots = slots;
    moves = ap (λ (u : View P). u.moves) now;
    turns = subst (AreOwn k.givens) (sym (ap (λ (u : View P). u.seen) now)) (own_none k.givens);
    stand = subst (λ (z : List Move × List Spot). AllStand k.givens z.0 z.1) (λ c. (sym (ap (λ (u : View P). u.seen) now) c, sym home c)) (home_stand k.givens);
    exact = exact;
  }

  has_opened : (id' : TableId) → id ≡ id' → HasOpened k.givens k.payloads.value.items (record { table_id = id'; givens = k.givens }) (record { table_id = id; id = seat; view = v })
  has_opened id' same = record {
    table = same;
    floor_givens = refl;
    givens = ap (λ (u : View P). u.givens) now;
    payloads_are = ap (λ (u : View P). u.payloads) now;
    spots_are = ap (λ (u : View P). spots_of u.role) now;
    seen = ap (λ (u : View P). u.seen) now;
    turns = book_turns v id k.givens spots room book_opened;
    stand = book_stand v id k.givens spots room book_opened;
  }

-- the first view, once all payloads are placed
opened_view : {P : Type 0} (k : Key P) → (let v : View P = first_view k in record v { role = open_role v.givens }) ≡ open_view k
opened_view {P} k = go (nat_lt 0 k.givens.jobs)
  where
    go : (b : Bool) → (let v : View P = if b then placing_view k 0 false else open_view k in record v { role = open_role v.givens }) ≡ open_view k
    go true = refl
    go false = refl

-- A new table whose first view is that of the key, once all payloads are placed: its registry, and
-- the result.
pub all_opened : {P : Type 0} (k : Key P) (first v : View P) (id id' : TableId) (seat : ℕ) (spots : List Spot) (room workers : ℕ)
    → id'.words ≡ word_count k.givens → id'.slots ≡ k.givens.jobs → id ≡ id' → first ≡ first_view k → v ≡ record first { role = open_role first.givens }
    → workers ≡ k.givens.workers → spots ≡ replicate workers Home → room ≡ workers
    → IsBook v id k.givens spots room × HasOpened k.givens k.payloads.value.items (record { table_id = id'; givens = k.givens }) (record { table_id = id; id = seat; view = v })
all_opened {P} k first v id id' seat spots room workers words slots same begins placed count home exact = (
  book_opened k v id seat spots room wide deep home_is exact_is now,
  has_opened k v id seat spots room wide deep home_is exact_is now id' same,
)
  where
    after : View P → View P
    after u = record u { role = open_role u.givens }

    now : v ≡ open_view k
    now = placed ∙ ap after begins ∙ opened_view k

    wide : id.words ≡ word_count k.givens
    wide = ap (λ t. t.words) same ∙ words

    deep : id.slots ≡ k.givens.jobs
    deep = ap (λ t. t.slots) same ∙ slots

    home_is : spots ≡ replicate k.givens.workers Home
    home_is = home ∙ ap (λ n. replicate n Home) count

    exact_is : room ≡ k.givens.workers
    exact_is = exact ∙ count
