-- How a run of device calls goes on.
use Rattle.std.proofs.Common.{◌≡◌, ◌≤◌, inl, inr, ⊎_elim, ℕ, List, ◌++◌, length, sym, ◌∙◌, arith}
use Rattle.amo_journal.specs.Device.{Elapses, LeavesOnly, Only}
use Rattle.amo_journal.specs.Journal.{IsNear, IsUnsure, MayRecover}
use Rattle.amo_journal.specs.Texts.{texts_in, blocks}

-- each crash during the calls, and each read after them, has these texts, and the journal can be
-- settled
pub record KeepsTexts {D : Type 0} (moment : D → ℕ) (left_since : D → ℕ → List ℕ → Type 0) (seen : D → List ℕ) (may_leave : D → List ℕ → Type 0) (stale : D → ℕ → Type 0) (texts : List (List ℕ)) (old new : D) : Type 0 where
  pub any_moment : LeavesOnly moment left_since old new (λ c. texts_in c ≡ texts)
  pub read : texts_in (seen new) ≡ texts
  pub again : MayRecover seen may_leave stale new

-- this is the file, all of it on the disk
pub record IsOnDisk {D : Type 0} (seen : D → List ℕ) (may_leave : D → List ℕ → Type 0) (stale : D → ℕ → Type 0) (file : List ℕ) (device : D) : Type 0 where
  pub file_is : seen device ≡ file
  pub durable : Only file (may_leave device)
  pub fresh : (i : ℕ) → stale device i → ⊥

-- the blocks of these texts, and one byte more at most
pub record IsShort (texts : List (List ℕ)) (file : List ℕ) : Type 0 where
  pub rest : List ℕ
  pub file_is : file ≡ blocks texts ++ rest
  pub one : length rest ≤ 1

-- such a file is read, and left by each crash; no sync need write that byte
pub record IsCut {D : Type 0} (seen : D → List ℕ) (may_leave : D → List ℕ → Type 0) (stale : D → ℕ → Type 0) (texts : List (List ℕ)) (device : D) : Type 0 where
  pub read : IsShort texts (seen device)
  pub crash : (c : List ℕ) → may_leave device c → IsShort texts c
  pub stale_at : (i : ℕ) → stale device i → i ≡ length (blocks texts)

-- a file that is read as others are is near what is on the disk
pub near_same : (texts read : List (List ℕ)) (c : List ℕ) → read ≡ texts → texts_in c ≡ texts → IsNear read c
near_same texts read c is stands = inl (stands ∙ sym is)

module _ {D : Type 0} (moment : D → ℕ) (left_since : D → ℕ → List ℕ → Type 0) where
  -- before the first call
  pub started : (old : D) (P : List ℕ → Type 0) → ((c : List ℕ) → left_since old (moment old) c → P c) → LeavesOnly moment left_since old old P
  started old P here = record { later = omega arith; each = here; before = λ t c le left. inl left }

  -- one call more, after which a crash leaves what has P
  pub goes_on : (old mid new : D) (P may_leave : List ℕ → Type 0) → LeavesOnly moment left_since old mid P → Elapses (moment mid) (moment new) (left_since mid) (left_since new) may_leave
      → ((c : List ℕ) → may_leave c → P c) → LeavesOnly moment left_since old new P
  goes_on old mid new P may_leave so_far time here = record {
    later = omega (arith, so_far.later, time.later);
    each = λ c left. ⊎_elim (so_far.each c) (here c) (time.nothing_else (moment old) c so_far.later left);
    before = λ t c le left. ⊎_elim (so_far.before t c le) (λ now. inr (here c now)) (time.nothing_else t c (omega (arith, le, so_far.later)) left);
  }

  -- one run after another
  pub joined : (old mid new : D) (P Q R : List ℕ → Type 0) → LeavesOnly moment left_since old mid P → LeavesOnly moment left_since mid new Q
      → ((c : List ℕ) → P c → R c) → ((c : List ℕ) → Q c → R c) → LeavesOnly moment left_since old new R
  joined old mid new P Q R first second p q = record {
    later = omega (arith, first.later, second.later);
    each = λ c left. ⊎_elim (λ past. p c (first.each c past)) (q c) (second.before (moment old) c first.later left);
    before = λ t c le left. ⊎_elim (λ past. ⊎_elim (λ older. inl older) (λ some. inr (p c some)) (first.before t c le past)) (λ some. inr (q c some))
        (second.before t c (omega (arith, le, first.later)) left);
  }

  pub leaves_weaker : (old new : D) (P Q : List ℕ → Type 0) → LeavesOnly moment left_since old new P → ((c : List ℕ) → P c → Q c) → LeavesOnly moment left_since old new Q
  leaves_weaker old new P Q run weaker = record {
    later = run.later;
    each = λ c left. weaker c (run.each c left);
    before = λ t c le left. ⊎_elim (λ older. inl older) (λ some. inr (weaker c some)) (run.before t c le left);
  }

module _ {D : Type 0} (moment : D → ℕ) (left_since : D → ℕ → List ℕ → Type 0) (seen : D → List ℕ) (may_leave : D → List ℕ → Type 0) (stale : D → ℕ → Type 0) where
  -- where whatever a crash may leave has the texts
  pub keeps_texts : (texts : List (List ℕ)) (old new : D) (P : List ℕ → Type 0) → LeavesOnly moment left_since old new P → ((c : List ℕ) → may_leave new c → P c) → ((c : List ℕ) → P c → texts_in c ≡ texts)
      → texts_in (seen new) ≡ texts → ((i : ℕ) → stale new i → IsUnsure (texts_in (seen new)) i) → KeepsTexts moment left_since seen may_leave stale texts old new
  keeps_texts texts old new P run crash keeps read unsure = record {
    any_moment = leaves_weaker moment left_since old new P (λ c. texts_in c ≡ texts) run keeps;
    read = read;
    again = record { near = λ c now. inl (keeps c (crash c now) ∙ sym read); unsure = unsure };
  }
