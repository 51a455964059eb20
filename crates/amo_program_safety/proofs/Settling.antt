-- A settled attempt stays settled after every event of the model.
use Rattle.std.proofs.Common.{◌≡◌, ℕ, suc, List, [], ◌∷◌, ◌++◌, length, Some, sym, ap, ◌∙◌}
use Rattle.amo_safety_by_journals.specs.Model.{Stage as ModelStage, Away, Free, Wanting, Clearing as ModelClearing, Site, site_after, Event as ModelEvent, Dies, Begins, Lands, Wants, Intends, Looks, HandsOver, Performs, Ends, Opens, with_at, looked, line_of}
use Rattle.amo_safety_by_journals.specs.Runs.{site_from}
use Rattle.amo_program_safety.proofs.Texts.{line_of_both, line_behind}
use Rattle.amo_program_safety.proofs.Standing.{Settled}
use Rattle.amo_program_safety.proofs.Points.{at_number}

-- ---- changes for one worker

-- The stage holds no attempt of this serial number.
abbrev HoldsNot : ModelStage → (serial : ℕ) → Type 0
HoldsNot st s = (line : ℕ) (seen : List ℕ) → st ≡ ModelClearing s line seen → ⊥

-- A process gets no other attempt to hold by a look at a journal.
looked_not : (r : ℕ) (st : ModelStage) (s : ℕ) → HoldsNot st s → HoldsNot (looked r st) s
looked_not r Away s not line seen e = absurd (cc e)
looked_not r Free s not line seen e = absurd (cc e)
looked_not r (Wanting l marks) s not line seen e = absurd (cc e)
looked_not r (ModelClearing n l marks) s not line seen e = not l marks (ap (λ k. ModelClearing k l marks) (serial_is n s l line (r ∷ marks) seen e))
  where
    serial_is : (a b c d : ℕ) (x y : List ℕ) → ModelClearing a c x ≡ ModelClearing b d y → a ≡ b
    serial_is a b c d x y e = cc

-- A journal keeps its intents when one more intent is added.
kept_more : (kept : ℕ → List ℕ) (p line q s l : ℕ) → line_of (kept q) s ≡ Some l → line_of (with_at kept p (kept p ++ line ∷ []) q) s ≡ Some l
kept_more kept p line q s l is = at_number (λ (ls : List ℕ). line_of ls s ≡ Some l) kept p (kept p ++ line ∷ []) q
    (λ e. line_of_both (kept p) (line ∷ []) s l (ap (λ k. line_of (kept k) s) (sym e) ∙ is))
    (λ other. is)

stage_not : (stage : ℕ → ModelStage) (p : ℕ) (st : ModelStage) (q s : ℕ) → (q ≡ p → HoldsNot st s) → HoldsNot (stage q) s → HoldsNot (with_at stage p st q) s
stage_not stage p st q s here there = at_number (λ (x : ModelStage). HoldsNot x s) stage p st q here (λ other. there)

-- ---- settled attempts stay settled

pub settled_same : (v v' : Site) (q s : ℕ) → v'.kept q ≡ v.kept q → v'.stage q ≡ v.stage q → Settled v q s → Settled v' q s
settled_same v v' q s kept stage is = ((is.0.0, ap (λ (ls : List ℕ). line_of ls s) kept ∙ is.0.1), λ line seen held. is.1 line seen (sym stage ∙ held))

pub settled_after : (v : Site) (e : ModelEvent) (q s : ℕ) → Settled v q s → Settled (site_after v e) q s
settled_after v (Dies p) q s is = (is.0, stage_not v.stage p Away q s (λ _ line seen e. absurd (cc e)) is.1)
settled_after v (Begins p) q s is = (is.0, stage_not v.stage p Free q s (λ _ line seen e. absurd (cc e)) is.1)
settled_after v (Lands p line) q s is = ((is.0.0, kept_more v.kept p line q s is.0.0 is.0.1), is.1)
settled_after v (Wants p line) q s is = (is.0, stage_not v.stage p (Wanting line []) q s (λ _ l seen e. absurd (cc e)) is.1)
settled_after v (Intends p line) q s is =
    ((is.0.0, kept_more v.kept p line q s is.0.0 is.0.1), stage_not v.stage p (ModelClearing (suc (length (v.kept p))) line []) q s not_next is.1)
  where
    serial_is : (a b c d : ℕ) (x y : List ℕ) → ModelClearing a c x ≡ ModelClearing b d y → b ≡ a
    serial_is a b c d x y e = cc

    -- The intent of the next serial number is not kept yet.
    not_next : q ≡ p → HoldsNot (ModelClearing (suc (length (v.kept p))) line []) s
    not_next same l seen e = line_behind (v.kept p) is.0.0
        (ap (line_of (v.kept p)) (sym (serial_is (suc (length (v.kept p))) s line l [] seen e)) ∙ (ap (λ k. line_of (v.kept k) s) (sym same) ∙ is.0.1))
settled_after v (Looks p r) q s is = (
  is.0,
  stage_not v.stage p (looked r (v.stage p)) q s
      (λ e. looked_not r (v.stage p) s (λ line seen held. is.1 line seen (ap v.stage e ∙ held))) is.1,
)
settled_after v (HandsOver p) q s is = (is.0, stage_not v.stage p Free q s (λ _ line seen e. absurd (cc e)) is.1)
settled_after v (Performs h) q s is = is
settled_after v (Ends i) q s is = is
settled_after v (Opens a) q s is = is

pub settled_from : (v : Site) (es : List ModelEvent) (q s : ℕ) → Settled v q s → Settled (site_from v es) q s
settled_from v [] q s is = is
settled_from v (e ∷ es) q s is = settled_from (site_after v e) es q s (settled_after v e q s is)

-- A kept intent stays kept after every event of the model.
pub kept_after : (v : Site) (e : ModelEvent) (q s line : ℕ) → line_of (v.kept q) s ≡ Some line → line_of ((site_after v e).kept q) s ≡ Some line
kept_after v (Lands p l) q s line is = kept_more v.kept p l q s line is
kept_after v (Intends p l) q s line is = kept_more v.kept p l q s line is
kept_after v e q s line is = is

pub kept_from : (v : Site) (es : List ModelEvent) (q s line : ℕ) → line_of (v.kept q) s ≡ Some line → line_of ((site_from v es).kept q) s ≡ Some line
kept_from v [] q s line is = is
kept_from v (e ∷ es) q s line is = kept_from (site_after v e) es q s line (kept_after v e q s line is)
