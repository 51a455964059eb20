-- `ClosedFloor::fill`: the premises of its calls and its promises, by the lemmas of Whole and Told.
use Rattle.std.proofs.Common.{◌≡◌, ℕ, List, map, ap, sym, subst, ◌∙◌, Vec, Global, length, replicate, get_or, false, arith}
use Rattle.std.specs.Mem.Slots.{slots_items}
use Rattle.std.proofs.lemmas.List.{get_or-replicate, length-replicate}
use Rattle.amo_kk.specs.declared.model.Process.{Process}
use Rattle.amo_words.specs.Faces.{AreShown, ClosedView}
use Rattle.amo_words.specs.Settling.{AreMarked, IsReadFrom, any_has, end_of}
use Rattle.amo_words.proofs.Whole.{all_marked, any_job}
use Rattle.amo_words.proofs.Told.{claims_told, dones_told}
use Rattle.amo_words.proofs.floor.ClosedFloor.fill.Goals as goal

pub mark_all-requires : goal.mark_all-requires
mark_all-requires g c = let i = c.self.inside in let words = slots_items i.closed.words in let all = c.self.invariant.5.0 in let shown = c.self.invariant.5.1 in
    let claims = c.read_lists.ensures.claims all shown in
    let items : List (Vec ℕ Global) → List (List ℕ) = λ l. map (λ (x : Vec ℕ Global). x.items) l in
    let jobs = ap (λ v. v.givens.jobs) c.self.view_is in
    let size : length c.args.marks.items ≡ c.args.self.givens.jobs = ap length c.requires.marks_are ∙ length-replicate c.args.self.givens.jobs false in
    record { within = λ j h. let r = any_job i.givens all words shown j (ap (λ l. any_has l j) (sym (ap items c.as_slice-2.ensures.value ∙ claims)) ∙ h) in let high = r.1 in (r.0, omega (arith, high, size, jobs)) }

pub returns : goal.returns
returns g c = let i = c.self.inside in let words = slots_items i.closed.words in let all = c.self.invariant.5.0 in let shown = c.self.invariant.5.1 in
    let items : List (Vec ℕ Global) → List (List ℕ) = λ l. map (λ (x : Vec ℕ Global). x.items) l in
    let jobs = ap (λ v. v.givens.jobs) c.self.view_is in
    let blank : c.args.marks.items ≡ replicate i.givens.jobs false = c.requires.marks_are ∙ ap (λ n. replicate n false) (sym jobs) in
    let marked : (al : List Process) → AreShown i.givens al words → AreMarked i.givens al c.as_slice-3.result.now = λ al sh. subst (AreMarked i.givens al) (sym c.as_slice-3.ensures.value)
    (all_marked i.givens al (items c.as_slice-2.result.now) c.args.marks.items c.mark_all.new.marks.items (ap length blank ∙ length-replicate i.givens.jobs false)
    (λ k l. ap (λ b. get_or b k false) blank ∙ get_or-replicate i.givens.jobs k false false l) (ap items c.as_slice-2.ensures.value ∙ c.read_lists.ensures.claims al sh) c.mark_all.ensures.marks) in
    let stood : ClosedView g.row.P.Denot = record { givens = i.givens; spots = i.spots.items; words = words; slots = slots_items i.closed.slots } in
    let read : IsReadFrom stood record { claims = c.read_lists.new.claims; dones = c.read_lists.new.dones; ends = c.all_ends.new.ends; free = c.free_slots.new.free } = record {
      claims = c.read_lists.ensures.claims all shown ∙ sym (claims_told i.givens all words shown);
      dones = c.read_lists.ensures.dones all shown ∙ sym (dones_told i.givens all words shown);
      ends = c.all_ends.ensures ∙ ap (λ l. map end_of l) c.as_slice.ensures.value;
      free = λ al payloads sh fr. c.free_slots.ensures al payloads fr (marked al sh);
    } in
    subst (λ (v : ClosedView g.row.P.Denot). IsReadFrom v record { claims = c.read_lists.new.claims; dones = c.read_lists.new.dones; ends = c.all_ends.new.ends; free = c.free_slots.new.free }) c.self.view_is read
