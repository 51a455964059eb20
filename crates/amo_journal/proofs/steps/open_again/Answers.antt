-- `open_again`: the premises of its calls, that its numbers fit and its promises, by the lemmas of
-- Moments, Parts, Ending, Results, Opening and Whole.
use Rattle.std.proofs.Common.{◌≡◌, ◌-◌, ◌+◌, ◌≤◌, ℕ, List, length, ⊎_elim, refl, sym, ap, subst, arith, rules}
use Rattle.amo_journal.specs.Texts.{texts_in, blocks}
use Rattle.amo_journal.specs.Journal.{IsNear, IsUnsure, IsWhole, StaysNear}
use Rattle.amo_journal.proofs.Moments.{leaves_weaker, started}
use Rattle.amo_journal.proofs.Parts.{texts_are_one_line}
use Rattle.amo_journal.proofs.Ending.{within, not_outside}
use Rattle.amo_journal.proofs.Results.{on_ok_map}
use Rattle.amo_journal.proofs.Opening.{IsLast, last_gate, last_one_line, again_read, again_crash, again_kept, again_fresh, again_unsure, stays_near}
use Rattle.amo_journal.proofs.Whole.{again_whole}
use Rattle.amo_journal.proofs.steps.open_again.Goals as goal
use Rattle.amo_journal.proofs.steps.open_again.Goals.{In-Some, In_default}

-- the places of the last text and its gate
last_of : (g : _) (c : In-Some g) → IsLast (texts_in (g.D.Device.seen c.args.device.now)) c.args.end c.in-Some.last
last_of g c = last_gate (texts_in (g.D.Device.seen c.args.device.now)) c.args.end c.in-Some.last (search rules) c.requires.end

pub overflow_add-last : goal.overflow_add-last
overflow_add-last g c = omega (arith, (last_of g (goal.at.overflow_add-last g c).In-Some).place, c.ranges.end.fits)

pub overflow_sub-end : goal.overflow_sub-end
overflow_sub-end g c = omega (arith, (last_of g (goal.at.overflow_sub-end g c).In-Some).place)

pub write_and_sync-requires : goal.write_and_sync-requires
write_and_sync-requires g c =
    let seen0 = g.D.Device.seen c.args.device.now in
    let inside = within (texts_in seen0) (texts_are_one_line seen0) c.args.end c.requires.end seen0 refl in
    omega (arith, (last_of g (goal.at.write_and_sync-requires g c).In-Some).place, inside)

pub returns-in_default-clause-whole : goal.returns-in_default-clause-whole
returns-in_default-clause-whole g c whole =
    let d0 = c.args.device.now in
    (started g.D.Device.moment g.D.Device.left_since d0 IsWhole (λ f left. whole f (g.met.D.Device.only_now d0 f left)), whole)

pub returns : goal.returns
returns g c =
    let d0 = c.args.device.now in
    let d1 = c.write_and_sync.new.device in
    let seen1 = g.D.Device.seen d1 in
    let may0 = g.D.Device.may_leave d0 in
    let texts = texts_in (g.D.Device.seen d0) in
    let all = texts_are_one_line (g.D.Device.seen d0) in
    let l = last_of g (goal.at.returns g c).In-Some in
    let last = l.last in
    let gate = c.args.end - (c.in-Some.last + 2) in
    let stands : gate ≡ length (blocks l.before) = omega (arith, l.place) in
    let same = again_read texts all l.before last l.are gate stands (g.D.Device.seen d0) seen1 refl c.write_and_sync.ensures.front in
    let reads = ap texts_in same in
    let crash = again_crash texts all l.before last l.are gate stands seen1 may0 reads c.requires.settle.near in
    record {
      seen = same;
      kept = on_ok_map c.write_and_sync.result _ ((f : List ℕ) → g.D.Device.may_leave d1 f → texts_in f ≡ texts)
          (λ durable f now. again_kept texts all l.before last l.are gate stands _ seen1 f reads (stays_near texts may0 f (crash f (c.write_and_sync.ensures.crash f now))) (durable f now) (λ p. not_outside gate p.1))
          c.write_and_sync.ensures.durable;
      fresh = on_ok_map c.write_and_sync.result _ ((i : ℕ) → g.D.Device.stale d1 i → length (blocks texts) ≤ i)
          (λ fresh i st. again_fresh texts all l.before last l.are gate stands i (c.requires.settle.unsure i (fresh i st).0) (fresh i st).1)
          c.write_and_sync.ensures.fresh;
      again = record {
        near = λ f now. subst (λ (ts : List (List ℕ)). IsNear ts f) (sym reads) (stays_near texts may0 f (crash f (c.write_and_sync.ensures.crash f now)));
        unsure = λ i st. subst (λ (ts : List (List ℕ)). IsUnsure ts i) (sym reads)
            (⊎_elim (c.requires.settle.unsure i) (again_unsure texts all l.before last l.are gate stands seen1 may0 reads c.requires.settle.near i) (c.write_and_sync.ensures.stale i st));
      };
      any_moment = leaves_weaker g.D.Device.moment g.D.Device.left_since d0 d1 _ (StaysNear may0 texts) c.write_and_sync.ensures.any_moment crash;
      whole = λ were.
          let whole = again_whole texts all l.before last (last_one_line texts l.before last all l.are) l.are gate stands seen1 may0 reads c.requires.settle.near were in
          (leaves_weaker g.D.Device.moment g.D.Device.left_since d0 d1 _ IsWhole c.write_and_sync.ensures.any_moment whole, λ f now. whole f (c.write_and_sync.ensures.crash f now));
      cause = c.write_and_sync.ensures.cause;
    }
