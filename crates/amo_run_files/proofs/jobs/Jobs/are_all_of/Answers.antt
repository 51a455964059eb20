-- `Jobs::are_all_of`: its promises, by the lemmas of Again and KeptJobs.
use Rattle.std.proofs.Common.{◌≡◌, true, List, ℕ, sym, ap, ◌∙◌}
use Rattle.amo_run_log.specs.Texts.{ended}
use Rattle.amo_run_files.specs.Again.{is_all_of}
use Rattle.amo_run_files.proofs.Again.{IsAgain, again}
use Rattle.amo_run_files.proofs.KeptJobs.{bytes_are}
use Rattle.amo_run_files.proofs.jobs.Jobs.are_all_of.Goals as goal
use Rattle.amo_run_files.proofs.jobs.Jobs.are_all_of.Goals.{After-is_all_of}

are : (c : After-is_all_of) → c.is_all_of.result ≡ true → IsAgain c.self.inside.bytes.items c.args.bytes.now c.args.cut
are c is =
    again c.self.inside.bytes.items c.self.inside.ends.items c.args.bytes.now c.args.cut c.self.invariant
    (ap (λ (bs : List ℕ). is_all_of bs c.args.bytes.now c.args.cut) (sym c.deref.ensures.value) ∙ sym c.is_all_of.ensures ∙ is)

pub returns : goal.returns
returns c = record {
  exact =
      c.is_all_of.ensures
      ∙ ap (λ (bs : List ℕ). is_all_of bs c.args.bytes.now c.args.cut)
      (c.deref.ensures.value ∙ bytes_are c.self.inside.bytes.items c.self.invariant.whole ∙ ap ended c.self.view_is);
  taken = λ is. (are c is).taken;
  lines = λ is. (are c is).lines ∙ c.self.view_is;
  whole = λ is uncut. ap ended (sym c.self.view_is) ∙ (are c is).whole uncut;
}
