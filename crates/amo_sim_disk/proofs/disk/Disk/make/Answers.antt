-- `Disk::make`: what its type keeps, by the lemmas of Noting.
use Rattle.std.proofs.Common.{◌≡◌, ℕ, [], ◌∷◌, ◌++◌, length, sym, ◌∙◌, ap, rules}
use Rattle.std.proofs.lemmas.List.{length-reverse}
use Rattle.amo_sim_disk.specs.Calls.{has_failed, is_planned, read_after}
use Rattle.amo_sim_disk.specs.Disk.{disk_story}
use Rattle.amo_sim_disk.specs.Replay.{Story, read_in}
use Rattle.amo_sim_disk.proofs.Noting.{planned_push, story_push}
use Rattle.amo_sim_disk.proofs.disk.Disk.make.Goals as goal

pub invariant_of-self-2 : goal.invariant_of-self-2
invariant_of-self-2 c =
    let disk = c.args.self.now in
    let pushed : c.push.new.self.items ≡ disk.calls.items ++ c.args.call ∷ [] = search rules in
    let after : c.in_ok-bytes.bytes.items ≡ read_after c.args.call (read_in (disk_story disk)) = search rules in
    let planned : has_failed c.args.call ≡ is_planned disk.failing (length disk.calls.items) =
    c.requires ∙ ap (λ (n : ℕ). is_planned disk.failing n) (length-reverse disk.calls.items) in
    record {
      current = after ∙ sym (ap (λ (story : Story). read_in story) (story_push disk.first.items disk.failing disk.calls.items c.push.new.self.items c.args.call pushed));
      planned = planned_push disk.failing disk.calls.items c.push.new.self.items c.args.call (search rules) planned pushed;
    }
