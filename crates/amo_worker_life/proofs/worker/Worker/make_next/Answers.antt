-- `Worker::make_next`: the premises of its calls, directly from definitions and clauses.
use Rattle.std.proofs.Common.{◌≡◌, ℕ, List, length, sym, subst, ◌∙◌}
use Rattle.amo_run_log.specs.Open.{open_lines}
use Rattle.amo_host.specs.Beginning.{IsNext, IsNextFile}
use Rattle.amo_host.specs.Phase.{Begins, KnowsAll}
use Rattle.amo_worker_life.specs.Reading.{logs_of}
use Rattle.amo_worker_life.specs.Where.{me_of}
use Rattle.amo_worker_life.proofs.worker.Worker.make_next.Goals as goal

pub make_files-requires : goal.make_files-requires
make_files-requires g c =
    let old = c.args.self.now in
    let boot = c.args.last.now.boot.items in
    let last = c.args.last.now.file in
    let logs = logs_of c.args.read.logs in
    let counts = c.args.read.counts.items in
    let file = c.in-Ok.file in
    let lines : c.deref.result.now ≡ open_lines logs.findings logs.journals (length old.jobs) = c.deref.ensures.value ∙ c.requires.lines in
    let next : IsNext old.number boot last (open_lines logs.findings logs.journals (length old.jobs)) file.header =
    subst (λ (ls : List ℕ). IsNext old.number boot last ls file.header) lines c.in-Ok.ensures.next in
    let it : IsNextFile (me_of old.number old.jobs) boot last logs counts file = record { next = next; placed = c.requires.placed; counted = c.in-Ok.ensures.counted } in
    let same = sym c.in-Ok.ensures.same in
    record {
      next = (
        boot,
        last,
        counts,
        subst (λ (js : List (List ℕ)). g.H.Host.stands old.host (Begins (me_of old.number js) (KnowsAll boot last logs counts))) same c.requires.knows,
        subst (λ (js : List (List ℕ)). IsNextFile (me_of old.number js) boot last logs counts file) same it,
      );
    }
