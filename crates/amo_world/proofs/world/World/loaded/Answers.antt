-- `World::loaded`: its promises, by the lemmas of Places.
use Rattle.std.proofs.Common.{◌≤◌, length, arith}
use Rattle.amo_world.specs.Processes.{process_of}
use Rattle.amo_world.proofs.Places.{next_found, entry_fits, entry_found}
use Rattle.amo_world.proofs.world.World.loaded.Goals as goal

pub returns-in-LoadNext : goal.returns-in-LoadNext
returns-in-LoadNext c = next_found c.args.self.now.world c.args.want c.in-LoadNext.q (process_of c.process.result.now) c.in-LoadNext.is c.process.ensures.process

pub returns-in-LoadDone : goal.returns-in-LoadDone
returns-in-LoadDone c =
    let fits = entry_fits c.args.self.now.givens c.requires.0 c.args.want c.in-LoadDone.q c.in-LoadDone.k c.in-LoadDone.is c.requires.1 in
    let low = fits.0 in
    let high = fits.1 in
    let size = c.process-in-LoadDone.ensures.row in
    let inside : c.in-LoadDone.k ≤ length c.process-in-LoadDone.result.now.row.items = omega arith in
    entry_found c.args.self.now.world c.args.want c.in-LoadDone.q c.in-LoadDone.k (process_of c.process-in-LoadDone.result.now) c.index.result.now c.in-LoadDone.is c.process-in-LoadDone.ensures.process low inside c.index.ensures
