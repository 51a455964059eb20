-- `push_blocks`: its promises, directly from definitions and clauses.
use Rattle.std.proofs.Common.{append_assoc}
use Rattle.amo_render.specs.Tallies.{blocks_words}
use Rattle.amo_render.proofs.tallies.push_blocks.Goals as goal

pub returns : goal.returns
unfolding blocks_words
returns c = simp append_assoc c.write.ensures.bytes
