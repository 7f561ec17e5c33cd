-- Proofs of `fill_unless`, src/leaves.rt.
use Rattle.lowering.proofs.blocks.Lowering.fill_unless.Goals as goal

pub returns : goal.returns
returns c = record { instruction = c.in_ok-unless.unless; is = c.replace.ensures; written = c.in_ok-unless.ensures }
