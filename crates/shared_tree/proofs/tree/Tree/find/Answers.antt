-- Proofs of `find`, src/tree.rt.
use Rattle.std.proofs.Common.{◌∙◌, arith}
use Rattle.shared_tree.proofs.Forks.{found_here, found_left, found_right}
use Rattle.shared_tree.proofs.tree.Tree.find.Goals as goal

pub returns-then-key-root_key : goal.returns-then-key-root_key
returns-then-key-root_key g c = found_here _ _ _ _ _ _ c.in-Some.ensures c.if-key-root_key.true ∙ c.loop-left.invariant

pub loop-left-preserved : goal.loop-left-preserved
loop-left-preserved g c = found_right _ _ _ _ _ _ c.in-Some.ensures (omega arith) ∙ c.loop-left.invariant

pub loop-left-preserved-then-key-root_key-2 : goal.loop-left-preserved-then-key-root_key-2
loop-left-preserved-then-key-root_key-2 g c = found_left _ _ _ _ _ _ c.in-Some.ensures (omega arith) ∙ c.loop-left.invariant
