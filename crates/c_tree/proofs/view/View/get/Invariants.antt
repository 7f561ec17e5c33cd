use Rattle.c_tree.specs.inside.Chunks.{together}
use Rattle.c_tree.proofs.Turns.{IsWhere}
use Rattle.c_tree.proofs.view.View.get.Given as goal

abbrev pub invariant-loop-below : goal.invariant-loop-below
invariant-loop-below l = IsWhere l.key l.self.entries (together l.tail l.chunks.entries)
