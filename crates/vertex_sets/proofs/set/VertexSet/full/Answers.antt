-- Proofs of `full`, src/set.rt.
use Rattle.std.proofs.Common.{◌<◌, sym, subst, All}
use Rattle.vertex_sets.specs.VertexSet.{IsAscendingBelow}
use Rattle.vertex_sets.proofs.StoredSets.{all_ascending}
use Rattle.vertex_sets.proofs.set.VertexSet.full.Goals as goal

pub of-requires : goal.of-requires
of-requires c = subst (λ xs. IsAscendingBelow c.args.vertices xs) (sym c.in_ok-list-in-List.ensures) (all_ascending c.args.vertices)

pub of-requires-in-Bits : goal.of-requires-in-Bits
of-requires-in-Bits c = (
  c.in_ok-set-in-Bits.ensures.vertices,
  subst (λ xs. All (λ v. v < c.args.vertices) xs) (sym c.in_ok-set-in-Bits.ensures.members) (all_ascending c.args.vertices).below,
)
