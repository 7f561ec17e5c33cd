-- Proofs of `of`, src/calls.rt.
use Rattle.std.proofs.Common.{ℕ, List, subst}
use Rattle.typed_tree.specs.declared.program.Vector.{Vector}
use Rattle.typed_tree.specs.declared.statement.MainStatement.{MainStatement}
use Rattle.typed_tree.specs.BlockTree.{block_tree}
use Rattle.schedule.specs.Schedule.{vector_names}
use Rattle.schedule.specs.inside.Putting.{AreIndices, AreSites}
use Rattle.schedule.proofs.calls.Tables.of.Goals as goal

pub invariant_of-result : goal.invariant_of-result
invariant_of-result c = record {
  labels_found = subst (λ (names : List (List ℕ)). AreIndices c.in_ok-labels.labels names) c.deref.ensures.value c.in_ok-labels.ensures;
  vectors_found =
      subst (λ (vectors : List Vector). AreIndices c.in_ok-vectors.vectors (vector_names c.args.program.now.names.items vectors)) c.deref-3.ensures.value
      (subst (λ (names : List (List ℕ)). AreIndices c.in_ok-vectors.vectors (vector_names names c.deref-3.result.now)) c.deref-2.ensures.value c.in_ok-vectors.ensures);
  sites_found = subst (λ (main : List MainStatement). AreSites c.in_ok-sites.sites (block_tree main)) c.deref-4.ensures.value c.in_ok-sites.ensures;
}
