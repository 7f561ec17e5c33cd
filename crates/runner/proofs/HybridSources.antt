-- An apply from the members of a set that has its sources.
use Rattle.std.proofs.Common.{◌≡◌, ℕ, Bool, List, refl, sym}
use Rattle.algorithm_meaning.specs.EdgeApply.{is_member}
use Rattle.algorithm_meaning.specs.State.{StateValue}
use Rattle.typed_tree.specs.FunctionStatementTree.{FunctionStatementsTree}
use Rattle.kernels.specs.Registers.{HasSizes}
use Rattle.vectors.specs.declared.changes.VectorChanges.{VectorChanges}
use Rattle.vertex_sets.specs.VertexSet.{VertexSubset}
use Rattle.edge_fold.specs.Between.{edges_between}
use Rattle.edge_fold.specs.Ends.{IsEndTest}
use Rattle.edge_fold.specs.Folded.{AreKernels}
use Rattle.edge_apply.specs.Applied.{AreChangesOf, AreChangesOn}
use Rattle.edge_apply.specs.declared.apply.Apply.{Apply}
use Rattle.edge_apply.proofs.Filtered.{between_agree, changes_along}
use Rattle.runner.specs.HybridSources.{HasSources}

-- the changes are those of the apply from the members of a set
abbrev pub AreChangesFrom : Apply → VertexSubset → List VectorChanges → Type 0
AreChangesFrom a set cs = (m : StateValue) (steps : List FunctionStatementsTree) (from to : ℕ → Bool) → a.vectors.now.vectors ≡ m.vectors → HasSizes a.sizes.now m
    → AreKernels a.first.now a.second steps → ((v : ℕ) → from v ≡ is_member v set.members) → IsEndTest a.to m to
    → AreChangesOn a.flat.now.vertices (edges_between from to a.flat.now.edges) m steps cs

-- they are those of the apply itself
pub changes_from_set : (a : Apply) (set : VertexSubset) (cs : List VectorChanges) → HasSources a set → AreChangesFrom a set cs → AreChangesOf a cs
changes_from_set a set cs has changes m steps from to vectors sizes kernels is_from is_to =
    let g = a.flat.now in
    let is_passing = λ (v : ℕ). is_member v set.members in
    changes_along g.vertices _ _ m steps cs
    (between_agree g from is_passing to has.graph (λ v l. sym (has.members m from vectors sizes is_from v l)))
    (changes m steps is_passing to vectors sizes kernels (λ v. refl) is_to)
