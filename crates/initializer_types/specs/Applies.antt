-- Names of an apply, and the entities for which they stand.
use Rattle.syntax.specs.Terminals.{Identifier}
use Rattle.syntax.specs.SourceTrees.{EndsTree}
use Rattle.expression_types.specs.declared.scope.Entity.{Entity}
use Rattle.expression_types.specs.Expression.{used_name}
use Rattle.expression_types.specs.Faults.{WithFaults, sure, ◌>>=◌}
use Rattle.expression_types.specs.ScopeTree.{ScopeTree}
use Rattle.initializer_types.specs.declared.initial.NamedApply.{NamedApply}
use Rattle.initializer_types.specs.Initial.{ApplyEndTree, apply_end_of}
use Rattle.initializer_types.specs.Views.{apply_end_tree}

-- an apply with its target, its ends and its function
pub record NamedApplyTree : Type 0 where
  pub target : Entity
  pub from : ApplyEndTree
  pub to : ApplyEndTree
  pub function : Entity

abbrev pub named_apply_tree : NamedApply → NamedApplyTree
named_apply_tree a = record { target = a.target; from = apply_end_tree a.from; to = apply_end_tree a.to; function = a.function }

abbrev pub apply_named : ScopeTree → Identifier → EndsTree → Identifier → WithFaults NamedApplyTree
apply_named scope target ends function =
    used_name scope target >>= λ t. apply_end_of scope ends.from >>= λ a. apply_end_of scope ends.to >>= λ b. used_name scope function >>= λ f.
    sure (record { target = t; from = a; to = b; function = f })
