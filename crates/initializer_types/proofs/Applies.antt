-- What the names of an apply stand for, and what goes on with it.
use Rattle.std.proofs.Common.{◌≡◌, ap, sym, ◌∙◌, Option}
use Rattle.syntax.specs.Terminals.{Identifier}
use Rattle.syntax.specs.SourceTrees.{EndsTree}
use Rattle.expression_types.specs.declared.fault.Fault.{Fault}
use Rattle.expression_types.specs.Expression.{used_name}
use Rattle.expression_types.specs.ScopeTree.{ScopeTree}
use Rattle.expression_types.specs.Faults.{WithFaults, sure, outcome, ◌>>=◌}
use Rattle.expression_types.proofs.Steps.{bind-bind, outcome_then}
use Rattle.initializer_types.specs.Initial.{apply_end_of}
use Rattle.initializer_types.specs.Applies.{NamedApplyTree, apply_named}

named_then : {A : Type 0} (scope : ScopeTree) (target : Identifier) (ends : EndsTree) (function : Identifier) (next : NamedApplyTree → WithFaults A)
    → (apply_named scope target ends function >>= next)
    ≡ (used_name scope target >>= λ t. apply_end_of scope ends.from >>= λ a. apply_end_of scope ends.to >>= λ b. used_name scope function >>= λ f. next
    (record { target = t; from = a; to = b; function = f }))
named_then scope target ends function next =
    bind-bind (used_name scope target) (λ t. apply_end_of scope ends.from >>= λ a. apply_end_of scope ends.to >>= λ b. used_name scope function >>= λ f. sure
    (record { target = t; from = a; to = b; function = f })) next
    ∙ (λ i. used_name scope target >>= λ t.
    bind-bind {B = NamedApplyTree} (apply_end_of scope ends.from) (λ a. apply_end_of scope ends.to >>= λ b. used_name scope function >>= λ f. sure
    (record { target = t; from = a; to = b; function = f })) next i)
    ∙ (λ i. used_name scope target >>= λ t. apply_end_of scope ends.from >>= λ a.
    bind-bind {B = NamedApplyTree} (apply_end_of scope ends.to) (λ b. used_name scope function >>= λ f. sure (record { target = t; from = a; to = b; function = f })) next i)
    ∙ (λ i. used_name scope target >>= λ t. apply_end_of scope ends.from >>= λ a. apply_end_of scope ends.to >>= λ b.
    bind-bind {B = NamedApplyTree} (used_name scope function) (λ f. sure (record { target = t; from = a; to = b; function = f })) next i)

pub apply_then : {A : Type 0} (scope : ScopeTree) (target : Identifier) (ends : EndsTree) (function : Identifier) (old new : Option Fault) (apply : NamedApplyTree) (next : NamedApplyTree → WithFaults A)
    → outcome old (apply_named scope target ends function) ≡ (apply, new)
    → outcome old (used_name scope target >>= λ t. apply_end_of scope ends.from >>= λ a. apply_end_of scope ends.to >>= λ b. used_name scope function >>= λ f. next
    (record { target = t; from = a; to = b; function = f }))
    ≡ outcome new (next apply)
apply_then scope target ends function old new apply next is =
    ap (outcome old) (sym (named_then scope target ends function next)) ∙ outcome_then old new (apply_named scope target ends function) apply next is
