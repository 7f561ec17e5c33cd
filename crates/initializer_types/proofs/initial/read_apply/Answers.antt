-- Proofs of `read_apply`, src/initial.rt.
use Rattle.std.proofs.Common.{◌∙◌}
use Rattle.expression_types.specs.Expression.{used_name}
use Rattle.expression_types.specs.Faults.{sure, ◌>>=◌}
use Rattle.expression_types.proofs.Steps.{outcome_then}
use Rattle.initializer_types.specs.Views.{apply_end_tree}
use Rattle.initializer_types.specs.Initial.{apply_end_of}
use Rattle.initializer_types.specs.Applies.{NamedApplyTree}
use Rattle.initializer_types.proofs.initial.read_apply.Goals as goal

pub returns : goal.returns
returns c =
    let scope = c.args.scope.now in
    let t = c.entity.result in
    let a = apply_end_tree c.read_end.result in
    let b = apply_end_tree c.read_end-2.result in
    let f = c.entity-2.result in
    let made : _ → _ → _ → _ → NamedApplyTree = λ t a b f. record { target = t; from = a; to = b; function = f } in
    outcome_then c.args.first_fault.now c.entity.new.first_fault (used_name scope c.args.target.now) t
    (λ t. apply_end_of scope c.args.ends.now.from >>= λ a. apply_end_of scope c.args.ends.now.to >>= λ b. used_name scope c.args.function.now >>= λ f. sure (made t a b f)) c.entity.ensures
    ∙ outcome_then c.entity.new.first_fault c.read_end.new.first_fault (apply_end_of scope c.args.ends.now.from) a
    (λ a. apply_end_of scope c.args.ends.now.to >>= λ b. used_name scope c.args.function.now >>= λ f. sure (made t a b f)) c.read_end.ensures
    ∙ outcome_then c.read_end.new.first_fault c.read_end-2.new.first_fault (apply_end_of scope c.args.ends.now.to) b
    (λ b. used_name scope c.args.function.now >>= λ f. sure (made t a b f)) c.read_end-2.ensures
    ∙ outcome_then c.read_end-2.new.first_fault c.entity-2.new.first_fault (used_name scope c.args.function.now) f (λ f. sure (made t a b f)) c.entity-2.ensures
