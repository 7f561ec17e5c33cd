use Rattle.std.proofs.Common.{◌≡◌, drop, map}
use Rattle.syntax.specs.SourceViews.{declaration_tree}
use Rattle.expression_types.specs.Faults.{outcome}
use Rattle.types.specs.Declaration.{declarations_typed}
use Rattle.types.specs.inside.Declaration.{declared_of}
use Rattle.types.proofs.declaration.declare_all.Given as goal

abbrev pub invariant-declarations : goal.invariant-declarations
invariant-declarations l =
    outcome l.fn.declared.checker.first_fault (declarations_typed (declared_of l.fn.declared) (map declaration_tree l.declarations))
    ≡ outcome l.declared.checker.first_fault (declarations_typed (declared_of l.declared) (map declaration_tree (drop l.declaration-index l.declarations)))
