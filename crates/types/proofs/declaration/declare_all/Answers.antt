-- Proofs of `declare_all`, src/declaration.rt.
use Rattle.std.proofs.Common.{◌∙◌}
use Rattle.types.specs.inside.Declaration.{declared_of}
use Rattle.types.proofs.DeclarationLaws.{declaration_on}
use Rattle.types.proofs.declaration.declare_all.Goals as goal

pub declarations-preserved : goal.declarations-preserved
declarations-preserved c =
    c.declarations.invariant ∙ declaration_on (declared_of c.declarations.declared) (declared_of c.declare_one.new.declared) c.args.declarations.now c.declarations.declaration-index
    c.declaration-item.result c.declarations.declared.checker.first_fault c.declare_one.new.declared.checker.first_fault c.declarations-test.true c.declaration-item.is c.in_ok-declare_one.ensures
