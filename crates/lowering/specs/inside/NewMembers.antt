-- What a set gets.
use Rattle.typed_tree.specs.declared.statement.SetValue.{SetValue}
use Rattle.typed_tree.specs.declared.statement.SetValue.TheVariants as set
use Rattle.plans.specs.Operation.{set_value}
use Rattle.lowering.specs.declared.operations.NewMembers.{NewMembers}
use Rattle.lowering.specs.declared.operations.NewMembers.TheVariants.{Given, Modified}

-- the value of which a set gets this
abbrev pub value_of : NewMembers → SetValue
value_of (Given members) = set_value members
value_of (Modified ends function vector) = set.Modified ends function vector
