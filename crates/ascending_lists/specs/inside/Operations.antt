-- Beside `Operations`: definitions that no public contract cites.
use Rattle.std.specs.Prelude.{Bool, true, false}
use Rattle.ascending_lists.specs.declared.set_operation.Operation.{Operation}
use Rattle.ascending_lists.specs.declared.set_operation.Operation.TheVariants.{Union, Difference}

-- whether the answer has what the second list has alone
abbrev pub takes_second : Operation → Bool
takes_second Union = true
takes_second Difference = false
