-- What an operation makes of two maps, as lists of entries with ascending keys.
use Rattle.std.specs.Prelude.{ℕ, List}
use Rattle.std.specs.Map.{keys_of}
use Rattle.ascending_lists.specs.MapOperations.{union_keeping_second, union_keeping_first, without_keys}
use Rattle.ascending_lists.specs.declared.set_operation.Operation.{Operation}
use Rattle.ascending_lists.specs.declared.set_operation.Operation.TheVariants.{Union as KeysOfBoth, Difference as KeysOfFirst}
use Rattle.tail_codec.specs.declared.operation.MapOperation.{MapOperation}
use Rattle.tail_codec.specs.declared.operation.MapOperation.TheVariants.{Union, UnionKeepingFirst, Difference}

-- the entries of the answer
abbrev pub combined_maps : {V : Type 0} → MapOperation → List (ℕ × V) → List (ℕ × V) → List (ℕ × V)
combined_maps Union xs ys = union_keeping_second xs ys
combined_maps UnionKeepingFirst xs ys = union_keeping_first xs ys
combined_maps Difference xs ys = without_keys xs (keys_of ys)

-- the operation on the keys alone
abbrev pub on_keys : MapOperation → Operation
on_keys Union = KeysOfBoth
on_keys UnionKeepingFirst = KeysOfBoth
on_keys Difference = KeysOfFirst
