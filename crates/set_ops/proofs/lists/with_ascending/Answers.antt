-- Proofs of `with_ascending`, src/lists.rt.
use Rattle.std.proofs.Common.{arith}
use Rattle.std.specs.Map.{keys_of}
use Rattle.std.proofs.lemmas.Map.Entries.{length-keys_of}
use Rattle.ascending_lists.proofs.Ascending.{ascends_room}
use Rattle.set_ops.proofs.lists.with_ascending.Goals as goal

pub into_set-requires-clause-room : goal.into_set-requires-clause-room
into_set-requires-clause-room c =
    let es = c.args.entries.now in
    omega (arith, c.len.ensures.bounded, c.len-2.ensures, length-keys_of es, ascends_room 0 (keys_of es) (omega arith) c.requires)
