-- Proofs of `remove_ascending`, src/lists.rt.
use Rattle.std.proofs.Common.{None}
use Rattle.tail_codec.proofs.Columns.{keys_in}
use Rattle.set_ops.proofs.lists.remove_ascending.Goals as goal

pub with_ascending-requires : goal.with_ascending-requires
with_ascending-requires c = rw (c.of_keys.ensures, keys_in c.args.keys.now None tt) c.requires

pub returns : goal.returns
returns c = rw (c.of_keys.ensures, keys_in c.args.keys.now None tt) at c.with_ascending.ensures
