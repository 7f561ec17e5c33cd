-- Proofs of `remove_all`, src/lists.rt.
use Rattle.std.proofs.Common.{None}
use Rattle.tail_codec.proofs.Columns.{keys_in}
use Rattle.set_ops.proofs.lists.remove_all.Goals as goal

pub returns : goal.returns
returns c = rw (c.of_keys.ensures, keys_in c.args.keys.now None tt) at c.with_list.ensures
