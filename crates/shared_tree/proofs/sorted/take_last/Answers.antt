-- Proofs of `take_last`, src/sorted.rt.
use Rattle.std.proofs.Common.{◌-◌, arith}
use Rattle.shared_tree.proofs.Ascending.{last_taken}
use Rattle.shared_tree.proofs.sorted.take_last.Goals as goal

pub returns-clause-items : goal.returns-clause-items
returns-clause-items g c = last_taken c.args.list.now.items c.swap_remove.new.self.items _ c.swap_remove.result (omega arith) c.swap_remove.ensures.value c.swap_remove.ensures.items
