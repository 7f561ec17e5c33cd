-- Proofs of `prefix_with_more`, src/join.rt.
use Rattle.std.proofs.Common.{◌≡◌, ◌++◌, arith, rules}
use Rattle.std.specs.Map.{keys_of}
use Rattle.ascending_lists.specs.Ascending.{least}
use Rattle.ascending_lists.proofs.Ascending.{ascends_from}
use Rattle.c_tree.proofs.view.View.prefix_with_more.Goals as goal

pub of_prefix-requires-clause-ascending : goal.of_prefix-requires-clause-ascending
of_prefix-requires-clause-ascending c =
    let is : c.in_ok-prefix.prefix.entries ≡ c.args.self.now.entries ++ c.args.more.now.entries = search rules in
    rw is (ascends_from 0 (least c.args.base) (keys_of (c.args.self.now.entries ++ c.args.more.now.entries)) (omega arith) c.requires.over)
