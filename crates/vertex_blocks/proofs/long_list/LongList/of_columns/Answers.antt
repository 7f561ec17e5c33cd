-- Proofs of `of_columns`, src/long_list.rt.
use Rattle.std.proofs.Common.{sym, ◌∙◌, ap, subst}
use Rattle.std.specs.Map.{keys_of}
use Rattle.ascending_lists.specs.Ascending.{AscendsFrom}
use Rattle.edge_updates.proofs.Weighted.{things_of}
use Rattle.vertex_blocks.proofs.long_list.LongList.of_columns.Goals as goal

pub new-requires-clause-ascending : goal.new-requires-clause-ascending
new-requires-clause-ascending c =
    let r = c.columns.result in
    subst (AscendsFrom 0) (ap keys_of (sym c.columns.ensures) ∙ things_of r.0.now r.1.now) c.requires.ascending
