-- Proofs of `get`, src/long_lists.rt.
use Rattle.std.proofs.Common.{◌<◌, length, sym, ◌∙◌, ap, arith}
use Rattle.pages.proofs.Ranks.{ranked, unmarked}
use Rattle.vertex_blocks.specs.inside.LongLists.{long_entries}
use Rattle.vertex_blocks.proofs.LongTables.{long_at, some_at, long_length}
use Rattle.vertex_blocks.proofs.long_lists.LongLists.get.Goals as goal

pub index-requires : goal.index-requires
index-requires c =
    let s = c.self.inside in
    let found = ranked s.present (long_entries s.entries.items) c.self.invariant.index c.args.vertex c.requires c.in-Some.index c.in-Some.ensures in
    omega (arith, found.0, long_length s.entries.items)

pub returns-in-Some : goal.returns-in-Some
returns-in-Some c =
    let s = c.self.inside in
    let found = ranked s.present (long_entries s.entries.items) c.self.invariant.index c.args.vertex c.requires c.in-Some.index c.in-Some.ensures in
    let within : c.in-Some.index < length s.entries.items = omega (arith, found.0, long_length s.entries.items) in
    let at = long_at s.entries.items c.in-Some.index c.index.result.now within c.index.ensures in
    rw (← c.self.view_is) (ap (λ e. e.1) (sym at) ∙ found.1, some_at s.entries.items c.in-Some.index c.index.result.now c.self.invariant.lists within c.index.ensures)

pub returns-in-None : goal.returns-in-None
returns-in-None c =
    let s = c.self.inside in
    rw (← c.self.view_is) (unmarked s.present (long_entries s.entries.items) c.self.invariant.index c.args.vertex c.requires c.in-None.ensures)
