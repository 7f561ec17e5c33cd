-- Proofs of `push_run`, src/long_lists.rt.
use Rattle.std.proofs.Common.{◌++◌, slice_range, sym, ◌∙◌, ap, subst, arith}
use Rattle.std.proofs.lemmas.List.{take_all}
use Rattle.ascending_lists.specs.Maps.{Rises}
use Rattle.vertex_blocks.specs.Blocks.{AreNeighbourLists}
use Rattle.vertex_blocks.specs.inside.LongLists.{long_entries}
use Rattle.vertex_blocks.proofs.LongTables.{some_at, lists_between, run_is, long_above}
use Rattle.vertex_blocks.proofs.long_lists.LongLists.push_run.Goals as goal

pub push-requires-clause-above : goal.push-requires-clause-above
push-requires-clause-above c =
    let run = slice_range c.deref.result.now c.args.from c.args.to in
    let whole = run_is c.args.from c.args.to c.args.others.now c.deref.result.now c.others.inside.entries.items c.others.view_is c.deref.ensures.value in
    let map : Rises 0 64 (c.args.self.now ++ long_entries run) = subst (λ ls. Rises 0 64 (c.args.self.now ++ ls)) whole c.requires.map in
    rw (c.from.ensures, c.loop-entry.invariant) (long_above c.args.self.now run c.loop-entry.entry-index c.entry-item.result (omega (arith, c.loop-entry-test.true)) c.entry-item.is map).0

pub push-requires-clause-vertex : goal.push-requires-clause-vertex
push-requires-clause-vertex c =
    let run = slice_range c.deref.result.now c.args.from c.args.to in
    let whole = run_is c.args.from c.args.to c.args.others.now c.deref.result.now c.others.inside.entries.items c.others.view_is c.deref.ensures.value in
    let map : Rises 0 64 (c.args.self.now ++ long_entries run) = subst (λ ls. Rises 0 64 (c.args.self.now ++ ls)) whole c.requires.map in
    omega (arith, c.from.ensures, (long_above c.args.self.now run c.loop-entry.entry-index c.entry-item.result (omega (arith, c.loop-entry-test.true)) c.entry-item.is map).1)

pub push-requires-clause-some : goal.push-requires-clause-some
push-requires-clause-some c =
    let run = slice_range c.deref.result.now c.args.from c.args.to in
    let lists : AreNeighbourLists (long_entries c.deref.result.now) = rw c.deref.ensures.value c.others.invariant.lists in
    rw c.in_ok-share.ensures (some_at run c.loop-entry.entry-index c.entry-item.result (lists_between c.args.from c.args.to c.deref.result.now lists)
    (omega (arith, c.loop-entry-test.true)) c.entry-item.is)

pub returns : goal.returns
returns c =
    let run = slice_range c.deref.result.now c.args.from c.args.to in
    let whole = run_is c.args.from c.args.to c.args.others.now c.deref.result.now c.others.inside.entries.items c.others.view_is c.deref.ensures.value in
    c.loop-entry.invariant ∙ ap (λ rs. c.args.self.now ++ long_entries rs) (take_all c.loop-entry.entry-index run (omega (arith, c.loop-entry-test.false)))
    ∙ ap (λ ls. c.args.self.now ++ ls) (sym whole)
