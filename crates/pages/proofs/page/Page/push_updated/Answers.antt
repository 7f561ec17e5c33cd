-- Proofs of `push_updated`, src/applying.rt.
use Rattle.std.proofs.Common.{◌++◌, length, slice_range, sym, ◌∙◌, ap, subst, arith}
use Rattle.std.specs.Map.{keys_of}
use Rattle.ascending_lists.specs.Ascending.{AscendsFrom}
use Rattle.edge_updates.proofs.Weighted.{length_weighted, things_of}
use Rattle.pages.specs.Updates.{updated}
use Rattle.pages.specs.Vertices.{count_below}
use Rattle.ascending_lists.proofs.MapOrder.{rises_to}
use Rattle.pages.proofs.Building.{below_up, below_all}
use Rattle.pages.proofs.page.Page.push_updated.Goals as goal

pub push_run-requires-clause-order : goal.push_run-requires-clause-order
push_run-requires-clause-order c = omega (arith, c.index.ensures.index, c.index-2.ensures.index, below_up c.args.low c.args.vertex c.args.old.now c.requires.order)

pub push_run-requires-clause-within : goal.push_run-requires-clause-within
push_run-requires-clause-within c = omega (arith, c.index-2.ensures.index, below_all c.args.vertex c.args.old.now)

pub push_run-requires-clause-map : goal.push_run-requires-clause-map
push_run-requires-clause-map c =
    let old = c.args.old.now in
    rw (c.index.ensures.index, c.index-2.ensures.index)
    (rises_to 0 c.args.vertex 64 (c.args.self.now ++ slice_range old (count_below c.args.low old) (count_below c.args.vertex old)) c.requires.map (omega arith))

pub push_any-requires-clause-few : goal.push_any-requires-clause-few
push_any-requires-clause-few c =
    let r = c.columns.result in
    omega (arith, c.requires.few, length_weighted r.0.now r.1.now, ap length (c.columns.ensures ∙ c.in_ok-merge.ensures.list), ap (λ l. length (updated l c.args.updates.now)) c.list.ensures)

pub push_any-requires-clause-ascending : goal.push_any-requires-clause-ascending
push_any-requires-clause-ascending c =
    let r = c.columns.result in
    subst (AscendsFrom 0) (ap keys_of (sym c.columns.ensures) ∙ things_of r.0.now r.1.now) c.in_ok-merge.ensures.ascending
