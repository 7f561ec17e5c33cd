-- Proofs of `pull_among`, src/among.rt.
use Rattle.std.proofs.Common.{List, length, refl, sym, ap, ◌∙◌, arith}
use Rattle.std.proofs.lemmas.Bool.{eqb-true}
use Rattle.std.proofs.lemmas.Result.{IfOk-weaker}
use Rattle.kernels.specs.EdgeApply.{after_edges, is_member}
use Rattle.kernels.specs.Value.{entry}
use Rattle.weighted_edges.specs.Edge.{Edge}
use Rattle.edge_fold.specs.Changed.{changed, changes_of}
use Rattle.edge_fold.proofs.ChangedRows.{nothing_changed}
use Rattle.edge_apply.proofs.Filtered.{to_agree}
use Rattle.follow_engine.proofs.Columns.{none_among}
use Rattle.follow_engine.proofs.among.pull_among.Goals as goal

pub returns-clause-changes : goal.returns-clause-changes
returns-clause-changes c =
    let g = c.args.apply.now.flat.now in
    let members = c.in_ok-set.set.members in
    IfOk-weaker c.pull.result _ _
    (λ cs is m steps from vectors sizes kernels is_from x r by long.
    is m steps from (λ v. is_member v members) vectors sizes kernels is_from (λ v. refl) x r by long
    ∙ ap (λ (es : List Edge). changed g.vertices (entry m.vectors x) (entry (after_edges steps m.sets m.vectors es m.vectors) x))
    (to_agree g from (λ v. is_member v members) (λ v. is_member v c.args.destinations.now) c.vertices.ensures.graph
    (λ v l. c.in_ok-set.ensures v (let count = c.vertices.ensures.count in omega (arith, l, count)))))
    c.pull.ensures.changes

pub returns-then-is_empty-clause-changes : goal.returns-then-is_empty-clause-changes
returns-then-is_empty-clause-changes c m steps from vectors sizes kernels is_from x r by long =
    let g = c.args.apply.now.flat.now in
    let before = entry m.vectors x in
    let none = none_among from c.args.destinations.now g.edges (eqb-true (length c.args.destinations.now) 0 (sym c.if-is_empty.ensures)) in
    ap (changes_of x) c.new-vectors.ensures.items
    ∙ sym (ap (λ (es : List Edge). changed g.vertices before (entry (after_edges steps m.sets m.vectors es m.vectors) x)) none
    ∙ nothing_changed before before 0 g.vertices (λ u low high. refl))
