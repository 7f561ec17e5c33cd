-- Proofs of `add_weighted`, src/weighted.rt.
use Rattle.std.proofs.Common.{rules, ◌≡◌, ◌≤◌, ◌+◌, ◌-◌, length, replicate, ap, sym, ◌∙◌}
use Rattle.edge_fold.proofs.Edges.{weighted_more}
use Rattle.edge_fold.proofs.pairs.Pairs.add_weighted.Goals as goal

pub returns-clause-waiting : goal.returns-clause-waiting
returns-clause-waiting c =
    let now = c.args.self.now in
    let ds = c.args.destinations.now in
    let s = c.args.source in
    let ws = c.args.weights.now in
    let n = now.count in
    let long : length c.fill.new.self ≡ length ds = search rules in
    let filled = c.fill.ensures.after (λ y e. e) ∙ ap (λ k. replicate k s) (sym c.fill.ensures.len ∙ long) in
    let inside : n ≤ length now.sources = search rules in
    let inside_too : n ≤ length now.destinations = search rules in
    let inside_weights : n ≤ length now.weights = search rules in
    weighted_more s n (n + length ds - n) now.sources now.destinations c.fill.new.self c.copy_from_slice.new.self ds
    now.weights c.copy_from_slice-2.new.self ws inside inside_too inside_weights c.requires.same long filled c.copy_from_slice.ensures.after c.copy_from_slice-2.ensures.after
