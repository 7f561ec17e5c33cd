-- Proofs of `add_into_weighted`, src/weighted.rt.
use Rattle.std.proofs.Common.{rules, ◌≡◌, ◌≤◌, ◌+◌, ◌-◌, length, replicate, ap, sym, ◌∙◌}
use Rattle.edge_fold.proofs.Columns.{weighted_into}
use Rattle.edge_fold.proofs.pairs.Pairs.add_into_weighted.Goals as goal

pub returns-clause-waiting : goal.returns-clause-waiting
returns-clause-waiting c =
    let now = c.args.self.now in
    let us = c.args.sources.now in
    let d = c.args.destination in
    let ws = c.args.weights.now in
    let n = now.count in
    let long : length c.fill.new.self ≡ length us = search rules in
    let filled = c.fill.ensures.after (λ y e. e) ∙ ap (λ k. replicate k d) (sym c.fill.ensures.len ∙ long) in
    let inside : n ≤ length now.sources = search rules in
    let inside_too : n ≤ length now.destinations = search rules in
    let inside_weights : n ≤ length now.weights = search rules in
    weighted_into d n (n + length us - n) now.sources now.destinations c.copy_from_slice.new.self c.fill.new.self us
    now.weights c.copy_from_slice-2.new.self ws inside inside_too inside_weights c.requires.same long filled c.copy_from_slice.ensures.after c.copy_from_slice-2.ensures.after
