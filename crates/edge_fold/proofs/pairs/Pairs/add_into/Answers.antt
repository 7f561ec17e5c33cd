-- Proofs of `add_into`, src/pairs.rt.
use Rattle.std.proofs.Common.{rules, ◌≡◌, ◌≤◌, ◌+◌, ◌-◌, length, replicate, ap, sym, ◌∙◌}
use Rattle.edge_fold.proofs.Columns.{waiting_into}
use Rattle.edge_fold.proofs.pairs.Pairs.add_into.Goals as goal

pub returns-clause-waiting : goal.returns-clause-waiting
returns-clause-waiting c =
    let now = c.args.self.now in
    let us = c.args.sources.now in
    let d = c.args.destination in
    let n = now.count in
    let long : length c.fill.new.self ≡ length us = search rules in
    let filled = c.fill.ensures.after (λ y e. e) ∙ ap (λ k. replicate k d) (sym c.fill.ensures.len ∙ long) in
    let inside : n ≤ length now.sources = search rules in
    let inside_too : n ≤ length now.destinations = search rules in
    waiting_into d n (n + length us - n) now.sources now.destinations c.copy_from_slice.new.self c.fill.new.self us inside inside_too long filled c.copy_from_slice.ensures.after
