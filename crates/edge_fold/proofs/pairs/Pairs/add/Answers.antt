-- Proofs of `add`, src/pairs.rt.
use Rattle.std.proofs.Common.{rules, ◌≡◌, ◌≤◌, ◌+◌, ◌-◌, length, replicate, ap, sym, ◌∙◌}
use Rattle.edge_fold.proofs.Edges.{waiting_more}
use Rattle.edge_fold.proofs.pairs.Pairs.add.Goals as goal

pub returns-clause-waiting : goal.returns-clause-waiting
returns-clause-waiting c =
    let now = c.args.self.now in
    let ds = c.args.destinations.now in
    let s = c.args.source in
    let n = now.count in
    let long : length c.fill.new.self ≡ length ds = search rules in
    let filled = c.fill.ensures.after (λ y e. e) ∙ ap (λ k. replicate k s) (sym c.fill.ensures.len ∙ long) in
    let inside : n ≤ length now.sources = search rules in
    let inside_too : n ≤ length now.destinations = search rules in
    waiting_more s n (n + length ds - n) now.sources now.destinations c.fill.new.self c.copy_from_slice.new.self ds inside inside_too long filled c.copy_from_slice.ensures.after
