-- Proofs of `split_at`, src/updates.rt.
use Rattle.std.proofs.Common.{take, drop, sym, ◌∙◌, ap, arith}
use Rattle.std.proofs.lemmas.List.{take_min, drop_min}
use Rattle.edge_updates.specs.Weighted.{weighted}
use Rattle.edge_updates.proofs.Weighted.{seen_length, take_weighted, drop_weighted}
use Rattle.edge_updates.proofs.updates.Updates.split_at.Goals as goal

pub prove-unreachable-requires : goal.prove-unreachable-requires
prove-unreachable-requires c =
    omega (arith, c.requires, c.if-prove.true, seen_length c.self.inside.updates.now c.self.inside.weights.now c.args.self.now c.self.view_is)

pub returns-clause-front : goal.returns-clause-front
returns-clause-front c =
    let u = c.self.inside in
    let n = c.args.count in
    c.new.ensures ∙ ap (λ v. weighted v c.split_at-2.result.0.now) c.split_at.ensures.front
    ∙ ap (weighted (take n u.updates.now)) (c.split_at-2.ensures.front ∙ ap (λ k. take k u.weights.now) c.min.ensures ∙ take_min n u.weights.now)
    ∙ sym (take_weighted n u.updates.now u.weights.now) ∙ ap (take n) c.self.view_is

pub returns-clause-back : goal.returns-clause-back
returns-clause-back c =
    let u = c.self.inside in
    let n = c.args.count in
    c.new-2.ensures ∙ ap (λ v. weighted v c.split_at-2.result.1.now) c.split_at.ensures.back
    ∙ ap (weighted (drop n u.updates.now)) (c.split_at-2.ensures.back ∙ ap (λ k. drop k u.weights.now) c.min.ensures ∙ drop_min n u.weights.now)
    ∙ sym (drop_weighted n u.updates.now u.weights.now) ∙ ap (drop n) c.self.view_is
