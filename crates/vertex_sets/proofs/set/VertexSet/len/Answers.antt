-- Proofs of `len`, src/set.rt.
use Rattle.std.proofs.Common.{◌≡◌, length, ap, sym, ◌∙◌, rules}
use Rattle.vertex_sets.specs.inside.Stored.{members_of}
use Rattle.vertex_sets.proofs.StoredSets.{valid_set, count_bound}
use Rattle.vertex_sets.proofs.set.VertexSet.len.Goals as goal

pub returns-in-Listed-clause-bounded : goal.returns-in-Listed-clause-bounded
returns-in-Listed-clause-bounded c =
    let long : c.len.result ≡ length c.in-Listed.members.items = search rules in
    count_bound c.self.inside.vertices c.self.inside.members c.args.self.now c.self.invariant c.self.view_is c.len.result
    (long ∙ ap (λ m. length (members_of m)) (sym c.in-Listed.is))

pub returns-in-Flagged-clause-bounded : goal.returns-in-Flagged-clause-bounded
returns-in-Flagged-clause-bounded c =
    count_bound c.self.inside.vertices c.self.inside.members c.args.self.now c.self.invariant c.self.view_is c.in-Flagged.set.count
    (c.in-Flagged.set.counted ∙ ap (λ m. length (members_of m)) (sym c.in-Flagged.is))

pub returns-in-Worded-clause-bounded : goal.returns-in-Worded-clause-bounded
returns-in-Worded-clause-bounded c =
    count_bound c.self.inside.vertices c.self.inside.members c.args.self.now c.self.invariant c.self.view_is c.in-Worded.set.count
    (c.in-Worded.set.counted ∙ ap (λ m. length (members_of m)) (sym c.in-Worded.is))

pub returns-in-Flagged-clause-valid : goal.returns-in-Flagged-clause-valid
returns-in-Flagged-clause-valid c = valid_set c.self.inside.vertices c.self.inside.members c.args.self.now c.self.invariant c.self.view_is

pub returns-in-Worded-clause-valid : goal.returns-in-Worded-clause-valid
returns-in-Worded-clause-valid c = valid_set c.self.inside.vertices c.self.inside.members c.args.self.now c.self.invariant c.self.view_is
