-- Proofs of `iter`, src/set.rt.
use Rattle.std.proofs.Common.{◌≡◌, length, subst, arith}
use Rattle.vertex_sets.specs.inside.Stored.{IsStored}
use Rattle.vertex_sets.specs.declared.set.Members.TheVariants.{Worded}
use Rattle.vertex_sets.specs.VertexSet.{word_count}
use Rattle.vertex_sets.proofs.StoredSets.{valid_set}
use Rattle.vertex_sets.proofs.set.VertexSet.iter.Goals as goal

pub of_flags-requires : goal.of_flags-requires
of_flags-requires c =
    let long : length c.in-Flagged.set.flags.items ≡ c.self.inside.vertices = subst (λ t. IsStored c.self.inside.vertices t) c.in-Flagged.is c.self.invariant in
    rw c.deref-in-Flagged.ensures.value (omega arith)

pub of_words-requires : goal.of_words-requires
of_words-requires c =
    let stored : IsStored c.self.inside.vertices (Worded c.in-Worded.set) = subst (λ t. IsStored c.self.inside.vertices t) c.in-Worded.is c.self.invariant in
    let long : length c.in-Worded.set.words.items ≡ word_count c.self.inside.vertices = stored.0 in
    rw c.deref-in-Worded.ensures.value (omega arith)

pub returns-in-Flagged-clause-valid : goal.returns-in-Flagged-clause-valid
returns-in-Flagged-clause-valid c = valid_set c.self.inside.vertices c.self.inside.members c.args.self.now c.self.invariant c.self.view_is

pub returns-in-Worded-clause-valid : goal.returns-in-Worded-clause-valid
returns-in-Worded-clause-valid c = valid_set c.self.inside.vertices c.self.inside.members c.args.self.now c.self.invariant c.self.view_is
