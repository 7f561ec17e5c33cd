-- Proofs of `members_in_bits`, src/push_end.rt.
use Rattle.std.proofs.Common.{refl, sym, ap, ◌∙◌}
use Rattle.kernels.specs.EdgeApply.{is_member}
use Rattle.vertex_sets.specs.VertexSet.{VertexSubset}
use Rattle.edge_apply.proofs.Bits.{words_have_members}
use Rattle.edge_apply.proofs.Filtered.{and_true}
use Rattle.push_engine.proofs.push_end.members_in_bits.Goals as goal

pub returns-in-Some-clause-lets : goal.returns-in-Some-clause-lets
returns-in-Some-clause-lets c n m to is = record {
  untested = λ v. refl;
  both = λ v l. and_true _ ∙ words_have_members c.args.set.now c.in-Some.words.now c.in-Some.ensures.members v ∙ sym (is v);
}

pub returns-clause-lets : goal.returns-clause-lets
returns-clause-lets c n m to is = record {
  untested = λ v. refl;
  both = λ v l. and_true _ ∙ ap (λ (s : VertexSubset). is_member v s.members) c.in_ok-bits.ensures ∙ sym (is v);
}
