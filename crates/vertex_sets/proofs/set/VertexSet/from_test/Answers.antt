-- Proofs of `from_test`, src/set.rt.
use Rattle.std.proofs.Common.{sym, ap, ◌∙◌}
use Rattle.vertex_sets.specs.VertexSet.{VertexSubset}
use Rattle.vertex_sets.proofs.set.VertexSet.from_test.Goals as goal

pub returns-in-List : goal.returns-in-List
returns-in-List g c = record {
  form = ap (λ (s : VertexSubset). s.form) c.of.ensures.set ∙ sym c.in-List.is;
  vertices = ap (λ (s : VertexSubset). s.vertices) c.of.ensures.set;
  tested = λ v lt. rw c.of.ensures.set (c.in_ok-list-in-List.ensures.tested v lt);
  valid = c.of.ensures.valid;
}

pub returns-in-Flags : goal.returns-in-Flags
returns-in-Flags g c = record {
  form = ap (λ (s : VertexSubset). s.form) c.of-in-Flags.ensures.set ∙ sym c.in-Flags.is;
  vertices = ap (λ (s : VertexSubset). s.vertices) c.of-in-Flags.ensures.set;
  tested = λ v lt. rw c.of-in-Flags.ensures.set (c.in_ok-set-in-Flags.ensures.tested v lt);
  valid = c.of-in-Flags.ensures.valid;
}

pub returns : goal.returns
returns g c = record {
  form = ap (λ (s : VertexSubset). s.form) c.of-in-Bits.ensures.set ∙ sym c.in-Bits.is;
  vertices = ap (λ (s : VertexSubset). s.vertices) c.of-in-Bits.ensures.set;
  tested = λ v lt. rw c.of-in-Bits.ensures.set (c.in_ok-set-in-Bits.ensures.tested v lt);
  valid = c.of-in-Bits.ensures.valid;
}
