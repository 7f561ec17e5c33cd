-- Proofs of `examples_have_their_plans`, src/laws.rt.
use Rattle.std.proofs.Common.{refl}
use Rattle.plans.proofs.laws.examples_have_their_plans.Goals as goal

pub returns : goal.returns
returns c = record {
  search = λ p s frontier ends visit parent. refl;
  loop_with_choice = λ p s i first end c e f. refl;
  vertex_pair = λ p name. refl;
  edge_pair = λ p. refl;
  modifying_pair = λ p m n. refl;
  apart = λ p. refl;
}
