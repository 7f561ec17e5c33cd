-- Proofs of `destinations`, src/pieces.rt.
use Rattle.std.proofs.Common.{◌≡◌, ℕ, Bool, Option, IfSome, subst}
use Rattle.kernels.specs.EdgeApply.{is_member}
use Rattle.kernels.specs.State.{StateValue}
use Rattle.edge_fold.specs.Ends.{IsEndTest}
use Rattle.vertex_sets.specs.VertexSet.{VertexSubset}
use Rattle.pull_engine.proofs.work.PullWork.destinations.Goals as goal

pub returns-in-Some : goal.returns-in-Some
returns-in-Some c m test is v =
    subst (λ (b : Option VertexSubset). IfSome b (λ s. (n : StateValue) (t : ℕ → Bool) → IsEndTest c.args.self.now.apply.to n t → (u : ℕ)
    → t u ≡ is_member u s.members)) c.in-Some.is c.args.self.now.member_bits m test is v
