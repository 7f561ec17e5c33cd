-- The vertices that are marked, listed, and the edges to those of them that pass.
use Rattle.std.proofs.Common.{◌≡◌, ◌↔◌, ◌<◌, ℕ, Bool, true, List, Contains, refl, sym, ◌∙◌}
use Rattle.std.specs.List.Sorted.{IsStrictlyIncreasing}
use Rattle.kernels.specs.EdgeApply.{is_member}
use Rattle.edge_apply.specs.declared.apply.Apply.{Apply}
use Rattle.edge_fold.proofs.Findings.{member_is}
use Rattle.follow_engine.specs.declared.differences.Differences.{Differences}
use Rattle.follow_engine.specs.Reached.{is_reached}
use Rattle.follow_engine.specs.Spent.{AreChosen, IsPullWork}
use Rattle.follow_engine.specs.Work.{edges_to}

-- the members of a list that has what passes a test
pub member_tested : (test : ℕ → Bool) (xs : List ℕ) → ((v : ℕ) → Contains xs v ↔ (test v ≡ true)) → (v : ℕ) → is_member v xs ≡ test v
member_tested test xs has v = sym (member_is v xs (test v) (λ on. (has v).1 on, λ there. (has v).0 there))

-- the edges that are pulled
pub pull_work : (now was : Apply) (d : Differences) (test : ℕ → Bool) (reached chosen : List ℕ) → IsStrictlyIncreasing reached
    → ((v : ℕ) → Contains reached v ↔ (test v ≡ true)) → ((v : ℕ) → v < now.flat.now.vertices → test v ≡ is_reached now was d v) → AreChosen now reached chosen
    → IsPullWork now was d (edges_to now.flat.now.edges chosen)
pull_work now was d test reached chosen up has tested are = record {
  reached = reached;
  ascending = up;
  listed = λ v l. member_tested test reached has v ∙ tested v l;
  chosen = chosen;
  are = are;
  edges = refl;
}
