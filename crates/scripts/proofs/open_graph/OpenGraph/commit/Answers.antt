-- Proofs of `commit`, src/open_graph.rt.
use Rattle.std.proofs.Common.{ℕ, subst, sym}
use Rattle.version_list.specs.declared.step.Reply.TheVariants.{Version}
use Rattle.version_list.specs.Timeline.{Timeline}
use Rattle.version_flats.specs.VersionFlats.{AreOf}
use Rattle.version_flats.proofs.Following.{follows_a_commit}
use Rattle.scripts.proofs.StepLaws.{unchanged}
use Rattle.scripts.proofs.open_graph.OpenGraph.commit.Goals as goal

pub invariant_of-self : goal.invariant_of-self
invariant_of-self g c = c.let_go.ensures.are_of c.self.inside.versions.state c.self.invariant (follows_a_commit _ _ _ _ c.newest-before.ensures.number c.in-Ok.ensures.state)

pub invariant_of-self-in-Err : goal.invariant_of-self-in-Err
invariant_of-self-in-Err g c =
    subst (λ (t : Timeline). AreOf t.state c.self.inside.flats) (sym (unchanged {A = ℕ} _ _ _ Version c.in-Err.error c.in-Err.ensures)) c.self.invariant
