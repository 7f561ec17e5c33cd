-- Proofs of `commit`, src/session.rt.
use Rattle.std.proofs.Common.{map, sym, subst}
use Rattle.std.specs.Arc.{arc_value}
use Rattle.version_list.specs.declared.step.Step.TheVariants.{Commit}
use Rattle.version_list.specs.declared.step.Reply.TheVariants.{Version}
use Rattle.version_list.specs.Timeline.{Timeline}
use Rattle.version_flats.proofs.Following.{follows_a_commit}
use Rattle.session.specs.inside.Records.{AreOfVersions}
use Rattle.session.proofs.Recording.{followed_versions, of_later_versions}
use Rattle.session.proofs.Versions.{unchanged_answered}
use Rattle.session.proofs.session.Session.commit.Goals as goal

pub invariant_of-self : goal.invariant_of-self
invariant_of-self c =
    let s = c.self.inside in
    let same = unchanged_answered s.versions c.commit.new.self (Commit c.args.batch) Version c.in_err-number.field-0.0 c.in_err-number.ensures in
    subst (λ (t : Timeline). AreOfVersions (map arc_value s.plans.items) t.state s.flats s.records s.jobs.items) (sym same) c.self.invariant

pub invariant_of-self-2 : goal.invariant_of-self-2
invariant_of-self-2 c =
    let s = c.self.inside in
    let was = s.versions.state in
    let follows = follows_a_commit was _ _ c.args.batch c.newest-before.ensures.number c.in_ok-number.ensures.state in
    of_later_versions (map arc_value s.plans.items) was _ s.flats _ s.records _ s.jobs.items (followed_versions was _ _ follows)
    (c.let_go.ensures.are_of was c.self.invariant.are_flats follows) c.after_commit.ensures c.self.invariant
