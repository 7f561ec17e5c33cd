-- Proofs of `release`, src/session.rt.
use Rattle.std.proofs.Common.{◌≡◌, ℕ, Bor, Option, None, map, ap, sym, ◌∙◌, subst}
use Rattle.std.specs.Arc.{arc_value}
use Rattle.std.specs.Option.{MatchOption}
use Rattle.tree_batch.specs.Digraph.{Digraph}
use Rattle.version_list.specs.Machine.{ticket_version}
use Rattle.version_list.specs.Kept.{IsHeld}
use Rattle.session.specs.Standing.{SessionValue}
use Rattle.session.proofs.Flats.{follows_a_release}
use Rattle.session.proofs.Recording.{followed_versions, of_later_versions}
use Rattle.session.proofs.Versions.{refuses_release}
use Rattle.session.proofs.session.Session.release.Goals as goal

pub returns-in_default : goal.returns-in_default
returns-in_default c =
    let s = c.self.inside.versions.state in
    let number = c.args.number in
    let none : ticket_version s.open_tickets number ≡ None =
    subst (λ (found : Option (ℕ × Bor Digraph)). MatchOption found (ticket_version s.open_tickets number ≡ None) (λ v. IsHeld s number v.0 v.1.now)) c.in_default.is c.kept.ensures in
    refuses_release c.args.self.now number (ap (λ (v : SessionValue). ticket_version v.versions.open_tickets number) (sym c.self.view_is) ∙ none)

pub invariant_of-self-2 : goal.invariant_of-self-2
invariant_of-self-2 c =
    let inside = c.self.inside in
    let s = inside.versions.state in
    let number = c.args.number in
    let held = subst (λ (found : Option (ℕ × Bor Digraph)). MatchOption found (ticket_version s.open_tickets number ≡ None) (λ v. IsHeld s number v.0 v.1.now)) c.in-Some.is c.kept.ensures in
    let follows = follows_a_release s _ number c.in-Some.version _ held c.in_ok-release.ensures.answer.state in
    of_later_versions (map arc_value inside.plans.items) s _ inside.flats _ inside.records _ inside.jobs.items (followed_versions s _ _ follows)
    (c.let_go.ensures.are_of s c.self.invariant.are_flats follows) c.after_release.ensures c.self.invariant
