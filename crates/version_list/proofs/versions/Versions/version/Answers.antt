-- Proofs of `version`, src/versions.rt.
use Rattle.std.proofs.Common.{◌≤◌, ◌∙◌, subst}
use Rattle.std.specs.Option.{IfSome}
use Rattle.version_list.specs.Machine.{newest_number}
use Rattle.version_list.specs.Timeline.{Timeline}
use Rattle.version_list.specs.inside.Fields.{timeline}
use Rattle.version_list.proofs.Keeping.{open_is_made}
use Rattle.version_list.proofs.versions.Versions.version.Goals as goal

pub returns-clause-made : goal.returns-clause-made
returns-clause-made c =
    let shows = c.self.invariant.state in
    let number = c.args.ticket.number in
    subst (λ (t : Timeline). IfSome c.version.result (λ k. k ≤ newest_number t.state)) c.self.view_is
    (open_is_made (timeline c.self.inside).state shows.tickets number c.version.result (c.version.ensures ∙ shows.held.tickets number))
