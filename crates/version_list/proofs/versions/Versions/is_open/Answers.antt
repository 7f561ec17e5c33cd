-- Proofs of `is_open`, src/versions.rt.
use Rattle.std.proofs.Common.{◌∙◌, is_some, sym, ap}
use Rattle.version_list.specs.Machine.{is_open}
use Rattle.version_list.specs.Timeline.{Timeline}
use Rattle.version_list.specs.inside.Fields.{timeline}
use Rattle.version_list.proofs.Holding.{is_open_is}
use Rattle.version_list.proofs.versions.Versions.is_open.Goals as goal

pub returns : goal.returns
returns c =
    let s = (timeline c.self.inside).state in
    let number = c.args.ticket.number in
    c.is_open.ensures ∙ ap is_some (c.self.invariant.state.held.tickets number) ∙ sym (is_open_is s.open_tickets number) ∙ ap (λ (t : Timeline). is_open t.state number) c.self.view_is
