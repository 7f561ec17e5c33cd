-- Proofs of `len`, src/named_sets.rt.
use Rattle.std.proofs.Common.{length, ap, ◌∙◌}
use Rattle.run_state.specs.State.{RunState}
use Rattle.run_state.proofs.Named.{named_length}
use Rattle.run_state.proofs.named_sets.NamedSets.len.Goals as goal

pub returns : goal.returns
returns c =
    let s = c.self.inside in
    c.len.ensures ∙ s.members.ok.0 ∙ named_length s.names.items s.members.items c.self.invariant.count ∙ ap (λ (r : RunState). length r.state.sets) c.self.view_is
