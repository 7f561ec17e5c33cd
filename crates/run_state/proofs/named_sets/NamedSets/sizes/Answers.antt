-- Proofs of `sizes`, src/named_sets.rt.
use Rattle.std.proofs.Common.{ap, sym, ◌∙◌}
use Rattle.run_state.specs.inside.NamedSets.{sizes_of}
use Rattle.run_state.specs.State.{RunState}
use Rattle.run_state.proofs.Named.{named_sizes}
use Rattle.run_state.proofs.named_sets.NamedSets.sizes.Goals as goal

pub returns : goal.returns
returns c =
    let s = c.self.inside in
    c.as_slice.ensures.value ∙ c.self.invariant.measured ∙ sym (named_sizes s.names.items s.members.items c.self.invariant.count) ∙ ap (λ (r : RunState). sizes_of r.state) c.self.view_is
