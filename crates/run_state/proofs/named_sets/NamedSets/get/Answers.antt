-- Proofs of `get`, src/named_sets.rt.
use Rattle.std.proofs.Common.{◌<◌, ◌≤◌, length, slice_get, refl, ap, sym, arith, ◌∙◌}
use Rattle.std.proofs.lemmas.Option.{slice_get_past, slice_get_read}
use Rattle.algorithm_meaning.specs.Value.{members_of}
use Rattle.run_state.specs.View.{members_in}
use Rattle.run_state.specs.State.{RunState}
use Rattle.run_state.proofs.Named.{found_vertices, named_members}
use Rattle.run_state.proofs.named_sets.NamedSets.get.Goals as goal

pub returns-then-index-len-clause-members : goal.returns-then-index-len-clause-members
returns-then-index-len-clause-members c =
    let s = c.self.inside in
    let ms = s.members.items in
    let index = c.args.index in
    let inside : index < length ms = omega (arith, s.members.ok) in
    let found = slice_get_read ms (length ms) index c.index.result.now refl inside c.index.ensures in
    ap members_in (sym found)
    ∙ named_members s.names.items ms index c.self.invariant.count
    ∙ ap (λ (r : RunState). members_of (slice_get r.state.sets index)) c.self.view_is

pub returns-then-index-len-clause-vertices : goal.returns-then-index-len-clause-vertices
returns-then-index-len-clause-vertices c =
    let s = c.self.inside in
    let ms = s.members.items in
    let index = c.args.index in
    let inside : index < length ms = omega (arith, s.members.ok) in
    let found = slice_get_read ms (length ms) index c.index.result.now refl inside c.index.ensures in
    found_vertices s.vertices ms index c.index.result.now (sym found) c.self.invariant.each ∙ ap (λ (r : RunState). r.vertices) c.self.view_is

pub returns-else-index-len-clause-members : goal.returns-else-index-len-clause-members
returns-else-index-len-clause-members c =
    let s = c.self.inside in
    let ms = s.members.items in
    let index = c.args.index in
    let outside : length ms ≤ index = omega (arith, s.members.ok) in
    ap members_in (sym (slice_get_past ms index outside))
    ∙ named_members s.names.items ms index c.self.invariant.count
    ∙ ap (λ (r : RunState). members_of (slice_get r.state.sets index)) c.self.view_is
