-- Proofs of `update_sets`, src/named_sets.rt.
use Rattle.std.proofs.Common.{subst, sym}
use Rattle.run_state.specs.State.{RunState}
use Rattle.run_state.specs.SetUpdate.{IsUpdateOf}
use Rattle.run_state.proofs.Named.{measured_length}
use Rattle.run_state.proofs.named_sets.NamedSets.update_sets.Goals as goal

pub update_set-requires-2-clause-counted : goal.update_set-requires-2-clause-counted
update_set-requires-2-clause-counted c =
    let s = c.self.inside in
    let first = subst (λ (r : RunState). IsUpdateOf r.vertices c.args.first) (sym c.self.view_is) c.requires.first in
    let are = c.update_set.ensures.are s.vertices (rw (c.make_room.ensures.names, c.make_room.ensures.members, c.make_room.ensures.sizes) c.self.invariant) first in
    are.count

pub update_set-requires-2-clause-measured : goal.update_set-requires-2-clause-measured
update_set-requires-2-clause-measured c =
    let s = c.self.inside in
    let new = c.update_set.new in
    let first = subst (λ (r : RunState). IsUpdateOf r.vertices c.args.first) (sym c.self.view_is) c.requires.first in
    let are = c.update_set.ensures.are s.vertices (rw (c.make_room.ensures.names, c.make_room.ensures.members, c.make_room.ensures.sizes) c.self.invariant) first in
    measured_length s.vertices new.names.items new.members.items new.sizes.items are

pub invariant_of-self-2 : goal.invariant_of-self-2
invariant_of-self-2 c =
    let s = c.self.inside in
    let first = subst (λ (r : RunState). IsUpdateOf r.vertices c.args.first) (sym c.self.view_is) c.requires.first in
    let second = subst (λ (r : RunState). IsUpdateOf r.vertices c.args.second) (sym c.self.view_is) c.requires.second in
    let are = c.update_set.ensures.are s.vertices (rw (c.make_room.ensures.names, c.make_room.ensures.members, c.make_room.ensures.sizes) c.self.invariant) first in
    c.update_set-2.ensures.are s.vertices are second
