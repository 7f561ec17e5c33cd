-- Proofs of `from_members`, src/flags.rt.
use Rattle.std.proofs.Common.{◌≡◌, ◌∷◌, Contains, sym, subst, ◌∙◌}
use Rattle.vertex_sets.specs.inside.Words.{flag_members}
use Rattle.vertex_sets.proofs.Ascending.{one_done, all_done, contains_later}
use Rattle.vertex_sets.proofs.FlagMembers.{rises_flags}
use Rattle.vertex_sets.proofs.flags.FlagSet.from_members.Goals as goal

pub loop-vertex-preserved : goal.loop-vertex-preserved
loop-vertex-preserved c =
    let l = c.loop-vertex in
    let v = c.in-Some.vertex in
    let rest = c.next.new.self in
    let first : l.vertex-iterator ≡ v ∷ rest = c.in-Some.ensures.steps in
    record {
      vertices = c.insert.ensures.vertices ∙ l.invariant.vertices;
      below = λ u is. l.invariant.below u (subst (λ xs. Contains xs u) (sym first) (contains_later v u rest is));
      members = one_done v c.args.members (flag_members 0 l.set.flags.items) (flag_members 0 c.insert.new.self.flags.items) l.vertex-iterator rest first l.invariant.members c.insert.ensures.added;
    }

pub returns-clause-members : goal.returns-clause-members
returns-clause-members c =
    let l = c.loop-vertex in
    let done = flag_members 0 l.set.flags.items in
    all_done c.args.vertices c.args.members done l.vertex-iterator c.in-None.ensures.steps.0 l.invariant.members c.requires (rises_flags 0 l.set.flags.items)
