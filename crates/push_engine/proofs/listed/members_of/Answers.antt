-- Proofs of `members_of`, src/listed.rt.
use Rattle.std.proofs.Common.{◌++◌, ℕ, List, ap, ◌∙◌, sym, subst}
use Rattle.vertex_sets.proofs.Ascending.{rises}
use Rattle.edge_apply.specs.inside.Lists.{AscendsFrom}
use Rattle.edge_apply.proofs.Listed.{all_found, ascends, one_more_found}
use Rattle.push_engine.proofs.listed.members_of.Goals as goal

pub members-init : goal.members-init
members-init c =
    ap (λ (us : List ℕ). us ++ c.into_iter-member-iterator.result) c.new-found.ensures.items ∙ c.into_iter-member-iterator.ensures.into_iter_gives ∙ c.iter-member-items.ensures.members

pub members-preserved : goal.members-preserved
members-preserved c =
    one_more_found c.members.found.items c.push.new.self.items c.args.set.now.members c.members.member-iterator c.next.new.self c.in-Some.member c.in_ok-push.ensures.items c.in-Some.ensures.steps
    c.members.invariant

pub returns-clause-ascending : goal.returns-clause-ascending
returns-clause-ascending c =
    let set = c.args.set.now in
    subst (λ (us : List ℕ). AscendsFrom 0 us) (sym (all_found c.members.found.items set.members c.members.member-iterator c.in-None.ensures.steps.0 c.members.invariant))
    (ascends 0 set.members (rises set.vertices set.members c.iter-member-items.ensures.valid))

pub returns-clause-members : goal.returns-clause-members
returns-clause-members c = all_found c.members.found.items c.args.set.now.members c.members.member-iterator c.in-None.ensures.steps.0 c.members.invariant
