-- Proofs of `put_members`, src/sets.rt.
use Rattle.std.proofs.Common.{◌<◌, ◌≤◌, length, slice_set, ap, ◌∙◌, rules}
use Rattle.algorithm_meaning.specs.declared.state.SetBinding.{SetBinding}
use Rattle.algorithm_meaning.proofs.Members.{set_members_inside, set_members_outside}
use Rattle.plain_run.proofs.sets.put_members.Goals as goal

pub returns-then-index-len : goal.returns-then-index-len
returns-then-index-len c =
    let below : c.args.index < length c.args.sets.now.items = search rules in
    ap (λ (x : SetBinding). slice_set c.args.sets.now.items c.args.index (record { name = x.name; members = c.args.members })) c.index_mut-set.ensures.value
    ∙ set_members_inside c.args.sets.now.items c.args.index c.args.members c.index_mut-set.result.now below

pub returns-else-index-len : goal.returns-else-index-len
returns-else-index-len c =
    let outside : length c.args.sets.now.items ≤ c.args.index = search rules in
    set_members_outside c.args.sets.now.items c.args.index c.args.members outside
