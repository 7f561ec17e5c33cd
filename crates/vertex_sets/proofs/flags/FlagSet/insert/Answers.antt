-- Proofs of `insert`, src/flags.rt.
use Rattle.std.proofs.Common.{◌≡◌, true, false, get_or, sym, ◌∙◌, arith, rules}
use Rattle.std.proofs.lemmas.List.{get_or_default}
use Rattle.vertex_sets.proofs.Ascending.{one_again}
use Rattle.vertex_sets.specs.inside.Words.{flag_members}
use Rattle.vertex_sets.proofs.FlagMembers.{flag_members_has, flags_set, one_more_flag, length_flags}
use Rattle.vertex_sets.proofs.flags.FlagSet.insert.Goals as goal

pub overflow_add-self : goal.overflow_add-self
overflow_add-self c =
    let flags = c.args.self.now.flags.items in
    omega (arith, c.args.self.now.counted, length_flags 0 flags, c.requires.room)

pub invariant_of-self : goal.invariant_of-self
invariant_of-self c =
    let flags = c.args.self.now.flags.items in
    let off : get_or flags c.args.vertex false ≡ false = search rules in
    record { counted = omega (arith, c.args.self.now.counted, one_more_flag 0 c.args.vertex flags c.requires.within off) }

pub returns-then-not-index-clause-added : goal.returns-then-not-index-clause-added
returns-then-not-index-clause-added c = flags_set c.args.self.now.flags.items c.args.vertex c.requires.within

pub returns-else-not-index-clause-added : goal.returns-else-not-index-clause-added
returns-else-not-index-clause-added c =
    let flags = c.args.self.now.flags.items in
    let on : get_or flags c.args.vertex false ≡ true =
    get_or_default flags c.args.vertex false c.index.result.now c.requires.within ∙ sym c.index.ensures ∙ c.if-not-index.false in
    one_again c.args.vertex (flag_members 0 flags) ((flag_members_has flags c.args.vertex).1 on)
