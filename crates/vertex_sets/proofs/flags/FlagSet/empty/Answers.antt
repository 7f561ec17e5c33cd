-- Proofs of `empty`, src/flags.rt.
use Rattle.std.proofs.Common.{◌≡◌, [], false, length, replicate, ap, sym, ◌∙◌, rules}
use Rattle.vertex_sets.specs.inside.Words.{flag_members}
use Rattle.vertex_sets.proofs.FlagMembers.{flags_none}
use Rattle.vertex_sets.proofs.flags.FlagSet.empty.Goals as goal

pub invariant_of-result : goal.invariant_of-result
invariant_of-result c =
    let is : c.in_ok-flags.flags.items ≡ replicate c.args.vertices false = search rules in
    let none : flag_members 0 c.in_ok-flags.flags.items ≡ [] = ap (flag_members 0) is ∙ flags_none 0 c.args.vertices in
    record { counted = sym (ap length none) }
