-- Proofs of `full`, src/flags.rt.
use Rattle.std.proofs.Common.{◌≡◌, true, length, replicate, ap, sym, ◌∙◌, rules}
use Rattle.std.proofs.lemmas.List.FromFn.{length-range_with_len}
use Rattle.vertex_sets.specs.VertexSet.{all_vertices}
use Rattle.vertex_sets.specs.inside.Words.{flag_members}
use Rattle.vertex_sets.proofs.FlagMembers.{flags_all}
use Rattle.vertex_sets.proofs.flags.FlagSet.full.Goals as goal

pub invariant_of-result : goal.invariant_of-result
invariant_of-result c =
    let is : c.in_ok-flags.flags.items ≡ replicate c.args.vertices true = search rules in
    let all : flag_members 0 c.in_ok-flags.flags.items ≡ all_vertices c.args.vertices = ap (flag_members 0) is ∙ flags_all 0 c.args.vertices in
    record { counted = sym (ap length all ∙ length-range_with_len 0 c.args.vertices) }

pub returns-clause-members : goal.returns-clause-members
returns-clause-members c =
    let is : c.in_ok-flags.flags.items ≡ replicate c.args.vertices true = search rules in
    ap (flag_members 0) is ∙ flags_all 0 c.args.vertices
