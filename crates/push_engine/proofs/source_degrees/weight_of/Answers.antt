-- Proofs of `weight_of`, src/source_degrees.rt.
use Rattle.std.proofs.Common.{◌≡◌, ◌*◌, length, ap, ◌∙◌, arith}
use Rattle.std.proofs.lemmas.List.FromFn.{length-range_with_len}
use Rattle.push_engine.proofs.SourceTotals.{block_weight}
use Rattle.push_engine.proofs.source_degrees.weight_of.Goals as goal

pub returns-in-Some-clause-weight : goal.returns-in-Some-clause-weight
returns-in-Some-clause-weight c =
    block_weight c.args.flat.now c.args.run.now c.in-Some.block c.edges_from.result c.in-Some.ensures c.edges_from.ensures.total

pub returns-in-Some-clause-few : goal.returns-in-Some-clause-few
returns-in-Some-clause-few c =
    let count : length c.args.run.now ≡ 64 = ap length c.in-Some.ensures ∙ length-range_with_len (64 * c.in-Some.block) 64 in
    let few = c.edges_from.ensures.few in
    omega (arith, count, few)
