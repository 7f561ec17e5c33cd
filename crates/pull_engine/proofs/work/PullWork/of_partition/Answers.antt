-- Proofs of `of_partition`, src/work.rt.
use Rattle.std.proofs.Common.{rules}
use Rattle.edge_apply.specs.Words.{passes_words}
use Rattle.pull_engine.specs.inside.Sources.{is_source}
use Rattle.pull_engine.proofs.Masking.{mask_alike}
use Rattle.pull_engine.proofs.work.PullWork.of_partition.Goals as goal

pub invariant_of-result : goal.invariant_of-result
invariant_of-result c = record {
  whole = search rules;
  form = search rules;
  passing = search rules;
  member_bits = c.in_ok-members.ensures;
  shaped = search rules;
  mask = mask_alike c.apply_shape-shape.result c.args.apply.now.vectors.now.vectors (passes_words c.words.result)
      (is_source c.in_ok-sources.sources) c.in_ok-masked.masked.items c.words.ensures c.in_ok-masked.ensures;
}
