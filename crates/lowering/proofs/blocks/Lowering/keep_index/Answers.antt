-- Proofs of `keep_index`, src/leaves.rt.
use Rattle.std.proofs.Common.{◌∙◌, rules}
use Rattle.lowering.proofs.blocks.Lowering.keep_index.Goals as goal

pub returns : goal.returns
returns c = record {
  kept = c.plain.result;
  is = search rules;
  at = c.len-index.ensures ∙ c.args.code.now.ok.0;
}
