use Rattle.std.proofs.Common.{map}
use Rattle.syntax.specs.SourceSpelling.{each_before, chain_before}
use Rattle.syntax.specs.SourceViews.{chain_tree}
use Rattle.source_text.specs.inside.Written.{PutsUpTo}
use Rattle.source_text.proofs.schedule.put_chains.Given as goal

abbrev pub invariant-chains : goal.invariant-chains
invariant-chains l = PutsUpTo (each_before chain_before (map chain_tree l.chains)) (λ x. chain_before (chain_tree x)) l.chains l.chain-index l.fn.out.items l.out.items
