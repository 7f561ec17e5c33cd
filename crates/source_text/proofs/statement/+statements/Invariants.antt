use Rattle.syntax.specs.SourceSpelling.{block_before}
use Rattle.syntax.specs.SourceViews.{block_tree}
use Rattle.source_text.specs.inside.Written.{PutsUpTo}
use Rattle.source_text.proofs.Puts.{statement_before}
use Rattle.source_text.proofs.statement.+statements.Given as goal

abbrev pub invariant-put_block-block : goal.invariant-put_block-block
invariant-put_block-block l = PutsUpTo (block_before (block_tree l.block)) statement_before l.block l.statement-index l.fn.out.items l.out.items
