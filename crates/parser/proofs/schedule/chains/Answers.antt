-- Proofs of `chains`, src/schedule.rt.
use Rattle.std.proofs.Common.{ap}
use Rattle.std.proofs.lemmas.Result.{err_from_is_err_and}
use Rattle.lexer.specs.declared.keyword.Keyword.TheVariants as keyword
use Rattle.syntax.specs.Terminals.{OfKeyword}
use Rattle.parser.specs.inside.Readers.{terminals}
use Rattle.syntax.specs.ExpressionReading.{after_by}
use Rattle.parser.proofs.Faults.{passed_on}
use Rattle.syntax.proofs.Loops.{goes_end, goes_fails, after_found, after_fails, below}
use Rattle.syntax.specs.SourceReading.{chain_at, after_terminal}
use Rattle.syntax.specs.SourceViews.{chain_tree}
use Rattle.parser.specs.inside.Views.{each}
use Rattle.parser.proofs.Lists.{list_start, list_step}
use Rattle.parser.proofs.schedule.chains.Goals as goal

pub chains-init : goal.chains-init
chains-init c = list_start chain_tree c.new-chains.result.items (terminals c.args.cursor) c.new-chains.ensures.items

pub chains-preserved : goal.chains-preserved
chains-preserved c =
    list_step chain_tree c.chains.chains.items _ c.in_ok-chain.chain (terminals c.in_ok-chain.behind) c.in_ok-push.ensures.items c.chains.invariant
    (after_found chain_at (terminals c.in-Some.after) (terminals c.in_ok-chain.behind) (chain_tree c.in_ok-chain.chain)
    (after_terminal (OfKeyword keyword.Program) (terminals c.chains.left)) c.in-Some.ensures.behind c.in_ok-chain.ensures.reads)
    (below _ _ _ c.in_ok-chain.ensures.shorter c.in-Some.ensures.shorter)

pub returns-in_err-chain : goal.returns-in_err-chain
returns-in_err-chain c =
    let p = err_from_is_err_and c.from_residual.result c.from_residual.ensures.1 in
    rw (p.1, p.2) (passed_on chain_tree (each chain_tree) c.in_err-chain.field-0.0 _ _ c.in_err-chain.ensures.reads
    (λ none. goes_fails c.chains.invariant (after_fails chain_at (terminals c.in-Some.after) (after_terminal (OfKeyword keyword.Program) (terminals c.chains.left)) c.in-Some.ensures.behind none)))

pub returns : goal.returns
returns c = goes_end c.chains.invariant (ap (after_by chain_at) c.in_default.ensures.behind)
