-- Proofs of `put_chains`, src/schedule.rt.
use Rattle.std.proofs.Common.{map}
use Rattle.syntax.specs.SourceSpelling.{each_before, chain_before}
use Rattle.syntax.specs.SourceViews.{chain_tree}
use Rattle.source_text.proofs.Puts.{up_to_none, up_to_more, up_to_all, each_before-map}
use Rattle.source_text.proofs.schedule.put_chains.Goals as goal

pub chains-init : goal.chains-init
chains-init c =
    up_to_none (each_before chain_before (map chain_tree c.args.chains.now)) (λ x. chain_before (chain_tree x)) c.args.chains.now c.args.out.now.items
    (each_before-map chain_tree chain_before c.args.chains.now)

pub chains-preserved : goal.chains-preserved
chains-preserved c =
    up_to_more _ (λ x. chain_before (chain_tree x)) c.args.chains.now c.chains.chain-index c.chain-item.result c.chain-item.result c.args.out.now.items c.chains.out.items c.put_chain.new.out.items
    c.chains.invariant c.chains-test.true c.chain-item.is c.in_ok-put_chain.ensures

pub returns : goal.returns
returns c =
    up_to_all _ (λ x. chain_before (chain_tree x)) c.args.chains.now c.chains.chain-index c.args.out.now.items c.chains.out.items c.chains.invariant c.chains-test.false
