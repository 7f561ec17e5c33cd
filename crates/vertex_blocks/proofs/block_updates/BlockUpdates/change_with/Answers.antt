-- Proofs of `change_with`, src/block_updates.rt.
use Rattle.std.proofs.Common.{subst}
use Rattle.std.specs.Option.{option_copied}
use Rattle.std.proofs.lemmas.Result.{IfOk-weaker}
use Rattle.vertex_blocks.specs.Changes.{IsBlockAfter}
use Rattle.vertex_blocks.specs.inside.Steps.{list_after}
use Rattle.vertex_blocks.proofs.Carrying.{built_apart}
use Rattle.vertex_blocks.proofs.Updating.{block_after}
use Rattle.vertex_blocks.proofs.block_updates.BlockUpdates.change_with.Goals as goal

pub into_block-requires : goal.into_block-requires
into_block-requires c =
    let made = c.in_ok-build.field-0 in
    built_apart (list_after c.self.inside.updates (option_copied c.args.old)) 64 made.page made.long c.in_ok-build.ensures

pub returns : goal.returns
returns c =
    let made = c.in_ok-build.field-0 in
    let old = option_copied c.args.old in
    IfOk-weaker c.into_block.result _ _ (λ new is. subst (λ v. IsBlockAfter v old new) c.self.view_is
    (block_after c.self.inside.updates old c.self.inside.chunk_size made.page made.long new c.in_ok-build.ensures is)) c.into_block.ensures
