-- Proofs of `commit_each`, src/racing.rt.
use Rattle.std.proofs.Common.{List, refl, arith, sym, subst}
use Rattle.std.proofs.lemmas.List.{nil_from_length}
use Rattle.tree_batch.specs.declared.batch.Entry.{Entry as Change}
use Rattle.version_list.specs.Machine.{opened}
use Rattle.races.proofs.Commits.{IsAnswering, answering_ends, answering_goes, answering_starts, is_answered}
use Rattle.races.proofs.racing.commit_each.Goals as goal

pub loop-batch-init : goal.loop-batch-init
loop-batch-init g c =
    let base = opened g.J.Naming.vertices g.J.Naming.room in
    let given = c.into_iter-batch-iterator.ensures.into_iter_gives.0 in (
      tt,
      tt,
      subst (λ (left : List (List Change)). IsAnswering base c.args.writer.now c.args.batches.items left c.in_ok-replies.replies.items c.args.writer.now) (sym given)
          (answering_starts base c.args.writer.now c.args.batches.items c.in_ok-replies.replies.items c.in_ok-replies.ensures.items),
    )

pub loop-batch-preserved : goal.loop-batch-preserved
loop-batch-preserved g c =
    let base = opened g.J.Naming.vertices g.J.Naming.room in (
      tt,
      tt,
      answering_goes base c.args.writer.now c.args.batches.items _ _ _ _ _ c.loop-batch.writer _
          (subst (λ (left : List
          (List Change)). IsAnswering base c.args.writer.now c.args.batches.items left c.loop-batch.replies.items c.loop-batch.writer) c.in-Some.ensures.steps.0 c.loop-batch.invariant.2)
          (is_answered base c.loop-batch.writer _ _ _ _ _ c.commit-committed.ensures c.in_ok-reply.ensures refl) c.in_ok-push.ensures.items,
    )

pub returns : goal.returns
returns g c =
    answering_ends
    (opened g.J.Naming.vertices g.J.Naming.room) c.args.writer.now c.args.batches.items c.loop-batch.batch-iterator.rest.items c.loop-batch.replies.items c.loop-batch.writer c.loop-batch.invariant.2
    (nil_from_length c.loop-batch.batch-iterator.rest.items (omega (arith, c.in-None.ensures.steps.0, c.loop-batch.batch-iterator.rest.ok.0)))
