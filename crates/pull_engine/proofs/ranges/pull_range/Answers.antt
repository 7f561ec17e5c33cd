-- Proofs of `pull_range`, src/ranges.rt.
use Rattle.std.proofs.Common.{◌≡◌, ◌-◌, ◌*◌, ◌/◌, ◌≤◌, ℤ, List, refl, sym, ap, ◌∙◌, subst, arith}
use Rattle.kernels.specs.Value.{entry}
use Rattle.vectors.specs.Lanes.{lane_entry}
use Rattle.edge_apply.specs.Words.{passes_words}
use Rattle.edge_fold.specs.Changed.{changed_from}
use Rattle.pull_engine.specs.declared.destination_words.DestinationWords.{DestinationWords}
use Rattle.pull_engine.specs.inside.Lets.{IsInBits, lets}
use Rattle.pull_engine.specs.inside.Ranges.{pulled_to}
use Rattle.pull_engine.proofs.RangeCuts.{within, block_more, blocks_begun, range_whole}
use Rattle.pull_engine.proofs.ranges.pull_range.Goals as goal

pub rounds-init : goal.rounds-init
rounds-init g c =
    let a = c.args in
    let old = lane_entry c.lane.result in (
      refl,
      c.new-changes.ensures.items
          ∙ blocks_begun old (pulled_to (g.F.SourceFold.reduction a.fold.now) (g.F.SourceFold.number a.fold.now) old (passes_words a.range.from)
          (within a.range.low a.range.high (lets c.in_ok-to.to)) a.range.flat.now.edges)
          (64 * (a.range.low / 64)) (a.range.low / 64),
    )

pub rounds-preserved : goal.rounds-preserved
rounds-preserved g c =
    let a = c.args in
    let k = c.rounds.block in
    let order : a.range.low / 64 ≤ k = c.rounds.auto.block in
    let same = c.rounds.invariant.0 in (
      same,
      block_more (g.F.SourceFold.reduction a.fold.now) (g.F.SourceFold.number a.fold.now) (lane_entry c.lane.result) (passes_words a.range.from) (lets c.in_ok-to.to) a.range.flat.now.edges
          a.range.low a.range.high (a.range.low / 64) k c.range_word.result c.word.result c.rounds.changes.items c.pull_block.new.changes.items
          order c.range_word.ensures (λ v at. c.word.ensures v at ∙ ap (λ (t : DestinationWords). lets t v) same) c.in_ok-pull_block.ensures c.rounds.invariant.1,
    )

pub word-requires-clause-bits : goal.word-requires-clause-bits
word-requires-clause-bits g c = subst (λ (t : DestinationWords). IsInBits t) (sym c.rounds.invariant.0) c.in_ok-to.ensures.bits

pub returns : goal.returns
returns g c m test vectors sizes is =
    let a = c.args in
    let p = a.range in
    let r = g.F.SourceFold.reduction a.fold.now in
    let number = g.F.SourceFold.number a.fold.now in
    let lane = lane_entry c.lane.result in
    let lets = lets c.in_ok-to.to in
    let stop = c.blocks_below-stop.result in
    let covered = c.blocks_below-stop.ensures.covered in
    let last : c.rounds.block ≡ stop = omega (arith, c.rounds-test.false, covered, c.requires.order, c.rounds.auto.block, c.rounds.auto.block-end) in
    range_whole r number lane (entry m.vectors a.vector) (passes_words p.from) lets test p.flat.now.edges p.low p.high stop c.rounds.changes.items c.requires.order covered
    (λ v. c.lane.ensures v ∙ ap (λ (vs : List (List ℤ)). entry vs a.vector v) vectors) (c.in_ok-to.ensures.end m test vectors sizes is)
    (c.rounds.invariant.1
    ∙ ap (λ n. changed_from lane (pulled_to r number lane (passes_words p.from) (within p.low p.high lets) p.flat.now.edges) (64 * (p.low / 64)) (64 * (n - p.low / 64))) last)
