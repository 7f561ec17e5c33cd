-- Proofs of `fold_range`, src/destinations.rt.
use Rattle.std.proofs.Common.{◌≡◌, ◌+◌, ◌-◌, ◌*◌, ◌/◌, ◌≤◌, [], refl, ap, sym, ◌∙◌, subst, arith}
use Rattle.std.specs.List.{filter, range_with_len}
use Rattle.edge_fold.proofs.Walks.{folded_along}
use Rattle.edge_apply.specs.Words.{passes_words}
use Rattle.pull_engine.specs.declared.destination_words.DestinationWords.{DestinationWords}
use Rattle.pull_engine.specs.Columns.{columns}
use Rattle.pull_engine.specs.inside.Lets.{IsInBits, lets}
use Rattle.pull_engine.proofs.RangeCuts.{within}
use Rattle.pull_engine.proofs.BlockColumns.{block_folded, cut_range, range_begun, rows_agree}
use Rattle.pull_engine.proofs.destinations.fold_range.Goals as goal

pub rounds-init : goal.rounds-init
rounds-init c =
    let p = c.args.range in
    record {
      same = refl;
      folded = range_begun p.context (passes_words p.from) (within p.low p.high (lets c.in_ok-to.to)) p.flat.now.edges (64 * (p.low / 64)) (p.low / 64) c.begin.new.self;
    }

pub rounds-preserved : goal.rounds-preserved
rounds-preserved c =
    let p = c.args.range in
    let k = c.rounds.block in
    let order : p.low / 64 ≤ k = c.rounds.auto.block in
    let same = c.rounds.invariant.same in
    record {
      same = same;
      folded = block_folded p.context (passes_words p.from) (lets c.in_ok-to.to) p.flat.now.edges p.low p.high (p.low / 64) k c.range_word.result c.word.result
          c.begin.new.self c.rounds.scratch c.fold_block.new.scratch order c.range_word.ensures (λ v at. c.word.ensures v at ∙ ap (λ (t : DestinationWords). lets t v) same)
          c.in_ok-fold_block.ensures c.rounds.invariant.folded;
    }

pub word-requires-clause-bits : goal.word-requires-clause-bits
word-requires-clause-bits c = subst (λ (t : DestinationWords). IsInBits t) (sym c.rounds.invariant.same) c.in_ok-to.ensures.bits

pub returns : goal.returns
returns c m steps test are is =
    let p = c.args.range in
    let own = lets c.in_ok-to.to in
    let into = columns (passes_words p.from) p.flat.now.edges in
    let covered = c.blocks_below-stop.ensures.covered in
    let order = c.requires in
    let last : c.rounds.block ≡ c.blocks_below-stop.result = omega (arith, c.rounds-test.false, covered, order, c.rounds.auto.block, c.rounds.auto.block-end) in
    let begins : 64 * (p.low / 64) ≤ p.low = omega arith in
    let whole : p.low + (p.high - p.low) ≡ p.high = omega (arith, order) in
    folded_along p.context m steps _ (into (filter test (range_with_len p.low (p.high - p.low)))) c.rounds.scratch
    (ap into (rows_agree own test p.low (p.high - p.low) (λ v l k. sym (c.in_ok-to.ensures.end m test are.vectors are.sizes is v l (omega (arith, whole, k))))))
    (folded_along p.context m steps _ (into (filter own (range_with_len p.low (p.high - p.low)))) c.rounds.scratch
    (ap into (cut_range own (64 * (p.low / 64)) p.low p.high (64 * (c.rounds.block - p.low / 64)) begins order (omega (arith, covered, last))))
    (c.rounds.invariant.folded m steps [] are (c.begin.ensures _ m steps)))
