-- Proofs of `whole_changes`, src/whole_changes.rt.
use Rattle.std.proofs.Common.{◌≡◌, ◌+◌, ◌*◌, min, ℕ, pos, get_or, sym, ap, ◌∙◌, arith}
use Rattle.vectors.specs.Lanes.{lane_entry}
use Rattle.edge_fold.specs.Changed.{changed_from}
use Rattle.edge_fold.proofs.ChangedRows.{none_yet}
use Rattle.edge_fold.proofs.ChangedWords.{block_more}
use Rattle.edge_fold.proofs.whole_changes.whole_changes.Goals as goal

pub rounds-init : goal.rounds-init
rounds-init c =
    let a = c.args in
    let old = lane_entry a.old in
    let new = λ (v : ℕ). get_or a.new.now v (pos 0) in
    let none : min (64 * 0) a.vertices ≡ 0 = omega arith in
    c.new-changes.ensures.items ∙ sym (ap (λ n. changed_from old new 0 n) none ∙ none_yet old new)

pub rounds-preserved : goal.rounds-preserved
rounds-preserved c =
    let a = c.args in
    let block = c.rounds.block in
    let old = lane_entry a.old in
    let new = λ (v : ℕ). get_or a.new.now v (pos 0) in
    block_more old new (64 * block) _ (min (64 * block) a.vertices) (min (64 * (block + 1)) a.vertices) c.rounds.changes.items c.push_block.new.changes.items c.rounds.invariant (omega arith)
    c.in_ok-push_block.ensures (omega arith)

pub returns : goal.returns
returns c =
    let a = c.args in
    let all : min (64 * c.rounds.block) a.vertices ≡ a.vertices = omega arith in
    c.rounds.invariant ∙ ap (λ n. changed_from (lane_entry a.old) (λ (v : ℕ). get_or a.new.now v (pos 0)) 0 n) all
