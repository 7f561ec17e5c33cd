-- Proofs of `pull_block`, src/blocks.rt.
use Rattle.std.proofs.Common.{rules, ◌≡◌, ◌+◌, ◌*◌, ◌++◌, ℕ, ℤ, List, sym, ap, ◌∙◌, arith, FitsSigned, to_z, of_z, w64}
use Rattle.std.proofs.lemmas.Int.{to_z-of_z}
use Rattle.std.proofs.lemmas.List.{append-nil}
use lib.Count.{count_trailing_zeros}
use Rattle.pages.specs.Vertices.{neighbours_of}
use Rattle.vectors.specs.Lanes.{lane_entry}
use Rattle.edge_apply.specs.Words.{passes_words}
use Rattle.vertex_blocks.specs.Forms.{listed}
use Rattle.edge_fold.specs.EntryNumbers.{reduced_over}
use Rattle.pull_engine.specs.Columns.{passing}
use Rattle.pull_engine.specs.inside.Ranges.{pulled}
use Rattle.pull_engine.specs.inside.Words.{in_word}
use Rattle.pull_engine.proofs.BlockWalks.{block_begun, lowest_changed, no_block, none_left, vertex_changed}
use Rattle.pull_engine.proofs.blocks.pull_block.Goals.{in-Packed, in-Chunked}
use Rattle.pull_engine.proofs.blocks.pull_block.Goals as goal

pub returns-in_default : goal.returns-in_default
returns-in_default g c =
    let a = c.args in
    sym (ap (λ cs. a.changes.now.items ++ cs)
    (no_block (g.F.SourceFold.reduction a.fold.now) (g.F.SourceFold.number a.fold.now) (lane_entry a.pull.old) (passes_words a.pull.from)
    (in_word (64 * a.block) a.word) a.pull.flat.now.edges a.block c.in_default.ensures)
    ∙ append-nil a.changes.now.items)

pub vertices-init : goal.vertices-init
vertices-init g c =
    let a = c.args in
    ap (λ cs. a.changes.now.items ++ cs)
    (block_begun (g.F.SourceFold.reduction a.fold.now) (g.F.SourceFold.number a.fold.now) (lane_entry a.pull.old)
    (passes_words a.pull.from) a.pull.flat.now.edges a.block a.word c.present_in.result c.in-Some.found.now
    c.in-Some.ensures c.present_in.ensures)

pub vertices-preserved : goal.vertices-preserved
vertices-preserved g c =
    let a = c.args in
    let r = g.F.SourceFold.reduction a.fold.now in
    let number = g.F.SourceFold.number a.fold.now in
    let old = lane_entry a.pull.old in
    let from = passes_words a.pull.from in
    let edges = a.pull.flat.now.edges in
    let bit = count_trailing_zeros 64 c.vertices.left in
    let found = c.vertices.changes.items in
    let before = c.get-before.result in
    let came = to_z w64 c.match-into_form.number-bits in
    let known = to_z w64 (of_z w64 before) in
    let before_fits : FitsSigned w64 before = search rules in
    let reduced_by = λ (ss : List (ℕ × ℤ)). reduced_over r number known (passing from ss) in
    let stored = c.into_form.ensures ∙ c.neighbours.ensures in
    let gives : came ≡ reduced_by (neighbours_of bit c.in-Some.found.now) = elim c.match-into_form.branch [
      | in-Packed w ↦
          let fits : FitsSigned w64 w.fold_packed-number.result = search rules in
          w.number-is ∙ to_z-of_z w64 w.fold_packed-number.result fits ∙ w.fold_packed-number.ensures ∙ ap reduced_by (ap listed (sym w.in-Packed.is) ∙ stored)
      | in-Chunked w ↦
          let fits : FitsSigned w64 w.fold_chunked-number.result = search rules in
          w.number-is ∙ to_z-of_z w64 w.fold_chunked-number.result fits ∙ w.fold_chunked-number.ensures ∙ ap reduced_by (ap listed (sym w.in-Chunked.is) ∙ stored)
    ] in
    lowest_changed old (pulled r number old from edges) (64 * a.block) c.vertices.left found c.push_change.new.changes.items _ (omega arith) (search rules)
    (c.in_ok-push_change.ensures
    ∙ ap (λ cs. found ++ cs)
    (vertex_changed r number old from edges a.block bit (a.block * 64 + bit) c.in-Some.found.now known came (search rules) (omega arith)
    c.in-Some.ensures (to_z-of_z w64 before before_fits ∙ c.get-before.ensures) gives))
    c.vertices.invariant

pub returns : goal.returns
returns g c =
    let a = c.args in
    let r = g.F.SourceFold.reduction a.fold.now in
    let number = g.F.SourceFold.number a.fold.now in
    let old = lane_entry a.pull.old in
    none_left old (pulled r number old (passes_words a.pull.from) a.pull.flat.now.edges) (64 * a.block) c.vertices.left c.vertices.changes.items _ (omega arith) c.vertices.invariant
