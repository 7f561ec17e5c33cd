-- Proofs of `fold_block`, src/sources.rt.
use Rattle.std.proofs.Common.{rules, ◌≡◌, ◌+◌, ◌-◌, ◌*◌, ◌/◌, ◌<◌, ◌++◌, ℕ, List, [], ◌∷◌, bit_and, w64, refl, sym, ap, ◌∙◌, subst, arith}
use Rattle.std.proofs.lemmas.List.{append-nil}
use Rattle.std.proofs.lemmas.Nat.Bits.{bit_at-trailing_zeros}
use Rattle.std.specs.List.{filter, range_with_len}
use lib.Count.{count_trailing_zeros}
use Rattle.weighted_edges.specs.Edge.{Edge}
use Rattle.vertex_sets.specs.inside.Words.{bit_members}
use Rattle.vertex_sets.proofs.BitMembers.{bits_lowest, bits_none}
use Rattle.edge_fold.proofs.Walks.{FoldsMore, folded_along, walk_begun, walk_done, walk_more}
use Rattle.edge_apply.specs.Words.{passes_words}
use Rattle.push_engine.specs.inside.Rows.{rows_to}
use Rattle.push_engine.proofs.BlockRows.{block_begun, no_rows_from, row_of_block}
use Rattle.push_engine.proofs.RowFolds.{rows_to-append}
use Rattle.push_engine.proofs.Walked.{one_source}
use Rattle.push_engine.proofs.sources.fold_block.Goals as goal

pub returns-in_default : goal.returns-in_default
returns-in_default c m steps edges are has =
    let a = c.args in
    let test = passes_words a.words in
    let es = a.input.flat.now.edges in
    let k = a.number in
    folded_along a.input.context m steps edges (edges ++ rows_to (passes_words a.input.to) es (filter test (range_with_len (64 * k) 64))) a.scratch.now
    (sym (append-nil edges)
    ∙ ap (λ (ks : List Edge). edges ++ filter (λ e. passes_words a.input.to e.1) ks)
    (no_rows_from test es (64 * k) 64 (λ v l b. let place : v / 64 ≡ k = omega (arith, l, b) in sym (c.in_default.ensures v place))))
    has

pub vertices-init : goal.vertices-init
vertices-init c =
    let a = c.args in
    let to = passes_words a.input.to in
    let es = a.input.flat.now.edges in
    let all = bit_members 64 (64 * a.number) (bit_and c.word_at.result c.present_in.result) in (
      all,
      ap (filter (λ (e : Edge). to e.1))
          (block_begun (passes_words a.words) es a.number c.word_at.result c.present_in.result c.in-Some.found.now c.word_at.ensures c.in-Some.ensures c.present_in.ensures),
      walk_begun a.input.context (rows_to to es) all a.scratch.now refl,
    )

pub vertices-preserved : goal.vertices-preserved
vertices-preserved c =
    let a = c.args in
    let to = passes_words a.input.to in
    let es = a.input.flat.now.edges in
    let w = c.vertices.invariant in
    let left = c.vertices.left in
    let first = 64 * a.number in
    let bit = count_trailing_zeros 64 left in
    let at : a.number * 64 + bit ≡ first + bit = omega arith in
    let source = a.number * 64 + bit in
    let low : count_trailing_zeros 64 left < 64 = (bit_at-trailing_zeros w64 left (omega arith) (search rules)).0 in
    let place : source / 64 ≡ a.number = omega (arith, low) in
    let then = c.fold_row.new.scratch in (
      w.0,
      w.1,
      walk_more a.input.context (rows_to to es) w.0 (bit_members 64 first left) ((first + bit) ∷ []) (bit_members 64 first (bit_and left (left - 1))) a.scratch.now c.vertices.scratch then
          (rows_to-append to es) (sym (bits_lowest 64 first left (omega arith) (search rules)))
          (subst (λ (v : ℕ). FoldsMore a.input.context (rows_to to es (v ∷ [])) c.vertices.scratch then) at
          (one_source a.input.context to es source c.vertices.scratch then
          (row_of_block a.input.context to es source c.in-Some.found.now c.vertices.scratch then (c.in-Some.ensures source place) c.in_ok-fold_row.ensures))) w.2,
    )

pub returns : goal.returns
returns c m steps edges are has =
    let a = c.args in
    let rows_of = rows_to (passes_words a.input.to) a.input.flat.now.edges in
    let w = c.vertices.invariant in
    let first = 64 * a.number in
    let zero : c.vertices.left ≡ 0 = omega arith in
    let none = ap (bit_members 64 first) zero ∙ bits_none 64 first in
    folded_along a.input.context m steps (edges ++ rows_of w.0) _ c.vertices.scratch (ap (λ (ks : List Edge). edges ++ ks) w.1)
    (walk_done a.input.context rows_of w.0 (bit_members 64 first c.vertices.left) a.scratch.now c.vertices.scratch none w.2 m steps edges are has)
