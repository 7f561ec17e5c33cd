-- Proofs of `fold_block`, src/destinations.rt.
use Rattle.std.proofs.Common.{rules, ◌≡◌, ◌+◌, ◌-◌, ◌*◌, ◌/◌, ◌++◌, ℕ, List, [], ◌∷◌, bit_and, refl, sym, ap, ◌∙◌, subst, arith}
use Rattle.std.proofs.lemmas.List.{append-nil}
use Rattle.std.specs.List.{filter, range_with_len}
use lib.Count.{count_trailing_zeros}
use Rattle.weighted_edges.specs.Edge.{Edge}
use Rattle.vertex_sets.specs.inside.Words.{bit_members}
use Rattle.vertex_sets.proofs.BitMembers.{bits_lowest, bits_none}
use Rattle.edge_fold.proofs.Walks.{FoldsMore, folded_along, walk_begun, walk_done, walk_more}
use Rattle.edge_apply.specs.Words.{passes_words}
use Rattle.pull_engine.specs.Columns.{columns}
use Rattle.pull_engine.specs.inside.Words.{in_word}
use Rattle.pull_engine.proofs.BlockColumns.{columns_begun, no_columns, one_destination}
use Rattle.pull_engine.proofs.ColumnFolds.{columns-append}
use Rattle.pull_engine.proofs.destinations.fold_block.Goals as goal

pub returns-in_default : goal.returns-in_default
returns-in_default c m steps edges are has =
    let a = c.args in
    let from = passes_words a.input.from in
    let es = a.input.flat.now.edges in
    let k = a.block in
    folded_along a.input.context m steps edges (edges ++ columns from es (filter (in_word (64 * k) a.word) (range_with_len (64 * k) 64))) a.scratch.now
    (sym (append-nil edges)
    ∙ ap (λ (ks : List Edge). edges ++ ks) (no_columns from (in_word (64 * k) a.word) es (64 * k) 64 (λ v l b. let place : v / 64 ≡ k = omega (arith, l, b) in sym (c.in_default.ensures v place))))
    has

pub vertices-init : goal.vertices-init
vertices-init c =
    let a = c.args in
    let lines = columns (passes_words a.input.from) a.input.flat.now.edges in
    let all = bit_members 64 (64 * a.block) (bit_and a.word c.present_in.result) in (
      all,
      columns_begun (passes_words a.input.from) a.input.flat.now.edges a.block a.word c.present_in.result c.in-Some.found.now
          c.in-Some.ensures c.present_in.ensures,
      walk_begun a.input.context lines all a.scratch.now refl,
    )

pub vertices-preserved : goal.vertices-preserved
vertices-preserved c =
    let a = c.args in
    let from = passes_words a.input.from in
    let es = a.input.flat.now.edges in
    let w = c.vertices.invariant in
    let left = c.vertices.left in
    let first = 64 * a.block in
    let bit = count_trailing_zeros 64 left in
    let at : a.block * 64 + bit ≡ first + bit = omega arith in
    let then = c.fold_column.new.scratch in (
      w.0,
      w.1,
      walk_more a.input.context (columns from es) w.0 (bit_members 64 first left) ((first + bit) ∷ []) (bit_members 64 first (bit_and left (left - 1))) a.scratch.now c.vertices.scratch then
          (columns-append from es) (sym (bits_lowest 64 first left (omega arith) (search rules)))
          (subst (λ (v : ℕ). FoldsMore a.input.context (columns from es (v ∷ [])) c.vertices.scratch then) at
          (one_destination a.input.context from es (a.block * 64 + bit) c.vertices.scratch then c.in_ok-fold_column.ensures)) w.2,
    )

pub returns : goal.returns
returns c m steps edges are has =
    let a = c.args in
    let lines = columns (passes_words a.input.from) a.input.flat.now.edges in
    let w = c.vertices.invariant in
    let first = 64 * a.block in
    let zero : c.vertices.left ≡ 0 = omega arith in
    let none = ap (bit_members 64 first) zero ∙ bits_none 64 first in
    folded_along a.input.context m steps (edges ++ lines w.0) _ c.vertices.scratch (ap (λ (ks : List Edge). edges ++ ks) w.1)
    (walk_done a.input.context lines w.0 (bit_members 64 first c.vertices.left) a.scratch.now c.vertices.scratch none w.2 m steps edges are has)
