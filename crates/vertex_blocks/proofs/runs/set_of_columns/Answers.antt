-- Proofs of `set_of_columns`, src/runs.rt.
use Rattle.std.proofs.Common.{◌≡◌, ◌++◌, ◌-◌, ℤ, List, pos, [], replicate, take, length, vec_len, refl, sym, ◌∙◌, ap, subst, arith, IfOk}
use Rattle.std.proofs.lemmas.Bool.{eqb-true}
use Rattle.std.proofs.lemmas.List.{nil_from_length}
use Rattle.edge_updates.specs.Weighted.{weighted}
use Rattle.c_tree.specs.Chunks.{IsSetOf}
use Rattle.vertex_blocks.proofs.Columns.{no_column, whole_column}
use Rattle.vertex_blocks.proofs.runs.set_of_columns.Goals as goal

pub make_set-requires : goal.make_set-requires
make_set-requires c =
    let ks = c.columns.result.0.now in
    let none : c.columns.result.1.now ≡ [] = nil_from_length c.columns.result.1.now (eqb-true _ _ (sym c.is_empty.ensures ∙ c.if-is_empty.true)) in
    let same : c.of_keys.result ≡ c.args.list.now = c.of_keys.ensures ∙ no_column ks ∙ ap (weighted ks) (sym none) ∙ c.columns.ensures in
    rw same c.requires

pub returns-then-is_empty : goal.returns-then-is_empty
returns-then-is_empty c =
    let ks = c.columns.result.0.now in
    let none : c.columns.result.1.now ≡ [] = nil_from_length c.columns.result.1.now (eqb-true _ _ (sym c.is_empty.ensures ∙ c.if-is_empty.true)) in
    let same : c.of_keys.result ≡ c.args.list.now = c.of_keys.ensures ∙ no_column ks ∙ ap (weighted ks) (sym none) ∙ c.columns.ensures in
    subst (λ es. IfOk c.make_set.result (IsSetOf es c.args.chunk_size)) same c.make_set.ensures

pub make_set-requires-2 : goal.make_set-requires-2
make_set-requires-2 c =
    let ks = c.columns.result.0.now in
    let ws = c.columns.result.1.now in
    let n = length ks in
    let m = vec_len c.in_ok-column.column in
    let whole : c.deref.result.now ≡ take n ws ++ replicate (n - m) (pos 1) =
    c.deref.ensures.value ∙ c.in_ok-resize.ensures.items ∙ ap (λ (xs : List ℤ). take n xs ++ replicate (n - m) (pos 1)) c.in_ok-column.ensures.items in
    let had : m ≡ length ws = omega (arith, c.in_ok-column.ensures.len) in
    let same : c.new.result ≡ c.args.list.now = c.new.ensures ∙ whole_column n m ks ws c.deref.result.now whole refl had ∙ c.columns.ensures in
    rw same c.requires

pub returns : goal.returns
returns c =
    let ks = c.columns.result.0.now in
    let ws = c.columns.result.1.now in
    let n = length ks in
    let m = vec_len c.in_ok-column.column in
    let whole : c.deref.result.now ≡ take n ws ++ replicate (n - m) (pos 1) =
    c.deref.ensures.value ∙ c.in_ok-resize.ensures.items ∙ ap (λ (xs : List ℤ). take n xs ++ replicate (n - m) (pos 1)) c.in_ok-column.ensures.items in
    let had : m ≡ length ws = omega (arith, c.in_ok-column.ensures.len) in
    let same : c.new.result ≡ c.args.list.now = c.new.ensures ∙ whole_column n m ks ws c.deref.result.now whole refl had ∙ c.columns.ensures in
    subst (λ es. IfOk c.make_set-2.result (IsSetOf es c.args.chunk_size)) same c.make_set-2.ensures
