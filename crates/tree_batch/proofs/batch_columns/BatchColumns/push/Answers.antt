-- Proofs of `push`, src/batch_columns.rt.
use Rattle.std.proofs.Common.{◌≡◌, ◌++◌, ◌∷◌, [], List, ℤ, length, refl, ap, ◌∙◌, arith, rules, w64}
use Rattle.std.proofs.lemmas.Int.{to_z-of_z}
use Rattle.tree_batch.specs.declared.batch_columns.EntryNumbers.{EntryNumbers}
use Rattle.tree_batch.specs.inside.BatchColumns.{entries_from, numbers_of}
use Rattle.tree_batch.specs.inside.Weights.{weights_in}
use Rattle.tree_batch.proofs.BatchColumns.{columns_kept, columns_pushed, on_err}
use Rattle.tree_batch.proofs.batch_columns.BatchColumns.push.Goals as goal

pub returns-in_err-put_kind-clause-err : goal.returns-in_err-put_kind-clause-err
returns-in_err-put_kind-clause-err c =
    let ws : List ℤ = weights_in c.self.inside.weights in
    let end : c.len-index.result ≡ length c.self.inside.numbers.items = omega (arith, c.len-index.ensures) in
    on_err c.from_residual.result (columns_kept c.len-index.result c.self.inside.numbers.items c.self.inside.kinds.items c.put_kind.new.kinds.items ws ws c.args.self.now
    end c.put_kind.ensures.before (λ j lt. refl) c.self.view_is)

pub returns-in_err-put-clause-err : goal.returns-in_err-put-clause-err
returns-in_err-put-clause-err c =
    let end : c.len-index.result ≡ length c.self.inside.numbers.items = omega (arith, c.len-index.ensures) in
    on_err c.from_residual-in_err-put.result (columns_kept c.len-index.result c.self.inside.numbers.items c.self.inside.kinds.items c.put_kind.new.kinds.items
    (weights_in c.self.inside.weights) (weights_in c.put.new.self) c.args.self.now end c.put_kind.ensures.before c.put.ensures.before c.self.view_is)

pub returns-in_err-push-clause-err : goal.returns-in_err-push-clause-err
returns-in_err-push-clause-err c =
    let end : c.len-index.result ≡ length c.self.inside.numbers.items = omega (arith, c.len-index.ensures) in
    on_err c.from_residual-in_err-push.result (ap (λ (ns : List EntryNumbers). entries_from 0 ns c.put_kind.new.kinds.items (weights_in c.put.new.self)) c.in_err-push.ensures.items
    ∙ columns_kept c.len-index.result c.self.inside.numbers.items c.self.inside.kinds.items c.put_kind.new.kinds.items
    (weights_in c.self.inside.weights) (weights_in c.put.new.self) c.args.self.now end c.put_kind.ensures.before c.put.ensures.before c.self.view_is)

pub returns-clause-ok : goal.returns-clause-ok
returns-clause-ok c =
    let ns : List EntryNumbers = c.self.inside.numbers.items in
    let x = c.args.entry in
    let end : c.len-index.result ≡ length ns = omega (arith, c.len-index.ensures) in
    columns_pushed c.len-index.result ns c.push.new.self.items c.self.inside.kinds.items c.put_kind.new.kinds.items (weights_in c.self.inside.weights) (weights_in c.put.new.self) x
    end (c.in_ok-push.ensures.items ∙ ap (λ (n : EntryNumbers). ns ++ n ∷ []) c.numbers_of.ensures)
    c.put_kind.ensures.before (c.in_ok-put_kind.ensures.put ∙ c.kind_of-kind.ensures) c.put.ensures.before (c.in_ok-put.ensures.put ∙ to_z-of_z w64 c.weight_of.result (search rules) ∙ c.weight_of.ensures)
    ∙ ap (λ xs. xs ++ x ∷ []) c.self.view_is
