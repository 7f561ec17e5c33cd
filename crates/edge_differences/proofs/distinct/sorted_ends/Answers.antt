-- Proofs of `sorted_ends`, src/distinct.rt.
use Rattle.std.proofs.Common.{◌≤◌, ℕ, List, length, sym, ap, ◌∙◌, subst}
use Rattle.std.proofs.lemmas.List.{take_all}
use Rattle.std.proofs.lemmas.List.Sorted.{IsNonDecreasingBy-from_sort, list_any-IsPermutation}
use Rattle.std.proofs.lemmas.Result.{IfOk-weaker}
use Rattle.std.specs.List.{list_any}
use Rattle.std.specs.List.Sorted.{IsNonDecreasing}
use Rattle.tree_batch.specs.Edge.{Ends}
use Rattle.edge_differences.specs.Listed.{is_listed}
use Rattle.edge_differences.specs.inside.Indices.{is_index_of}
use Rattle.edge_differences.proofs.distinct.sorted_ends.Goals as goal

pub distinct-requires : goal.distinct-requires
distinct-requires c =
    subst (λ (ks : List ℕ). IsNonDecreasing ks) (sym c.deref.ensures.value) (IsNonDecreasingBy-from_sort (λ x. x) c.sort_unstable.new.self.items c.sort_unstable.ensures.sorted)

pub returns-clause-listed : goal.returns-clause-listed
returns-clause-listed c =
    let ps = c.args.ends.now in
    let all : length ps ≤ c.ends.pair-index = c.ends-test.false in
    IfOk-weaker c.distinct.result _ _
    (λ sorted is u v.
    is u v
    ∙ ap (list_any (is_index_of u v)) c.deref.ensures.value
    ∙ sym (list_any-IsPermutation (is_index_of u v) c.ends.indices.items c.sort_unstable.new.self.items c.sort_unstable.ensures.permutation)
    ∙ sym (c.ends.invariant.listed u v)
    ∙ ap (λ (qs : List Ends). is_listed qs u v) (take_all c.ends.pair-index ps all))
    c.distinct.ensures.listed
