-- A version beside that of a former run.
use Rattle.std.proofs.Common.{◌≡◌, ℕ, Bool, true, false, MatchBool, Option, Some, None, IfSome, Vec, Global, List, refl, sym, ap, ◌∙◌, subst, arith}
use Rattle.std.proofs.lemmas.List.{take_all}
use Rattle.std.specs.Prelude.{⊤}
use mathlib.Core.List.{IsPrefix}
use Rattle.tree_batch.specs.declared.batch.Entry.{Entry as Change}
use Rattle.tree_batch.specs.Digraph.{Digraph, empty_graph, graph_through}
use Rattle.tree_batch.specs.Edge.{Ends}
use Rattle.edge_differences.specs.Listed.{AreSameBut}
use Rattle.version_list.specs.Machine.{State, newest_graph, opened, version_graph}
use Rattle.version_list.specs.Timeline.{IsLegal}
use Rattle.version_list.proofs.Stepping.{newest_graph_is}
use Rattle.shared_graph.specs.declared.entry.Entry.{Entry}
use Rattle.shared_graph.specs.Differences.{AreEdgesSince}
use Rattle.shared_graph.specs.Histories.{batches_of, fold_of_first, state_at, steps_of, IsNewest, IsVersionOf}
use Rattle.shared_graph.proofs.Versions.{graph_at, newest_is, version_stays}
use Rattle.snapshot_runs.specs.inside.Beside.{AreAlikeBut}

-- the edges since a version of a history that was seen are those in which the newest version may differ from it
pub alike_but : (n room : ℕ) (shown history : List Entry) (k number : ℕ) (graph former : Digraph) (ends : List Ends) → IsLegal (opened n room) (steps_of shown)
    → IsNewest (state_at (opened n room) shown) number graph → IsPrefix history shown → IsVersionOf n history k former → AreEdgesSince (state_at (opened n room) shown) k ends
    → AreAlikeBut ends graph former
alike_but n room shown history k number graph former ends legal newest begins was since =
    let s : State = state_at (opened n room) shown in
    let still : IsVersionOf n shown k former = version_stays n history shown k former begins was in
    let old : version_graph s k ≡ former = graph_at n room shown k legal ∙ sym still.graph_is in
    let new : newest_graph s ≡ graph = sym (newest.graph_is ∙ ap (version_graph s) newest.number_is ∙ newest_graph_is s) in
    record {
      vertices = sym (sym (ap (λ (g : Digraph). g.vertices) new) ∙ since.vertices ∙ ap (λ (g : Digraph). g.vertices) old);
      edges = subst (λ (g : Digraph). AreSameBut ends g.edges former.edges) new (subst (λ (g : Digraph). AreSameBut ends (newest_graph s).edges g.edges) old since.edges);
    }

-- the newest version is one of the history shown
pub newest_version : (n room : ℕ) (shown : List Entry) (number : ℕ) (graph : Digraph) → IsLegal (opened n room) (steps_of shown) → IsNewest (state_at (opened n room) shown) number graph
    → IsVersionOf n shown number graph
newest_version n room shown number graph legal newest =
    let is = newest_is n room shown number graph legal newest in
    record {
      made = omega (arith, is.0);
      graph_is = is.1 ∙ sym (ap (λ (bs : List (List Change)). graph_through (empty_graph n) bs) (take_all number (batches_of shown) (omega (arith, is.0))));
    }

pub alike_given : (n room : ℕ) (shown history : List Entry) (k number : ℕ) (graph former : Digraph) (found : Option (Vec Ends Global)) → IsLegal (opened n room) (steps_of shown)
    → IsNewest (state_at (opened n room) shown) number graph → IsPrefix history shown → IsVersionOf n history k former
    → IfSome found (λ ends. AreEdgesSince (state_at (opened n room) shown) k ends.items) → IfSome found (λ ends. AreAlikeBut ends.items graph former)
alike_given n room shown history k number graph former None legal newest begins was since = tt
alike_given n room shown history k number graph former (Some ends) legal newest begins was since =
    alike_but n room shown history k number graph former ends.items legal newest begins was since

-- if one of two histories begins the other, a number is that of one version in both
pub one_version : (n : ℕ) (b : Bool) (first second : List Entry) (k m : ℕ) (a g : Digraph) → MatchBool b (IsPrefix first second) (IsPrefix second first) → k ≡ m
    → IsVersionOf n first k a → IsVersionOf n second m g → a ≡ g
one_version n true first second k m a g begins same was is =
    (version_stays n first second k a begins was).graph_is ∙ ap (fold_of_first n second) same ∙ sym is.graph_is
one_version n false first second k m a g begins same was is =
    was.graph_is ∙ ap (fold_of_first n first) same ∙ sym (version_stays n second first m g begins is).graph_is

-- what follows if a test holds
pub if_tested : {A P : Type 0} (b : Bool) → (b ≡ true → A) → (A → P) → MatchBool b P ⊤
if_tested true holds then = then (holds refl)
if_tested false holds then = tt
