-- The newest version after each step.
use Rattle.std.proofs.Common.{◌≡◌, ℕ, ◌+◌, List, [], ◌++◌, length, take, sym, ap, ap₂, ◌∙◌, subst}
use Rattle.std.proofs.lemmas.List.{append-nil}
use Rattle.std.specs.Arc.{arc_value}
use Rattle.tree_batch.specs.declared.batch.Entry.{Entry as Change}
use Rattle.tree_batch.specs.Digraph.{Digraph, graph_through}
use Rattle.version_list.specs.declared.prepared.Prepared.{Prepared}
use Rattle.version_list.specs.declared.step.Done.{Done}
use Rattle.version_list.specs.declared.step.Step.{Step}
use Rattle.version_list.specs.declared.step.Step.TheVariants.{Commit}
use Rattle.version_list.specs.declared.step.Reply.TheVariants.{Version}
use Rattle.version_list.specs.Machine.{State, committed_by, newest_number, reply_to, state_after}
use Rattle.version_list.specs.Prepared.{IsPrepared}
use Rattle.version_list.specs.Timeline.{IsAccepted, Timeline}
use Rattle.version_list.proofs.Commits.{opening_kept, step_adds}
use Rattle.shared_graph.specs.declared.newest_version.NewestVersion.{NewestVersion}
use Rattle.shared_graph.specs.Histories.{IsNewest}
use Rattle.shared_graph.specs.inside.Recent.{AreRecent, IsNewestVersion}
use Rattle.shared_graph.proofs.Steps.{newest_after_commit}

-- a step that commits nothing leaves the newest version
pub newest_stays : (s : State) (step : Step) (v : NewestVersion) → IsAccepted (reply_to s step) → committed_by step ≡ [] → IsNewestVersion s v → IsNewestVersion (state_after s step) v
newest_stays s step v accepted none is =
    let same : (state_after s step).batches ≡ s.batches =
    step_adds s step accepted ∙ ap (λ (bs : List (List Change)). s.batches ++ bs) none ∙ append-nil s.batches in
    let opening = opening_kept s step (reply_to s step) in
    record {
      newest = record {
        number_is = is.newest.number_is ∙ sym (ap length same);
        graph_is =
            is.newest.graph_is
            ∙ sym (ap₂ (λ (g : Digraph) (bs : List (List Change)). graph_through g (take v.snapshot.number bs)) opening same);
      };
      recent = subst (λ (bs : List (List Change)). AreRecent bs (arc_value v.recent)) (sym same) is.recent;
    }

-- a commit makes the version that was prepared the newest one
pub newest_made : (t : Timeline) (batch : List Change) (p : Prepared) (s : State) (v : NewestVersion) → t.state ≡ s → IsPrepared t batch p → v.snapshot.number ≡ p.number
    → arc_value v.snapshot.graph ≡ p.graph → AreRecent (s.batches ++ committed_by p.done.step) (arc_value v.recent) → IsNewestVersion (state_after s p.done.step) v
newest_made t batch p s v here ready number graph recent =
    let after : State = state_after s p.done.step in
    let made : IsNewest after p.number p.graph = newest_after_commit t batch p s here ready in
    let step_is : p.done.step ≡ Commit batch = ap (λ (d : Done). d.step) ready.done in
    let answer : reply_to s p.done.step ≡ Version (newest_number t.state + 1) =
    ap₂ reply_to (sym here) step_is ∙ ready.is_answer in
    let accepted : IsAccepted (reply_to s p.done.step) = subst IsAccepted (sym answer) tt in
    record {
      newest = subst (λ (k : ℕ). IsNewest after k (arc_value v.snapshot.graph)) (sym number) (subst (λ (g : Digraph). IsNewest after p.number g) (sym graph) made);
      recent = subst (λ (bs : List (List Change)). AreRecent bs (arc_value v.recent)) (sym (step_adds s p.done.step accepted)) recent;
    }

-- the number of a version that was prepared is one more than that of the newest
pub next_number : (t : Timeline) (batch : List Change) (p : Prepared) (s : State) → t.state ≡ s → IsPrepared t batch p → newest_number s + 1 ≡ p.number
next_number t batch p s here ready = sym (ready.number ∙ ap (λ (u : State). newest_number u + 1) here)
