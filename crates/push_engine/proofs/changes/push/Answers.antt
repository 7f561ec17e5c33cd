-- Proofs of `push`, src/changes.rt.
use Rattle.std.proofs.lemmas.Result.{IfOk-weaker}
use Rattle.std.proofs.Common.{ℕ, ◌&&◌, Bool, List, Option, ap, sym, ◌∙◌, subst, arith}
use Rattle.std.specs.List.{filter}
use Rattle.weighted_edges.specs.Edge.{Edge}
use Rattle.kernels.specs.EdgeApply.{after_edges}
use Rattle.kernels.specs.Value.{entry}
use Rattle.kernels.specs.declared.endpoint_filter.EndpointFilter.{EndpointFilter}
use Rattle.kernels.specs.declared.endpoint_filter.EndpointFilter.TheVariants as end
use Rattle.edge_fold.specs.declared.apply_context.ApplyContext.{ApplyContext}
use Rattle.edge_fold.specs.declared.scratch.Scratch.{Scratch}
use Rattle.edge_fold.specs.Between.{edges_between}
use Rattle.edge_fold.specs.Changed.{changed}
use Rattle.edge_fold.specs.Ends.{IsEndTest}
use Rattle.edge_fold.specs.Folded.{HasFolded}
use Rattle.edge_fold.proofs.Walks.{folded_along}
use Rattle.edge_apply.specs.Words.{passes_words}
use Rattle.edge_apply.proofs.Filtered.{between_same, to_agree}
use Rattle.push_engine.specs.inside.PushEnds.{passes_untested}
use Rattle.push_engine.proofs.EndTests.{bits_are_all, left_is_end}
use Rattle.push_engine.proofs.RowFolds.{between_tested}
use Rattle.push_engine.proofs.changes.push.Goals.{in-None+in_ok-fold_words-in-None, in-Some+in_ok-fold_end-in-Some}
use Rattle.push_engine.proofs.changes.push.Goals as goal

pub returns-clause-changes : goal.returns-clause-changes
returns-clause-changes c =
    IfOk-weaker c.changes.result _ _ (λ found told m steps from to vectors sizes kernels is_from is_to x r by long.
    let are = c.context-context.ensures.reads m steps (record { vectors = vectors; sizes = sizes; kernels = kernels }) in
    let count = ap (λ (f : ApplyContext). f.vertices) c.context-context.ensures.context in
    let starts = ap (λ (f : ApplyContext). f.start) c.context-context.ensures.context in
    let g = c.args.apply.now.flat.now in
    let d = c.in_ok-destinations.destinations in
    let tests = c.in_ok-destinations.ensures.lets m to vectors sizes is_to in
    let words = passes_words c.words.result in
    let last = passes_untested d to in
    let edges = edges_between from words g.edges in
    let old = entry m.vectors x in
    let new = λ (es : List Edge). entry (after_edges steps m.sets m.vectors es m.vectors) x in
    let is_last = subst (λ (o : Option EndpointFilter). IsEndTest o m last) (sym c.untested-2.ensures) tests.untested in
    let sources = c.in_ok-sources.sources in
    let from_tests = λ (n : ℕ). c.in_ok-sources.ensures.lets n m from is_from in
    let begun = c.in_ok-begin.ensures m steps are in
    let has : HasFolded c.context-context.result m steps edges c.match-untested.scratch = elim c.match-untested.branch [
      | in-None+in_ok-fold_words-in-None w ↦ subst (λ (s : Scratch). HasFolded c.context-context.result m steps edges s) (sym w.scratch-is)
          (folded_along c.context-context.result m steps _ edges w.fold_words.new.scratch
          (between_same (passes_words w.words-in-None.result) from words g.edges (λ v. w.words-in-None.ensures v ∙ bits_are_all m from sources w.in-None.ensures from_tests v))
          (w.in_ok-fold_words-in-None.ensures m steps are begun))
      | in-Some+in_ok-fold_end-in-Some w ↦ subst (λ (s : Scratch). HasFolded c.context-context.result m steps edges s) (sym w.scratch-is)
          (w.in_ok-fold_end-in-Some.ensures m steps from are (left_is_end m from w.in-Some.end sources w.in-Some.ensures from_tests) begun)
    ] in
    told m steps edges last are is_last has starts x r by (omega (arith, count, long))
    ∙ ap (λ (n : ℕ). changed n old (new (filter (λ e. last e.1) edges))) count
    ∙ ap (λ (es : List Edge). changed g.vertices old (new es))
    (between_tested from words last g.edges
    ∙ sym (to_agree g from to (λ v. words v && last v) c.context-context.ensures.graph (λ v l. sym (ap (λ (b : Bool). b && last v) (c.words.ensures v) ∙ tests.both v l)))))
    c.changes.ensures.changes
