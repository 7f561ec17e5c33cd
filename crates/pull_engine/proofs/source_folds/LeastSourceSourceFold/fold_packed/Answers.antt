-- Proofs of `fold_packed`, src/source_folds.rt.
use Rattle.std.proofs.Common.{rules, FitsSigned, w64, ℤ, pos, ap, sym, ◌∙◌}
use Rattle.std.specs.List.{filter}
use Rattle.std.specs.Map.{keys_of}
use Rattle.std.proofs.lemmas.Int.{to_z-of_z}
use Rattle.apply_options.specs.declared.reduction.Reduction.TheVariants.{Min}
use Rattle.edge_apply.specs.Words.{passes_words}
use Rattle.pull_engine.specs.EarlySources.{reduced_once}
use Rattle.pull_engine.proofs.Deciding.{ascends_filter, least}
use Rattle.pull_engine.proofs.EntryFolds.{over_passing}
use Rattle.pull_engine.proofs.source_folds.LeastSourceSourceFold.fold_packed.Goals as goal

pub returns : goal.returns
returns c =
    let p = passes_words c.args.from in
    let old = c.args.old in
    let fits : FitsSigned w64 old = search rules in
    let came : FitsSigned w64 c.reduce_source.result = search rules in
    to_z-of_z w64 c.reduce_source.result came ∙ c.reduce_source.ensures ∙ ap (λ (n : ℤ). reduced_once Min (λ s. pos s) n c.first_packed-source.result) (to_z-of_z w64 old fits)
    ∙ ap (λ o. reduced_once Min (λ s. pos s) old o) (c.first_packed-source.ensures)
    ∙ sym (least old 0 (filter p (keys_of c.args.sources)) (ascends_filter p 0 (keys_of c.args.sources) c.len.ensures.ascending))
    ∙ sym (over_passing Min (λ s. pos s) old p c.args.sources)
