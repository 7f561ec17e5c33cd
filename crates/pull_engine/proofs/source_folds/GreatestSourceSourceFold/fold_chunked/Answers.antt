-- Proofs of `fold_chunked`, src/source_folds.rt.
use Rattle.std.proofs.Common.{rules, FitsSigned, w64, ℕ, ℤ, pos, List, ap, sym, ◌∙◌}
use Rattle.std.specs.List.{filter}
use Rattle.std.specs.Map.{keys_of}
use Rattle.std.proofs.lemmas.Int.{to_z-of_z}
use Rattle.apply_options.specs.declared.reduction.Reduction.TheVariants.{Max}
use Rattle.edge_apply.specs.Words.{passes_words}
use Rattle.pull_engine.specs.EarlySources.{last_source, reduced_once}
use Rattle.pull_engine.proofs.Deciding.{ascends_filter, greatest}
use Rattle.pull_engine.proofs.EntryFolds.{over_passing}
use Rattle.pull_engine.proofs.source_folds.GreatestSourceSourceFold.fold_chunked.Goals as goal

pub returns : goal.returns
returns c =
    let p = passes_words c.args.from in
    let old = c.args.old in
    let fits : FitsSigned w64 old = search rules in
    let came : FitsSigned w64 c.reduce_source.result = search rules in
    to_z-of_z w64 c.reduce_source.result came ∙ c.reduce_source.ensures ∙ ap (λ (n : ℤ). reduced_once Max (λ s. pos s) n c.last_chunked-source.result) (to_z-of_z w64 old fits)
    ∙ ap (λ o. reduced_once Max (λ s. pos s) old o) (c.last_chunked-source.ensures.last ∙ ap (λ (es : List (ℕ × ℤ)). last_source (filter p (keys_of es))) c.new.ensures)
    ∙ sym (greatest old 0 (filter p (keys_of c.args.sources.now.entries)) (ascends_filter p 0 (keys_of c.args.sources.now.entries) c.len.ensures.valid.ascending))
    ∙ sym (over_passing Max (λ s. pos s) old p c.args.sources.now.entries)
