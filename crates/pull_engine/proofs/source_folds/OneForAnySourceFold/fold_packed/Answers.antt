-- Proofs of `fold_packed`, src/source_folds.rt.
use Rattle.std.proofs.Common.{rules, FitsSigned, to_z, of_z, w64, ℤ, ap, sym, ◌∙◌}
use Rattle.std.specs.List.{filter}
use Rattle.std.specs.Map.{keys_of}
use Rattle.std.proofs.lemmas.Int.{to_z-of_z}
use Rattle.edge_apply.specs.Words.{passes_words}
use Rattle.pull_engine.specs.EarlySources.{reduced_once}
use Rattle.pull_engine.proofs.Deciding.{one_number}
use Rattle.pull_engine.proofs.EntryFolds.{over_passing}
use Rattle.pull_engine.proofs.source_folds.OneForAnySourceFold.fold_packed.Goals as goal

pub returns : goal.returns
returns c =
    let p = passes_words c.args.from in
    let old = c.args.old in
    let f = c.args.self.now in
    let fits : FitsSigned w64 old = search rules in
    let number_fits : FitsSigned w64 f.number = search rules in
    let came : FitsSigned w64 c.reduce_number.result = search rules in
    to_z-of_z w64 c.reduce_number.result came ∙ c.reduce_number.ensures ∙ ap (λ (n : ℤ). reduced_once f.reduction (λ s. n) (to_z w64 (of_z w64 old)) c.first_packed-source.result)
    (to_z-of_z w64 f.number number_fits)
    ∙ ap (λ (n : ℤ). reduced_once f.reduction (λ s. f.number) n c.first_packed-source.result) (to_z-of_z w64 old fits)
    ∙ ap (λ o. reduced_once f.reduction (λ s. f.number) old o) (c.first_packed-source.ensures)
    ∙ sym (one_number f.reduction f.once f.number old (filter p (keys_of c.args.sources)))
    ∙ sym (over_passing f.reduction (λ s. f.number) old p c.args.sources)
