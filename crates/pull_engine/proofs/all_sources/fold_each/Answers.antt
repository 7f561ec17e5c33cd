-- Proofs of `fold_each`, src/all_sources.rt.
use Rattle.std.proofs.Common.{rules, ◌<◌, ◌≤◌, ℕ, ℤ, length, slice_index, refl, cond, FitsSigned, to_z, w64, ap, sym, ◌∙◌, arith}
use Rattle.std.specs.List.{filter}
use Rattle.std.specs.Map.{keys_of}
use Rattle.std.proofs.lemmas.Int.{to_z-of_z}
use Rattle.std.proofs.lemmas.Map.Entries.{length-keys_of}
use Rattle.kernels.specs.Arithmetic.{reduced}
use Rattle.edge_apply.specs.Words.{passes_words}
use Rattle.edge_fold.specs.ReducedContributions.{reduced_with}
use Rattle.pull_engine.proofs.EntryFolds.{over_passing}
use Rattle.pull_engine.proofs.ListFolds.{all_folded, one_folded}
use Rattle.pull_engine.proofs.Masking.{reduced_masked}
use Rattle.pull_engine.proofs.all_sources.fold_each.Goals as goal

pub sources-preserved : goal.sources-preserved
sources-preserved g c =
    let p = passes_words c.args.from in
    let r = c.args.reduction in
    let number = g.N.SourceNumbers.number c.args.numbers.now in
    let xs = keys_of c.args.sources.now in
    let i = c.sources.index in
    let source = c.neighbour.result in
    let before = to_z w64 c.sources.number-bits in
    let came = c.reduce-number.result in
    let given = c.given_by-given.result in
    let fits : FitsSigned w64 came = search rules in
    let given_fits : FitsSigned w64 given = search rules in
    let before_fits : FitsSigned w64 before = search rules in
    let long = length-keys_of c.args.sources.now in
    let inside : i < length xs = omega (arith, long, c.len-index-end.ensures.count, c.sources-test.true) in
    to_z-of_z w64 came fits ∙ c.reduce-number.ensures
    ∙ ap (reduced r before) (to_z-of_z w64 given given_fits ∙ c.given_by-given.ensures)
    ∙ reduced_masked r before (number source) (p source) before_fits
    ∙ ap (λ (s : ℕ). cond (p s) (reduced r before (number s)) before) c.neighbour.ensures
    ∙ one_folded r number p _ before xs i (p (slice_index xs i)) inside refl c.sources.invariant

pub returns : goal.returns
returns g c =
    let p = passes_words c.args.from in
    let r = c.args.reduction in
    let number = g.N.SourceNumbers.number c.args.numbers.now in
    let xs = keys_of c.args.sources.now in
    let fits : FitsSigned w64 c.args.old = search rules in
    let long = length-keys_of c.args.sources.now in
    let all : length xs ≤ c.sources.index = omega (arith, long, c.len-index-end.ensures.count, c.sources-test.false) in
    c.sources.invariant ∙ all_folded r number p _ xs c.sources.index all
    ∙ ap (λ (n : ℤ). reduced_with r number n (filter p xs)) (to_z-of_z w64 c.args.old fits)
    ∙ sym (over_passing r number c.args.old p c.args.sources.now)
