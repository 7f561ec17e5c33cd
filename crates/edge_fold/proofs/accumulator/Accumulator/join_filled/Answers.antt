-- Proofs of `join_filled`, src/joins.rt.
use Rattle.std.proofs.Common.{rules, ◌≡◌, ◌++◌, List, ℤ, pos, length, take, drop, get_or, sym, ap, subst, ◌∙◌, inl, inr, FitsSigned, w64}
use Rattle.std.proofs.lemmas.Bool.{cases_lt, false≢true}
use Rattle.std.proofs.lemmas.Int.{to_z-of_z}
use Rattle.vertex_marks.specs.Marks.{is_marked}
use Rattle.edge_fold.specs.Between.{firsts}
use Rattle.edge_fold.specs.inside.Contributions.{each_given}
use Rattle.edge_fold.specs.Contributions.{reduced_at}
use Rattle.edge_fold.specs.inside.FoldStarts.{initial_seed, start_of}
use Rattle.edge_fold.proofs.Filled.{joined_either, written_back}
use Rattle.edge_fold.proofs.accumulator.Accumulator.join_filled.Goals as goal

pub returns-clause-joined : goal.returns-clause-joined
returns-clause-joined g c o v h =
    let self = c.args.self.now in
    let r = c.args.reduction in
    let new = c.reduce_filled.new.values in
    let old = self.values.items in
    let back : take self.values.len (new ++ drop (length new) old) ≡ new = written_back self.values.len old new (search rules) (search rules) in
    let fits : FitsSigned w64 c.args.number = search rules in
    let ds = firsts (g.E.NeighbourEntries.entries c.args.destinations.now) in
    let rest = drop c.reduce_filled.result ds in
    let number = to_z-of_z w64 c.args.number fits in
    let o' = initial_seed o v h in
    rw back (joined_either (start_of o) r v o' (get_or new v (pos 0)) (get_or old v (pos 0)) (each_given c.args.number rest) (each_given c.args.number ds) (is_marked self.marks v)
    (subst (λ (n : ℤ). reduced_at r v (get_or new v (pos 0)) (each_given n rest) ≡ reduced_at r v (get_or c.as_mut_slice.result.now v (pos 0)) (each_given n ds)) number
    (c.reduce_filled.ensures.reduced v)
    ∙ ap (λ (ys : List ℤ). reduced_at r v (get_or ys v (pos 0)) (each_given c.args.number ds)) c.as_mut_slice.ensures.value)
    (λ off. elim (cases_lt v self.filled) [
      | inl low ↦ absurd (false≢true (sym off ∙ self.whole v low))
      | inr past ↦ subst (λ (n : ℤ). reduced_at r v o' (each_given n rest) ≡ reduced_at r v o' (each_given n ds)) number (c.reduce_filled.ensures.others v o' past)
    ]))
