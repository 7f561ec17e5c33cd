-- Proofs of `merge`, src/updates.rt.
use Rattle.std.proofs.Common.{◌≡◌, ℤ, ◌+◌, ◌-◌, w64, [], ◌∷◌, ◌++◌, ◌<◌, length, get_or, take, drop, refl, sym, ◌∙◌, ap, subst, arith, rules}
use Rattle.std.specs.Map.{keys_of}
use Rattle.std.proofs.lemmas.Int.{to_z-of_z}
use Rattle.std.proofs.lemmas.List.{drop_all, drop_more, take_rest}
use mir.Val.{SFits, to_z, of_z}
use Rattle.ascending_lists.specs.Ascending.{AscendsFrom}
use Rattle.edge_updates.specs.declared.edge_update.EdgeUpdate.{EdgeUpdate}
use Rattle.pages.specs.Updates.{updated}
use Rattle.pages.proofs.Merging.{updated_ascends}
use Rattle.pages.proofs.UpdateRuns.{no_update}
use Rattle.pages.proofs.updates.merge.Goals as goal

pub loop-index-preserved : goal.loop-index-preserved
loop-index-preserved c =
    let l = c.loop-index in
    let cs = c.args.updates.now in
    let fits : SFits w64 c.weight.result = search rules in
    let lt : l.index < length cs = omega (arith, c.loop-index-test.true, c.len-index-end.ensures) in
    let pair : (c.update.result, to_z w64 (of_z w64 c.weight.result)) ≡ get_or cs l.index no_update =
    rw (c.update.ensures no_update, to_z-of_z w64 c.weight.result fits, c.weight.ensures no_update) refl in
    let cell : (c.update.result, to_z w64 (of_z w64 c.weight.result)) ∷ drop (l.index + 1) cs ≡ drop l.index cs = ap (λ (p : EdgeUpdate × ℤ). p ∷ drop (l.index + 1) cs) pair
    ∙ sym (drop_more cs l.index no_update lt) in
    record {
      within = c.in_ok-at.ensures.within;
      whole = c.in_ok-at.ensures.list (drop (l.index + 1) cs) ∙ ap (λ ds. l.after ++ updated (drop l.at c.args.list.now) ds) cell ∙ l.invariant.whole;
    }

pub returns-clause-ascending : goal.returns-clause-ascending
returns-clause-ascending c =
    let l = c.loop-index in
    let xs = c.args.list.now in
    let cs = c.args.updates.now in
    let none : drop l.index cs ≡ [] = drop_all l.index cs (omega arith) in
    let rest : take (c.len.result - l.at) (drop l.at xs) ≡ drop l.at xs = ap (λ n. take (n - l.at) (drop l.at xs)) c.len.ensures.count ∙ take_rest xs l.at in
    let merged : c.append_to.new.list ≡ updated xs cs =
    c.in_ok-append_to.ensures ∙ ap (λ ys. l.after ++ ys) rest ∙ sym (ap (λ ds. l.after ++ updated (drop l.at xs) ds) none) ∙ l.invariant.whole in
    subst (λ ys. AscendsFrom 0 (keys_of ys)) (sym merged) (updated_ascends 0 xs cs c.len.ensures.ascending c.requires)
