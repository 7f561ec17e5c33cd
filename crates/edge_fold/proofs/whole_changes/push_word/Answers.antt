-- Proofs of `push_word`, src/whole_changes.rt.
use Rattle.std.proofs.Common.{rules, ◌+◌, ◌∷◌, [], ◌++◌, ℕ, ℤ, pos, get_or, ap, ◌∙◌, arith, FitsSigned, w64}
use Rattle.std.proofs.lemmas.Int.{to_z-of_z}
use lib.Count.{count_trailing_zeros}
use Rattle.vectors.specs.declared.changes.EntryChange.{EntryChange}
use Rattle.edge_fold.proofs.ChangedWords.{lowest_pushed, no_bit_left}
use Rattle.edge_fold.proofs.whole_changes.push_word.Goals as goal

pub bits-preserved : goal.bits-preserved
bits-preserved c =
    let a = c.args in
    let new = λ (v : ℕ). get_or a.new.now v (pos 0) in
    let found = c.bits.changes.items in
    let vertex = a.first + count_trailing_zeros 64 c.bits.left in
    let fits : FitsSigned w64 (new vertex) = search rules in
    let change : ℤ → EntryChange = λ y. record { vertex = vertex; number = y } in
    lowest_pushed new a.first c.bits.left found c.push.new.self.items _ (omega arith) (search rules)
    (c.in_ok-push.ensures.items ∙ ap (λ (x : EntryChange). found ++ x ∷ []) (c.new.ensures ∙ ap change (to_z-of_z w64 (new vertex) fits)))
    c.bits.invariant

pub returns : goal.returns
returns c =
    let new = λ (v : ℕ). get_or c.args.new.now v (pos 0) in
    no_bit_left new c.args.first c.bits.left c.bits.changes.items _ (omega arith) c.bits.invariant
