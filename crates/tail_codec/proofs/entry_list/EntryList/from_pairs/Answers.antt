-- Proofs of `from_pairs`, src/entry_list.rt.
use Rattle.std.proofs.Common.{◌≡◌, ℕ, ◌+◌, ℤ, pos, [], ◌∷◌, ◌++◌, length-set, take, slice_index_or, to_z, of_z, w64, sym, ◌∙◌, ap, arith, rules}
use Rattle.std.specs.List.{zip}
use Rattle.std.proofs.lemmas.List.{take_more, take_more_set, take_all}
use Rattle.std.proofs.lemmas.Slice.Zip.{length-zip}
use Rattle.tail_codec.proofs.Columns.{set_zip}
use Rattle.tail_codec.proofs.entry_list.EntryList.from_pairs.Goals as goal

pub loop-position-preserved : goal.loop-position-preserved
loop-position-preserved c =
    let l = c.loop-position in
    let pairs = c.args.pairs.now in
    let whole = length-zip l.keys.items l.weights.items in
    let e = slice_index_or pairs l.position (0, pos 0) in
    let same : to_z w64 (of_z w64 e.1) ≡ e.1 = search rules in
    record {
      keys = length-set {A = ℕ} l.keys.items l.position _ ∙ l.invariant.keys;
      weights = length-set {A = ℤ} l.weights.items l.position _ ∙ l.invariant.weights;
      front =
          ap (take (l.position + 1)) (set_zip l.position l.keys.items l.weights.items e.0 (to_z w64 (of_z w64 e.1)))
          ∙ take_more_set (zip l.keys.items l.weights.items) l.position (e.0, to_z w64 (of_z w64 e.1)) (omega (arith, whole, l.invariant.keys, l.invariant.weights, c.loop-position-test.true))
          ∙ ap (λ v. take l.position (zip l.keys.items l.weights.items) ++ (e.0, v) ∷ []) same
          ∙ ap (λ v. v ++ e ∷ []) l.invariant.front
          ∙ sym (take_more pairs l.position (0, pos 0) c.loop-position-test.true);
    }

pub returns : goal.returns
returns c =
    let l = c.loop-position in
    let pairs = c.args.pairs.now in
    let whole = length-zip l.keys.items l.weights.items in
    c.new.ensures
    ∙ sym (take_all l.position (zip l.keys.items l.weights.items) (omega (arith, whole, l.invariant.keys, l.invariant.weights, c.loop-position-test.false)))
    ∙ l.invariant.front
    ∙ take_all l.position pairs (omega (arith, c.loop-position-test.false))
