-- Proofs of `read_into`, src/tail.rt.
use Rattle.std.proofs.Common.{◌≡◌, ℕ, ◌+◌, ◌<◌, ℤ, to_z, of_z, w64, List, [], ◌∷◌, ◌++◌, length, length-set, take, slice_set, sym, ◌∙◌, ap, append_assoc, arith, rules}
use Rattle.std.specs.List.{zip}
use Rattle.std.proofs.lemmas.List.{take_more_set}
use Rattle.std.proofs.lemmas.Slice.Zip.{length-zip}
use Rattle.tail_codec.proofs.Columns.{set_zip}
use Rattle.tail_codec.proofs.tail.Tail.read_into.Goals as goal

-- one entry more stands in the columns
put : (keys : List ℕ) (weights : List ℤ) (n k : ℕ) (w : ℤ) (now rest : List (ℕ × ℤ)) → n < length (zip keys weights) → now ≡ (k, w) ∷ rest
    → take (n + 1) (zip (slice_set keys n k) (slice_set weights n w)) ++ rest ≡ take n (zip keys weights) ++ now
put keys weights n k w now rest within is =
    ap (λ v. take (n + 1) v ++ rest) (set_zip n keys weights k w)
    ∙ ap (λ v. v ++ rest) (take_more_set (zip keys weights) n (k, w) within)
    ∙ append_assoc (take n (zip keys weights)) ((k, w) ∷ []) rest
    ∙ ap (λ v. take n (zip keys weights) ++ v) (sym is)

pub loop-key-preserved : goal.loop-key-preserved
loop-key-preserved c =
    let l = c.loop-key in
    let k = c.in-Some.key in
    let w = c.in-Some.weight in
    let step : l.key-iterator ≡ (k, w) ∷ c.next.new.self = search rules in
    let same : to_z w64 (of_z w64 w) ≡ w = search rules in
    let within : l.position < length (zip l.keys l.weights) = omega (
      arith,
      length-zip l.keys l.weights,
      l.invariant.keys,
      l.invariant.weights,
      l.invariant.position,
      ap length step,
      c.requires.room,
    ) in
    record {
      can = tt;
      finite = tt;
      keys = length-set {A = ℕ} l.keys l.position k ∙ l.invariant.keys;
      weights = length-set {A = ℤ} l.weights l.position _ ∙ l.invariant.weights;
      position = omega (arith, l.invariant.position, ap length step);
      read = rw same (put l.keys l.weights l.position k w l.key-iterator c.next.new.self within step) ∙ l.invariant.read;
    }
