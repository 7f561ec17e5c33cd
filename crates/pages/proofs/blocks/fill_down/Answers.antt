-- Proofs of `fill_down`, src/blocks.rt.
use Rattle.std.proofs.Common.{◌≡◌, ℕ, ◌+◌, ◌-◌, List, refl, ◌∙◌, length, get_or, take, reverse, ap, arith}
use Rattle.std.proofs.lemmas.List.{length-reverse, length-take-le}
use Rattle.pages.specs.inside.Packed.{list_of}
use Rattle.pages.proofs.Decoding.{list_length, room_at, read_at}
use Rattle.pages.proofs.Filling.{written, down_at}
use Rattle.pages.proofs.blocks.fill_down.Goals as goal

pub overflow_add-position : goal.overflow_add-position
overflow_add-position c =
    let a = c.args in
    let xs : List ℕ = list_of a.packed.first a.packed.width a.packed.len a.packed.offsets.now in
    let l = c.loop-position in
    let count : length xs ≡ a.packed.len = list_length a.packed.first a.packed.width a.packed.len a.packed.offsets.now in
    omega (
      arith,
      (read_at a.packed.first a.packed.width a.packed.mask a.packed.len a.packed.offsets.now xs c.requires.view refl (l.index - 1) c.offset.result
          (omega (arith, count)) c.offset.ensures).1,
    )

pub offset-requires-clause-room : goal.offset-requires-clause-room
offset-requires-clause-room c =
    let a = c.args in
    let xs : List ℕ = list_of a.packed.first a.packed.width a.packed.len a.packed.offsets.now in
    let l = c.loop-position in
    let count : length xs ≡ a.packed.len = list_length a.packed.first a.packed.width a.packed.len a.packed.offsets.now in
    room_at a.packed.first a.packed.width a.packed.mask a.packed.len a.packed.offsets.now xs c.requires.view refl (l.index - 1) (omega (arith, count))

pub loop-position-preserved : goal.loop-position-preserved
loop-position-preserved c =
    let a = c.args in
    let xs : List ℕ = list_of a.packed.first a.packed.width a.packed.len a.packed.offsets.now in
    let l = c.loop-position in
    let count : length xs ≡ a.packed.len = list_length a.packed.first a.packed.width a.packed.len a.packed.offsets.now in
    let here : l.index - 1 + 1 ≡ l.index = omega arith in
    let long : length (reverse (take a.end xs)) ≡ a.end = length-reverse (take a.end xs) ∙ length-take-le a.end xs (omega (arith, count)) in
    let read : a.packed.first + c.offset.result ≡ get_or xs (l.index - 1 + 1) 0 =
    (read_at a.packed.first a.packed.width a.packed.mask a.packed.len a.packed.offsets.now xs c.requires.view refl (l.index - 1) c.offset.result (omega (arith, count)) c.offset.ensures).0 in
    record {
      index = omega arith;
      front = written (reverse (take a.end xs)) l.block l.position-index (a.packed.first + c.offset.result) (omega (arith, long)) (omega arith)
          (read ∙ ap (λ k. get_or xs k 0) here ∙ down_at xs a.end l.position-index l.index (omega (arith, count)) l.invariant.index) l.invariant.front;
    }
