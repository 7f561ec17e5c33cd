-- Proofs of `fill_up`, src/blocks.rt.
use Rattle.std.proofs.Common.{◌≡◌, ℕ, ◌+◌, List, refl, ◌∙◌, length, get_or, drop, arith, length-drop}
use Rattle.pages.specs.inside.Packed.{list_of}
use Rattle.pages.proofs.Decoding.{list_length, room_at, read_at}
use Rattle.pages.proofs.Filling.{written, up_at}
use Rattle.pages.proofs.blocks.fill_up.Goals as goal

pub overflow_add-position : goal.overflow_add-position
overflow_add-position c =
    let a = c.args in
    let xs : List ℕ = list_of a.packed.first a.packed.width a.packed.len a.packed.offsets.now in
    let l = c.loop-position in
    let count : length xs ≡ a.packed.len = list_length a.packed.first a.packed.width a.packed.len a.packed.offsets.now in
    omega (arith, (read_at a.packed.first a.packed.width a.packed.mask a.packed.len a.packed.offsets.now xs c.requires.view refl l.index c.offset.result (omega (arith, count)) c.offset.ensures).1)

pub offset-requires-clause-room : goal.offset-requires-clause-room
offset-requires-clause-room c =
    let a = c.args in
    let xs : List ℕ = list_of a.packed.first a.packed.width a.packed.len a.packed.offsets.now in
    let l = c.loop-position in
    let count : length xs ≡ a.packed.len = list_length a.packed.first a.packed.width a.packed.len a.packed.offsets.now in
    room_at a.packed.first a.packed.width a.packed.mask a.packed.len a.packed.offsets.now xs c.requires.view refl l.index (omega (arith, count))

pub loop-position-preserved : goal.loop-position-preserved
loop-position-preserved c =
    let a = c.args in
    let xs : List ℕ = list_of a.packed.first a.packed.width a.packed.len a.packed.offsets.now in
    let l = c.loop-position in
    let count : length xs ≡ a.packed.len = list_length a.packed.first a.packed.width a.packed.len a.packed.offsets.now in
    let read : a.packed.first + c.offset.result ≡ get_or xs (l.index + 1) 0 =
    (read_at a.packed.first a.packed.width a.packed.mask a.packed.len a.packed.offsets.now xs c.requires.view refl l.index c.offset.result (omega (arith, count)) c.offset.ensures).0 in
    record {
      index = omega arith;
      front = written (drop a.from xs) l.block l.position-index (a.packed.first + c.offset.result) (omega (arith, count, length-drop a.from xs)) (omega arith)
          (read ∙ up_at xs a.from l.position-index l.index l.invariant.index) l.invariant.front;
    }
