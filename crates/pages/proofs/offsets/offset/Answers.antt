-- Proofs of `offset`, src/offsets.rt.
use Rattle.std.proofs.Common.{ℕ, ◌+◌, ◌*◌, ◌∙◌, drop, ap, arith, bit_and, get_or-drop}
use Rattle.pages.proofs.Masks.{masked}
use Rattle.pages.proofs.offsets.offset.Goals as goal

pub returns : goal.returns
returns c =
    let position : ℕ = c.args.width * c.args.index in
    let bytes = c.args.bytes.now in
    ap (λ x. bit_and x c.args.mask) c.number.ensures
    ∙ masked c.args.width c.args.mask (drop position bytes) (λ i. omega (arith, get_or-drop position bytes i 0, c.type_inv.bytes (position + i))) c.requires.width c.requires.mask
