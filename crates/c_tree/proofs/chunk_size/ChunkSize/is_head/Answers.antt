-- Proofs of `is_head`, src/chunk_size.rt.
use Rattle.std.proofs.Common.{◌≡◌, ℕ, ◌+◌, ◌-◌, ◌*◌, ◌/◌, ◌%◌, ◌^◌, nat_eq, bit_and, sym, ◌∙◌, ap, arith}
use Rattle.std.proofs.lemmas.Nat.{and_mask}
use Rattle.c_tree.specs.Heads.{hash, is_head}
use Rattle.c_tree.proofs.chunk_size.ChunkSize.is_head.Goals as goal

-- what a mask of ones leaves of a number
masked : (n mask b k : ℕ) → mask + 1 ≡ b → mask + 1 ≡ 2 ^ k → bit_and n mask ≡ n % b
masked n mask b k is power =
    let low : mask ≡ 2 ^ k - 1 = omega arith in
    ap (bit_and n) low ∙ and_mask n k ∙ ap (λ (m : ℕ). n % m) (sym power ∙ is)

pub returns : goal.returns
unfolding is_head hash
returns c =
    let n = c.args.key * 2654435769 % 4294967296 / 16777216 in
    ap (λ (m : ℕ). nat_eq m 0) (masked n c.self.inside.mask c.args.self c.self.invariant.0 c.self.view_is c.self.invariant.2)
