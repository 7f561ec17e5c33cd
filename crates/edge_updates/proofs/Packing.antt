-- What the number in an update says.
use Rattle.std.proofs.Common.{◌≡◌, ℕ, ◌+◌, ◌*◌, ◌/◌, ◌%◌, ◌^◌, ◌<◌, ap, sym, ◌∙◌, arith}
use Rattle.std.proofs.Math.Nat.{mod-eq_of_lt}
use Rattle.std.proofs.Math.Pow.{mod-mod-pow}
use Rattle.radix_sort.specs.Bits.{bits_of}
use Rattle.edge_updates.specs.declared.edge_update.EdgeUpdate.{EdgeUpdate}
use Rattle.edge_updates.specs.EdgeUpdate.{key_of, vertex_of, neighbour_of}

-- the key has the vertex and the neighbour
pub key_is : (u : EdgeUpdate) → key_of u ≡ vertex_of u * 2 ^ 24 + neighbour_of u
unfolding vertex_of neighbour_of
key_is u = omega arith

pub neighbour_small : (u : EdgeUpdate) → neighbour_of u < 2 ^ 24
unfolding neighbour_of
neighbour_small u = omega arith

-- updates with one key name one edge
pub same_vertex : (a b : EdgeUpdate) → key_of a ≡ key_of b → vertex_of a ≡ vertex_of b
unfolding vertex_of
same_vertex a b same = ap (λ k. k / 2 ^ 24) same

pub same_neighbour : (a b : EdgeUpdate) → key_of a ≡ key_of b → neighbour_of a ≡ neighbour_of b
unfolding neighbour_of
same_neighbour a b same = ap (λ k. k % 2 ^ 24) same

-- the bits of the key that a small neighbour needs are the neighbour
pub low_bits : (u : EdgeUpdate) (more width : ℕ) → more + width ≡ 24 → neighbour_of u < 2 ^ width → bits_of key_of 0 width u ≡ neighbour_of u
unfolding neighbour_of
low_bits u more width all small =
    let whole : key_of u / 2 ^ 0 ≡ key_of u = omega arith in
    let inner : key_of u % 2 ^ (more + width) % 2 ^ width ≡ key_of u % 2 ^ width = mod-mod-pow (key_of u) more width in
    let kept : key_of u % 2 ^ 24 % 2 ^ width ≡ key_of u % 2 ^ 24 = mod-eq_of_lt small in
    rw whole (sym (rw all at inner) ∙ kept)

-- and those from bit 24 on that a small vertex needs are the vertex
pub high_bits : (u : EdgeUpdate) (width : ℕ) → vertex_of u < 2 ^ width → bits_of key_of 24 width u ≡ vertex_of u
unfolding vertex_of
high_bits u width small = mod-eq_of_lt small
