-- A number in its bytes.
use Rattle.std.specs.Prelude.{◌≡◌, ℕ, ◌^◌, ◌<◌, List, length, slice_index}
use Rattle.std.specs.Int.{w64, cast_signed, cast_unsigned, from_le_bytes, to_le_bytes}
use Rattle.std.proofs.Common.{refl, ap, ◌∙◌, arith}
use Rattle.std.proofs.lemmas.Int.{of_z-to_z}
use Rattle.std.proofs.lemmas.Nat.{le_bytes_8}

-- eight bytes
pub record AreBytes (bs : List ℕ) : Type 0 where
  pub count : length bs ≡ 8
  pub small : (i : ℕ) → slice_index bs i < 256

below : (bs : List ℕ) → AreBytes bs → from_le_bytes w64 bs < 2 ^ 64
below bs are = omega (arith, are.small 0, are.small 1, are.small 2, are.small 3, are.small 4, are.small 5, are.small 6, are.small 7)

-- the bytes of the number that they spell are they
pub bytes_back : (bs : List ℕ) → AreBytes bs → to_le_bytes w64 (cast_unsigned w64 (cast_signed w64 (from_le_bytes w64 bs))) ≡ bs
bytes_back bs are = ap (to_le_bytes w64) (of_z-to_z w64 (from_le_bytes w64 bs) (below bs are)) ∙ le_bytes_8 bs (from_le_bytes w64 bs) are.count are.small refl
