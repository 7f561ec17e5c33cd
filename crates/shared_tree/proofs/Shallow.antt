-- The bound on the depth of balanced trees.
use Rattle.std.proofs.Common.{ℕ, ◌+◌, ◌*◌, ◌^◌, ◌<◌, ◌≤◌, max, inl, inr, arith}
use Rattle.std.proofs.lemmas.Bool.{cases_lt}
use Rattle.std.proofs.lemmas.Nat.{pow-add}
use Rattle.std.proofs.Math.Nat.{pow-le-pow_right, mul-le-mul_left, mul-le-mul_right, max-eq_left, max-eq_right, mul_comm}
use Rattle.shared_tree.specs.Balanced.{DifferByAtMostOne}

-- what is at most two squares is at most the product of their roots
le_product : (x a b : ℕ) → x ≤ a * a → x ≤ b * b → x ≤ a * b
le_product x a b p q =
    elim (cases_lt a b) [ inl lt ↦ omega (arith, mul-le-mul_left {m = a} {n = b} a (omega arith)) | inr le ↦ omega (arith, mul-le-mul_right {m = b} {n = a} b (omega arith)) ]

-- four times that is at most the square of the sum
le_square_sum : (x a b : ℕ) → x ≤ a * a → x ≤ b * b → 4 * x ≤ (a + b) * (a + b)
le_square_sum x a b p q = omega (arith, le_product x a b p q, mul_comm a b)

-- one level above two depths that are at most one apart
le_square_above : (low high a b : ℕ) → low ≤ high → high ≤ low + 1 → 2 ^ low ≤ a * a → 2 ^ high ≤ b * b → 2 ^ (high + 1) ≤ (a + b) * (a + b)
le_square_above low high a b le near p q =
    let up : 2 ^ low ≤ 2 ^ high = pow-le-pow_right {n = 2} (omega arith) {i = low} {j = high} le in
    let over : 2 ^ (high + 1) ≤ 2 ^ (low + 2) = pow-le-pow_right {n = 2} (omega arith) {i = high + 1} {j = low + 2} (omega arith) in
    omega (arith, pow-add 2 low 2, le_square_sum (2 ^ low) a b p (omega arith))

pub shallow_fork : (l r m n : ℕ) → DifferByAtMostOne l r → 2 ^ l ≤ (m + 1) * (m + 1) → 2 ^ r ≤ (n + 1) * (n + 1) → 2 ^ (max l r + 1) ≤ (m + n + 2) * (m + n + 2)
shallow_fork l r m n d p q =
    elim (cases_lt l r) [
      | inl lt ↦ rw (max-eq_right {n = l} {m = r} (omega arith)) (omega (arith, le_square_above l r (m + 1) (n + 1) (omega arith) (omega (arith, d.1)) p q))
      | inr le ↦ rw (max-eq_left {n = l} {m = r} le) (omega (arith, le_square_above r l (n + 1) (m + 1) le (omega (arith, d.0)) q p))
    ]

-- a tree of a depth has fewer entries than a full one has places
pub room_fork : (l r m n : ℕ) → m < 2 ^ l → n < 2 ^ r → m + 1 + n < 2 ^ (max l r + 1)
room_fork l r m n p q =
    elim (cases_lt l r) [
      | inl lt ↦
          let up : 2 ^ l ≤ 2 ^ r = pow-le-pow_right {n = 2} (omega arith) {i = l} {j = r} (omega arith) in
          rw (max-eq_right {n = l} {m = r} (omega arith)) (omega (arith, pow-add 2 r 1))
      | inr le ↦
          let up : 2 ^ r ≤ 2 ^ l = pow-le-pow_right {n = 2} (omega arith) {i = r} {j = l} le in
          rw (max-eq_left {n = l} {m = r} le) (omega (arith, pow-add 2 l 1))
    ]

pub at_most_64 : (d n : ℕ) → 2 ^ d ≤ (n + 1) * (n + 1) → n ≤ 2 ^ 32 → d ≤ 64
at_most_64 d n p q =
    elim (cases_lt 64 d) [
      | inl lt ↦
          let up : 2 ^ 65 ≤ 2 ^ d = pow-le-pow_right {n = 2} (omega arith) {i = 65} {j = d} (omega arith) in
          let once : (n + 1) * (n + 1) ≤ (2 ^ 32 + 1) * (n + 1) = mul-le-mul_right {m = n + 1} {n = 2 ^ 32 + 1} (n + 1) (omega arith) in
          omega arith
      | inr le ↦ le
    ]
