-- The depth of a tree built by halves.
use Rattle.std.proofs.Common.{◌≡◌, ℕ, zero, suc, ◌+◌, ◌-◌, ◌*◌, ◌^◌, ◌≤◌, max, inl, inr, arith}
use Rattle.std.proofs.lemmas.Bool.{cases_lt}
use Rattle.std.proofs.lemmas.Nat.{pow-add}
use Rattle.std.proofs.Math.Nat.{pow-le-pow_right, pow-succ', max-eq_left, max-eq_right}
use Rattle.shared_tree.specs.Balanced.{DifferByAtMostOne}
use Rattle.shared_tree.specs.inside.Outcome.{IsLeastDepth}

-- a count near another has no depth two above it
near_depth : (a b d e : ℕ) → a ≤ b + 1 → IsLeastDepth a d → IsLeastDepth b e → d ≤ e + 1
near_depth a b d e le p q =
    elim (cases_lt (e + 1) d) [
      | inl lt ↦
          let up : 2 ^ (e + 2) ≤ 2 ^ d = pow-le-pow_right {n = 2} (omega arith) {i = e + 2} {j = d} (omega arith) in
          omega (arith, pow-add 2 e 2, p.1, q.0)
      | inr near ↦ near
    ]

pub halves_near : (a b d e : ℕ) → a ≤ b + 1 → b ≤ a → IsLeastDepth a d → IsLeastDepth b e → DifferByAtMostOne d e
halves_near a b d e p q s t = (near_depth a b d e p s t, near_depth b a e d (omega arith) t s)

-- a power of two that is at most twice a count and one is at most twice the count, but for the power 1
even_depth : (a d : ℕ) → 2 ^ d ≤ 2 * a + 1 → 2 ^ (d + 1) ≤ 4 * a + 1 + (1 - a)
even_depth a zero p = omega arith
even_depth a (suc d) p = omega (arith, pow-add 2 (suc d) 1, pow-succ' 2 d)

pub max_swap : (d e : ℕ) → max d e + 1 ≡ max e d + 1
max_swap d e = omega arith

pub halves_depth : (n c a b d e : ℕ) → n ≡ a + b + 1 → c ≡ max d e + 1 → a ≤ b + 1 → b ≤ a → IsLeastDepth a d → IsLeastDepth b e → IsLeastDepth n c
halves_depth n c a b d e count depth p q s t =
    elim (cases_lt d e) [
      | inl lt ↦ rw (count, depth, max-eq_right {n = d} {m = e} (omega arith)) (
          let up : 2 ^ (d + 1) ≤ 2 ^ (e + 1) = pow-le-pow_right {n = 2} (omega arith) {i = d + 1} {j = e + 1} (omega arith) in
          (omega (arith, pow-add 2 d 1, s.0), omega (arith, pow-add 2 e 1, t.1)))
      | inr le ↦ rw (count, depth, max-eq_left {n = d} {m = e} le) (omega (arith, pow-add 2 d 1, s.0), omega (arith, even_depth a d s.1))
    ]
