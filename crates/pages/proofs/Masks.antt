-- Numbers of a few bytes, cut out of more bytes.
use Rattle.std.proofs.Common.{◌≡◌, ℕ, zero, suc, ◌+◌, ◌-◌, ◌*◌, ◌/◌, ◌%◌, ◌^◌, ◌<◌, ◌≤◌, List, [], ◌∷◌, get_or, take, ◌∙◌, ap, arith, bit_and}
use Rattle.std.proofs.lemmas.Nat.{mod-pow-add, and_mask, pow_pos}
use native.Mathlib.Nat.{mod-eq_of_lt}
use Rattle.pages.specs.inside.Numbers.{number_of}

-- the low bytes of a number make a number below the power of 2 of their bits
pub number_cut : (w m : ℕ) (bytes : List ℕ) → ((i : ℕ) → get_or bytes i 0 < 256) → w ≤ m → number_of (take m bytes) % 2 ^ (8 * w) ≡ number_of (take w bytes)
number_cut zero m bytes small le = omega arith
number_cut (suc w) zero bytes small le = absurd (omega arith)
number_cut (suc w) (suc m) [] small le = mod-eq_of_lt (pow_pos (8 * suc w))
number_cut (suc w) (suc m) (b ∷ bytes) small le =
    let n : ℕ = number_of (take m bytes) in
    let first : b < 256 = small 0 in
    let power : 8 * suc w ≡ 8 * w + 8 = omega arith in
    let cut : (b + 256 * n) % 2 ^ (8 * w + 8) ≡ ((b + 256 * n) / 2 ^ 8 % 2 ^ (8 * w)) * 2 ^ 8 + (b + 256 * n) % 2 ^ 8 = mod-pow-add (b + 256 * n) (8 * w) 8 in
    let high : (b + 256 * n) / 2 ^ 8 ≡ n = omega arith in
    let low : (b + 256 * n) % 2 ^ 8 ≡ b = omega arith in
    let rest : n % 2 ^ (8 * w) ≡ number_of (take w bytes) = number_cut w m bytes (λ i. small (suc i)) (omega arith) in
    ap (λ k. (b + 256 * n) % 2 ^ k) power ∙ cut ∙ ap (λ h. (h % 2 ^ (8 * w)) * 2 ^ 8 + (b + 256 * n) % 2 ^ 8) high ∙ omega (arith, rest, low)

-- a mask of n bytes cuts them out of four
pub masked : (w mask : ℕ) (bytes : List ℕ) → ((i : ℕ) → get_or bytes i 0 < 256) → w ≤ 4 → mask ≡ 2 ^ (8 * w) - 1 → bit_and (number_of (take 4 bytes)) mask ≡ number_of (take w bytes)
masked w mask bytes small le is = ap (bit_and (number_of (take 4 bytes))) is ∙ and_mask (number_of (take 4 bytes)) (8 * w) ∙ number_cut w 4 bytes small le
