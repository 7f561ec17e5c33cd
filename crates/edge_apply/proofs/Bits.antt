-- Bits of words, and the vertices that pass among the first ones.
use Rattle.std.proofs.Common.{◌≡◌, ℕ, zero, suc, ◌+◌, ◌-◌, ◌/◌, ◌%◌, ◌≤◌, ◌==◌, nat_lt, nat_le, Bool, true, false, ◌||◌, ◌&&◌, slice_index, List, refl, ap, ◌∙◌, arith}
use Rattle.std.proofs.lemmas.Bool.Decides.{Decides-eqb, nat_tests}
use Rattle.std.specs.Int.{bit_at}
use Rattle.std.specs.List.{filter, range_with_len}
use Rattle.kernels.specs.EdgeApply.{is_member}
use Rattle.vertex_sets.specs.VertexSet.{AreWordsOf, VertexSubset}
use Rattle.edge_fold.proofs.Findings.{member_is}
use Rattle.edge_apply.proofs.Listed.{member_filtered}
use Rattle.edge_apply.specs.Words.{is_set}

-- the bits of a set's words are those of its members
pub words_have_members : (s : VertexSubset) (words : List ℕ) → AreWordsOf s words → (v : ℕ) → is_set words v ≡ is_member v s.members
words_have_members s words are v =
    let is_one = Decides-eqb (bit_at (slice_index words (v / 64)) (v % 64)) 1 in
    member_is v s.members (is_set words v) (λ on. (are.members v).1 (is_one.0 on), λ has. is_one.1 ((are.members v).0 has))

-- the numbers in a row
in_row_at : (v a n : ℕ) (b : Bool) → (a == v) ≡ b → b || (nat_le (a + 1) v && nat_lt v (a + 1 + n)) ≡ nat_le a v && nat_lt v (a + suc n)
in_row_at v a n true e = grind (arith, nat_tests)
in_row_at v a n false e = grind (arith, nat_tests)

nothing_in_row : (v a : ℕ) → false ≡ nat_le a v && nat_lt v (a + 0)
nothing_in_row v a = grind (arith, nat_tests)

member_in_row : (v a n : ℕ) → is_member v (range_with_len a n) ≡ nat_le a v && nat_lt v (a + n)
member_in_row v a zero = nothing_in_row v a
member_in_row v a (suc n) = ap (λ (b : Bool). (a == v) || b) (member_in_row v (a + 1) n) ∙ in_row_at v a n (a == v) refl

both_parts : (v a stop : ℕ) (t : Bool) → a ≤ stop → (t && nat_lt v a) || ((nat_le a v && nat_lt v stop) && t) ≡ t && nat_lt v stop
both_parts v a stop true l = grind (arith, nat_tests)
both_parts v a stop false l = grind (arith, nat_tests)

-- those that pass among the numbers below an index, and from it on up to another
pub passing_more : (test : ℕ → Bool) (v a stop : ℕ) → a ≤ stop → (test v && nat_lt v a) || is_member v (filter test (range_with_len a (stop - a))) ≡ test v && nat_lt v stop
passing_more test v a stop l =
    let whole : a + (stop - a) ≡ stop = omega (arith, l) in
    ap (λ (b : Bool). (test v && nat_lt v a) || b) (member_filtered test v (range_with_len a (stop - a))
    ∙ ap (λ (b : Bool). b && test v) (member_in_row v a (stop - a) ∙ ap (λ (k : ℕ). nat_le a v && nat_lt v k) whole))
    ∙ both_parts v a stop (test v) l
