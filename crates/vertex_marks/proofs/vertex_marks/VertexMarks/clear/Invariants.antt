use Rattle.std.proofs.Common.{◌≡◌, ◌≢◌, ◌*◌, ◌<◌, ℕ, length, get_or}
use Rattle.vertex_marks.proofs.vertex_marks.VertexMarks.clear.Given as goal

abbrev pub invariant-sums : goal.invariant-sums
invariant-sums l = record {
  len : length l.words ≡ length l.fn.self.words.items;
  stay : (p : ℕ) → get_or l.words p 0 ≢ 0 → get_or l.fn.self.words.items p 0 ≢ 0;
  zero : (p : ℕ) → p < 64 * l.position → get_or l.words p 0 ≡ 0;
}
