-- Proofs of `clear`, src/members.rt.
use Rattle.std.proofs.Common.{◌≡◌, ◌*◌, Contains, length, get_or, drop, take, ◌++◌, ap, sym, subst, ◌∙◌, arith, rules}
use Rattle.std.proofs.lemmas.List.{get_or_default}
use Rattle.vertex_sets.specs.inside.Words.{bit_members}
use Rattle.vertex_marks.proofs.Setting.{zero_below, all_zero, none_marked, written_back}
use Rattle.vertex_marks.proofs.vertex_marks.VertexMarks.clear.Goals as goal

pub sums-preserved : goal.sums-preserved
sums-preserved c =
    let self = c.args.self.now in
    let summary = self.summary.items in
    let position = c.sums.position in
    let sum : c.index.result.now ≡ get_or summary position 0 = c.index.ensures ∙ get_or_default summary position c.index.result.now 0 (search rules) in
    record {
      len = c.clear_named.ensures.len ∙ c.sums.invariant.len;
      stay = λ p some. c.sums.invariant.stay p (c.clear_named.ensures.stay p some);
      zero = zero_below c.sums.words c.clear_named.new.words summary position (λ p some. self.summed p (c.sums.invariant.stay p some)) c.clear_named.ensures.stay
          (λ p is. c.clear_named.ensures.clear p (subst (λ n. Contains (bit_members 64 (64 * position) n) p) (sym sum) is)) c.sums.invariant.zero;
    }

pub invariant_of-self : goal.invariant_of-self
invariant_of-self c =
    let self = c.args.self.now in
    let words = c.sums.words in
    let back : take self.words.len (words ++ drop (length words) self.words.items) ≡ words =
    written_back self.words.len self.words.items words (search rules) c.sums.invariant.len in
    let filled : length c.fill.new.self.items ≡ length self.summary.items = search rules in
    let zero = all_zero words (length self.summary.items) c.sums.position (search rules) (omega (arith, c.sums.invariant.len, self.covered)) c.sums.invariant.zero in
    record {
      few = omega (arith, ap length back, c.sums.invariant.len, self.few);
      short = omega (arith, filled, self.short);
      covered = omega (arith, ap length back, c.sums.invariant.len, filled, self.covered);
      summed = λ p some. absurd (some (ap (λ ws. get_or ws p 0) back ∙ zero p));
    }

pub returns-clause-marks : goal.returns-clause-marks
returns-clause-marks c = λ v.
    let self = c.args.self.now in
    let words = c.sums.words in
    let back : take self.words.len (words ++ drop (length words) self.words.items) ≡ words =
    written_back self.words.len self.words.items words (search rules) c.sums.invariant.len in
    let zero = all_zero words (length self.summary.items) c.sums.position (search rules) (omega (arith, c.sums.invariant.len, self.covered)) c.sums.invariant.zero in
    rw back (none_marked words v (zero _))
