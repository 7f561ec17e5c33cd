-- Proofs of `members`, src/members.rt.
use Rattle.std.proofs.Common.{◌≡◌, ◌++◌, ◌*◌, ◌/◌, ◌%◌, ◌<◌, length, get_or, Contains, ap, sym, subst, ◌∙◌, rules, take_all}
use Rattle.std.proofs.lemmas.Bool.{eqb-true, eq-eqb}
use Rattle.std.proofs.lemmas.List.{get_or_default}
use Rattle.std.specs.Int.{bit_at}
use Rattle.std.specs.List.Sorted.{IsStrictlyIncreasing}
use Rattle.vertex_sets.specs.inside.Words.{bit_members, word_members}
use Rattle.vertex_marks.specs.inside.Named.{named_members}
use Rattle.vertex_marks.proofs.Naming.{summary_listed, members_increase, members_have}
use Rattle.vertex_marks.proofs.vertex_marks.VertexMarks.members.Goals as goal

pub sums-preserved : goal.sums-preserved
sums-preserved c =
    let words = c.args.self.now.words.items in
    let summary = c.args.self.now.summary.items in
    let position = c.sums.position in
    let within : position < length summary = search rules in
    let sum : c.index.result.now ≡ get_or summary position 0 = c.index.ensures ∙ get_or_default summary position c.index.result.now 0 within in
    let pushed : c.push_named.new.found.items ≡ c.sums.found.items ++ named_members words (bit_members 64 (64 * position) c.index.result.now) = search rules in
    let listed = pushed ∙ ap (λ n. c.sums.found.items ++ named_members words (bit_members 64 (64 * position) n)) sum in
    summary_listed words c.sums.found.items c.push_named.new.found.items summary position within c.sums.invariant listed

pub returns-clause-ascending : goal.returns-clause-ascending
returns-clause-ascending c =
    let words = c.args.self.now.words.items in
    let summary = c.args.self.now.summary.items in
    let whole = c.sums.invariant ∙ ap (λ ss. named_members words (word_members 0 ss)) (take_all c.sums.position summary (search rules)) in
    subst (λ vs. IsStrictlyIncreasing vs) (sym whole) (members_increase words summary)

pub returns-clause-marked : goal.returns-clause-marked
returns-clause-marked c = λ v.
    let words = c.args.self.now.words.items in
    let summary = c.args.self.now.summary.items in
    let whole = c.sums.invariant ∙ ap (λ ss. named_members words (word_members 0 ss)) (take_all c.sums.position summary (search rules)) in
    let have = members_have words summary v c.args.self.now.summed in
    let bit = bit_at (get_or words (v / 64) 0) (v % 64) in
    (λ is. eq-eqb bit 1 (have.0 (subst (λ vs. Contains vs v) whole is)), λ on. subst (λ vs. Contains vs v) (sym whole) (have.1 (eqb-true bit 1 on)))
