-- Proofs of `from_test`, src/flags.rt.
use Rattle.std.proofs.Common.{◌≡◌, ℕ, Bool, true, false, ◌+◌, ◌++◌, ◌∷◌, [], length, length-append, arith, cond, ap, rules}
use Rattle.vertex_sets.specs.inside.Words.{flag_members}
use Rattle.vertex_sets.proofs.FlagMembers.{flag_answer, next_flag, flags_push, length_flags}
use Rattle.vertex_sets.proofs.flags.FlagSet.from_test.Goals as goal
use Rattle.vertex_sets.proofs.flags.FlagSet.from_test.Goals.{then-passes, else-passes}

counted_on : (b : Bool) (n m : ℕ) → b ≡ true → m ≡ n + 1 → m ≡ n + cond b 1 0
counted_on true n m on is = is
counted_on false n m on is = absurd (cc on)

counted_off : (b : Bool) (n m : ℕ) → b ≡ false → m ≡ n → m ≡ n + cond b 1 0
counted_off true n m off is = absurd (cc off)
counted_off false n m off is = omega arith

pub overflow_add-count : goal.overflow_add-count
overflow_add-count g c = omega (arith, c.loop-vertex.invariant.count, c.loop-vertex.invariant.flags, length_flags 0 c.loop-vertex.flags.items)

pub loop-vertex-preserved : goal.loop-vertex-preserved
loop-vertex-preserved g c =
    let l = c.loop-vertex in
    let passes = c.test-passes.result in
    let flags : c.push.new.self.items ≡ l.flags.items ++ passes ∷ [] = search rules in
    let count : c.if-passes.count ≡ l.count + cond passes 1 0 =
    elim c.if-passes.branch [
      | then-passes w ↦ counted_on passes l.count c.if-passes.count w.if-passes.true w.count-is
      | else-passes w ↦ counted_off passes l.count c.if-passes.count w.if-passes.false w.count-is
    ] in
    record {
      flags = omega (arith, l.invariant.flags, ap length flags, length-append l.flags.items (passes ∷ []));
      count = omega (arith, count, l.invariant.count, flags_push 0 l.flags.items passes, ap (λ xs. length (flag_members 0 xs)) flags);
      tested = rw flags (next_flag (λ v b. g.F.Fn.post c.args.test.now (v, tt) b) l.vertex l.flags.items passes l.invariant.flags c.test-passes.ensures l.invariant.tested);
    }

pub returns-clause-tested : goal.returns-clause-tested
returns-clause-tested g c = λ v lt. flag_answer (λ u b. g.F.Fn.post c.args.test.now (u, tt) b) c.loop-vertex.flags.items v (c.loop-vertex.invariant.tested v (omega arith))
