-- Proofs of `write_all`, src/traits.rt.
-- A write takes the first bytes of what is left.
use Rattle.std.proofs.Common.{◌≡◌, ◌≤◌, ℕ, ◌+◌, ◌-◌, List, ◌++◌, length, take, drop, sym, ap, ◌∙◌, arith, append_assoc, length-drop}
use Rattle.std.proofs.Math.Seq.{take-add}
use Rattle.std.proofs.lemmas.List.{take_rest}
use Rattle.devices.proofs.traits.write_all.Goals as goal

-- the first `count` bytes of what is left go on from the first `written` bytes
written_more : (old mid new bytes : List ℕ) (written count : ℕ)
    → mid ≡ old ++ take written bytes → new ≡ mid ++ take count (take (length bytes - written) (drop written bytes))
    → new ≡ old ++ take (written + count) bytes
written_more old mid new bytes written count so_far bytes_written =
    bytes_written ∙ ap (λ rest. mid ++ take count rest) (take_rest bytes written) ∙ ap (λ front. front ++ take count (drop written bytes)) so_far
    ∙ append_assoc old (take written bytes) (take count (drop written bytes)) ∙ ap (λ all. old ++ all) (sym (take-add written count bytes))

-- it takes no more than is left
within : (bytes : List ℕ) (written count : ℕ) → written ≤ length bytes → count ≤ length (take (length bytes - written) (drop written bytes))
    → written + count ≤ length bytes
within bytes written count so_far bound = let left = rw (take_rest bytes written, length-drop) at bound in omega arith

pub loop-written-preserved : goal.loop-written-preserved
loop-written-preserved g c =
    let before = c.loop-written.invariant in let write = c.in_ok-written.ensures in
    record {
      within = within _ _ _ before.within write.bound;
      bytes_written = written_more _ _ _ _ _ _ before.bytes_written write.bytes_written;
      no_failure = cc;
    }
