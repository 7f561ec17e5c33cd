-- Proofs of `copied_slice`, src/vector_copies.rt.
use Rattle.std.proofs.Common.{◌≡◌, pos, [], slice_index_or, length, ◌∙◌, rules}
use Rattle.vectors.proofs.Layouts.{same_lists}
use Rattle.run_records.proofs.vector_copies.copied_slice.Goals as goal

pub returns-in_ok-copy-in-Some : goal.returns-in_ok-copy-in-Some
returns-in_ok-copy-in-Some c =
    let entries = c.in-Some.entries.now in
    let own = slice_index_or c.args.vectors.now.vectors c.args.vector [] in
    let long : length entries ≡ length own = search rules in
    c.new.ensures ∙ c.in_ok-copy-in-Some.ensures.items ∙ same_lists entries own (pos 0) long (λ v l. c.in-Some.ensures.entries v ∙ c.lane.ensures v)
