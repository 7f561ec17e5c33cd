-- Proofs of `has_same_entries`, src/differing_vertices.rt.
use Rattle.std.proofs.Common.{ℤ, pos, List, slice_index_or, ap, sym, ◌∙◌}
use Rattle.std.specs.Cmp.Rules.{signed_items}
use Rattle.follow_engine.proofs.differing_vertices.has_same_entries.Goals as goal

pub returns-in-Some-Some : goal.returns-in-Some-Some
returns-in-Some-Some c same v =
    let is = (signed_items c.in-Some-Some.entries.now c.in-Some-Some.others.now).0 (sym c.eq.ensures ∙ same) in
    sym (c.lane.ensures v) ∙ sym (c.in-Some-Some.ensures.entries v) ∙ ap (λ (ns : List ℤ). slice_index_or ns v (pos 0)) is
    ∙ c.in-Some-Some.ensures'.entries v ∙ c.lane-2.ensures v
