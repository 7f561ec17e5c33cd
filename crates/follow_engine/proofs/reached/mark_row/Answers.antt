-- Proofs of `mark_row`, src/reached.rt.
use Rattle.std.proofs.Common.{ℕ, ℤ, ◌==◌, ◌||◌, Bool, List, refl, ap, ◌∙◌}
use Rattle.std.specs.List.{list_any}
use Rattle.vertex_marks.specs.Marks.{is_marked}
use Rattle.follow_engine.proofs.Marked.{row_leads}
use Rattle.follow_engine.proofs.reached.mark_row.Goals as goal

pub destinations-init : goal.destinations-init
destinations-init c = record {
  room = refl;
  marks = λ v l.
      ap (λ (ds : List (ℕ × ℤ)). is_marked c.args.marks.now v || list_any (λ d. d.0 == v) ds) (c.into_iter-destination-iterator.ensures.into_iter_gives ∙ c.out-destination-items.ensures)
      ∙ ap (λ (b : Bool). is_marked c.args.marks.now v || b) (row_leads c.args.flat.now.edges c.args.source v);
}
