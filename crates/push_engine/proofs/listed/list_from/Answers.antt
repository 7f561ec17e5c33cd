-- Proofs of `list_from`, src/listed.rt.
use Rattle.std.proofs.Common.{ℕ, List, sym, ap, ◌∙◌, subst}
use Rattle.std.specs.List.{filter, range_with_len}
use Rattle.kernels.specs.EdgeApply.{is_member}
use Rattle.edge_apply.specs.inside.Lists.{AscendsFrom}
use Rattle.edge_apply.proofs.Listed.{ascends}
use Rattle.push_engine.proofs.SourceLists.{filtered_sources}
use Rattle.vertex_sets.proofs.Ascending.{rises_range}
use Rattle.push_engine.proofs.listed.list_from.Goals as goal

pub returns-then-eq-clause-sources : goal.returns-then-eq-clause-sources
returns-then-eq-clause-sources c m test vectors sizes is =
    let g = c.args.apply.now.flat.now in
    let list = c.in_ok-sources.ensures.list in
    record {
      ascending = subst (λ (us : List ℕ). AscendsFrom 0 us) (sym list) (ascends 0 (range_with_len 0 g.vertices) (rises_range 0 g.vertices));
      passing = λ u some. ap (λ (us : List ℕ). is_member u (filter test us)) list ∙ filtered_sources g test c.in_ok-sources.ensures.graph u some;
    }
