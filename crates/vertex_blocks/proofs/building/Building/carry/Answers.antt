-- Proofs of `carry`, src/building.rt.
use Rattle.std.proofs.Common.{◌≡◌, ◌++◌, slice_range, sym, ◌∙◌, ap, subst, arith}
use Rattle.std.specs.Option.{option_copied}
use Rattle.pages.specs.Vertices.{neighbours_of, count_below}
use Rattle.pages.proofs.Building.{packed_some, below_up, below_all}
use Rattle.vertex_blocks.specs.Blocks.{vertices_at}
use Rattle.vertex_blocks.specs.inside.Steps.{IsBuilt}
use Rattle.vertex_blocks.proofs.Sums.{lists_some}
use Rattle.vertex_blocks.proofs.Carrying.{carried_rise, built_carried, built_nothing}
use Rattle.vertex_blocks.proofs.Putting.{on_ok_then}
use Rattle.vertex_blocks.proofs.building.Building.carry.Goals as goal

pub returns-in_default : goal.returns-in_default
returns-in_default c = λ f ok same.
    built_nothing f c.args.low c.args.high c.args.self.now.page c.args.self.now.long c.requires.order c.requires.within
    (λ u ge lt. same u ge lt ∙ ap (λ o. neighbours_of u (vertices_at (option_copied o))) c.in_default.is) ok

pub push_run-requires-clause-order : goal.push_run-requires-clause-order
push_run-requires-clause-order c = omega (arith, c.index.ensures.index, c.index-2.ensures.index, below_up c.args.low c.args.high c.parts.result.0.now c.requires.order)

pub push_run-requires-clause-within : goal.push_run-requires-clause-within
push_run-requires-clause-within c = omega (arith, c.index-2.ensures.index, below_all c.args.high c.parts.result.0.now)

pub push_run-requires-clause-map : goal.push_run-requires-clause-map
push_run-requires-clause-map c =
    let page = c.parts.ensures.page in
    let built = c.requires.built.1 in
    rw (c.index.ensures.index, c.index-2.ensures.index) (carried_rise c.parts.result.0.now page.map
    (packed_some c.parts.result.0.now page.packed) built.small c.args.low c.args.high c.args.self.now.page c.requires.order built.page c.requires.within)

pub push_run-requires-2-clause-order : goal.push_run-requires-2-clause-order
push_run-requires-2-clause-order c = omega (arith, c.index-3.ensures.index, c.index-4.ensures.index, below_up c.args.low c.args.high c.parts.result.1.now c.requires.order)

pub push_run-requires-2-clause-within : goal.push_run-requires-2-clause-within
push_run-requires-2-clause-within c = omega (arith, c.index-4.ensures.index, below_all c.args.high c.parts.result.1.now)

pub push_run-requires-2-clause-map : goal.push_run-requires-2-clause-map
push_run-requires-2-clause-map c =
    let long = c.parts.ensures.long in
    let built = c.requires.built.1 in
    rw (c.index-3.ensures.index, c.index-4.ensures.index) (carried_rise c.parts.result.1.now long.map
    (lists_some c.parts.result.1.now long.lists) built.large c.args.low c.args.high c.args.self.now.long c.requires.order built.long c.requires.within)

pub returns : goal.returns
returns c =
    let low = c.args.low in
    let high = c.args.high in
    let p = c.args.self.now.page in
    let s = c.args.self.now.long in
    let p' = c.parts.result.0.now in
    let s' = c.parts.result.1.now in
    let page_is : c.push_run.new.self ≡ p ++ slice_range p' (count_below low p') (count_below high p') =
    c.in_ok-push_run.ensures.ok ∙ ap (λ i. p ++ slice_range p' i c.index-2.result) c.index.ensures.index ∙ ap (λ i. p ++ slice_range p' (count_below low p') i) c.index-2.ensures.index in
    on_ok_then c.push_run-2.result (c.push_run-2.new.self ≡ s ++ slice_range s' c.index-3.result c.index-4.result) _
    (λ is f ok same.
    let sets_is : c.push_run-2.new.self ≡ s ++ slice_range s' (count_below low s') (count_below high s') =
    is ∙ ap (λ i. s ++ slice_range s' i c.index-4.result) c.index-3.ensures.index ∙ ap (λ i. s ++ slice_range s' (count_below low s') i) c.index-4.ensures.index in
    subst (λ q. IsBuilt f high q c.push_run-2.new.self) (sym page_is)
    (subst (IsBuilt f high (p ++ slice_range p' (count_below low p') (count_below high p'))) (sym sets_is)
    (built_carried f low high p s c.in-Some.block.now p' s' c.parts.ensures c.requires.order c.requires.within
    (λ u ge lt. same u ge lt ∙ ap (λ o. neighbours_of u (vertices_at (option_copied o))) c.in-Some.is) ok)))
    c.push_run-2.ensures
