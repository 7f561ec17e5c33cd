-- Proofs of `numbers_in_slot`, src/gathered.rt.
use Rattle.std.proofs.lemmas.Result.{IfOk-at_ok}
use Rattle.std.proofs.Common.{◌≡◌, ◌++◌, ℕ, ℤ, Bool, true, false, cond, if◌then◌else◌, List, Option, Contains, refl, sym, ap, ◌∙◌, subst}
use Rattle.std.proofs.lemmas.List.Kept.{IsNonDecreasingBy-filter}
use Rattle.std.specs.List.{filter}
use Rattle.std.specs.List.Sorted.{IsNonDecreasing}
use Rattle.kernels.specs.declared.endpoint_filter.EndpointFilter.{EndpointFilter}
use Rattle.edge_fold.proofs.Endings.{if_each_ok}
use Rattle.edge_fold.specs.declared.apply_context.FoldStart.TheVariants as start
use Rattle.edge_fold.specs.Ends.{IsEndTest}
use Rattle.edge_fold.specs.FoldStarts.{combined_with_seed}
use Rattle.edge_fold.proofs.Findings.{kept_passes, not_kept}
use Rattle.edge_fold.proofs.Gathering.{onto}
use Rattle.edge_fold.proofs.gathered.numbers_in_slot.Goals as goal

same_either : (t : Bool) (y h : ℤ) → y ≡ h → cond t y h ≡ h
same_either true y h e = e
same_either false y h e = refl

pub returns-in-None-clause-given : goal.returns-in-None-clause-given
returns-in-None-clause-given c =
    if_each_ok c.numbers.result _ (λ found was m test vectors sizes is r v h l.
    let e = c.args.slot.now.entries in
    let same = c.deref.ensures.value in
    let all = subst (λ (o : Option EndpointFilter). IsEndTest o m test) c.in-None.is is in
    let marked = c.in_ok-marked.ensures in
    IfOk-at_ok _ was (c.numbers.ensures.given (subst (λ (ks : List ℕ). IsNonDecreasing ks) (sym same) marked.ascending) r h (λ u. if test u then onto r e u h else h)
    (λ u has. ap (λ (b : Bool). if b then onto r e u h else h) (all u))
    (λ u k absent. same_either (test u) (onto r e u h) h (marked.covers (combined_with_seed start.Unit r) u h (λ has. absent (subst (λ (ks : List ℕ). Contains ks u) (sym same) has)))))
    v l)

pub returns-clause-given : goal.returns-clause-given
returns-clause-given c =
    if_each_ok c.numbers-in-Some.result _ (λ found was m test vectors sizes is r v h l.
    let e = c.args.slot.now.entries in
    let vertices = c.in_ok-marked.marked.items in
    let marked = c.in_ok-marked.ensures in
    let some = subst (λ (o : Option EndpointFilter). IsEndTest o m test) c.in-Some.is is in
    let same = c.deref-in-Some-2.ensures.value ∙ c.in_ok-keep_passing-in-Some.ensures m test vectors sizes some
    ∙ ap (λ (ks : List ℕ). ks ++ filter test c.deref-in-Some.result.now) c.new-kept.ensures.items ∙ ap (filter test) c.deref-in-Some.ensures.value in
    let rising = IsNonDecreasingBy-filter (λ (x : ℕ). x) test vertices marked.ascending in
    IfOk-at_ok _ was (c.numbers-in-Some.ensures.given (subst (λ (ks : List ℕ). IsNonDecreasing ks) (sym same) rising) r h (λ u. if test u then onto r e u h else h)
    (λ u has. ap (λ (b : Bool). if b then onto r e u h else h) (kept_passes test vertices u (subst (λ (ks : List ℕ). Contains ks u) same has)))
    (λ u k absent. not_kept test vertices u (test u) (onto r e u h) h refl (λ has. absent (subst (λ (ks : List ℕ). Contains ks u) (sym same) has))
    (λ has. marked.covers (combined_with_seed start.Unit r) u h has)))
    v l)
