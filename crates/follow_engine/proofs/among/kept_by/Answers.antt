-- Proofs of `kept_by`, src/among.rt.
use Rattle.std.proofs.Common.{◌++◌, ℕ, List, sym, ap, ◌∙◌, subst}
use Rattle.std.specs.List.{filter}
use Rattle.kernels.specs.Registers.{HasSizes}
use Rattle.edge_fold.specs.declared.apply_context.ApplyContext.{ApplyContext}
use Rattle.follow_engine.proofs.among.kept_by.Goals as goal

pub returns : goal.returns
returns c m test vectors sizes is =
    let context = c.context-context.ensures.context in
    c.in_ok-keep_passing.ensures.kept m test (ap (λ (f : ApplyContext). f.vectors.now.vectors) context ∙ vectors) (subst (λ (f : ApplyContext). HasSizes f.sizes.now m) (sym context) sizes) is
    ∙ ap (λ (ks : List ℕ). ks ++ filter test c.args.vertices.now) c.new-kept.ensures.items
