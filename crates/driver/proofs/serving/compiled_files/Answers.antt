-- Proofs of `compiled_files`, src/serving.rt.
use Rattle.std.proofs.Common.{◌≤◌, ◌<◌, List, ℕ, length, map, ap, arith, Bor}
use Rattle.std.proofs.lemmas.List.{drop_all}
use Rattle.std.proofs.lemmas.Result.{err_from_is_err_and}
use Rattle.driver.proofs.Compiling.{all_compiled, compiled_at, holds_kept, lacks_at, memory_ends, nothing_compiled}
use Rattle.driver.proofs.serving.compiled_files.Goals as goal

pub returns : goal.returns
returns g c =
    let past : length c.args.names.now ≤ c.names.name-index = omega (arith, c.names-test.false, c.names.auto.name-index-end) in
    all_compiled _ _ _ _ _ c.names.invariant (ap (map (λ (n : Bor (List ℕ)). n.now)) (drop_all c.names.name-index c.args.names.now past))

pub names-preserved : goal.names-preserved
names-preserved g c =
    let within : c.names.name-index < length c.args.names.now = omega (arith, c.names-test.true, c.names.auto.name-index-end) in
    compiled_at _ _ _ c.args.names.now c.names.name-index _ c.names.compiled.items _ c.in_ok-shared.field-0 within c.names.invariant
    (holds_kept _ c.in_ok-plan.plan c.in_ok-shared.field-0 c.in_ok-shared.ensures c.in_ok-plan.ensures) c.in_ok-push.ensures.items

pub returns-in_err-plan : goal.returns-in_err-plan
returns-in_err-plan g c =
    let within : c.names.name-index < length c.args.names.now = omega (arith, c.names-test.true, c.names.auto.name-index-end) in
    let p = err_from_is_err_and c.from_residual.result c.from_residual.ensures.1 in
    rw (p.1, p.2) (lacks_at _ _ _ c.args.names.now c.names.name-index _ c.names.compiled.items c.in_err-plan.field-0.0 within c.names.invariant c.in_err-plan.ensures)

pub names-init : goal.names-init
names-init g c = nothing_compiled _ _ _ c.new-compiled.result.items c.new-compiled.ensures.items

pub returns-in_err-push : goal.returns-in_err-push
returns-in_err-push g c =
    let p = err_from_is_err_and c.from_residual-in_err-push.result c.from_residual-in_err-push.ensures.1 in
    rw (p.1, p.2) (memory_ends _ _ _ _ _ c.names.invariant)

pub returns-in_err-shared : goal.returns-in_err-shared
returns-in_err-shared g c =
    let p = err_from_is_err_and c.from_residual-in_err-shared.result c.from_residual-in_err-shared.ensures.1 in
    rw (p.1, p.2) (memory_ends _ _ _ _ _ c.names.invariant)
