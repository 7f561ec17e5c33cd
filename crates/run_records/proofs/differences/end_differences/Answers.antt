-- Proofs of `end_differences`, src/differences.rt.
use Rattle.std.proofs.Common.{rules, ◌≡◌, Option, Some, IfOk, IfSome, sym, subst}
use Rattle.kernels.specs.declared.endpoint_filter.EndpointFilter.{EndpointFilter}
use Rattle.kernels.specs.declared.endpoint_filter.EndpointFilter.TheVariants as end
use Rattle.follow_engine.specs.Following.{AreEndsBut}
use Rattle.run_records.specs.inside.Ends.{AreOfOneKind}
use Rattle.run_records.proofs.Parting.{alike_if_all, alike_if_filter, if_some}
use Rattle.run_records.proofs.differences.end_differences.Goals as goal

pub returns-in-None : goal.returns-in-None
returns-in-None c =
    let kind = subst (λ (o : Option EndpointFilter). AreOfOneKind o c.args.was) c.in-None.is c.requires in
    subst (λ (o : Option EndpointFilter). AreEndsBut c.new.result.items o c.args.was) (sym c.in-None.is) (alike_if_all c.new.result.items c.args.was kind)

pub returns-in-Some-Filter : goal.returns-in-Some-Filter
returns-in-Some-Filter c =
    let filter = c.in-Some-Filter.filter in
    let named : c.args.now ≡ Some (end.Filter filter) = search rules in
    let kind = subst (λ (o : Option EndpointFilter). AreOfOneKind o c.args.was) named c.requires in
    if_some _ _ c.no_difference.result
    (λ listed local. subst (λ (o : Option EndpointFilter). AreEndsBut listed.items o c.args.was) (sym named) (alike_if_filter listed.items filter c.args.was kind local))
    c.no_difference.ensures

pub returns-in-Some-Members : goal.returns-in-Some-Members
returns-in-Some-Members c =
    let set = c.in-Some-Members.set in
    let named : c.args.now ≡ Some (end.Members set) = search rules in
    subst (λ (o : Option EndpointFilter). IfOk c.set_differences.result (λ found. IfSome found (λ listed. AreEndsBut listed.items o c.args.was))) (sym named)
    c.set_differences.ensures
