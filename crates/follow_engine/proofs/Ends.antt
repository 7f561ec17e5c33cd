-- The tests of a former apply's ends, and where they agree with those of an apply.
use Rattle.std.proofs.Common.{◌≡◌, ℕ, ℤ, Bool, true, false, Option, Some, None, List, refl, sym, ◌∙◌, subst}
use Rattle.algorithm_meaning.specs.Function.{result_of}
use Rattle.kernels.specs.EdgeApply.{is_member}
use Rattle.kernels.specs.Registers.{HasSizes}
use Rattle.kernels.specs.State.{StateValue}
use Rattle.kernels.specs.declared.endpoint_filter.EndpointFilter.{EndpointFilter}
use Rattle.kernels.specs.declared.endpoint_filter.EndpointFilter.TheVariants as end
use Rattle.kernels.specs.declared.kernel.FilterKernel.{FilterKernel}
use Rattle.kernels.specs.Kernels.{IsFilterKernel}
use Rattle.edge_fold.specs.Ends.{IsEndTest}
use Rattle.follow_engine.specs.Following.{AreEndsBut}
use Rattle.follow_engine.specs.Local.{AgreeAt}
use Rattle.follow_engine.specs.Reached.{may_pass}
use Rattle.follow_engine.proofs.Local.{result_alike}

-- a test of the former end that agrees with this one outside the listed vertices, if a filter reads the same there
pub record HasFormerTest (listed : List ℕ) (now was : Option EndpointFilter) (m k : StateValue) (test : ℕ → Bool) : Type 0 where
  pub former : ℕ → Bool
  pub is : IsEndTest was k former
  pub agrees : (v : ℕ) → is_member v listed ≡ false → (may_pass now v ≡ true → AgreeAt m.vectors k.vectors v) → test v ≡ former v
  pub may : (v : ℕ) → test v ≡ true → may_pass now v ≡ true
  pub might : (v : ℕ) → former v ≡ true → may_pass was v ≡ true

pub former_test : (listed : List ℕ) (now was : Option EndpointFilter) (m k : StateValue) (test : ℕ → Bool) (ms ks : List ℤ) → HasSizes ms m → HasSizes ks k
    → AreEndsBut listed now was → IsEndTest now m test → HasFormerTest listed now was m k test
former_test listed None None m k test ms ks sized also but is =
    record { former = λ v. true; is = λ v. refl; agrees = λ v out at. is v; may = λ v on. refl; might = λ v on. refl }
former_test listed None (Some e) m k test ms ks sized also but is = absurd but
former_test listed (Some (end.Members a)) None m k test ms ks sized also but is = absurd but
former_test listed (Some (end.Members a)) (Some (end.Members b)) m k test ms ks sized also but is = record {
  former = λ v. is_member v b.now.members;
  is = λ v. refl;
  agrees = λ v out at. is v ∙ but v out;
  may = λ v on. sym (is v) ∙ on;
  might = λ v on. on;
}
former_test listed (Some (end.Members a)) (Some (end.Filter b)) m k test ms ks sized also but is = absurd but
former_test listed (Some (end.Filter a)) None m k test ms ks sized also but is = absurd but
former_test listed (Some (end.Filter a)) (Some (end.Members b)) m k test ms ks sized also but is = absurd but
former_test listed (Some (end.Filter a)) (Some (end.Filter b)) m k test ms ks sized also but is = record {
  former = λ v. result_of is.steps k.sets k.vectors v;
  is = record { steps = is.steps; of = subst (λ (f : FilterKernel). IsFilterKernel f is.steps) but.0 is.of; result = λ v. refl };
  agrees = λ v out at. is.result v ∙ result_alike a.now is.steps is.of but.1 m k ms ks sized also v (at refl);
  may = λ v on. refl;
  might = λ v on. refl;
}
