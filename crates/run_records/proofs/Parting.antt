-- Ends of one kind.
use Rattle.std.proofs.Common.{◌≡◌, ℕ, true, Option, Some, None, List, IfSome}
use Rattle.std.specs.Borrow.{Bor}
use Rattle.std.specs.List.{filter}
use Rattle.kernels.specs.Local.{is_local_code}
use Rattle.kernels.specs.declared.kernel.FilterKernel.{FilterKernel}
use Rattle.kernels.specs.declared.endpoint_filter.EndpointFilter.{EndpointFilter}
use Rattle.kernels.specs.declared.endpoint_filter.EndpointFilter.TheVariants as end
use Rattle.follow_engine.specs.Following.{AreEndsBut}
use Rattle.run_records.specs.inside.Ends.{AreOfOneKind}

-- if both ends let all through, or are the same filter, which reads no other vertex, they differ nowhere
pub alike_if_all : (listed : List ℕ) (was : Option EndpointFilter) → AreOfOneKind None was → AreEndsBut listed None was
alike_if_all listed None is = tt
alike_if_all listed (Some e) is = absurd is

pub alike_if_filter : (listed : List ℕ) (filter : Bor FilterKernel) (was : Option EndpointFilter) → AreOfOneKind (Some (end.Filter filter)) was
    → is_local_code filter.now.code.items ≡ true → AreEndsBut listed (Some (end.Filter filter)) was
alike_if_filter listed filter None is local = absurd is
alike_if_filter listed filter (Some (end.Members set)) is local = absurd is
alike_if_filter listed filter (Some (end.Filter other)) is local = (is, local)

-- what follows from a fact of an answer, if there is one
pub if_some : {A : Type 0} (P Q : A → Type 0) (o : Option A) → ((a : A) → P a → Q a) → IfSome o P → IfSome o Q
if_some P Q None f p = tt
if_some P Q (Some a) f p = f a p
