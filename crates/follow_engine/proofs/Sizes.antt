-- A state is made up for a record: it has the record's vectors, and sets of the sizes that it keeps.
use Rattle.std.proofs.Common.{◌≡◌, ℕ, zero, suc, ℤ, pos, FitsSigned, List, [], ◌∷◌, length, slice_get, slice_index_or, refl, sym, ap, ◌∙◌}
use Rattle.std.proofs.Math.ListN.{replicate}
use Rattle.std.proofs.lemmas.Int.{to_z-of_z}
use Rattle.std.proofs.lemmas.List.{length-replicate}
use Rattle.std.specs.Int.{cast_signed, cast_unsigned, w64}
use Rattle.algorithm_meaning.specs.declared.state.SetBinding.{SetBinding}
use Rattle.kernels.specs.Registers.{HasSizes}
use Rattle.kernels.specs.State.{StateValue, main_scope}
use Rattle.kernels.specs.Value.{members_of}

-- a set of this size
abbrev set_of_size : ℤ → SetBinding
set_of_size z = record { name = 0; members = replicate (cast_unsigned w64 z) 0 }

abbrev sets_of_sizes : List ℤ → List SetBinding
sets_of_sizes [] = []
sets_of_sizes (z ∷ zs) = set_of_size z ∷ sets_of_sizes zs

abbrev pub made_up : List (List ℤ) → (sizes : List ℤ) → StateValue
made_up vectors sizes = record { vectors = vectors; sets = sets_of_sizes sizes; scope = main_scope; text = []; turns = 0 }

size_at : (zs : List ℤ) (p : ℕ) → FitsSigned w64 (slice_index_or zs p (pos 0)) → slice_index_or zs p (pos 0) ≡ cast_signed w64 (length (members_of (slice_get (sets_of_sizes zs) p)))
size_at [] zero fits = refl
size_at [] (suc p) fits = refl
size_at (z ∷ zs) zero fits = sym (ap (cast_signed w64) (length-replicate (cast_unsigned w64 z) 0) ∙ to_z-of_z w64 z fits)
size_at (z ∷ zs) (suc p) fits = size_at zs p fits

pub has_sizes : (vectors : List (List ℤ)) (sizes : List ℤ) → ((p : ℕ) → FitsSigned w64 (slice_index_or sizes p (pos 0))) → HasSizes sizes (made_up vectors sizes)
has_sizes vectors sizes fit p = size_at sizes p (fit p)
