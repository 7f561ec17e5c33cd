-- Weights in bytes, the low byte first.
use Rattle.std.specs.Prelude.{◌≡◌, ℕ, zero, suc, ℤ, pos, ◌≤ℤ◌, List, [], ◌∷◌, take, drop}
use Rattle.std.specs.Int.{w32, w64, cast_signed}
use Rattle.std.specs.Int.RustNames.{FitsSigned}
use Rattle.pages.specs.declared.weights.WeightWidth.{WeightWidth}
use Rattle.pages.specs.declared.weights.WeightWidth.TheVariants.{Ones, OneByte, TwoBytes, FourBytes, EightBytes}
use Rattle.pages.specs.inside.Numbers.{number_of}

-- how many bytes each weight takes
abbrev pub weight_size : WeightWidth → ℕ
weight_size Ones = 0
weight_size OneByte = 1
weight_size TwoBytes = 2
weight_size FourBytes = 4
weight_size EightBytes = 8

-- the weight that bytes begin with: of one and of two bytes without a sign, of four and of eight with one
abbrev pub weight_in : WeightWidth → List ℕ → ℤ
weight_in Ones bytes = pos 1
weight_in OneByte bytes = pos (number_of (take 1 bytes))
weight_in TwoBytes bytes = pos (number_of (take 2 bytes))
weight_in FourBytes bytes = cast_signed w32 (number_of (take 4 bytes))
weight_in EightBytes bytes = cast_signed w64 (number_of (take 8 bytes))

-- n weights one after the other
abbrev pub weights_from : WeightWidth → ℕ → List ℕ → List ℤ
weights_from w zero bytes = []
weights_from w (suc n) bytes = weight_in w bytes ∷ weights_from w n (drop (weight_size w) bytes)

-- the weights that a width has bytes for
abbrev pub Allows : WeightWidth → ℤ → Type 0
Allows Ones v = v ≡ pos 1
Allows OneByte v = (pos 0 ≤ℤ v) × (v ≤ℤ pos 255)
Allows TwoBytes v = (pos 0 ≤ℤ v) × (v ≤ℤ pos 65535)
Allows FourBytes v = FitsSigned w32 v
Allows EightBytes v = FitsSigned w64 v

-- the n weights of a column in which those that it lacks are 1
abbrev pub column_of : ℕ → List ℤ → List ℤ
column_of zero ws = []
column_of (suc n) [] = pos 1 ∷ column_of n []
column_of (suc n) (w ∷ ws) = w ∷ column_of n ws
