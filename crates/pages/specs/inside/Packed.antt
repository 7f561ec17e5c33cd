-- Lists packed in bytes: a first element, how far each other one is above it, and then the weights.
use Rattle.std.specs.Prelude.{◌≡◌, ℕ, zero, suc, ℤ, ◌+◌, ◌-◌, ◌*◌, ◌^◌, ◌<◌, ◌≤◌, List, [], ◌∷◌, length, slice_index, take, drop}
use Rattle.ascending_lists.specs.Ascending.{AscendsFrom}
use Rattle.edge_updates.specs.Weighted.{weighted}
use Rattle.pages.specs.declared.weights.WeightWidth.{WeightWidth}
use Rattle.pages.specs.inside.Numbers.{number_of}
use Rattle.pages.specs.inside.Weights.{weight_size, weights_from}

-- n elements after the first, whose offsets from it are w bytes each
abbrev pub after_first : ℕ → ℕ → ℕ → List ℕ → List ℕ
after_first first w zero bytes = []
after_first first w (suc n) bytes = (first + number_of (take w bytes)) ∷ after_first first w n (drop w bytes)

-- n elements, the first of them and the others by their offsets
abbrev pub list_of : ℕ → ℕ → ℕ → List ℕ → List ℕ
list_of first w zero bytes = []
list_of first w (suc n) bytes = first ∷ after_first first w n bytes

-- n elements whose first is in the first four bytes
abbrev pub elements_in : ℕ → ℕ → List ℕ → List ℕ
elements_in w n bytes = list_of (number_of (take 4 bytes)) w n (drop 4 bytes)

-- n elements with their weights, which are after the offsets
abbrev pub entries_of : ℕ → ℕ → ℕ → WeightWidth → List ℕ → List (ℕ × ℤ)
entries_of first w n v bytes = weighted (list_of first w n bytes) (weights_from v n (drop (w * (n - 1)) bytes))

-- Offsets of an ascending list of n elements, of at most four bytes each, with three bytes after the last.
pub record IsView (first w mask n : ℕ) (bytes : List ℕ) : Type 0 where
  pub some : 0 < w
  pub width : w ≤ 4
  pub mask_is : mask ≡ 2 ^ (8 * w) - 1
  pub few : n ≤ 2048
  pub within : 0 < n → w * (n - 1) + 3 ≤ length bytes
  pub ascends : AscendsFrom 0 (list_of first w n bytes)

-- the same, with the weights after the offsets
pub record IsWeightedView (first w mask n : ℕ) (v : WeightWidth) (bytes : List ℕ) : Type 0 where
  pub view : IsView first w mask n bytes
  pub weights : 0 < n → w * (n - 1) + weight_size v * n ≤ length bytes

-- a list with its weights whose first element is in the first four bytes
abbrev pub packed_in : ℕ → ℕ → WeightWidth → List ℕ → List (ℕ × ℤ)
packed_in w n v bytes = entries_of (number_of (take 4 bytes)) w n v (drop 4 bytes)

-- Bytes are such a list of 1 to 2,048 elements, with three bytes or more after it.
pub record IsPackedIn (w n : ℕ) (v : WeightWidth) (bytes : List ℕ) : Type 0 where
  pub some : 0 < n
  pub view : IsWeightedView (number_of (take 4 bytes)) w (2 ^ (8 * w) - 1) n v (drop 4 bytes)

-- how far the last element is above the first
abbrev pub span_of : List ℕ → ℕ
span_of xs = slice_index xs (length xs - 1) - slice_index xs 0
