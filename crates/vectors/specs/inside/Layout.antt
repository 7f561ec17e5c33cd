-- Where vectors stand.
use Rattle.std.specs.Prelude.{◌≡◌, ℕ, ◌+◌, ◌*◌, ◌^◌, ◌<◌, ◌≤◌, ℤ, pos, List, [], length, map, slice_index_or}
use Rattle.std.specs.List.{range_with_len}
use Rattle.vectors.specs.declared.location.Location.{Location}

abbrev pub nowhere : Location
nowhere = record { array = 0; first = 0; stride = 0; vertices = 0 }

abbrev pub location_at : List Location → ℕ → Location
location_at ls i = slice_index_or ls i nowhere

-- a vector in the array of its own index
abbrev pub own_location : List (List ℤ) → ℕ → Location
own_location arrays i = record { array = i; first = 0; stride = 1; vertices = length (slice_index_or arrays i []) }

-- the number in an array at an index, 0 where there is none
abbrev pub number_at : List (List ℤ) → (array index : ℕ) → ℤ
number_at arrays array index = slice_index_or (slice_index_or arrays array []) index (pos 0)

-- the vector that is at a location
abbrev pub vector_at : List (List ℤ) → Location → List ℤ
vector_at arrays l = map (λ v. number_at arrays l.array (v * l.stride + l.first)) (range_with_len 0 l.vertices)

abbrev pub vectors_at : List (List ℤ) → List Location → List (List ℤ)
vectors_at arrays ls = map (vector_at arrays) ls

-- the array of the location has a row for each vertex
pub record StandsIn (arrays : List (List ℤ)) (l : Location) : Type 0 where
  pub array : l.array < length arrays
  pub row : l.first < l.stride
  pub whole : l.vertices * l.stride ≡ length (slice_index_or arrays l.array [])

-- the vector of this index is the only one where it stands: in the array of its index, or in the group that has it there
pub record IsHome (groups : List (List ℕ)) (count i : ℕ) (l : Location) : Type 0 where
  pub row : l.first < l.stride
  pub own : l.array < count → l.array ≡ i
  pub alone : l.array < count → l.stride ≡ 1
  pub known : l.array < count + length groups
  pub grouped : (k : ℕ) → l.array ≡ count + k → l.stride ≡ length (slice_index_or groups k [])
  pub named : (k : ℕ) → l.array ≡ count + k → slice_index_or (slice_index_or groups k []) l.first 0 ≡ i

-- the vector that a group names at an index is there
pub record IsMember (groups : List (List ℕ)) (ls : List Location) (k j : ℕ) : Type 0 where
  pub vector : slice_index_or (slice_index_or groups k []) j 0 < length ls
  pub array : (location_at ls (slice_index_or (slice_index_or groups k []) j 0)).array ≡ length ls + k
  pub first : (location_at ls (slice_index_or (slice_index_or groups k []) j 0)).first ≡ j

-- each vector has an index of its own, and is in its array as a whole
pub record IsLaidOut (arrays : List (List ℤ)) (ls : List Location) (groups : List (List ℕ)) : Type 0 where
  pub homes : (i : ℕ) → i < length ls → IsHome groups (length ls) i (location_at ls i)
  pub members : (k j : ℕ) → k < length groups → j < length (slice_index_or groups k []) → IsMember groups ls k j
  pub whole : (i : ℕ) → i < length ls
      → (location_at ls i).vertices * (location_at ls i).stride ≡ length (slice_index_or arrays (location_at ls i).array [])
  pub fits : (i : ℕ) → i < length ls → (location_at ls i).vertices * (location_at ls i).stride < 2 ^ 64
  pub count : length arrays ≡ length ls + length groups

-- how many entries the first vector of a group has
abbrev pub vertices_of : List Location → List ℕ → ℕ
vertices_of ls names = (location_at ls (slice_index_or names 0 0)).vertices

-- the vector stands alone, and has so many entries
pub record IsFree (ls : List Location) (vector vertices : ℕ) : Type 0 where
  pub known : vector < length ls
  pub alone : (location_at ls vector).array ≡ vector
  pub even : (location_at ls vector).vertices ≡ vertices

-- a vector's location, where the vectors before index j of group k have been put together; they all stood alone at the start
pub record IsLocated (start : List Location) (groups : List (List ℕ)) (k j i : ℕ) (l : Location) : Type 0 where
  pub row : l.first < l.stride
  pub own : l.array < length start → l.array ≡ i
  pub alone : l.array < length start → l.stride ≡ 1
  pub grouped : (g : ℕ) → l.array ≡ length start + g → l.stride ≡ length (slice_index_or groups g [])
  pub named : (g : ℕ) → l.array ≡ length start + g → slice_index_or (slice_index_or groups g []) l.first 0 ≡ i
  pub even : (g : ℕ) → l.array ≡ length start + g → l.vertices ≡ vertices_of start (slice_index_or groups g [])
  pub done : (g : ℕ) → l.array ≡ length start + g → g ≤ k
  pub part : l.array ≡ length start + k → l.first < j
  pub vertices : l.vertices ≡ (location_at start i).vertices

pub record AreLocated (start : List Location) (groups : List (List ℕ)) (k j : ℕ) (ls : List Location) : Type 0 where
  pub count : length ls ≡ length start
  pub homes : (i : ℕ) → i < length ls → IsLocated start groups k j i (location_at ls i)
  pub members : (g h : ℕ) → g ≤ k → (g ≡ k → h < j) → h < length (slice_index_or groups g []) → IsMember groups ls g h

-- groups of vectors that are there, each once in one group, and those of a group with the same number of entries
pub record FitTogether (start : List Location) (groups : List (List ℕ)) : Type 0 where
  pub known : (g h : ℕ) → g < length groups → h < length (slice_index_or groups g []) → slice_index_or (slice_index_or groups g []) h 0 < length start
  pub group : (g h i j : ℕ) → g < length groups → h < length (slice_index_or groups g []) → i < length groups → j < length (slice_index_or groups i [])
      → slice_index_or (slice_index_or groups g []) h 0 ≡ slice_index_or (slice_index_or groups i []) j 0 → g ≡ i
  pub index : (g h i j : ℕ) → g < length groups → h < length (slice_index_or groups g []) → i < length groups → j < length (slice_index_or groups i [])
      → slice_index_or (slice_index_or groups g []) h 0 ≡ slice_index_or (slice_index_or groups i []) j 0 → h ≡ j
  pub even : (g h : ℕ) → g < length groups → h < length (slice_index_or groups g [])
      → (location_at start (slice_index_or (slice_index_or groups g []) h 0)).vertices ≡ vertices_of start (slice_index_or groups g [])

-- the array of each location, and of each group, has as many numbers as it needs
pub record HasArrays (ls : List Location) (groups : List (List ℕ)) (arrays : List (List ℤ)) : Type 0 where
  pub count : length arrays ≡ length ls + length groups
  pub alone : (i : ℕ) → i < length ls → (location_at ls i).array ≡ i → length (slice_index_or arrays i []) ≡ (location_at ls i).vertices
  pub grouped : (g : ℕ) → g < length groups
      → length (slice_index_or arrays (length ls + g) []) ≡ vertices_of ls (slice_index_or groups g []) * length (slice_index_or groups g [])
  pub fits : (i : ℕ) → length (slice_index_or arrays i []) < 2 ^ 64
