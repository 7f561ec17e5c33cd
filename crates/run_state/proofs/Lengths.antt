-- Vectors keep their lengths.
use Rattle.std.proofs.Common.{◌≡◌, ℕ, ◌<◌, ℤ, pos, Bool, true, false, cond, List, [], ◌∷◌, length, map, set, get_or, ap, sym, ◌∙◌, refl, arith}
use Rattle.std.proofs.Math.Seq.{map-set_same}
use Rattle.std.proofs.lemmas.List.{get_or-map, get_or-replicate, length-map, length-replicate, length-set}
use Rattle.std.proofs.lemmas.List.FromFn.{length-map-range_with_len}
use Rattle.typed_tree.specs.declared.program.Vector.{Vector}
use Rattle.typed_tree.specs.declared.program.InitialValue.{InitialValue}
use Rattle.typed_tree.specs.declared.program.InitialValue.TheVariants.{Number, OutDegrees}
use Rattle.typed_tree.specs.FunctionStatementTree.{FunctionStatementsTree}
use Rattle.algorithm_meaning.specs.Arithmetic.{wrapped}
use Rattle.algorithm_meaning.specs.State.{GraphValue, StateValue}
use Rattle.algorithm_meaning.specs.Value.{with_entry}
use Rattle.algorithm_meaning.specs.Meaning.{initial_entries, out_degree}
use Rattle.algorithm_meaning.specs.VertexSets.{after_vertex, after_vertices}
use Rattle.kernels.specs.RegisterInstruction.{RegisterInstruction}
use Rattle.kernels.specs.RegisterInstruction.TheVariants.{SetEntry}
use Rattle.kernels.specs.Registers.{Registers, HasSizes, CodeInput, after, is_active, step, vectors_written}
use Rattle.kernels.specs.Meaning.{IsVertexCode, vertex_input}
use Rattle.vectors.specs.declared.changes.EntryChange.{EntryChange}
use Rattle.vectors.specs.declared.changes.VectorChanges.{VectorChanges}
use Rattle.vectors.specs.Changes.{with_all_changes, with_changes}
use Rattle.run_state.specs.inside.NamedSets.{HaveLength}

-- the lengths of vectors
abbrev lengths : List (List ℤ) → List ℕ
lengths vectors = map (λ (xs : List ℤ). length xs) vectors

lengths_after_entry : (vectors : List (List ℤ)) (x v : ℕ) (n : ℤ) → lengths (with_entry vectors x v n) ≡ lengths vectors
lengths_after_entry vectors x v n = map-set_same (λ (xs : List ℤ). length xs) vectors x (set (get_or vectors x []) v n) [] (length-set (get_or vectors x []) v n)

lengths_after_changes : (vector : ℕ) (cs : List EntryChange) (vectors : List (List ℤ)) → lengths (with_changes vector cs vectors) ≡ lengths vectors
lengths_after_changes vector [] vectors = refl
lengths_after_changes vector (c ∷ cs) vectors =
    lengths_after_changes vector cs (with_entry vectors vector c.vertex c.number) ∙ lengths_after_entry vectors vector c.vertex c.number

lengths_after_all : (cs : List VectorChanges) (vectors : List (List ℤ)) → lengths (with_all_changes cs vectors) ≡ lengths vectors
lengths_after_all [] vectors = refl
lengths_after_all (c ∷ cs) vectors = lengths_after_all cs (with_changes c.vector c.changes.items vectors) ∙ lengths_after_changes c.vector c.changes.items vectors

either : (b : Bool) (xs ys : List (List ℤ)) → lengths xs ≡ lengths ys → lengths (cond b xs ys) ≡ lengths ys
either true xs ys h = h
either false xs ys h = refl

lengths_written : (s : CodeInput) (i : RegisterInstruction) (c : Registers) → lengths (vectors_written s i c) ≡ lengths s.vectors
lengths_written s (SetEntry vector from when) c =
    either (is_active c.numbers when) (with_entry s.vectors vector s.source (c.numbers from)) s.vectors (lengths_after_entry s.vectors vector s.source (c.numbers from))
lengths_written s i c = refl

lengths_after_code : (s : CodeInput) (is : List RegisterInstruction) (c : Registers) → lengths (after s is c).0.vectors ≡ lengths s.vectors
lengths_after_code s [] c = refl
lengths_after_code s (i ∷ is) c = lengths_after_code (record s { vectors = vectors_written s i c }) is (step s i c) ∙ lengths_written s i c

no_registers : Registers
no_registers = record { numbers = λ _. pos 0; integers = λ _. pos 0; conditions = λ _. pos 0; inside = pos 0 }

-- where code does what statements do
lengths_after_vertices : (m : StateValue) (sizes : List ℤ) (is : List RegisterInstruction) (steps : FunctionStatementsTree) → HasSizes sizes m → IsVertexCode is steps
    → (vertices : List ℕ) (vectors : List (List ℤ))
    → lengths (after_vertices steps m.sets vertices vectors) ≡ lengths vectors
lengths_after_vertices m sizes is steps has code [] vectors = refl
lengths_after_vertices m sizes is steps has code (v ∷ vs) vectors =
    lengths_after_vertices m sizes is steps has code vs (after_vertex steps m.sets v vectors)
    ∙ ap lengths (sym (code (record m { vectors = vectors }) sizes 0 v no_registers has))
    ∙ lengths_after_code (vertex_input vectors sizes 0 v) is no_registers

pub after_entry : (count n : ℕ) (vectors : List (List ℤ)) (x v : ℕ) (z : ℤ) → HaveLength count n vectors → HaveLength count n (with_entry vectors x v z)
after_entry count n vectors x v z are = lengths_after_entry vectors x v z ∙ are

pub after_all_changes : (count n : ℕ) (vectors : List (List ℤ)) (cs : List VectorChanges) → HaveLength count n vectors → HaveLength count n (with_all_changes cs vectors)
after_all_changes count n vectors cs are = lengths_after_all cs vectors ∙ are

pub after_apply : (count n : ℕ) (m : StateValue) (sizes : List ℤ) (is : List RegisterInstruction) (steps : FunctionStatementsTree) → HasSizes sizes m → IsVertexCode is steps
    → (vertices : List ℕ) (vectors : List (List ℤ))
    → HaveLength count n vectors → HaveLength count n (after_vertices steps m.sets vertices vectors)
after_apply count n m sizes is steps has code vertices vectors are = lengths_after_vertices m sizes is steps has code vertices vectors ∙ are

opened_length : (g : GraphValue) (b : InitialValue) → length (initial_entries g b) ≡ g.vertices
opened_length g (Number n) = length-replicate g.vertices n
opened_length g OutDegrees = length-map-range_with_len (λ v. wrapped (pos (out_degree v g.edges))) 0 g.vertices

pub opened_lengths : (g : GraphValue) (vs : List Vector) → HaveLength (length vs) g.vertices (map (λ (v : Vector). initial_entries g v.beginning) vs)
opened_lengths g [] = refl
opened_lengths g (v ∷ vs) =
    ap (λ (k : ℕ). k ∷ lengths (map (λ (v : Vector). initial_entries g v.beginning) vs)) (opened_length g v.beginning)
    ∙ ap (λ (ks : List ℕ). g.vertices ∷ ks) (opened_lengths g vs)

pub count : (n k : ℕ) (vectors : List (List ℤ)) → HaveLength k n vectors → length vectors ≡ k
count n k vectors are = sym (length-map vectors (λ (xs : List ℤ). length xs)) ∙ ap (λ (ks : List ℕ). length ks) are ∙ length-replicate k n

pub length_at : (n k : ℕ) (vectors : List (List ℤ)) → HaveLength k n vectors → (x : ℕ) → x < length vectors → length (get_or vectors x []) ≡ n
length_at n k vectors are x h =
    let many = count n k vectors are in
    sym (get_or-map (λ (xs : List ℤ). length xs) vectors x [] 0 h) ∙ ap (λ (ks : List ℕ). get_or ks x 0) are ∙ get_or-replicate k x n 0 (omega arith)
