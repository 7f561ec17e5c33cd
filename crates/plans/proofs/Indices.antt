-- Where the instructions of a plan stand.
use Rattle.std.proofs.Common.{◌≡◌, ℕ, ◌+◌, ◌<◌, Bool, false, List, [], ◌∷◌, ◌++◌, length, Option, Some, slice_get, ap, ◌∙◌, refl, arith, subst, append_assoc, length-append}
use Rattle.std.proofs.Math.Seq.{get_or-append_seam}
use Rattle.std.proofs.lemmas.Option.{slice_get-get_or}
use Rattle.typed_tree.specs.BlockTree.{StatementKindTree, Simple, If, IfElse, While, For, BlockTree, Empty, Then}
use Rattle.typed_tree.specs.ProgramTree.{ProgramTree}
use Rattle.apply_options.specs.ScheduleTree.{ScheduleTree}
use Rattle.algorithm_meaning.specs.declared.state.Depth.{Depth}
use Rattle.plans.specs.Instruction.{InstructionTree, Jump, Advance}
use Rattle.plans.specs.Fusing.{FusionRole, Alone, WithNext, WithPrevious, fusion_role_of, takes_next}
use Rattle.plans.specs.Plan.{depth_after, depth_in_loop, plain, loop_step, size_in, plan_in, size, size_all, plan, plan_all}

-- the instructions stand in the code at this index
abbrev pub HasAt : List InstructionTree → ℕ → List InstructionTree → Type 0
HasAt code index [] = Unit {0}
HasAt code index (i ∷ is) = (slice_get code index ≡ Some i) × HasAt code (index + 1) is

pub has_front : (code : List InstructionTree) (index : ℕ) (a b : List InstructionTree) → HasAt code index (a ++ b) → HasAt code index a
has_front code index [] b h = tt
has_front code index (i ∷ a) b h = (h.0, has_front code (index + 1) a b h.1)

has_back : (code : List InstructionTree) (index : ℕ) (a b : List InstructionTree) → HasAt code index (a ++ b) → HasAt code (index + length a) b
has_back code index [] b h = let e : index ≡ index + 0 = omega arith in subst (λ n. HasAt code n b) e h
has_back code index (i ∷ a) b h =
    let e : index + 1 + length a ≡ index + length (i ∷ a) = omega arith in
    subst (λ n. HasAt code n b) e (has_back code (index + 1) a b h.1)

-- after instructions of which the number is known
pub has_behind : (code : List InstructionTree) (index n to : ℕ) (a b : List InstructionTree) → length a ≡ n → index + n ≡ to → HasAt code index (a ++ b) → HasAt code to b
has_behind code index n to a b e k h = subst (λ m. HasAt code m b) (ap (λ m. index + m) e ∙ k) (has_back code index a b h)

pub has_all : (is pre : List InstructionTree) → HasAt (pre ++ is) (length pre) is
has_all [] pre = tt
has_all (i ∷ is) pre =
    let within : length pre < length (pre ++ i ∷ is) = omega (arith, length-append pre (i ∷ is)) in
    let here = slice_get-get_or (pre ++ i ∷ is) (length pre) i within ∙ ap Some (get_or-append_seam pre i is i) in
    let n : length (pre ++ i ∷ []) ≡ length pre + 1 = omega (arith, length-append pre (i ∷ [])) in
    let rest = has_all is (pre ++ i ∷ []) in
    let rest' = subst (λ l. HasAt l (length (pre ++ i ∷ [])) is) (append_assoc pre (i ∷ []) is) rest in
    (here, subst (λ m. HasAt (pre ++ i ∷ is) m is) n rest')

pub length_in : (company : FusionRole) (s : ScheduleTree) (number : ℕ) (label : Option ℕ) (d : Depth) (is : List InstructionTree) (n : ℕ) → length is ≡ n
    → length (plan_in company s number label d is) ≡ size_in company n
length_in Alone s number label d is n e = e
length_in (WithNext operation) s number label d is n e = refl
length_in WithPrevious s number label d is n e = refl

module _ (p : ProgramTree) (s : ScheduleTree) where
  mutual
    -- each statement has as many instructions as its size says
    pub length-plan : (a : StatementKindTree) (index : ℕ) (d : Depth) (number : ℕ) (label : Option ℕ) → length (plan p s index d number label a) ≡ size p s d a
    length-plan (If c body) index d number label = omega (arith, length-plan_all body (index + 1) d false)
    length-plan (IfElse c body other) index d number label =
        let to = index + 1 + size_all p s d false body + 1 in
        omega (
          arith,
          length-plan_all body (index + 1) d false,
          length-plan_all other to d false,
          length-append (plan_all p s (index + 1) d false body) (plain number d (Jump (to + size_all p s d false other)) ∷ plan_all p s to d false other),
        )
    length-plan (While c body) index d number label =
        omega (arith, length-plan_all body (index + 2) d false, length-append (plan_all p s (index + 2) d false body) (plain number d (Jump index) ∷ []))
    length-plan (For name first end body) index d number label =
        omega (
          arith,
          length-plan_all body (index + 4) (depth_in_loop d) false,
          length-append (plan_all p s (index + 4) (depth_in_loop d) false body) (plain number d (Advance name) ∷ loop_step number (depth_in_loop d) d (Jump (index + 2)) ∷ []),
        )
    length-plan (Simple a) index d number label = refl

    pub length-plan_all : (b : BlockTree) (index : ℕ) (d : Depth) (is_done : Bool) → length (plan_all p s index d is_done b) ≡ size_all p s d is_done b
    length-plan_all Empty index d is_done = refl
    length-plan_all (Then number label action rest) index d is_done =
        let company = fusion_role_of p s d is_done label action rest in
        let first = plan_in company s number label d (plan p s index d number label action) in
        let n = size_in company (size p s d action) in
        let e : length first ≡ n = length_in company s number label d (plan p s index d number label action) (size p s d action) (length-plan action index d number label) in
        let others = length-plan_all rest (index + n) (depth_after action d) (takes_next company) in
        omega (arith, e, others, length-append first (plan_all p s (index + n) (depth_after action d) (takes_next company) rest))
