-- Each instruction of a plan is inside the loops that are around its statement, and leads to such instructions.
use Rattle.std.proofs.Common.{◌≡◌, ℕ, ◌+◌, ◌<◌, ◌≤◌, append_assoc, Bool, false, List, [], ◌∷◌, ◌++◌, length, length-append, Option, Some, slice_get, refl, ap, sym, ◌∙◌, arith, subst}
use Rattle.std.proofs.Math.Seq.{get_or-append_seam}
use Rattle.std.proofs.lemmas.Option.{slice_get-get_or}
use Rattle.typed_tree.specs.BlockTree.{StatementKindTree, Simple, DeclareInt, If, IfElse, While, For, BlockTree, Empty, Then}
use Rattle.typed_tree.specs.ProgramTree.{ProgramTree}
use Rattle.apply_options.specs.ScheduleTree.{ScheduleTree}
use Rattle.algorithm_meaning.specs.declared.state.Depth.{Depth}
use Rattle.plans.specs.Instruction.{ApplyEdgesTogether, ApplyVerticesTogether, Unless, Enter, UnlessBelow, Advance, Turn, Jump, End, InstructionTree}
use Rattle.plans.specs.Fusing.{FusionRole, Alone, WithNext, WithPrevious, fusion_role_of, takes_next}
use Rattle.plans.specs.Plan.{depth_after, depth_after_all, depth_in_loop, depth_with_integer, main_depth, plan_of, plain, loop_step, size_in, plan_in, size, size_all, plan, plan_all}
use Rattle.plans.proofs.Depths.{within_after, within_after_all}
use Rattle.plans.proofs.Indices.{HasAt, has_front, has_behind, has_all, length_in, length-plan, length-plan_all}
use Rattle.type_laws.specs.LoopVariables.{KeepsInside, KeepsLoops, KeepsLoopVariables, integers_behind}
use Rattle.type_laws.proofs.LoopStatements.{AreBelow, below_more}
use Rattle.plan_laws.proofs.Around.{Entry, entry_more, entry_along, AllLocal, local_append, HasRows, rows_front, rows_behind, IsDone, FitsCompany, company_fits, next_done}

abbrev pub around_in : FusionRole → List ℕ → List (List ℕ) → List (List ℕ)
around_in Alone is own = own
around_in (WithNext operation) is own = is ∷ []
around_in WithPrevious is own = []

-- so many integers are visible after a statement
integers_after : (a : StatementKindTree) (d : Depth) → integers_behind a d.integers ≡ (depth_after a d).integers
integers_after (Simple (DeclareInt name e)) d = refl
integers_after _ d = refl

module _ (p : ProgramTree) (s : ScheduleTree) where
  abbrev mutual
    -- the loops around each instruction of a statement
    pub around : Depth → List ℕ → StatementKindTree → List (List ℕ)
    around d is (Simple a) = is ∷ []
    around d is (If c body) = is ∷ around_all d is false body
    around d is (IfElse c body other) = is ∷ (around_all d is false body ++ is ∷ around_all d is false other)
    around d is (While c body) = is ∷ is ∷ (around_all d is false body ++ is ∷ [])
    around d is (For name first end body) =
        is ∷ is ∷ (d.integers ∷ is) ∷ (d.integers ∷ is)
        ∷ (around_all (depth_in_loop d) (d.integers ∷ is) false body ++ (d.integers ∷ is) ∷ (d.integers ∷ is) ∷ [])

    -- and of a block
    pub around_all : Depth → List ℕ → (is_done : Bool) → BlockTree → List (List ℕ)
    around_all d is is_done Empty = []
    around_all d is is_done (Then number label action rest) =
        around_in (fusion_role_of p s d is_done label action rest) is (around d is action)
        ++ around_all (depth_after action d) is (takes_next (fusion_role_of p s d is_done label action rest)) rest

  pub length_around_in : (company : FusionRole) (is : List ℕ) (own : List (List ℕ)) (n : ℕ) → length own ≡ n → length (around_in company is own) ≡ size_in company n
  length_around_in Alone is own n e = e
  length_around_in (WithNext operation) is own n e = refl
  length_around_in WithPrevious is own n e = refl

  mutual
    length-around : (a : StatementKindTree) (d : Depth) (is : List ℕ) → length (around d is a) ≡ size p s d a
    length-around (If c body) d is = omega (arith, length-around_all body d is false)
    length-around (IfElse c body other) d is =
        omega (arith, length-around_all body d is false, length-around_all other d is false, length-append (around_all d is false body) (is ∷ around_all d is false other))
    length-around (While c body) d is = omega (arith, length-around_all body d is false, length-append (around_all d is false body) (is ∷ []))
    length-around (For name first end body) d is =
        let more = d.integers ∷ is in
        omega (arith, length-around_all body (depth_in_loop d) more false, length-append (around_all (depth_in_loop d) more false body) (more ∷ more ∷ []))
    length-around (Simple a) d is = refl

    pub length-around_all : (b : BlockTree) (d : Depth) (is : List ℕ) (is_done : Bool) → length (around_all d is is_done b) ≡ size_all p s d is_done b
    length-around_all Empty d is is_done = refl
    length-around_all (Then number label action rest) d is is_done =
        let company = fusion_role_of p s d is_done label action rest in
        let first = around_in company is (around d is action) in
        let e = length_around_in company is (around d is action) (size p s d action) (length-around action d is) in
        let others = length-around_all rest (depth_after action d) is (takes_next company) in
        omega (arith, e, others, length-append first (around_all (depth_after action d) is (takes_next company) rest))

  module _ (code : List InstructionTree) (table : List (List ℕ)) where
    first_entry : (index : ℕ) (is : List ℕ) (d : Depth) (i : InstructionTree) → slice_get code index ≡ Some i → slice_get table index ≡ Some is → i.keep.integers ≡ d.integers
        → Entry code table index is d.integers
    first_entry index is d i stands rows keeps = record { instruction = i; stands = stands; around = rows; keeps = omega (arith, keeps) }

    action_entry : (a : StatementKindTree) (index number : ℕ) (label : Option ℕ) (d : Depth) (is : List ℕ) → HasAt code index (plan p s index d number label a) → HasRows table index (around d is a)
        → Entry code table index is d.integers
    action_entry (Simple a) index number label d is at rows = first_entry index is d _ at.0 rows.0 refl
    action_entry (If c body) index number label d is at rows = first_entry index is d _ at.0 rows.0 refl
    action_entry (IfElse c body other) index number label d is at rows = first_entry index is d _ at.0 rows.0 refl
    action_entry (While c body) index number label d is at rows = first_entry index is d _ at.0 rows.0 refl
    action_entry (For name first end body) index number label d is at rows = first_entry index is d _ at.0 rows.0 refl

    company_entry : (company : FusionRole) (action : StatementKindTree) (rest : BlockTree) (index number : ℕ) (label : Option ℕ) (d : Depth) (is : List ℕ) (own : List InstructionTree)
        (own_rows : List (List ℕ)) (n : ℕ)
        → FitsCompany company action rest
        → HasAt code index (plan_in company s number label d own) → HasRows table index (around_in company is own_rows)
        → (HasAt code index own → HasRows table index own_rows → Entry code table index is d.integers)
        → Entry code table (index + size_in company n) is (depth_after action d).integers → Entry code table index is d.integers
    company_entry Alone action rest index number label d is own own_rows n fits at rows first next = first at rows
    company_entry (WithNext operation) action rest index number label d is own own_rows n fits at rows first next = first_entry index is d _ at.0 rows.0 refl
    company_entry WithPrevious action rest index number label d is own own_rows n fits at rows first next =
        let same : index + 0 ≡ index = omega arith in
        let none : (depth_after action d).integers ≡ d.integers = fits d in
        entry_more code table index is (depth_after action d).integers d.integers (omega (arith, none)) (entry_along code table (index + 0) index is (depth_after action d).integers same next)

    pub block_entry : (b : BlockTree) (is_done : Bool) (index : ℕ) (d : Depth) (is : List ℕ) → IsDone is_done b → HasAt code index (plan_all p s index d is_done b)
        → HasRows table index (around_all d is is_done b)
        → Entry code table (index + size_all p s d is_done b) is (depth_after_all b d).integers → Entry code table index is d.integers
    block_entry Empty is_done index d is done at rows end = let same : index + 0 ≡ index = omega arith in entry_along code table (index + 0) index is d.integers same end
    block_entry (Then number label action rest) is_done index d is done at rows end =
        let company = fusion_role_of p s d is_done label action rest in
        let own = plan p s index d number label action in
        let n = size_in company (size p s d action) in
        let first = plan_in company s number label d own in
        let others = plan_all p s (index + n) (depth_after action d) (takes_next company) rest in
        let e : length first ≡ n = length_in company s number label d own (size p s d action) (length-plan p s action index d number label) in
        let own_rows = around d is action in
        let first_rows = around_in company is own_rows in
        let other_rows = around_all (depth_after action d) is (takes_next company) rest in
        let f : length first_rows ≡ n = length_around_in company is own_rows (size p s d action) (length-around action d is) in
        let fits = company_fits p s d is_done number label action rest done in
        let m = size_all p s (depth_after action d) (takes_next company) rest in
        let same : index + (n + m) ≡ index + n + m = omega arith in
        company_entry company action rest index number label d is own own_rows (size p s d action) fits (has_front code index first others at) (rows_front table index first_rows other_rows rows)
        (λ here there. action_entry action index number label d is here there)
        (block_entry rest (takes_next company) (index + n) (depth_after action d) is (next_done company action rest fits) (has_behind code index n (index + n) first others e refl at)
        (rows_behind table index n (index + n) first_rows other_rows f refl rows)
        (entry_along code table (index + (n + m)) (index + n + m) is (depth_after_all rest (depth_after action d)).integers same end))

    company_local : (company : FusionRole) (action : StatementKindTree) (rest : BlockTree) (index number : ℕ) (label : Option ℕ) (d : Depth) (is : List ℕ) (own : List InstructionTree)
        (own_rows : List (List ℕ)) (n : ℕ)
        → FitsCompany company action rest → AreBelow is d.integers
        → HasAt code index (plan_in company s number label d own) → HasRows table index (around_in company is own_rows)
        → (HasAt code index own → HasRows table index own_rows → Entry code table (index + n) is (depth_after action d).integers → AllLocal code table index own own_rows)
        → Entry code table (index + size_in company n) is (depth_after action d).integers
        → AllLocal code table index (plan_in company s number label d own) (around_in company is own_rows)
    company_local Alone action rest index number label d is own own_rows n fits below at rows all next = all at rows next
    company_local (WithNext (ApplyEdgesTogether ends a b)) action rest index number label d is own own_rows n fits below at rows all next =
        let none : (depth_after action d).integers ≡ d.integers = fits.1 d in
        ((entry_more code table (index + 1) is (depth_after action d).integers d.integers (omega (arith, none)) next, below), tt)
    company_local (WithNext (ApplyVerticesTogether set a b)) action rest index number label d is own own_rows n fits below at rows all next =
        let none : (depth_after action d).integers ≡ d.integers = fits.1 d in
        ((entry_more code table (index + 1) is (depth_after action d).integers d.integers (omega (arith, none)) next, below), tt)
    company_local (WithNext operation) action rest index number label d is own own_rows n fits below at rows all next = absurd fits.0
    company_local WithPrevious action rest index number label d is own own_rows n fits below at rows all next = tt

    mutual
      action_local : (a : StatementKindTree) (index number : ℕ) (label : Option ℕ) (d : Depth) (is : List ℕ) → HasAt code index (plan p s index d number label a) → HasRows table index (around d is a)
          → Entry code table (index + size p s d a) is (depth_after a d).integers → AreBelow is d.integers → KeepsInside d.integers is a
          → AllLocal code table index (plan p s index d number label a) (around d is a)
      action_local (Simple a) index number label d is at rows end below keeps = ((keeps, end, below), tt)
      action_local (If c body) index number label d is at rows end below keeps =
          let n = size_all p s d false body in
          let to = index + 1 + n in
          let same : index + (1 + n) ≡ to = omega arith in
          let there = entry_along code table (index + (1 + n)) to is d.integers same end in
          let deep = entry_more code table to is d.integers (depth_after_all body d).integers (within_after_all body d).integers there in (
            (block_entry body false (index + 1) d is tt at.1 rows.1 deep, there, below),
            block_local body false (index + 1) d is tt at.1 rows.1 deep below keeps,
          )
      action_local (IfElse c body other) index number label d is at rows end below keeps =
          let n = size_all p s d false body in
          let m = size_all p s d false other in
          let back = index + 1 + n in
          let from = back + 1 in
          let to = from + m in
          let own = plan_all p s (index + 1) d false body in
          let jump = plain number d (Jump to) in
          let others = plan_all p s from d false other in
          let own_rows = around_all d is false body in
          let other_rows = around_all d is false other in
          let e = length-plan_all p s body (index + 1) d false in
          let f = length-around_all body d is false in
          let same : index + (1 + n + 1 + m) ≡ to = omega arith in
          let there = entry_along code table (index + (1 + n + 1 + m)) to is d.integers same end in
          let at_back = has_behind code (index + 1) n back own (jump ∷ others) e refl at.1 in
          let rows_back = rows_behind table (index + 1) n back own_rows (is ∷ other_rows) f refl rows.1 in
          let at_jump = first_entry back is d jump at_back.0 rows_back.0 refl in
          let body_end = entry_more code table back is d.integers (depth_after_all body d).integers (within_after_all body d).integers at_jump in
          let other_end = entry_more code table to is d.integers (depth_after_all other d).integers (within_after_all other d).integers there in
          let body_at = has_front code (index + 1) own (jump ∷ others) at.1 in
          let body_rows = rows_front table (index + 1) own_rows (is ∷ other_rows) rows.1 in (
            (block_entry body false (index + 1) d is tt body_at body_rows body_end, block_entry other false from d is tt at_back.1 rows_back.1 other_end, below),
            local_append code table (index + 1) n own (jump ∷ others) own_rows (is ∷ other_rows) e (block_local body false (index + 1) d is tt body_at body_rows body_end below keeps.0)
                ((there, below), block_local other false from d is tt at_back.1 rows_back.1 other_end below keeps.1),
          )
      action_local (While c body) index number label d is at rows end below keeps =
          let n = size_all p s d false body in
          let back = index + 2 + n in
          let own = plan_all p s (index + 2) d false body in
          let jump = plain number d (Jump index) in
          let own_rows = around_all d is false body in
          let second : index + 1 + 1 ≡ index + 2 = omega arith in
          let inside = subst (λ (x : ℕ). HasAt code x (own ++ jump ∷ [])) second at.1.1 in
          let inside_rows = subst (λ (x : ℕ). HasRows table x (own_rows ++ is ∷ [])) second rows.1.1 in
          let e = length-plan_all p s body (index + 2) d false in
          let f = length-around_all body d is false in
          let at_back = has_behind code (index + 2) n back own (jump ∷ []) e refl inside in
          let rows_back = rows_behind table (index + 2) n back own_rows (is ∷ []) f refl inside_rows in
          let at_jump = first_entry back is d jump at_back.0 rows_back.0 refl in
          let body_end = entry_more code table back is d.integers (depth_after_all body d).integers (within_after_all body d).integers at_jump in
          let body_at = has_front code (index + 2) own (jump ∷ []) inside in
          let body_rows = rows_front table (index + 2) own_rows (is ∷ []) inside_rows in
          let same : index + (2 + n + 1) ≡ back + 1 = omega arith in
          let there = entry_along code table (index + (2 + n + 1)) (back + 1) is d.integers same end in
          let turn = first_entry (index + 1) is d (plain number d Turn) at.1.0 rows.1.0 refl in
          let head = first_entry index is d (plain number d (Unless c (back + 1))) at.0 rows.0 refl in
          let start = entry_along code table (index + 2) (index + 1 + 1) is d.integers (sym second) (block_entry body false (index + 2) d is tt body_at body_rows body_end) in
          let all = local_append code table (index + 2) n own (jump ∷ []) own_rows (is ∷ []) e (block_local body false (index + 2) d is tt body_at body_rows body_end below keeps)
          ((head, below), tt) in
          ((turn, there, below), ((start, below), subst (λ (x : ℕ). AllLocal code table x (own ++ jump ∷ []) (own_rows ++ is ∷ [])) (sym second) all))
      action_local (For name first end body) index number label d is at rows ending below keeps =
          let deep = depth_in_loop d in
          let more = d.integers ∷ is in
          let n = size_all p s deep false body in
          let back = index + 4 + n in
          let to = back + 2 in
          let own = plan_all p s (index + 4) deep false body in
          let advance = plain number d (Advance name) in
          let jump = loop_step number deep d (Jump (index + 2)) in
          let own_rows = around_all deep more false body in
          let second : index + 1 + 1 ≡ index + 2 = omega arith in
          let fourth : index + 1 + 1 + 1 + 1 ≡ index + 4 = omega arith in
          let inside = subst (λ (x : ℕ). HasAt code x (own ++ advance ∷ jump ∷ [])) fourth at.1.1.1.1 in
          let inside_rows = subst (λ (x : ℕ). HasRows table x (own_rows ++ more ∷ more ∷ [])) fourth rows.1.1.1.1 in
          let e = length-plan_all p s body (index + 4) deep false in
          let f = length-around_all body deep more false in
          let at_back = has_behind code (index + 4) n back own (advance ∷ jump ∷ []) e refl inside in
          let rows_back = rows_behind table (index + 4) n back own_rows (more ∷ more ∷ []) f refl inside_rows in
          let at_advance = first_entry back more d advance at_back.0 rows_back.0 refl in
          let wide : d.integers ≤ (depth_after_all body deep).integers = (let l = (within_after_all body deep).integers in omega (arith, l)) in
          let body_end = entry_more code table back more d.integers (depth_after_all body deep).integers wide at_advance in
          let body_at = has_front code (index + 4) own (advance ∷ jump ∷ []) inside in
          let body_rows = rows_front table (index + 4) own_rows (more ∷ more ∷ []) inside_rows in
          let same : index + (4 + n + 2) ≡ to = omega arith in
          let there = entry_along code table (index + (4 + n + 2)) to is d.integers same ending in
          let left = entry_more code table to is d.integers deep.integers (omega arith) there in
          let keeps_deep : KeepsLoops deep.integers more body = subst (λ (x : ℕ). KeepsLoops x more body) (omega arith) keeps in
          let below_deep : AreBelow more deep.integers = (omega arith, below_more is d.integers deep.integers (omega arith) below) in
          let at_enter : Entry code table (index + 1) is (d.integers + 1) = record {
            instruction = loop_step number (depth_with_integer d) d (Enter name end);
            stands = at.1.0;
            around = rows.1.0;
            keeps =
                omega arith;
          } in
          let at_test : Entry code table (index + 1 + 1) more (d.integers + 2) =
          record { instruction = loop_step number deep d (UnlessBelow name to); stands = at.1.1.0; around = rows.1.1.0; keeps = omega arith } in
          let at_turn : Entry code table (index + 1 + 1 + 1) more deep.integers =
          record { instruction = loop_step number deep d Turn; stands = at.1.1.1.0; around = rows.1.1.1.0; keeps = omega arith } in
          let start = entry_along code table (index + 4) (index + 1 + 1 + 1 + 1) more deep.integers (sym fourth) (block_entry body false (index + 4) deep more tt body_at body_rows body_end) in
          let at_jump : Entry code table (back + 1) more (d.integers + 2) = record { instruction = jump; stands = at_back.1.0; around = rows_back.1.0; keeps = omega arith } in
          let head = entry_more code table (index + 2) more (d.integers + 2) deep.integers (omega arith) (entry_along code table (index + 1 + 1) (index + 2) more (d.integers + 2) second at_test) in
          let all = local_append code table (index + 4) n own (advance ∷ jump ∷ []) own_rows (more ∷ more ∷ []) e
          (block_local body false (index + 4) deep more tt body_at body_rows body_end below_deep keeps_deep)
          ((refl, refl, at_jump, below), ((head, below_deep), tt)) in (
            (tt, at_enter, below),
            (
              (refl, at_test, below),
              (
                (refl, at_turn, left, below_deep),
                (
                  (start, below_deep),
                  subst (λ (x : ℕ). AllLocal code table x (own ++ advance ∷ jump ∷ []) (own_rows ++ more ∷ more ∷ [])) (sym fourth) all,
                ),
              ),
            ),
          )

      pub block_local : (b : BlockTree) (is_done : Bool) (index : ℕ) (d : Depth) (is : List ℕ) → IsDone is_done b → HasAt code index (plan_all p s index d is_done b)
          → HasRows table index (around_all d is is_done b)
          → Entry code table (index + size_all p s d is_done b) is (depth_after_all b d).integers → AreBelow is d.integers → KeepsLoops d.integers is b
          → AllLocal code table index (plan_all p s index d is_done b) (around_all d is is_done b)
      block_local Empty is_done index d is done at rows end below keeps = tt
      block_local (Then number label action rest) is_done index d is done at rows end below keeps =
          let company = fusion_role_of p s d is_done label action rest in
          let own = plan p s index d number label action in
          let n = size_in company (size p s d action) in
          let first = plan_in company s number label d own in
          let others = plan_all p s (index + n) (depth_after action d) (takes_next company) rest in
          let e : length first ≡ n = length_in company s number label d own (size p s d action) (length-plan p s action index d number label) in
          let own_rows = around d is action in
          let first_rows = around_in company is own_rows in
          let other_rows = around_all (depth_after action d) is (takes_next company) rest in
          let f : length first_rows ≡ n = length_around_in company is own_rows (size p s d action) (length-around action d is) in
          let fits = company_fits p s d is_done number label action rest done in
          let done_next = next_done company action rest fits in
          let keeps_rest = subst (λ (x : ℕ). KeepsLoops x is rest) (integers_after action d) keeps.1 in
          let m = size_all p s (depth_after action d) (takes_next company) rest in
          let same : index + (n + m) ≡ index + n + m = omega arith in
          let end_rest = entry_along code table (index + (n + m)) (index + n + m) is (depth_after_all rest (depth_after action d)).integers same end in
          let at_rest = has_behind code index n (index + n) first others e refl at in
          let rows_rest = rows_behind table index n (index + n) first_rows other_rows f refl rows in
          let entry = block_entry rest (takes_next company) (index + n) (depth_after action d) is done_next at_rest rows_rest end_rest in
          local_append code table index n first others first_rows other_rows e
          (company_local company action rest index number label d is own own_rows (size p s d action) fits below (has_front code index first others at)
          (rows_front table index first_rows other_rows rows)
          (λ here there next. action_local action index number label d is here there next below keeps.0) entry)
          (block_local rest (takes_next company) (index + n) (depth_after action d) is done_next at_rest rows_rest end_rest
          (below_more is d.integers (depth_after action d).integers (within_after action d).integers below) keeps_rest)

pub rows_all : (ts pre : List (List ℕ)) → HasRows (pre ++ ts) (length pre) ts
rows_all [] pre = tt
rows_all (t ∷ ts) pre =
    let within : length pre < length (pre ++ t ∷ ts) = omega (arith, length-append pre (t ∷ ts)) in
    let here = slice_get-get_or (pre ++ t ∷ ts) (length pre) t within ∙ ap Some (get_or-append_seam pre t ts t) in
    let n : length (pre ++ t ∷ []) ≡ length pre + 1 = omega (arith, length-append pre (t ∷ [])) in
    let rest = rows_all ts (pre ++ t ∷ []) in
    let rest' = subst (λ l. HasRows l (length (pre ++ t ∷ [])) ts) (append_assoc pre (t ∷ []) ts) rest in
    (here, subst (λ m. HasRows (pre ++ t ∷ ts) m ts) n rest')

-- the loops around all instructions of the plan
abbrev pub table_of : ProgramTree → ScheduleTree → List (List ℕ)
table_of p s = around_all p s (main_depth p) [] false p.main ++ [] ∷ []

module _ (p : ProgramTree) (s : ScheduleTree) (keeps : KeepsLoopVariables p) where
  main_end : Entry (plan_of p s) (table_of p s) (0 + size_all p s (main_depth p) false p.main) [] (depth_after_all p.main (main_depth p)).integers
  main_end =
      let code = plan_of p s in
      let table = table_of p s in
      let d = main_depth p in
      let n = size_all p s d false p.main in
      let main = plan_all p s 0 d false p.main in
      let last = plain 0 (depth_after_all p.main d) End in
      let rows = around_all p s d [] false p.main in
      let at = has_behind code 0 n (0 + n) main (last ∷ []) (length-plan_all p s p.main 0 d false) refl (has_all code []) in
      let there = rows_behind table 0 n (0 + n) rows ([] ∷ []) (length-around_all p s p.main d [] false) refl (rows_all table []) in
      record { instruction = last; stands = at.0; around = there.0; keeps = omega arith }

  pub plan_entry : Entry (plan_of p s) (table_of p s) 0 [] (main_depth p).integers
  plan_entry =
      let d = main_depth p in
      block_entry p s (plan_of p s) (table_of p s) p.main false 0 d [] tt (has_front (plan_of p s) 0 (plan_all p s 0 d false p.main) _ (has_all (plan_of p s) []))
      (rows_front (table_of p s) 0 (around_all p s d [] false p.main) _ (rows_all (table_of p s) [])) main_end

  pub plan_local : AllLocal (plan_of p s) (table_of p s) 0 (plan_of p s) (table_of p s)
  plan_local =
      let code = plan_of p s in
      let table = table_of p s in
      let d = main_depth p in
      let main = plan_all p s 0 d false p.main in
      let rows = around_all p s d [] false p.main in
      local_append code table 0 (size_all p s d false p.main) main (plain 0 (depth_after_all p.main d) End ∷ []) rows ([] ∷ []) (length-plan_all p s p.main 0 d false)
      (block_local p s code table p.main false 0 d [] tt (has_front code 0 main _ (has_all code [])) (rows_front table 0 rows _ (rows_all table [])) main_end tt keeps) (tt, tt)
