-- Statements and blocks on the machine.
use Rattle.std.proofs.Common.{◌≡◌, ℕ, ◌+◌, Bool, true, false, List, [], ◌∷◌, ◌++◌, Option, Some, None, slice_get, ap, sym, ◌∙◌, refl, arith, subst}
use Rattle.typed_tree.specs.BoolExpressionTree.{BoolExpressionTree}
use Rattle.typed_tree.specs.BlockTree.{StatementKindTree, Simple, If, IfElse, While, For, BlockTree, Empty, Then}
use Rattle.typed_tree.specs.ProgramTree.{ProgramTree}
use Rattle.algorithm_meaning.specs.State.{GraphValue, StateValue}
use Rattle.algorithm_meaning.specs.Stand.{Stand, Live, Over, then_do, bool_value_in, with_value, choose}
use Rattle.algorithm_meaning.specs.Loop.{inside, depth_of, leave, forget_beyond}
use Rattle.algorithm_meaning.specs.Meaning.{after, after_all}
use Rattle.apply_options.specs.ScheduleTree.{ScheduleTree, apply_schedule_at}
use Rattle.algorithm_meaning.specs.declared.state.LoopCounter.{LoopCounter}
use Rattle.algorithm_meaning.specs.declared.state.Depth.{Depth}
use Rattle.plans.specs.Instruction.{OperationTree, Unless, UnlessBelow, Turn, Jump, Advance, InstructionTree}
use Rattle.plans.specs.Fusing.{FusionRole, Alone, WithNext, WithPrevious, fusion_role_of, takes_next}
use Rattle.plans.specs.Plan.{depth_after, depth_after_all, depth_in_loop, plain, loop_step, chosen, size_in, plan_in, size, size_all, plan, plan_all}
use Rattle.plans.specs.Machine.{Configuration, At}
use Rattle.plans.proofs.Depths.{within_loop, within_after_all, within_both, forgotten-all}
use Rattle.plans.proofs.Proper.{IsProper}
use Rattle.plans.proofs.Indices.{HasAt, has_front, has_behind, length-plan, length-plan_all}
use Rattle.plans.proofs.Reaching.{here, by_step, Moves, moves_on, Lands, Follows, follows_from, takes, simple_runs, leaving, jumps, lands_at}
use Rattle.plans.proofs.Whiles.{unless_faults, unless_chooses, while_runs}
use Rattle.plans.proofs.Fors.{StandsFor, for_runs}
use Rattle.plans.proofs.Joined.{IsFaultless, DoesBoth, IsGoodCompany, faultless-proper}

-- what is left of a block whose first statement may be done already, and what is visible there
abbrev pub after_rest : ProgramTree → GraphValue → (is_done : Bool) → BlockTree → StateValue → Stand
after_rest p g false b s = after_all p g b s
after_rest p g true Empty s = Live s
after_rest p g true (Then number label action rest) s = after_all p g rest s

abbrev pub at_rest : (is_done : Bool) → BlockTree → Depth → Depth
at_rest false b d = d
at_rest true Empty d = d
at_rest true (Then number label action rest) d = depth_after action d

module _ (p : ProgramTree) (g : GraphValue) (schedule : ScheduleTree) (code : List InstructionTree) where
  -- one statement after the other
  then_follows : (st : Stand) (go : StateValue → Stand) (at to : ℕ) (loops : List LoopCounter) (d e : Depth) (turns : ℕ) (c : Configuration)
      → Follows p g code at loops d turns st c
      → ((t there : StateValue) → forget_beyond d there ≡ t → IsProper d turns t → Follows p g code to loops e turns (go t) (At at loops there))
      → Follows p g code to loops e turns (then_do st go) c
  then_follows (Live t) go at to loops d e turns c f next =
      follows_from p g code (go t) to loops e turns c (At at loops f.there) f.reaches (next t f.there f.same f.proper)
  then_follows (Over t end) go at to loops d e turns c f next = f

  -- a block inside a statement, at its first instruction
  block_inside : (st : Stand) (to : ℕ) (loops : List LoopCounter) (b : BlockTree) (d : Depth) (turns : ℕ) (s : StateValue) (c c' : Configuration) → IsProper d turns s
      → Moves p g code c c' → Follows p g code to loops (depth_after_all b d) turns st c' → Follows p g code to loops d turns (leave (depth_of s) st) c
  block_inside st to loops b d turns s c c' q e f =
      follows_from p g code (leave (depth_of s) st) to loops d turns c c' (by_step p g code c c' c' e here)
      (leaving p g code st to loops d (depth_after_all b d) turns s c' q.deep (within_after_all b d) f)

  if_runs : (c : BoolExpressionTree) (body : BlockTree) (index number to : ℕ) (d : Depth) (turns : ℕ) (loops : List LoopCounter) (m s : StateValue) (o : Option Bool)
      → slice_get code index ≡ Some (plain number d (Unless c to)) → forget_beyond d m ≡ s → IsProper d turns s → bool_value_in g.vertices c s ≡ o
      → Follows p g code to loops (depth_after_all body d) turns (after_all p g body s) (At (index + 1) loops s)
      → Follows p g code to loops d turns (with_value o number s (λ b. choose b (inside (after_all p g body) s) (Live s))) (At index loops m)
  if_runs c body index number to d turns loops m s None at same q e body_runs = unless_faults p g code c index number to d turns loops m s at same q e
  if_runs c body index number to d turns loops m s (Some true) at same q e body_runs =
      block_inside (after_all p g body s) to loops body d turns s (At index loops m) (At (index + 1) loops s) q
      (unless_chooses p g code c index number to d loops m s true at same e) body_runs
  if_runs c body index number to d turns loops m s (Some false) at same q e body_runs = record {
    there = s;
    reaches = by_step p g code (At index loops m) (At to loops s) (At to loops s) (unless_chooses p g code c index number to d loops m s false at same e) here;
    same = forgotten-all d s q.deep;
    proper = q;
  }

  if_else_runs : (c : BoolExpressionTree) (body other : BlockTree) (index number back from to : ℕ) (d : Depth) (turns : ℕ) (loops : List LoopCounter) (m s : StateValue) (o : Option Bool)
      → slice_get code index ≡ Some (plain number d (Unless c from)) → slice_get code back ≡ Some (plain number d (Jump to)) → forget_beyond d m ≡ s → IsProper d turns s
      → bool_value_in g.vertices c s ≡ o
      → Follows p g code back loops (depth_after_all body d) turns (after_all p g body s) (At (index + 1) loops s)
      → Follows p g code to loops (depth_after_all other d) turns (after_all p g other s) (At from loops s)
      → Follows p g code to loops d turns (with_value o number s (λ b. choose b (inside (after_all p g body) s) (inside (after_all p g other) s))) (At index loops m)
  if_else_runs c body other index number back from to d turns loops m s None at at_jump same q e body_runs other_runs =
      unless_faults p g code c index number from d turns loops m s at same q e
  if_else_runs c body other index number back from to d turns loops m s (Some true) at at_jump same q e body_runs other_runs =
      jumps p g code (inside (after_all p g body) s) back to loops d d turns number (At index loops m) at_jump
      (block_inside (after_all p g body s) back loops body d turns s (At index loops m) (At (index + 1) loops s) q
      (unless_chooses p g code c index number from d loops m s true at same e) body_runs)
  if_else_runs c body other index number back from to d turns loops m s (Some false) at at_jump same q e body_runs other_runs =
      block_inside (after_all p g other s) to loops other d turns s (At index loops m) (At from loops s) q
      (unless_chooses p g code c index number from d loops m s false at same e) other_runs

  -- two statements that one instruction does
  both_run : (operation : OperationTree) (a b : StatementKindTree) (index number : ℕ) (label : Option ℕ) (d : Depth) (turns : ℕ) (loops : List LoopCounter) (m s : StateValue)
      (both : DoesBoth p g operation d a b)
      → slice_get code index ≡ Some (chosen schedule number label d operation) → forget_beyond d m ≡ s → IsProper d turns s
      → Lands p g code (index + 1) loops (depth_after b (depth_after a d)) turns (both.second (both.first s)) (At index loops m)
  both_run operation a b index number label d turns loops m s both at same q =
      let proper = faultless-proper p g b both.second (depth_after a d) turns (both.first s) both.second_means (faultless-proper p g a both.first d turns s both.first_means q) in
      record {
        there = both.second (both.first s);
        reaches = by_step p g code (At index loops m) (At (index + 1) loops (both.second (both.first s))) (At (index + 1) loops (both.second (both.first s)))
            (moves_on p g code (takes p g code index loops m (chosen schedule number label d operation) s at same) (both.acts number d index loops turns s q)) here;
        same = forgotten-all (depth_after b (depth_after a d)) (both.second (both.first s)) proper.deep;
        proper = proper;
      }

  both_mean : (a b : StatementKindTree) (number other : ℕ) (rest : BlockTree) (label : Option ℕ) (s : StateValue) (first second : StateValue → StateValue)
      → IsFaultless p g a first → IsFaultless p g b second
      → after_all p g rest (second (first s)) ≡ then_do (after p g number a s) (after_all p g (Then other label b rest))
  both_mean a b number other rest label s first second a_means b_means =
      ap (λ (st : Stand). then_do st (after_all p g rest)) (sym (b_means.means other (first s)))
      ∙ ap (λ (st : Stand). then_do st (after_all p g (Then other label b rest))) (sym (a_means.means number s))

  -- the instructions of a block after others
  abbrev HasBlock : (index : ℕ) → Depth → (is_done : Bool) → BlockTree → List InstructionTree → Type 0
  HasBlock index d is_done b rest = HasAt code index (plan_all p schedule index d is_done b ++ rest)

  behind_block : (index to : ℕ) (d : Depth) (b : BlockTree) (rest : List InstructionTree) → index + size_all p schedule d false b ≡ to → HasBlock index d false b rest → HasAt code to rest
  behind_block index to d b rest e at =
      has_behind code index (size_all p schedule d false b) to (plan_all p schedule index d false b) rest (length-plan_all p schedule b index d false) e at

  -- a statement in such company, and what stands after it
  joined_runs : (company : FusionRole) (action : StatementKindTree) (rest : BlockTree) (index number : ℕ) (label : Option ℕ) (d : Depth) (turns : ℕ) (loops : List LoopCounter) (m s : StateValue)
      → IsGoodCompany p g company d action rest
      → HasAt code index (plan_in company schedule number label d (plan p schedule index d number label action)
      ++ plan_all p schedule (index + size_in company (size p schedule d action)) (depth_after action d) (takes_next company) rest)
      → forget_beyond d m ≡ s → IsProper d turns s
      → (HasAt code index (plan p schedule index d number label action) → Follows p g code (index + size p schedule d action) loops (depth_after action d) turns (after p g number action s)
      (At index loops m))
      → ((is_done : Bool) (from : ℕ) (m t : StateValue) → HasAt code from (plan_all p schedule from (depth_after action d) is_done rest)
      → forget_beyond (at_rest is_done rest (depth_after action d)) m ≡ t → IsProper (at_rest is_done rest (depth_after action d)) turns t
      → Follows p g code (from + size_all p schedule (depth_after action d) is_done rest) loops (depth_after_all rest (depth_after action d)) turns (after_rest p g is_done rest t) (At from loops m))
      → Follows p g code (index + (size_in company (size p schedule d action) + size_all p schedule (depth_after action d) (takes_next company) rest)) loops
      (depth_after_all rest (depth_after action d)) turns
      (then_do (after p g number action s) (after_all p g rest)) (At index loops m)
  joined_runs Alone action rest index number label d turns loops m s good at same q run_action run_rest =
      let n = size p schedule d action in
      let e = depth_after action d in
      let to = index + n + size_all p schedule e false rest in
      let own = plan p schedule index d number label action in
      let others = plan_all p schedule (index + n) e false rest in
      let st = then_do (after p g number action s) (after_all p g rest) in
      lands_at p g code st to (index + (n + size_all p schedule e false rest)) loops (depth_after_all rest e) turns (At index loops m) (omega arith)
      (then_follows (after p g number action s) (after_all p g rest) (index + n) to loops e (depth_after_all rest e) turns (At index loops m)
      (run_action (has_front code index own others at))
      (λ t there kept proper. run_rest false (index + n) there t (has_behind code index n (index + n) own others (length-plan p schedule action index d number label) refl at) kept proper))
  joined_runs WithPrevious action rest index number label d turns loops m s good at same q run_action run_rest = absurd good
  joined_runs (WithNext operation) action Empty index number label d turns loops m s good at same q run_action run_rest = absurd good
  joined_runs (WithNext operation) action (Then other second next rest) index number label d turns loops m s good at same q run_action run_rest =
      let e = depth_after action d in
      let block = Then other second next rest in
      let t = good.second (good.first s) in
      let lands = both_run operation action next index number label d turns loops m s good at.0 same q in
      let to = index + 1 + size_all p schedule e true block in
      let st = after_all p g rest t in
      let ran = follows_from p g code st to loops (depth_after_all block e) turns (At index loops m) (At (index + 1) loops lands.there) lands.reaches
      (run_rest true (index + 1) lands.there t at.1 lands.same lands.proper) in
      let same_stand = both_mean action next number other rest second s good.first good.second good.first_means good.second_means in
      lands_at p g code (then_do (after p g number action s) (after_all p g block)) to (index + (1 + size_all p schedule e true block)) loops (depth_after_all block e) turns (At index loops m)
      (omega arith)
      (subst (λ (st : Stand). Follows p g code to loops (depth_after_all block e) turns st (At index loops m)) same_stand ran)

  lands_here : (index : ℕ) (loops : List LoopCounter) (d : Depth) (turns : ℕ) (m s : StateValue) → forget_beyond d m ≡ s → IsProper d turns s
      → Lands p g code (index + 0) loops d turns s (At index loops m)
  lands_here index loops d turns m s same q =
      let e : index ≡ index + 0 = omega arith in
      subst (λ (x : ℕ). Lands p g code x loops d turns s (At index loops m)) e (record { there = m; reaches = here; same = same; proper = q })

  module _ (good : (d : Depth) (label : Option ℕ) (a : StatementKindTree) (rest : BlockTree) → IsGoodCompany p g (fusion_role_of p schedule d false label a rest) d a rest) where
    mutual
      pub action_runs : (a : StatementKindTree) (index number : ℕ) (label : Option ℕ) (d : Depth) (turns : ℕ) (loops : List LoopCounter) (m s : StateValue)
          → HasAt code index (plan p schedule index d number label a) → forget_beyond d m ≡ s → IsProper d turns s
          → Follows p g code (index + size p schedule d a) loops (depth_after a d) turns (after p g number a s) (At index loops m)
      action_runs (Simple a) index number label d turns loops m s at same q = simple_runs p g code a index number (apply_schedule_at label schedule) d turns loops m s at.0 same q
      action_runs (If c body) index number label d turns loops m s at same q =
          let to = index + 1 + size_all p schedule d false body in
          lands_at p g code (after p g number (If c body) s) to (index + size p schedule d (If c body)) loops d turns (At index loops m) (omega arith)
          (if_runs c body index number to d turns loops m s (bool_value_in g.vertices c s) at.0 same q refl
          (block_runs body false (index + 1) d turns loops s s at.1 (forgotten-all d s q.deep) q))
      action_runs (IfElse c body other) index number label d turns loops m s at same q =
          let back = index + 1 + size_all p schedule d false body in
          let from = back + 1 in
          let to = from + size_all p schedule d false other in
          let others = behind_block (index + 1) back d body (plain number d (Jump to) ∷ plan_all p schedule from d false other) refl at.1 in
          lands_at p g code (after p g number (IfElse c body other) s) to (index + size p schedule d (IfElse c body other)) loops d turns (At index loops m) (omega arith)
          (if_else_runs c body other index number back from to d turns loops m s (bool_value_in g.vertices c s) at.0 others.0 same q refl
          (block_runs body false (index + 1) d turns loops s s (has_front code (index + 1) (plan_all p schedule (index + 1) d false body)
          (plain number d (Jump to) ∷ plan_all p schedule from d false other) at.1) (forgotten-all d s q.deep) q)
          (block_runs other false from d turns loops s s others.1 (forgotten-all d s q.deep) q))
      action_runs (While c body) index number label d turns loops m s at same q =
          let back = index + 2 + size_all p schedule d false body in
          let to = back + 1 in
          let jump = plain number d (Jump index) ∷ [] in
          let inner : HasBlock (index + 2) d false body jump = subst (λ (x : ℕ). HasAt code x (plan_all p schedule (index + 2) d false body ++ jump)) (omega arith) at.1.1 in
          lands_at p g code (after p g number (While c body) s) to (index + size p schedule d (While c body)) loops d turns (At index loops m) (omega arith)
          (while_runs p g code c (after_all p g body) index number back to d (depth_after_all body d) turns loops m s at.0 at.1.0 (behind_block (index + 2) back d body jump refl inner).0
          (within_after_all body d)
          (λ n t proper. block_runs body false (index + 2) d n loops t t (has_front code (index + 2) (plan_all p schedule (index + 2) d false body) jump inner) (forgotten-all d t proper.deep) proper)
          same q)
      action_runs (For name first end body) index number label d turns loops m s at same q =
          let deep = depth_in_loop d in
          let back = index + 4 + size_all p schedule deep false body in
          let to = back + 2 in
          let last = plain number d (Advance name) ∷ loop_step number deep d (Jump (index + 2)) ∷ [] in
          let inner : HasBlock (index + 4) deep false body last = subst (λ (x : ℕ). HasAt code x (plan_all p schedule (index + 4) deep false body ++ last)) (omega arith) at.1.1.1.1 in
          let others = behind_block (index + 4) back deep body last refl inner in
          let stands : StandsFor code index number name back to first end d = record {
            at_first = at.0;
            at_end = at.1.0;
            at_test = subst (λ (x : ℕ). slice_get code x ≡ Some (loop_step number deep d (UnlessBelow name to))) (omega arith) at.1.1.0;
            at_turn = subst (λ (x : ℕ). slice_get code x ≡ Some (loop_step number deep d Turn)) (omega arith) at.1.1.1.0;
            at_advance = others.0;
            at_jump = others.1.0;
          } in
          lands_at p g code (after p g number (For name first end body) s) to (index + size p schedule d (For name first end body)) loops d turns (At index loops m) (omega arith)
          (for_runs p g code index number name back to first end d (depth_after_all body deep) loops stands (after_all p g body) turns s m
          (within_both d deep (depth_after_all body deep) (within_loop d) (within_after_all body deep))
          (λ r n t proper. block_runs body false (index + 4) deep n (r ∷ loops) t t (has_front code (index + 4) (plan_all p schedule (index + 4) deep false body) last inner)
          (forgotten-all deep t proper.deep) proper)
          same q)

      pub block_runs : (b : BlockTree) (is_done : Bool) (index : ℕ) (d : Depth) (turns : ℕ) (loops : List LoopCounter) (m s : StateValue)
          → HasAt code index (plan_all p schedule index d is_done b) → forget_beyond (at_rest is_done b d) m ≡ s → IsProper (at_rest is_done b d) turns s
          → Follows p g code (index + size_all p schedule d is_done b) loops (depth_after_all b d) turns (after_rest p g is_done b s) (At index loops m)
      block_runs Empty true index d turns loops m s at same q = lands_here index loops d turns m s same q
      block_runs Empty false index d turns loops m s at same q = lands_here index loops d turns m s same q
      block_runs (Then number label action rest) true index d turns loops m s at same q =
          let e : index + 0 ≡ index = omega arith in
          lands_at p g code (after_all p g rest s) (index + size_all p schedule (depth_after action d) false rest) (index + size_all p schedule d true (Then number label action rest)) loops
          (depth_after_all rest (depth_after action d)) turns (At index loops m) (omega arith)
          (block_runs rest false index (depth_after action d) turns loops m s (subst (λ (x : ℕ). HasAt code index (plan_all p schedule x (depth_after action d) false rest)) e at) same q)
      block_runs (Then number label action rest) false index d turns loops m s at same q =
          joined_runs (fusion_role_of p schedule d false label action rest) action rest index number label d turns loops m s (good d label action rest) at same q
          (λ own. action_runs action index number label d turns loops m s own same q)
          (λ is_done from m t others kept proper. block_runs rest is_done from (depth_after action d) turns loops m t others kept proper)
