-- An apply beside a recorded one, and what is known after it.
use Rattle.std.proofs.Common.{◌≡◌, ◌↔◌, ℕ, suc, ◌+◌, ◌<◌, ◌≤◌, ◌||◌, ℤ, Bool, true, false, Option, Some, None, List, slice_get, [], ◌∷◌, Contains, drop, length, slice_index_or, Result, Ok, Err, IfOk, IfSome, inl, inr, ap, sym, ◌∙◌, subst, arith}
use Rattle.std.proofs.lemmas.Bool.{or_parts}
use Rattle.std.proofs.lemmas.Bool.Decides.{leb_tells}
use Rattle.std.proofs.lemmas.List.{get_or_past}
use Rattle.std.proofs.lemmas.Option.{get_or_from_slice_get, slice_get_within}
use Rattle.std.proofs.Math.Numerals.{suc-eq-add-one}
use Rattle.std.proofs.Math.Seq.{drop-cons}
use Rattle.std.specs.Arc.{arc_value}
use Rattle.std.specs.Result.{result_ok}
use Rattle.kernels.specs.EdgeApply.{is_member}
use Rattle.vectors.specs.declared.changes.VectorChanges.{VectorChanges}
use Rattle.vectors.specs.Changes.{with_all_changes}
use Rattle.plans.specs.declared.functions.FunctionKernels.{FunctionKernels}
use Rattle.flat_snapshot.specs.Digraph.{Digraph}
use Rattle.edge_fold.specs.Changed.{AreApart, changes_of}
use Rattle.edge_apply.specs.declared.apply.Apply.{Apply}
use Rattle.edge_differences.specs.Listed.{AreSameBut}
use Rattle.run_state.specs.declared.run_view.RunView.{RunView}
use Rattle.follow_engine.specs.declared.differences.Differences.{Differences}
use Rattle.follow_engine.specs.declared.differences.FormerApply.{FormerApply}
use Rattle.follow_engine.specs.Following.{AreEndsBut, CanFollow}
use Rattle.follow_engine.specs.Local.{AgreeAt, are_local}
use Rattle.follow_engine.specs.Reached.{is_edge_reached, is_reached, is_row_reached}
use Rattle.follow_engine.specs.Reduced.{AreChangesReduced}
use Rattle.follow_engine.specs.Spliced.{changes_at}
use Rattle.runner.specs.EdgeMap.{IsApplyOfRun}
use Rattle.runner.specs.declared.edge_maps.EdgeMap.{EdgeMap}
use Rattle.run_records.specs.declared.apply_record.ApplyRecord.{ApplyRecord}
use Rattle.run_records.specs.declared.former_run.FormerRun.{FormerRun}
use Rattle.run_records.specs.inside.FormerRun.{AreAlikeBut, IsBeside, IsRecordedApply}
use Rattle.run_records.specs.Recorded.{AreRecorded, IsRecorded}
use Rattle.run_records.proofs.Former.{recorded_changes, same_kernels}
use Rattle.run_records.proofs.Known.{agree_after, agree_past, rows_stay}
use Rattle.run_records.proofs.Outside.{member_tested}

-- a vertex that is not reached is not named
not_named : (now was : Apply) (d : Differences) (v : ℕ) → is_reached now was d v ≡ false → is_member v d.entries.now ≡ false
not_named now was d v off =
    let edges = now.flat.now.edges in
    let named = is_member v d.entries.now in
    let both = named || is_member v d.destinations.now in
    let led = both || is_edge_reached now.from was.from d.edges.now v in
    let rows = led || is_row_reached edges None d.sources.now v in
    let fourth = or_parts rows (is_row_reached edges now.from d.entries.now v) off in
    let third = or_parts led (is_row_reached edges None d.sources.now v) fourth.0 in
    let second = or_parts both (is_edge_reached now.from was.from d.edges.now v) third.0 in
    (or_parts named (is_member v d.destinations.now) second.0).0

-- after an apply that was followed the vectors agree outside the vertices that it marked
pub known_after : (n : ℕ) (now was : Apply) (d : Differences) (members : List ℕ) (test : ℕ → Bool) (vectors kept : List (List ℤ)) (cs ds : List VectorChanges)
    → AreAlikeBut n kept vectors d.entries.now → AreApart cs → AreApart ds → ((v : ℕ) → Contains members v ↔ (test v ≡ true))
    → ((v : ℕ) → v < n → test v ≡ is_reached now was d v)
    → ((x v : ℕ) → v < n → is_reached now was d v ≡ false → changes_at v (changes_of x cs) ≡ changes_at v (changes_of x ds))
    → AreAlikeBut n (with_all_changes ds kept) (with_all_changes cs vectors) members
known_after n now was d members test vectors kept cs ds alike once once_kept has tested same = record {
  count = alike.count;
  kept_rows = rows_stay alike.count n kept ds alike.kept_rows;
  rows = rows_stay alike.count n vectors cs alike.rows;
  entries = λ v out.
      let off : v < n → is_reached now was d v ≡ false = λ below. sym (tested v below) ∙ sym (member_tested test members has v) ∙ out in
      let agree : AgreeAt vectors kept v = elim (leb_tells n v) [
        | inl h ↦ agree_past alike.count n vectors kept v alike.rows alike.kept_rows h.1
        | inr h ↦ alike.entries v (not_named now was d v (off h.1))
      ] in
      agree_after alike.count n vectors kept cs ds v alike.rows alike.kept_rows once once_kept agree (λ below x. same x v below (off below));
}

-- the vectors of a recorded apply are long enough if those of the present one are
long_enough : (n m : ℕ) (vectors kept : List (List ℤ)) (named : List ℕ) → AreAlikeBut n kept vectors named → m ≡ n → (x : ℕ)
    → n ≤ length (slice_index_or vectors x []) → m ≤ length (slice_index_or kept x [])
long_enough n m vectors kept named alike same x long =
    elim (leb_tells alike.count x) [
      | inl h ↦ (let over = h.1 in
          let is = alike.rows.count in
          let none : slice_index_or vectors x [] ≡ [] = get_or_past vectors x [] (omega (arith, over, is)) in
          let short : n ≤ 0 = subst (λ (row : List ℤ). n ≤ length row) none long in
          omega (arith, short, same))
      | inr h ↦ (let row = alike.kept_rows.rows x h.1 in omega (arith, row, same))
    ]

-- an apply may follow a recorded one of the same functions and between the same ends
pub can_follow : (run : RunView) (asked : EdgeMap) (now : Apply) (r : FormerRun) (a : ApplyRecord) (former : FormerApply) (d : Differences)
    → IsApplyOfRun run asked now → IsRecordedApply r a former.apply → IsBeside run.functions.now run.graph.now r
    → AreApart a.changes.vectors.items × IsRecorded run.functions.now (arc_value r.run_record.now.graph) r.vectors.vectors a
    → a.asked.first ≡ asked.first → a.asked.second ≡ asked.second → are_local now.first.now now.second ≡ true
    → former.changes.now.vectors.items ≡ a.changes.vectors.items → d.edges.now ≡ r.edges.now
    → AreAlikeBut now.flat.now.vertices r.vectors.vectors now.vectors.now.vectors d.entries.now
    → AreEndsBut d.sources.now now.from former.apply.from → AreEndsBut d.destinations.now now.to former.apply.to → CanFollow now former d
can_follow run asked now r a former d is recorded beside holds first second local changes edges alike sources destinations =
    let of_record : IsRecorded (arc_value r.run_record.now.plan).functions (arc_value r.run_record.now.graph) r.vectors.vectors a =
    subst (λ (f : FunctionKernels). IsRecorded f (arc_value r.run_record.now.graph) r.vectors.vectors a) (sym beside.functions) holds.1 in
    let count : former.apply.flat.now.vertices ≡ now.flat.now.vertices =
    ap (λ (g : Digraph). g.vertices) recorded.graph ∙ beside.vertices ∙ sym (ap (λ (g : Digraph). g.vertices) is.graph) in
    record {
      differ = record {
        vertices = count;
        edges = subst (λ (ps : List (ℕ × ℕ)). AreSameBut ps now.flat.now.edges former.apply.flat.now.edges) (sym edges)
            (subst (λ (g : Digraph). AreSameBut r.edges.now g.edges former.apply.flat.now.edges) (sym is.graph)
            (subst (λ (g : Digraph). AreSameBut r.edges.now run.graph.now.edges g.edges) (sym recorded.graph) beside.edges));
        entries = λ v out. subst (λ (vs : List (List ℤ)). AgreeAt now.vectors.now.vectors vs v) (sym recorded.vectors) (alike.entries v out);
        sources = sources;
        destinations = destinations;
        kernels = same_kernels run asked now r a former.apply is recorded beside.functions first second;
        local = local;
        long = λ x long. subst (λ (vs : List (List ℤ)). former.apply.flat.now.vertices ≤ length (slice_index_or vs x [])) (sym recorded.vectors)
            (long_enough now.flat.now.vertices former.apply.flat.now.vertices now.vectors.now.vectors r.vectors.vectors d.entries.now alike count x long);
      };
      once = subst (λ (cs : List VectorChanges). AreApart cs) (sym changes) holds.0;
      changes = subst (λ (cs : List VectorChanges). AreChangesReduced former.apply cs) (sym changes) (recorded_changes r a former.apply recorded of_record);
    }

-- the rest of a list at an element is the element, and the rest after it
drop_at : {A : Type 0} (xs : List A) (i : ℕ) (a : A) → slice_get xs i ≡ Some a → drop i xs ≡ a ∷ drop (i + 1) xs
drop_at xs i a at =
    drop-cons xs i a (slice_get_within xs i a at)
    ∙ ap (λ x. x ∷ drop (suc i) xs) (get_or_from_slice_get xs i a a at)
    ∙ ap (λ (k : ℕ). a ∷ drop k xs) (suc-eq-add-one i)

-- the next apply of a record, and those after it
pub record_at : (f : FunctionKernels) (g : Digraph) (vectors : List (List ℤ)) (records : List ApplyRecord) (next : ℕ) (a : ApplyRecord) → slice_get records next ≡ Some a
    → AreRecorded f g vectors (drop next records)
    → (AreApart a.changes.vectors.items × IsRecorded f g vectors a) × AreRecorded f g (with_all_changes a.changes.vectors.items vectors) (drop (next + 1) records)
record_at f g vectors records next a at are = subst (λ (rs : List ApplyRecord). AreRecorded f g vectors rs) (drop_at records next a at) are

-- what is true of a result is true of its value, if there is one
pub some_if_ok : {A E : Type 0} (P : A → Type 0) (r : Result A E) → IfOk r P → IfSome (result_ok r) P
some_if_ok P (Ok a) is = is
some_if_ok P (Err e) is = tt

-- what is true of an answer is true of its value
pub some_holds : {A : Type 0} (P : A → Type 0) (o : Option A) (a : A) → o ≡ Some a → IfSome o P → P a
some_holds P o a is holds = subst (λ p. IfSome p P) is holds
