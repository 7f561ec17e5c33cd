-- What was found at the destinations that are reached, and what is recorded at all others, are the changes of the apply.
use Rattle.std.proofs.Common.{◌≡◌, inl, inr, ℕ, ◌<◌, ◌≤◌, ℤ, pos, FitsSigned, Bool, true, false, ◌&&◌, List, [], length, slice_index_or, refl, sym, ap, ◌∙◌, subst, arith}
use Rattle.std.specs.Int.{w64}
use Rattle.std.specs.List.{filter}
use Rattle.kernels.specs.EdgeApply.{after_edges, is_member}
use Rattle.kernels.specs.Registers.{HasSizes}
use Rattle.kernels.specs.State.{StateValue}
use Rattle.kernels.specs.Value.{entry}
use Rattle.vectors.specs.declared.changes.VectorChanges.{VectorChanges}
use Rattle.edge_fold.specs.Between.{edges_between}
use Rattle.edge_fold.specs.Changed.{changed, changes_of}
use Rattle.edge_apply.specs.declared.apply.Apply.{Apply}
use Rattle.edge_apply.proofs.Listed.{member_filtered}
use Rattle.follow_engine.specs.declared.differences.Differences.{Differences}
use Rattle.follow_engine.specs.declared.differences.FormerApply.{FormerApply}
use Rattle.follow_engine.specs.Following.{CanFollow}
use Rattle.follow_engine.specs.Local.{AgreeAt}
use Rattle.follow_engine.specs.Reached.{is_reached}
use Rattle.follow_engine.specs.Reduced.{AreChangesReduced}
use Rattle.follow_engine.specs.Spliced.{spliced}
use Rattle.follow_engine.specs.Spent.{AreChosen}
use Rattle.follow_engine.specs.inside.Among.{ArePulledAmong}
use Rattle.follow_engine.proofs.Ends.{former_test}
use Rattle.follow_engine.proofs.Law.{AreAlike, entry_chosen, entry_left, entry_same}
use Rattle.follow_engine.proofs.Sizes.{has_sizes, made_up}
use Rattle.follow_engine.proofs.Splits.{SplitsAt, split}
use Rattle.follow_engine.proofs.Untouched.{untouched}

-- how an apply was followed: which destinations are reached, those of them that were pulled, and what was found
pub record IsFollowed (now : Apply) (former : FormerApply) (d : Differences) (test : ℕ → Bool) (reached chosen : List ℕ) (found all : List VectorChanges) : Type 0 where
  pub follows : CanFollow now former d
  pub sizes : (p : ℕ) → FitsSigned w64 (slice_index_or former.apply.sizes.now p (pos 0))
  pub tested : (v : ℕ) → v < now.flat.now.vertices → test v ≡ is_reached now former.apply d v
  pub listed : (v : ℕ) → is_member v reached ≡ test v
  pub chosen_are : AreChosen now reached chosen
  pub pulled : ArePulledAmong now chosen found
  pub spliced_are : (x : ℕ) → changes_of x all ≡ spliced test (changes_of x found) (changes_of x former.changes.now.vectors.items)

-- a vertex that is reached is pulled if it passes
chosen_at : (chosen : List ℕ) (to test : ℕ → Bool) (reached : List ℕ) (v : ℕ) (b : Bool) → chosen ≡ filter to reached → is_member v reached ≡ test v → test v ≡ b
    → is_member v chosen ≡ b && to v
chosen_at chosen to test reached v b are listed is =
    ap (is_member v) are ∙ member_filtered to v reached ∙ ap (λ (c : Bool). c && to v) (listed ∙ is)

pub changes_followed : (now : Apply) (former : FormerApply) (d : Differences) (test : ℕ → Bool) (reached chosen : List ℕ) (found all : List VectorChanges)
    → IsFollowed now former d test reached chosen found all → AreChangesReduced now all
changes_followed now former d test reached chosen found all is m steps from to vectors sized kernels is_from is_to x by long =
    let was = former.apply in
    let differ = is.follows.differ in
    let n = now.flat.now.vertices in
    let es = now.flat.now.edges in
    let fs = was.flat.now.edges in
    let k : StateValue = made_up was.vectors.now.vectors was.sizes.now in
    let also : HasSizes was.sizes.now k = has_sizes was.vectors.now.vectors was.sizes.now is.sizes in
    let source = former_test d.sources.now now.from was.from m k from now.sizes.now was.sizes.now sized also differ.sources is_from in
    let destination = former_test d.destinations.now now.to was.to m k to now.sizes.now was.sizes.now sized also differ.destinations is_to in
    let agree : (u : ℕ) → is_member u d.entries.now ≡ false → AgreeAt m.vectors k.vectors u =
    λ u out. subst (λ (vs : List (List ℤ)). AgreeAt vs k.vectors u) vectors (differ.entries u out) in
    let alike : AreAlike now.first.now now.second steps m k d.edges.now es fs = record {
      kernels = kernels;
      local = differ.local;
      sizes = now.sizes.now;
      sized = sized;
      sizes_were = was.sizes.now;
      sized_were = also;
      edges = differ.edges;
    } in
    let passing = λ (v : ℕ). is_member v chosen in
    let chosen_here = is.chosen_are m to vectors sized is_to in
    let old = entry m.vectors x in
    let new = entry (after_edges steps m.sets m.vectors (edges_between from to es) m.vectors) x in
    let pulled = entry (after_edges steps m.sets m.vectors (edges_between from passing es) m.vectors) x in
    let before = entry k.vectors x in
    let after = entry (after_edges steps k.sets k.vectors (edges_between source.former destination.former fs) k.vectors) x in
    let were : was.flat.now.vertices ≤ length (slice_index_or k.vectors x []) =
    differ.long x (subst (λ (vs : List (List ℤ)). n ≤ length (slice_index_or vs x [])) (sym vectors) long) in
    let recorded : changes_of x former.changes.now.vectors.items ≡ changed n before after =
    is.follows.changes k steps source.former destination.former refl also (differ.kernels steps kernels) source.is destination.is x by were
    ∙ ap (λ (count : ℕ). changed count before after) differ.vertices in
    let at_test : (v : ℕ) → v < n → (b : Bool) → test v ≡ b → SplitsAt test old new pulled before after v =
    λ v l b. elim b as (λ c. test v ≡ c → SplitsAt test old new pulled before after v) [
      | true ↦ (λ on. inl (on, entry_chosen steps m from to passing es x v (chosen_at chosen to test reached v true chosen_here (is.listed v) on) (omega (arith, l, long))))
      | false ↦ (λ off.
          let quiet = untouched now was d m k from to source destination agree v (sym (is.tested v l) ∙ off) in
          inr (
            off,
            entry_left steps m from passing es x v (chosen_at chosen to test reached v false chosen_here (is.listed v) off) (omega (arith, l, long)),
            sym (quiet.entries x),
            sym (entry_same now.first.now now.second steps m k from source.former to destination.former d.edges.now es fs x v alike quiet (omega (arith, l, long))
                (let same_count = differ.vertices in omega (arith, l, were, same_count))),
          ))
    ] in
    is.spliced_are x
    ∙ split test old new pulled before after n (changes_of x found) (changes_of x former.changes.now.vectors.items)
    (is.pulled m steps from vectors sized kernels is_from x (by m).0 (by m).1 long) recorded (λ v l. at_test v l (test v) refl)
