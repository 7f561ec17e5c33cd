-- The law of locality: an apply leaves a destination that is not touched as the former apply left it.
use Rattle.std.proofs.Common.{◌≡◌, ℕ, ◌<◌, ℤ, Bool, true, false, not, ◌&&◌, Option, List, [], length, slice_index_or, refl, sym, ap, ap₂, ◌∙◌}
use Rattle.std.proofs.lemmas.Bool.{and_parts}
use Rattle.std.specs.Borrow.{Bor}
use Rattle.std.specs.List.{filter}
use Rattle.weighted_edges.specs.Edge.{Edge}
use Rattle.algorithm_meaning.specs.declared.contribution.Contribution.{Contribution}
use Rattle.algorithm_meaning.proofs.EdgeApplies.{entry_after_edges}
use Rattle.kernels.specs.FunctionStatementTree.{FunctionStatementsTree}
use Rattle.kernels.specs.EdgeApply.{after_edges}
use Rattle.kernels.specs.Laws.{reduced_all}
use Rattle.kernels.specs.Registers.{HasSizes}
use Rattle.kernels.specs.State.{StateValue}
use Rattle.kernels.specs.Value.{entry}
use Rattle.kernels.specs.declared.kernel.EdgeKernel.{EdgeKernel}
use Rattle.edge_fold.specs.Between.{edges_between}
use Rattle.edge_fold.specs.Folded.{AreKernels}
use Rattle.edge_differences.specs.Listed.{AreSameBut, is_listed}
use Rattle.follow_engine.specs.Local.{AgreeAt, are_local}
use Rattle.follow_engine.specs.Reached.{leads}
use Rattle.follow_engine.proofs.Columns.{filter_both, gets, gets_alike, gets_filtered, leads_filtered, none_pass}
use Rattle.follow_engine.proofs.Local.{all_alike}

-- nothing that an apply reads at a destination differs from what the former one read: its entries, whether it is a
-- destination, the listed edges to it, and the edges to it from sources
pub record IsUntouched (now was : StateValue) (from from_was to to_was : ℕ → Bool) (es : List Edge) (listed : List (ℕ × ℕ)) (v : ℕ) : Type 0 where
  pub entries : AgreeAt now.vectors was.vectors v
  pub destination : to v ≡ to_was v
  pub unlisted : (u : ℕ) → is_listed listed u v ≡ true → (from u ≡ false) × (from_was u ≡ false)
  pub sources : (u : ℕ) → leads es u v ≡ true → (from u ≡ from_was u) × (from u ≡ true → AgreeAt now.vectors was.vectors u)

-- what two applies share: the functions, which are local, and all edges but the listed ones
pub record AreAlike (first : EdgeKernel) (second : Option (Bor EdgeKernel)) (steps : List FunctionStatementsTree) (now was : StateValue) (listed : List (ℕ × ℕ)) (es fs : List Edge) : Type 0 where
  pub kernels : AreKernels first second steps
  pub local : are_local first second ≡ true
  pub sizes : List ℤ
  pub sized : HasSizes sizes now
  pub sizes_were : List ℤ
  pub sized_were : HasSizes sizes_were was
  pub edges : AreSameBut listed es fs

abbrev unlisted : List (ℕ × ℕ) → Edge → Bool
unlisted listed e = not (is_listed listed e.0 e.1)

abbrev passes : (from to : ℕ → Bool) → Edge → Bool
passes from to e = from e.0 && to e.1

-- listed edges whose sources do not pass may be left out
without_listed : (x v : ℕ) (steps : List FunctionStatementsTree) (m : StateValue) (from to : ℕ → Bool) (listed : List (ℕ × ℕ)) (es : List Edge)
    → ((u : ℕ) → is_listed listed u v ≡ true → from u ≡ false)
    → gets x v steps m (edges_between from to es) ≡ gets x v steps m (filter (passes from to) (filter (unlisted listed) es))
without_listed x v steps m from to listed es none =
    gets_filtered x v steps m (passes from to) (λ e. passes from to e && unlisted listed e) es
    (λ e on at. still_passes (from e.0) (to e.1) (is_listed listed e.0 e.1) (λ is. none e.0 (ap (λ (w : ℕ). is_listed listed e.0 w) (sym at) ∙ is)))
    ∙ ap (gets x v steps m) (sym (filter_both (passes from to) (unlisted listed) es))
  where
    still_passes : (a b c : Bool) → (c ≡ true → a ≡ false) → a && b ≡ (a && b) && not c
    still_passes true true true off = off refl
    still_passes true true false off = refl
    still_passes true false c off = refl
    still_passes false b c off = refl

-- the column of a vertex that is not touched
column_same : (first : EdgeKernel) (second : Option (Bor EdgeKernel)) (steps : List FunctionStatementsTree) (now was : StateValue) (from from_was to to_was : ℕ → Bool) (listed : List (ℕ × ℕ))
    (es fs : List Edge) (x v : ℕ)
    → AreAlike first second steps now was listed es fs → IsUntouched now was from from_was to to_was es listed v
    → gets x v steps now (edges_between from to es) ≡ gets x v steps was (edges_between from_was to_was fs)
column_same first second steps now was from from_was to to_was listed es fs x v alike quiet =
    without_listed x v steps now from to listed es (λ u is. (quiet.unlisted u is).0)
    ∙ gets_alike x v steps now was (passes from to) (filter (unlisted listed) es)
    (λ e on at passing.
    let source = quiet.sources e.0 (leads_filtered (unlisted listed) es e.0 v on) in
    let own : AgreeAt now.vectors was.vectors e.1 = λ y. ap (λ (w : ℕ). entry now.vectors y w) at ∙ quiet.entries y ∙ ap (λ (w : ℕ). entry was.vectors y w) (sym at) in
    all_alike first second steps alike.kernels alike.local now was alike.sizes alike.sizes_were alike.sized alike.sized_were e (source.1 (and_parts (from e.0) (to e.1) passing).0) own)
    ∙ gets_filtered x v steps was (passes from to) (passes from_was to_was) (filter (unlisted listed) es)
    (λ e on at. ap₂ (λ (a b : Bool). a && b) (quiet.sources e.0 (leads_filtered (unlisted listed) es e.0 v on)).0 (ap to at ∙ quiet.destination ∙ ap to_was (sym at)))
    ∙ ap (λ (gs : List Edge). gets x v steps was (filter (passes from_was to_was) gs)) alike.edges
    ∙ sym (without_listed x v steps was from_was to_was listed fs (λ u is. (quiet.unlisted u is).1))

-- and its entries
pub entry_same : (first : EdgeKernel) (second : Option (Bor EdgeKernel)) (steps : List FunctionStatementsTree) (now was : StateValue) (from from_was to to_was : ℕ → Bool) (listed : List (ℕ × ℕ))
    (es fs : List Edge) (x v : ℕ)
    → AreAlike first second steps now was listed es fs → IsUntouched now was from from_was to to_was es listed v
    → v < length (slice_index_or now.vectors x []) → v < length (slice_index_or was.vectors x [])
    → entry (after_edges steps now.sets now.vectors (edges_between from to es) now.vectors) x v ≡ entry (after_edges steps was.sets was.vectors (edges_between from_was to_was fs) was.vectors) x v
entry_same first second steps now was from from_was to to_was listed es fs x v alike quiet inside also =
    entry_after_edges steps now.sets now.vectors (edges_between from to es) now.vectors x v inside
    ∙ ap₂ (λ (n : ℤ) (cs : List Contribution). reduced_all n cs) (quiet.entries x) (column_same first second steps now was from from_was to to_was listed es fs x v alike quiet)
    ∙ sym (entry_after_edges steps was.sets was.vectors (edges_between from_was to_was fs) was.vectors x v also)

-- an apply to chosen destinations changes these as an apply to all
pub entry_chosen : (steps : List FunctionStatementsTree) (m : StateValue) (from to chosen : ℕ → Bool) (es : List Edge) (x v : ℕ) → chosen v ≡ to v → v < length (slice_index_or m.vectors x [])
    → entry (after_edges steps m.sets m.vectors (edges_between from chosen es) m.vectors) x v ≡ entry (after_edges steps m.sets m.vectors (edges_between from to es) m.vectors) x v
entry_chosen steps m from to chosen es x v is inside =
    entry_after_edges steps m.sets m.vectors (edges_between from chosen es) m.vectors x v inside
    ∙ ap (reduced_all (entry m.vectors x v))
    (gets_filtered x v steps m (passes from chosen) (passes from to) es (λ e on at. ap (λ (b : Bool). from e.0 && b) (ap chosen at ∙ is ∙ ap to (sym at))))
    ∙ sym (entry_after_edges steps m.sets m.vectors (edges_between from to es) m.vectors x v inside)

-- and leaves all others
pub entry_left : (steps : List FunctionStatementsTree) (m : StateValue) (from chosen : ℕ → Bool) (es : List Edge) (x v : ℕ) → chosen v ≡ false → v < length (slice_index_or m.vectors x [])
    → entry (after_edges steps m.sets m.vectors (edges_between from chosen es) m.vectors) x v ≡ entry m.vectors x v
entry_left steps m from chosen es x v off inside =
    entry_after_edges steps m.sets m.vectors (edges_between from chosen es) m.vectors x v inside
    ∙ ap (reduced_all (entry m.vectors x v))
    (gets_filtered x v steps m (passes from chosen) (λ e. false) es (λ e on at. ap (λ (b : Bool). from e.0 && b) (ap chosen at ∙ off) ∙ never (from e.0))
    ∙ ap (gets x v steps m) (none_pass es))
  where
    never : (a : Bool) → a && false ≡ false
    never true = refl
    never false = refl
