-- A destination that is not reached is not touched.
use Rattle.std.proofs.Common.{◌≡◌, ℕ, ◌==◌, Bool, true, false, ◌&&◌, ◌||◌, None, List, [], ◌∷◌, refl, sym, ap, ap₂, ◌∙◌}
use Rattle.std.proofs.lemmas.Bool.{false≢true, or_parts}
use Rattle.std.specs.List.{list_any}
use Rattle.kernels.specs.EdgeApply.{is_member}
use Rattle.kernels.specs.State.{StateValue}
use Rattle.edge_apply.specs.declared.apply.Apply.{Apply}
use Rattle.edge_differences.specs.Listed.{is_listed}
use Rattle.follow_engine.specs.declared.differences.Differences.{Differences}
use Rattle.follow_engine.specs.Local.{AgreeAt}
use Rattle.follow_engine.specs.Reached.{is_edge_reached, is_reached, is_row_reached, leads, may_pass}
use Rattle.follow_engine.proofs.Columns.{same}
use Rattle.follow_engine.proofs.Ends.{HasFormerTest}
use Rattle.follow_engine.proofs.Law.{IsUntouched}

-- a vertex that passes a test which no vertex of a list passes is none of them
not_among_at : (test : ℕ → Bool) (x u : ℕ) (a rest : Bool) → (x == u) ≡ a → test x ≡ false → test u ≡ true → rest ≡ false → a || rest ≡ false
not_among_at test x u true rest at off on more = absurd (false≢true (sym off ∙ ap test (same x u at) ∙ on))
not_among_at test x u false rest at off on more = more

not_among : (test : ℕ → Bool) (us : List ℕ) (u : ℕ) → list_any test us ≡ false → test u ≡ true → is_member u us ≡ false
not_among test [] u off on = refl
not_among test (x ∷ us) u off on =
    let parts = or_parts (test x) (list_any test us) off in
    not_among_at test x u (x == u) (is_member u us) refl parts.0 on (not_among test us u parts.1 on)

-- a source that passes a test which no source of a listed edge to the vertex passes
no_second : (c : Bool) → c && true ≡ false → c ≡ false
no_second true h = h
no_second false h = refl

off_at : (test : ℕ → Bool) (p : ℕ × ℕ) (u v : ℕ) (a b rest : Bool) → (p.0 == u) ≡ a → (p.1 == v) ≡ b → test p.0 && b ≡ false → (rest ≡ true → test u ≡ false) → (a && b) || rest ≡ true → test u ≡ false
off_at test p u v true true rest first second off more on = ap test (sym (same p.0 u first)) ∙ no_second (test p.0) off
off_at test p u v true false rest first second off more on = more on
off_at test p u v false b rest first second off more on = more on

listed_off : (test : ℕ → Bool) (ps : List (ℕ × ℕ)) (u v : ℕ) → list_any (λ p. test p.0 && (p.1 == v)) ps ≡ false → is_listed ps u v ≡ true → test u ≡ false
listed_off test [] u v off on = absurd (false≢true on)
listed_off test (p ∷ ps) u v off on =
    let parts = or_parts (test p.0 && (p.1 == v)) (list_any (λ (q : ℕ × ℕ). test q.0 && (q.1 == v)) ps) off in
    off_at test p u v (p.0 == u) (p.1 == v) (is_listed ps u v) refl refl parts.0 (listed_off test ps u v parts.1) on

-- what may pass does not
does_not : (may passes : Bool) → (passes ≡ true → may ≡ true) → may ≡ false → passes ≡ false
does_not may true all off = absurd (false≢true (sym off ∙ all refl))
does_not may false all off = refl

both_hold : (a b : Bool) → a ≡ true → b ≡ true → a && b ≡ true
both_hold a b first second = ap₂ (λ (p q : Bool). p && q) first second

-- the four parts of what is reached
record IsQuiet (now was : Apply) (d : Differences) (v : ℕ) : Type 0 where
  entry : is_member v d.entries.now ≡ false
  destination : is_member v d.destinations.now ≡ false
  edges : is_edge_reached now.from was.from d.edges.now v ≡ false
  sources : is_row_reached now.flat.now.edges None d.sources.now v ≡ false
  rows : is_row_reached now.flat.now.edges now.from d.entries.now v ≡ false

quiet : (now was : Apply) (d : Differences) (v : ℕ) → is_reached now was d v ≡ false → IsQuiet now was d v
quiet now was d v off =
    let named = is_member v d.entries.now in
    let ends = is_member v d.destinations.now in
    let edges = is_edge_reached now.from was.from d.edges.now v in
    let sources = is_row_reached now.flat.now.edges None d.sources.now v in
    let rows = is_row_reached now.flat.now.edges now.from d.entries.now v in
    let fourth = or_parts (((named || ends) || edges) || sources) rows off in
    let third = or_parts ((named || ends) || edges) sources fourth.0 in
    let second = or_parts (named || ends) edges third.0 in
    let first = or_parts named ends second.0 in
    record { entry = first.0; destination = first.1; edges = second.1; sources = third.1; rows = fourth.1 }

pub untouched : (now was : Apply) (d : Differences) (m k : StateValue) (from to : ℕ → Bool)
    → (source : HasFormerTest d.sources.now now.from was.from m k from) → (destination : HasFormerTest d.destinations.now now.to was.to m k to)
    → ((u : ℕ) → is_member u d.entries.now ≡ false → AgreeAt m.vectors k.vectors u) → (v : ℕ) → is_reached now was d v ≡ false
    → IsUntouched m k from source.former to destination.former now.flat.now.edges d.edges.now v
untouched now was d m k from to source destination agree v off =
    let parts = quiet now was d v off in
    let es = now.flat.now.edges in
    let own : AgreeAt m.vectors k.vectors v = agree v parts.entry in
    let read : (u : ℕ) → leads es u v ≡ true → may_pass now.from u ≡ true → AgreeAt m.vectors k.vectors u =
    λ u on may. agree u (not_among (λ w. may_pass now.from w && leads es w v) d.entries.now u parts.rows (both_hold (may_pass now.from u) (leads es u v) may on)) in
    let none : (u : ℕ) → is_listed d.edges.now u v ≡ true → (may_pass now.from u ≡ false) × (may_pass was.from u ≡ false) =
    λ u on. or_parts (may_pass now.from u) (may_pass was.from u) (listed_off (λ w. may_pass now.from w || may_pass was.from w) d.edges.now u v parts.edges on) in
    record {
      entries = own;
      destination = destination.agrees v parts.destination (λ may. own);
      unlisted = λ u on. (does_not (may_pass now.from u) (from u) (source.may u) (none u on).0, does_not (may_pass was.from u) (source.former u) (source.might u) (none u on).1);
      sources = λ u on. (
        source.agrees u (not_among (λ w. leads es w v) d.sources.now u parts.sources on) (read u on),
        λ passing. read u on (source.may u passing),
      );
    }
