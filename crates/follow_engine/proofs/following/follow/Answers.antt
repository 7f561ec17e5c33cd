-- Proofs of `follow`, src/following.rt.
use Rattle.std.proofs.Common.{rules, ◌≡◌, nat_le, inr, true, false, ℕ, List, sym, ap, ◌∙◌, subst}
use Rattle.edge_fold.specs.Changed.{changes_of}
use Rattle.std.proofs.lemmas.Bool.{leb-false, leb-true}
use Rattle.vertex_marks.specs.Marks.{is_marked}
use Rattle.follow_engine.specs.Spent.{AreChosen}
use Rattle.follow_engine.specs.Work.{edges_to}
use Rattle.follow_engine.specs.inside.Among.{ArePulledAmong}
use Rattle.follow_engine.proofs.Chosen.{member_tested, pull_work}
use Rattle.follow_engine.specs.Spliced.{changes_at}
use Rattle.follow_engine.proofs.FollowedChanges.{changes_followed}
use Rattle.follow_engine.proofs.KeptChanges.{kept_changes}
use Rattle.follow_engine.proofs.following.follow.Goals as goal

pub returns-then-not-fits_budget-clause-spent : goal.returns-then-not-fits_budget-clause-spent
returns-then-not-fits_budget-clause-spent c none =
    let apply = c.args.apply.now in
    let on : c.mark_reached.result ≡ true = search rules in
    let off : c.fits_budget.result ≡ false = search rules in
    let chosen = c.in_ok-among.among.items in
    let work = edges_to apply.flat.now.edges chosen in
    inr (
      work,
      pull_work apply c.args.followed.now.former.apply c.args.followed.now.differences (is_marked c.mark_reached.new.marks) c.in_ok-reached.reached.items chosen c.in_ok-reached.ensures.ascending
          c.in_ok-reached.ensures.marked (c.mark_reached.ensures.reached on)
          (subst (λ (vs : List ℕ). AreChosen apply vs chosen) c.deref.ensures.value c.in_ok-among.ensures),
      leb-false work c.args.followed.now.budget (subst (λ (vs : List ℕ). nat_le (edges_to apply.flat.now.edges vs) c.args.followed.now.budget ≡ false) c.deref-2.ensures.value
          (sym c.fits_budget.ensures ∙ off)),
    )

pub returns-clause-marked : goal.returns-clause-marked
returns-clause-marked c =
    let on : c.mark_reached.result ≡ true = search rules in
    c.mark_reached.ensures.reached on

pub returns-clause-kept : goal.returns-clause-kept
returns-clause-kept c x v lt off =
    let on : c.mark_reached.result ≡ true = search rules in
    let found = changes_of x c.in_ok-changes.changes.vectors.items in
    let recorded = changes_of x c.args.followed.now.former.changes.now.vectors.items in
    ap (changes_at v) (c.in_ok-splice_all.ensures.changes x)
    ∙ kept_changes (is_marked c.mark_reached.new.marks) v found recorded (c.mark_reached.ensures.reached on v lt ∙ off)

pub returns-clause-within : goal.returns-clause-within
returns-clause-within c =
    let apply = c.args.apply.now in
    let on : c.mark_reached.result ≡ true = search rules in
    let fits : c.fits_budget.result ≡ true = search rules in
    let chosen = c.in_ok-among.among.items in
    let work = edges_to apply.flat.now.edges chosen in (
      c.mark_reached.ensures.within on,
      (
        work,
        pull_work apply c.args.followed.now.former.apply c.args.followed.now.differences (is_marked c.mark_reached.new.marks) c.in_ok-reached.reached.items chosen c.in_ok-reached.ensures.ascending
            c.in_ok-reached.ensures.marked (c.mark_reached.ensures.reached on)
            (subst (λ (vs : List ℕ). AreChosen apply vs chosen) c.deref.ensures.value c.in_ok-among.ensures),
        leb-true work c.args.followed.now.budget (subst (λ (vs : List ℕ). nat_le (edges_to apply.flat.now.edges vs) c.args.followed.now.budget ≡ true) c.deref-2.ensures.value
            (sym c.fits_budget.ensures ∙ fits)),
      ),
    )

pub returns-clause-changes : goal.returns-clause-changes
returns-clause-changes c =
    let apply = c.args.apply.now in
    let test = is_marked c.mark_reached.new.marks in
    let on : c.mark_reached.result ≡ true = search rules in
    let reached = c.in_ok-reached.reached.items in
    let chosen = c.in_ok-among.among.items in
    let found = c.in_ok-changes.changes.vectors.items in
    changes_followed apply c.args.followed.now.former c.args.followed.now.differences test reached chosen found c.in_ok-splice_all.field-0.vectors.items (record {
      follows = c.requires;
      sizes = c.read_sizes.ensures;
      tested = c.mark_reached.ensures.reached on;
      listed = member_tested test reached c.in_ok-reached.ensures.marked;
      chosen_are = subst (λ (vs : List ℕ). AreChosen apply vs chosen) c.deref.ensures.value c.in_ok-among.ensures;
      pulled = subst (λ (vs : List ℕ). ArePulledAmong apply vs found) c.deref-3.ensures.value c.in_ok-changes.ensures.changes;
      spliced_are = c.in_ok-splice_all.ensures.changes;
    })
