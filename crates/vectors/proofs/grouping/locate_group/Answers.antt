-- Proofs of `locate_group`, src/grouping.rt.
use Rattle.std.proofs.Common.{◌≡◌, ◌+◌, ◌<◌, ap, sym, ◌∙◌, subst, arith, List, [], ℕ, length, set, get_or, refl}
use Rattle.std.proofs.lemmas.List.{get_or_read}
use Rattle.vectors.specs.declared.location.Location.{Location}
use Rattle.vectors.specs.inside.Layout.{AreLocated, IsFree, vertices_of}
use Rattle.vectors.proofs.Groupings.{next_group, one_more, same_vertices, unfit}
use Rattle.vectors.proofs.grouping.locate_group.Goals as goal

pub returns-then-not-locate-clause-fit : goal.returns-then-not-locate-clause-fit
returns-then-not-locate-clause-fit c = λ no start before fit.
    let groups = c.args.groups.now in
    let k = c.args.k in
    let j = c.names.first in
    let vertices = c.vertices_of-vertices.result in
    let ls = c.names.locations in
    let names = c.as_slice-names.result.now in
    let e : names ≡ get_or groups k [] = c.as_slice-names.ensures ∙ get_or_read groups k c.index-groups-k.result c.requires c.index-groups-k.is [] in
    let size : vertices ≡ vertices_of start (get_or groups k []) = c.vertices_of-vertices.ensures ∙ same_vertices start groups k 0 c.args.locations.now before (get_or names 0 0)
    ∙ ap (vertices_of start) e in
    let Inside : List ℕ → Type 0 = λ ns. j < length ns in
    let Free : List ℕ → Type 0 = λ ns. IsFree ls (get_or ns j 0) vertices in
    let free = unfit start groups k j vertices ls (c.names.invariant.located start before) c.requires (subst Inside e c.names-test.true) size fit in
    c.if-not-locate.ensures.fit refl (subst Free (sym e) free)

pub names-preserved : goal.names-preserved
names-preserved c = record {
  located = λ start before.
      let groups = c.args.groups.now in
      let k = c.args.k in
      let j = c.names.first in
      let vertices = c.vertices_of-vertices.result in
      let ls = c.names.locations in
      let names = c.as_slice-names.result.now in
      let e : names ≡ get_or groups k [] = c.as_slice-names.ensures ∙ get_or_read groups k c.index-groups-k.result c.requires c.index-groups-k.is [] in
      let size : vertices ≡ vertices_of start (get_or groups k []) = c.vertices_of-vertices.ensures ∙ same_vertices start groups k 0 c.args.locations.now before (get_or names 0 0)
      ∙ ap (vertices_of start) e in
      let Inside : List ℕ → Type 0 = λ ns. j < length ns in
      let Free : List ℕ → Type 0 = λ ns. IsFree ls (get_or ns j 0) vertices in
      let more = one_more start groups k j vertices ls (c.names.invariant.located start before) (subst Inside e c.names-test.true) size (subst Free e (c.if-not-locate.ensures.free refl)) in
      let placed = λ (n : ℕ) (ns : List ℕ). (let l : Location = record { array = n + k; first = j; stride = length ns; vertices = vertices } in set ls (get_or ns j 0) l) in
      let put : c.locate.new.locations ≡ placed (length c.args.locations.now) names = c.if-not-locate.ensures.put refl in
      subst (AreLocated start groups k (j + 1)) (sym (put ∙ ap (placed (length c.args.locations.now)) e ∙ ap (λ (n : ℕ). placed n (get_or groups k [])) (sym c.names.invariant.count))) more;
  count = c.locate.auto.locations ∙ c.names.invariant.count;
}

pub returns-clause-located : goal.returns-clause-located
returns-clause-located c = λ yes start before.
    let groups = c.args.groups.now in
    let k = c.args.k in
    let names = c.as_slice-names.result.now in
    let e : names ≡ get_or groups k [] = c.as_slice-names.ensures ∙ get_or_read groups k c.index-groups-k.result c.requires c.index-groups-k.is [] in
    let here = c.names-test.false in
    let most = c.names.auto.first-end in
    let all : c.names.first ≡ length names = omega arith in
    next_group start groups k c.names.locations
    (subst (λ (n : ℕ). AreLocated start groups k n c.names.locations) (all ∙ ap (λ (ns : List ℕ). length ns) e) (c.names.invariant.located start before))
