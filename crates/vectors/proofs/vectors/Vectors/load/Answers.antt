-- Proofs of `load`, src/vectors.rt.
use Rattle.std.proofs.Common.{rules, ◌+◌, ap, sym, ◌∙◌, subst, arith, List, [], ℕ, ℤ, pos, set, get_or, refl, FitsSigned, w64}
use Rattle.std.proofs.lemmas.Int.{to_z-of_z}
use Rattle.std.proofs.lemmas.List.{set-get_or}
use Rattle.algorithm_meaning.specs.Value.{with_entry}
use Rattle.vectors.specs.Vectors.{VectorsValue}
use Rattle.vectors.proofs.Loads.{IsLoaded, all_loaded, one_loaded}
use Rattle.vectors.proofs.vectors.Vectors.load.Goals as goal

pub numbers-init : goal.numbers-init
numbers-init c = record {
  groups = refl;
  loaded = record {
    others = sym (set-get_or c.args.self.now.vectors c.args.vector []);
    even = sym c.requires.even;
    entries = λ u l. absurd (omega arith);
  };
}

pub numbers-preserved : goal.numbers-preserved
numbers-preserved c =
    let numbers = c.args.numbers.now in
    let v = c.numbers.vertex in
    let fits : FitsSigned w64 (get_or numbers v (pos 0)) = search rules in
    let now = c.numbers.self in
    let put = c.put.ensures ∙ ap (λ (x : ℤ). let w : VectorsValue = record now { vectors = with_entry now.vectors c.args.vector v x } in w) (to_z-of_z w64 (get_or numbers v (pos 0)) fits) in
    record {
      groups = ap (λ (w : VectorsValue). w.groups) put ∙ c.numbers.invariant.groups;
      loaded = subst (IsLoaded c.args.self.now.vectors c.args.vector numbers (v + 1)) (sym (ap (λ (w : VectorsValue). w.vectors) put))
          (one_loaded c.args.self.now.vectors c.args.vector numbers v now.vectors c.requires.vector c.numbers-test.true c.numbers.invariant.loaded);
    }

pub returns : goal.returns
returns c =
    let now = c.numbers.self in
    let here = c.numbers-test.false in
    let most = c.numbers.auto.vertex-end in
    let all = all_loaded c.args.self.now.vectors c.args.vector c.args.numbers.now c.numbers.vertex now.vectors (omega arith) c.numbers.invariant.loaded in
    ap (λ (vs : List (List ℤ)). let w : VectorsValue = record { vectors = vs; groups = now.groups } in w) all
    ∙ ap (λ (gs : List (List ℕ)). let w : VectorsValue = record { vectors = set c.args.self.now.vectors c.args.vector c.args.numbers.now; groups = gs } in w) c.numbers.invariant.groups
