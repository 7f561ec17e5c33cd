-- Proofs of `flat`, src/version_flats.rt.
use Rattle.std.proofs.Common.{◌≡◌, ◌∙◌, sym, Result, Ok, Err, Some, rules}
use Rattle.std.specs.Result.{IfOk, MatchResult}
use Rattle.version_flats.specs.VersionFlats.{flat_of}
use Rattle.version_flats.proofs.version_flats.VersionFlats.flat.Goals as goal

-- what is cloned has the value of what it was cloned from
same_value : {A E V : Type 0} (f : A → V) (r : Result A E) (v w : V) → MatchResult r (λ d. f d ≡ v) (λ x. ¬ ⊥) → v ≡ w → IfOk r (λ d. f d ≡ w)
same_value f (Ok d) v w is same = is ∙ same
same_value f (Err e) v w is same = tt

pub returns-in-Some-clause-flat : goal.returns-in-Some-clause-flat
returns-in-Some-clause-flat c =
    let there : flat_of c.args.self.now c.args.version ≡ Some c.in-Some.flat.now.value = search rules in
    let same : c.in-Some.flat.now.value ≡ c.args.graph.now = (c.requires.flats.kept _ _ there).graph ∙ sym c.requires.graph.graph in
    same_value (λ d. d.value) c.clone.result _ _ c.clone.ensures.cases same
