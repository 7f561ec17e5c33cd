-- Tables of names, and names in a row.
use Rattle.std.proofs.Common.{◌≡◌, refl, ap, ◌∙◌, ℕ, zero, suc, drop, nat_eq, slice_get, Bool, true, false, List, [], ◌∷◌, ◌++◌}
use Rattle.std.proofs.lemmas.Bool.{eqb-true}
use Rattle.std.proofs.lemmas.List.{append-nil}
use Rattle.std.proofs.lemmas.List.Folds.{concat-append}
use Rattle.std.proofs.lemmas.Slice.Eq.{bytes_eq-Decides}
use Rattle.std.specs.List.{concat}
use Rattle.std.specs.Map.{lookup}
use Rattle.std.specs.Option.{is_none}
use Rattle.std.specs.Prelude.{Option, Some, None, if◌then◌else◌}
use Rattle.std.specs.Str.{bytes_eq}
use Rattle.expression_types.specs.ScopeTree.{found}
use Rattle.typed_tree.specs.declared.statement.MainStatement.{MainStatement}
use Rattle.typed_tree.specs.BlockTree.{block_tree}
use Rattle.schedule.specs.declared.site.Site.{Site}
use Rattle.schedule.specs.inside.Putting.{first_of, PutsIndex, PutsSite}
use Rattle.schedule.specs.Schedule.{label_of}

if_some : (b : Bool) (index : ℕ) (rest : Option ℕ) → first_of (if b then Some index else None) rest ≡ (if b then Some index else rest)
if_some true index rest = refl
if_some false index rest = refl

under : (b : Bool) (index : ℕ) (x y rest more : Option ℕ) → first_of x rest ≡ first_of y more
    → first_of (if b then Some index else x) rest ≡ first_of (if b then Some index else y) more
under true index x y rest more h = refl
under false index x y rest more h = h

pub found_last : (es : List (List ℕ × ℕ)) (name : List ℕ) (index : ℕ) → PutsIndex es name index (es ++ (name, index) ∷ [])
found_last [] name index other rest = if_some (bytes_eq other name) index rest
found_last (e ∷ es) name index other rest = under (bytes_eq other e.0) e.1 _ _ _ _ (found_last es name index other rest)

either_rest : (o a b : Option ℕ) → is_none o ≡ false → first_of o a ≡ first_of o b
either_rest (Some index) a b h = refl
either_rest None a b h =
    let bad : true ≡ false = h in
    cc

pub found_there : (es : List (List ℕ × ℕ)) (name : List ℕ) (index : ℕ) → is_none (found name es) ≡ false → PutsIndex es name index es
found_there es name index h other rest = go (bytes_eq other name) refl
  where
    go : (b : Bool) → bytes_eq other name ≡ b → first_of (found other es) rest ≡ first_of (found other es) (if b then Some index else rest)
    go true t = either_rest (found other es) rest (Some index) (rw ((bytes_eq-Decides other name).0 t) h)
    go false t = refl

either_site : (o a b : Option Site) → is_none o ≡ false → first_of o a ≡ first_of o b
either_site (Some site) a b h = refl
either_site None a b h =
    let bad : true ≡ false = h in
    cc

if_site : (b : Bool) (site : Site) (rest : Option Site) → first_of (if b then Some site else None) rest ≡ (if b then Some site else rest)
if_site true site rest = refl
if_site false site rest = refl

under_site : (b : Bool) (site : Site) (x y rest more : Option Site) → first_of x rest ≡ first_of y more
    → first_of (if b then Some site else x) rest ≡ first_of (if b then Some site else y) more
under_site true site x y rest more h = refl
under_site false site x y rest more h = h

pub site_last : (es : List (ℕ × Site)) (label : ℕ) (site : Site) → PutsSite es label site (es ++ (label, site) ∷ [])
site_last [] label site other rest = if_site (nat_eq other label) site rest
site_last (e ∷ es) label site other rest = under_site (nat_eq other e.0) e.1 _ _ _ _ (site_last es label site other rest)

pub site_there : (es : List (ℕ × Site)) (label : ℕ) (site : Site) → is_none (lookup (nat_eq label) es) ≡ false → PutsSite es label site es
site_there es label site h other rest = go (nat_eq other label) refl
  where
    go : (b : Bool) → nat_eq other label ≡ b → first_of (lookup (nat_eq other) es) rest ≡ first_of (lookup (nat_eq other) es) (if b then Some site else rest)
    go true t = either_site (lookup (nat_eq other) es) rest (Some site) (rw (eqb-true other label t) h)
    go false t = refl

abbrev pub label_in : Option MainStatement → Option ℕ
label_in None = None
label_in (Some s) = s.label

pub label_of-slice_get : (statements : List MainStatement) (index : ℕ) → label_in (slice_get statements index) ≡ label_of (block_tree (drop index statements))
label_of-slice_get [] zero = refl
label_of-slice_get [] (suc index) = refl
label_of-slice_get (s ∷ statements) zero = refl
label_of-slice_get (s ∷ statements) (suc index) = label_of-slice_get statements index

pub none_of : (o : Option Site) → is_none o ≡ true → o ≡ None
none_of None h = refl
none_of (Some site) h =
    let bad : false ≡ true = h in
    cc

pub concat_last : (groups : List (List ℕ)) (group : List ℕ) → concat (groups ++ group ∷ []) ≡ concat groups ++ group
concat_last groups group = concat-append groups (group ∷ []) ∙ ap (λ (last : List ℕ). concat groups ++ last) (append-nil group)
