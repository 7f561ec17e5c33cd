-- Proofs of `entries`, src/view.rt.
use Rattle.std.proofs.Common.{◌≡◌, ℕ, ℤ, List, [], ◌∷◌, length, take, refl, sym, ◌∙◌, ap, arith}
use Rattle.std.specs.List.{zip}
use Rattle.std.specs.Map.{keys_of, values_of}
use Rattle.std.proofs.lemmas.List.{take_all}
use Rattle.std.proofs.lemmas.Map.Entries.{length-keys_of, length-values_of}
use Rattle.tail_codec.proofs.Writing.{columns_anew}
use Rattle.c_tree.proofs.view.View.entries.Goals as goal

zip_columns : (es : List (ℕ × ℤ)) → zip (keys_of es) (values_of es) ≡ es
zip_columns [] = refl
zip_columns (e ∷ es) = ap (λ v. e ∷ v) (zip_columns es)

-- columns that were filled as far as they go
whole : (es : List (ℕ × ℤ)) (n : ℕ) (keys : List ℕ) (weights : List ℤ) → n ≡ length es → length keys ≡ n → length weights ≡ n → take n keys ≡ take n (keys_of es)
    → take n weights ≡ take n (values_of es) → zip keys weights ≡ es
whole es n keys weights all long long' front front' =
    let is : keys ≡ keys_of es = sym (take_all n keys (omega (arith, long))) ∙ front ∙ take_all n (keys_of es) (omega (arith, all, length-keys_of es)) in
    let is' : weights ≡ values_of es = sym (take_all n weights (omega (arith, long'))) ∙ front' ∙ take_all n (values_of es) (omega (arith, all, length-values_of es)) in
    ap (λ v. zip v weights) is ∙ ap (λ v. zip (keys_of es) v) is' ∙ zip_columns es

pub returns : goal.returns
returns c =
    let f = c.fill_weighted in
    let es = c.args.self.now.entries in
    let same : c.iter.result ≡ es = c.iter.ensures.entries in
    let long : length f.new.keys ≡ length es = omega (arith, f.auto.keys, c.deref_mut.ensures.len, c.in_ok-resize.ensures.len, c.len.ensures) in
    let long' : length f.new.weights ≡ length es = omega (arith, f.auto.weights, c.deref_mut-2.ensures.len, c.in_ok-resize-2.ensures.len, c.len-2.ensures) in
    let all : f.result ≡ length es = omega (arith, f.ensures.count, ap length same, c.deref_mut.ensures.len, c.in_ok-resize.ensures.len, c.len.ensures) in
    c.new.ensures
    ∙ columns_anew _ _ f.new.keys _ f.new.weights _ (f.auto.keys ∙ c.deref_mut.ensures.len) (f.auto.weights ∙ c.deref_mut-2.ensures.len)
    ∙ whole es f.result f.new.keys f.new.weights all (omega (arith, long, all)) (omega (arith, long', all)) (rw same at f.ensures.filled) (rw same at f.ensures.weighted)
