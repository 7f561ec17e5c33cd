-- The walk over blocks, for both kinds of them.
use Rattle.std.proofs.Common.{◌≡◌, refl, ap, sym, ◌∙◌, ℕ, suc, ◌+◌, ◌<◌, ◌≤◌, List, [], ◌∷◌, ◌++◌, length, drop, get_or, drop-cons, add-one, Option}
use Rattle.std.proofs.lemmas.List.{at_drop_all}
use Rattle.std.specs.Global.{Vec}
use Rattle.syntax.specs.Terminals.{Identifier}
use Rattle.syntax.specs.SourceTrees.{ExpressionTree}
use Rattle.syntax.specs.SourceTrees as source
use Rattle.syntax.specs.SourceViews.{block_tree, for_loop_tree, statement_kind_tree}
use Rattle.syntax.specs.declared.statement.Action.{Action}
use Rattle.syntax.specs.declared.statement.Action.TheViews as views
use Rattle.syntax.specs.declared.statement.ForLoop.{ForLoop, out-ForLoop}
use Rattle.syntax.specs.declared.statement.Statement.{Statement}
use Rattle.typed_tree.specs.BoolExpressionTree.{BoolExpressionTree}
use Rattle.typed_tree.specs.IntExpressionTree.{IntExpressionTree}
use Rattle.expression_types.specs.declared.fault.Fault.{Fault}
use Rattle.expression_types.specs.declared.scope.Entity.TheVariants as entity
use Rattle.expression_types.specs.Faults.{WithFaults, least_of, outcome, sure, ◌>>=◌}
use Rattle.expression_types.proofs.Steps.{bind-bind, outcome_then}
use Rattle.initializer_types.specs.Checker.{CheckerTree, condition_in, declared_in, in_scope, integer_in, integer_slot, with_label}
use Rattle.types.specs.inside.BlockMeaning.{BlockMeaning, For, If, IfElse, IsWalked, While, block_typed, inner_typed, noted, row_then, statement_typed}
use Rattle.types.proofs.Sources.{for_loop_tree-block, statement_kind_tree-While, statement_kind_tree-If, statement_kind_tree-IfElse}

-- the step after a block begins with the tree, the checker and the first fault that the block gives
inner_then : {P Q A S R B : Type 0} (m : BlockMeaning P Q A S R) (c d : CheckerTree) (body : source.BlockTree) (b : R) (old new : Option Fault) (next : R × CheckerTree → WithFaults B)
    → outcome old (inner_typed m c body) ≡ ((b, d), new)
    → outcome old (block_typed m c body >>= λ x. next (x.0, in_scope x.1 c.scope)) ≡ outcome new (next (b, d))
inner_then m c d body b old new next is =
    ap (outcome old) (sym (bind-bind (block_typed m c body) (λ x. sure (x.0, in_scope x.1 c.scope)) next))
    ∙ outcome_then old new (inner_typed m c body) (b, d) next is

pub while_on : {P Q A S R : Type 0} (m : BlockMeaning P Q A S R) → IsWalked m → (c d : CheckerTree) (a : Action) (at : ℕ) (test : ExpressionTree) (body : Vec Statement)
    (items : List Statement) (t : BoolExpressionTree) (b : R) (old first between new : Option Fault) → items ≡ body.items → a ≡ views.While at test body
    → least_of old (m.loop_faults at) ≡ first → outcome first (condition_in c.scope at test) ≡ (t, between) → outcome between (inner_typed m c (block_tree items)) ≡ ((b, d), new)
    → outcome old (m.action_typed c (statement_kind_tree a)) ≡ ((m.compound (While t b), d), new)
while_on m w c d a at test body items t b old first between new same is begun tested inner =
    ap (λ a. outcome old (m.action_typed c (statement_kind_tree a))) is
    ∙ ap (λ a. outcome old (m.action_typed c a)) (statement_kind_tree-While at test body ∙ ap (λ xs. source.While at test (block_tree xs)) (sym same))
    ∙ ap (outcome old) (w.whiles c at test (block_tree items))
    ∙ outcome_then old first (noted (m.loop_faults at)) tt
    (λ n. condition_in c.scope at test >>= λ t. block_typed m c (block_tree items) >>= λ b. sure (m.compound (While t b.0), in_scope b.1 c.scope)) (ap (λ n. (tt, n)) begun)
    ∙ outcome_then first between (condition_in c.scope at test) t (λ t. block_typed m c (block_tree items) >>= λ b. sure (m.compound (While t b.0), in_scope b.1 c.scope)) tested
    ∙ inner_then m c d (block_tree items) b between new (λ b. sure (m.compound (While t b.0), b.1)) inner

pub if_on : {P Q A S R : Type 0} (m : BlockMeaning P Q A S R) → IsWalked m → (c d : CheckerTree) (a : Action) (at : ℕ) (test : ExpressionTree) (body : Vec Statement)
    (items : List Statement) (t : BoolExpressionTree) (b : R) (old between new : Option Fault) → items ≡ body.items → a ≡ views.If at test body
    → outcome old (condition_in c.scope at test) ≡ (t, between) → outcome between (inner_typed m c (block_tree items)) ≡ ((b, d), new)
    → outcome old (m.action_typed c (statement_kind_tree a)) ≡ ((m.compound (If t b), d), new)
if_on m w c d a at test body items t b old between new same is tested inner =
    ap (λ a. outcome old (m.action_typed c (statement_kind_tree a))) is
    ∙ ap (λ a. outcome old (m.action_typed c a)) (statement_kind_tree-If at test body ∙ ap (λ xs. source.If at test (block_tree xs)) (sym same))
    ∙ ap (outcome old) (w.ifs c at test (block_tree items))
    ∙ outcome_then old between (condition_in c.scope at test) t (λ t. block_typed m c (block_tree items) >>= λ b. sure (m.compound (If t b.0), in_scope b.1 c.scope)) tested
    ∙ inner_then m c d (block_tree items) b between new (λ b. sure (m.compound (If t b.0), b.1)) inner

pub if_else_on : {P Q A S R : Type 0} (m : BlockMeaning P Q A S R) → IsWalked m → (c d e : CheckerTree) (a : Action) (at : ℕ) (test : ExpressionTree) (body otherwise : Vec Statement)
    (items others : List Statement) (t : BoolExpressionTree) (b o : R) (old between then new : Option Fault) → items ≡ body.items → others ≡ otherwise.items
    → a ≡ views.IfElse at test body otherwise → outcome old (condition_in c.scope at test) ≡ (t, between) → outcome between (inner_typed m c (block_tree items)) ≡ ((b, d), then)
    → outcome then (inner_typed m d (block_tree others)) ≡ ((o, e), new)
    → outcome old (m.action_typed c (statement_kind_tree a)) ≡ ((m.compound (IfElse t b o), e), new)
if_else_on m w c d e a at test body otherwise items others t b o old between then new same same' is tested inner other =
    ap (λ a. outcome old (m.action_typed c (statement_kind_tree a))) is
    ∙ ap (λ a. outcome old (m.action_typed c a)) (statement_kind_tree-IfElse at test body otherwise ∙ (λ i. source.IfElse at test (block_tree (sym same i)) (block_tree (sym same' i))))
    ∙ ap (outcome old) (w.if_elses c at test (block_tree items) (block_tree others))
    ∙ outcome_then old between (condition_in c.scope at test) t
    (λ t. block_typed m c (block_tree items) >>= λ b. block_typed m (in_scope b.1 c.scope) (block_tree others) >>= λ o. sure (m.compound (IfElse t b.0 o.0), in_scope o.1 c.scope)) tested
    ∙ inner_then m c d (block_tree items) b between then (λ b. block_typed m b.1 (block_tree others) >>= λ o. sure (m.compound (IfElse t b.0 o.0), in_scope o.1 b.1.scope)) inner
    ∙ inner_then m d e (block_tree others) o then new (λ o. sure (m.compound (IfElse t b o.0), o.1)) other

pub for_on : {P Q A S R : Type 0} (m : BlockMeaning P Q A S R) → IsWalked m → (c d last : CheckerTree) (f : ForLoop) (items : List Statement) (a z : IntExpressionTree) (b : R)
    (old begun second third fourth new : Option Fault) → items ≡ (out-ForLoop f).body.items → least_of old (m.loop_faults (out-ForLoop f).at) ≡ begun
    → outcome begun (integer_in c.scope (out-ForLoop f).at (out-ForLoop f).first) ≡ (a, second) → outcome second (integer_in c.scope (out-ForLoop f).at (out-ForLoop f).limit) ≡ (z, third)
    → outcome third (declared_in c (out-ForLoop f).name (entity.LoopVariable (integer_slot c))) ≡ (d, fourth) → outcome fourth (block_typed m d (block_tree items)) ≡ ((b, last), new)
    → outcome old (m.action_typed c (for_loop_tree f)) ≡ ((m.compound (For (integer_slot c).name a z b), in_scope last c.scope), new)
for_on m w c d last loop items a z b old begun second third fourth new same noting from to visible inner =
    let f = out-ForLoop loop in
    let body = block_tree items in
    ap (λ a. outcome old (m.action_typed c a)) (for_loop_tree-block loop ∙ ap (λ xs. source.For f.at f.name f.first f.limit (block_tree xs)) (sym same))
    ∙ ap (outcome old) (w.fors c f.at f.name f.first f.limit body)
    ∙ outcome_then old begun (noted (m.loop_faults f.at)) tt
    (λ n. integer_in c.scope f.at f.first >>= λ a. integer_in c.scope f.at f.limit >>= λ z. declared_in c f.name (entity.LoopVariable (integer_slot c)) >>= λ d. block_typed m d body >>= λ b.
    sure (m.compound (For (integer_slot c).name a z b.0), in_scope b.1 c.scope)) (ap (λ n. (tt, n)) noting)
    ∙ outcome_then begun second (integer_in c.scope f.at f.first) a
    (λ a. integer_in c.scope f.at f.limit >>= λ z. declared_in c f.name (entity.LoopVariable (integer_slot c)) >>= λ d. block_typed m d body >>= λ b.
    sure (m.compound (For (integer_slot c).name a z b.0), in_scope b.1 c.scope)) from
    ∙ outcome_then second third (integer_in c.scope f.at f.limit) z
    (λ z. declared_in c f.name (entity.LoopVariable (integer_slot c)) >>= λ d. block_typed m d body >>= λ b.
    sure (m.compound (For (integer_slot c).name a z b.0), in_scope b.1 c.scope)) to
    ∙ outcome_then third fourth (declared_in c f.name (entity.LoopVariable (integer_slot c))) d
    (λ d. block_typed m d body >>= λ b. sure (m.compound (For (integer_slot c).name a z b.0), in_scope b.1 c.scope)) visible
    ∙ outcome_then fourth new (block_typed m d body) (b, last) (λ b. sure (m.compound (For (integer_slot c).name a z b.0), in_scope b.1 c.scope)) inner

first_then : {P Q A S R : Type 0} (m : BlockMeaning P Q A S R) (c : CheckerTree) (so_far : R) (label : Option Identifier) (a : source.StatementKindTree) (others : source.BlockTree)
    → row_then m c so_far label a others ≡ (statement_typed m c label a >>= λ s. m.row_typed s.1 (m.with_next so_far s.0) others)
first_then {P} {Q} {A} {S} {R} m c so_far label a others =
    (λ i. with_label c label >>= λ l. sym (bind-bind {B = S × CheckerTree} (m.action_typed (m.counted l.1) a)
    (λ x. sure (m.labelled (m.number l.1) l.0 x.0, x.1)) (λ s. m.row_typed s.1 (m.with_next so_far s.0) others)) i)
    ∙ sym (bind-bind {B = S × CheckerTree} (with_label c label) (λ l. m.action_typed (m.counted l.1) a >>= λ x. sure (m.labelled (m.number l.1) l.0 x.0, x.1))
    (λ s. m.row_typed s.1 (m.with_next so_far s.0) others))

pub statement_on : {P Q A S R : Type 0} (m : BlockMeaning P Q A S R) → IsWalked m → (c d : CheckerTree) (xs : List Q) (s : Q) (items : List Statement) (i : ℕ) (x : Statement) (old new : Option Fault)
    → i < length items → x ≡ get_or items i x → outcome old (statement_typed m c x.label (statement_kind_tree x.action)) ≡ ((m.statement_tree s, d), new)
    → outcome old (m.row_typed c (m.row_tree xs) (block_tree (drop i items))) ≡ outcome new (m.row_typed d (m.row_tree (xs ++ s ∷ [])) (block_tree (drop (i + 1) items)))
statement_on m w c d xs s items i x old new inside is first =
    ap (λ ys. outcome old (m.row_typed c (m.row_tree xs) (block_tree ys))) (drop-cons items i x inside ∙ ap (λ y. y ∷ drop (suc i) items) (sym is))
    ∙ ap (outcome old) (w.goes_on c (m.row_tree xs) x.label (statement_kind_tree x.action) (block_tree (drop (suc i) items))
    ∙ first_then m c (m.row_tree xs) x.label (statement_kind_tree x.action) (block_tree (drop (suc i) items)))
    ∙ outcome_then old new (statement_typed m c x.label (statement_kind_tree x.action)) (m.statement_tree s, d)
    (λ s. m.row_typed s.1 (m.with_next (m.row_tree xs) s.0) (block_tree (drop (suc i) items))) first
    ∙ (λ j. outcome new (m.row_typed d (sym (w.pushed xs s) j) (block_tree (drop (sym (add-one i) j) items))))

-- after the last statement
pub ends_on : {P Q A S R : Type 0} (m : BlockMeaning P Q A S R) → IsWalked m → (c : CheckerTree) (so_far : R) (items : List Statement) (i : ℕ) (new : Option Fault)
    → length items ≤ i → outcome new (m.row_typed c so_far (block_tree (drop i items))) ≡ ((so_far, c), new)
ends_on m w c so_far items i new all = at_drop_all (λ xs. outcome new (m.row_typed c so_far (block_tree xs))) items i all ∙ ap (outcome new) (w.ends c so_far)
