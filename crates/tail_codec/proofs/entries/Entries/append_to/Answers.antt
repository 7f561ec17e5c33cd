-- Proofs of `append_to`, src/entries.rt.
use Rattle.std.proofs.Common.{◌≡◌, true, refl, ◌∙◌}
use Rattle.std.specs.Prelude.{Result, Ok, Err, OnOk, is_ok}
use Rattle.tail_codec.specs.inside.Columns.{AreAppended}
use Rattle.tail_codec.proofs.Columns.{appended_column, appended_ones, some_long, seen_zip, seen_ones}
use Rattle.tail_codec.proofs.entries.Entries.append_to.Goals as goal

on_ok : {T E : Type 0} (r : Result T E) (P : Type 0) → (is_ok r ≡ true → P) → OnOk r P
on_ok (Ok x) P f = f refl
on_ok (Err e) P f = tt

pub returns-in-None : goal.returns-in-None
returns-in-None c =
    let e = c.self.inside in
    let old = c.args.keys.now.items in
    let old' = c.args.weights.now.items in
    let new = c.extend_from_slice.new.self.items in
    let new' = c.resize.new.self.items in
    let seen = seen_ones e.keys.now e.weights c.args.self.now c.self.invariant c.self.view_is c.in-None.is in
    on_ok c.resize.result (AreAppended old old' c.args.self.now new new') (λ ok.
    let column = rw ok at c.resize.ensures.items in
    rw (← seen) (appended_ones old e.keys.now new old' new' _ _ c.requires c.args.weights.now.ok.0 (c.len.ensures ∙ c.extend_from_slice.new.self.ok.0) c.in_ok-extend_from_slice.ensures.items column))

pub returns-in-Some : goal.returns-in-Some
returns-in-Some c =
    let e = c.self.inside in
    let old = c.args.keys.now.items in
    let old' = c.args.weights.now.items in
    let new = c.extend_from_slice.new.self.items in
    let new' = c.extend_from_slice-in-Some.new.self.items in
    let ws = c.in-Some.column in
    let seen = seen_zip e.keys.now e.weights c.args.self.now c.self.invariant c.self.view_is ws c.in-Some.is in
    let long = some_long e.keys.now e.weights c.args.self.now c.self.invariant c.self.view_is ws c.in-Some.is in
    on_ok c.extend_from_slice-in-Some.result (AreAppended old old' c.args.self.now new new') (λ ok.
    let column = rw ok at c.extend_from_slice-in-Some.ensures.items in
    rw (← seen) (appended_column old e.keys.now new old' ws.now new' c.requires long c.in_ok-extend_from_slice.ensures.items column))
