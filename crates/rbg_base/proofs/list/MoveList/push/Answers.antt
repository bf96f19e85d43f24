use Rattle.std.proofs.Common.{◌++◌, ◌∷◌, [], ℕ, List, ap, ◌∙◌, refl, append_assoc, IsErr, MatchResult, Result, Ok, Err}
use Rattle.rbg_base.specs.declared.list.Span.{Span}
use Rattle.rbg_base.proofs.Lists.{lists_kept, lists_push}
use Rattle.rbg_base.proofs.list.MoveList.push.Goals as goal

-- what an error leaves
refused : {T E : Type 0} (P : T → Type 0) (Q : E → Type 0) (result : Result T E) → IsErr result → ((error : E) → Q error) → MatchResult result P Q
refused P Q (Ok value) err holds = cc
refused P Q (Err error) err holds = holds error

pub returns-in_err-push : goal.returns-in_err-push
returns-in_err-push c =
    let spans = c.self.inside.spans.items in
    let grown = c.in_err-push.ensures.items ∙ c.in_ok-extend_from_slice.ensures.items in
    refused _ _ c.from_residual-in_err-push.result c.from_residual-in_err-push.ensures.0
    (λ _. lists_kept c.self.inside.pairs.items c.push.new.self.items c.args.front.now spans spans c.self.invariant grown refl ∙ c.self.view_is)

pub returns-in_err-push-2 : goal.returns-in_err-push-2
returns-in_err-push-2 c =
    let xs = c.self.inside.pairs.items in
    let front = c.args.front.now in
    let last : List (ℕ × ℕ) = c.args.last ∷ [] in
    let grown = c.in_ok-push.ensures.items ∙ ap (λ (zs : List (ℕ × ℕ)). zs ++ last) c.in_ok-extend_from_slice.ensures.items ∙ append_assoc xs front last in
    refused _ _ c.from_residual-in_err-push-2.result c.from_residual-in_err-push-2.ensures.0
    (λ _. lists_kept xs c.push.new.self.items (front ++ last) c.self.inside.spans.items c.push-2.new.self.items c.self.invariant grown c.in_err-push-2.ensures.items ∙ c.self.view_is)

pub returns : goal.returns
returns c =
    let span : Span = record { start = c.len-start.result; end = c.len-end.result } in
    lists_push c.self.inside.pairs.items c.extend_from_slice.new.self.items c.push.new.self.items c.args.front.now c.args.last c.self.inside.spans.items c.push-2.new.self.items span
    c.self.invariant c.in_ok-extend_from_slice.ensures.items c.in_ok-push.ensures.items c.in_ok-push-2.ensures.items
    (c.len-start.ensures ∙ c.self.inside.pairs.ok.0) (c.len-end.ensures ∙ c.push.new.self.ok.0)
    ∙ ap (λ (ls : List (List (ℕ × ℕ))). ls ++ (c.args.front.now ++ c.args.last ∷ []) ∷ []) c.self.view_is
