use Rattle.rbg_base.proofs.Common.{rules, ◌≡◌, ap, ◌∙◌, Vec, ℕ, String, Global, same_from_all_zip, IfOk-at_ok}
use Rattle.std.specs.String.{string_vec}
use Rattle.rbg_game.proofs.NameLemmas.{IsUtf8-from_is_name}
use Rattle.rbg_game.proofs.name_table.name_text.Goals as goal

pub unwrap-requires : goal.unwrap-requires
unwrap-requires c =
    let same : c.in_ok-clone.field-0.items ≡ c.args.name.now.items = same_from_all_zip _ _ _ c.in_ok-clone.ensures.cases.0 (λ x y e. search rules) in
    c.from_utf8.ensures.succeeds (rw same (IsUtf8-from_is_name _ c.requires))

pub returns : goal.returns
returns c =
    let same : c.in_ok-clone.field-0.items ≡ c.args.name.now.items = same_from_all_zip _ _ _ c.in_ok-clone.ensures.cases.0 (λ x y e. search rules) in
    let kept = IfOk-at_ok (λ (t : String Global). string_vec t ≡ c.in_ok-clone.field-0) c.unwrap.ensures c.from_utf8.ensures.ok in
    ap (λ (v : Vec ℕ Global). v.items) kept ∙ same
