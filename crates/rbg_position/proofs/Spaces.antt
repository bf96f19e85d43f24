-- What is written between two tokens.
use Rattle.std.proofs.Common.{◌≡◌, [], Bool, Some, codes, if◌then◌else◌, refl, sym, ◌∙◌}
use Rattle.rbg_macro.specs.declared.token.Symbol.TheVariants.{OpenBracket, CloseBracket, CloseBrace, Comma, Colon}
use Rattle.rbg_macro.specs.declared.token.TokenKind.{TokenKind}
use Rattle.rbg_macro.specs.declared.token.TokenKind.TheVariants.{Name, Symbol}
use Rattle.rbg_position.specs.Sections.{space_between}
use Rattle.rbg_position.specs.internal.Walking.{begins_line, is_spaced}

table : (last next : TokenKind) → (if begins_line last next then codes "\n    " else if is_spaced last then codes " " else []) ≡ space_between (Some last) next
unfolding space_between
table (Symbol Comma) (Symbol OpenBracket) = refl
table (Symbol CloseBracket) (Symbol OpenBracket) = refl
table (Symbol CloseBrace) Name = refl
table (Symbol Comma) next = refl
table (Symbol Colon) next = refl
table last next = refl

pub spaced_as : (last next : TokenKind) (line spaced : Bool) → begins_line last next ≡ line → is_spaced last ≡ spaced
    → (if line then codes "\n    " else if spaced then codes " " else []) ≡ space_between (Some last) next
spaced_as last next line spaced is_line is_space =
    sym (λ i. if is_line i then codes "\n    " else if is_space i then codes " " else []) ∙ table last next
