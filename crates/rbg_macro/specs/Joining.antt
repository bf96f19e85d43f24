-- Joining: each `~` and its two neighbours become one token, from the left.
use Rattle.std.specs.Prelude.{ℕ, ◌+◌, List, [], ◌∷◌, ◌++◌, length, nat_le, Option, None, Some, Result, Ok, Err, cond}
use Rattle.rbg_macro.specs.declared.error.MacroError.{MacroError}
use Rattle.rbg_macro.specs.declared.error.MacroError.TheVariants.{BadJoin}
use Rattle.rbg_macro.specs.Limits.{longest_joined}
use Rattle.rbg_macro.specs.declared.token.TokenKind.{TokenKind}
use Rattle.rbg_macro.specs.declared.token.TokenKind.TheVariants.{Name, Number, Symbol as A_Symbol}
use Rattle.rbg_macro.specs.Kinds.{is_symbol}
use Rattle.rbg_macro.specs.declared.token.Symbol.TheVariants as symbols
use Rattle.rbg_macro.specs.Token.{Lexeme}

-- after a name a name or a number makes a name
abbrev pub joined_to_name : TokenKind → Option TokenKind
joined_to_name Name = Some Name
joined_to_name Number = Some Name
joined_to_name (A_Symbol s) = None

-- after a number only a number makes a number, and nothing makes a name
abbrev pub joined_to_number : TokenKind → Option TokenKind
joined_to_number Name = None
joined_to_number Number = Some Number
joined_to_number (A_Symbol s) = None

-- what kind of token the texts of two tokens are together, if they are a name or a number
abbrev pub joined_kind : TokenKind → TokenKind → Option TokenKind
joined_kind Name right = joined_to_name right
joined_kind Number right = joined_to_number right
joined_kind (A_Symbol s) right = None

-- a token of that kind with the two texts together, unless they are too long; it is at the place of the left one
abbrev pub with_kind : Lexeme → Lexeme → Option TokenKind → Option Lexeme
with_kind left right None = None
with_kind left right (Some kind) =
    cond (nat_le (length left.text + length right.text) longest_joined)
    (Some (record { kind = kind; text = left.text ++ right.text; at = left.at }))
    None

abbrev pub joined_token : Lexeme → Lexeme → Option Lexeme
joined_token left right = with_kind left right (joined_kind left.kind right.kind)

-- the list with one more token before it
abbrev pub beyond : Lexeme → Result (List Lexeme) MacroError → Result (List Lexeme) MacroError
beyond t (Ok ts) = Ok (t ∷ ts)
beyond t (Err e) = Err e

-- what a `~` at this offset gives: the joined token is handed to `goes_on`, or can't be made
abbrev pub join_at : ℕ → Option Lexeme → (Lexeme → Result (List Lexeme) MacroError) → Result (List Lexeme) MacroError
join_at at None goes_on = Err (BadJoin at)
join_at at (Some t) goes_on = goes_on t

-- A token followed by others, joined. It stays as it is if no `~` follows it. Otherwise it and the token after the `~`
-- become one token, which is then followed by what is left. If they can't be joined, the fault is at the `~`.
abbrev pub joined_from : Lexeme → List Lexeme → Result (List Lexeme) MacroError
joined_from t [] = Ok (t ∷ [])
joined_from t (s ∷ []) = cond (is_symbol symbols.Tilde s.kind) (Err (BadJoin s.at)) (Ok (t ∷ s ∷ []))
joined_from t (s ∷ u ∷ ts) =
    cond (is_symbol symbols.Tilde s.kind) (join_at s.at (joined_token t u) (λ v. joined_from v ts)) (beyond t (joined_from s (u ∷ ts)))

-- a list, joined over its whole length; a `~` at the front has no left neighbour
abbrev pub joined : List Lexeme → Result (List Lexeme) MacroError
joined [] = Ok []
joined (t ∷ ts) = cond (is_symbol symbols.Tilde t.kind) (Err (BadJoin t.at)) (joined_from t ts)
