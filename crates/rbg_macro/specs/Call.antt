-- Calls of macros: what a call is, its arguments, and what replaces it.
use Rattle.std.specs.Prelude.{ℕ, ◌+◌, List, [], ◌∷◌, length, nat_eq, Option, None, Some, cond, zero, suc}
use Rattle.std.specs.Option.{option_map}
use Rattle.rbg_macro.specs.declared.token.TokenKind.{TokenKind}
use Rattle.rbg_macro.specs.Kinds.{opens, closes, is_symbol}
use Rattle.rbg_macro.specs.declared.token.Symbol.TheVariants as symbols
use Rattle.rbg_macro.specs.Macro.{Macro, filled, macro_named}
use Rattle.rbg_macro.specs.Token.{Lexeme}

-- the tokens of a call from some place on: the rest of one argument, the arguments after it, and what follows the
-- closing bracket
pub record Arguments : Type 0 where
  pub first : List Lexeme
  pub others : List (List Lexeme)
  pub rest : List Lexeme

-- the argument has one more token before it
abbrev pub with_token : Lexeme → Arguments → Arguments
with_token t a = record a { first = t ∷ a.first }

-- one more argument, of no tokens, before the others
abbrev pub with_argument : Arguments → Arguments
with_argument a = record { first = []; others = a.first ∷ a.others; rest = a.rest }

-- what a token does if some further brackets are open: it belongs to the argument and leaves that many open, or it
-- separates two arguments, or it closes the call, or it closes the call's bracket with one of another kind
pub data Nesting : Type 0 where
  Within : ℕ → Nesting
  Cuts : Nesting
  Ends : Nesting
  Mismatched : Nesting

-- a closing bracket closes the last one that is open, and the call's own if no further one is
abbrev pub closing : TokenKind → ℕ → Nesting
closing kind zero = cond (is_symbol symbols.CloseParenthesis kind) Ends Mismatched
closing kind (suc further) = Within further

-- a `;` cuts only if no further bracket is open
abbrev pub cutting : ℕ → Nesting
cutting zero = Cuts
cutting (suc further) = Within (suc further)

abbrev pub nesting : TokenKind → ℕ → Nesting
nesting kind further =
    cond (opens kind) (Within (further + 1))
    (cond (closes kind) (closing kind further)
    (cond (is_symbol symbols.Semicolon kind) (cutting further) (Within further)))

-- the arguments from a token on, by what it does
abbrev pub arguments_by : Nesting → Lexeme → List Lexeme → (ℕ → Option Arguments) → Option Arguments
arguments_by (Within further) t ts go_on = option_map (with_token t) (go_on further)
arguments_by Cuts t ts go_on = option_map with_argument (go_on 0)
arguments_by Ends t ts go_on = Some (record { first = []; others = []; rest = ts })
arguments_by Mismatched t ts go_on = None

-- The arguments in the tokens after a call's `(`, if a number of further brackets are open. There are none if the token
-- that closes the call is missing or isn't `)`.
abbrev pub arguments : ℕ → List Lexeme → Option Arguments
arguments further [] = None
arguments further (t ∷ ts) = arguments_by (nesting t.kind further) t ts (λ n. arguments n ts)

-- what reading meets at a token: it stays, or is a call that is replaced by tokens, with what comes after the call,
-- or is a macro's name without a correct call after it
pub data Meets : Type 0 where
  Stays : Meets
  Calls : List Lexeme → List Lexeme → Meets
  NoCall : Meets

-- the call has as many arguments as the macro has parameters
abbrev pub with_arguments : Macro → Option Arguments → Meets
with_arguments m None = NoCall
with_arguments m (Some a) =
    cond (nat_eq (length (a.first ∷ a.others)) m.parameters) (Calls (filled m.body (a.first ∷ a.others)) a.rest) NoCall

-- the call of a macro with parameters
abbrev pub called : Macro → List Lexeme → Meets
called m [] = NoCall
called m (t ∷ ts) = cond (is_symbol symbols.OpenParenthesis t.kind) (with_arguments m (arguments 0 ts)) NoCall

-- a macro without parameters is replaced by its body, whatever follows its name
abbrev pub met : Option Macro → List Lexeme → Meets
met None ts = Stays
met (Some m) ts = cond (nat_eq m.parameters 0) (Calls (filled m.body []) ts) (called m ts)

-- what reading meets at a token that others follow
abbrev pub meets : List Macro → Lexeme → List Lexeme → Meets
meets macros t ts = met (macro_named macros t) ts
