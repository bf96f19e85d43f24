-- Calls and arguments as the code represents them.
use Rattle.std.specs.Prelude.{ℕ, [], Bool, false, ◌≡◌, ◌≤◌, List, ◌∷◌, length, drop, map, Some}
use Rattle.rbg_macro.specs.declared.call.Effect.{Effect}
use Rattle.rbg_macro.specs.declared.call.Effect.TheVariants as effects
use Rattle.rbg_macro.specs.declared.error.MacroError.{MacroError}
use Rattle.rbg_macro.specs.declared.error.MacroError.TheVariants.{ArgumentCount}
use Rattle.rbg_macro.specs.declared.macros.Template.{Template}
use Rattle.rbg_macro.specs.Kinds.{is_symbol}
use Rattle.rbg_macro.specs.declared.token.Symbol.TheVariants as symbols
use Rattle.rbg_macro.specs.Call.{Arguments, arguments, Nesting, Within, Cuts, Ends, Mismatched, Calls, NoCall, meets, met}
use Rattle.rbg_macro.specs.Macro.{Macro, filled}
use Rattle.rbg_macro.specs.internal.Template.{item_in, macro_of}
use Rattle.rbg_macro.specs.Token.{Lexeme}

abbrev pub nesting_of : Effect → Nesting
nesting_of (effects.Within n) = Within n
nesting_of effects.Cuts = Cuts
nesting_of effects.Ends = Ends
nesting_of effects.Mismatched = Mismatched

-- the arguments of a call, and how many tokens they take with the closing bracket
pub record AreArguments (ts : List Lexeme) (lists : List (List Lexeme)) (n : ℕ) : Type 0 where
  pub found : Arguments
  pub is_found : arguments 0 ts ≡ Some found
  pub are : lists ≡ found.first ∷ found.others
  pub rest : found.rest ≡ drop n ts
  pub within : n ≤ length ts

-- For a macro with this template, whatever its name, these tokens after it are a call with these arguments, which takes
-- `n` of the tokens.
pub record IsCall (template : Template) (ts : List Lexeme) (lists : List (List Lexeme)) (n : ℕ) : Type 0 where
  pub meets : (name : List ℕ) → met (Some (macro_of name template)) ts
      ≡ Calls (filled (map item_in template.body.items) lists) (drop n ts)
  pub within : n ≤ length ts

-- there is no correct call in these tokens after the macro's name, which is at this place
pub record IsMiscall (template : Template) (at : ℕ) (ts : List Lexeme) (e : MacroError) : Type 0 where
  pub meets : (name : List ℕ) → met (Some (macro_of name template)) ts ≡ NoCall
  pub at_name : e ≡ ArgumentCount at

-- whether the first token is `(`
abbrev pub begins_with_parenthesis : List Lexeme → Bool
begins_with_parenthesis [] = false
begins_with_parenthesis (t ∷ ts) = is_symbol symbols.OpenParenthesis t.kind
