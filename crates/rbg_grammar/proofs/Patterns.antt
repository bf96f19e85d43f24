-- A pattern as its brace's place and its rules, after either sign.
use Rattle.std.proofs.Common.{ℕ, List}
use Rattle.rbg_macro.specs.Token.{Lexeme}
use Rattle.rbg_macro.specs.declared.token.Symbol.{Symbol}
use Rattle.rbg_macro.specs.declared.token.Symbol.TheVariants.{OpenBrace, CloseBrace, Question, Exclamation}
use Rattle.rbg_grammar.proofs.Common.{SpeltExpression, SpeltRule, act, positive, negative, IsSymbol, After, IsBracketAtom, holds, fails}

pub data IsPattern (sign : Symbol) (Rules : List Lexeme → SpeltRule → List Lexeme → Type 0) : List Lexeme → ℕ × SpeltRule → List Lexeme → Type 0 where
  pattern : {ts first last rest : List Lexeme} {at end : ℕ} {r : SpeltRule} → IsSymbol OpenBrace ts at first → After sign Rules first r last → IsSymbol CloseBrace last end rest → IsPattern sign Rules ts (at, r) rest

module _ {Rules : List Lexeme → SpeltRule → List Lexeme → Type 0} {Sum : List Lexeme → SpeltExpression → List Lexeme → Type 0} where
  pub positive_is : (ts : List Lexeme) (p : ℕ × SpeltRule) (rest : List Lexeme) → IsPattern Question Rules ts p rest → IsBracketAtom Rules Sum ts (act (positive p.0 p.1)) rest
  positive_is ts _ rest (pattern d e f) = holds d e f

  pub negative_is : (ts : List Lexeme) (p : ℕ × SpeltRule) (rest : List Lexeme) → IsPattern Exclamation Rules ts p rest → IsBracketAtom Rules Sum ts (act (negative p.0 p.1)) rest
  negative_is ts _ rest (pattern d e f) = fails d e f
