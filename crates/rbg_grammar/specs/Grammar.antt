-- The grammar of a description's sections.
use Rattle.std.specs.Prelude.{ℕ, zero, suc, List, [], ◌∷◌, ◌⊎◌, codes, Option, Some, None}
use Rattle.rbg_macro.specs.Token.{Lexeme}
use Rattle.rbg_macro.specs.declared.token.TokenKind.{TokenKind}
use Rattle.rbg_macro.specs.declared.token.TokenKind.TheVariants as kinds
use Rattle.rbg_macro.specs.declared.token.Symbol.TheVariants.{DoubleArrow, Arrow, DoubleEquals, NotEquals, LessOrEqual, GreaterOrEqual, Equals, LessThan, GreaterThan, Plus, Minus, Star, Slash, OpenParenthesis, CloseParenthesis, OpenBracket, CloseBracket, OpenBrace, CloseBrace, Comma, Colon, Dollar, Question, Exclamation}
use Rattle.rbg_grammar.specs.Tree.{SpeltName, SpeltNumber, SpeltBounded, SpeltEdge, SpeltVertex, SpeltBoard, rectangle, hexagon, graph, SpeltExpression, SpeltOperand, first_of, in_chain, SpeltRule, act, shift, on, off, assign, compare, switch, positive, negative, star, sequence_of, choice_of}
use Rattle.rbg_grammar.specs.Phrase.{Phrase, IsSymbol, IsName, IsNumber, IsWord, IsOneOf, Repeated, After, Separated, Listed, Within, WithComma}
use Rattle.rbg_base.specs.declared.operator.Operator.{Operator}
use Rattle.rbg_base.specs.declared.operator.Operator.TheVariants as operators
use Rattle.rbg_grammar.specs.declared.expression.Rank.{Rank}
use Rattle.rbg_grammar.specs.declared.expression.Rank.TheVariants as ranks
use Rattle.rbg_base.specs.declared.relation.Relation.{Relation}
use Rattle.rbg_base.specs.declared.relation.Relation.TheVariants as relations

-- bounded = name "(" number ")"
pub data IsBounded : List Lexeme → SpeltBounded → List Lexeme → Type 0 where
  bounded : {ts mid rest : List Lexeme} {n : SpeltName} {b : SpeltNumber}
      → IsName ts n mid
      → Within OpenParenthesis CloseParenthesis IsNumber mid b rest
      → IsBounded ts (record { name = n; bound = b }) rest

-- players = bounded ("," bounded)..
abbrev pub ArePlayers : Phrase (List SpeltBounded)
ArePlayers = Separated Comma IsBounded

-- variables = nothing, or bounded ("," bounded)..
abbrev pub AreVariables : Phrase (List SpeltBounded)
AreVariables = Listed IsBounded

-- pieces = name ("," name)..
abbrev pub ArePieces : Phrase (List SpeltName)
ArePieces = Separated Comma IsName

-- row = "[" (name ("," name)..)? "]"
abbrev pub IsRow : Phrase (List SpeltName)
IsRow = Within OpenBracket CloseBracket (Listed IsName)

-- edge = name ":" name
pub data IsEdge : List Lexeme → SpeltEdge → List Lexeme → Type 0 where
  edge : {ts mid rest : List Lexeme} {d t : SpeltName}
      → IsName ts d mid
      → After Colon IsName mid t rest
      → IsEdge ts (record { direction = d; target = t }) rest

-- vertex = name "[" name "]" "{" (edge ("," edge)..)? "}"
pub data IsVertex : List Lexeme → SpeltVertex → List Lexeme → Type 0 where
  vertex : {ts after_name after_piece rest : List Lexeme} {n p : SpeltName} {es : List SpeltEdge}
      → IsName ts n after_name
      → Within OpenBracket CloseBracket IsName after_name p after_piece
      → Within OpenBrace CloseBrace (Listed IsEdge) after_piece es rest
      → IsVertex ts (record { name = n; piece = p; edges = es }) rest

-- name "," name "," name "," name "," row..
pub data IsRectangle : List Lexeme → SpeltBoard → List Lexeme → Type 0 where
  four : {ts t1 t2 t3 t4 rest : List Lexeme} {up down left right : SpeltName} {rows : List (List SpeltName)}
      → WithComma IsName ts up t1
      → WithComma IsName t1 down t2
      → WithComma IsName t2 left t3
      → WithComma IsName t3 right t4
      → Repeated IsRow t4 rows rest
      → IsRectangle ts (rectangle (up ∷ down ∷ left ∷ right ∷ []) rows) rest

-- six names each with "," after it, row..
pub data IsHexagon : List Lexeme → SpeltBoard → List Lexeme → Type 0 where
  six : {ts t1 t2 t3 t4 t5 t6 rest : List Lexeme} {n1 n2 n3 n4 n5 n6 : SpeltName} {rows : List (List SpeltName)}
      → WithComma IsName ts n1 t1
      → WithComma IsName t1 n2 t2
      → WithComma IsName t2 n3 t3
      → WithComma IsName t3 n4 t4
      → WithComma IsName t4 n5 t5
      → WithComma IsName t5 n6 t6
      → Repeated IsRow t6 rows rest
      → IsHexagon ts (hexagon (n1 ∷ n2 ∷ n3 ∷ n4 ∷ n5 ∷ n6 ∷ []) rows) rest

-- vertex..
pub data IsGraph : List Lexeme → SpeltBoard → List Lexeme → Type 0 where
  vertices : {ts rest : List Lexeme} {vs : List SpeltVertex}
      → Repeated IsVertex ts vs rest
      → IsGraph ts (graph vs) rest

-- a generator's name, and in parentheses what it generates from
pub data IsGenerated (text : List ℕ) (P : Phrase SpeltBoard) : List Lexeme → SpeltBoard → List Lexeme → Type 0 where
  generated : {ts mid rest : List Lexeme} {at : ℕ} {b : SpeltBoard}
      → IsWord text ts at mid
      → Within OpenParenthesis CloseParenthesis P mid b rest
      → IsGenerated text P ts b rest

-- board = "rectangle" "(" .. ")" | "hexagon" "(" .. ")" | "graph" "(" .. ")"
pub data IsBoard : List Lexeme → SpeltBoard → List Lexeme → Type 0 where
  rectangular : {ts rest : List Lexeme} {b : SpeltBoard}
      → IsGenerated (codes "rectangle") IsRectangle ts b rest
      → IsBoard ts b rest
  hexagonal : {ts rest : List Lexeme} {b : SpeltBoard}
      → IsGenerated (codes "hexagon") IsHexagon ts b rest
      → IsBoard ts b rest
  graphic : {ts rest : List Lexeme} {b : SpeltBoard}
      → IsGenerated (codes "graph") IsGraph ts b rest
      → IsBoard ts b rest

-- the relation that a token of this kind is
abbrev pub relation_of : TokenKind → Option Relation
relation_of kinds.Name = None
relation_of kinds.Number = None
relation_of (kinds.Symbol DoubleEquals) = Some relations.Equal
relation_of (kinds.Symbol NotEquals) = Some relations.NotEqual
relation_of (kinds.Symbol LessThan) = Some relations.Less
relation_of (kinds.Symbol LessOrEqual) = Some relations.LessOrEqual
relation_of (kinds.Symbol GreaterThan) = Some relations.Greater
relation_of (kinds.Symbol GreaterOrEqual) = Some relations.GreaterOrEqual
relation_of (kinds.Symbol _) = None

-- relation = "==" | "!=" | "<" | "<=" | ">" | ">="
abbrev pub IsRelation : Phrase Relation
IsRelation = IsOneOf relation_of

-- the operator of this rank that a token of this kind is
abbrev pub operator_of : Rank → TokenKind → Option Operator
operator_of rank kinds.Name = None
operator_of rank kinds.Number = None
operator_of ranks.Sum (kinds.Symbol Plus) = Some operators.Plus
operator_of ranks.Sum (kinds.Symbol Minus) = Some operators.Minus
operator_of ranks.Sum (kinds.Symbol _) = None
operator_of ranks.Product (kinds.Symbol Star) = Some operators.Times
operator_of ranks.Product (kinds.Symbol Slash) = Some operators.Over
operator_of ranks.Product (kinds.Symbol _) = None

-- "+" | "-" in sums, and "*" | "/" in products
abbrev pub IsOperator : Rank → Phrase Operator
IsOperator rank = IsOneOf (operator_of rank)

-- operator operand
pub data IsFurtherOperand (rank : Rank) (Operand : Phrase SpeltExpression) :
    List Lexeme → SpeltOperand → List Lexeme → Type 0 where
  further_operand : {ts mid rest : List Lexeme} {o : Operator} {e : SpeltExpression}
      → IsOperator rank ts o mid
      → Operand mid e rest
      → IsFurtherOperand rank Operand ts (o, e) rest

-- operand (operator operand)..
pub data IsChain (rank : Rank) (Operand : Phrase SpeltExpression) :
    List Lexeme → SpeltExpression → List Lexeme → Type 0 where
  chained : {ts mid rest : List Lexeme} {e : SpeltExpression} {os : List SpeltOperand}
      → Operand ts e mid
      → Repeated (IsFurtherOperand rank Operand) mid os rest
      → IsChain rank Operand ts (in_chain ((first_of rank, e) ∷ os)) rest

-- factor = "-"? primary
pub data IsFactor (Primary : Phrase SpeltExpression) : List Lexeme → SpeltExpression → List Lexeme → Type 0 where
  plain : {ts rest : List Lexeme} {e : SpeltExpression}
      → Primary ts e rest
      → IsFactor Primary ts e rest
  minus : {ts rest : List Lexeme} {e : SpeltExpression}
      → After Minus Primary ts e rest
      → IsFactor Primary ts (SpeltExpression.negated e) rest

-- term = factor (("*" | "/") factor)..
abbrev pub IsTerm : Phrase SpeltExpression → Phrase SpeltExpression
IsTerm Primary = IsChain ranks.Product (IsFactor Primary)

-- sum = term (("+" | "-") term)..
abbrev pub IsSumOver : Phrase SpeltExpression → Phrase SpeltExpression
IsSumOver Primary = IsChain ranks.Sum (IsTerm Primary)

pub data IsNumberOrName : List Lexeme → SpeltExpression → List Lexeme → Type 0 where
  number : {ts rest : List Lexeme} {n : SpeltNumber}
      → IsNumber ts n rest
      → IsNumberOrName ts (SpeltExpression.number n) rest
  name : {ts rest : List Lexeme} {n : SpeltName}
      → IsName ts n rest
      → IsNumberOrName ts (SpeltExpression.name n) rest

-- primary = number | name | "(" sum ")", with at most this many brackets open at once
abbrev pub IsPrimary : ℕ → Phrase SpeltExpression
IsPrimary zero ts e rest = IsNumberOrName ts e rest
IsPrimary (suc brackets) ts e rest =
    IsNumberOrName ts e rest
    ⊎ Within OpenParenthesis CloseParenthesis (IsSumOver (IsPrimary brackets)) ts e rest

abbrev pub IsSum : ℕ → Phrase SpeltExpression
IsSum brackets = IsSumOver (IsPrimary brackets)

-- the atoms without a bracket: name | "->" name | "->>"
pub data IsOpenAtom : List Lexeme → SpeltRule → List Lexeme → Type 0 where
  moves : {ts rest : List Lexeme} {n : SpeltName}
      → IsName ts n rest
      → IsOpenAtom ts (act (shift n)) rest
  switches : {ts mid rest : List Lexeme} {at : ℕ} {n : SpeltName}
      → IsSymbol Arrow ts at mid
      → IsName mid n rest
      → IsOpenAtom ts (act (switch at (Some n))) rest
  keeps : {ts rest : List Lexeme} {at : ℕ}
      → IsSymbol DoubleArrow ts at rest
      → IsOpenAtom ts (act (switch at None)) rest

-- sum relation sum
pub data IsComparison (Sum : Phrase SpeltExpression) : List Lexeme → SpeltRule → List Lexeme → Type 0 where
  comparison : {ts t1 t2 rest : List Lexeme} {e f : SpeltExpression} {r : Relation}
      → Sum ts e t1
      → IsRelation t1 r t2
      → Sum t2 f rest
      → IsComparison Sum ts (act (compare e r f)) rest

-- name "=" sum
pub data IsAssignment (Sum : Phrase SpeltExpression) : List Lexeme → SpeltRule → List Lexeme → Type 0 where
  assignment : {ts mid rest : List Lexeme} {n : SpeltName} {e : SpeltExpression}
      → IsName ts n mid
      → After Equals Sum mid e rest
      → IsAssignment Sum ts (act (assign n e)) rest

-- name "=" sum ("," name "=" sum)..: the sequence of its assignments
pub data AreAssignments (Sum : Phrase SpeltExpression) : List Lexeme → SpeltRule → List Lexeme → Type 0 where
  assignments : {ts rest : List Lexeme} {r : SpeltRule} {rs : List SpeltRule}
      → Separated Comma (IsAssignment Sum) ts (r ∷ rs) rest
      → AreAssignments Sum ts (sequence_of r rs) rest

-- The atoms in brackets: "(" rules ")" | "{" (name ("," name)..)? "}" | "[" name "]" | "{" "$" sum relation sum "}"
-- | "[" "$" name "=" sum ("," name "=" sum).. "]" | "{" "?" rules "}" | "{" "!" rules "}"
pub data IsBracketAtom (Rules : Phrase SpeltRule) (Sum : Phrase SpeltExpression) :
    List Lexeme → SpeltRule → List Lexeme → Type 0 where
  groups : {ts rest : List Lexeme} {r : SpeltRule}
      → Within OpenParenthesis CloseParenthesis Rules ts r rest
      → IsBracketAtom Rules Sum ts r rest
  stands_on : {ts rest : List Lexeme} {ns : List SpeltName}
      → Within OpenBrace CloseBrace (Listed IsName) ts ns rest
      → IsBracketAtom Rules Sum ts (act (on ns)) rest
  puts : {ts rest : List Lexeme} {n : SpeltName}
      → Within OpenBracket CloseBracket IsName ts n rest
      → IsBracketAtom Rules Sum ts (act (off n)) rest
  compares : {ts rest : List Lexeme} {r : SpeltRule}
      → Within OpenBrace CloseBrace (After Dollar (IsComparison Sum)) ts r rest
      → IsBracketAtom Rules Sum ts r rest
  assigns : {ts rest : List Lexeme} {r : SpeltRule}
      → Within OpenBracket CloseBracket (After Dollar (AreAssignments Sum)) ts r rest
      → IsBracketAtom Rules Sum ts r rest
  holds : {ts first last rest : List Lexeme} {at end : ℕ} {r : SpeltRule}
      → IsSymbol OpenBrace ts at first
      → After Question Rules first r last
      → IsSymbol CloseBrace last end rest
      → IsBracketAtom Rules Sum ts (act (positive at r)) rest
  fails : {ts first last rest : List Lexeme} {at end : ℕ} {r : SpeltRule}
      → IsSymbol OpenBrace ts at first
      → After Exclamation Rules first r last
      → IsSymbol CloseBrace last end rest
      → IsBracketAtom Rules Sum ts (act (negative at r)) rest

-- item = atom "*"?
pub data IsItem (Atom : Phrase SpeltRule) : List Lexeme → SpeltRule → List Lexeme → Type 0 where
  once : {ts rest : List Lexeme} {r : SpeltRule}
      → Atom ts r rest
      → IsItem Atom ts r rest
  starred : {ts mid rest : List Lexeme} {at : ℕ} {r : SpeltRule}
      → Atom ts r mid
      → IsSymbol Star mid at rest
      → IsItem Atom ts (star r) rest

-- seq = item item..
pub data IsSequence (Atom : Phrase SpeltRule) : List Lexeme → SpeltRule → List Lexeme → Type 0 where
  in_turn : {ts mid rest : List Lexeme} {r : SpeltRule} {rs : List SpeltRule}
      → IsItem Atom ts r mid
      → Repeated (IsItem Atom) mid rs rest
      → IsSequence Atom ts (sequence_of r rs) rest

-- rules = seq ("+" seq)..
pub data AreRulesOver (Atom : Phrase SpeltRule) : List Lexeme → SpeltRule → List Lexeme → Type 0 where
  either : {ts rest : List Lexeme} {r : SpeltRule} {rs : List SpeltRule}
      → Separated Plus (IsSequence Atom) ts (r ∷ rs) rest
      → AreRulesOver Atom ts (choice_of r rs) rest

-- an atom with at most this many brackets open at once
abbrev pub IsAtom : ℕ → Phrase SpeltRule
IsAtom zero ts r rest = IsOpenAtom ts r rest
IsAtom (suc brackets) ts r rest =
    IsOpenAtom ts r rest
    ⊎ IsBracketAtom (AreRulesOver (IsAtom brackets)) (IsSum brackets) ts r rest

abbrev pub AreRules : ℕ → Phrase SpeltRule
AreRules brackets = AreRulesOver (IsAtom brackets)
