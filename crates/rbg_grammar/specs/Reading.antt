-- The reading of a list of tokens from the front, phrase by phrase: a value and the tokens after it, or why there is
-- none.
use Rattle.std.specs.Prelude.{◌≡◌, ◌<◌, ◌&&◌, ℕ, zero, suc, List, [], ◌∷◌, Bool, false, codes, drop, length, Option, Some, None, is_some, Result, Ok, Err, if◌then◌else◌}
use Rattle.std.specs.Str.{bytes_eq}
use Rattle.rbg_macro.specs.Token.{Lexeme}
use Rattle.rbg_macro.specs.Sections.{SectionTokens}
use Rattle.rbg_macro.specs.declared.token.Symbol.{Symbol}
use Rattle.rbg_macro.specs.declared.token.Symbol.TheVariants.{DoubleArrow, Arrow, OpenParenthesis, CloseParenthesis, OpenBracket, CloseBracket, OpenBrace, CloseBrace, Comma, Colon}
use Rattle.rbg_macro.specs.declared.token.TokenKind.{TokenKind}
use Rattle.rbg_grammar.specs.Tree.{SpeltName, SpeltNumber, SpeltBounded, SpeltEdge, SpeltVertex, SpeltBoard, rectangle, hexagon, graph, SpeltRule, act, shift, on, off, switch, sequence, no_rules, sequence_of}
use Rattle.rbg_base.specs.Decimals.{number_of_digits}
use Rattle.rbg_macro.specs.Kinds.{is_name_kind, is_number_kind, is_symbol}

-- Why a piece isn't read: the token at this place doesn't fit, or the tokens end; or the bracket at this place is
-- opened though none may be.
pub data Fault : Type 0 where
  misfit : Option ℕ → Fault
  too_deep : ℕ → Fault

abbrev pub Reading : Type 0 → Type 0
Reading A = Result (A × List Lexeme) Fault

-- a reader that takes at least one token
abbrev pub TakesSome : {A : Type 0} → (List Lexeme → Reading A) → Type 0
TakesSome {A} read =
    (ts : List Lexeme) (x : A) (rest : List Lexeme) → read ts ≡ Ok (x, rest) → length rest < length ts

infixl 10 ◌>>=◌
abbrev pub ◌>>=◌ : {A B : Type 0} → Result A Fault → (A → Result B Fault) → Result B Fault
(Ok x) >>= f = f x
(Err e) >>= f = Err e

-- the next token, if there is one, passes the test
abbrev pub next_is : (TokenKind → Bool) → List Lexeme → Bool
next_is test [] = false
next_is test (t ∷ ts) = test t.kind

-- the place of the next token, if there is one
abbrev pub place_of : List Lexeme → Option ℕ
place_of [] = None
place_of (t ∷ ts) = Some t.at

-- the next token
abbrev pub front_at : List Lexeme → Reading Lexeme
front_at [] = Err (misfit None)
front_at (t ∷ ts) = Ok (t, ts)

-- the next token, if it passes the test
abbrev pub token_at : (TokenKind → Bool) → List Lexeme → Reading Lexeme
token_at test ts = do
  t ← front_at ts
  if test t.0.kind then Ok t else Err (misfit (Some t.0.at))

unfoldable pub symbol_at : Symbol → List Lexeme → Reading ℕ
symbol_at s ts = do
  t ← token_at (is_symbol s) ts
  Ok (t.0.at, t.1)

-- the front token was passed if it is this symbol, and the flag is set exactly then
pub record Takes (s : Symbol) (taken : Bool) (old new : List Lexeme) : Type 0 where
  pub found : next_is (is_symbol s) old ≡ taken
  pub rest : new ≡ (if taken then drop 1 old else old)

unfoldable pub name_at : List Lexeme → Reading SpeltName
name_at ts = do
  t ← token_at is_name_kind ts
  Ok (record { text = t.0.text; at = t.0.at }, t.1)

unfoldable pub number_at : List Lexeme → Reading SpeltNumber
number_at ts = do
  t ← token_at is_number_kind ts
  Ok (record { value = number_of_digits t.0.text; at = t.0.at }, t.1)

unfoldable pub word_at : List ℕ → List Lexeme → Reading ℕ
word_at text ts = do
  t ← token_at is_name_kind ts
  if bytes_eq t.0.text text then Ok (t.0.at, t.1) else Err (misfit (Some t.0.at))

-- the table gives tokens of this kind a value
abbrev pub is_in : {A : Type 0} → (TokenKind → Option A) → TokenKind → Bool
is_in table k = is_some (table k)

-- the value, if there is one, and the tokens after the front one
abbrev pub or_misfit : {A : Type 0} → Option A → Lexeme × List Lexeme → Reading A
or_misfit (Some x) t = Ok (x, t.1)
or_misfit None t = Err (misfit (Some t.0.at))

-- the value that the table gives the next token
unfoldable pub one_of_at : {A : Type 0} → (TokenKind → Option A) → List Lexeme → Reading A
one_of_at table ts = do
  t ← front_at ts
  or_misfit (table t.0.kind) t

-- phrases as long as the next token passes the test; the number bounds the turns, and the count of the tokens is enough
abbrev pub repeated_within :
    {A : Type 0} → ℕ → (TokenKind → Bool) → (List Lexeme → Reading A) → List Lexeme → Reading (List A)
repeated_within zero test read ts = Ok ([], ts)
repeated_within (suc n) test read ts =
    if next_is test ts then
    (do
      first ← read ts
      more ← repeated_within n test read first.1
      Ok (first.0 ∷ more.0, more.1))
    else Ok ([], ts)

unfoldable pub repeated_at :
    {A : Type 0} → (TokenKind → Bool) → (List Lexeme → Reading A) → List Lexeme → Reading (List A)
repeated_at test read ts = repeated_within (length ts) test read ts

-- a first part, and what is read after it
unfoldable pub further_at :
    {A : Type 0} → A → (TokenKind → Bool) → (List Lexeme → Reading A) → List Lexeme → Reading (List A)
further_at first test read ts = do
  more ← repeated_at test read ts
  Ok (first ∷ more.0, more.1)

unfoldable pub after_at : {A : Type 0} → Symbol → (List Lexeme → Reading A) → List Lexeme → Reading A
after_at s read ts = do
  at ← symbol_at s ts
  read at.1

unfoldable pub separated_at : {A : Type 0} → Symbol → (List Lexeme → Reading A) → List Lexeme → Reading (List A)
separated_at s read ts = do
  first ← read ts
  more ← repeated_at (is_symbol s) (after_at s read) first.1
  Ok (first.0 ∷ more.0, more.1)

-- a list that may be empty: there is a part if the next token passes the test
unfoldable pub listed_at :
    {A : Type 0} → (TokenKind → Bool) → (List Lexeme → Reading A) → List Lexeme → Reading (List A)
listed_at test read ts = if next_is test ts then separated_at Comma read ts else Ok ([], ts)

unfoldable pub within_at : {A : Type 0} → Symbol → Symbol → (List Lexeme → Reading A) → List Lexeme → Reading A
within_at opening closing read ts = do
  at ← symbol_at opening ts
  x ← read at.1
  end ← symbol_at closing x.1
  Ok (x.0, end.1)

unfoldable pub with_comma_at : {A : Type 0} → (List Lexeme → Reading A) → List Lexeme → Reading A
with_comma_at read ts = do
  x ← read ts
  at ← symbol_at Comma x.1
  Ok (x.0, at.1)

-- bounded
unfoldable pub bounded_at : List Lexeme → Reading SpeltBounded
bounded_at ts = do
  n ← name_at ts
  b ← within_at OpenParenthesis CloseParenthesis number_at n.1
  Ok (record { name = n.0; bound = b.0 }, b.1)

unfoldable pub row_at : List Lexeme → Reading (List SpeltName)
row_at ts = within_at OpenBracket CloseBracket (listed_at is_name_kind name_at) ts

unfoldable pub edge_at : List Lexeme → Reading SpeltEdge
edge_at ts = do
  d ← name_at ts
  t ← after_at Colon name_at d.1
  Ok (record { direction = d.0; target = t.0 }, t.1)

unfoldable pub vertex_at : List Lexeme → Reading SpeltVertex
vertex_at ts = do
  n ← name_at ts
  p ← within_at OpenBracket CloseBracket name_at n.1
  es ← within_at OpenBrace CloseBrace (listed_at is_name_kind edge_at) p.1
  Ok (record { name = n.0; piece = p.0; edges = es.0 }, es.1)

unfoldable pub rows_at : List Lexeme → Reading (List (List SpeltName))
rows_at ts = repeated_at (is_symbol OpenBracket) row_at ts

unfoldable pub direction_at : List Lexeme → Reading SpeltName
direction_at ts = with_comma_at name_at ts

unfoldable pub rectangle_at : List Lexeme → Reading SpeltBoard
rectangle_at ts = do
  up ← direction_at ts
  down ← direction_at up.1
  left ← direction_at down.1
  right ← direction_at left.1
  rows ← rows_at right.1
  Ok (rectangle (up.0 ∷ down.0 ∷ left.0 ∷ right.0 ∷ []) rows.0, rows.1)

unfoldable pub hexagon_at : List Lexeme → Reading SpeltBoard
hexagon_at ts = do
  n1 ← direction_at ts
  n2 ← direction_at n1.1
  n3 ← direction_at n2.1
  n4 ← direction_at n3.1
  n5 ← direction_at n4.1
  n6 ← direction_at n5.1
  rows ← rows_at n6.1
  Ok (hexagon (n1.0 ∷ n2.0 ∷ n3.0 ∷ n4.0 ∷ n5.0 ∷ n6.0 ∷ []) rows.0, rows.1)

unfoldable pub graph_at : List Lexeme → Reading SpeltBoard
graph_at ts = do
  vs ← repeated_at is_name_kind vertex_at ts
  Ok (graph vs.0, vs.1)

-- the contents of a board in its parentheses, after the name of its generator
unfoldable pub generated_at : List ℕ → (List Lexeme → Reading SpeltBoard) → List Lexeme → Reading SpeltBoard
generated_at text read ts = do
  at ← word_at text ts
  within_at OpenParenthesis CloseParenthesis read at.1

-- the next token is this word
abbrev pub next_word : List ℕ → List Lexeme → Bool
next_word text [] = false
next_word text (t ∷ ts) = is_name_kind t.kind && bytes_eq t.text text

unfoldable pub board_at : List Lexeme → Reading SpeltBoard
board_at ts =
    if next_word (codes "rectangle") ts then generated_at (codes "rectangle") rectangle_at ts
    else (if next_word (codes "hexagon") ts then generated_at (codes "hexagon") hexagon_at ts
    else generated_at (codes "graph") graph_at ts)

-- a value, if no token is left
abbrev pub ended_at : {A : Type 0} → A → List Lexeme → Result A Fault
ended_at x [] = Ok x
ended_at x (t ∷ ts) = Err (misfit (Some t.at))

-- all of the tokens
unfoldable pub whole_at : {A : Type 0} → (List Lexeme → Reading A) → List Lexeme → Result A Fault
whole_at read ts = do
  x ← read ts
  ended_at x.0 x.1

-- the variables, by the sections that are theirs: none if there is no section
unfoldable pub variables_at : List SectionTokens → Result (List SpeltBounded) Fault
variables_at [] = Ok []
variables_at (s ∷ ss) = whole_at (listed_at is_name_kind bounded_at) s.tokens

-- the parts of a sequence as one rule
abbrev pub in_sequence : List SpeltRule → SpeltRule
in_sequence [] = sequence no_rules
in_sequence (r ∷ rs) = sequence_of r rs

-- the atoms without a bracket
unfoldable pub open_atom_at : List Lexeme → Reading SpeltRule
open_atom_at ts =
    if next_is is_name_kind ts then (do
      n ← name_at ts
      Ok (act (shift n.0), n.1))
    else (if next_is (is_symbol Arrow) ts then (do
      at ← symbol_at Arrow ts
      n ← name_at at.1
      Ok (act (switch at.0 (Some n.0)), n.1))
    else (do
      at ← symbol_at DoubleArrow ts
      Ok (act (switch at.0 None), at.1)))

unfoldable pub on_at : List Lexeme → Reading SpeltRule
on_at ts = do
  ns ← within_at OpenBrace CloseBrace (listed_at is_name_kind name_at) ts
  Ok (act (on ns.0), ns.1)

unfoldable pub off_at : List Lexeme → Reading SpeltRule
off_at ts = do
  n ← within_at OpenBracket CloseBracket name_at ts
  Ok (act (off n.0), n.1)
