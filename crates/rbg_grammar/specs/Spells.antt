-- Which sections spell which description, and where tokens stop fitting.
use Rattle.std.specs.Prelude.{◌≡◌, ◌≤◌, ◌+◌, ◌-◌, ℕ, List, [], ◌∷◌, ◌++◌, ◌⊎◌, true, if◌then◌else◌}
use Rattle.rbg_macro.specs.Token.{Lexeme}
use Rattle.rbg_macro.specs.Sections.{SectionTokens}
use Rattle.rbg_macro.specs.declared.source.SectionKind.{SectionKind}
use Rattle.rbg_macro.specs.declared.source.SectionKind.TheVariants.{Players, Pieces, Variables, Board, Rules}
use Rattle.rbg_macro.specs.declared.token.TokenKind.{TokenKind}
use Rattle.rbg_macro.specs.Kinds.{opens, closes}
use Rattle.rbg_grammar.specs.Sections.{sections_of}
use Rattle.rbg_grammar.specs.Phrase.{Phrase}
use Rattle.rbg_grammar.specs.Tree.{SpeltBounded, SpeltName, SpeltBoard, SpeltRule, SpeltDescription}
use Rattle.rbg_grammar.specs.Grammar.{ArePlayers, AreVariables, ArePieces, IsBoard, AreRules}

-- the one section of this kind has these tokens
pub record HasSection (sections : List SectionTokens) (kind : SectionKind) (ts : List Lexeme) : Type 0 where
  pub section : SectionTokens
  pub only : sections_of kind sections ≡ section ∷ []
  pub tokens : section.tokens ≡ ts

-- all tokens of the one section of this kind are a phrase that spells the value
pub record IsSection {A : Type 0} (sections : List SectionTokens) (kind : SectionKind) (P : Phrase A) (x : A) :
    Type 0 where
  pub ts : List Lexeme
  pub has : HasSection sections kind ts
  pub spells : P ts x []

abbrev pub HasNoVariables : List SectionTokens → List SpeltBounded → Type 0
HasNoVariables sections vs = (sections_of Variables sections ≡ []) × (vs ≡ [])

abbrev pub MayHaveVariables : List SectionTokens → List SpeltBounded → Type 0
MayHaveVariables sections vs = HasNoVariables sections vs ⊎ IsSection sections Variables AreVariables vs

abbrev pub max_brackets : ℕ
max_brackets = 128

-- The description that the sections spell, with at most 128 brackets open at once.
pub record Spells (sections : List SectionTokens) (d : SpeltDescription) : Type 0 where
  pub players : IsSection sections Players ArePlayers d.players
  pub variables : MayHaveVariables sections d.variables
  pub pieces : IsSection sections Pieces ArePieces d.pieces
  pub board : IsSection sections Board IsBoard d.board
  pub rules : IsSection sections Rules (AreRules max_brackets) d.rules

-- the tokens spell something of this kind, with any number of brackets open at once
abbrev pub IsSpelt : SectionKind → List Lexeme → Type 0
IsSpelt Players ts = (ps : List SpeltBounded) × ArePlayers ts ps []
IsSpelt Pieces ts = (ps : List SpeltName) × ArePieces ts ps []
IsSpelt Variables ts = (vs : List SpeltBounded) × AreVariables ts vs []
IsSpelt Board ts = (b : SpeltBoard) × IsBoard ts b []
IsSpelt Rules ts = (brackets : ℕ) × ((r : SpeltRule) × AreRules brackets ts r [])

-- with some tokens after them, or none, the tokens spell something of this kind
abbrev pub CanGoOn : SectionKind → List Lexeme → Type 0
CanGoOn kind ts = (more : List Lexeme) × IsSpelt kind (ts ++ more)

-- a token at this place, with the tokens before it and after it
pub record TokenAt (ts : List Lexeme) (at : ℕ) : Type 0 where
  pub before : List Lexeme
  pub token : Lexeme
  pub beyond : List Lexeme
  pub whole : ts ≡ before ++ token ∷ beyond
  pub place : token.at ≡ at

-- The token at this place is the first that doesn't fit: the tokens before it can continue, and with it they can't.
pub record IsMisfit (kind : SectionKind) (ts : List Lexeme) (at : ℕ) : Type 0 where
  pub here : TokenAt ts at
  pub fits : CanGoOn kind here.before
  pub refused : CanGoOn kind (here.before ++ here.token ∷ []) → ⊥

-- All tokens of the section fit, but more are needed after them. The place is that of the section's `#`.
pub record EndsEarly (kind : SectionKind) (section : SectionTokens) (at : ℕ) : Type 0 where
  pub place : section.at ≡ at
  pub fits : CanGoOn kind section.tokens

-- the place where the tokens of the section stop fitting
abbrev pub StopsAt : SectionKind → SectionTokens → ℕ → Type 0
StopsAt kind section at = IsMisfit kind section.tokens at ⊎ EndsEarly kind section at

-- Some section's tokens spell nothing of its kind, at any depth of brackets, and this is the place where they stop
-- fitting.
pub record IsMisspelt (sections : List SectionTokens) (at : ℕ) : Type 0 where
  pub kind : SectionKind
  pub ts : List Lexeme
  pub has : HasSection sections kind ts
  pub spells_nothing : IsSpelt kind ts → ⊥
  pub place : StopsAt kind has.section at

-- how many brackets are open after a token, and after tokens, if this many are open before
abbrev pub open_with : ℕ → TokenKind → ℕ
open_with n k = if opens k then n + 1 else (if closes k then n - 1 else n)

abbrev pub open_after : ℕ → List Lexeme → ℕ
open_after n [] = n
open_after n (t ∷ ts) = open_after (open_with n t.kind) ts

-- The bracket at this place of the tokens is the first that is opened while 128 are open, and rules may continue with
-- it: with some other tokens after it they are spelt, if more brackets may be open. No other section nests brackets so
-- deep.
pub record IsTooDeep (ts : List Lexeme) (at : ℕ) : Type 0 where
  pub here : TokenAt ts at
  pub is_bracket : opens here.token.kind ≡ true
  pub depth : open_after 0 here.before ≡ max_brackets
  pub first : (front rest : List Lexeme) → here.before ≡ front ++ rest → open_after 0 front ≤ max_brackets
  pub other : List Lexeme
  pub fits : IsSpelt Rules (here.before ++ here.token ∷ other)

-- the bracket at this place of the rules is opened too deep
pub record OpensTooDeep (sections : List SectionTokens) (at : ℕ) : Type 0 where
  pub ts : List Lexeme
  pub has : HasSection sections Rules ts
  pub deep : IsTooDeep ts at
