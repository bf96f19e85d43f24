-- Sections spell at most one description.
use Rattle.std.proofs.Common.{◌≡◌, ℕ, List, [], ◌∷◌, true, ap, sym, ◌∙◌, refl, subst, inl, inr}
use Rattle.rbg_macro.proofs.TextCommon.{Lexeme, is_name_kind, is_symbol}
use Rattle.rbg_macro.specs.Sections.{SectionTokens}
use Rattle.rbg_macro.specs.declared.source.SectionKind.{SectionKind}
use Rattle.rbg_macro.specs.declared.token.Symbol.TheVariants.{Comma}
use Rattle.rbg_grammar.proofs.Common.{IsBounded, bounded, ArePlayers, AreVariables, ArePieces, IsBoard, AreRules, Reading, next_is, bounded_at, name_at, separated_at, listed_at, board_at, rules_at, sections_of, HasSection, IsSection, MayHaveVariables, Spells, SpeltBounded, SpeltName, SpeltBoard, SpeltRule, SpeltDescription}
use Rattle.rbg_grammar.proofs.Combinators.{Stops, EndsList, listed_read}
use Rattle.rbg_grammar.proofs.Readers.{IsReadBy, Always, ok_one, name_next}
use Rattle.rbg_grammar.proofs.RuleReaders.{EndsRules, nothing_ends_rules, rules_read}
use Rattle.rbg_grammar.proofs.SectionReaders.{bounded_read, players_read, names_read, board_read}

pub same_tokens : {all : List SectionTokens} {kind : SectionKind} {ts us : List Lexeme} → HasSection all kind ts → HasSection all kind us → us ≡ ts
same_tokens h k = let same : k.section ∷ [] ≡ h.section ∷ [] = sym k.only ∙ h.only in
    let one : k.section ≡ h.section = cc in
    sym k.tokens ∙ ap (λ (s : SectionTokens). s.tokens) one ∙ h.tokens

-- what a section spells is spelt by these very tokens
pub spelt_here : {A : Type 0} {all : List SectionTokens} {kind : SectionKind} {ts : List Lexeme} {P : List Lexeme → A → List Lexeme → Type 0} {x : A} → HasSection all kind ts → IsSection all kind P x → P ts x []
spelt_here {P = P} {x = x} h k = subst (λ us. P us x []) (same_tokens h k.has) k.spells

-- what is read of tokens is the only value that all of them spell
module _ {A : Type 0} (least : ℕ) (P : List Lexeme → A → List Lexeme → Type 0) (Follow : List Lexeme → Type 0) (read : List Lexeme → Reading A) (reads : IsReadBy least P Follow read) (follows : Follow []) where
  one_value : (ts : List Lexeme) (x y : A) → P ts x [] → P ts y [] → x ≡ y
  one_value ts x y d e =
      let same = ok_one (x, []) (y, []) (sym (reads.complete ts x [] d follows) ∙ reads.complete ts y [] e follows) in
      ap (λ (q : A × List Lexeme). q.0) same

  one_in_section : {sections : List SectionTokens} {kind : SectionKind} {x y : A} → IsSection sections kind P x → IsSection sections kind P y → x ≡ y
  one_in_section {x = x} {y = y} s t = one_value s.ts x y s.spells (spelt_here s.has t)

one_players : {sections : List SectionTokens} {kind : SectionKind} {x y : List SpeltBounded} → IsSection sections kind ArePlayers x → IsSection sections kind ArePlayers y → x ≡ y
one_players s t = one_in_section 1 ArePlayers (Stops Always (is_symbol Comma)) (separated_at Comma bounded_at) players_read (record { ends = refl; follows = tt }) s t

one_pieces : {sections : List SectionTokens} {kind : SectionKind} {x y : List SpeltName} → IsSection sections kind ArePieces x → IsSection sections kind ArePieces y → x ≡ y
one_pieces s t = one_in_section 1 ArePieces (Stops Always (is_symbol Comma)) (separated_at Comma name_at) names_read (record { ends = refl; follows = tt }) s t

one_board : {sections : List SectionTokens} {kind : SectionKind} {x y : SpeltBoard} → IsSection sections kind IsBoard x → IsSection sections kind IsBoard y → x ≡ y
one_board s t = one_in_section 1 IsBoard Always board_at board_read tt s t

one_rule : (n : ℕ) {sections : List SectionTokens} {kind : SectionKind} {x y : SpeltRule} → IsSection sections kind (AreRules n) x → IsSection sections kind (AreRules n) y → x ≡ y
one_rule n s t = one_in_section 1 (AreRules n) EndsRules (rules_at n) (rules_read n) nothing_ends_rules s t

bounded_next : {ts rest : List Lexeme} {x : SpeltBounded} → IsBounded ts x rest → next_is is_name_kind ts ≡ true
bounded_next {ts} (bounded {mid = mid} {n = n} d e) = name_next ts n mid d

pub variables_read : IsReadBy 0 AreVariables (EndsList Always is_name_kind) (listed_at is_name_kind bounded_at)
variables_read = listed_read IsBounded Always bounded_at is_name_kind bounded_read (λ ts x rest d. bounded_next d) (λ ts e. tt)

pub no_section : {sections : List SectionTokens} {kind : SectionKind} {A : Type 0} {P : List Lexeme → A → List Lexeme → Type 0} {x : A} → sections_of kind sections ≡ [] → IsSection sections kind P x → ⊥
no_section none s = let wrong : [] ≡ s.has.section ∷ [] = sym none ∙ s.has.only in cc

pub one_variables : {sections : List SectionTokens} {x y : List SpeltBounded} → MayHaveVariables sections x → MayHaveVariables sections y → x ≡ y
one_variables (inl s) (inl t) = s.1 ∙ sym t.1
one_variables (inl s) (inr t) = absurd (no_section s.0 t)
one_variables (inr s) (inl t) = absurd (no_section t.0 s)
one_variables (inr s) (inr t) = one_in_section 0 AreVariables (EndsList Always is_name_kind) (listed_at is_name_kind bounded_at) variables_read (record { no_part = refl; no_comma = record { ends = refl; follows = tt } }) s t

pub one_description : (sections : List SectionTokens) (a b : SpeltDescription) → Spells sections a → Spells sections b → a ≡ b
one_description sections a b s t =
    let players = one_players s.players t.players in
    let variables = one_variables s.variables t.variables in
    let pieces = one_pieces s.pieces t.pieces in
    let board = one_board s.board t.board in
    let rule = one_rule 128 s.rules t.rules in
    λ i. record { players = players i; variables = variables i; pieces = pieces i; board = board i; rules = rule i }
