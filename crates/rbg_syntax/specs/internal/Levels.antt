-- What rules are made of, level by level: sums of sequences, and sequences of items.
use Rattle.std.specs.Prelude.{ℕ, Bool, List}
use Rattle.rbg_macro.specs.Kinds.{is_symbol}
use Rattle.rbg_macro.specs.Token.{Lexeme}
use Rattle.rbg_macro.specs.declared.token.Symbol.TheVariants.{Plus}
use Rattle.rbg_macro.specs.declared.token.TokenKind.{TokenKind}
use Rattle.rbg_grammar.specs.Reading.{Reading, after_at, in_sequence}
use Rattle.rbg_grammar.specs.RuleReading.{atom_at, begins_atom, in_choice, item_at, rules_at, sequence_at}
use Rattle.rbg_grammar.specs.Tree.{SpeltRule}
use Rattle.rbg_syntax.specs.declared.rules.Level.{Level}
use Rattle.rbg_syntax.specs.declared.rules.Level.TheVariants.{Sum, Sequence}

-- the whole, if n further brackets may be open
abbrev pub list_at : Level → ℕ → List Lexeme → Reading SpeltRule
list_at Sum n = rules_at n
list_at Sequence n = sequence_at (atom_at n)

-- a part
abbrev pub part_at : Level → ℕ → List Lexeme → Reading SpeltRule
part_at Sum n = sequence_at (atom_at n)
part_at Sequence n = item_at (atom_at n)

-- a part after a first one
abbrev pub further_part_at : Level → ℕ → List Lexeme → Reading SpeltRule
further_part_at Sum n = after_at Plus (part_at Sum n)
further_part_at Sequence n = part_at Sequence n

-- what such a part begins with
abbrev pub goes_on : Level → TokenKind → Bool
goes_on Sum = is_symbol Plus
goes_on Sequence = begins_atom

-- the parts as one rule
abbrev pub joined : Level → List SpeltRule → SpeltRule
joined Sum = in_choice
joined Sequence = in_sequence
