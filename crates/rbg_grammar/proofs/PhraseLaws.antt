-- Each phrase has at least one token.
use Rattle.std.proofs.Common.{ℕ, List, arith}
use Rattle.rbg_macro.specs.Token.{Lexeme}
use Rattle.rbg_grammar.proofs.Common.{Rank, IsName, IsBounded, IsRow, IsEdge, IsVertex, IsAssignment, IsItem, IsSequence, IsAtom, IsPrimary, IsSum, Reading, TakesSome, bounded_at, edge_at, name_at, row_at, vertex_at, assignment_at, atom_at, further_operand_at, item_at, operand_at, primary_at, sequence_at, sum_at}
use Rattle.rbg_grammar.proofs.Readers.{Always, IsReadBy, name_read}
use Rattle.rbg_grammar.proofs.SectionReaders.{bounded_read, edge_read, row_read, vertex_read}
use Rattle.rbg_grammar.proofs.RuleReaders.{EndsItem, EndsSequence, assignment_read, item_read, sequence_read, atom_reader}
use Rattle.rbg_grammar.proofs.SumReaders.{EndsSum, further_operand_read, primary_no_minus, primary_read, sum_read}

takes_some : {A : Type 0} (P : List Lexeme → A → List Lexeme → Type 0) (Follow : List Lexeme → Type 0) (read : List Lexeme → Reading A) → IsReadBy 1 P Follow read → TakesSome read
takes_some P Follow read reads ts x rest e = omega (arith, reads.shorter ts x rest (reads.sound ts x rest e))

pub name_takes_some : TakesSome name_at
name_takes_some = takes_some IsName Always name_at name_read

pub bounded_takes_some : TakesSome bounded_at
bounded_takes_some = takes_some IsBounded Always bounded_at bounded_read

pub row_takes_some : TakesSome row_at
row_takes_some = takes_some IsRow Always row_at row_read

pub edge_takes_some : TakesSome edge_at
edge_takes_some = takes_some IsEdge Always edge_at edge_read

pub vertex_takes_some : TakesSome vertex_at
vertex_takes_some = takes_some IsVertex Always vertex_at vertex_read

pub further_operand_takes_some : (rank : Rank) (n : ℕ) → TakesSome (further_operand_at rank (operand_at rank (primary_at n)))
further_operand_takes_some rank n = further_operand_read (IsPrimary n) (primary_at n) (primary_read n) (primary_no_minus n) rank

pub assignment_takes_some : (n : ℕ) → TakesSome (assignment_at (sum_at n))
assignment_takes_some n = takes_some (IsAssignment (IsSum n)) EndsSum (assignment_at (sum_at n)) (assignment_read (IsSum n) (sum_at n) (sum_read n))

pub item_takes_some : (n : ℕ) → TakesSome (item_at (atom_at n))
item_takes_some n = let atoms = atom_reader n in takes_some (IsItem (IsAtom n)) EndsItem (item_at (atom_at n)) (item_read (IsAtom n) (atom_at n) atoms.reads atoms.begins)

pub sequence_takes_some : (n : ℕ) → TakesSome (sequence_at (atom_at n))
sequence_takes_some n = let atoms = atom_reader n in takes_some (IsSequence (IsAtom n)) EndsSequence (sequence_at (atom_at n)) (sequence_read (IsAtom n) (atom_at n) atoms.reads atoms.begins)
