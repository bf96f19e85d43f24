-- What one more bracket makes of readings of rules.
use Rattle.std.proofs.Common.{◌≡◌, ℕ, zero, suc, List, [], ◌∷◌, ◌++◌, drop, Bool, true, false, cond, Some, None, Ok, Err, refl, ap, inl, inr, arith}
use Rattle.rbg_macro.proofs.TextCommon.{Lexeme, opens, closes, is_name_kind, is_symbol}
use Rattle.rbg_macro.specs.declared.token.Symbol.{Symbol}
use Rattle.rbg_macro.specs.declared.token.Symbol.TheVariants.{DoubleArrow, Arrow, DoubleEquals, Equals, Plus, Star, OpenParenthesis, CloseParenthesis, OpenBracket, CloseBracket, OpenBrace, CloseBrace, Comma, Dollar, Question, Exclamation}
use Rattle.rbg_macro.specs.declared.token.TokenKind.{TokenKind}
use Rattle.rbg_macro.specs.declared.token.TokenKind.TheVariants as kinds
use Rattle.rbg_base.specs.declared.relation.Relation.{Relation}
use Rattle.rbg_base.specs.declared.relation.Relation.TheVariants as relations
use Rattle.rbg_grammar.proofs.Common.{SpeltName, SpeltExpression, SpeltRule, SpeltAction, act, shift, switch, assign, compare, positive, negative, star, sequence_of, IsSymbol, symbol, IsName, name, one_of, Repeated, done, After, Separated, separated, Listed, nothing, Within, within, relation_of, IsRelation, IsSum, IsOpenAtom, moves, switches, keeps, IsComparison, comparison, IsAssignment, assignment, AreAssignments, assignments, IsBracketAtom, groups, stands_on, puts, compares, assigns, IsItem, once, starred, IsSequence, in_turn, AreRulesOver, either, IsAtom, AreRules, too_deep, Reading, ◌>>=◌, next_is, symbol_at, name_at, one_of_at, listed_at, repeated_at, after_at, separated_at, within_at, open_atom_at, on_at, off_at, in_sequence, comparison_at, assignment_at, assignments_at, in_choice, pattern_at, positive_at, negative_at, in_braces_at, in_brackets_at, bracket_atom_at, item_at, begins_atom, sequence_at, rules_over_at, atom_at, rules_at, sum_at}
use Rattle.rbg_grammar.proofs.Patterns.{IsPattern, pattern, positive_is, negative_is}
use Rattle.rbg_grammar.proofs.Pieces.{Piece, Deep, Sample, Outcome, bind, seen_piece, seen_deep, pieces, first_deep, symbol_piece}
use Rattle.rbg_grammar.proofs.Readers.{symbol_read, one_of_read}
use Rattle.rbg_grammar.proofs.SharedOutcomes.{bind_same, map_outcome, seen_outcome, either_outcome, later, both_outcome, none_sample, symbol_never, name_never, name_piece, one_of_never, one_of_piece, no_bracket, name_outcome, names_outcome, repeated_outcome, after_outcome, separated_outcome, bracket_outcome}
use Rattle.rbg_grammar.proofs.SumOutcomes.{a_token, name_sum, sum_outcome}
use Rattle.rbg_grammar.proofs.Readers.{name_read}

relation_piece : (n : ℕ) {ts rest : List Lexeme} {x : Relation} → IsRelation ts x rest → Piece IsRelation n ts x rest
relation_piece = one_of_piece relation_of (no_bracket relation_of refl refl refl refl refl refl)

-- a sum and a relation, and a relation and a sum
data Half (Sum : List Lexeme → SpeltExpression → List Lexeme → Type 0) : List Lexeme → SpeltExpression × Relation → List Lexeme → Type 0 where
  half : {ts mid rest : List Lexeme} {e : SpeltExpression} {r : Relation} → Sum ts e mid → IsRelation mid r rest → Half Sum ts (e, r) rest

data Other (Sum : List Lexeme → SpeltExpression → List Lexeme → Type 0) : List Lexeme → Relation × SpeltExpression → List Lexeme → Type 0 where
  other : {ts mid rest : List Lexeme} {e : SpeltExpression} {r : Relation} → IsRelation ts r mid → Sum mid e rest → Other Sum ts (r, e) rest

half_first : (Sum : List Lexeme → SpeltExpression → List Lexeme → Type 0) (ts : List Lexeme) (x : SpeltExpression × Relation) (mid : List Lexeme) (e : SpeltExpression) (rest : List Lexeme)
    → Half Sum ts x mid → Sum mid e rest → IsComparison Sum ts (act (compare x.0 x.1 e)) rest
half_first Sum ts _ mid e rest (half d r) k = comparison d r k

half_last : (Sum : List Lexeme → SpeltExpression → List Lexeme → Type 0) (ts : List Lexeme) (e : SpeltExpression) (mid : List Lexeme) (x : Relation × SpeltExpression) (rest : List Lexeme)
    → Sum ts e mid → Other Sum mid x rest → IsComparison Sum ts (act (compare e x.0 x.1)) rest
half_last Sum ts e mid _ rest d (other r k) = comparison d r k

abbrev equals_token : Lexeme
equals_token = record { kind = kinds.Symbol DoubleEquals; text = []; at = 0 }

-- comparisons and assignments
module _ (Sum : List Lexeme → SpeltExpression → List Lexeme → Type 0) (n : ℕ) (sum' more : List Lexeme → Reading SpeltExpression) (reads : (ts : List Lexeme) → Outcome Sum n ts (sum' ts) (more ts))
    (named : (t : Lexeme) → t.kind ≡ kinds.Name → (tail : List Lexeme) → Sum (t ∷ tail) (SpeltExpression.name (record { text = t.text; at = t.at })) tail) where
  other_sample : Sample (Other Sum)
  other_sample = record {
    tokens = equals_token ∷ a_token ∷ [];
    value = (relations.Equal, SpeltExpression.name (record { text = a_token.text; at = a_token.at }));
    spells = λ tail. other (one_of refl) (named a_token refl tail);
  }

  comparison_outcome : (ts : List Lexeme) → Outcome (IsComparison Sum) n ts (comparison_at sum' ts) (comparison_at more ts)
  unfolding comparison_at
  comparison_outcome ts =
      bind Sum (IsComparison Sum) n ts ts (sum' ts) (more ts)
      (λ e. one_of_at relation_of e.1 >>= λ r. sum' r.1 >>= λ f. Ok (act (compare e.0 r.0 f.0), f.1)) (λ e. one_of_at relation_of e.1 >>= λ r. more r.1 >>= λ f. Ok (act (compare e.0 r.0 f.0), f.1)) (reads ts)
      (λ e p. bind_same (IsComparison Sum) n ts (one_of_at relation_of e.1) (λ r. sum' r.1 >>= λ f. Ok (act (compare e.0 r.0 f.0), f.1)) (λ r. more r.1 >>= λ f. Ok (act (compare e.0 r.0 f.0), f.1))
      (λ r mid k. later (Half Sum) Sum (IsComparison Sum) (λ (x : SpeltExpression × Relation) (f : SpeltExpression). act (compare x.0 x.1 f)) (half_first Sum) n ts (e.0, r) mid
      (pieces Sum IsRelation (Half Sum) (λ (x : SpeltExpression) (r : Relation). (x, r)) (λ ts x mid y rest d k. half d k) n ts e.0 e.1 r mid p (relation_piece n ((one_of_read relation_of).sound e.1 r mid k)))
      (sum' mid) (more mid) (reads mid))
      (one_of_never relation_of e.1))
      (λ at d. first_deep Sum (Other Sum) (IsComparison Sum) (λ (e : SpeltExpression) (x : Relation × SpeltExpression). act (compare e x.0 x.1)) (half_last Sum) n ts at d other_sample)

  assignment_outcome : (ts : List Lexeme) → Outcome (IsAssignment Sum) n ts (assignment_at sum' ts) (assignment_at more ts)
  unfolding assignment_at
  assignment_outcome ts =
      bind_same (IsAssignment Sum) n ts (name_at ts) (λ x. after_at Equals sum' x.1 >>= λ e. Ok (act (assign x.0 e.0), e.1)) (λ x. after_at Equals more x.1 >>= λ e. Ok (act (assign x.0 e.0), e.1))
      (λ x mid k. later IsName (After Equals Sum) (IsAssignment Sum) (λ (x : SpeltName) (e : SpeltExpression). act (assign x e)) (λ ts x mid e rest d k. assignment d k) n ts x mid
      (name_piece n (name_read.sound ts x mid k)) (after_at Equals sum' mid) (after_at Equals more mid) (after_outcome Sum n sum' more reads Equals refl refl mid))
      (name_never ts)

  assignments_from : {ts rest : List Lexeme} {rs : List SpeltRule} → Separated Comma (IsAssignment Sum) ts rs rest → AreAssignments Sum ts (in_sequence rs) rest
  assignments_from (separated d k) = assignments (separated d k)

  assignments_outcome : (ts : List Lexeme) → Outcome (AreAssignments Sum) n ts (assignments_at sum' ts) (assignments_at more ts)
  unfolding assignments_at
  assignments_outcome ts =
      map_outcome (Separated Comma (IsAssignment Sum)) (AreAssignments Sum) in_sequence n (λ ts x rest d. assignments_from d) ts
      (separated_at Comma (assignment_at sum') ts) (separated_at Comma (assignment_at more) ts)
      (separated_outcome (IsAssignment Sum) n (assignment_at sum') (assignment_at more) assignment_outcome Comma refl refl ts)

-- the atoms in brackets
module _ (Rules : List Lexeme → SpeltRule → List Lexeme → Type 0) (rules' more_rules' : List Lexeme → Reading SpeltRule) (n : ℕ) (rules_reads : (ts : List Lexeme) → Outcome Rules n ts (rules' ts) (more_rules' ts))
    (Sum : List Lexeme → SpeltExpression → List Lexeme → Type 0) (sum' more : List Lexeme → Reading SpeltExpression) (reads : (ts : List Lexeme) → Outcome Sum n ts (sum' ts) (more ts))
    (named : (t : Lexeme) → t.kind ≡ kinds.Name → (tail : List Lexeme) → Sum (t ∷ tail) (SpeltExpression.name (record { text = t.text; at = t.at })) tail) where
  group_outcome : (ts : List Lexeme) → Outcome (IsBracketAtom Rules Sum) (suc n) ts (within_at OpenParenthesis CloseParenthesis rules' ts) (within_at OpenParenthesis CloseParenthesis more_rules' ts)
  unfolding within_at
  group_outcome =
      bracket_outcome OpenParenthesis CloseParenthesis refl refl refl Rules (IsBracketAtom Rules Sum) (λ (at : ℕ) (r : SpeltRule). r)
      (λ ts at first x last end rest d e f. groups (within d e f)) n rules' more_rules' rules_reads

  -- a `$` and a phrase in brackets
  dollar_outcome : (o c : Symbol) → opens (kinds.Symbol o) ≡ true → opens (kinds.Symbol c) ≡ false → closes (kinds.Symbol c) ≡ true
      → (P : List Lexeme → SpeltRule → List Lexeme → Type 0) (read read' : List Lexeme → Reading SpeltRule) → ((ts : List Lexeme) → Outcome P n ts (read ts) (read' ts))
      → ((ts : List Lexeme) (x : SpeltRule) (rest : List Lexeme) → Within o c (After Dollar P) ts x rest → IsBracketAtom Rules Sum ts x rest)
      → (ts : List Lexeme) → Outcome (IsBracketAtom Rules Sum) (suc n) ts (within_at o c (after_at Dollar read) ts) (within_at o c (after_at Dollar read') ts)
  unfolding within_at
  dollar_outcome o c opening no_opening closing P read read' outcome see =
      bracket_outcome o c opening no_opening closing (After Dollar P) (IsBracketAtom Rules Sum) (λ (at : ℕ) (r : SpeltRule). r) (λ ts at first x last end rest d e f. see ts x rest (within d e f)) n
      (after_at Dollar read) (after_at Dollar read') (after_outcome P n read read' outcome Dollar refl refl)

  compare_outcome : (ts : List Lexeme) → Outcome (IsBracketAtom Rules Sum) (suc n) ts (within_at OpenBrace CloseBrace (after_at Dollar (comparison_at sum')) ts) (within_at OpenBrace CloseBrace (after_at Dollar (comparison_at more)) ts)
  compare_outcome = dollar_outcome OpenBrace CloseBrace refl refl refl (IsComparison Sum) (comparison_at sum') (comparison_at more) (comparison_outcome Sum n sum' more reads named) (λ ts x rest d. compares d)

  assign_outcome : (ts : List Lexeme) → Outcome (IsBracketAtom Rules Sum) (suc n) ts (within_at OpenBracket CloseBracket (after_at Dollar (assignments_at sum')) ts) (within_at OpenBracket CloseBracket (after_at Dollar (assignments_at more)) ts)
  assign_outcome = dollar_outcome OpenBracket CloseBracket refl refl refl (AreAssignments Sum) (assignments_at sum') (assignments_at more) (assignments_outcome Sum n sum' more reads named) (λ ts x rest d. assigns d)

  inside_outcome : (s : Symbol) → opens (kinds.Symbol s) ≡ false → closes (kinds.Symbol s) ≡ false → (ts : List Lexeme) → Outcome (After s Rules) n ts (after_at s rules' ts) (after_at s more_rules' ts)
  inside_outcome s no_opening no_closing = after_outcome Rules n rules' more_rules' rules_reads s no_opening no_closing

  pattern_outcome : (sign : Symbol) → opens (kinds.Symbol sign) ≡ false → closes (kinds.Symbol sign) ≡ false → (ts : List Lexeme)
      → Outcome (IsPattern sign Rules) (suc n) ts (pattern_at sign rules' ts) (pattern_at sign more_rules' ts)
  unfolding pattern_at
  pattern_outcome sign no_opening no_closing =
      bracket_outcome OpenBrace CloseBrace refl refl refl (After sign Rules) (IsPattern sign Rules) (λ (at : ℕ) (r : SpeltRule). (at, r))
      (λ ts at first x last end rest d e f. pattern d e f) n (after_at sign rules') (after_at sign more_rules') (inside_outcome sign no_opening no_closing)

  positive_outcome : (ts : List Lexeme) → Outcome (IsBracketAtom Rules Sum) (suc n) ts (positive_at rules' ts) (positive_at more_rules' ts)
  unfolding positive_at
  positive_outcome ts =
      map_outcome (IsPattern Question Rules) (IsBracketAtom Rules Sum) (λ (p : ℕ × SpeltRule). act (positive p.0 p.1)) (suc n) positive_is ts
      (pattern_at Question rules' ts) (pattern_at Question more_rules' ts) (pattern_outcome Question refl refl ts)

  negative_outcome : (ts : List Lexeme) → Outcome (IsBracketAtom Rules Sum) (suc n) ts (negative_at rules' ts) (negative_at more_rules' ts)
  unfolding negative_at
  negative_outcome ts =
      map_outcome (IsPattern Exclamation Rules) (IsBracketAtom Rules Sum) (λ (p : ℕ × SpeltRule). act (negative p.0 p.1)) (suc n) negative_is ts
      (pattern_at Exclamation rules' ts) (pattern_at Exclamation more_rules' ts) (pattern_outcome Exclamation refl refl ts)

  set_outcome : (ts : List Lexeme) → Outcome (Within OpenBrace CloseBrace (Listed IsName)) (suc n) ts (within_at OpenBrace CloseBrace (listed_at is_name_kind name_at) ts) (within_at OpenBrace CloseBrace (listed_at is_name_kind name_at) ts)
  unfolding within_at
  set_outcome =
      bracket_outcome OpenBrace CloseBrace refl refl refl (Listed IsName) (Within OpenBrace CloseBrace (Listed IsName)) (λ (at : ℕ) (ns : List SpeltName). ns)
      (λ ts at first x last end rest d e f. within d e f) n (listed_at is_name_kind name_at) (listed_at is_name_kind name_at) (names_outcome n)

  on_outcome : (ts : List Lexeme) → Outcome (IsBracketAtom Rules Sum) (suc n) ts (on_at ts) (on_at ts)
  unfolding on_at
  on_outcome ts =
      map_outcome (Within OpenBrace CloseBrace (Listed IsName)) (IsBracketAtom Rules Sum) (λ (ns : List SpeltName). act (SpeltAction.on ns)) (suc n) (λ ts x rest d. stands_on d) ts
      (within_at OpenBrace CloseBrace (listed_at is_name_kind name_at) ts) (within_at OpenBrace CloseBrace (listed_at is_name_kind name_at) ts) (set_outcome ts)

  piece_outcome : (ts : List Lexeme) → Outcome (Within OpenBracket CloseBracket IsName) (suc n) ts (within_at OpenBracket CloseBracket name_at ts) (within_at OpenBracket CloseBracket name_at ts)
  unfolding within_at
  piece_outcome =
      bracket_outcome OpenBracket CloseBracket refl refl refl IsName (Within OpenBracket CloseBracket IsName) (λ (at : ℕ) (x : SpeltName). x)
      (λ ts at first x last end rest d e f. within d e f) n name_at name_at (name_outcome n)

  off_outcome : (ts : List Lexeme) → Outcome (IsBracketAtom Rules Sum) (suc n) ts (off_at ts) (off_at ts)
  unfolding off_at
  off_outcome ts =
      map_outcome (Within OpenBracket CloseBracket IsName) (IsBracketAtom Rules Sum) (λ (x : SpeltName). act (SpeltAction.off x)) (suc n) (λ ts x rest d. puts d) ts
      (within_at OpenBracket CloseBracket name_at ts) (within_at OpenBracket CloseBracket name_at ts) (piece_outcome ts)

  braces_outcome : (ts : List Lexeme) → Outcome (IsBracketAtom Rules Sum) (suc n) ts (in_braces_at rules' sum' ts) (in_braces_at more_rules' more ts)
  unfolding in_braces_at
  braces_outcome ts = go (next_is (is_symbol Dollar) (drop 1 ts)) (next_is (is_symbol Question) (drop 1 ts)) (next_is (is_symbol Exclamation) (drop 1 ts))
    where
      go : (b c d : Bool) → Outcome (IsBracketAtom Rules Sum) (suc n) ts
          (cond {A = Reading SpeltRule} b (within_at OpenBrace CloseBrace (after_at Dollar (comparison_at sum')) ts) (cond c (positive_at rules' ts) (cond d (negative_at rules' ts) (on_at ts))))
          (cond {A = Reading SpeltRule} b (within_at OpenBrace CloseBrace (after_at Dollar (comparison_at more)) ts) (cond c (positive_at more_rules' ts) (cond d (negative_at more_rules' ts) (on_at ts))))
      go true c d = compare_outcome ts
      go false true d = positive_outcome ts
      go false false true = negative_outcome ts
      go false false false = on_outcome ts

  brackets_outcome : (ts : List Lexeme) → Outcome (IsBracketAtom Rules Sum) (suc n) ts (in_brackets_at sum' ts) (in_brackets_at more ts)
  unfolding in_brackets_at
  brackets_outcome ts = go (next_is (is_symbol Dollar) (drop 1 ts))
    where
      go : (b : Bool) → Outcome (IsBracketAtom Rules Sum) (suc n) ts
          (cond {A = Reading SpeltRule} b (within_at OpenBracket CloseBracket (after_at Dollar (assignments_at sum')) ts) (off_at ts))
          (cond {A = Reading SpeltRule} b (within_at OpenBracket CloseBracket (after_at Dollar (assignments_at more)) ts) (off_at ts))
      go true = assign_outcome ts
      go false = off_outcome ts

  bracket_atom_outcome : (ts : List Lexeme) → Outcome (IsBracketAtom Rules Sum) (suc n) ts (bracket_atom_at rules' sum' ts) (bracket_atom_at more_rules' more ts)
  unfolding bracket_atom_at
  bracket_atom_outcome ts = go (next_is (is_symbol OpenParenthesis) ts) (next_is (is_symbol OpenBrace) ts)
    where
      go : (b c : Bool) → Outcome (IsBracketAtom Rules Sum) (suc n) ts
          (cond {A = Reading SpeltRule} b (within_at OpenParenthesis CloseParenthesis rules' ts) (cond c (in_braces_at rules' sum' ts) (in_brackets_at sum' ts)))
          (cond {A = Reading SpeltRule} b (within_at OpenParenthesis CloseParenthesis more_rules' ts) (cond c (in_braces_at more_rules' more ts) (in_brackets_at more ts)))
      go true c = group_outcome ts
      go false true = braces_outcome ts
      go false false = brackets_outcome ts

-- atoms without a bracket
open_atom_outcome : (n : ℕ) (ts : List Lexeme) → Outcome IsOpenAtom n ts (open_atom_at ts) (open_atom_at ts)
unfolding open_atom_at
open_atom_outcome n ts = go (next_is is_name_kind ts) (next_is (is_symbol Arrow) ts)
  where
    go : (b c : Bool) → Outcome IsOpenAtom n ts
        (cond {A = Reading SpeltRule} b (name_at ts >>= λ x. Ok (act (shift x.0), x.1))
        (cond c (symbol_at Arrow ts >>= λ at. name_at at.1 >>= λ x. Ok (act (switch at.0 (Some x.0)), x.1)) (symbol_at DoubleArrow ts >>= λ at. Ok (act (switch at.0 None), at.1))))
        (cond {A = Reading SpeltRule} b (name_at ts >>= λ x. Ok (act (shift x.0), x.1))
        (cond c (symbol_at Arrow ts >>= λ at. name_at at.1 >>= λ x. Ok (act (switch at.0 (Some x.0)), x.1)) (symbol_at DoubleArrow ts >>= λ at. Ok (act (switch at.0 None), at.1))))
    go true c = map_outcome IsName IsOpenAtom (λ (x : SpeltName). act (shift x)) n (λ ts x rest d. moves d) ts (name_at ts) (name_at ts) (name_outcome n ts)
    go false true =
        bind_same IsOpenAtom n ts (symbol_at Arrow ts) (λ at. name_at at.1 >>= λ x. Ok (act (switch at.0 (Some x.0)), x.1)) (λ at. name_at at.1 >>= λ x. Ok (act (switch at.0 (Some x.0)), x.1))
        (λ at mid e. later (IsSymbol Arrow) IsName IsOpenAtom (λ (at : ℕ) (x : SpeltName). act (switch at (Some x))) (λ ts x mid y rest d k. switches d k) n ts at mid
        (symbol_piece n refl refl ((symbol_read Arrow).sound ts at mid e)) (name_at mid) (name_at mid) (name_outcome n mid))
        (symbol_never Arrow ts)
    go false false =
        bind_same IsOpenAtom n ts (symbol_at DoubleArrow ts) (λ at. Ok (act (switch at.0 None), at.1)) (λ at. Ok (act (switch at.0 None), at.1))
        (λ at rest e. (refl, seen_piece (IsSymbol DoubleArrow) IsOpenAtom (λ (at : ℕ). act (switch at None)) n (λ ts x rest d. keeps d) ts at rest (symbol_piece n refl refl ((symbol_read DoubleArrow).sound ts at rest e))))
        (symbol_never DoubleArrow ts)

-- items, sequences and sums of atoms
module _ (Atom : List Lexeme → SpeltRule → List Lexeme → Type 0) (n : ℕ) (atom more : List Lexeme → Reading SpeltRule) (reads : (ts : List Lexeme) → Outcome Atom n ts (atom ts) (more ts)) where
  item_outcome : (ts : List Lexeme) → Outcome (IsItem Atom) n ts (item_at atom ts) (item_at more ts)
  unfolding item_at
  item_outcome ts =
      bind Atom (IsItem Atom) n ts ts (atom ts) (more ts) (λ q. cond {A = Reading SpeltRule} (next_is (is_symbol Star) q.1) (symbol_at Star q.1 >>= λ at. Ok (star q.0, at.1)) (Ok q))
      (λ q. cond {A = Reading SpeltRule} (next_is (is_symbol Star) q.1) (symbol_at Star q.1 >>= λ at. Ok (star q.0, at.1)) (Ok q)) (reads ts)
      (λ q p. go q.0 q.1 p (next_is (is_symbol Star) q.1)) (λ at d. seen_deep Atom (IsItem Atom) (λ (r : SpeltRule). r) n at (λ ts x rest d. once d) ts d)
    where
      go : (r : SpeltRule) (mid : List Lexeme) → Piece Atom n ts r mid → (b : Bool) → Outcome (IsItem Atom) n ts
          (cond {A = Reading SpeltRule} b (symbol_at Star mid >>= λ at. Ok (star r, at.1)) (Ok (r, mid))) (cond {A = Reading SpeltRule} b (symbol_at Star mid >>= λ at. Ok (star r, at.1)) (Ok (r, mid)))
      go r mid p true =
          bind_same (IsItem Atom) n ts (symbol_at Star mid) (λ at. Ok (star r, at.1)) (λ at. Ok (star r, at.1))
          (λ at rest e. (refl, pieces Atom (IsSymbol Star) (IsItem Atom) (λ (r : SpeltRule) (at : ℕ). star r) (λ ts x mid y rest d k. starred d k) n ts r mid at rest p (symbol_piece n refl refl ((symbol_read Star).sound mid at rest e))))
          (symbol_never Star mid)
      go r mid p false = (refl, seen_piece Atom (IsItem Atom) (λ (r : SpeltRule). r) n (λ ts x rest d. once d) ts r mid p)

  sequence_outcome : (ts : List Lexeme) → Outcome (IsSequence Atom) n ts (sequence_at atom ts) (sequence_at more ts)
  unfolding sequence_at
  sequence_outcome ts =
      both_outcome (IsItem Atom) (Repeated (IsItem Atom)) (IsSequence Atom) sequence_of (λ ts x mid y rest d k. in_turn d k) n (none_sample (IsItem Atom)) ts (item_at atom ts) (item_at more ts)
      (repeated_at begins_atom (item_at atom)) (repeated_at begins_atom (item_at more)) (item_outcome ts) (repeated_outcome (IsItem Atom) n (item_at atom) (item_at more) item_outcome begins_atom)

  rules_from : {ts rest : List Lexeme} {rs : List SpeltRule} → Separated Plus (IsSequence Atom) ts rs rest → AreRulesOver Atom ts (in_choice rs) rest
  rules_from (separated d k) = either (separated d k)

  rules_over_outcome : (ts : List Lexeme) → Outcome (AreRulesOver Atom) n ts (rules_over_at atom ts) (rules_over_at more ts)
  unfolding rules_over_at
  rules_over_outcome ts =
      map_outcome (Separated Plus (IsSequence Atom)) (AreRulesOver Atom) in_choice n (λ ts x rest d. rules_from d) ts (separated_at Plus (sequence_at atom) ts) (separated_at Plus (sequence_at more) ts)
      (separated_outcome (IsSequence Atom) n (sequence_at atom) (sequence_at more) sequence_outcome Plus refl refl ts)

-- the first bracket that is one too many, by its kind
abbrev mark : Symbol → Lexeme
mark s = record { kind = kinds.Symbol s; text = []; at = 0 }

name_rule : (t : Lexeme) → t.kind ≡ kinds.Name → (tail : List Lexeme) → AreRules 0 (t ∷ tail) (act (shift (record { text = t.text; at = t.at }))) tail
name_rule t k tail = either (separated (in_turn (once (moves (name k))) done) done)

parenthesis_spells : (t a c : Lexeme) → t.kind ≡ kinds.Symbol OpenParenthesis → a.kind ≡ kinds.Name → c.kind ≡ kinds.Symbol CloseParenthesis → (tail : List Lexeme)
    → IsAtom 1 (t ∷ a ∷ c ∷ tail) (act (shift (record { text = a.text; at = a.at }))) tail
parenthesis_spells t a c k named l tail = inr (groups (within (symbol k) (name_rule a named (c ∷ tail)) (symbol l)))

bracket_spells : (t a c : Lexeme) → t.kind ≡ kinds.Symbol OpenBracket → a.kind ≡ kinds.Name → c.kind ≡ kinds.Symbol CloseBracket → (tail : List Lexeme)
    → IsAtom 1 (t ∷ a ∷ c ∷ tail) (act (SpeltAction.off (record { text = a.text; at = a.at }))) tail
bracket_spells t a c k named l tail = inr (puts (within (symbol k) (name named) (symbol l)))

brace_spells : (t c : Lexeme) → t.kind ≡ kinds.Symbol OpenBrace → c.kind ≡ kinds.Symbol CloseBrace → (tail : List Lexeme) → IsAtom 1 (t ∷ c ∷ tail) (act (SpeltAction.on [])) tail
brace_spells t c k l tail = inr (stands_on (within (symbol k) nothing (symbol l)))

deep_atom : (t : Lexeme) (ts other' : List Lexeme) (value' : SpeltRule) → opens t.kind ≡ true → ((tail : List Lexeme) → IsAtom 1 (t ∷ (other' ++ tail)) value' tail) → Deep (IsAtom 1) 0 t.at (t ∷ ts)
deep_atom t ts other' value' is spells' = record {
  before = [];
  bracket = t;
  beyond = ts;
  other = other';
  value = value';
  whole = refl;
  place = refl;
  is_bracket = is;
  depth = λ j. omega arith;
  fits = λ j. tt;
  spells = spells';
}

deep_at : (t : Lexeme) (ts : List Lexeme) (k : TokenKind) → t.kind ≡ k → opens k ≡ true → Deep (IsAtom 1) 0 t.at (t ∷ ts)
deep_at t ts kinds.Name k e = cc
deep_at t ts kinds.Number k e = cc
deep_at t ts (kinds.Symbol OpenParenthesis) k e = deep_atom t ts (a_token ∷ mark CloseParenthesis ∷ []) _ (ap opens k) (parenthesis_spells t a_token (mark CloseParenthesis) k refl refl)
deep_at t ts (kinds.Symbol OpenBracket) k e = deep_atom t ts (a_token ∷ mark CloseBracket ∷ []) _ (ap opens k) (bracket_spells t a_token (mark CloseBracket) k refl refl)
deep_at t ts (kinds.Symbol OpenBrace) k e = deep_atom t ts (mark CloseBrace ∷ []) _ (ap opens k) (brace_spells t (mark CloseBrace) k refl)
deep_at t ts (kinds.Symbol _) k e = cc

-- by how many brackets may be open at once
none_outcome : (ts : List Lexeme) → Outcome (IsAtom 1) 0 ts (atom_at 0 ts) (atom_at 1 ts)
unfolding atom_at
none_outcome [] = seen_outcome IsOpenAtom (IsAtom 1) 0 (λ ts x rest d. inl d) [] (open_atom_at []) (open_atom_at []) (open_atom_outcome 0 [])
none_outcome (t ∷ ts) = go (opens t.kind) refl
  where
    go : (b : Bool) → opens t.kind ≡ b → Outcome (IsAtom 1) 0 (t ∷ ts)
        (cond {A = Reading SpeltRule} b (Err (too_deep t.at)) (open_atom_at (t ∷ ts))) (cond {A = Reading SpeltRule} b (bracket_atom_at (rules_over_at (atom_at 0)) (sum_at 0) (t ∷ ts)) (open_atom_at (t ∷ ts)))
    go true e = deep_at t ts t.kind refl e
    go false e = seen_outcome IsOpenAtom (IsAtom 1) 0 (λ ts x rest d. inl d) (t ∷ ts) (open_atom_at (t ∷ ts)) (open_atom_at (t ∷ ts)) (open_atom_outcome 0 (t ∷ ts))

module _ (n : ℕ) (reads : (ts : List Lexeme) → Outcome (IsAtom (suc n)) n ts (atom_at n ts) (atom_at (suc n) ts)) where
  inner_outcome : (ts : List Lexeme) → Outcome (IsBracketAtom (AreRules (suc n)) (IsSum (suc n))) (suc n) ts
      (bracket_atom_at (rules_over_at (atom_at n)) (sum_at n) ts) (bracket_atom_at (rules_over_at (atom_at (suc n))) (sum_at (suc n)) ts)
  inner_outcome =
      bracket_atom_outcome (AreRules (suc n)) (rules_over_at (atom_at n)) (rules_over_at (atom_at (suc n))) n (rules_over_outcome (IsAtom (suc n)) n (atom_at n) (atom_at (suc n)) reads)
      (IsSum (suc n)) (sum_at n) (sum_at (suc n)) (sum_outcome n) (name_sum (suc n))

atom_outcome : (n : ℕ) (ts : List Lexeme) → Outcome (IsAtom (suc n)) n ts (atom_at n ts) (atom_at (suc n) ts)
unfolding atom_at
atom_outcome zero ts = none_outcome ts
atom_outcome (suc n) ts =
    either_outcome (IsBracketAtom (AreRules (suc n)) (IsSum (suc n))) IsOpenAtom (IsAtom (suc (suc n))) (suc n) (λ ts x rest d. inr d) (λ ts x rest d. inl d) ts (next_is opens ts)
    (bracket_atom_at (rules_over_at (atom_at n)) (sum_at n) ts) (bracket_atom_at (rules_over_at (atom_at (suc n))) (sum_at (suc n)) ts) (open_atom_at ts) (open_atom_at ts)
    (inner_outcome n (atom_outcome n) ts) (open_atom_outcome (suc n) ts)

pub rules_outcome : (n : ℕ) (ts : List Lexeme) → Outcome (AreRules (suc n)) n ts (rules_at n ts) (rules_at (suc n) ts)
unfolding rules_at
rules_outcome n = rules_over_outcome (IsAtom (suc n)) n (atom_at n) (atom_at (suc n)) (atom_outcome n)
