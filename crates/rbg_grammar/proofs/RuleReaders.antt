-- The readers of rules.
use Rattle.std.proofs.Common.{◌≡◌, ◌≤◌, ◌+◌, ℕ, zero, suc, List, [], ◌∷◌, length, drop, Bool, true, false, cond, Ok, refl, ◌∙◌, subst, arith, inl, inr}
use Rattle.rbg_macro.proofs.TextCommon.{Lexeme, opens, is_name_kind, is_symbol}
use Rattle.rbg_macro.specs.declared.token.Symbol.{Symbol}
use Rattle.rbg_macro.specs.declared.token.Symbol.TheVariants.{Equals, Plus, Minus, Star, Slash, OpenParenthesis, CloseParenthesis, OpenBracket, CloseBracket, OpenBrace, CloseBrace, Comma, Dollar, Question, Exclamation}
use Rattle.rbg_macro.specs.declared.token.TokenKind.{TokenKind}
use Rattle.rbg_macro.specs.declared.token.TokenKind.TheVariants as kinds
use Rattle.rbg_base.specs.declared.relation.Relation.{Relation}
use Rattle.rbg_grammar.proofs.Common.{Rank, SpeltName, SpeltExpression, SpeltRule, SpeltAction, act, assign, positive, negative, star, sequence_of, IsSymbol, symbol, IsName, Repeated, After, Separated, separated, Listed, nothing, listed, Within, within, relation_of, IsRelation, IsSum, IsOpenAtom, IsComparison, comparison, IsAssignment, assignment, AreAssignments, assignments, IsBracketAtom, groups, stands_on, puts, compares, assigns, holds, fails, IsItem, once, starred, IsSequence, in_turn, AreRulesOver, either, IsAtom, AreRules, Reading, ◌>>=◌, next_is, is_in, symbol_at, name_at, listed_at, repeated_at, after_at, separated_at, within_at, open_atom_at, on_at, off_at, in_sequence, too_deep_at, is_operator, comparison_at, assignment_at, assignments_at, in_choice, pattern_at, positive_at, negative_at, in_braces_at, in_brackets_at, bracket_atom_at, item_at, begins_atom, sequence_at, rules_over_at, atom_at, rules_at, sum_at}
use Rattle.rbg_grammar.specs.declared.expression.Rank.TheVariants as ranks
use Rattle.rbg_grammar.proofs.Readers.{bind_ok, ok_one, IsReadBy, Always, symbol_read, symbol_next, name_read, one_of_complete, one_of_read, one_of_test, next_test-symbol}
use Rattle.rbg_grammar.proofs.Combinators.{FirstThen, first_then, Made, made, made_read, both_read, repeated_read, Begins, Stops, after_read, within_read, separated_read, may_follow}
use Rattle.rbg_grammar.proofs.Patterns.{IsPattern, pattern, positive_is, negative_is}
use Rattle.rbg_grammar.proofs.SectionReaders.{piece_read}
use Rattle.rbg_grammar.proofs.SumReaders.{symbol_test, name_test, after_test, within_test, after_here, within_here, EndsSum, ends_sum, symbol_ends_sum, sum_read}
use Rattle.rbg_grammar.proofs.AtomReaders.{open_atom_read, open_atom_begins, set_read}

-- the second token
second_test : {s : Symbol} {ts rest : List Lexeme} {at : ℕ} → IsSymbol s ts at rest → (test : TokenKind → Bool) → next_is test (drop 1 ts) ≡ next_is test rest
second_test (symbol k) test = refl

-- relations
relation-no_operator : (rank : Rank) (k : TokenKind) → is_in relation_of k ≡ true → is_operator rank k ≡ false
relation-no_operator rank kinds.Name e = cc
relation-no_operator rank kinds.Number e = cc
relation-no_operator ranks.Sum (kinds.Symbol Plus) e = cc
relation-no_operator ranks.Sum (kinds.Symbol Minus) e = cc
relation-no_operator ranks.Sum (kinds.Symbol _) e = refl
relation-no_operator ranks.Product (kinds.Symbol Star) e = cc
relation-no_operator ranks.Product (kinds.Symbol Slash) e = cc
relation-no_operator ranks.Product (kinds.Symbol _) e = refl

relation_ends_sum : {ts rest : List Lexeme} {x : Relation} → IsRelation ts x rest → EndsSum ts
relation_ends_sum {ts} d =
    ends_sum ts (one_of_test relation_of (is_operator ranks.Sum) false (relation-no_operator ranks.Sum) d) (one_of_test relation_of (is_operator ranks.Product) false (relation-no_operator ranks.Product) d)

symbol_shorter : {s : Symbol} {ts rest : List Lexeme} {at : ℕ} → IsSymbol s ts at rest → 1 + length rest ≤ length ts
symbol_shorter (symbol k) = omega arith

-- comparisons and assignments
module _ (Sum : List Lexeme → SpeltExpression → List Lexeme → Type 0) (sum : List Lexeme → Reading SpeltExpression) (reads : IsReadBy 1 Sum EndsSum sum) where
  comparison_sound : (ts : List Lexeme) (x : SpeltRule) (rest : List Lexeme) → comparison_at sum ts ≡ Ok (x, rest) → IsComparison Sum ts x rest
  unfolding comparison_at
  comparison_sound ts x rest e =
      let (f, first, further) = bind_ok _ _ _ e in
      let (r, middle, further) = bind_ok _ _ _ further in
      let (g, last, given) = bind_ok _ _ _ further in
      subst (λ (q : SpeltRule × List Lexeme). IsComparison Sum ts q.0 q.1) (ok_one _ (x, rest) given)
      (comparison (reads.sound ts f.0 f.1 first) ((one_of_read relation_of).sound f.1 r.0 r.1 middle) (reads.sound r.1 g.0 g.1 last))

  comparison_complete : {ts rest : List Lexeme} {x : SpeltRule} → IsComparison Sum ts x rest → EndsSum rest → comparison_at sum ts ≡ Ok (x, rest)
  unfolding comparison_at
  comparison_complete {ts} {rest} (comparison {t1 = t1} {t2 = t2} {e = e} {f = f} {r = r} d relation k) stop =
      rw (reads.complete ts e t1 d (relation_ends_sum relation), one_of_complete relation_of relation, reads.complete t2 f rest k stop)

  comparison_shorter : {ts rest : List Lexeme} {x : SpeltRule} → IsComparison Sum ts x rest → 1 + length rest ≤ length ts
  comparison_shorter {ts} {rest} (comparison {t1 = t1} {t2 = t2} {e = e} {f = f} {r = r} d relation k) =
      omega (arith, reads.shorter ts e t1 d, (one_of_read relation_of).shorter t1 r t2 relation, reads.shorter t2 f rest k)

  pub comparison_read : IsReadBy 1 (IsComparison Sum) EndsSum (comparison_at sum)
  comparison_read = record { sound = comparison_sound; complete = λ ts x rest d stop. comparison_complete d stop; shorter = λ ts x rest d. comparison_shorter d }

  value_read : IsReadBy 1 (After Equals Sum) EndsSum (after_at Equals sum)
  value_read = after_read 1 Sum EndsSum sum reads Equals

  assignment_parts : (ts : List Lexeme) (x : SpeltRule) (rest : List Lexeme) → IsAssignment Sum ts x rest → FirstThen IsName (After Equals Sum) (λ (n : SpeltName) (e : SpeltExpression). act (assign n e)) ts x rest
  assignment_parts ts _ rest (assignment d e) = first_then d e

  pub assignment_read : IsReadBy 1 (IsAssignment Sum) EndsSum (assignment_at sum)
  unfolding assignment_at
  assignment_read =
      both_read IsName Always name_at name_read 1 (After Equals Sum) EndsSum (after_at Equals sum) value_read (λ mid e rest d stop. tt)
      (IsAssignment Sum) (λ (n : SpeltName) (e : SpeltExpression). act (assign n e)) (λ ts x mid y rest d e. assignment d e) assignment_parts

  pub assignment_list_read : IsReadBy 1 (Separated Comma (IsAssignment Sum)) (Stops EndsSum (is_symbol Comma)) (separated_at Comma (assignment_at sum))
  assignment_list_read = separated_read (IsAssignment Sum) EndsSum (assignment_at sum) assignment_read Comma (symbol_ends_sum Comma refl refl)

  assignments_made : (ts : List Lexeme) (rs : List SpeltRule) (rest : List Lexeme) → Separated Comma (IsAssignment Sum) ts rs rest → AreAssignments Sum ts (in_sequence rs) rest
  assignments_made ts _ rest (separated d more) = assignments (separated d more)

  assignments_part : (ts : List Lexeme) (x : SpeltRule) (rest : List Lexeme) → AreAssignments Sum ts x rest → Made (Separated Comma (IsAssignment Sum)) in_sequence ts x rest
  assignments_part ts _ rest (assignments d) = made d

  pub assignments_read : IsReadBy 1 (AreAssignments Sum) (Stops EndsSum (is_symbol Comma)) (assignments_at sum)
  unfolding assignments_at
  assignments_read =
      made_read 1 (Separated Comma (IsAssignment Sum)) (Stops EndsSum (is_symbol Comma)) (separated_at Comma (assignment_at sum)) assignment_list_read (AreAssignments Sum) in_sequence
      assignments_made assignments_part

-- what may follow an item, a sequence and rules
abbrev pub EndsItem : List Lexeme → Type 0
EndsItem rest = next_is (is_symbol Star) rest ≡ false

abbrev pub EndsSequence : List Lexeme → Type 0
EndsSequence rest = Stops EndsItem begins_atom rest

abbrev pub EndsRules : List Lexeme → Type 0
EndsRules rest = Stops EndsSequence (is_symbol Plus) rest

closing_ends_rules : (c : Symbol) → is_symbol Plus (kinds.Symbol c) ≡ false → begins_atom (kinds.Symbol c) ≡ false → is_symbol Star (kinds.Symbol c) ≡ false
    → (ts : List Lexeme) → next_is (is_symbol c) ts ≡ true → EndsRules ts
closing_ends_rules c no_plus no_atom no_star ts e = record {
  ends = next_test-symbol c (is_symbol Plus) ts e ∙ no_plus;
  follows = record { ends = next_test-symbol c begins_atom ts e ∙ no_atom; follows = next_test-symbol c (is_symbol Star) ts e ∙ no_star };
}

comma_and_sum : (c : Symbol) → is_symbol Comma (kinds.Symbol c) ≡ false → is_operator ranks.Sum (kinds.Symbol c) ≡ false → is_operator ranks.Product (kinds.Symbol c) ≡ false
    → (ts : List Lexeme) → next_is (is_symbol c) ts ≡ true → Stops EndsSum (is_symbol Comma) ts
comma_and_sum c no_comma no_sum no_product ts e = record { ends = next_test-symbol c (is_symbol Comma) ts e ∙ no_comma; follows = symbol_ends_sum c no_sum no_product ts e }

-- the first token in the braces of an on is a name or the closing brace
set_second : {ts rest : List Lexeme} {ns : List SpeltName} → Within OpenBrace CloseBrace (Listed IsName) ts ns rest → (test : TokenKind → Bool) → test kinds.Name ≡ false → test (kinds.Symbol CloseBrace) ≡ false → next_is test (drop 1 ts) ≡ false
set_second (within opening (nothing) closing) test no_name no_brace = second_test opening test ∙ symbol_test closing test ∙ no_brace
set_second (within opening (listed (separated n more)) closing) test no_name no_brace = second_test opening test ∙ name_test n test ∙ no_name

name_second : {o c : Symbol} {ts rest : List Lexeme} {n : SpeltName} → Within o c IsName ts n rest → (test : TokenKind → Bool) → next_is test (drop 1 ts) ≡ test kinds.Name
name_second (within opening n closing) test = second_test opening test ∙ name_test n test

after_second : {A : Type 0} {o c s : Symbol} {P : List Lexeme → A → List Lexeme → Type 0} {ts rest : List Lexeme} {x : A} → Within o c (After s P) ts x rest → (test : TokenKind → Bool) → next_is test (drop 1 ts) ≡ test (kinds.Symbol s)
after_second (within opening d closing) test = second_test opening test ∙ after_test d test

after_second_here : {A : Type 0} {o c s : Symbol} {P : List Lexeme → A → List Lexeme → Type 0} {ts rest : List Lexeme} {x : A} → Within o c (After s P) ts x rest → next_is (is_symbol s) (drop 1 ts) ≡ true
after_second_here {s = s} (within opening d closing) = second_test opening (is_symbol s) ∙ after_here d

-- an opening bracket begins an atom
opens_begins_kind : (k : TokenKind) → opens k ≡ true → begins_atom k ≡ true
opens_begins_kind (kinds.Symbol OpenParenthesis) e = refl
opens_begins_kind (kinds.Symbol OpenBracket) e = refl
opens_begins_kind (kinds.Symbol OpenBrace) e = refl
opens_begins_kind _ e = cc

opens_begins : (ts : List Lexeme) → next_is opens ts ≡ true → next_is begins_atom ts ≡ true
opens_begins [] e = cc
opens_begins (t ∷ ts) e = opens_begins_kind t.kind e

-- the atoms in brackets
module _ (Rules : List Lexeme → SpeltRule → List Lexeme → Type 0) (rules' : List Lexeme → Reading SpeltRule) (rules_read : IsReadBy 1 Rules EndsRules rules')
    (Sum : List Lexeme → SpeltExpression → List Lexeme → Type 0) (sum : List Lexeme → Reading SpeltExpression) (reads : IsReadBy 1 Sum EndsSum sum) where
  group_read : IsReadBy 1 (Within OpenParenthesis CloseParenthesis Rules) Always (within_at OpenParenthesis CloseParenthesis rules')
  group_read = within_read 1 Rules EndsRules rules' rules_read OpenParenthesis CloseParenthesis (closing_ends_rules CloseParenthesis refl refl refl)

  compared_read : IsReadBy 1 (After Dollar (IsComparison Sum)) EndsSum (after_at Dollar (comparison_at sum))
  compared_read = after_read 1 (IsComparison Sum) EndsSum (comparison_at sum) (comparison_read Sum sum reads) Dollar

  comparison_atom_read : IsReadBy 1 (Within OpenBrace CloseBrace (After Dollar (IsComparison Sum))) Always (within_at OpenBrace CloseBrace (after_at Dollar (comparison_at sum)))
  comparison_atom_read = within_read 1 (After Dollar (IsComparison Sum)) EndsSum (after_at Dollar (comparison_at sum)) compared_read OpenBrace CloseBrace (symbol_ends_sum CloseBrace refl refl)

  assigned_read : IsReadBy 1 (After Dollar (AreAssignments Sum)) (Stops EndsSum (is_symbol Comma)) (after_at Dollar (assignments_at sum))
  assigned_read = after_read 1 (AreAssignments Sum) (Stops EndsSum (is_symbol Comma)) (assignments_at sum) (assignments_read Sum sum reads) Dollar

  assignment_atom_read : IsReadBy 1 (Within OpenBracket CloseBracket (After Dollar (AreAssignments Sum))) Always (within_at OpenBracket CloseBracket (after_at Dollar (assignments_at sum)))
  assignment_atom_read = within_read 1 (After Dollar (AreAssignments Sum)) (Stops EndsSum (is_symbol Comma)) (after_at Dollar (assignments_at sum)) assigned_read OpenBracket CloseBracket (comma_and_sum CloseBracket refl refl refl)

  inside_read : (s : Symbol) → IsReadBy 1 (After s Rules) EndsRules (after_at s rules')
  inside_read s = after_read 1 Rules EndsRules rules' rules_read s

  pattern_sound : (sign : Symbol) (ts : List Lexeme) (p : ℕ × SpeltRule) (rest : List Lexeme) → pattern_at sign rules' ts ≡ Ok (p, rest) → IsPattern sign Rules ts p rest
  unfolding pattern_at
  pattern_sound sign ts p rest e =
      let (at, opening, further) = bind_ok _ _ _ e in
      let (r, inside, further) = bind_ok _ _ _ further in
      let (end, closing, given) = bind_ok _ _ _ further in
      subst (λ (q : (ℕ × SpeltRule) × List Lexeme). IsPattern sign Rules ts q.0 q.1) (ok_one _ (p, rest) given)
      (pattern ((symbol_read OpenBrace).sound ts at.0 at.1 opening) ((inside_read sign).sound at.1 r.0 r.1 inside) ((symbol_read CloseBrace).sound r.1 end.0 end.1 closing))

  -- an atom that is made of another phrase
  atom_sound_of : {A : Type 0} (P : List Lexeme → A → List Lexeme → Type 0) (f : A → SpeltRule) (read : List Lexeme → Reading A)
      → ((ts : List Lexeme) (y : A) (rest : List Lexeme) → read ts ≡ Ok (y, rest) → P ts y rest) → ((ts : List Lexeme) (y : A) (rest : List Lexeme) → P ts y rest → IsBracketAtom Rules Sum ts (f y) rest)
      → (ts : List Lexeme) (x : SpeltRule) (rest : List Lexeme) → ◌≡◌ {A = Reading SpeltRule} (read ts >>= λ y. Ok (f y.0, y.1)) (Ok (x, rest)) → IsBracketAtom Rules Sum ts x rest
  atom_sound_of {A} P f read sound see ts x rest e =
      let (y, all, given) = bind_ok (read ts) (λ (y : A × List Lexeme). Ok (f y.0, y.1)) (x, rest) e in
      subst (λ (q : SpeltRule × List Lexeme). IsBracketAtom Rules Sum ts q.0 q.1) (ok_one (f y.0, y.1) (x, rest) given) (see ts y.0 y.1 (sound ts y.0 y.1 all))

  positive_sound : (ts : List Lexeme) (x : SpeltRule) (rest : List Lexeme) → positive_at rules' ts ≡ Ok (x, rest) → IsBracketAtom Rules Sum ts x rest
  unfolding positive_at
  positive_sound = atom_sound_of (IsPattern Question Rules) (λ p. act (positive p.0 p.1)) (pattern_at Question rules') (pattern_sound Question) positive_is

  negative_sound : (ts : List Lexeme) (x : SpeltRule) (rest : List Lexeme) → negative_at rules' ts ≡ Ok (x, rest) → IsBracketAtom Rules Sum ts x rest
  unfolding negative_at
  negative_sound = atom_sound_of (IsPattern Exclamation Rules) (λ p. act (negative p.0 p.1)) (pattern_at Exclamation rules') (pattern_sound Exclamation) negative_is

  on_sound : (ts : List Lexeme) (x : SpeltRule) (rest : List Lexeme) → on_at ts ≡ Ok (x, rest) → IsBracketAtom Rules Sum ts x rest
  unfolding on_at
  on_sound = atom_sound_of (Within OpenBrace CloseBrace (Listed IsName)) (λ ns. act (SpeltAction.on ns)) (within_at OpenBrace CloseBrace (listed_at is_name_kind name_at)) set_read.sound (λ ts ns rest d. stands_on d)

  off_sound : (ts : List Lexeme) (x : SpeltRule) (rest : List Lexeme) → off_at ts ≡ Ok (x, rest) → IsBracketAtom Rules Sum ts x rest
  unfolding off_at
  off_sound = atom_sound_of (Within OpenBracket CloseBracket IsName) (λ n. act (SpeltAction.off n)) (within_at OpenBracket CloseBracket name_at) piece_read.sound (λ ts n rest d. puts d)

  in_braces_sound : (ts : List Lexeme) (x : SpeltRule) (rest : List Lexeme) → in_braces_at rules' sum ts ≡ Ok (x, rest) → IsBracketAtom Rules Sum ts x rest
  unfolding in_braces_at
  in_braces_sound ts x rest e = first (next_is (is_symbol Dollar) (drop 1 ts)) (next_is (is_symbol Question) (drop 1 ts)) (next_is (is_symbol Exclamation) (drop 1 ts)) e
    where
      first : (b c d : Bool) → cond {A = Reading SpeltRule} b (within_at OpenBrace CloseBrace (after_at Dollar (comparison_at sum)) ts)
          (cond c (positive_at rules' ts) (cond d (negative_at rules' ts) (on_at ts))) ≡ Ok (x, rest) → IsBracketAtom Rules Sum ts x rest
      first true c d e = compares (comparison_atom_read.sound ts x rest e)
      first false true d e = positive_sound ts x rest e
      first false false true e = negative_sound ts x rest e
      first false false false e = on_sound ts x rest e

  in_brackets_sound : (ts : List Lexeme) (x : SpeltRule) (rest : List Lexeme) → in_brackets_at sum ts ≡ Ok (x, rest) → IsBracketAtom Rules Sum ts x rest
  unfolding in_brackets_at
  in_brackets_sound ts x rest e = first (next_is (is_symbol Dollar) (drop 1 ts)) e
    where
      first : (b : Bool) → cond {A = Reading SpeltRule} b (within_at OpenBracket CloseBracket (after_at Dollar (assignments_at sum)) ts) (off_at ts) ≡ Ok (x, rest) → IsBracketAtom Rules Sum ts x rest
      first true e = assigns (assignment_atom_read.sound ts x rest e)
      first false e = off_sound ts x rest e

  bracket_atom_sound : (ts : List Lexeme) (x : SpeltRule) (rest : List Lexeme) → bracket_atom_at rules' sum ts ≡ Ok (x, rest) → IsBracketAtom Rules Sum ts x rest
  unfolding bracket_atom_at
  bracket_atom_sound ts x rest e = first (next_is (is_symbol OpenParenthesis) ts) (next_is (is_symbol OpenBrace) ts) e
    where
      first : (b c : Bool) → cond {A = Reading SpeltRule} b (within_at OpenParenthesis CloseParenthesis rules' ts) (cond c (in_braces_at rules' sum ts) (in_brackets_at sum ts)) ≡ Ok (x, rest) → IsBracketAtom Rules Sum ts x rest
      first true c e = groups (group_read.sound ts x rest e)
      first false true e = in_braces_sound ts x rest e
      first false false e = in_brackets_sound ts x rest e

  on_complete : {ts rest : List Lexeme} {ns : List SpeltName} → Within OpenBrace CloseBrace (Listed IsName) ts ns rest → on_at ts ≡ Ok (act (SpeltAction.on ns), rest)
  unfolding on_at
  on_complete {ts} {rest} {ns} d = rw (set_read.complete ts ns rest d tt)

  off_complete : {ts rest : List Lexeme} {n : SpeltName} → Within OpenBracket CloseBracket IsName ts n rest → off_at ts ≡ Ok (act (SpeltAction.off n), rest)
  unfolding off_at
  off_complete {ts} {rest} {n} d = rw (piece_read.complete ts n rest d tt)

  pattern_complete : {sign : Symbol} {ts first last rest : List Lexeme} {at end : ℕ} {r : SpeltRule} → IsSymbol OpenBrace ts at first → After sign Rules first r last → IsSymbol CloseBrace last end rest
      → pattern_at sign rules' ts ≡ Ok ((at, r), rest)
  unfolding pattern_at
  pattern_complete {sign} {ts} {first} {last} {rest} {at} {end} {r} d e f =
      rw ((symbol_read OpenBrace).complete ts at first d tt, (inside_read sign).complete first r last e (closing_ends_rules CloseBrace refl refl refl last (symbol_next CloseBrace last end rest f)), (symbol_read CloseBrace).complete last end rest f tt)

  positive_complete : {ts first last rest : List Lexeme} {at end : ℕ} {r : SpeltRule} → IsSymbol OpenBrace ts at first → After Question Rules first r last → IsSymbol CloseBrace last end rest
      → positive_at rules' ts ≡ Ok (act (positive at r), rest)
  unfolding positive_at
  positive_complete d e f = rw (pattern_complete d e f)

  negative_complete : {ts first last rest : List Lexeme} {at end : ℕ} {r : SpeltRule} → IsSymbol OpenBrace ts at first → After Exclamation Rules first r last → IsSymbol CloseBrace last end rest
      → negative_at rules' ts ≡ Ok (act (negative at r), rest)
  unfolding negative_at
  negative_complete d e f = rw (pattern_complete d e f)

  in_braces_on : {ts rest : List Lexeme} {ns : List SpeltName} → Within OpenBrace CloseBrace (Listed IsName) ts ns rest → in_braces_at rules' sum ts ≡ Ok (act (SpeltAction.on ns), rest)
  unfolding in_braces_at
  in_braces_on d = rw (set_second d (is_symbol Dollar) refl refl, set_second d (is_symbol Question) refl refl, set_second d (is_symbol Exclamation) refl refl, on_complete d)

  in_braces_comparison : {ts rest : List Lexeme} {r : SpeltRule} → Within OpenBrace CloseBrace (After Dollar (IsComparison Sum)) ts r rest → in_braces_at rules' sum ts ≡ Ok (r, rest)
  unfolding in_braces_at
  in_braces_comparison {ts} {rest} {r} d = rw (after_second_here d, comparison_atom_read.complete ts r rest d tt)

  in_braces_positive : {ts first last rest : List Lexeme} {at end : ℕ} {r : SpeltRule} → IsSymbol OpenBrace ts at first → After Question Rules first r last → IsSymbol CloseBrace last end rest
      → in_braces_at rules' sum ts ≡ Ok (act (positive at r), rest)
  unfolding in_braces_at
  in_braces_positive d e f = rw (second_test d (is_symbol Dollar) ∙ after_test e (is_symbol Dollar), second_test d (is_symbol Question) ∙ after_here e, positive_complete d e f)

  in_braces_negative : {ts first last rest : List Lexeme} {at end : ℕ} {r : SpeltRule} → IsSymbol OpenBrace ts at first → After Exclamation Rules first r last → IsSymbol CloseBrace last end rest
      → in_braces_at rules' sum ts ≡ Ok (act (negative at r), rest)
  unfolding in_braces_at
  in_braces_negative d e f =
      rw (second_test d (is_symbol Dollar) ∙ after_test e (is_symbol Dollar), second_test d (is_symbol Question) ∙ after_test e (is_symbol Question), second_test d (is_symbol Exclamation) ∙ after_here e, negative_complete d e f)

  in_brackets_off : {ts rest : List Lexeme} {n : SpeltName} → Within OpenBracket CloseBracket IsName ts n rest → in_brackets_at sum ts ≡ Ok (act (SpeltAction.off n), rest)
  unfolding in_brackets_at
  in_brackets_off d = rw (name_second d (is_symbol Dollar), off_complete d)

  in_brackets_assignments : {ts rest : List Lexeme} {r : SpeltRule} → Within OpenBracket CloseBracket (After Dollar (AreAssignments Sum)) ts r rest → in_brackets_at sum ts ≡ Ok (r, rest)
  unfolding in_brackets_at
  in_brackets_assignments {ts} {rest} {r} d = rw (after_second_here d, assignment_atom_read.complete ts r rest d tt)

  bracket_atom_complete : {ts rest : List Lexeme} {x : SpeltRule} → IsBracketAtom Rules Sum ts x rest → bracket_atom_at rules' sum ts ≡ Ok (x, rest)
  unfolding bracket_atom_at
  bracket_atom_complete {ts} {rest} {x} (groups d) = rw (within_here d, group_read.complete ts x rest d tt)
  bracket_atom_complete (stands_on d) = rw (within_test d (is_symbol OpenParenthesis), within_here d, in_braces_on d)
  bracket_atom_complete (puts d) = rw (within_test d (is_symbol OpenParenthesis), within_test d (is_symbol OpenBrace), in_brackets_off d)
  bracket_atom_complete (compares d) = rw (within_test d (is_symbol OpenParenthesis), within_here d, in_braces_comparison d)
  bracket_atom_complete (assigns d) = rw (within_test d (is_symbol OpenParenthesis), within_test d (is_symbol OpenBrace), in_brackets_assignments d)
  bracket_atom_complete {ts} (holds {first = first} {at = at} d e f) = rw (symbol_test d (is_symbol OpenParenthesis), symbol_next OpenBrace ts at first d, in_braces_positive d e f)
  bracket_atom_complete {ts} (fails {first = first} {at = at} d e f) = rw (symbol_test d (is_symbol OpenParenthesis), symbol_next OpenBrace ts at first d, in_braces_negative d e f)

  bracket_atom_shorter : {ts rest : List Lexeme} {x : SpeltRule} → IsBracketAtom Rules Sum ts x rest → 1 + length rest ≤ length ts
  bracket_atom_shorter {ts} {rest} {x} (groups d) = group_read.shorter ts x rest d
  bracket_atom_shorter {ts} {rest} (stands_on {ns = ns} d) = set_read.shorter ts ns rest d
  bracket_atom_shorter {ts} {rest} (puts {n = n} d) = piece_read.shorter ts n rest d
  bracket_atom_shorter {ts} {rest} {x} (compares d) = comparison_atom_read.shorter ts x rest d
  bracket_atom_shorter {ts} {rest} {x} (assigns d) = assignment_atom_read.shorter ts x rest d
  bracket_atom_shorter (holds {first = first} {last = last} {r = r} d e f) = omega (arith, symbol_shorter d, (inside_read Question).shorter first r last e, symbol_shorter f)
  bracket_atom_shorter (fails {first = first} {last = last} {r = r} d e f) = omega (arith, symbol_shorter d, (inside_read Exclamation).shorter first r last e, symbol_shorter f)

  bracket_atom_opens : {ts rest : List Lexeme} {x : SpeltRule} → IsBracketAtom Rules Sum ts x rest → next_is opens ts ≡ true
  bracket_atom_opens (groups d) = within_test d opens
  bracket_atom_opens (stands_on d) = within_test d opens
  bracket_atom_opens (puts d) = within_test d opens
  bracket_atom_opens (compares d) = within_test d opens
  bracket_atom_opens (assigns d) = within_test d opens
  bracket_atom_opens (holds d e f) = symbol_test d opens
  bracket_atom_opens (fails d e f) = symbol_test d opens

  bracket_atom_begins : {ts rest : List Lexeme} {x : SpeltRule} → IsBracketAtom Rules Sum ts x rest → next_is begins_atom ts ≡ true
  bracket_atom_begins {ts} d = opens_begins ts (bracket_atom_opens d)

begins_atom-Star : (k : TokenKind) → begins_atom k ≡ true → is_symbol Star k ≡ false
begins_atom-Star kinds.Name e = refl
begins_atom-Star kinds.Number e = refl
begins_atom-Star (kinds.Symbol Star) e = cc
begins_atom-Star (kinds.Symbol _) e = refl

atom_ends_item : (ts : List Lexeme) → next_is begins_atom ts ≡ true → EndsItem ts
atom_ends_item [] e = refl
atom_ends_item (t ∷ ts) e = begins_atom-Star t.kind e

-- items, sequences and sums of atoms
module _ (Atom : List Lexeme → SpeltRule → List Lexeme → Type 0) (atom : List Lexeme → Reading SpeltRule) (atoms : IsReadBy 1 Atom Always atom)
    (begins : (ts : List Lexeme) (r : SpeltRule) (rest : List Lexeme) → Atom ts r rest → next_is begins_atom ts ≡ true) where
  item_sound : (ts : List Lexeme) (x : SpeltRule) (rest : List Lexeme) → item_at atom ts ≡ Ok (x, rest) → IsItem Atom ts x rest
  unfolding item_at
  item_sound ts x rest e =
      let (r, read, further) = bind_ok (atom ts) (λ (r : SpeltRule × List Lexeme). cond {A = Reading SpeltRule} (next_is (is_symbol Star) r.1) (symbol_at Star r.1 >>= λ at. Ok (star r.0, at.1)) (Ok r)) (x, rest) e in
      first r.0 r.1 read (next_is (is_symbol Star) r.1) further
    where
      first : (r : SpeltRule) (mid : List Lexeme) → atom ts ≡ Ok (r, mid) → (b : Bool)
          → cond {A = Reading SpeltRule} b (symbol_at Star mid >>= λ at. Ok (star r, at.1)) (Ok (r, mid)) ≡ Ok (x, rest) → IsItem Atom ts x rest
      first r mid read true e =
          let (at, asterisk, given) = bind_ok _ _ _ e in
          subst (λ (q : SpeltRule × List Lexeme). IsItem Atom ts q.0 q.1) (ok_one _ (x, rest) given) (starred (atoms.sound ts r mid read) ((symbol_read Star).sound mid at.0 at.1 asterisk))
      first r mid read false e = subst (λ (q : SpeltRule × List Lexeme). IsItem Atom ts q.0 q.1) (ok_one _ (x, rest) e) (once (atoms.sound ts r mid read))

  item_complete : {ts rest : List Lexeme} {x : SpeltRule} → IsItem Atom ts x rest → EndsItem rest → item_at atom ts ≡ Ok (x, rest)
  unfolding item_at
  item_complete {ts} {rest} {x} (once d) stop = rw (atoms.complete ts x rest d tt, stop)
  item_complete {ts} {rest} (starred {mid = mid} {at = at} {r = r} d asterisk) stop = rw (atoms.complete ts r mid d tt, symbol_next Star mid at rest asterisk, (symbol_read Star).complete mid at rest asterisk tt)

  item_shorter : {ts rest : List Lexeme} {x : SpeltRule} → IsItem Atom ts x rest → 1 + length rest ≤ length ts
  item_shorter {ts} {rest} {x} (once d) = atoms.shorter ts x rest d
  item_shorter {ts} {rest} (starred {mid = mid} {r = r} d asterisk) = omega (arith, atoms.shorter ts r mid d, symbol_shorter asterisk)

  item_next : {ts rest : List Lexeme} {x : SpeltRule} → IsItem Atom ts x rest → next_is begins_atom ts ≡ true
  item_next {ts} {rest} {x} (once d) = begins ts x rest d
  item_next {ts} (starred {mid = mid} {r = r} d asterisk) = begins ts r mid d

  pub item_read : IsReadBy 1 (IsItem Atom) EndsItem (item_at atom)
  item_read = record { sound = item_sound; complete = λ ts x rest d stop. item_complete d stop; shorter = λ ts x rest d. item_shorter d }

  pub items_begin : Begins (IsItem Atom) EndsItem begins_atom
  items_begin = record { starts = λ ts x rest d. item_next d; goes_on = atom_ends_item }

  sequence_parts : (ts : List Lexeme) (x : SpeltRule) (rest : List Lexeme) → IsSequence Atom ts x rest → FirstThen (IsItem Atom) (Repeated (IsItem Atom)) sequence_of ts x rest
  sequence_parts ts _ rest (in_turn d more) = first_then d more

  pub sequence_read : IsReadBy 1 (IsSequence Atom) EndsSequence (sequence_at atom)
  unfolding sequence_at
  sequence_read =
      both_read (IsItem Atom) EndsItem (item_at atom) item_read 0 (Repeated (IsItem Atom)) EndsSequence (repeated_at begins_atom (item_at atom))
      (repeated_read (IsItem Atom) EndsItem (item_at atom) begins_atom item_read items_begin)
      (λ mid rs rest more stop. may_follow (IsItem Atom) EndsItem (item_at atom) begins_atom item_read items_begin more stop)
      (IsSequence Atom) sequence_of (λ ts x mid y rest d e. in_turn d e) sequence_parts

  plus_ends_sequence : (ts : List Lexeme) → next_is (is_symbol Plus) ts ≡ true → EndsSequence ts
  plus_ends_sequence ts e = record { ends = next_test-symbol Plus begins_atom ts e; follows = next_test-symbol Plus (is_symbol Star) ts e }

  pub sequences_read : IsReadBy 1 (Separated Plus (IsSequence Atom)) EndsRules (separated_at Plus (sequence_at atom))
  sequences_read = separated_read (IsSequence Atom) EndsSequence (sequence_at atom) sequence_read Plus plus_ends_sequence

  rules_made : (ts : List Lexeme) (rs : List SpeltRule) (rest : List Lexeme) → Separated Plus (IsSequence Atom) ts rs rest → AreRulesOver Atom ts (in_choice rs) rest
  rules_made ts _ rest (separated d more) = either (separated d more)

  rules_part : (ts : List Lexeme) (x : SpeltRule) (rest : List Lexeme) → AreRulesOver Atom ts x rest → Made (Separated Plus (IsSequence Atom)) in_choice ts x rest
  rules_part ts _ rest (either d) = made d

  pub rules_over_read : IsReadBy 1 (AreRulesOver Atom) EndsRules (rules_over_at atom)
  unfolding rules_over_at
  rules_over_read = made_read 1 (Separated Plus (IsSequence Atom)) EndsRules (separated_at Plus (sequence_at atom)) sequences_read (AreRulesOver Atom) in_choice rules_made rules_part

-- by how many brackets may be open at once
open_atom_sound : (ts : List Lexeme) (x : SpeltRule) (rest : List Lexeme) → atom_at zero ts ≡ Ok (x, rest) → IsOpenAtom ts x rest
unfolding atom_at
open_atom_sound ts x rest e = first (next_is opens ts) ts e
  where
    first : (b : Bool) (us : List Lexeme) → cond {A = Reading SpeltRule} b (too_deep_at us) (open_atom_at ts) ≡ Ok (x, rest) → IsOpenAtom ts x rest
    first true [] e = cc
    first true (u ∷ us) e = cc
    first false us e = open_atom_read.sound ts x rest e

open_atom_complete : {ts rest : List Lexeme} {x : SpeltRule} → IsOpenAtom ts x rest → atom_at zero ts ≡ Ok (x, rest)
unfolding atom_at
open_atom_complete {ts} {rest} {x} d = rw (open_atom_begins d opens refl refl, open_atom_read.complete ts x rest d tt)

module _ (n : ℕ) (rules_reads : IsReadBy 1 (AreRulesOver (IsAtom n)) EndsRules (rules_over_at (atom_at n))) where
  atom_sound : (ts : List Lexeme) (x : SpeltRule) (rest : List Lexeme) → atom_at (suc n) ts ≡ Ok (x, rest) → IsAtom (suc n) ts x rest
  unfolding atom_at
  atom_sound ts x rest e = first (next_is opens ts) e
    where
      first : (b : Bool) → cond {A = Reading SpeltRule} b (bracket_atom_at (rules_over_at (atom_at n)) (sum_at n) ts) (open_atom_at ts) ≡ Ok (x, rest) → IsAtom (suc n) ts x rest
      first true e = inr (bracket_atom_sound (AreRulesOver (IsAtom n)) (rules_over_at (atom_at n)) rules_reads (IsSum n) (sum_at n) (sum_read n) ts x rest e)
      first false e = inl (open_atom_read.sound ts x rest e)

  atom_complete : {ts rest : List Lexeme} {x : SpeltRule} → IsAtom (suc n) ts x rest → atom_at (suc n) ts ≡ Ok (x, rest)
  unfolding atom_at
  atom_complete {ts} {rest} {x} (inl d) = rw (open_atom_begins d opens refl refl, open_atom_read.complete ts x rest d tt)
  atom_complete {ts} {rest} {x} (inr d) =
      rw (bracket_atom_opens (AreRulesOver (IsAtom n)) (rules_over_at (atom_at n)) rules_reads (IsSum n) (sum_at n) (sum_read n) d, bracket_atom_complete (AreRulesOver (IsAtom n)) (rules_over_at (atom_at n)) rules_reads (IsSum n) (sum_at n) (sum_read n) d)

  atom_shorter : {ts rest : List Lexeme} {x : SpeltRule} → IsAtom (suc n) ts x rest → 1 + length rest ≤ length ts
  atom_shorter {ts} {rest} {x} (inl d) = open_atom_read.shorter ts x rest d
  atom_shorter {ts} {rest} {x} (inr d) = bracket_atom_shorter (AreRulesOver (IsAtom n)) (rules_over_at (atom_at n)) rules_reads (IsSum n) (sum_at n) (sum_read n) d

  atom_begins : {ts rest : List Lexeme} {x : SpeltRule} → IsAtom (suc n) ts x rest → next_is begins_atom ts ≡ true
  atom_begins (inl d) = open_atom_begins d begins_atom refl refl
  atom_begins (inr d) = bracket_atom_begins (AreRulesOver (IsAtom n)) (rules_over_at (atom_at n)) rules_reads (IsSum n) (sum_at n) (sum_read n) d

-- an atom is read, and it begins as atoms do
pub record IsAtomReader (n : ℕ) : Type 0 where
  pub reads : IsReadBy 1 (IsAtom n) Always (atom_at n)
  pub begins : (ts : List Lexeme) (r : SpeltRule) (rest : List Lexeme) → IsAtom n ts r rest → next_is begins_atom ts ≡ true

pub atom_reader : (n : ℕ) → IsAtomReader n
atom_reader zero = record {
  reads = record { sound = open_atom_sound; complete = λ ts x rest d stop. open_atom_complete d; shorter = open_atom_read.shorter };
  begins = λ ts x rest d. open_atom_begins d begins_atom refl refl;
}
atom_reader (suc n) =
    let before = atom_reader n in
    let all = rules_over_read (IsAtom n) (atom_at n) before.reads before.begins in
    record {
      reads = record { sound = atom_sound n all; complete = λ ts x rest d stop. atom_complete n all d; shorter = λ ts x rest d. atom_shorter n all d };
      begins = λ ts x rest d. atom_begins n all d;
    }

rules_all_read : (n : ℕ) → IsReadBy 1 (AreRules n) EndsRules (rules_over_at (atom_at n))
rules_all_read n = let atoms = atom_reader n in rules_over_read (IsAtom n) (atom_at n) atoms.reads atoms.begins

pub rules_read : (n : ℕ) → IsReadBy 1 (AreRules n) EndsRules (rules_at n)
unfolding rules_at
rules_read n = rules_all_read n

-- what ends a section ends its rules
pub nothing_ends_rules : EndsRules []
nothing_ends_rules = record { ends = refl; follows = record { ends = refl; follows = refl } }
