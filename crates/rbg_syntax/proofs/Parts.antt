-- A first part and further ones, as the parser reads them.
use Rattle.std.proofs.Common.{◌≡◌, ◌-◌, ℕ, zero, suc, List, [], ◌∷◌, Bool, true, false, None, Result, Ok, Err, refl, ap, ◌∙◌, arith}
use Rattle.rbg_macro.proofs.TextCommon.{Lexeme, opens, is_symbol}
use Rattle.rbg_macro.specs.declared.token.Symbol.{Symbol}
use Rattle.rbg_macro.specs.declared.token.Symbol.TheVariants.{Plus, OpenParenthesis, CloseParenthesis, Question, Exclamation}
use Rattle.rbg_macro.specs.declared.token.TokenKind.{TokenKind}
use Rattle.rbg_grammar.specs.declared.expression.Rank.{Rank}
use Rattle.rbg_grammar.proofs.Common.{SpeltExpression, SpeltOperand, SpeltRule, first_of, in_chain, act, positive, negative, sequence_of, Fault, misfit, too_deep, Reading, TakesSome, ◌>>=◌, next_is, symbol_at, repeated_at, after_at, separated_at, within_at, further_at, in_sequence, open_atom_at, too_deep_at, chain_at, further_operand_at, in_choice, is_operator, number_or_name_at, primary_at, sum_at, atom_at, begins_atom, bracket_atom_at, item_at, sequence_at, rules_over_at, rules_at, pattern_at, positive_at, negative_at}
use Rattle.rbg_grammar.proofs.PhraseLaws.{item_takes_some, sequence_takes_some}
use Rattle.rbg_grammar.proofs.Turns.{after_some, repeated_ends}
use Rattle.rbg_syntax.specs.declared.rules.Level.{Level}
use Rattle.rbg_syntax.specs.declared.rules.Level.TheVariants.{Sum, Sequence}
use Rattle.rbg_syntax.specs.internal.Levels.{further_part_at, goes_on, joined, list_at, part_at}

further_stops : {X : Type 0} (x : X) (test : TokenKind → Bool) (read : List Lexeme → Reading X) (ts : List Lexeme) → next_is test ts ≡ false → further_at x test read ts ≡ Ok (x ∷ [], ts)
unfolding further_at
further_stops x test read ts e = repeated_ends test read (x ∷ []) ts e

-- what is read of a whole, if it is a first part and further ones put together
module _ {A X : Type 0} (whole r : Reading A) (first : A → X) (test : TokenKind → Bool) (read : List Lexeme → Reading X) (of : List X → A)
    (same : whole ≡ (r >>= λ e. further_at (first e.0) test read e.1 >>= λ es. Ok (of es.0, es.1))) (one : (x : A) → of (first x ∷ []) ≡ x) where
  pub parts_fail : (f : Fault) → r ≡ Err f → whole ≡ Err f
  parts_fail f e = same ∙ ap (λ u. u >>= λ e. further_at (first e.0) test read e.1 >>= λ es. Ok (of es.0, es.1)) e

  pub parts_alone : (x : A) (rest : List Lexeme) → r ≡ Ok (x, rest) → next_is test rest ≡ false → whole ≡ Ok (x, rest)
  parts_alone x rest e stops =
      same ∙ ap (λ u. u >>= λ e. further_at (first e.0) test read e.1 >>= λ es. Ok (of es.0, es.1)) e
      ∙ ap (λ u. u >>= λ es. Ok (of es.0, es.1)) (further_stops (first x) test read rest stops) ∙ ap (λ y. Ok (y, rest)) (one x)

  pub parts_more : (x : A) (rest : List Lexeme) (es : List X) (last : List Lexeme) → r ≡ Ok (x, rest) → further_at (first x) test read rest ≡ Ok (es, last) → whole ≡ Ok (of es, last)
  parts_more x rest es last e more =
      same ∙ ap (λ u. u >>= λ e. further_at (first e.0) test read e.1 >>= λ es. Ok (of es.0, es.1)) e ∙ ap (λ u. u >>= λ es. Ok (of es.0, es.1)) more

  pub parts_more_fail : (x : A) (rest : List Lexeme) (f : Fault) → r ≡ Ok (x, rest) → further_at (first x) test read rest ≡ Err f → whole ≡ Err f
  parts_more_fail x rest f e more =
      same ∙ ap (λ u. u >>= λ e. further_at (first e.0) test read e.1 >>= λ es. Ok (of es.0, es.1)) e ∙ ap (λ u. u >>= λ es. Ok (of es.0, es.1)) more

-- the same reading, with its parts in a list
abbrev put_before : {X : Type 0} → X → List X × List Lexeme → Reading (List X)
put_before x m = Ok (x ∷ m.0, m.1)

module _ {A X : Type 0} (first : A → X) (test : TokenKind → Bool) (read : List Lexeme → Reading X) (of : List X → A) (join : A → List X → A) (same : (x : A) (xs : List X) → join x xs ≡ of (first x ∷ xs)) where
  in_list : (x : A) (r : Reading (List X)) → ◌≡◌ {A = Reading A} (r >>= λ m. Ok (join x m.0, m.1)) ((r >>= put_before (first x)) >>= λ es. Ok (of es.0, es.1))
  in_list x (Ok m) = ap (λ y. Ok (y, m.1)) (same x m.0)
  in_list x (Err f) = refl

  in_parts : (r : Reading A) → ◌≡◌ {A = Reading A} (r >>= λ e. repeated_at test read e.1 >>= λ m. Ok (join e.0 m.0, m.1)) (r >>= λ e. further_at (first e.0) test read e.1 >>= λ es. Ok (of es.0, es.1))
  unfolding further_at
  in_parts (Ok e) = in_list e.0 (repeated_at test read e.1)
  in_parts (Err f) = refl

pub chain_parts : (rank : Rank) (operand : List Lexeme → Reading SpeltExpression) (ts : List Lexeme)
    → chain_at rank operand ts ≡ (operand ts >>= λ e. further_at (first_of rank, e.0) (is_operator rank) (further_operand_at rank operand) e.1 >>= λ os. Ok (in_chain os.0, os.1))
unfolding chain_at
chain_parts rank operand ts =
    in_parts (λ (x : SpeltExpression). (first_of rank, x)) (is_operator rank) (further_operand_at rank operand) in_chain (λ (x : SpeltExpression) (os : List SpeltOperand). in_chain ((first_of rank, x) ∷ os)) (λ x os. refl) (operand ts)

pub sequence_parts : (n : ℕ) (ts : List Lexeme)
    → sequence_at (atom_at n) ts ≡ (item_at (atom_at n) ts >>= λ e. further_at e.0 begins_atom (item_at (atom_at n)) e.1 >>= λ es. Ok (in_sequence es.0, es.1))
unfolding sequence_at
sequence_parts n ts = in_parts (λ (x : SpeltRule). x) begins_atom (item_at (atom_at n)) in_sequence sequence_of (λ x xs. refl) (item_at (atom_at n) ts)

regrouped : {A B C : Type 0} (r : Result A Fault) (f : A → Result B Fault) (g : B → Result C Fault) → ((r >>= f) >>= g) ≡ (r >>= λ x. f x >>= g)
regrouped (Ok x) f g = refl
regrouped (Err e) f g = refl

pub rules_parts : (n : ℕ) (ts : List Lexeme)
    → rules_at n ts ≡ (sequence_at (atom_at n) ts >>= λ e. further_at e.0 (is_symbol Plus) (after_at Plus (sequence_at (atom_at n))) e.1 >>= λ es. Ok (in_choice es.0, es.1))
unfolding rules_at rules_over_at separated_at further_at
rules_parts n ts =
    regrouped (sequence_at (atom_at n) ts) (λ f. repeated_at (is_symbol Plus) (after_at Plus (sequence_at (atom_at n))) f.1 >>= λ more. Ok (f.0 ∷ more.0, more.1)) (λ rs. Ok (in_choice rs.0, rs.1))

-- what is read of each, from its parts
module _ (rank : Rank) (operand : List Lexeme → Reading SpeltExpression) (ts : List Lexeme) where
  pub chain_fail : (f : Fault) → operand ts ≡ Err f → chain_at rank operand ts ≡ Err f
  chain_fail = parts_fail (chain_at rank operand ts) (operand ts) (λ (x : SpeltExpression). (first_of rank, x)) (is_operator rank) (further_operand_at rank operand) in_chain (chain_parts rank operand ts) (λ x. refl)

  pub chain_alone : (x : SpeltExpression) (rest : List Lexeme) → operand ts ≡ Ok (x, rest) → next_is (is_operator rank) rest ≡ false → chain_at rank operand ts ≡ Ok (x, rest)
  chain_alone = parts_alone (chain_at rank operand ts) (operand ts) (λ (x : SpeltExpression). (first_of rank, x)) (is_operator rank) (further_operand_at rank operand) in_chain (chain_parts rank operand ts) (λ x. refl)

  pub chain_more : (x : SpeltExpression) (rest : List Lexeme) (os : List SpeltOperand) (last : List Lexeme) → operand ts ≡ Ok (x, rest)
      → further_at (first_of rank, x) (is_operator rank) (further_operand_at rank operand) rest ≡ Ok (os, last) → chain_at rank operand ts ≡ Ok (in_chain os, last)
  chain_more = parts_more (chain_at rank operand ts) (operand ts) (λ (x : SpeltExpression). (first_of rank, x)) (is_operator rank) (further_operand_at rank operand) in_chain (chain_parts rank operand ts) (λ x. refl)

  pub chain_more_fail : (x : SpeltExpression) (rest : List Lexeme) (f : Fault) → operand ts ≡ Ok (x, rest)
      → further_at (first_of rank, x) (is_operator rank) (further_operand_at rank operand) rest ≡ Err f → chain_at rank operand ts ≡ Err f
  chain_more_fail = parts_more_fail (chain_at rank operand ts) (operand ts) (λ (x : SpeltExpression). (first_of rank, x)) (is_operator rank) (further_operand_at rank operand) in_chain (chain_parts rank operand ts) (λ x. refl)

pub list_parts : (level : Level) (n : ℕ) (ts : List Lexeme)
    → list_at level n ts ≡ (part_at level n ts >>= λ e. further_at e.0 (goes_on level) (further_part_at level n) e.1 >>= λ es. Ok (joined level es.0, es.1))
list_parts Sum = rules_parts
list_parts Sequence = sequence_parts

joined_one : (level : Level) (x : SpeltRule) → joined level (x ∷ []) ≡ x
joined_one Sum x = refl
joined_one Sequence x = refl

pub further_part_takes_some : (level : Level) (n : ℕ) → TakesSome (further_part_at level n)
further_part_takes_some Sum n = after_some (sequence_at (atom_at n)) (sequence_takes_some n) Plus
further_part_takes_some Sequence n = item_takes_some n

module _ (level : Level) (n : ℕ) (ts : List Lexeme) where
  pub list_fail : (f : Fault) → part_at level n ts ≡ Err f → list_at level n ts ≡ Err f
  list_fail = parts_fail (list_at level n ts) (part_at level n ts) (λ (x : SpeltRule). x) (goes_on level) (further_part_at level n) (joined level) (list_parts level n ts) (joined_one level)

  pub list_alone : (x : SpeltRule) (rest : List Lexeme) → part_at level n ts ≡ Ok (x, rest) → next_is (goes_on level) rest ≡ false → list_at level n ts ≡ Ok (x, rest)
  list_alone = parts_alone (list_at level n ts) (part_at level n ts) (λ (x : SpeltRule). x) (goes_on level) (further_part_at level n) (joined level) (list_parts level n ts) (joined_one level)

  pub list_more : (x : SpeltRule) (rest : List Lexeme) (es : List SpeltRule) (last : List Lexeme) → part_at level n ts ≡ Ok (x, rest)
      → further_at x (goes_on level) (further_part_at level n) rest ≡ Ok (es, last) → list_at level n ts ≡ Ok (joined level es, last)
  list_more = parts_more (list_at level n ts) (part_at level n ts) (λ (x : SpeltRule). x) (goes_on level) (further_part_at level n) (joined level) (list_parts level n ts) (joined_one level)

  pub list_more_fail : (x : SpeltRule) (rest : List Lexeme) (f : Fault) → part_at level n ts ≡ Ok (x, rest) → further_at x (goes_on level) (further_part_at level n) rest ≡ Err f → list_at level n ts ≡ Err f
  list_more_fail = parts_more_fail (list_at level n ts) (part_at level n ts) (λ (x : SpeltRule). x) (goes_on level) (further_part_at level n) (joined level) (list_parts level n ts) (joined_one level)

-- a pattern, by its rules
pub positive_pattern : (rules' : List Lexeme → Reading SpeltRule) (ts : List Lexeme) → positive_at rules' ts ≡ (pattern_at Question rules' ts >>= λ p. Ok (act (positive p.0.0 p.0.1), p.1))
unfolding positive_at
positive_pattern rules' ts = refl

pub negative_pattern : (rules' : List Lexeme → Reading SpeltRule) (ts : List Lexeme) → negative_at rules' ts ≡ (pattern_at Exclamation rules' ts >>= λ p. Ok (act (negative p.0.0 p.0.1), p.1))
unfolding negative_at
negative_pattern rules' ts = refl

pub ruleset patterns = (positive_pattern, negative_pattern)

-- one bracket less
one_less : (n : ℕ) → n ≡ suc n - 1
one_less n = omega arith

pub primary_inside : (n : ℕ) (ts : List Lexeme) → (n ≡ 0 → ⊥) → next_is (is_symbol OpenParenthesis) ts ≡ true → primary_at n ts ≡ within_at OpenParenthesis CloseParenthesis (sum_at (n - 1)) ts
unfolding primary_at sum_at
primary_inside zero ts some e = absurd (some refl)
primary_inside (suc n) ts some e = rw e (ap (λ k. within_at OpenParenthesis CloseParenthesis (sum_at k) ts) (one_less n))

pub primary_open : (n : ℕ) (ts : List Lexeme) → next_is (is_symbol OpenParenthesis) ts ≡ false → primary_at n ts ≡ number_or_name_at ts
unfolding primary_at
primary_open zero ts e = rw e
primary_open (suc n) ts e = rw e

pub primary_none : (ts : List Lexeme) → next_is (is_symbol OpenParenthesis) ts ≡ true → primary_at 0 ts ≡ too_deep_at ts
unfolding primary_at
primary_none ts e = rw e

pub atom_inside : (n : ℕ) (ts : List Lexeme) → (n ≡ 0 → ⊥) → next_is opens ts ≡ true → atom_at n ts ≡ bracket_atom_at (rules_at (n - 1)) (sum_at (n - 1)) ts
unfolding atom_at rules_at
atom_inside zero ts some e = absurd (some refl)
atom_inside (suc n) ts some e = rw e (ap (λ k. bracket_atom_at (rules_at k) (sum_at k) ts) (one_less n))

pub atom_open : (n : ℕ) (ts : List Lexeme) → next_is opens ts ≡ false → atom_at n ts ≡ open_atom_at ts
unfolding atom_at
atom_open zero ts e = rw e
atom_open (suc n) ts e = rw e

pub atom_none : (ts : List Lexeme) → next_is opens ts ≡ true → atom_at 0 ts ≡ too_deep_at ts
unfolding atom_at
atom_none ts e = rw e

-- the same bracket is one too many, whatever is read
pub same_deep : {A B : Type 0} (ts : List Lexeme) (f : Fault) → too_deep_at {A = A} ts ≡ Err f → too_deep_at {A = B} ts ≡ Err f
same_deep [] f e = let same : misfit None ≡ f = cc in ap (λ g. Err g) same
same_deep (t ∷ ts) f e = let same : too_deep t.at ≡ f = cc in ap (λ g. Err g) same

-- what is read between brackets
module _ {A : Type 0} (o c : Symbol) (read : List Lexeme → Reading A) (ts : List Lexeme) where
  pub within_no_opening : (f : Fault) → symbol_at o ts ≡ Err f → within_at o c read ts ≡ Err f
  unfolding within_at
  within_no_opening f e = rw e

  pub within_no_inside : (at : ℕ) (us : List Lexeme) (f : Fault) → symbol_at o ts ≡ Ok (at, us) → read us ≡ Err f → within_at o c read ts ≡ Err f
  unfolding within_at
  within_no_inside at us f d e = rw (d, e)

  pub within_no_closing : (at : ℕ) (us : List Lexeme) (x : A) (vs : List Lexeme) (f : Fault) → symbol_at o ts ≡ Ok (at, us) → read us ≡ Ok (x, vs) → symbol_at c vs ≡ Err f → within_at o c read ts ≡ Err f
  unfolding within_at
  within_no_closing at us x vs f d e h = rw (d, e, h)

  pub within_whole : (at : ℕ) (us : List Lexeme) (x : A) (vs : List Lexeme) (end : ℕ) (rest : List Lexeme) → symbol_at o ts ≡ Ok (at, us) → read us ≡ Ok (x, vs) → symbol_at c vs ≡ Ok (end, rest) → within_at o c read ts ≡ Ok (x, rest)
  unfolding within_at
  within_whole at us x vs end rest d e h = rw (d, e, h)
