-- The readers of arithmetic.
use Rattle.std.proofs.Common.{◌≡◌, ◌≤◌, ◌+◌, ℕ, zero, suc, List, [], ◌∷◌, length, Bool, true, false, cond, Ok, Err, refl, ap, ◌∙◌, subst, arith, inl, inr}
use Rattle.rbg_macro.proofs.TextCommon.{Lexeme, is_name_kind, is_number_kind, is_symbol}
use Rattle.rbg_macro.specs.declared.token.Symbol.{Symbol}
use Rattle.rbg_macro.specs.declared.token.Symbol.TheVariants.{Plus, Minus, OpenParenthesis, CloseParenthesis}
use Rattle.rbg_macro.specs.declared.token.TokenKind.{TokenKind}
use Rattle.rbg_macro.specs.declared.token.TokenKind.TheVariants as kinds
use Rattle.rbg_base.specs.declared.operator.Operator.{Operator}
use Rattle.rbg_grammar.proofs.Common.{Rank, SpeltName, SpeltNumber, SpeltExpression, SpeltOperand, first_of, in_chain, IsSymbol, symbol, IsName, name, IsNumber, number, Repeated, After, after, Within, within, misfit, Reading, TakesSome, ◌>>=◌, next_is, name_at, number_at, one_of_at, repeated_at, place_of, after_at, within_at, too_deep_at, is_operator, number_or_name_at, factor_at, further_operand_at, chain_at, operand_at, sum_over_at, primary_at, sum_at}
use Rattle.rbg_grammar.specs.declared.expression.Rank.TheVariants as ranks
use Rattle.rbg_grammar.specs.Grammar.{operator_of, IsOperator, IsFurtherOperand, further_operand, IsChain, chained, IsFactor, plain, minus, IsTerm, IsSumOver, IsNumberOrName, number as a_number, name as a_name, IsPrimary, IsSum}
use Rattle.rbg_grammar.proofs.Readers.{bind_ok, ok_one, IsReadBy, Always, symbol_next, name_read, number_read, one_of_read, one_of_next, next_test-symbol}
use Rattle.rbg_grammar.proofs.Combinators.{FirstThen, first_then, both_read, repeated_read, Begins, Stops, after_read, within_read, may_follow}

-- what any test returns for the first token of a phrase
pub symbol_test : {s : Symbol} {ts rest : List Lexeme} {at : ℕ} → IsSymbol s ts at rest → (test : TokenKind → Bool) → next_is test ts ≡ test (kinds.Symbol s)
symbol_test (symbol k) test = ap test k

pub name_test : {ts rest : List Lexeme} {n : SpeltName} → IsName ts n rest → (test : TokenKind → Bool) → next_is test ts ≡ test kinds.Name
name_test (name k) test = ap test k

pub number_test : {ts rest : List Lexeme} {n : SpeltNumber} → IsNumber ts n rest → (test : TokenKind → Bool) → next_is test ts ≡ test kinds.Number
number_test (number k) test = ap test k

pub after_test : {A : Type 0} {s : Symbol} {P : List Lexeme → A → List Lexeme → Type 0} {ts rest : List Lexeme} {x : A} → After s P ts x rest → (test : TokenKind → Bool) → next_is test ts ≡ test (kinds.Symbol s)
after_test (after d e) test = symbol_test d test

pub within_test : {A : Type 0} {o c : Symbol} {P : List Lexeme → A → List Lexeme → Type 0} {ts rest : List Lexeme} {x : A} → Within o c P ts x rest → (test : TokenKind → Bool) → next_is test ts ≡ test (kinds.Symbol o)
within_test (within d e f) test = symbol_test d test

pub after_here : {A : Type 0} {s : Symbol} {P : List Lexeme → A → List Lexeme → Type 0} {ts rest : List Lexeme} {x : A} → After s P ts x rest → next_is (is_symbol s) ts ≡ true
after_here {s = s} {ts = ts} (after {mid = mid} {at = at} d e) = symbol_next s ts at mid d

pub within_here : {A : Type 0} {o c : Symbol} {P : List Lexeme → A → List Lexeme → Type 0} {ts rest : List Lexeme} {x : A} → Within o c P ts x rest → next_is (is_symbol o) ts ≡ true
within_here {o = o} {ts = ts} (within {first = first} {at = at} d e f) = symbol_next o ts at first d

-- what may follow a product, and a sum
abbrev pub EndsProduct : List Lexeme → Type 0
EndsProduct rest = Stops Always (is_operator ranks.Product) rest

abbrev pub EndsSum : List Lexeme → Type 0
EndsSum rest = Stops EndsProduct (is_operator ranks.Sum) rest

pub ends_sum : (ts : List Lexeme) → next_is (is_operator ranks.Sum) ts ≡ false → next_is (is_operator ranks.Product) ts ≡ false → EndsSum ts
ends_sum ts no_sum no_product = record { ends = no_sum; follows = record { ends = no_product; follows = tt } }

pub symbol_ends_sum : (s : Symbol) → is_operator ranks.Sum (kinds.Symbol s) ≡ false → is_operator ranks.Product (kinds.Symbol s) ≡ false → (ts : List Lexeme) → next_is (is_symbol s) ts ≡ true → EndsSum ts
symbol_ends_sum s no_sum no_product ts e = ends_sum ts (next_test-symbol s (is_operator ranks.Sum) ts e ∙ no_sum) (next_test-symbol s (is_operator ranks.Product) ts e ∙ no_product)

sum_operator-product_operator : (k : TokenKind) → is_operator ranks.Sum k ≡ true → is_operator ranks.Product k ≡ false
sum_operator-product_operator kinds.Name e = refl
sum_operator-product_operator kinds.Number e = refl
sum_operator-product_operator (kinds.Symbol Plus) e = refl
sum_operator-product_operator (kinds.Symbol Minus) e = refl
sum_operator-product_operator (kinds.Symbol _) e = cc

sum_operator_ends_product : (ts : List Lexeme) → next_is (is_operator ranks.Sum) ts ≡ true → EndsProduct ts
sum_operator_ends_product [] e = record { ends = refl; follows = tt }
sum_operator_ends_product (t ∷ ts) e = record { ends = sum_operator-product_operator t.kind e; follows = tt }

-- a sum or a product, by its operands
module _ (rank : Rank) (Operand : List Lexeme → SpeltExpression → List Lexeme → Type 0) (Follow : List Lexeme → Type 0) (operand : List Lexeme → Reading SpeltExpression)
    (reads : IsReadBy 1 Operand Follow operand) (goes_on : (ts : List Lexeme) → next_is (is_operator rank) ts ≡ true → Follow ts) where
  further_parts : (ts : List Lexeme) (x : SpeltOperand) (rest : List Lexeme) → IsFurtherOperand rank Operand ts x rest → FirstThen (IsOperator rank) Operand (λ (o : Operator) (e : SpeltExpression). (o, e)) ts x rest
  further_parts ts _ rest (further_operand o d) = first_then o d

  pub further_read : IsReadBy 1 (IsFurtherOperand rank Operand) Follow (further_operand_at rank operand)
  unfolding further_operand_at
  further_read =
      both_read (IsOperator rank) Always (one_of_at (operator_of rank)) (one_of_read (operator_of rank)) 1 Operand Follow operand reads (λ mid e rest d stop. tt)
      (IsFurtherOperand rank Operand) (λ (o : Operator) (e : SpeltExpression). (o, e)) (λ ts x mid y rest d e. further_operand d e) further_parts

  further_next : {ts rest : List Lexeme} {x : SpeltOperand} → IsFurtherOperand rank Operand ts x rest → next_is (is_operator rank) ts ≡ true
  further_next (further_operand o d) = one_of_next (operator_of rank) o

  further_begins : Begins (IsFurtherOperand rank Operand) Follow (is_operator rank)
  further_begins = record { starts = λ ts x rest d. further_next d; goes_on = goes_on }

  chain_parts : (ts : List Lexeme) (x : SpeltExpression) (rest : List Lexeme) → IsChain rank Operand ts x rest → FirstThen Operand (Repeated (IsFurtherOperand rank Operand)) (λ (e : SpeltExpression) (os : List SpeltOperand). in_chain ((first_of rank, e) ∷ os)) ts x rest
  chain_parts ts _ rest (chained d more) = first_then d more

  pub chain_read : IsReadBy 1 (IsChain rank Operand) (Stops Follow (is_operator rank)) (chain_at rank operand)
  unfolding chain_at
  chain_read =
      both_read Operand Follow operand reads 0 (Repeated (IsFurtherOperand rank Operand)) (Stops Follow (is_operator rank)) (repeated_at (is_operator rank) (further_operand_at rank operand))
      (repeated_read (IsFurtherOperand rank Operand) Follow (further_operand_at rank operand) (is_operator rank) further_read further_begins)
      (λ mid os rest more stop. may_follow (IsFurtherOperand rank Operand) Follow (further_operand_at rank operand) (is_operator rank) further_read further_begins more stop)
      (IsChain rank Operand) (λ (e : SpeltExpression) (os : List SpeltOperand). in_chain ((first_of rank, e) ∷ os)) (λ ts x mid y rest d e. chained d e) chain_parts

module _ (Primary : List Lexeme → SpeltExpression → List Lexeme → Type 0) (primary : List Lexeme → Reading SpeltExpression) (reads : IsReadBy 1 Primary Always primary)
    (no_minus : (ts : List Lexeme) (e : SpeltExpression) (rest : List Lexeme) → Primary ts e rest → next_is (is_symbol Minus) ts ≡ false) where
  negated_read : IsReadBy 1 (After Minus Primary) Always (after_at Minus primary)
  negated_read = after_read 1 Primary Always primary reads Minus

  factor_sound : (ts : List Lexeme) (x : SpeltExpression) (rest : List Lexeme) → factor_at primary ts ≡ Ok (x, rest) → IsFactor Primary ts x rest
  unfolding factor_at
  factor_sound ts x rest e = first (next_is (is_symbol Minus) ts) e
    where
      first : (b : Bool) → cond {A = Reading SpeltExpression} b (after_at Minus primary ts >>= λ f. Ok (SpeltExpression.negated f.0, f.1)) (primary ts) ≡ Ok (x, rest) → IsFactor Primary ts x rest
      first true e =
          let (f, read, given) = bind_ok _ _ _ e in
          subst (λ (q : SpeltExpression × List Lexeme). IsFactor Primary ts q.0 q.1) (ok_one _ (x, rest) given) (minus (negated_read.sound ts f.0 f.1 read))
      first false e = plain (reads.sound ts x rest e)

  factor_complete : {ts rest : List Lexeme} {x : SpeltExpression} → IsFactor Primary ts x rest → factor_at primary ts ≡ Ok (x, rest)
  unfolding factor_at
  factor_complete {ts} {rest} {x} (plain d) = rw (no_minus ts x rest d, reads.complete ts x rest d tt)
  factor_complete {ts} {rest} (minus {e = e} d) = rw (after_here d, negated_read.complete ts e rest d tt)

  factor_shorter : {ts rest : List Lexeme} {x : SpeltExpression} → IsFactor Primary ts x rest → 1 + length rest ≤ length ts
  factor_shorter {ts} {rest} {x} (plain d) = reads.shorter ts x rest d
  factor_shorter {ts} {rest} (minus {e = e} d) = negated_read.shorter ts e rest d

  pub factor_read : IsReadBy 1 (IsFactor Primary) Always (factor_at primary)
  factor_read = record { sound = factor_sound; complete = λ ts x rest d stop. factor_complete d; shorter = λ ts x rest d. factor_shorter d }

  pub term_read : IsReadBy 1 (IsTerm Primary) EndsProduct (operand_at ranks.Sum primary)
  term_read = chain_read ranks.Product (IsFactor Primary) Always (factor_at primary) factor_read (λ ts e. tt)

  pub further_operand_read : (rank : Rank) → TakesSome (further_operand_at rank (operand_at rank primary))
  further_operand_read ranks.Sum ts x rest e =
      let further = further_read ranks.Sum (IsTerm Primary) EndsProduct (operand_at ranks.Sum primary) term_read sum_operator_ends_product in
      omega (arith, further.shorter ts x rest (further.sound ts x rest e))
  further_operand_read ranks.Product ts x rest e =
      let further = further_read ranks.Product (IsFactor Primary) Always (factor_at primary) factor_read (λ ts e. tt) in
      omega (arith, further.shorter ts x rest (further.sound ts x rest e))

  pub sum_over_read : IsReadBy 1 (IsSumOver Primary) EndsSum (sum_over_at primary)
  sum_over_read = chain_read ranks.Sum (IsTerm Primary) EndsProduct (operand_at ranks.Sum primary) term_read sum_operator_ends_product

-- numbers and names
number_or_name_sound : (ts : List Lexeme) (x : SpeltExpression) (rest : List Lexeme) → number_or_name_at ts ≡ Ok (x, rest) → IsNumberOrName ts x rest
unfolding number_or_name_at
number_or_name_sound ts x rest e = first (next_is is_number_kind ts) e
  where
    first : (b : Bool) → cond {A = Reading SpeltExpression} b (number_at ts >>= λ n. Ok (SpeltExpression.number n.0, n.1)) (name_at ts >>= λ n. Ok (SpeltExpression.name n.0, n.1)) ≡ Ok (x, rest) → IsNumberOrName ts x rest
    first true e =
        let (n, read, given) = bind_ok _ _ _ e in
        subst (λ (q : SpeltExpression × List Lexeme). IsNumberOrName ts q.0 q.1) (ok_one _ (x, rest) given) (a_number (number_read.sound ts n.0 n.1 read))
    first false e =
        let (n, read, given) = bind_ok _ _ _ e in
        subst (λ (q : SpeltExpression × List Lexeme). IsNumberOrName ts q.0 q.1) (ok_one _ (x, rest) given) (a_name (name_read.sound ts n.0 n.1 read))

number_or_name_complete : {ts rest : List Lexeme} {x : SpeltExpression} → IsNumberOrName ts x rest → number_or_name_at ts ≡ Ok (x, rest)
unfolding number_or_name_at
number_or_name_complete {ts} {rest} (a_number {n = n} d) = rw (number_test d is_number_kind, number_read.complete ts n rest d tt)
number_or_name_complete {ts} {rest} (a_name {n = n} d) = rw (name_test d is_number_kind, name_read.complete ts n rest d tt)

number_or_name_shorter : {ts rest : List Lexeme} {x : SpeltExpression} → IsNumberOrName ts x rest → 1 + length rest ≤ length ts
number_or_name_shorter {ts} {rest} (a_number {n = n} d) = number_read.shorter ts n rest d
number_or_name_shorter {ts} {rest} (a_name {n = n} d) = name_read.shorter ts n rest d

number_or_name_read : IsReadBy 1 IsNumberOrName Always number_or_name_at
number_or_name_read = record { sound = number_or_name_sound; complete = λ ts x rest d stop. number_or_name_complete d; shorter = λ ts x rest d. number_or_name_shorter d }

number_or_name_test : {ts rest : List Lexeme} {x : SpeltExpression} → IsNumberOrName ts x rest → (test : TokenKind → Bool) → test kinds.Number ≡ false → test kinds.Name ≡ false → next_is test ts ≡ false
number_or_name_test (a_number d) test no_number no_name = number_test d test ∙ no_number
number_or_name_test (a_name d) test no_number no_name = name_test d test ∙ no_name

-- by how many brackets may be open at once
no_brackets_sound : (ts : List Lexeme) (x : SpeltExpression) (rest : List Lexeme) → primary_at zero ts ≡ Ok (x, rest) → IsPrimary zero ts x rest
unfolding primary_at
no_brackets_sound ts x rest e = first (next_is (is_symbol OpenParenthesis) ts) ts e
  where
    first : (b : Bool) (us : List Lexeme) → cond {A = Reading SpeltExpression} b (too_deep_at us) (number_or_name_at ts) ≡ Ok (x, rest) → IsPrimary zero ts x rest
    first true [] e = cc
    first true (u ∷ us) e = cc
    first false us e = number_or_name_sound ts x rest e

no_brackets_complete : {ts rest : List Lexeme} {x : SpeltExpression} → IsNumberOrName ts x rest → primary_at zero ts ≡ Ok (x, rest)
unfolding primary_at
no_brackets_complete d = rw (number_or_name_test d (is_symbol OpenParenthesis) refl refl, number_or_name_complete d)

module _ (n : ℕ) (sum_reads : IsReadBy 1 (IsSumOver (IsPrimary n)) EndsSum (sum_over_at (primary_at n))) where
  group_read : IsReadBy 1 (Within OpenParenthesis CloseParenthesis (IsSumOver (IsPrimary n))) Always (within_at OpenParenthesis CloseParenthesis (sum_over_at (primary_at n)))
  group_read = within_read 1 (IsSumOver (IsPrimary n)) EndsSum (sum_over_at (primary_at n)) sum_reads OpenParenthesis CloseParenthesis (symbol_ends_sum CloseParenthesis refl refl)

  brackets_sound : (ts : List Lexeme) (x : SpeltExpression) (rest : List Lexeme) → primary_at (suc n) ts ≡ Ok (x, rest) → IsPrimary (suc n) ts x rest
  unfolding primary_at
  brackets_sound ts x rest e = first (next_is (is_symbol OpenParenthesis) ts) e
    where
      first : (b : Bool) → cond {A = Reading SpeltExpression} b (within_at OpenParenthesis CloseParenthesis (sum_over_at (primary_at n)) ts) (number_or_name_at ts) ≡ Ok (x, rest) → IsPrimary (suc n) ts x rest
      first true e = inr (group_read.sound ts x rest e)
      first false e = inl (number_or_name_sound ts x rest e)

  brackets_complete : {ts rest : List Lexeme} {x : SpeltExpression} → IsPrimary (suc n) ts x rest → primary_at (suc n) ts ≡ Ok (x, rest)
  unfolding primary_at
  brackets_complete {ts} {rest} {x} (inl d) = rw (number_or_name_test d (is_symbol OpenParenthesis) refl refl, number_or_name_complete d)
  brackets_complete {ts} {rest} {x} (inr d) = rw (within_here d, group_read.complete ts x rest d tt)

  brackets_shorter : {ts rest : List Lexeme} {x : SpeltExpression} → IsPrimary (suc n) ts x rest → 1 + length rest ≤ length ts
  brackets_shorter {ts} {rest} {x} (inl d) = number_or_name_shorter d
  brackets_shorter {ts} {rest} {x} (inr d) = group_read.shorter ts x rest d

pub primary_no_minus : (n : ℕ) (ts : List Lexeme) (x : SpeltExpression) (rest : List Lexeme) → IsPrimary n ts x rest → next_is (is_symbol Minus) ts ≡ false
primary_no_minus zero ts x rest d = number_or_name_test d (is_symbol Minus) refl refl
primary_no_minus (suc n) ts x rest (inl d) = number_or_name_test d (is_symbol Minus) refl refl
primary_no_minus (suc n) ts x rest (inr d) = within_test d (is_symbol Minus)

pub primary_read : (n : ℕ) → IsReadBy 1 (IsPrimary n) Always (primary_at n)
primary_read zero = record { sound = no_brackets_sound; complete = λ ts x rest d stop. no_brackets_complete d; shorter = λ ts x rest d. number_or_name_shorter d }
primary_read (suc n) =
    let sums = sum_over_read (IsPrimary n) (primary_at n) (primary_read n) (primary_no_minus n) in
    record { sound = brackets_sound n sums; complete = λ ts x rest d stop. brackets_complete n sums d; shorter = λ ts x rest d. brackets_shorter n sums d }

sums_read : (n : ℕ) → IsReadBy 1 (IsSum n) EndsSum (sum_over_at (primary_at n))
sums_read n = sum_over_read (IsPrimary n) (primary_at n) (primary_read n) (primary_no_minus n)

pub sum_read : (n : ℕ) → IsReadBy 1 (IsSum n) EndsSum (sum_at n)
unfolding sum_at
sum_read n = sums_read n

-- neither a number nor a name
pub no_number_or_name : (ts : List Lexeme) → next_is is_number_kind ts ≡ false → next_is is_name_kind ts ≡ false → number_or_name_at ts ≡ Err (misfit (place_of ts))
unfolding number_or_name_at name_at
no_number_or_name [] no_number no_name = refl
no_number_or_name (t ∷ ts) no_number no_name = rw (no_number, no_name)
