-- What one more bracket makes of readings of arithmetic.
use Rattle.std.proofs.Common.{◌≡◌, ℕ, zero, suc, List, [], ◌∷◌, Bool, true, false, cond, Ok, Err, refl, ap, inl, inr, arith}
use Rattle.rbg_macro.proofs.TextCommon.{Lexeme, opens, is_number_kind, is_symbol}
use Rattle.rbg_macro.specs.declared.token.Symbol.TheVariants.{Minus, OpenParenthesis, CloseParenthesis}
use Rattle.rbg_macro.specs.declared.token.TokenKind.TheVariants as kinds
use Rattle.rbg_base.specs.declared.operator.Operator.{Operator}
use Rattle.rbg_grammar.proofs.Common.{Rank, SpeltExpression, SpeltOperand, first_of, in_chain, IsName, name, IsNumber, symbol, Repeated, done, After, Within, within, too_deep, Reading, ◌>>=◌, next_is, name_at, number_at, one_of_at, repeated_at, after_at, within_at, is_operator, number_or_name_at, factor_at, further_operand_at, chain_at, operand_at, sum_over_at, primary_at, sum_at}
use Rattle.rbg_grammar.specs.declared.expression.Rank.TheVariants as ranks
use Rattle.rbg_grammar.specs.Grammar.{operator_of, IsOperator, IsFurtherOperand, further_operand, IsChain, chained, IsFactor, plain, minus, IsTerm, IsSumOver, IsNumberOrName, number as a_number, name as a_name, IsPrimary, IsSum}
use Rattle.rbg_grammar.proofs.Pieces.{Piece, Deep, Outcome}
use Rattle.rbg_grammar.proofs.Readers.{kind_of-is_symbol, one_of_read}
use Rattle.rbg_grammar.proofs.SharedOutcomes.{bind_same, map_outcome, seen_outcome, either_outcome, later, both_outcome, none_sample, no_bracket, one_of_piece, one_of_never, name_outcome, number_outcome, repeated_outcome, after_outcome, bracket_outcome}

operator_piece : (rank : Rank) (n : ℕ) {ts rest : List Lexeme} {o : Operator} → IsOperator rank ts o rest → Piece (IsOperator rank) n ts o rest
operator_piece ranks.Sum = one_of_piece (operator_of ranks.Sum) (no_bracket (operator_of ranks.Sum) refl refl refl refl refl refl)
operator_piece ranks.Product = one_of_piece (operator_of ranks.Product) (no_bracket (operator_of ranks.Product) refl refl refl refl refl refl)

module _ (rank : Rank) (Operand : List Lexeme → SpeltExpression → List Lexeme → Type 0) (n : ℕ) (operand operand' : List Lexeme → Reading SpeltExpression)
    (reads : (ts : List Lexeme) → Outcome Operand n ts (operand ts) (operand' ts)) where
  further_outcome : (ts : List Lexeme) → Outcome (IsFurtherOperand rank Operand) n ts (further_operand_at rank operand ts) (further_operand_at rank operand' ts)
  unfolding further_operand_at
  further_outcome ts =
      bind_same (IsFurtherOperand rank Operand) n ts (one_of_at (operator_of rank) ts) (λ o. operand o.1 >>= λ e. Ok ((o.0, e.0), e.1)) (λ o. operand' o.1 >>= λ e. Ok ((o.0, e.0), e.1))
      (λ o mid k. later (IsOperator rank) Operand (IsFurtherOperand rank Operand) (λ (o : Operator) (e : SpeltExpression). (o, e)) (λ ts o mid e rest d k. further_operand d k) n ts o mid
      (operator_piece rank n ((one_of_read (operator_of rank)).sound ts o mid k)) (operand mid) (operand' mid) (reads mid))
      (one_of_never (operator_of rank) ts)

  chain_outcome : (ts : List Lexeme) → Outcome (IsChain rank Operand) n ts (chain_at rank operand ts) (chain_at rank operand' ts)
  unfolding chain_at
  chain_outcome ts =
      both_outcome Operand (Repeated (IsFurtherOperand rank Operand)) (IsChain rank Operand) (λ (e : SpeltExpression) (os : List SpeltOperand). in_chain ((first_of rank, e) ∷ os))
      (λ ts x mid os rest d more. chained d more) n (none_sample (IsFurtherOperand rank Operand)) ts
      (operand ts) (operand' ts) (repeated_at (is_operator rank) (further_operand_at rank operand)) (repeated_at (is_operator rank) (further_operand_at rank operand')) (reads ts)
      (repeated_outcome (IsFurtherOperand rank Operand) n (further_operand_at rank operand) (further_operand_at rank operand') further_outcome (is_operator rank))

module _ (Primary : List Lexeme → SpeltExpression → List Lexeme → Type 0) (n : ℕ) (primary primary' : List Lexeme → Reading SpeltExpression) (reads : (ts : List Lexeme) → Outcome Primary n ts (primary ts) (primary' ts)) where
  factor_outcome : (ts : List Lexeme) → Outcome (IsFactor Primary) n ts (factor_at primary ts) (factor_at primary' ts)
  unfolding factor_at
  factor_outcome ts = go (next_is (is_symbol Minus) ts)
    where
      go : (b : Bool) → Outcome (IsFactor Primary) n ts (cond {A = Reading SpeltExpression} b (after_at Minus primary ts >>= λ f. Ok (SpeltExpression.negated f.0, f.1)) (primary ts))
          (cond {A = Reading SpeltExpression} b (after_at Minus primary' ts >>= λ f. Ok (SpeltExpression.negated f.0, f.1)) (primary' ts))
      go true = map_outcome (After Minus Primary) (IsFactor Primary) SpeltExpression.negated n (λ ts x rest d. minus d) ts (after_at Minus primary ts) (after_at Minus primary' ts)
          (after_outcome Primary n primary primary' reads Minus refl refl ts)
      go false = seen_outcome Primary (IsFactor Primary) n (λ ts x rest d. plain d) ts (primary ts) (primary' ts) (reads ts)

  sum_over_outcome : (ts : List Lexeme) → Outcome (IsSumOver Primary) n ts (sum_over_at primary ts) (sum_over_at primary' ts)
  sum_over_outcome =
      chain_outcome ranks.Sum (IsTerm Primary) n (operand_at ranks.Sum primary) (operand_at ranks.Sum primary')
      (chain_outcome ranks.Product (IsFactor Primary) n (factor_at primary) (factor_at primary') factor_outcome)

number_or_name_outcome : (n : ℕ) (ts : List Lexeme) → Outcome IsNumberOrName n ts (number_or_name_at ts) (number_or_name_at ts)
unfolding number_or_name_at
number_or_name_outcome n ts = go (next_is is_number_kind ts)
  where
    go : (b : Bool) → Outcome IsNumberOrName n ts
        (cond {A = Reading SpeltExpression} b (number_at ts >>= λ n. Ok (SpeltExpression.number n.0, n.1)) (name_at ts >>= λ n. Ok (SpeltExpression.name n.0, n.1)))
        (cond {A = Reading SpeltExpression} b (number_at ts >>= λ n. Ok (SpeltExpression.number n.0, n.1)) (name_at ts >>= λ n. Ok (SpeltExpression.name n.0, n.1)))
    go true = map_outcome IsNumber IsNumberOrName SpeltExpression.number n (λ ts x rest d. a_number d) ts (number_at ts) (number_at ts) (number_outcome n ts)
    go false = map_outcome IsName IsNumberOrName SpeltExpression.name n (λ ts x rest d. a_name d) ts (name_at ts) (name_at ts) (name_outcome n ts)

-- the name a as a sum
abbrev pub a_token : Lexeme
a_token = record { kind = kinds.Name; text = 97 ∷ []; at = 0 }

name_spells_sum : (Primary : List Lexeme → SpeltExpression → List Lexeme → Type 0) → ((ts : List Lexeme) (e : SpeltExpression) (rest : List Lexeme) → IsNumberOrName ts e rest → Primary ts e rest)
    → (t : Lexeme) → t.kind ≡ kinds.Name → (tail : List Lexeme) → IsSumOver Primary (t ∷ tail) (SpeltExpression.name (record { text = t.text; at = t.at })) tail
name_spells_sum Primary see t k tail = chained (chained (plain (see (t ∷ tail) _ tail (a_name (name k)))) done) done

number_or_name_primary : (n : ℕ) (ts : List Lexeme) (e : SpeltExpression) (rest : List Lexeme) → IsNumberOrName ts e rest → IsPrimary n ts e rest
number_or_name_primary zero ts e rest d = d
number_or_name_primary (suc n) ts e rest d = inl d

pub name_sum : (n : ℕ) (t : Lexeme) → t.kind ≡ kinds.Name → (tail : List Lexeme) → IsSum n (t ∷ tail) (SpeltExpression.name (record { text = t.text; at = t.at })) tail
name_sum n t k tail = name_spells_sum (IsPrimary n) (number_or_name_primary n) t k tail

group_spells : (t a c : Lexeme) → t.kind ≡ kinds.Symbol OpenParenthesis → a.kind ≡ kinds.Name → c.kind ≡ kinds.Symbol CloseParenthesis → (tail : List Lexeme)
    → IsPrimary 1 (t ∷ a ∷ c ∷ tail) (SpeltExpression.name (record { text = a.text; at = a.at })) tail
group_spells t a c k named l tail = inr (within (symbol k) (name_sum 0 a named (c ∷ tail)) (symbol l))

abbrev closing_token : Lexeme
closing_token = record { kind = kinds.Symbol CloseParenthesis; text = []; at = 0 }

-- by how many brackets may be open at once
deep_primary : (t : Lexeme) (ts : List Lexeme) → t.kind ≡ kinds.Symbol OpenParenthesis → Deep (IsPrimary 1) 0 t.at (t ∷ ts)
deep_primary t ts k = record {
  before = [];
  bracket = t;
  beyond = ts;
  other = a_token ∷ closing_token ∷ [];
  value = SpeltExpression.name (record { text = a_token.text; at = a_token.at });
  whole = refl;
  place = refl;
  is_bracket = ap opens k;
  depth = λ j. omega arith;
  fits = λ j. tt;
  spells = λ tail. group_spells t a_token closing_token k refl refl tail;
}

module _ (n : ℕ) (reads : (ts : List Lexeme) → Outcome (IsPrimary (suc n)) n ts (primary_at n ts) (primary_at (suc n) ts)) where
  group_outcome : (ts : List Lexeme) → Outcome (Within OpenParenthesis CloseParenthesis (IsSum (suc n))) (suc n) ts
      (within_at OpenParenthesis CloseParenthesis (sum_over_at (primary_at n)) ts) (within_at OpenParenthesis CloseParenthesis (sum_over_at (primary_at (suc n))) ts)
  unfolding within_at
  group_outcome =
      bracket_outcome OpenParenthesis CloseParenthesis refl refl refl (IsSum (suc n)) (Within OpenParenthesis CloseParenthesis (IsSum (suc n))) (λ (at : ℕ) (e : SpeltExpression). e)
      (λ ts at first x last end rest d e f. within d e f) n (sum_over_at (primary_at n)) (sum_over_at (primary_at (suc n)))
      (sum_over_outcome (IsPrimary (suc n)) n (primary_at n) (primary_at (suc n)) reads)

none_outcome : (ts : List Lexeme) → Outcome (IsPrimary 1) 0 ts (primary_at 0 ts) (primary_at 1 ts)
unfolding primary_at
none_outcome [] = seen_outcome IsNumberOrName (IsPrimary 1) 0 (λ ts x rest d. inl d) [] (number_or_name_at []) (number_or_name_at []) (number_or_name_outcome 0 [])
none_outcome (t ∷ ts) = go (is_symbol OpenParenthesis t.kind) refl
  where
    go : (b : Bool) → is_symbol OpenParenthesis t.kind ≡ b → Outcome (IsPrimary 1) 0 (t ∷ ts)
        (cond {A = Reading SpeltExpression} b (Err (too_deep t.at)) (number_or_name_at (t ∷ ts)))
        (cond {A = Reading SpeltExpression} b (within_at OpenParenthesis CloseParenthesis (sum_over_at (primary_at 0)) (t ∷ ts)) (number_or_name_at (t ∷ ts)))
    go true e = deep_primary t ts (kind_of-is_symbol OpenParenthesis t.kind e)
    go false e = seen_outcome IsNumberOrName (IsPrimary 1) 0 (λ ts x rest d. inl d) (t ∷ ts) (number_or_name_at (t ∷ ts)) (number_or_name_at (t ∷ ts)) (number_or_name_outcome 0 (t ∷ ts))

primary_outcome : (n : ℕ) (ts : List Lexeme) → Outcome (IsPrimary (suc n)) n ts (primary_at n ts) (primary_at (suc n) ts)
unfolding primary_at
primary_outcome zero ts = none_outcome ts
primary_outcome (suc n) ts =
    either_outcome (Within OpenParenthesis CloseParenthesis (IsSum (suc n))) IsNumberOrName (IsPrimary (suc (suc n))) (suc n) (λ ts x rest d. inr d) (λ ts x rest d. inl d) ts
    (next_is (is_symbol OpenParenthesis) ts) (within_at OpenParenthesis CloseParenthesis (sum_over_at (primary_at n)) ts) (within_at OpenParenthesis CloseParenthesis (sum_over_at (primary_at (suc n))) ts)
    (number_or_name_at ts) (number_or_name_at ts) (group_outcome n (primary_outcome n) ts) (number_or_name_outcome (suc n) ts)

pub sum_outcome : (n : ℕ) (ts : List Lexeme) → Outcome (IsSum (suc n)) n ts (sum_at n ts) (sum_at (suc n) ts)
unfolding sum_at
sum_outcome n = sum_over_outcome (IsPrimary (suc n)) n (primary_at n) (primary_at (suc n)) (primary_outcome n)
