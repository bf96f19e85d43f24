-- The examples, by what is read of their tokens.
use Rattle.std.proofs.Common.{◌≡◌, ℕ, zero, suc, List, [], ◌∷◌, Some, Result, Ok, Err, ◌++◌, refl, ap, sym, ◌∙◌, subst, arith}
use Rattle.rbg_macro.specs.Token.{Lexeme}
use Rattle.rbg_macro.specs.declared.token.Symbol.TheVariants as symbols
use Rattle.rbg_grammar.proofs.Common.{sign, signs, letter, letter_name, in_parentheses, SumInParentheses, NegatedFactor, StarredAssignments, DeepestBrackets, TooManyBrackets, TwoStars, TwoMinuses, TooDeepAlone, MisspeltAlone, Fault, misfit, too_deep, symbol_at, name_at, one_of_at, repeated_at, after_at, separated_at, within_at, open_atom_at, whole_at, number_or_name_at, factor_at, further_operand_at, chain_at, primary_at, sum_at, assignment_at, assignments_at, in_brackets_at, bracket_atom_at, item_at, sequence_at, rules_over_at, atom_at, rules_at, SpeltRule, act, shift, star, AreRules, IsSpelt, open_after}
use Rattle.rbg_macro.specs.declared.source.SectionKind.TheVariants.{Rules}
use Rattle.rbg_grammar.proofs.Depths.{spells_nothing, too_deep_here, one_too_deep}
use Rattle.rbg_grammar.proofs.Readers.{ok_one}
use Rattle.rbg_grammar.proofs.RuleReaders.{rules_read, nothing_ends_rules}
use Rattle.rbg_grammar.proofs.SumReaders.{sum_read, EndsSum, ends_sum}

nothing_ends_sum : EndsSum []
nothing_ends_sum = ends_sum [] refl refl

pub sum_in_parentheses : SumInParentheses
unfolding sum_at chain_at further_operand_at one_of_at factor_at primary_at number_or_name_at symbol_at name_at repeated_at after_at within_at
sum_in_parentheses = (sum_read 128).sound _ _ [] refl

pub negated_factor : NegatedFactor
unfolding sum_at chain_at further_operand_at one_of_at factor_at primary_at number_or_name_at symbol_at name_at repeated_at after_at within_at
negated_factor = (sum_read 128).sound _ _ [] refl

pub starred_assignments : StarredAssignments
unfolding rules_at atom_at rules_over_at sequence_at item_at bracket_atom_at in_brackets_at assignments_at assignment_at open_atom_at separated_at sum_at chain_at further_operand_at one_of_at factor_at primary_at number_or_name_at symbol_at name_at repeated_at after_at within_at
starred_assignments = (rules_read 128).sound _ _ [] refl

pub deepest_brackets : DeepestBrackets
unfolding rules_at atom_at rules_over_at sequence_at item_at bracket_atom_at open_atom_at separated_at symbol_at name_at repeated_at after_at within_at
deepest_brackets = (rules_read 128).sound _ _ [] refl

err_no_ok : {A : Type 0} (r : Result A Fault) (f : Fault) (x : A) → r ≡ Err f → r ≡ Ok x → ⊥
err_no_ok r f x e g = cc

pub too_many_brackets : TooManyBrackets
unfolding rules_at atom_at rules_over_at sequence_at item_at bracket_atom_at open_atom_at separated_at symbol_at name_at repeated_at after_at within_at
too_many_brackets r d = err_no_ok (rules_at 128 (in_parentheses 129)) (too_deep 128) (r, []) refl ((rules_read 128).complete (in_parentheses 129) r [] d nothing_ends_rules)

-- what is left of tokens is one list
one_rest : (n : ℕ) (x y : SpeltRule) (ts us : List Lexeme) → rules_at n ts ≡ Ok (x, us) → rules_at n ts ≡ Ok (y, []) → us ≡ []
one_rest n x y ts us e f = ap (λ (q : SpeltRule × List Lexeme). q.1) (ok_one (x, us) (y, []) (sym e ∙ f))

abbrev stars : List Lexeme
stars = letter 97 0 ∷ sign symbols.Star 1 ∷ sign symbols.Star 2 ∷ []

abbrev starred_a : SpeltRule
starred_a = star (act (shift (letter_name 97 0)))

pub two_stars : TwoStars
unfolding rules_at atom_at rules_over_at sequence_at item_at open_atom_at separated_at symbol_at name_at repeated_at after_at
two_stars zero r d =
    let wrong : sign symbols.Star 2 ∷ [] ≡ [] = one_rest zero starred_a r stars (sign symbols.Star 2 ∷ []) refl ((rules_read zero).complete stars r [] d nothing_ends_rules) in
    cc
two_stars (suc n) r d =
    let wrong : sign symbols.Star 2 ∷ [] ≡ [] = one_rest (suc n) starred_a r stars (sign symbols.Star 2 ∷ []) refl ((rules_read (suc n)).complete stars r [] d nothing_ends_rules) in
    cc

abbrev minuses : List Lexeme
minuses = sign symbols.Minus 0 ∷ sign symbols.Minus 1 ∷ letter 97 2 ∷ []

pub two_minuses : TwoMinuses
unfolding sum_at chain_at factor_at primary_at number_or_name_at symbol_at name_at after_at
two_minuses zero e d = err_no_ok (sum_at zero minuses) (misfit (Some 1)) (e, []) refl ((sum_read zero).complete minuses e [] d nothing_ends_sum)
two_minuses (suc n) e d = err_no_ok (sum_at (suc n) minuses) (misfit (Some 1)) (e, []) refl ((sum_read (suc n)).complete minuses e [] d nothing_ends_sum)

pub too_deep_alone : TooDeepAlone
unfolding whole_at rules_at atom_at rules_over_at sequence_at item_at bracket_atom_at open_atom_at separated_at symbol_at name_at repeated_at after_at within_at
too_deep_alone = record {
  deep = too_deep_here 128 (in_parentheses 129) refl;
  only = λ at deep. one_too_deep (in_parentheses 129) at 128 deep (too_deep_here 128 (in_parentheses 129) refl);
  spelt = (rules_read 129).sound _ _ [] refl;
}

-- nothing begins with a closing parenthesis
closing_misfit : (ts : List Lexeme) → whole_at (rules_at 0) (sign symbols.CloseParenthesis 0 ∷ ts) ≡ Err (misfit (Some 0))
unfolding whole_at rules_at atom_at rules_over_at sequence_at item_at open_atom_at separated_at symbol_at
closing_misfit ts = refl

closing_spells_nothing : (k : ℕ) (ts : List Lexeme) (r : SpeltRule) → AreRules k (sign symbols.CloseParenthesis 0 ∷ ts) r [] → ⊥
closing_spells_nothing k ts r d = spells_nothing 0 k (sign symbols.CloseParenthesis 0 ∷ ts) r (Some 0) (closing_misfit ts) d

closing_not_deep : (ts before : List Lexeme) (bracket : Lexeme) (beyond rest : List Lexeme) → sign symbols.CloseParenthesis 0 ∷ ts ≡ before ++ bracket ∷ beyond → open_after 0 before ≡ 128
    → IsSpelt Rules (before ++ bracket ∷ rest) → ⊥
closing_not_deep ts [] bracket beyond rest whole depth spelt = absurd (omega (arith, depth))
closing_not_deep ts (t ∷ before) bracket beyond rest whole depth spelt =
    let first : sign symbols.CloseParenthesis 0 ≡ t = cc in
    closing_spells_nothing spelt.0 (before ++ bracket ∷ rest) spelt.1.0 (subst (λ u. AreRules spelt.0 (u ∷ (before ++ bracket ∷ rest)) spelt.1.0 []) (sym first) spelt.1.1)

pub misspelt_alone : MisspeltAlone
misspelt_alone = record {
  spells_nothing = λ k r d. closing_spells_nothing k (signs symbols.OpenParenthesis 1 129) r d;
  not_deep = λ at h. closing_not_deep (signs symbols.OpenParenthesis 1 129) h.here.before h.here.token h.here.beyond h.other h.here.whole h.depth h.fits;
}
