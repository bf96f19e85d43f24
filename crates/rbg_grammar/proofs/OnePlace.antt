-- Tokens stop fitting at most at one place.
use Rattle.std.proofs.Common.{◌≡◌, ℕ, List, [], ◌∷◌, ◌++◌, sym, ap, ◌∙◌, subst, append_assoc, inl, inr}
use Rattle.rbg_macro.specs.Token.{Lexeme}
use Rattle.rbg_macro.specs.Sections.{SectionTokens}
use Rattle.rbg_macro.specs.declared.source.SectionKind.{SectionKind}
use Rattle.rbg_grammar.proofs.Common.{OnePlaceLaw, IsSpelt, CanGoOn, IsMisfit, EndsEarly}

-- two places of a list: the same, or one before the other
data Places (xs ys : List Lexeme) (x y : Lexeme) : Type 0 where
  same_place : x ≡ y → Places xs ys x y
  first_before : (mid : List Lexeme) → ys ≡ xs ++ x ∷ mid → Places xs ys x y
  second_before : (mid : List Lexeme) → xs ≡ ys ++ y ∷ mid → Places xs ys x y

beyond_both : (a b : Lexeme) (xs ys : List Lexeme) (x y : Lexeme) → a ≡ b → Places xs ys x y → Places (a ∷ xs) (b ∷ ys) x y
beyond_both a b xs ys x y head (same_place e) = same_place e
beyond_both a b xs ys x y head (first_before mid e) = first_before mid (λ i. sym head i ∷ e i)
beyond_both a b xs ys x y head (second_before mid e) = second_before mid (λ i. head i ∷ e i)

places : (xs ys : List Lexeme) (x y : Lexeme) (us vs : List Lexeme) → xs ++ x ∷ us ≡ ys ++ y ∷ vs → Places xs ys x y
places [] [] x y us vs e = let same : x ≡ y = cc in same_place same
places [] (b ∷ ys) x y us vs e = let head : b ≡ x = cc in first_before ys (ap (λ t. t ∷ ys) head)
places (a ∷ xs) [] x y us vs e = let head : a ≡ y = cc in second_before xs (ap (λ t. t ∷ xs) head)
places (a ∷ xs) (b ∷ ys) x y us vs e =
    let head : a ≡ b = cc in
    let tails : xs ++ x ∷ us ≡ ys ++ y ∷ vs = cc in
    beyond_both a b xs ys x y head (places xs ys x y us vs tails)

-- tokens that can continue could continue before their last ones were there
could_go_on : (kind : SectionKind) (xs : List Lexeme) (x : Lexeme) (mid ts : List Lexeme) → ts ≡ xs ++ x ∷ mid → CanGoOn kind ts → CanGoOn kind (xs ++ x ∷ [])
could_go_on kind xs x mid ts is goes =
    let same : ts ++ goes.0 ≡ (xs ++ x ∷ []) ++ (mid ++ goes.0) = ap (λ us. us ++ goes.0) is ∙ append_assoc xs (x ∷ mid) goes.0 ∙ sym (append_assoc xs (x ∷ []) (mid ++ goes.0)) in
    (mid ++ goes.0, subst (λ us. IsSpelt kind us) same goes.1)

one_misfit : (kind : SectionKind) (ts : List Lexeme) (a b : ℕ) → IsMisfit kind ts a → IsMisfit kind ts b → a ≡ b
one_misfit kind ts a b one other = go (places one.here.before other.here.before one.here.token other.here.token one.here.beyond other.here.beyond (sym one.here.whole ∙ other.here.whole))
  where
    go : Places one.here.before other.here.before one.here.token other.here.token → a ≡ b
    go (same_place e) = sym one.here.place ∙ ap (λ (t : Lexeme). t.at) e ∙ other.here.place
    go (first_before mid e) = absurd (one.refused (could_go_on kind one.here.before one.here.token mid other.here.before e other.fits))
    go (second_before mid e) = absurd (other.refused (could_go_on kind other.here.before other.here.token mid one.here.before e one.fits))

not_both : (kind : SectionKind) (section : SectionTokens) (a b : ℕ) → IsMisfit kind section.tokens a → EndsEarly kind section b → ⊥
not_both kind section a b one other = one.refused (could_go_on kind one.here.before one.here.token one.here.beyond section.tokens one.here.whole other.fits)

pub one_place : OnePlaceLaw
one_place kind section a b (inl one) (inl other) = one_misfit kind section.tokens a b one other
one_place kind section a b (inl one) (inr other) = absurd (not_both kind section a b one other)
one_place kind section a b (inr one) (inl other) = absurd (not_both kind section b a other one)
one_place kind section a b (inr one) (inr other) = sym one.place ∙ other.place
