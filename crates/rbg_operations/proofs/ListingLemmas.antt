-- Lemmas on what is listed.
use Rattle.std.proofs.Common.{◌≡◌, ◌≢◌, ◌⊎◌, ℕ, Bool, true, false, List, [], ◌∷◌, inl, inr, ap, refl, sym, ◌∙◌, subst, arith, Contains, Result, Ok, Err, OnOk, length, ◌==◌}
use Rattle.std.proofs.lemmas.Bool.{eqb-true, true≢false}
use Rattle.rbg_moves.specs.Listing.{IsListed}
use Rattle.rbg_moves.specs.declared.list.Listed.{Listed}
use Rattle.rbg_rules.specs.Meaning.{AbstractPlace, Finished, AbstractGame}
use Rattle.rbg_search.specs.declared.over.Over.{Over}
use Rattle.rbg_search.specs.declared.over.Over.TheVariants.{Deep, Wide}
use Rattle.rbg_operations.specs.Openings.{most_listed}

-- two facts of what is returned give a third
pub both_hold : {X Y : Type 0} (r : Result X Y) (P Q R : Type 0) → (P → Q → R) → OnOk r P → OnOk r Q → OnOk r R
both_hold (Ok x) P Q R give p q = give p q
both_hold (Err y) P Q R give p q = tt

-- no list
abbrev no_list : Over → Result Listed Over
no_list over = Err over

-- the error of a question above the limits
pub over_error : (over : Over) → (over ≡ Deep) ⊎ (over ≡ Wide) → (no_list over ≡ no_list Deep) ⊎ (no_list over ≡ no_list Wide)
over_error over (inl deep) = inl (ap no_list deep)
over_error over (inr wide) = inr (ap no_list wide)

nothing_in : {X : Type 0} (x : X) → Contains [] x → ⊥
nothing_in x there = omega (arith, there.1)

-- if no move is listed, none is legal
pub none_legal : (game : AbstractGame) (place : AbstractPlace) (moves : List (List (ℕ × ℕ))) (cut : Bool) → IsListed game place most_listed moves cut → moves ≡ [] → Finished game place
none_legal game place moves true listed none =
    let full : length moves ≡ 1000 = listed.full refl in
    let empty : length moves ≡ 0 = ap length none in
    absurd (let no : ⊥ = omega (arith, full, empty) in no)
none_legal game place moves false listed none = record {
  no_move = λ pairs to legal. nothing_in pairs (subst (λ list. Contains list pairs) none (listed.whole refl pairs (to, legal)));
}

-- nothing is left, or something
pub nothing_left : {X : Type 0} (rest : List X) (answer : Bool) → answer ≡ (length rest == 0) → answer ≡ true → rest ≡ []
nothing_left [] answer is holds = refl
nothing_left (x ∷ rest) answer is holds =
    let none : length (x ∷ rest) ≡ 0 = eqb-true (length (x ∷ rest)) 0 (sym is ∙ holds) in
    absurd (omega (arith, none))

pub something_left : {X : Type 0} (rest : List X) (answer : Bool) → answer ≡ (length rest == 0) → answer ≡ false → rest ≢ []
something_left rest answer is fails = λ none.
    let holds : (length rest == 0) ≡ true = ap (λ left. length left == 0) none in
    true≢false (sym holds ∙ (sym is ∙ fails))
