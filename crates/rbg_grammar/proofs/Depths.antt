-- Rules at all depths of brackets, from what is read at one.
use Rattle.std.proofs.Common.{◌≡◌, ◌≤◌, ◌+◌, ℕ, zero, suc, List, [], ◌∷◌, ◌++◌, true, Option, Result, Ok, Err, refl, sym, ap, ◌∙◌, subst, arith, append-nil}
use Rattle.rbg_macro.proofs.TextCommon.{Lexeme, opens}
use Rattle.rbg_grammar.proofs.Common.{AreRules, OneTooDeepLaw, IsTooDeep, open_with, open_after, SpeltRule, Fault, misfit, too_deep, Reading, ◌>>=◌, ended_at, whole_at, rules_at}
use Rattle.rbg_grammar.proofs.Nesting.{Fits, fits_bracket, front_fits, opened}
use Rattle.rbg_grammar.proofs.Pieces.{Piece, Deep, Outcome}
use Rattle.rbg_grammar.proofs.Readers.{ok_one}
use Rattle.rbg_grammar.proofs.RuleOutcomes.{rules_outcome}
use Rattle.rbg_grammar.proofs.RuleReaders.{rules_read, nothing_ends_rules}

outcome_of : (n : ℕ) (ts : List Lexeme) (r : Reading SpeltRule) → rules_at n ts ≡ r → Outcome (AreRules (suc n)) n ts r (rules_at (suc n) ts)
outcome_of n ts r e = subst (λ u. Outcome (AreRules (suc n)) n ts u (rules_at (suc n) ts)) e (rules_outcome n ts)

-- what is read is read with more brackets too, and so is what doesn't fit
more_ok : (n m : ℕ) (ts : List Lexeme) (q : SpeltRule × List Lexeme) → rules_at n ts ≡ Ok q → rules_at (m + n) ts ≡ Ok q
more_ok n zero ts q e = subst (λ k. rules_at k ts ≡ Ok q) (omega arith) e
more_ok n (suc m) ts q e = subst (λ k. rules_at k ts ≡ Ok q) (omega arith) ((outcome_of (m + n) ts (Ok q) (more_ok n m ts q e)).0)

more_misfit : (n m : ℕ) (ts : List Lexeme) (place : Option ℕ) → rules_at n ts ≡ Err (misfit place) → rules_at (m + n) ts ≡ Err (misfit place)
more_misfit n zero ts place e = subst (λ k. rules_at k ts ≡ Err (misfit place)) (omega arith) e
more_misfit n (suc m) ts place e = subst (λ k. rules_at k ts ≡ Err (misfit place)) (omega arith) (outcome_of (m + n) ts (Err (misfit place)) (more_misfit n m ts place e))

read_at_any : (n k : ℕ) (ts : List Lexeme) (r : SpeltRule) → AreRules k ts r [] → rules_at (k + n) ts ≡ Ok (r, [])
read_at_any n k ts r d = subst (λ j. rules_at j ts ≡ Ok (r, [])) (omega arith) (more_ok k n ts (r, []) ((rules_read k).complete ts r [] d nothing_ends_rules))

misfit_no_ok : {A : Type 0} (r : Result A Fault) (x : A) (place : Option ℕ) → r ≡ Err (misfit place) → r ≡ Ok x → ⊥
misfit_no_ok r x place e f = cc

ended_no_rest : (x : SpeltRule) (rest : List Lexeme) (place : Option ℕ) → ended_at x rest ≡ Err (misfit place) → rest ≡ [] → ⊥
ended_no_rest x [] place e same = cc
ended_no_rest x (t ∷ ts) place e same = cc

-- tokens that don't fit spell nothing at any depth
pub spells_nothing : (n k : ℕ) (ts : List Lexeme) (r : SpeltRule) (place : Option ℕ) → whole_at (rules_at n) ts ≡ Err (misfit place) → AreRules k ts r [] → ⊥
unfolding whole_at
spells_nothing n k ts r place e d = go (rules_at n ts) refl e
  where
    go : (v : Reading SpeltRule) → rules_at n ts ≡ v → (v >>= λ x. ended_at x.0 x.1) ≡ Err (misfit place) → ⊥
    go (Ok q) is e =
        let same : q ≡ (r, []) = ok_one q (r, []) (sym (more_ok n k ts q is) ∙ read_at_any n k ts r d) in
        ended_no_rest q.0 q.1 place e (ap (λ (p : SpeltRule × List Lexeme). p.1) same)
    go (Err (misfit at)) is e = misfit_no_ok (rules_at (k + n) ts) (r, []) at (more_misfit n k ts at is) (read_at_any n k ts r d)
    go (Err (too_deep at)) is e = cc

ended_never : {A : Type 0} (x : A) (rest : List Lexeme) (at : ℕ) → ended_at x rest ≡ Err (too_deep at) → ⊥
ended_never x [] at e = cc
ended_never x (t ∷ ts) at e = cc

deep_place : (n at : ℕ) (ts : List Lexeme) → whole_at (rules_at n) ts ≡ Err (too_deep at) → Deep (AreRules (suc n)) n at ts
unfolding whole_at
deep_place n at ts e = go (rules_at n ts) refl e
  where
    go : (v : Reading SpeltRule) → rules_at n ts ≡ v → (v >>= λ x. ended_at x.0 x.1) ≡ Err (too_deep at) → Deep (AreRules (suc n)) n at ts
    go (Ok q) is e = absurd (ended_never q.0 q.1 at e)
    go (Err (misfit place)) is e = cc
    go (Err (too_deep b)) is e =
        let same : b ≡ at = cc in
        subst (λ j. Deep (AreRules (suc n)) n j ts) same (outcome_of n ts (Err (too_deep b)) is)

-- a bracket that is one too many is the first that is opened while 128 are open, and rules may continue with it
pub too_deep_here : (at : ℕ) (ts : List Lexeme) → whole_at (rules_at 128) ts ≡ Err (too_deep at) → IsTooDeep ts at
too_deep_here at ts e = from 128 refl (deep_place 128 at ts e)
  where
    from : (n : ℕ) → n ≡ 128 → Deep (AreRules (suc n)) n at ts → IsTooDeep ts at
    from n same d = record {
      here = record { before = d.before; token = d.bracket; beyond = d.beyond; whole = d.whole; place = d.place };
      is_bracket = d.is_bracket;
      depth = d.depth 0 ∙ omega (arith, same);
      first = λ front rest is. let few : open_after 0 front ≤ 0 + n = front_fits (0 + n) 0 front rest (omega arith) (subst (λ us. Fits (0 + n) 0 us) is (d.fits 0)) in omega (arith, same, few);
      other = d.other ++ [];
      fits = (suc n, (d.value, d.spells []));
    }

-- two lists with a bracket after each front, if the fronts leave the same number of brackets open and neither leaves
-- more before
one_bracket : (m n : ℕ) (xs ys : List Lexeme) (x y : Lexeme) (us vs : List Lexeme) → xs ++ x ∷ us ≡ ys ++ y ∷ vs → opens x.kind ≡ true → opens y.kind ≡ true → open_after n xs ≡ m → open_after n ys ≡ m
    → ((front rest : List Lexeme) → xs ≡ front ++ rest → open_after n front ≤ m) → ((front rest : List Lexeme) → ys ≡ front ++ rest → open_after n front ≤ m) → x ≡ y
one_bracket m n [] [] x y us vs same is_x is_y depth_x depth_y first_x first_y = cc
one_bracket m n [] (b ∷ ys) x y us vs same is_x is_y depth_x depth_y first_x first_y =
    let head : x ≡ b = cc in
    let few : open_with n b.kind ≤ m = first_y (b ∷ []) ys refl in
    let more : open_with n b.kind ≡ n + 1 = opened n b.kind (subst (λ (t : Lexeme). opens t.kind ≡ true) head is_x) in
    absurd (omega (arith, few, more, depth_x))
one_bracket m n (a ∷ xs) [] x y us vs same is_x is_y depth_x depth_y first_x first_y =
    let head : a ≡ y = cc in
    let few : open_with n a.kind ≤ m = first_x (a ∷ []) xs refl in
    let more : open_with n a.kind ≡ n + 1 = opened n a.kind (subst (λ (t : Lexeme). opens t.kind ≡ true) (sym head) is_y) in
    absurd (omega (arith, few, more, depth_y))
one_bracket m n (a ∷ xs) (b ∷ ys) x y us vs same is_x is_y depth_x depth_y first_x first_y =
    let head : b ≡ a = cc in
    let tails : xs ++ x ∷ us ≡ ys ++ y ∷ vs = cc in
    let with_a : open_after (open_with n a.kind) ys ≡ m = subst (λ (t : Lexeme). open_after (open_with n t.kind) ys ≡ m) head depth_y in
    one_bracket m (open_with n a.kind) xs ys x y us vs tails is_x is_y depth_x with_a (λ front rest is. first_x (a ∷ front) rest (ap (λ ts. a ∷ ts) is))
    (λ front rest is. subst (λ (t : Lexeme). open_after (open_with n t.kind) front ≤ m) head (first_y (b ∷ front) rest (ap (λ ts. b ∷ ts) is)))

pub one_too_deep : OneTooDeepLaw
one_too_deep ts a b one other =
    let same = one_bracket 128 0 one.here.before other.here.before one.here.token other.here.token one.here.beyond other.here.beyond (sym one.here.whole ∙ other.here.whole) one.is_bracket other.is_bracket one.depth other.depth one.first other.first in
    sym one.here.place ∙ ap (λ (t : Lexeme). t.at) same ∙ other.here.place

-- if a bracket is opened too deep, nothing is spelt within the depth
no_bracket_above : (n : ℕ) (ts before : List Lexeme) (bracket : Lexeme) (beyond : List Lexeme) (r : SpeltRule) → ts ≡ before ++ bracket ∷ beyond → opens bracket.kind ≡ true → open_after 0 before ≡ n → AreRules n ts r [] → ⊥
no_bracket_above n ts before bracket beyond r whole is depth d =
    let piece : Piece (AreRules (suc n)) n ts r [] = (outcome_of n ts (Ok (r, [])) ((rules_read n).complete ts r [] d nothing_ends_rules)).1 in
    let nil : piece.used ++ [] ≡ piece.used = rw append-nil in
    let all : piece.used ≡ before ++ bracket ∷ beyond = sym nil ∙ sym piece.whole ∙ whole in
    let below = fits_bracket (0 + n) 0 before bracket beyond (subst (λ us. Fits (0 + n) 0 us) all (piece.fits 0)) is in
    omega (arith, below, depth)

pub too_deep_spells_nothing : (ts : List Lexeme) (at : ℕ) (r : SpeltRule) → IsTooDeep ts at → AreRules 128 ts r [] → ⊥
too_deep_spells_nothing ts at r deep d = no_bracket_above 128 ts deep.here.before deep.here.token deep.here.beyond r deep.here.whole deep.is_bracket deep.depth d
