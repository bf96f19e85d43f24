-- Parts by their fields, and what is left to be cut after them.
use Rattle.std.proofs.Common.{◌≡◌, ℕ, suc, ◌+◌, ◌-◌, ◌<◌, ◌≤◌, Bool, true, false, List, [], ◌∷◌, ◌++◌, length, map, take, drop, get_or, ap, ◌∙◌, sym, subst, append_assoc, arith, if◌then◌else◌}
use Rattle.std.proofs.lemmas.Bool.{true≢false}
use Rattle.std.proofs.lemmas.List.{take_rest, length-drop, map-append}
use Rattle.std.proofs.Math.Seq.{drop-cons, drop-drop}
use Rattle.rbg_macro.specs.declared.token.Token.{Token}
use Rattle.rbg_warnings.specs.Actions.{AreCut, action, none, IsPart, single, to_player, to_nobody, pattern, braces, open_braces, change, open_change, between, marks_pattern}

-- an action with this many further tokens
pub told : (t : Token) (ts : List Token) (is_action : Bool) (m n : ℕ) → is_action ≡ true → m ≡ n → IsPart t ts true n → IsPart t ts is_action m
told t ts is_action m n is same part = rw is (rw same part)

marked : (ts : List Token) → marks_pattern ts ≡ true → 1 ≤ length ts
marked [] is = absurd (true≢false (sym is))
marked (t ∷ ts) is = omega arith

-- the further tokens are there
pub within : (t : Token) (ts : List Token) (is_action : Bool) (n : ℕ) → IsPart t ts is_action n → n ≤ length ts
within t ts _ _ (single _) = omega arith
within t ts _ _ (to_player _ some) = omega (arith, some)
within t ts _ _ (to_nobody _ _) = omega arith
within t ts _ _ (pattern _ is) = marked ts is
within t ts _ _ (braces _ _ first) = omega (arith, first.within)
within t ts _ _ (open_braces _ _ _) = omega arith
within t ts _ _ (change _ first) = omega (arith, first.within)
within t ts _ _ (open_change _ _) = omega arith
within t ts _ _ (between _ _ _ _) = omega arith

-- what is no action is one token
alone : (t : Token) (ts : List Token) (found : List (List Token)) (n : ℕ) → IsPart t ts false n → AreCut (drop n ts) found → AreCut (t ∷ ts) found
alone t ts found _ (to_nobody is ends) cut = none (to_nobody is ends) cut
alone t ts found _ (between a b c d) cut = none (between a b c d) cut

-- one part more
pub step : (rules : List Token) (at further : ℕ) (is_action : Bool) (t : Token) (after tokens : List Token) (old new : List (List Token)) → drop at rules ≡ t ∷ after → drop (at + 1 + further) rules ≡ drop further after → tokens ≡ t ∷ take further after → IsPart t after is_action further → new ≡ (if is_action then old ++ tokens ∷ [] else old) → ((more : List (List Token)) → AreCut (drop at rules) more → AreCut rules (old ++ more)) → (more : List (List Token)) → AreCut (drop (at + 1 + further) rules) more → AreCut rules (new ++ more)
step rules at further true t after tokens old new here next are part grown so_far more cut =
    let rest : AreCut (drop further after) more = subst (λ ts. AreCut ts more) next cut in
    let one : AreCut (drop at rules) ((t ∷ take further after) ∷ more) = subst (λ ts. AreCut ts ((t ∷ take further after) ∷ more)) (sym here) (action part rest) in
    rw grown (rw are (subst (AreCut rules) (sym (append_assoc old ((t ∷ take further after) ∷ []) more)) (so_far _ one)))
step rules at further false t after tokens old new here next are part grown so_far more cut =
    let rest : AreCut (drop further after) more = subst (λ ts. AreCut ts more) next cut in
    rw grown (so_far more (subst (λ ts. AreCut ts more) (sym here) (alone t after more further part rest)))

-- the part after an index is there
pub within_rest : (rules : List Token) (at : ℕ) (t : Token) (is_action : Bool) (n : ℕ) → at < length rules → IsPart t (take (length rules - (at + 1)) (drop (at + 1) rules)) is_action n → at + 1 + n ≤ length rules
within_rest rules at t is_action n below part =
    let there : n ≤ length (drop (at + 1) rules) = rw (sym (take_rest rules (at + 1))) (within t _ is_action n part) in
    omega (arith, below, rw (length-drop (at + 1) rules) at there)

-- one part more, of the tokens at an index
pub step_at : (rules : List Token) (at further : ℕ) (is_action : Bool) (d : Token) (tokens : List Token) (old new : List (List Token)) → at < length rules → tokens ≡ take (at + 1 + further - at) (drop at rules) → IsPart (get_or rules at d) (take (length rules - (at + 1)) (drop (at + 1) rules)) is_action further → new ≡ (if is_action then old ++ tokens ∷ [] else old) → ((more : List (List Token)) → AreCut (drop at rules) more → AreCut rules (old ++ more)) → (more : List (List Token)) → AreCut (drop (at + 1 + further) rules) more → AreCut rules (new ++ more)
step_at rules at further is_action d tokens old new below are part grown so_far =
    let rest : take (length rules - (at + 1)) (drop (at + 1) rules) ≡ drop (at + 1) rules = take_rest rules (at + 1) in
    let one : suc at ≡ at + 1 = omega arith in
    let here : drop at rules ≡ get_or rules at d ∷ drop (at + 1) rules = rw one at (drop-cons rules at d below) in
    let count : at + 1 + further - at ≡ suc further = omega arith in
    let whole : tokens ≡ get_or rules at d ∷ take further (drop (at + 1) rules) = are ∙ (rw count (ap (take (suc further)) here)) in
    step rules at further is_action (get_or rules at d) (drop (at + 1) rules) tokens old new here (sym (drop-drop further (at + 1) rules)) whole (subst (λ ts. IsPart (get_or rules at d) ts is_action further) rest part) grown so_far

-- the actions so far, by what they refer to
pub grown : {A B : Type 0} (f : A → B) (is_action : Bool) (old new : List A) (x : A) → new ≡ (if is_action then old ++ x ∷ [] else old) → map f new ≡ (if is_action then map f old ++ f x ∷ [] else map f old)
grown f true old new x is = ap (map f) is ∙ map-append f old (x ∷ [])
grown f false old new x is = ap (map f) is
