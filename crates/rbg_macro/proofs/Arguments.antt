-- The arguments of a call, as the code cuts them.
use Rattle.std.proofs.Common.{ℕ, ◌≡◌, ◌+◌, ◌-◌, ◌<◌, ◌≤◌, Bool, true, false, cond, List, [], ◌∷◌, ◌++◌, length, get_or, take, drop, map, Option, None, Some, option_map, refl, sym, ap, ◌∙◌, arith, append_assoc, zero, suc, length-drop, drop-cons, Bor, slice_range}
use Rattle.std.proofs.Math.ListN.{drop_of_length-le}
use Rattle.std.proofs.lemmas.List.{map-append, append-nil, drop-map, length-map, get_or-drop, take_more}
use Rattle.rbg_macro.proofs.Common.{ReadToken, Arguments, arguments, arguments_by, nesting, Within, Cuts, Ends, Mismatched, closing, cutting, with_token, with_argument, AreArguments, lists_in, read_lexeme}
use Rattle.rbg_macro.specs.declared.token.TokenKind.{TokenKind}
use Rattle.rbg_macro.proofs.TextCommon.{opens, closes, is_symbol, Lexeme}
use Rattle.rbg_macro.specs.declared.token.Symbol.TheVariants as symbols

-- arguments with complete ones, and the beginning of one, before them
abbrev pub with_front : List (List Lexeme) → List Lexeme → Arguments → Arguments
with_front [] begun a = record a { first = begun ++ a.first }
with_front (d ∷ ds) begun a = record { first = d; others = ds ++ (begun ++ a.first) ∷ a.others; rest = a.rest }

-- the lists of arguments with a front
lists-with_front : (done : List (List Lexeme)) (begun : List Lexeme) (a : Arguments) →
    (with_front done begun a).first ∷ (with_front done begun a).others ≡ done ++ (begun ++ a.first) ∷ a.others
lists-with_front [] begun a = refl
lists-with_front (d ∷ ds) begun a = refl

rest-with_front : (done : List (List Lexeme)) (begun : List Lexeme) (a : Arguments) → (with_front done begun a).rest ≡ a.rest
rest-with_front [] begun a = refl
rest-with_front (d ∷ ds) begun a = refl

front_with_token : (done : List (List Lexeme)) (begun : List Lexeme) (t : Lexeme) (a : Arguments) → with_front done begun (with_token t a) ≡ with_front done (begun ++ t ∷ []) a
front_with_token [] begun t a =
    ap (λ (l : List Lexeme). let r : Arguments = record a { first = l } in r) (sym (append_assoc begun (t ∷ []) a.first))
front_with_token (d ∷ ds) begun t a =
    ap (λ (l : List Lexeme). let r : Arguments = record { first = d; others = ds ++ l ∷ a.others; rest = a.rest } in r) (sym (append_assoc begun (t ∷ []) a.first))

front_with_argument : (done : List (List Lexeme)) (begun : List Lexeme) (a : Arguments) → with_front done begun (with_argument a) ≡ with_front (done ++ begun ∷ []) [] a
front_with_argument [] begun a =
    ap (λ (l : List Lexeme). let r : Arguments = record { first = l; others = a.first ∷ a.others; rest = a.rest } in r) (append-nil begun)
front_with_argument (d ∷ ds) begun a =
    ap (λ (l : List (List Lexeme)). let r : Arguments = record { first = d; others = l; rest = a.rest } in r)
    (ap (λ (l : List Lexeme). ds ++ l ∷ a.first ∷ a.others) (append-nil begun) ∙ sym (append_assoc ds (begun ∷ []) (a.first ∷ a.others)))

-- how far the arguments were cut, and what is left
pub record HasCut (tokens : List ReadToken) (at further start : ℕ) (found : List (Bor (List ReadToken))) : Type 0 where
  pub within : at ≤ length tokens
  pub begun : start ≤ at
  pub nested : further ≤ at
  pub goes_on : arguments 0 (map read_lexeme tokens) ≡
      option_map (with_front (lists_in found) (map read_lexeme (slice_range tokens start at))) (arguments further (map read_lexeme (drop at tokens)))

no_front : (o : Option Arguments) → o ≡ option_map (with_front [] []) o
no_front None = refl
no_front (Some a) = refl

pub none_cut : (tokens : List ReadToken) → HasCut tokens 0 0 0 []
none_cut tokens = record { within = omega arith; begun = omega arith; nested = omega arith; goes_on = no_front (arguments 0 (map read_lexeme tokens)) }

-- a part that ends one element later
range_more : (tokens : List ReadToken) (start at : ℕ) (d : ReadToken) → start ≤ at → at < length tokens →
    slice_range tokens start (at + 1) ≡ slice_range tokens start at ++ get_or tokens at d ∷ []
range_more tokens start at d begun below =
    let longer : at + 1 - start ≡ at - start + 1 = omega arith in
    let room : at - start < length (drop start tokens) = omega (arith, length-drop start tokens) in
    let place : start + (at - start) ≡ at = omega arith in
    ap (λ (n : ℕ). take n (drop start tokens)) longer
    ∙ take_more (drop start tokens) (at - start) d room
    ∙ ap (λ (t : ReadToken). slice_range tokens start at ++ t ∷ []) (get_or-drop start tokens (at - start) d ∙ ap (λ (i : ℕ). get_or tokens i d) place)

empty_range : (tokens : List ReadToken) (at : ℕ) → slice_range tokens at at ≡ []
empty_range tokens at =
    let none : at - at ≡ 0 = omega arith in
    ap (λ (n : ℕ). take n (drop at tokens)) none ∙ take-zero (drop at tokens)
  where
    take-zero : (ts : List ReadToken) → take 0 ts ≡ []
    take-zero [] = refl
    take-zero (t ∷ ts) = refl

-- what the arguments are from a token on
arguments_at : (tokens : List ReadToken) (at further : ℕ) (d : ReadToken) → at < length tokens →
    arguments further (map read_lexeme (drop at tokens)) ≡
    arguments_by (nesting (get_or tokens at d).kind further) (read_lexeme (get_or tokens at d)) (map read_lexeme (drop (at + 1) tokens))
    (λ n. arguments n (map read_lexeme (drop (at + 1) tokens)))
arguments_at tokens at further d below =
    let next : suc at ≡ at + 1 = omega arith in
    ap (λ ts. arguments further (map read_lexeme ts)) (drop-cons tokens at d below ∙ ap (λ (n : ℕ). get_or tokens at d ∷ drop n tokens) next)

-- a token leaves at most one more bracket open
nested_within : (kind : TokenKind) (further n : ℕ) → nesting kind further ≡ Within n → n ≤ further + 1
nested_within kind further n is = by_tests (opens kind) (closes kind) (is_symbol symbols.Semicolon kind) (is_symbol symbols.CloseParenthesis kind) further is
  where
    by_tests : (o c s p : Bool) (f : ℕ) → cond o (Within (f + 1)) (cond c (closing kind f) (cond s (cutting f) (Within f))) ≡ Within n → n ≤ f + 1
    by_tests true c s p f is = let same : f + 1 ≡ n = cc in omega arith
    by_tests false true s p zero is = by_parenthesis (is_symbol symbols.CloseParenthesis kind) is
      where
        by_parenthesis : (b : Bool) → cond b Ends Mismatched ≡ Within n → n ≤ 0 + 1
        by_parenthesis true e = cc
        by_parenthesis false e = cc
    by_tests false true s p (suc f) is = let same : f ≡ n = cc in omega arith
    by_tests false false true p zero is = cc
    by_tests false false true p (suc f) is = let same : suc f ≡ n = cc in omega arith
    by_tests false false false p f is = let same : f ≡ n = cc in omega arith

-- a token cuts only if no further bracket is open
nested_cut : (kind : TokenKind) (further : ℕ) → nesting kind further ≡ Cuts → further ≡ 0
nested_cut kind zero is = refl
nested_cut kind (suc further) is = absurd (by_tests (opens kind) (closes kind) (is_symbol symbols.Semicolon kind) is)
  where
    by_tests : (o c s : Bool) → cond o (Within (suc further + 1)) (cond c (Within further) (cond s (Within (suc further)) (Within (suc further)))) ≡ Cuts → ⊥
    by_tests true c s is = cc
    by_tests false true s is = cc
    by_tests false false true is = cc
    by_tests false false false is = cc

option_map_both : {A B : Type 0} (f g : A → B) (o : Option A) → ((a : A) → f a ≡ g a) → option_map f o ≡ option_map g o
option_map_both f g None same = refl
option_map_both f g (Some a) same = ap Some (same a)

option_map_twice : {A B C : Type 0} (f : B → C) (g : A → B) (o : Option A) → option_map f (option_map g o) ≡ option_map (λ a. f (g a)) o
option_map_twice f g None = refl
option_map_twice f g (Some a) = refl

pub cut_within : (tokens : List ReadToken) (at further start n : ℕ) (d : ReadToken) (found : List (Bor (List ReadToken))) → HasCut tokens at further start found →
    at < length tokens → Within n ≡ nesting (get_or tokens at d).kind further → HasCut tokens (at + 1) n start found
cut_within tokens at further start n d found so_far below is = record {
  within = omega arith;
  begun = omega (arith, so_far.begun);
  nested = omega (arith, so_far.nested, nested_within (get_or tokens at d).kind further n (sym is));
  goes_on =
      let t : Lexeme = read_lexeme (get_or tokens at d) in
      let begun : List Lexeme = map read_lexeme (slice_range tokens start at) in
      let left : Option Arguments = arguments n (map read_lexeme (drop (at + 1) tokens)) in
      let here : arguments further (map read_lexeme (drop at tokens)) ≡ option_map (with_token t) left =
      arguments_at tokens at further d below ∙ rw (← is) refl in
      let longer : map read_lexeme (slice_range tokens start (at + 1)) ≡ begun ++ t ∷ [] =
      ap (map read_lexeme) (range_more tokens start at d so_far.begun below) ∙ map-append read_lexeme (slice_range tokens start at) (get_or tokens at d ∷ []) in
      so_far.goes_on
      ∙ ap (option_map (with_front (lists_in found) begun)) here
      ∙ option_map_twice (with_front (lists_in found) begun) (with_token t) left
      ∙ option_map_both (λ a. with_front (lists_in found) begun (with_token t a)) (with_front (lists_in found) (begun ++ t ∷ [])) left (front_with_token (lists_in found) begun t)
      ∙ rw (← longer) refl;
}

pub cut_apart : (tokens : List ReadToken) (at further start : ℕ) (d : ReadToken) (argument : Bor (List ReadToken)) (found new : List (Bor (List ReadToken))) → HasCut tokens at further start found →
    at < length tokens → Cuts ≡ nesting (get_or tokens at d).kind further → argument.now ≡ slice_range tokens start at → new ≡ found ++ argument ∷ [] →
    HasCut tokens (at + 1) further (at + 1) new
cut_apart tokens at further start d argument found new so_far below is cut added = record {
  within = omega arith;
  begun = omega arith;
  nested = omega (arith, so_far.nested);
  goes_on =
      let none = nested_cut (get_or tokens at d).kind further (sym is) in
      let t : Lexeme = read_lexeme (get_or tokens at d) in
      let begun : List Lexeme = map read_lexeme (slice_range tokens start at) in
      let left : Option Arguments = arguments 0 (map read_lexeme (drop (at + 1) tokens)) in
      let here : arguments further (map read_lexeme (drop at tokens)) ≡ option_map with_argument left =
      arguments_at tokens at further d below ∙ rw (← is) refl in
      let more : lists_in new ≡ lists_in found ++ begun ∷ [] =
      ap lists_in added ∙ map-append (λ (l : Bor (List ReadToken)). map read_lexeme l.now) found (argument ∷ [])
      ∙ ap (λ ts. lists_in found ++ map read_lexeme ts ∷ []) cut in
      so_far.goes_on
      ∙ ap (option_map (with_front (lists_in found) begun)) here
      ∙ option_map_twice (with_front (lists_in found) begun) with_argument left
      ∙ option_map_both (λ a. with_front (lists_in found) begun (with_argument a)) (with_front (lists_in found ++ begun ∷ []) []) left (front_with_argument (lists_in found) begun)
      ∙ rw (← more, empty_range tokens (at + 1), none) refl;
}

pub cut_ends : (tokens : List ReadToken) (at further start : ℕ) (d : ReadToken) (argument : Bor (List ReadToken)) (found new : List (Bor (List ReadToken))) → HasCut tokens at further start found →
    at < length tokens → Ends ≡ nesting (get_or tokens at d).kind further → argument.now ≡ slice_range tokens start at → new ≡ found ++ argument ∷ [] →
    AreArguments (map read_lexeme tokens) (lists_in new) (at + 1)
cut_ends tokens at further start d argument found new so_far below is cut added =
    let begun : List Lexeme = map read_lexeme (slice_range tokens start at) in
    let last : Arguments = record { first = []; others = []; rest = map read_lexeme (drop (at + 1) tokens) } in
    let here : arguments further (map read_lexeme (drop at tokens)) ≡ Some last = arguments_at tokens at further d below ∙ rw (← is) refl in
    let more : lists_in new ≡ lists_in found ++ begun ∷ [] =
    ap lists_in added ∙ map-append (λ (l : Bor (List ReadToken)). map read_lexeme l.now) found (argument ∷ [])
    ∙ ap (λ ts. lists_in found ++ map read_lexeme ts ∷ []) cut in
    record {
      found = with_front (lists_in found) begun last;
      is_found = so_far.goes_on ∙ ap (option_map (with_front (lists_in found) begun)) here;
      are = more ∙ ap (λ (l : List Lexeme). lists_in found ++ l ∷ []) (sym (append-nil begun)) ∙ sym (lists-with_front (lists_in found) begun last);
      rest = rest-with_front (lists_in found) begun last ∙ sym (drop-map read_lexeme (at + 1) tokens);
      within = omega (arith, length-map tokens read_lexeme);
    }

pub cut_mismatched : (tokens : List ReadToken) (at further start : ℕ) (d : ReadToken) (found : List (Bor (List ReadToken))) → HasCut tokens at further start found →
    at < length tokens → Mismatched ≡ nesting (get_or tokens at d).kind further → arguments 0 (map read_lexeme tokens) ≡ None
cut_mismatched tokens at further start d found so_far below is =
    so_far.goes_on ∙ rw (arguments_at tokens at further d below, ← is) refl

pub cut_missing : (tokens : List ReadToken) (at further start : ℕ) (found : List (Bor (List ReadToken))) → HasCut tokens at further start found →
    length tokens ≤ at → arguments 0 (map read_lexeme tokens) ≡ None
cut_missing tokens at further start found so_far all = so_far.goes_on ∙ rw (drop_of_length-le tokens all) refl
