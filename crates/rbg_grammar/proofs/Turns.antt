-- The turns of a reader's loop.
use Rattle.rbg_base.proofs.Common.{◌≡◌, ◌≤◌, ◌<◌, ℕ, zero, suc, List, [], ◌∷◌, ◌++◌, length, drop, map, Bool, true, false, cond, Ok, Err, refl, sym, ap, ◌∙◌, arith, append_assoc, append-nil, map-append}
use Rattle.rbg_macro.proofs.TextCommon.{Lexeme, is_symbol}
use Rattle.rbg_macro.specs.declared.token.Symbol.{Symbol}
use Rattle.rbg_macro.specs.declared.token.TokenKind.{TokenKind}
use Rattle.rbg_grammar.proofs.Readers.{bind_ok, symbol_read}
use Rattle.rbg_grammar.specs.Reading.{Fault, Takes, TakesSome, further_at, Reading, ◌>>=◌, next_is, symbol_at, repeated_within, repeated_at, after_at, separated_at}

pub after_at-taken : {A : Type 0} (s : Symbol) (read : List Lexeme → Reading A) (ts : List Lexeme) → next_is (is_symbol s) ts ≡ true → after_at s read ts ≡ read (drop 1 ts)
unfolding after_at symbol_at
after_at-taken s read [] e = cc
after_at-taken s read (t ∷ ts) e = rw e

-- what is read, after what was read before
abbrev pub prepend : {A : Type 0} → List A → Reading (List A) → Reading (List A)
prepend xs r = r >>= λ m. Ok (xs ++ m.0, m.1)

-- Reading further parts from one place gives the parts `before`, and then those that are read from `rest` on.
abbrev pub ReadsOn : {A : Type 0} → A → (TokenKind → Bool) → (List Lexeme → Reading A) → List Lexeme → List A → List Lexeme → Type 0
ReadsOn first test read from before rest = further_at first test read from ≡ prepend before (repeated_at test read rest)

prepend-cons : {A : Type 0} (xs : List A) (x : A) (r : Reading (List A)) → prepend xs (r >>= λ m. Ok (x ∷ m.0, m.1)) ≡ prepend (xs ++ x ∷ []) r
prepend-cons xs x (Ok m) = ap (λ l. Ok (l, m.1)) (sym (append_assoc xs (x ∷ []) m.0))
prepend-cons xs x (Err e) = refl

pub prepend-nil : {A : Type 0} (r : Reading (List A)) → prepend [] r ≡ r
prepend-nil (Ok m) = refl
prepend-nil (Err e) = refl

module _ {A : Type 0} (test : TokenKind → Bool) (read : List Lexeme → Reading A) (some : TakesSome read) where
  step : ℕ → List Lexeme → Reading A → Reading (List A)
  step n ts r = r >>= λ first. repeated_within n test read first.1 >>= λ more. Ok (first.0 ∷ more.0, more.1)

  same_turn : (m n : ℕ) (ts : List Lexeme) (r : Reading A) → read ts ≡ r
      → ((us : List Lexeme) → length us < length ts → repeated_within m test read us ≡ repeated_within n test read us) → step m ts r ≡ step n ts r
  unfolding step
  same_turn m n ts (Ok f) e same = rw (same f.1 (some ts f.0 f.1 e))
  same_turn m n ts (Err e) is same = refl

  same_choice : (b : Bool) (ts : List Lexeme) (r s : Reading (List A)) → r ≡ s → cond b r (Ok ([], ts)) ≡ cond b s (Ok ([], ts))
  same_choice b ts r s e = rw e

  pub within_enough : (m n : ℕ) (ts : List Lexeme) → length ts ≤ m → length ts ≤ n → repeated_within m test read ts ≡ repeated_within n test read ts
  unfolding step
  within_enough zero zero ts h k = refl
  within_enough zero (suc n) [] h k = refl
  within_enough zero (suc n) (t ∷ ts) h k = absurd (omega arith)
  within_enough (suc m) zero [] h k = refl
  within_enough (suc m) zero (t ∷ ts) h k = absurd (omega arith)
  within_enough (suc m) (suc n) ts h k = same_choice (next_is test ts) ts (step m ts (read ts)) (step n ts (read ts)) (same_turn m n ts (read ts) refl (λ us less. within_enough m n us (omega arith) (omega arith)))

  turn_within : (n : ℕ) (xs : List A) (ts rest : List Lexeme) (x : A) → length rest ≤ n → next_is test ts ≡ true → read ts ≡ Ok (x, rest)
      → prepend xs (repeated_within (suc n) test read ts) ≡ prepend (xs ++ x ∷ []) (repeated_at test read rest)
  unfolding repeated_at
  turn_within n xs ts rest x h begins first = rw (begins, first, within_enough n (length rest) rest h (omega arith)) (prepend-cons xs x (repeated_within (length rest) test read rest))

  -- one more part is read
  pub repeated_turn : (xs : List A) (ts rest : List Lexeme) (x : A) → next_is test ts ≡ true → read ts ≡ Ok (x, rest)
      → prepend xs (repeated_at test read ts) ≡ prepend (xs ++ x ∷ []) (repeated_at test read rest)
  unfolding repeated_at
  repeated_turn xs [] rest x begins first = cc
  repeated_turn xs (t ∷ ts) rest x begins first = turn_within (length ts) xs (t ∷ ts) rest x (omega (arith, some (t ∷ ts) x rest first)) begins first

-- the next part can't be read
pub repeated_fails : {A : Type 0} (test : TokenKind → Bool) (read : List Lexeme → Reading A) (xs : List A) (ts : List Lexeme) (f : Fault) → next_is test ts ≡ true → read ts ≡ Err f
    → prepend xs (repeated_at test read ts) ≡ Err f
unfolding repeated_at
repeated_fails test read xs [] f begins first = cc
repeated_fails test read xs (t ∷ ts) f begins first = rw (begins, first)

-- there is no further part
pub repeated_ends : {A : Type 0} (test : TokenKind → Bool) (read : List Lexeme → Reading A) (xs : List A) (ts : List Lexeme) → next_is test ts ≡ false
    → prepend xs (repeated_at test read ts) ≡ Ok (xs, ts)
unfolding repeated_at
repeated_ends test read xs [] stops = rw append-nil
repeated_ends test read xs (t ∷ ts) stops = rw (stops, append-nil)

-- The turns of a loop over parts with a symbol between each two.
module _ {A : Type 0} (read : List Lexeme → Reading A) (some : TakesSome read) (s : Symbol) where
  pub after_some : TakesSome (after_at s read)
  unfolding after_at
  after_some ts x rest e =
      let (at, here, further) = bind_ok (symbol_at s ts) (λ (at : ℕ × List Lexeme). read at.1) (x, rest) e in
      omega (arith, (symbol_read s).shorter ts at.0 at.1 ((symbol_read s).sound ts at.0 at.1 here), some at.1 x rest further)

  pub separated_begins : (ts rest : List Lexeme) (x : A) → read ts ≡ Ok (x, rest) → separated_at s read ts ≡ prepend (x ∷ []) (repeated_at (is_symbol s) (after_at s read) rest)
  unfolding separated_at
  separated_begins ts rest x e = rw e

  pub separated_begin_fails : (ts : List Lexeme) (f : Fault) → read ts ≡ Err f → separated_at s read ts ≡ Err f
  unfolding separated_at
  separated_begin_fails ts f e = rw e

  pub separated_turn : (whole : Reading (List A)) (xs : List A) (ts rest : List Lexeme) (x : A) → whole ≡ prepend xs (repeated_at (is_symbol s) (after_at s read) ts) → next_is (is_symbol s) ts ≡ true → read (drop 1 ts) ≡ Ok (x, rest)
      → whole ≡ prepend (xs ++ x ∷ []) (repeated_at (is_symbol s) (after_at s read) rest)
  separated_turn whole xs ts rest x so_far goes_on e = so_far ∙ repeated_turn (is_symbol s) (after_at s read) after_some xs ts rest x goes_on (after_at-taken s read ts goes_on ∙ e)

  pub separated_turn_fails : (whole : Reading (List A)) (xs : List A) (ts : List Lexeme) (f : Fault) → whole ≡ prepend xs (repeated_at (is_symbol s) (after_at s read) ts) → next_is (is_symbol s) ts ≡ true → read (drop 1 ts) ≡ Err f
      → whole ≡ Err f
  separated_turn_fails whole xs ts f so_far goes_on e = so_far ∙ repeated_fails (is_symbol s) (after_at s read) xs ts f goes_on (after_at-taken s read ts goes_on ∙ e)

  pub separated_ends : (whole : Reading (List A)) (xs : List A) (ts : List Lexeme) → whole ≡ prepend xs (repeated_at (is_symbol s) (after_at s read) ts) → next_is (is_symbol s) ts ≡ false → whole ≡ Ok (xs, ts)
  separated_ends whole xs ts so_far stops = so_far ∙ repeated_ends (is_symbol s) (after_at s read) xs ts stops

  pub separated_smaller : (ts rest : List Lexeme) (x : A) → next_is (is_symbol s) ts ≡ true → read (drop 1 ts) ≡ Ok (x, rest) → length rest < length ts
  separated_smaller ts rest x goes_on e = after_some ts x rest (after_at-taken s read ts goes_on ∙ e)

-- The turns of a loop over parts, as long as the next token passes a test.
module _ {A : Type 0} (read : List Lexeme → Reading A) (read_some : TakesSome read) (test : TokenKind → Bool) where
  pub some_turn : (whole : Reading (List A)) (xs : List A) (ts rest : List Lexeme) (x : A) → whole ≡ prepend xs (repeated_at test read ts) → next_is test ts ≡ true → read ts ≡ Ok (x, rest)
      → whole ≡ prepend (xs ++ x ∷ []) (repeated_at test read rest)
  some_turn whole xs ts rest x so_far goes_on e = so_far ∙ repeated_turn test read read_some xs ts rest x goes_on e

  pub some_turn_fails : (whole : Reading (List A)) (xs : List A) (ts : List Lexeme) (f : Fault) → whole ≡ prepend xs (repeated_at test read ts) → next_is test ts ≡ true → read ts ≡ Err f → whole ≡ Err f
  some_turn_fails whole xs ts f so_far goes_on e = so_far ∙ repeated_fails test read xs ts f goes_on e

  pub some_ends : (whole : Reading (List A)) (xs : List A) (ts : List Lexeme) → whole ≡ prepend xs (repeated_at test read ts) → next_is test ts ≡ false → whole ≡ Ok (xs, ts)
  some_ends whole xs ts so_far stops = so_far ∙ repeated_ends test read xs ts stops

  pub some_smaller : (ts rest : List Lexeme) (x : A) → read ts ≡ Ok (x, rest) → length rest < length ts
  some_smaller ts rest x e = read_some ts x rest e

pub map-push : {A B : Type 0} (f : A → B) (xs ys : List A) (x : A) → ys ≡ xs ++ x ∷ [] → map f ys ≡ map f xs ++ f x ∷ []
map-push f xs ys x e = ap (map f) e ∙ map-append f xs (x ∷ [])

-- what was left if the next token was the symbol, and if it was not
pub taken : {s : Symbol} {flag : Bool} {old new : List Lexeme} → Takes s flag old new → flag ≡ true → (next_is (is_symbol s) old ≡ true) × (new ≡ drop 1 old)
taken {s} {flag} {old} {new} h e = (h.found ∙ e, h.rest ∙ ap (λ b. cond b (drop 1 old) old) e)

pub left : {s : Symbol} {flag : Bool} {old new : List Lexeme} → Takes s flag old new → flag ≡ false → (next_is (is_symbol s) old ≡ false) × (new ≡ old)
left {s} {flag} {old} {new} h e = (h.found ∙ e, h.rest ∙ ap (λ b. cond b (drop 1 old) old) e)

-- the further parts, after a first one
pub further_begins : {A : Type 0} (first : A) (read : List Lexeme → Reading A) (test : TokenKind → Bool) (ts : List Lexeme) → further_at first test read ts ≡ prepend (first ∷ []) (repeated_at test read ts)
unfolding further_at
further_begins first read test ts = refl
