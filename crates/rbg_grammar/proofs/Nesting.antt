-- How deep brackets are open along tokens.
use Rattle.std.proofs.Common.{◌≡◌, ◌<◌, ◌≤◌, ◌+◌, ◌-◌, ℕ, Bool, List, [], ◌∷◌, ◌++◌, true, false, refl, arith, if◌then◌else◌}
use Rattle.rbg_macro.proofs.TextCommon.{Lexeme, opens, closes}
use Rattle.rbg_macro.specs.declared.token.TokenKind.{TokenKind}
use Rattle.rbg_grammar.specs.Spells.{open_with, open_after}

-- each opening bracket among the tokens comes while fewer than `limit` are open, if this many are open before them
abbrev pub Fits : ℕ → ℕ → List Lexeme → Type 0
Fits limit n [] = Unit {0}
Fits limit n (t ∷ ts) = (opens t.kind ≡ true → n < limit) × Fits limit (open_with n t.kind) ts

pub open_after-append : (n : ℕ) (xs ys : List Lexeme) → open_after n (xs ++ ys) ≡ open_after (open_after n xs) ys
open_after-append n [] ys = refl
open_after-append n (x ∷ xs) ys = open_after-append (open_with n x.kind) xs ys

pub fits_append : (limit n : ℕ) (xs ys : List Lexeme) → Fits limit n xs → Fits limit (open_after n xs) ys → Fits limit n (xs ++ ys)
fits_append limit n [] ys f g = g
fits_append limit n (x ∷ xs) ys f g = (f.0, fits_append limit (open_with n x.kind) xs ys f.1 g)

pub fits_bracket : (limit n : ℕ) (before : List Lexeme) (bracket : Lexeme) (beyond : List Lexeme) → Fits limit n (before ++ bracket ∷ beyond) → opens bracket.kind ≡ true → open_after n before < limit
fits_bracket limit n [] bracket beyond f is = f.0 is
fits_bracket limit n (x ∷ xs) bracket beyond f is = fits_bracket limit (open_with n x.kind) xs bracket beyond f.1 is

pub opened : (n : ℕ) (k : TokenKind) → opens k ≡ true → open_with n k ≡ n + 1
opened n k e = rw e

pub closed : (n : ℕ) (k : TokenKind) → opens k ≡ false → closes k ≡ true → open_with (n + 1) k ≡ n
closed n k no_opening e = rw (no_opening, e) (omega arith)

pub passed : (n : ℕ) (k : TokenKind) → opens k ≡ false → closes k ≡ false → open_with n k ≡ n
passed n k no_opening no_closing = rw (no_opening, no_closing)

-- if each opening bracket fits, no more than the limit are open at any place
pub front_fits : (limit n : ℕ) (front rest : List Lexeme) → n ≤ limit → Fits limit n (front ++ rest) → open_after n front ≤ limit
front_fits limit n [] rest few f = few
front_fits limit n (t ∷ front) rest few f = front_fits limit (open_with n t.kind) front rest (after (opens t.kind) (closes t.kind) f.0) f.1
  where
    after : (opening closing : Bool) → (opening ≡ true → n < limit) → (if opening then n + 1 else (if closing then n - 1 else n)) ≤ limit
    after true closing fits = let room : n < limit = fits refl in omega (arith, room)
    after false true fits = omega (arith, few)
    after false false fits = few

-- a token that is no bracket
pub plain_fits : (limit n : ℕ) (t : Lexeme) → opens t.kind ≡ false → Fits limit n (t ∷ [])
plain_fits limit n t e = (λ is. cc, tt)
