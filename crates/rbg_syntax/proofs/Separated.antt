-- The turns of a loop that reads a part, and continues if the symbol between two parts is next.
use Rattle.rbg_base.proofs.Common.{◌≡◌, ◌<◌, List, [], ◌∷◌, ◌++◌, length, drop, true, false, Ok, Err, refl, sym, ap, ◌∙◌, arith, append_assoc, length-drop}
use Rattle.rbg_macro.proofs.TextCommon.{Lexeme, is_symbol}
use Rattle.rbg_macro.specs.declared.token.Symbol.{Symbol}
use Rattle.rbg_grammar.specs.Reading.{Fault, TakesSome, Reading, next_is, repeated_at, after_at, separated_at}
use Rattle.rbg_grammar.proofs.Turns.{prepend, prepend-nil, after_at-taken, after_some, repeated_turn, repeated_fails, repeated_ends, separated_begins, separated_begin_fails}

prepend-both : {A : Type 0} (xs ys : List A) (r : Reading (List A)) → prepend xs (prepend ys r) ≡ prepend (xs ++ ys) r
prepend-both xs ys (Ok m) = ap (λ l. Ok (l, m.1)) (sym (append_assoc xs ys m.0))
prepend-both xs ys (Err f) = refl

module _ {A : Type 0} (read : List Lexeme → Reading A) (some : TakesSome read) (s : Symbol) where
  -- after the symbol the same list begins once more
  begins_again : (ts : List Lexeme) (r : Reading A) → next_is (is_symbol s) ts ≡ true → read (drop 1 ts) ≡ r →
      repeated_at (is_symbol s) (after_at s read) ts ≡ separated_at s read (drop 1 ts)
  begins_again ts (Ok m) goes_on e =
      sym (prepend-nil (repeated_at (is_symbol s) (after_at s read) ts))
      ∙ repeated_turn (is_symbol s) (after_at s read) (after_some read some s) [] ts m.1 m.0 goes_on (after_at-taken s read ts goes_on ∙ e)
      ∙ sym (separated_begins read some s (drop 1 ts) m.1 m.0 e)
  begins_again ts (Err f) goes_on e =
      sym (prepend-nil (repeated_at (is_symbol s) (after_at s read) ts))
      ∙ repeated_fails (is_symbol s) (after_at s read) [] ts f goes_on (after_at-taken s read ts goes_on ∙ e)
      ∙ sym (separated_begin_fails read some s (drop 1 ts) f e)

  module _ (whole : Reading (List A)) (xs : List A) (ts : List Lexeme) (so_far : whole ≡ prepend xs (separated_at s read ts)) where
    pub part_fails : (f : Fault) → read ts ≡ Err f → whole ≡ Err f
    part_fails f e = so_far ∙ ap (prepend xs) (separated_begin_fails read some s ts f e)

    pub part_ends : (x : A) (rest : List Lexeme) → read ts ≡ Ok (x, rest) → next_is (is_symbol s) rest ≡ false → whole ≡ Ok (xs ++ x ∷ [], rest)
    part_ends x rest e stops = so_far ∙ ap (prepend xs) (separated_begins read some s ts rest x e ∙ repeated_ends (is_symbol s) (after_at s read) (x ∷ []) rest stops)

    pub part_goes_on : (x : A) (rest : List Lexeme) → read ts ≡ Ok (x, rest) → next_is (is_symbol s) rest ≡ true → whole ≡ prepend (xs ++ x ∷ []) (separated_at s read (drop 1 rest))
    part_goes_on x rest e goes_on =
        so_far ∙ ap (prepend xs) (separated_begins read some s ts rest x e ∙ ap (prepend (x ∷ [])) (begins_again rest (read (drop 1 rest)) goes_on refl))
        ∙ prepend-both xs (x ∷ []) (separated_at s read (drop 1 rest))

  pub part_smaller : (ts rest : List Lexeme) (x : A) → read ts ≡ Ok (x, rest) → length (drop 1 rest) < length ts
  part_smaller ts rest x e = omega (arith, some ts x rest e, length-drop 1 rest)
