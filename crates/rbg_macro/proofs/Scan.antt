-- How far a text was read.
use Rattle.std.proofs.Common.{ℕ, ◌≡◌, ◌+◌, ◌≤◌, List, [], ◌∷◌, ◌++◌, length, take, drop, map, Result, Ok, Err, refl, sym, ap, ◌∙◌, arith, append_assoc, length-drop, subst}
use Rattle.std.proofs.Math.ListN.{drop_of_length-le}
use Rattle.std.proofs.lemmas.List.{drop-drop, map-append, append-nil}
use Rattle.rbg_macro.proofs.TextCommon.{TextError, MAX_TEXT, Token, TokenKind, Takes, Lexes, end, after_token, HasTokens, HasFirstFault, Lexeme, lexeme_of}

-- the tokens with several more before them
abbrev pub after_tokens : List Lexeme → Result (List Lexeme) TextError → Result (List Lexeme) TextError
after_tokens ts (Ok us) = Ok (ts ++ us)
after_tokens ts (Err e) = Err e

-- The text was read up to an offset, and gave these tokens. If the rest gives something, then the text gives these
-- tokens followed by it.
pub record HasReadTo (text : List ℕ) (at : ℕ) (tokens : List Token) : Type 0 where
  pub within : at ≤ length text
  pub reads : (read : Result (List Lexeme) TextError) → Lexes at (drop at text) read → Lexes 0 text (after_tokens (map lexeme_of tokens) read)

after_one_more : (ts : List Lexeme) (t : Lexeme) (read : Result (List Lexeme) TextError) → after_tokens ts (after_token t read) ≡ after_tokens (ts ++ t ∷ []) read
after_one_more ts t (Ok us) = ap Ok (sym (append_assoc ts (t ∷ []) us))
after_one_more ts t (Err e) = refl

pub read_token : (text : List ℕ) (at n : ℕ) (rest : List ℕ) (kind : TokenKind) (token : Token) (tokens more : List Token) →
    HasReadTo text at tokens → rest ≡ drop at text → Takes kind rest n → lexeme_of token ≡ record { kind = kind; text = take n rest; at = at } → more ≡ tokens ++ token ∷ [] →
    HasReadTo text (at + n) more
read_token text at n rest kind token tokens more so_far is takes seen added = record {
  within = omega (arith, takes.within, ap length is, length-drop at text, so_far.within);
  reads = λ read beyond.
      let L : Lexeme = record { kind = kind; text = take n rest; at = at } in
      let here : Lexes (at + n) (drop n rest) read = rw (is, drop-drop n at text) beyond in
      let whole : Lexes 0 text (after_tokens (map lexeme_of tokens) (after_token L read)) =
      so_far.reads (after_token L read)
      (subst (λ (bs : List ℕ). Lexes at bs (after_token L read)) is (takes.reads at read here)) in
      let same : map lexeme_of more ≡ map lexeme_of tokens ++ L ∷ [] =
      ap (map lexeme_of) added ∙ map-append lexeme_of tokens (token ∷ []) ∙ ap (λ (l : Lexeme). map lexeme_of tokens ++ l ∷ []) seen in
      rw (same, ← after_one_more (map lexeme_of tokens) L read) whole;
}

pub has_tokens : (text : List ℕ) (at : ℕ) (tokens : List Token) → HasReadTo text at tokens → length text ≤ at → length text ≤ MAX_TEXT → HasTokens text (map lexeme_of tokens)
has_tokens text at tokens so_far all fits = record {
  fits = fits;
  read =
      let none : drop at text ≡ [] = drop_of_length-le text all in
      let whole = so_far.reads (Ok []) (rw none (end at)) in
      rw append-nil at whole;
}

pub has_fault : (text : List ℕ) (at : ℕ) (rest : List ℕ) (tokens : List Token) (e : TextError) → HasReadTo text at tokens → rest ≡ drop at text → Lexes at rest (Err e) → length text ≤ MAX_TEXT → HasFirstFault text e
has_fault text at rest tokens e so_far is fault fits = record {
  fits = fits;
  read = so_far.reads (Err e) (rw is at fault);
}
