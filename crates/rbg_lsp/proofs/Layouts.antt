-- Texts with the same tokens.
use Rattle.rbg_base.proofs.Common.{◌≡◌, ℕ, List, map, sym, ap, ◌∙◌}
use Rattle.std.proofs.lemmas.Simd.{map-map}
use Rattle.rbg_lsp.specs.Formatting.{HasSameTokens, spelled_as, spelling_of}
use Rattle.rbg_macro.specs.Text.{HasTokens}
use Rattle.rbg_macro.specs.Token.{Lexeme, lexeme_of}
use Rattle.rbg_macro.specs.declared.token.Token.{Token}

-- what tokens of the code spell
spelled : (xs : List Token) (ts : List Lexeme) → map lexeme_of xs ≡ ts → map spelling_of ts ≡ map spelled_as xs
spelled xs ts are = ap (map spelling_of) (sym are) ∙ map-map spelling_of lexeme_of xs

-- two texts whose tokens spell the same
pub has_same : (old new : List ℕ) (ts us : List Lexeme) (xs ys : List Token) → HasTokens old ts → HasTokens new us
    → map lexeme_of xs ≡ ts → map lexeme_of ys ≡ us → map spelled_as xs ≡ map spelled_as ys → HasSameTokens old new
has_same old new ts us xs ys of_old of_new xs_are ys_are same = record {
  old_tokens = ts;
  new_tokens = us;
  of_old = of_old;
  of_new = of_new;
  same = spelled xs ts xs_are ∙ (same ∙ sym (spelled ys us ys_are));
}
