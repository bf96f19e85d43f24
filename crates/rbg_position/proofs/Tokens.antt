-- Tokens by their indices.
use Rattle.rbg_base.proofs.Common.{◌≡◌, ℕ, ◌+◌, ◌<◌, ◌≤◌, ◌⊎◌, inl, inr, Bool, true, false, List, length, get_or, map, slice_get, Some, IsTrue, codes, sym, ap, subst, ◌∙◌, arith, cases_lt, length-map, slice_get_within, slice_get-get_or}
use Rattle.rbg_base.proofs.CallerLemmas.{slice_get-map_at}
use Rattle.rbg_macro.proofs.TextCommon.{is_symbol, Lexeme, lexeme_of}
use Rattle.rbg_macro.specs.declared.token.Symbol.TheVariants as symbols
use Rattle.rbg_macro.specs.declared.token.Token.{Token}
use Rattle.rbg_position.specs.Boards.{BeginsBoard}

pub at_token : (ts : List Token) (i : ℕ) (d : Token) → i < length ts → slice_get (map lexeme_of ts) i ≡ Some (lexeme_of (get_or ts i d))
at_token ts i d within = slice_get-map_at lexeme_of ts i (get_or ts i d) (slice_get-get_or ts i d within)

some_lexeme : (t u : Lexeme) → Some t ≡ Some u → t ≡ u
some_lexeme t u e = cc

pub same_token : (ts : List Token) (i : ℕ) (d : Token) (t : Lexeme) → i < length ts → slice_get (map lexeme_of ts) i ≡ Some t → t ≡ lexeme_of (get_or ts i d)
same_token ts i d t within at = some_lexeme t (lexeme_of (get_or ts i d)) (sym at ∙ at_token ts i d within)

pub token_within : (ts : List Token) (i : ℕ) (t : Lexeme) → slice_get (map lexeme_of ts) i ≡ Some t → i < length ts
token_within ts i t at = let within = slice_get_within (map lexeme_of ts) i t at in omega (arith, within, length-map ts lexeme_of)

-- `#board` is at this index if the two tokens are these
pub begins_here : (ts : List Token) (at : ℕ) (d e : Token) (test : Bool) → at + 1 < length ts
    → (IsTrue test → (is_symbol symbols.Hash (get_or ts at d).kind ≡ true) × ((get_or ts (at + 1) e).text.now ≡ codes "board"))
    × ((is_symbol symbols.Hash (get_or ts at d).kind ≡ true) × ((get_or ts (at + 1) e).text.now ≡ codes "board") → IsTrue test)
    → (IsTrue test → BeginsBoard (map lexeme_of ts) at) × (BeginsBoard (map lexeme_of ts) at → IsTrue test)
begins_here ts at d e test within told = (
  λ h. (let both = told.0 h in record {
    hash = lexeme_of (get_or ts at d);
    name = lexeme_of (get_or ts (at + 1) e);
    at_hash = at_token ts at d (omega (arith, within));
    at_name = at_token ts (at + 1) e within;
    is_hash = both.0;
    is_board = both.1;
  }),
  λ b. told.1 (
    ap (λ (t : Lexeme). is_symbol symbols.Hash t.kind) (sym (same_token ts at d b.hash (omega (arith, within)) b.at_hash)) ∙ b.is_hash,
    ap (λ (t : Lexeme). t.text) (sym (same_token ts (at + 1) e b.name within b.at_name)) ∙ b.is_board,
  ),
)

-- it is at no index
pub begins_nowhere : (ts : List Token) (count : ℕ) → length ts ≤ count + 1 → ((k : ℕ) → k < count → ¬ BeginsBoard (map lexeme_of ts) k) → (at : ℕ) → ¬ BeginsBoard (map lexeme_of ts) at
begins_nowhere ts count all before at b =
    let within : at + 1 < length ts = token_within ts (at + 1) b.name b.at_name in
    before at (omega (arith, within, all)) b

-- one token more is no `#`
pub no_hash_more : (ts : List Token) (start end : ℕ) (d : Token) → end < length ts → is_symbol symbols.Hash (get_or ts end d).kind ≡ false
    → ((k : ℕ) (token : Lexeme) → start + 2 ≤ k → k < end → slice_get (map lexeme_of ts) k ≡ Some token → is_symbol symbols.Hash token.kind ≡ false)
    → (k : ℕ) (token : Lexeme) → start + 2 ≤ k → k < end + 1 → slice_get (map lexeme_of ts) k ≡ Some token → is_symbol symbols.Hash token.kind ≡ false
no_hash_more ts start end d within none before k token after below at = cases (cases_lt k end)
  where
    here : k ≡ end → is_symbol symbols.Hash token.kind ≡ false
    here same =
        let at_end : slice_get (map lexeme_of ts) end ≡ Some token = subst (λ n. slice_get (map lexeme_of ts) n ≡ Some token) same at in
        ap (λ (t : Lexeme). is_symbol symbols.Hash t.kind) (same_token ts end d token within at_end) ∙ none

    cases : (k < end) ⊎ (end ≤ k) → is_symbol symbols.Hash token.kind ≡ false
    cases (inl earlier) = before k token after earlier at
    cases (inr later) = here (omega (arith, later, below))
