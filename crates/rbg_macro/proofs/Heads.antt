-- The heads of definitions, as the code reads them.
use Rattle.rbg_base.proofs.Common.{ℕ, ◌≡◌, ◌+◌, ◌<◌, ◌≤◌, Bool, true, false, ◌&&◌, ◌||◌, cond, List, [], ◌∷◌, ◌++◌, length, get_or, drop, map, Ok, Err, refl, sym, ap, ◌∙◌, arith, length-drop, Bor, list_any, bytes_eq}
use Rattle.std.proofs.lemmas.List.{drop-drop, drop-map, map-append, length-map}
use Rattle.rbg_macro.proofs.Common.{MacroError, BadDefinition, parameter_list, is_new_name, AddsParameter, texts_in}
use Rattle.rbg_macro.specs.declared.token.Token.{Token}
use Rattle.rbg_macro.proofs.TextCommon.{is_name_kind, is_symbol, Lexeme, lexeme_of}
use Rattle.rbg_macro.specs.declared.token.Symbol.TheVariants as symbols

-- a text among those after references
pub among_texts : (text : List ℕ) (keys : List (Bor (List ℕ))) → list_any (λ k. bytes_eq text k.now) keys ≡ list_any (bytes_eq text) (texts_in keys)
among_texts text [] = refl
among_texts text (k ∷ keys) = ap (λ (b : Bool). bytes_eq text k.now || b) (among_texts text keys)

not_new : (earlier : List (List ℕ)) (t : Lexeme) → list_any (bytes_eq t.text) earlier ≡ true → is_new_name earlier t ≡ false
not_new earlier t seen = rw seen (and_false (is_name_kind t.kind))
  where
    and_false : (b : Bool) → (b && false) ≡ false
    and_false true = refl
    and_false false = refl

is_new : (earlier : List (List ℕ)) (t : Lexeme) → is_name_kind t.kind ≡ true → list_any (bytes_eq t.text) earlier ≡ false → is_new_name earlier t ≡ true
is_new earlier t name fresh = rw (name, fresh) refl

-- a parameter that was there before is refused
pub repeated : (end : ℕ) (keys : List (Bor (List ℕ))) (ts : List Token) (d : Token) → 0 < length ts →
    list_any (λ k. bytes_eq (get_or ts 0 d).text.now k.now) keys ≡ true →
    parameter_list end (texts_in keys) (map lexeme_of ts) ≡ Err (BadDefinition (get_or ts 0 d).at)
repeated end keys [] d some seen = absurd (omega arith)
repeated end keys (t ∷ []) d some seen =
    rw (not_new (texts_in keys) (lexeme_of t) (sym (among_texts t.text.now keys) ∙ seen)) refl
repeated end keys (t ∷ u ∷ ts) d some seen =
    rw (not_new (texts_in keys) (lexeme_of t) (sym (among_texts t.text.now keys) ∙ seen)) refl

-- a parameter without a token after it leaves the head unfinished
pub unfinished : (end : ℕ) (keys : List (Bor (List ℕ))) (ts : List Token) (d : Token) → length ts ≡ 1 →
    is_name_kind (get_or ts 0 d).kind ≡ true → list_any (λ k. bytes_eq (get_or ts 0 d).text.now k.now) keys ≡ false →
    parameter_list end (texts_in keys) (map lexeme_of ts) ≡ Err (BadDefinition end)
unfinished end keys [] d one name fresh = cc
unfinished end keys (t ∷ []) d one name fresh =
    rw (is_new (texts_in keys) (lexeme_of t) name (sym (among_texts t.text.now keys) ∙ fresh)) refl
unfinished end keys (t ∷ u ∷ ts) d one name fresh = absurd (omega arith)

-- a parameter that was not there before is added
pub adds : (keys new_keys : List (Bor (List ℕ))) (ts : List Token) (d : Token) → 0 < length ts → (length ts ≡ 1 → ⊥) →
    is_name_kind (get_or ts 0 d).kind ≡ true → list_any (λ k. bytes_eq (get_or ts 0 d).text.now k.now) keys ≡ false →
    new_keys ≡ cond (list_any (λ k. bytes_eq (get_or ts 0 d).text.now k.now) keys) keys (keys ++ (get_or ts 0 d).text ∷ []) →
    AddsParameter (texts_in keys) (texts_in new_keys) (map lexeme_of ts) (lexeme_of (get_or ts 1 d))
adds keys new_keys [] d some other name fresh added = absurd (omega arith)
adds keys new_keys (t ∷ []) d some other name fresh added = absurd (other refl)
adds keys new_keys (t ∷ u ∷ ts) d some other name fresh added = record {
  parameter = lexeme_of t;
  tokens = refl;
  new = is_new (texts_in keys) (lexeme_of t) name (sym (among_texts t.text.now keys) ∙ fresh);
  added =
      let last = rw fresh at added in
      ap texts_in last ∙ map-append (λ (k : Bor (List ℕ)). k.now) keys (t.text ∷ []);
}

-- what is listed from a parameter on
listed_step : (end : ℕ) (earlier parameters : List (List ℕ)) (ts : List Lexeme) (next : Lexeme) → AddsParameter earlier parameters ts next →
    parameter_list end earlier ts ≡
    cond (is_symbol symbols.CloseParenthesis next.kind) (Ok (parameters, drop 2 ts))
    (cond (is_symbol symbols.Semicolon next.kind) (parameter_list end parameters (drop 2 ts)) (Err (BadDefinition next.at)))
listed_step end earlier parameters ts next adds =
    ap (parameter_list end earlier) adds.tokens
    ∙ rw (adds.new, ← adds.added) refl

-- the parameters so far, and what is left to list
pub record HasListed (end : ℕ) (tokens : List Token) (at : ℕ) (keys : List (Bor (List ℕ))) : Type 0 where
  pub within : at ≤ length tokens
  pub goes_on : parameter_list end [] (map lexeme_of tokens) ≡ parameter_list end (texts_in keys) (map lexeme_of (drop at tokens))

-- two tokens further on
pub two_tokens : {A B : Type 0} (f : A → B) (ts : List A) (at : ℕ) → drop 2 (map f (drop at ts)) ≡ map f (drop (at + 2) ts)
two_tokens f ts at = drop-map f 2 (drop at ts) ∙ ap (map f) (drop-drop 2 at ts)

-- a parameter and the token after it are two tokens of the list
pub two_more : (earlier parameters : List (List ℕ)) (ts : List Token) (at : ℕ) (next : Lexeme) → at ≤ length ts → AddsParameter earlier parameters (map lexeme_of (drop at ts)) next → at + 2 ≤ length ts
two_more earlier parameters ts at next within adds =
    omega (arith, within, ap length adds.tokens, length-map (drop at ts) lexeme_of, length-drop at ts)

-- what is listed after one more parameter
listed_after : (end : ℕ) (tokens : List Token) (at : ℕ) (keys new_keys : List (Bor (List ℕ))) (rest : List Token) (next : Lexeme) →
    HasListed end tokens at keys → rest ≡ drop at tokens → AddsParameter (texts_in keys) (texts_in new_keys) (map lexeme_of rest) next →
    parameter_list end [] (map lexeme_of tokens) ≡
    cond (is_symbol symbols.CloseParenthesis next.kind) (Ok (texts_in new_keys, map lexeme_of (drop (at + 2) tokens)))
    (cond (is_symbol symbols.Semicolon next.kind) (parameter_list end (texts_in new_keys) (map lexeme_of (drop (at + 2) tokens))) (Err (BadDefinition next.at)))
listed_after end tokens at keys new_keys rest next so_far is adds =
    so_far.goes_on ∙ rw (← is, listed_step end (texts_in keys) (texts_in new_keys) (map lexeme_of rest) next adds, is, two_tokens lexeme_of tokens at) refl

pub list_ends : (end : ℕ) (tokens : List Token) (at : ℕ) (keys new_keys : List (Bor (List ℕ))) (rest : List Token) (next : Lexeme) →
    HasListed end tokens at keys → rest ≡ drop at tokens → AddsParameter (texts_in keys) (texts_in new_keys) (map lexeme_of rest) next →
    is_symbol symbols.CloseParenthesis next.kind ≡ true →
    parameter_list end [] (map lexeme_of tokens) ≡ Ok (texts_in new_keys, map lexeme_of (drop (at + 2) tokens))
list_ends end tokens at keys new_keys rest next so_far is adds closes =
    listed_after end tokens at keys new_keys rest next so_far is adds ∙ rw closes refl

pub list_goes_on : (end : ℕ) (tokens : List Token) (at : ℕ) (keys new_keys : List (Bor (List ℕ))) (rest : List Token) (next : Lexeme) →
    HasListed end tokens at keys → rest ≡ drop at tokens → AddsParameter (texts_in keys) (texts_in new_keys) (map lexeme_of rest) next →
    is_symbol symbols.CloseParenthesis next.kind ≡ false → is_symbol symbols.Semicolon next.kind ≡ true →
    HasListed end tokens (at + 2) new_keys
list_goes_on end tokens at keys new_keys rest next so_far is adds no_close goes_on = record {
  within = two_more (texts_in keys) (texts_in new_keys) tokens at next so_far.within (rw is at adds);
  goes_on = listed_after end tokens at keys new_keys rest next so_far is adds ∙ rw (no_close, goes_on) refl;
}

pub list_fails : (end : ℕ) (tokens : List Token) (at : ℕ) (keys new_keys : List (Bor (List ℕ))) (rest : List Token) (next : Lexeme) →
    HasListed end tokens at keys → rest ≡ drop at tokens → AddsParameter (texts_in keys) (texts_in new_keys) (map lexeme_of rest) next →
    is_symbol symbols.CloseParenthesis next.kind ≡ false → is_symbol symbols.Semicolon next.kind ≡ false →
    parameter_list end [] (map lexeme_of tokens) ≡ Err (BadDefinition next.at)
list_fails end tokens at keys new_keys rest next so_far is adds no_close no_more =
    listed_after end tokens at keys new_keys rest next so_far is adds ∙ rw (no_close, no_more) refl

pub list_faults : (end : ℕ) (tokens : List Token) (at : ℕ) (keys : List (Bor (List ℕ))) (rest : List Token) (e : MacroError) →
    HasListed end tokens at keys → rest ≡ drop at tokens → parameter_list end (texts_in keys) (map lexeme_of rest) ≡ Err e →
    parameter_list end [] (map lexeme_of tokens) ≡ Err e
list_faults end tokens at keys rest e so_far is fault = so_far.goes_on ∙ rw (← is) fault
