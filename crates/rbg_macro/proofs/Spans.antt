-- Tokens whose bytes are in a buffer that grows.
use Rattle.rbg_base.proofs.Common.{ℕ, ◌≡◌, ◌+◌, ◌-◌, ◌<◌, ◌≤◌, List, [], ◌∷◌, ◌++◌, length, get_or, take, drop, map, Some, slice_get, refl, sym, ap, ◌∙◌, arith, length-append, length-drop, suc, All, slice_range, take-length, drop-append_seam, get_or_from_slice_get, slice_get_read}
use Rattle.std.proofs.lemmas.List.{take-append-le, drop-append-le, map-append, length-take, take-append-drop, get_or-take, get_or-drop}
use Rattle.rbg_macro.proofs.Common.{Span, KeptToken, lexeme_in, kept_lexeme, IsKeptAs, IsKeptWithin, IsSpanWithin}
use Rattle.rbg_macro.specs.declared.buffer.KeptToken.TheVariants.{OfText, Joined}
use Rattle.rbg_macro.specs.Token.{Lexeme}

-- a range that ends within the first list
pub slice_of_front : {X : Type 0} (xs more : List X) (a b : ℕ) → a ≤ b → b ≤ length xs → slice_range (xs ++ more) a b ≡ slice_range xs a b
slice_of_front xs more a b ordered within =
    let start : a ≤ length xs = omega arith in
    let room : b - a ≤ length (drop a xs) = omega (arith, length-drop a xs) in
    ap (take (b - a)) (drop-append-le a xs more start) ∙ take-append-le (b - a) (drop a xs) more room

pub same_lexeme : (texts more : List ℕ) (s : Span) → IsSpanWithin texts s → lexeme_in (texts ++ more) s ≡ lexeme_in texts s
same_lexeme texts more s is =
    ap (λ (text : List ℕ). record { kind = s.kind; text = text; at = s.at }) (slice_of_front texts more s.start s.end is.ordered is.within)

same_kept_token : (texts more : List ℕ) (t : KeptToken) → IsKeptWithin texts t → kept_lexeme (texts ++ more) t ≡ kept_lexeme texts t
same_kept_token texts more (OfText t) is = refl
same_kept_token texts more (Joined s) is = same_lexeme texts more s is

same_kept : (texts more : List ℕ) (ts : List KeptToken) → All (IsKeptWithin texts) ts → map (kept_lexeme (texts ++ more)) ts ≡ map (kept_lexeme texts) ts
same_kept texts more [] all = refl
same_kept texts more (t ∷ ts) all =
    let first = same_kept_token texts more t (all 0 t (omega arith)) in
    let others = same_kept texts more ts (λ k d below. all (suc k) d (omega arith)) in
    cc

-- texts that grew: a list is what it begins with and what was added
pub whole_of : (old new : List ℕ) → take (length old) new ≡ old → new ≡ old ++ drop (length old) new
whole_of old new grown = sym (take-append-drop (length old) new) ∙ ap (λ (l : List ℕ). l ++ drop (length old) new) grown

-- what was added at the end of a list
pub slice_of_end : {X : Type 0} (xs more : List X) → slice_range (xs ++ more) (length xs) (length (xs ++ more)) ≡ more
slice_of_end xs more =
    let size : length (xs ++ more) - length xs ≡ length more = omega (arith, length-append xs more) in
    rw (drop-append_seam xs more, size) (take-length more)

-- a token is added, and the new buffer begins with the old one
pub kept_more : (texts new_texts : List ℕ) (tokens new_tokens : List KeptToken) (t : Lexeme) (kept : KeptToken) →
    All (IsKeptWithin texts) tokens → take (length texts) new_texts ≡ texts → IsKeptAs new_texts t kept → new_tokens ≡ tokens ++ kept ∷ [] →
    map (kept_lexeme new_texts) new_tokens ≡ map (kept_lexeme texts) tokens ++ t ∷ []
kept_more texts new_texts tokens new_tokens t kept all front is added =
    let earlier : map (kept_lexeme new_texts) tokens ≡ map (kept_lexeme texts) tokens =
    ap (λ bytes. map (kept_lexeme bytes) tokens) (whole_of texts new_texts front) ∙ same_kept texts (drop (length texts) new_texts) tokens all in
    ap (map (kept_lexeme new_texts)) added ∙ map-append (kept_lexeme new_texts) tokens _ ∙ rw (earlier, is.same) refl

-- an element of a range is an element of the list
pub get_in_range : {X : Type 0} (xs : List X) (a b i : ℕ) (x : X) → slice_get xs (a + i) ≡ Some x → i < length (slice_range xs a b) → slice_get (slice_range xs a b) i ≡ Some x
get_in_range xs a b i x found within =
    let below : i < b - a = omega (arith, length-take (b - a) (drop a xs)) in
    let read : x ≡ get_or (slice_range xs a b) i x =
    sym (get_or-take (b - a) (drop a xs) i x below ∙ get_or-drop a xs i x ∙ get_or_from_slice_get xs (a + i) x x found) in
    slice_get_read (slice_range xs a b) (length (slice_range xs a b)) i x refl within read

-- the index in the list that an index in a range corresponds to
pub below_range : {X : Type 0} (xs : List X) (a b i : ℕ) → a ≤ b → b ≤ length xs → i < length (slice_range xs a b) → a + i < b
below_range xs a b i ordered within below = omega (arith, length-take (b - a) (drop a xs))
