-- The section of a board, token by token.
use Rattle.rbg_base.proofs.Common.{◌≡◌, ℕ, ◌+◌, ◌≤◌, ◌&&◌, ◌⊎◌, inl, inr, Bool, true, false, cond, List, [], ◌∷◌, ◌++◌, length, map, take, filter, slice_get, Option, Some, None, if◌then◌else◌, refl, sym, ap, ◌∙◌, append_assoc, zero-add, arith, flat_map, count_by, enumerate_from, last_or, filter-append, sum_by-append, slice_get_within, get_or_from_slice_get}
use Rattle.std.proofs.lemmas.List.{append-nil, take_more, length-take-le, map-append, flat_map_more}
use Rattle.rbg_rules.specs.Meaning.{AbstractGame}
use Rattle.rbg_macro.proofs.TextCommon.{is_name_kind, Lexeme}
use Rattle.rbg_macro.specs.declared.token.Symbol.TheVariants.{OpenBracket, CloseBracket}
use Rattle.rbg_macro.specs.declared.token.TokenKind.{TokenKind}
use Rattle.rbg_macro.specs.declared.token.TokenKind.TheVariants.{Symbol}
use Rattle.rbg_position.specs.Sections.{Indexed, kinds_before, is_bracket, is_opening, leave_open, names_piece, vertex_at, name_of, space_between, written_of}
use Rattle.rbg_position.specs.internal.Walking.{is_inside_after}

-- one token more before an index
tokens_more : (ts : List Lexeme) (i : ℕ) (t : Lexeme) → slice_get ts i ≡ Some t → take (i + 1) ts ≡ take i ts ++ t ∷ []
tokens_more ts i t at =
    take_more ts i t (slice_get_within ts i t at) ∙ ap (λ u. take i ts ++ u ∷ []) (get_or_from_slice_get ts i t t at)

kinds_more : (ts : List Lexeme) (i : ℕ) (t : Lexeme) → slice_get ts i ≡ Some t → kinds_before ts (i + 1) ≡ kinds_before ts i ++ t.kind ∷ []
kinds_more ts i t at =
    ap (λ us. map (λ (u : Lexeme). u.kind) us) (tokens_more ts i t at) ∙ map-append (λ (u : Lexeme). u.kind) (take i ts) (t ∷ [])

-- each item with its index, and one item more
enumerate_push : (n : ℕ) (ts : List Lexeme) (t : Lexeme) → enumerate_from n (ts ++ t ∷ []) ≡ enumerate_from n ts ++ (n + length ts, t) ∷ []
enumerate_push n [] t = let here : n ≡ n + 0 = omega arith in ap {B = List Indexed} (λ k. (k, t) ∷ []) here
enumerate_push n (u ∷ ts) t =
    let next : n + 1 + length ts ≡ n + length (u ∷ ts) = omega arith in
    ap {B = List Indexed} (λ ps. (n, u) ∷ ps) (enumerate_push (n + 1) ts t)
    ∙ ap {B = List Indexed} (λ k. (n, u) ∷ (enumerate_from (n + 1) ts ++ (k, t) ∷ [])) next

indexed_more : (ts : List Lexeme) (i : ℕ) (t : Lexeme) → slice_get ts i ≡ Some t → enumerate_from 0 (take (i + 1) ts) ≡ enumerate_from 0 (take i ts) ++ (i, t) ∷ []
indexed_more ts i t at =
    let within = slice_get_within ts i t at in
    let many : length (take i ts) ≡ i = length-take-le i ts (omega (arith, within)) in
    let here : 0 + length (take i ts) ≡ i = omega (arith, many) in
    ap (enumerate_from 0) (tokens_more ts i t at)
    ∙ enumerate_push 0 (take i ts) t
    ∙ ap {B = List Indexed} (λ k. enumerate_from 0 (take i ts) ++ (k, t) ∷ []) here

vertex_more : (ts : List Lexeme) (i : ℕ) (t : Lexeme) → slice_get ts i ≡ Some t → vertex_at ts (i + 1) ≡ vertex_at ts i + cond (names_piece ts (i, t)) 1 0
vertex_more ts i t at =
    ap (count_by (names_piece ts)) (indexed_more ts i t at)
    ∙ sum_by-append (λ (p : Indexed). cond (names_piece ts p) 1 0) (enumerate_from 0 (take i ts)) ((i, t) ∷ [])
    ∙ ap (λ n. vertex_at ts i + n) (zero-add (cond (names_piece ts (i, t)) 1 0))

-- the last of a list
last_push : (o : Option TokenKind) (kinds : List TokenKind) (kind : TokenKind) → last_or o (kinds ++ kind ∷ []) ≡ Some kind
last_push o [] kind = refl
last_push o (first ∷ kinds) kind = last_push (Some first) kinds kind

-- a bracket more, or another token
bracket_more : (kinds : List TokenKind) (kind : TokenKind) → is_bracket kind ≡ true → leave_open (kinds ++ kind ∷ []) ≡ is_opening (Some kind)
bracket_more kinds kind is =
    ap (λ ks. is_opening (last_or None ks)) (filter-append is_bracket kinds (kind ∷ []))
    ∙ ap (λ (test : Bool). is_opening (last_or None (filter is_bracket kinds ++ cond test (kind ∷ []) []))) is
    ∙ ap is_opening (last_push None (filter is_bracket kinds) kind)

other_more : (kinds : List TokenKind) (kind : TokenKind) → is_bracket kind ≡ false → leave_open (kinds ++ kind ∷ []) ≡ leave_open kinds
other_more kinds kind is =
    ap (λ ks. is_opening (last_or None ks)) (filter-append is_bracket kinds (kind ∷ []))
    ∙ ap (λ (test : Bool). is_opening (last_or None (filter is_bracket kinds ++ cond test (kind ∷ []) []))) is
    ∙ ap (λ ks. is_opening (last_or None ks)) (append-nil (filter is_bracket kinds))

pub inside_more : (kinds : List TokenKind) (kind : TokenKind) → leave_open (kinds ++ kind ∷ []) ≡ is_inside_after (leave_open kinds) kind
inside_more kinds (Symbol OpenBracket) = bracket_more kinds (Symbol OpenBracket) refl
inside_more kinds (Symbol CloseBracket) = bracket_more kinds (Symbol CloseBracket) refl
inside_more kinds kind = other_more kinds kind refl

-- The first `i` tokens of a section are written after the old text. `vertex` of them name pieces, and the next one is
-- in brackets or not.
pub record AreWritten (game : AbstractGame) (pieces : List ℕ) (ts : List Lexeme) (old : List ℕ) (vertex : ℕ) (inside : Bool) (last : Option TokenKind) (i : ℕ) (out : List ℕ) : Type 0 where
  pub text : out ≡ old ++ flat_map (written_of game pieces ts) (enumerate_from 0 (take i ts))
  pub vertex_is : vertex ≡ vertex_at ts i
  pub inside_is : inside ≡ leave_open (kinds_before ts i)
  pub last_is : last ≡ last_or None (kinds_before ts i)

-- none is written yet
pub none_written : (game : AbstractGame) (pieces : List ℕ) (ts : List Lexeme) (old : List ℕ) → AreWritten game pieces ts old 0 false None 0 old
none_written game pieces ts old = record { text = sym (append-nil old); vertex_is = refl; inside_is = refl; last_is = refl }

-- how many name pieces, with one token more
abbrev pub Counts : (is_piece : Bool) → (before after : ℕ) → Type 0
Counts is_piece before after = ((is_piece ≡ true) × (after ≡ before + 1)) ⊎ ((is_piece ≡ false) × (after ≡ before))

pub counts_within : (is_piece : Bool) (before after i : ℕ) → Counts is_piece before after → before ≤ i → after ≤ i + 1
counts_within is_piece before after i (inl (is, one)) within = omega (arith, one, within)
counts_within is_piece before after i (inr (is, none)) within = omega (arith, none, within)

counted : (is_piece named : Bool) (before after vertex next : ℕ) → is_piece ≡ named → before ≡ vertex → next ≡ vertex + cond named 1 0 → Counts is_piece before after → after ≡ next
counted is_piece named before after vertex next same here more (inl (is, one)) =
    let step : next ≡ vertex + 1 = more ∙ ap (λ (test : Bool). vertex + cond test 1 0) (sym same ∙ is) in
    omega (arith, one, here, step)
counted is_piece named before after vertex next same here more (inr (is, none)) =
    let step : next ≡ vertex + 0 = more ∙ ap (λ (test : Bool). vertex + cond test 1 0) (sym same ∙ is) in
    omega (arith, none, here, step)

-- one token more is written
pub token_written : (game : AbstractGame) (pieces : List ℕ) (ts : List Lexeme) (old : List ℕ) (vertex next : ℕ) (inside is_piece : Bool) (last : Option TokenKind) (i : ℕ) (t : Lexeme) (out spaced worded : List ℕ)
    → slice_get ts i ≡ Some t
    → is_piece ≡ (inside && is_name_kind t.kind)
    → spaced ≡ out ++ space_between last t.kind
    → worded ≡ spaced ++ (if is_piece then name_of game (slice_get pieces vertex) else t.text)
    → Counts is_piece vertex next
    → AreWritten game pieces ts old vertex inside last i out
    → AreWritten game pieces ts old next (is_inside_after inside t.kind) (Some t.kind) (i + 1) worded
token_written game pieces ts old vertex next inside is_piece last i t out spaced worded at named spaced_is worded_is counts before =
    let piece_is : is_piece ≡ names_piece ts (i, t) = named ∙ ap (λ (test : Bool). test && is_name_kind t.kind) before.inside_is in
    let front : List ℕ = flat_map (written_of game pieces ts) (enumerate_from 0 (take i ts)) in
    let word : List ℕ = if is_piece then name_of game (slice_get pieces vertex) else t.text in
    let written_is : space_between last t.kind ++ word ≡ written_of game pieces ts (i, t) =
    λ j. space_between (before.last_is j) t.kind ++ (if piece_is j then name_of game (slice_get pieces (before.vertex_is j)) else t.text) in
    record {
      text =
          worded_is
          ∙ ap (λ s. s ++ word) spaced_is
          ∙ append_assoc out (space_between last t.kind) word
          ∙ ap (λ o. o ++ (space_between last t.kind ++ word)) before.text
          ∙ ap (λ w. old ++ front ++ w) written_is
          ∙ flat_map_more (written_of game pieces ts) old (enumerate_from 0 (take i ts)) (i, t)
          ∙ ap (λ ps. old ++ flat_map (written_of game pieces ts) ps) (sym (indexed_more ts i t at));
      vertex_is = counted is_piece (names_piece ts (i, t)) vertex next (vertex_at ts i) (vertex_at ts (i + 1)) piece_is before.vertex_is (vertex_more ts i t at) counts;
      inside_is = ap (λ (test : Bool). is_inside_after test t.kind) before.inside_is ∙ sym (inside_more (kinds_before ts i) t.kind) ∙ ap leave_open (sym (kinds_more ts i t at));
      last_is = sym (last_push None (kinds_before ts i) t.kind) ∙ ap (last_or None) (sym (kinds_more ts i t at));
    }
