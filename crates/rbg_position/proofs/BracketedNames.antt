-- The names in brackets, from the first token to the last, and those of a board that is spelt.
use Rattle.rbg_base.proofs.Common.{◌≡◌, ℕ, ◌+◌, ◌&&◌, Bool, true, false, cond, List, [], ◌∷◌, ◌++◌, length, map, filter, refl, sym, ap, ◌∙◌, append_assoc, flat_map, enumerate_from}
use Rattle.std.proofs.lemmas.List.{take_at, map-append, length-append}
use Rattle.rbg_grammar.proofs.Common.{IsRow, IsEdge, edge, IsVertex, vertex, IsRectangle, four, IsHexagon, six, IsGraph, vertices, IsGenerated, generated, IsBoard, rectangular, hexagonal, graphic, Phrase, IsSymbol, symbol, IsName, name, IsWord, word, Repeated, done, again, After, after, separated, Listed, nothing, listed, Within, within, WithComma, with_comma, SpeltName, SpeltEdge, SpeltVertex, SpeltBoard, rectangle, hexagon, graph}
use Rattle.rbg_macro.proofs.TextCommon.{is_name_kind, Lexeme}
use Rattle.rbg_macro.specs.declared.token.Symbol.{Symbol}
use Rattle.rbg_macro.specs.declared.token.Symbol.TheVariants as symbols
use Rattle.rbg_macro.specs.declared.token.TokenKind.{TokenKind}
use Rattle.rbg_macro.specs.declared.token.TokenKind.TheVariants as kinds
use Rattle.rbg_position.specs.Laws.{names_in_brackets}
use Rattle.rbg_position.specs.Sections.{Indexed, leave_open, kinds_before, names_piece}
use Rattle.rbg_position.specs.internal.Walking.{is_inside_after}
use Rattle.rbg_position.proofs.Sections.{inside_more}

-- the names in brackets of these tokens, if the first one is in brackets or isn't
abbrev pub names_from : Bool → List Lexeme → List (List ℕ)
names_from inside [] = []
names_from inside (t ∷ ts) =
    cond (inside && is_name_kind t.kind) (t.text ∷ names_from (is_inside_after inside t.kind) ts) (names_from (is_inside_after inside t.kind) ts)

abbrev text_of : Indexed → List ℕ
text_of p = p.1.text

-- with the tokens before them
abbrev names_after : (before ts : List Lexeme) → List (List ℕ)
names_after before ts = map text_of (filter (names_piece (before ++ ts)) (enumerate_from (length before) ts))

one_chosen : (test : Bool) (p : Indexed) (ps : List Indexed) → map text_of (cond test (p ∷ ps) ps) ≡ cond test (text_of p ∷ map text_of ps) (map text_of ps)
one_chosen true p ps = refl
one_chosen false p ps = refl

names_on : (before : List Lexeme) (t : Lexeme) (ts : List Lexeme) → names_after (before ++ t ∷ []) ts ≡ map text_of (filter (names_piece (before ++ t ∷ ts)) (enumerate_from (length before + 1) ts))
names_on before t ts =
    let whole : before ++ t ∷ [] ++ ts ≡ before ++ t ∷ ts = append_assoc before (t ∷ []) ts in
    let many : length (before ++ t ∷ []) ≡ length before + 1 = length-append before (t ∷ []) in
    λ i. map text_of (filter (names_piece (whole i)) (enumerate_from (many i) ts))

inside_here : (before : List Lexeme) (t : Lexeme) (ts : List Lexeme) → leave_open (kinds_before (before ++ t ∷ ts) (length before)) ≡ leave_open (map (λ (u : Lexeme). u.kind) before)
inside_here before t ts = ap (λ us. leave_open (map (λ (u : Lexeme). u.kind) us)) (take_at before (t ∷ ts) (length before) refl)

inside_next : (before : List Lexeme) (t : Lexeme) → leave_open (map (λ (u : Lexeme). u.kind) (before ++ t ∷ [])) ≡ is_inside_after (leave_open (map (λ (u : Lexeme). u.kind) before)) t.kind
inside_next before t =
    ap leave_open (map-append (λ (u : Lexeme). u.kind) before (t ∷ [])) ∙ inside_more (map (λ (u : Lexeme). u.kind) before) t.kind

same_names : (before ts : List Lexeme) → names_after before ts ≡ names_from (leave_open (map (λ (u : Lexeme). u.kind) before)) ts
same_names before [] = refl
same_names before (t ∷ ts) =
    let inside : Bool = leave_open (map (λ (u : Lexeme). u.kind) before) in
    let rest : map text_of (filter (names_piece (before ++ t ∷ ts)) (enumerate_from (length before + 1) ts)) ≡ names_from (is_inside_after inside t.kind) ts =
    sym (names_on before t ts) ∙ same_names (before ++ t ∷ []) ts ∙ ap (λ (test : Bool). names_from test ts) (inside_next before t) in
    one_chosen (names_piece (before ++ t ∷ ts) (length before, t)) (length before, t) (filter (names_piece (before ++ t ∷ ts)) (enumerate_from (length before + 1) ts))
    ∙ (λ i. cond (inside_here before t ts i && is_name_kind t.kind) (t.text ∷ rest i) (rest i))

pub names_from_first : (ts : List Lexeme) → names_in_brackets ts ≡ names_from false ts
names_from_first ts = same_names [] ts

-- A token that is no name in brackets.
skipped : (inside next : Bool) (t : Lexeme) (kind : TokenKind) (rest : List Lexeme) → t.kind ≡ kind → (inside && is_name_kind kind) ≡ false → is_inside_after inside kind ≡ next → names_from inside (t ∷ rest) ≡ names_from next rest
skipped inside next t kind rest is none on =
    (λ i. cond (inside && is_name_kind (is i)) (t.text ∷ names_from (is_inside_after inside (is i)) rest) (names_from (is_inside_after inside (is i)) rest))
    ∙ ap (λ (test : Bool). cond test (t.text ∷ names_from (is_inside_after inside kind) rest) (names_from (is_inside_after inside kind) rest)) none
    ∙ ap (λ (test : Bool). names_from test rest) on

symbol_skipped : (inside next : Bool) (s : Symbol) (ts : List Lexeme) (at : ℕ) (rest : List Lexeme) → IsSymbol s ts at rest → (inside && is_name_kind (kinds.Symbol s)) ≡ false → is_inside_after inside (kinds.Symbol s) ≡ next → names_from inside ts ≡ names_from next rest
symbol_skipped inside next s _ _ rest (symbol {t} is) none on = skipped inside next t (kinds.Symbol s) rest is none on

name_outside : (ts : List Lexeme) (n : SpeltName) (rest : List Lexeme) → IsName ts n rest → names_from false ts ≡ names_from false rest
name_outside _ _ rest (name {t} is) = skipped false false t kinds.Name rest is refl refl

word_outside : (text : List ℕ) (ts : List Lexeme) (at : ℕ) (rest : List Lexeme) → IsWord text ts at rest → names_from false ts ≡ names_from false rest
word_outside text _ _ rest (word {t} is same) = skipped false false t kinds.Name rest is refl refl

name_inside : (ts : List Lexeme) (n : SpeltName) (rest : List Lexeme) → IsName ts n rest → names_from true ts ≡ n.text ∷ names_from true rest
name_inside _ _ rest (name {t} is) =
    λ i. cond (true && is_name_kind (is i)) (t.text ∷ names_from (is_inside_after true (is i)) rest) (names_from (is_inside_after true (is i)) rest)

comma_outside : (ts : List Lexeme) (n : SpeltName) (rest : List Lexeme) → WithComma IsName ts n rest → names_from false ts ≡ names_from false rest
comma_outside ts n rest (with_comma {mid} {at} named is) =
    name_outside ts n mid named ∙ symbol_skipped false false symbols.Comma mid at rest is refl refl

-- the texts of names
abbrev pub texts_of : List SpeltName → List (List ℕ)
texts_of names = map (λ n. n.text) names

-- what is listed between brackets
more_inside : (ts : List Lexeme) (ns : List SpeltName) (rest : List Lexeme) → Repeated (After symbols.Comma IsName) ts ns rest → names_from true ts ≡ texts_of ns ++ names_from true rest
more_inside ts [] rest done = refl
more_inside ts (n ∷ ns) rest (again {mid} (after {mid = first} {at} is named) others) =
    symbol_skipped true true symbols.Comma ts at first is refl refl ∙ name_inside first n mid named ∙ ap (λ ms. n.text ∷ ms) (more_inside mid ns rest others)

listed_inside : (ts : List Lexeme) (ns : List SpeltName) (rest : List Lexeme) → Listed IsName ts ns rest → names_from true ts ≡ texts_of ns ++ names_from true rest
listed_inside ts [] rest nothing = refl
listed_inside ts [] rest (listed some) = elim some [ ]
listed_inside ts (n ∷ ns) rest (listed (separated {mid} named others)) =
    name_inside ts n mid named ∙ ap (λ ms. n.text ∷ ms) (more_inside mid ns rest others)

row_names : (ts : List Lexeme) (ns : List SpeltName) (rest : List Lexeme) → IsRow ts ns rest → names_from false ts ≡ texts_of ns ++ names_from false rest
row_names ts ns rest (within {first} {last} {at} {end} opening inner closing) =
    symbol_skipped false true symbols.OpenBracket ts at first opening refl refl
    ∙ listed_inside first ns last inner
    ∙ ap (λ ms. texts_of ns ++ ms) (symbol_skipped true false symbols.CloseBracket last end rest closing refl refl)

abbrev pub row_texts : List (List SpeltName) → List (List ℕ)
row_texts rows = flat_map texts_of rows

rows_names : (ts : List Lexeme) (rows : List (List SpeltName)) (rest : List Lexeme) → Repeated IsRow ts rows rest → names_from false ts ≡ row_texts rows ++ names_from false rest
rows_names ts [] rest done = refl
rows_names ts (row ∷ rows) rest (again {mid} here others) =
    row_names ts row mid here ∙ ap (λ ms. texts_of row ++ ms) (rows_names mid rows rest others) ∙ sym (append_assoc (texts_of row) (row_texts rows) (names_from false rest))

-- what is listed between braces
edge_outside : (ts : List Lexeme) (e : SpeltEdge) (rest : List Lexeme) → IsEdge ts e rest → names_from false ts ≡ names_from false rest
edge_outside ts e rest (edge {mid} {d} {t} from (after {mid = first} {at} is to)) =
    name_outside ts d mid from ∙ symbol_skipped false false symbols.Colon mid at first is refl refl ∙ name_outside first t rest to

more_outside : (ts : List Lexeme) (es : List SpeltEdge) (rest : List Lexeme) → Repeated (After symbols.Comma IsEdge) ts es rest → names_from false ts ≡ names_from false rest
more_outside ts [] rest done = refl
more_outside ts (e ∷ es) rest (again {mid} (after {mid = first} {at} is here) others) =
    symbol_skipped false false symbols.Comma ts at first is refl refl ∙ edge_outside first e mid here ∙ more_outside mid es rest others

edges_outside : (ts : List Lexeme) (es : List SpeltEdge) (rest : List Lexeme) → Listed IsEdge ts es rest → names_from false ts ≡ names_from false rest
edges_outside ts [] rest nothing = refl
edges_outside ts [] rest (listed some) = elim some [ ]
edges_outside ts (e ∷ es) rest (listed (separated {mid} here others)) = edge_outside ts e mid here ∙ more_outside mid es rest others

braces_outside : (ts : List Lexeme) (es : List SpeltEdge) (rest : List Lexeme) → Within symbols.OpenBrace symbols.CloseBrace (Listed IsEdge) ts es rest → names_from false ts ≡ names_from false rest
braces_outside ts es rest (within {first} {last} {at} {end} opening inner closing) =
    symbol_skipped false false symbols.OpenBrace ts at first opening refl refl
    ∙ edges_outside first es last inner
    ∙ symbol_skipped false false symbols.CloseBrace last end rest closing refl refl

piece_inside : (ts : List Lexeme) (n : SpeltName) (rest : List Lexeme) → Within symbols.OpenBracket symbols.CloseBracket IsName ts n rest → names_from false ts ≡ n.text ∷ names_from false rest
piece_inside ts n rest (within {first} {last} {at} {end} opening inner closing) =
    symbol_skipped false true symbols.OpenBracket ts at first opening refl refl
    ∙ name_inside first n last inner
    ∙ ap (λ ms. n.text ∷ ms) (symbol_skipped true false symbols.CloseBracket last end rest closing refl refl)

abbrev pub piece_texts : List SpeltVertex → List (List ℕ)
piece_texts vs = map (λ v. v.piece.text) vs

vertex_names : (ts : List Lexeme) (v : SpeltVertex) (rest : List Lexeme) → IsVertex ts v rest → names_from false ts ≡ v.piece.text ∷ names_from false rest
vertex_names ts v rest (vertex {after_name} {after_piece} {n} {p} {es} named piece edges) =
    name_outside ts n after_name named ∙ piece_inside after_name p after_piece piece ∙ ap (λ ms. p.text ∷ ms) (braces_outside after_piece es rest edges)

vertices_names : (ts : List Lexeme) (vs : List SpeltVertex) (rest : List Lexeme) → Repeated IsVertex ts vs rest → names_from false ts ≡ piece_texts vs ++ names_from false rest
vertices_names ts [] rest done = refl
vertices_names ts (v ∷ vs) rest (again {mid} here others) =
    vertex_names ts v mid here ∙ ap (λ ms. v.piece.text ∷ ms) (vertices_names mid vs rest others)

-- the names of the pieces of a board, in order of its vertices
abbrev pub spelt_pieces : SpeltBoard → List (List ℕ)
spelt_pieces (rectangle names rows) = row_texts rows
spelt_pieces (hexagon names rows) = row_texts rows
spelt_pieces (graph vs) = piece_texts vs

abbrev pub NamesOf : Phrase SpeltBoard → Type 0
NamesOf P = (ts : List Lexeme) (b : SpeltBoard) (rest : List Lexeme) → P ts b rest → names_from false ts ≡ spelt_pieces b ++ names_from false rest

rectangle_names : NamesOf IsRectangle
rectangle_names ts _ rest (four {t1} {t2} {t3} {t4} {up} {down} {left} {right} {rows} a b c d are) =
    comma_outside ts up t1 a ∙ comma_outside t1 down t2 b ∙ comma_outside t2 left t3 c ∙ comma_outside t3 right t4 d ∙ rows_names t4 rows rest are

hexagon_names : NamesOf IsHexagon
hexagon_names ts _ rest (six {t1} {t2} {t3} {t4} {t5} {t6} {n1} {n2} {n3} {n4} {n5} {n6} {rows} a b c d e f are) =
    comma_outside ts n1 t1 a ∙ comma_outside t1 n2 t2 b ∙ comma_outside t2 n3 t3 c ∙ comma_outside t3 n4 t4 d ∙ comma_outside t4 n5 t5 e ∙ comma_outside t5 n6 t6 f ∙ rows_names t6 rows rest are

graph_names : NamesOf IsGraph
graph_names ts _ rest (vertices {vs} are) = vertices_names ts vs rest are

generated_names : (text : List ℕ) (P : Phrase SpeltBoard) → NamesOf P → NamesOf (IsGenerated text P)
generated_names text P names ts b rest (generated {mid} {at} first (within {first = inner} {last} {at = start} {end} opening is closing)) =
    word_outside text ts at mid first
    ∙ symbol_skipped false false symbols.OpenParenthesis mid start inner opening refl refl
    ∙ names inner b last is
    ∙ ap (λ ms. spelt_pieces b ++ ms) (symbol_skipped false false symbols.CloseParenthesis last end rest closing refl refl)

pub board_names : NamesOf IsBoard
board_names ts b rest (rectangular is) = generated_names _ IsRectangle rectangle_names ts b rest is
board_names ts b rest (hexagonal is) = generated_names _ IsHexagon hexagon_names ts b rest is
board_names ts b rest (graphic is) = generated_names _ IsGraph graph_names ts b rest is
