-- The readers of players, pieces and boards.
use Rattle.std.proofs.Common.{◌≡◌, ◌≤◌, ◌+◌, ℕ, List, length, Bool, true, false, cond, Ok, refl, ◌∙◌, subst, arith, codes, bytes_eq}
use Rattle.rbg_macro.proofs.TextCommon.{Lexeme, is_name_kind, is_symbol}
use Rattle.rbg_macro.specs.declared.token.Symbol.{Symbol}
use Rattle.rbg_macro.specs.declared.token.Symbol.TheVariants.{Comma, Colon, OpenParenthesis, CloseParenthesis, OpenBracket, CloseBracket, OpenBrace, CloseBrace}
use Rattle.rbg_macro.specs.declared.token.TokenKind.TheVariants as kinds
use Rattle.rbg_grammar.proofs.Common.{SpeltName, SpeltNumber, SpeltBounded, SpeltEdge, SpeltVertex, SpeltBoard, IsName, IsNumber, IsWord, word, Repeated, After, Separated, Listed, Within, within, WithComma, IsBounded, bounded, IsRow, IsEdge, edge, IsVertex, vertex, IsRectangle, four, IsHexagon, six, IsGraph, vertices, IsGenerated, generated, IsBoard, rectangular, hexagonal, graphic, Reading, next_is, next_word, name_at, number_at, after_at, separated_at, listed_at, within_at, with_comma_at, bounded_at, row_at, edge_at, vertex_at, rows_at, direction_at, rectangle_at, hexagon_at, graph_at, generated_at, board_at}
use Rattle.rbg_grammar.proofs.Readers.{bind_ok, ok_one, IsReadBy, Always, symbol_next, name_read, name_next, number_read, word_read, next_test-symbol}
use Rattle.rbg_grammar.proofs.Combinators.{FirstThen, first_then, both_read, Begins, Stops, EndsList, after_read, within_read, separated_read, listed_read, with_comma_read, repeated_sound, repeated_complete, repeated_shorter}

bound_read : IsReadBy 1 (Within OpenParenthesis CloseParenthesis IsNumber) Always (within_at OpenParenthesis CloseParenthesis number_at)
bound_read = within_read 1 IsNumber Always number_at number_read OpenParenthesis CloseParenthesis (λ ts e. tt)

bounded_parts : (ts : List Lexeme) (x : SpeltBounded) (rest : List Lexeme) → IsBounded ts x rest → FirstThen IsName (Within OpenParenthesis CloseParenthesis IsNumber) (λ (n : SpeltName) (b : SpeltNumber). record { name = n; bound = b }) ts x rest
bounded_parts ts _ rest (bounded d e) = first_then d e

pub bounded_read : IsReadBy 1 IsBounded Always bounded_at
unfolding bounded_at
bounded_read =
    both_read IsName Always name_at name_read 1 (Within OpenParenthesis CloseParenthesis IsNumber) Always (within_at OpenParenthesis CloseParenthesis number_at) bound_read (λ mid b rest d stop. tt)
    IsBounded (λ (n : SpeltName) (b : SpeltNumber). record { name = n; bound = b }) (λ ts x mid y rest d e. bounded d e) bounded_parts

-- lists of names, separated or in brackets
pub names_read : IsReadBy 1 (Separated Comma IsName) (Stops Always (is_symbol Comma)) (separated_at Comma name_at)
names_read = separated_read IsName Always name_at name_read Comma (λ ts e. tt)

pub players_read : IsReadBy 1 (Separated Comma IsBounded) (Stops Always (is_symbol Comma)) (separated_at Comma bounded_at)
players_read = separated_read IsBounded Always bounded_at bounded_read Comma (λ ts e. tt)

pub name_list_read : IsReadBy 0 (Listed IsName) (EndsList Always is_name_kind) (listed_at is_name_kind name_at)
name_list_read = listed_read IsName Always name_at is_name_kind name_read name_next (λ ts e. tt)

-- what ends a list whose parts begin with a name: a closing bracket
pub ends_list : (c : Symbol) → is_symbol Comma (kinds.Symbol c) ≡ false → (ts : List Lexeme) → next_is (is_symbol c) ts ≡ true → EndsList Always is_name_kind ts
ends_list c other ts e = record { no_part = next_test-symbol c is_name_kind ts e; no_comma = record { ends = next_test-symbol c (is_symbol Comma) ts e ∙ other; follows = tt } }

row_within : IsReadBy 1 IsRow Always (within_at OpenBracket CloseBracket (listed_at is_name_kind name_at))
row_within = within_read 0 (Listed IsName) (EndsList Always is_name_kind) (listed_at is_name_kind name_at) name_list_read OpenBracket CloseBracket (ends_list CloseBracket refl)

pub row_read : IsReadBy 1 IsRow Always row_at
unfolding row_at
row_read = row_within

target_read : IsReadBy 1 (After Colon IsName) Always (after_at Colon name_at)
target_read = after_read 1 IsName Always name_at name_read Colon

edge_parts : (ts : List Lexeme) (x : SpeltEdge) (rest : List Lexeme) → IsEdge ts x rest → FirstThen IsName (After Colon IsName) (λ (d : SpeltName) (t : SpeltName). record { direction = d; target = t }) ts x rest
edge_parts ts _ rest (edge d e) = first_then d e

pub edge_read : IsReadBy 1 IsEdge Always edge_at
unfolding edge_at
edge_read =
    both_read IsName Always name_at name_read 1 (After Colon IsName) Always (after_at Colon name_at) target_read (λ mid t rest d stop. tt)
    IsEdge (λ (d : SpeltName) (t : SpeltName). record { direction = d; target = t }) (λ ts x mid y rest d e. edge d e) edge_parts

edge_next_at : {ts rest : List Lexeme} {x : SpeltEdge} → IsEdge ts x rest → next_is is_name_kind ts ≡ true
edge_next_at {ts} (edge {mid = mid} {d = d} p q) = name_next ts d mid p

pub edge_list_read : IsReadBy 0 (Listed IsEdge) (EndsList Always is_name_kind) (listed_at is_name_kind edge_at)
edge_list_read = listed_read IsEdge Always edge_at is_name_kind edge_read (λ ts x rest d. edge_next_at d) (λ ts e. tt)

edges_read : IsReadBy 1 (Within OpenBrace CloseBrace (Listed IsEdge)) Always (within_at OpenBrace CloseBrace (listed_at is_name_kind edge_at))
edges_read = within_read 0 (Listed IsEdge) (EndsList Always is_name_kind) (listed_at is_name_kind edge_at) edge_list_read OpenBrace CloseBrace (ends_list CloseBrace refl)

pub piece_read : IsReadBy 1 (Within OpenBracket CloseBracket IsName) Always (within_at OpenBracket CloseBracket name_at)
piece_read = within_read 1 IsName Always name_at name_read OpenBracket CloseBracket (λ ts e. tt)

vertex_sound : (ts : List Lexeme) (x : SpeltVertex) (rest : List Lexeme) → vertex_at ts ≡ Ok (x, rest) → IsVertex ts x rest
unfolding vertex_at
vertex_sound ts x rest e =
    let (n, named, further) = bind_ok _ _ _ e in
    let (p, placed, further) = bind_ok _ _ _ further in
    let (es, joined, given) = bind_ok _ _ _ further in
    subst (λ (q : SpeltVertex × List Lexeme). IsVertex ts q.0 q.1) (ok_one _ (x, rest) given)
    (vertex (name_read.sound ts n.0 n.1 named) (piece_read.sound n.1 p.0 p.1 placed) (edges_read.sound p.1 es.0 es.1 joined))

vertex_complete : {ts rest : List Lexeme} {x : SpeltVertex} → IsVertex ts x rest → vertex_at ts ≡ Ok (x, rest)
unfolding vertex_at
vertex_complete {ts} {rest} (vertex {after_name = t1} {after_piece = t2} {n = n} {p = p} {es = es} d e f) =
    rw (name_read.complete ts n t1 d tt, piece_read.complete t1 p t2 e tt, edges_read.complete t2 es rest f tt)

vertex_shorter : {ts rest : List Lexeme} {x : SpeltVertex} → IsVertex ts x rest → 1 + length rest ≤ length ts
vertex_shorter {ts} {rest} (vertex {after_name = t1} {after_piece = t2} {n = n} {p = p} {es = es} d e f) =
    omega (arith, name_read.shorter ts n t1 d, piece_read.shorter t1 p t2 e, edges_read.shorter t2 es rest f)

pub vertex_read : IsReadBy 1 IsVertex Always vertex_at
vertex_read = record { sound = vertex_sound; complete = λ ts x rest d stop. vertex_complete d; shorter = λ ts x rest d. vertex_shorter d }

vertex_next_at : {ts rest : List Lexeme} {x : SpeltVertex} → IsVertex ts x rest → next_is is_name_kind ts ≡ true
vertex_next_at {ts} (vertex {after_name = t1} {n = n} d e f) = name_next ts n t1 d

vertex_begins : Begins IsVertex Always is_name_kind
vertex_begins = record { starts = λ ts x rest d. vertex_next_at d; goes_on = λ ts e. tt }

row_next_at : {ts rest : List Lexeme} {x : List SpeltName} → IsRow ts x rest → next_is (is_symbol OpenBracket) ts ≡ true
row_next_at {ts} (within {first = first} {at = at} d e f) = symbol_next OpenBracket ts at first d

row_begins : Begins IsRow Always (is_symbol OpenBracket)
row_begins = record { starts = λ ts x rest d. row_next_at d; goes_on = λ ts e. tt }

rows_sound : (ts : List Lexeme) (x : List (List SpeltName)) (rest : List Lexeme) → rows_at ts ≡ Ok (x, rest) → Repeated IsRow ts x rest
unfolding rows_at
rows_sound = repeated_sound IsRow Always row_at (is_symbol OpenBracket) row_read row_begins

rows_complete : (ts : List Lexeme) (x : List (List SpeltName)) (rest : List Lexeme) → Repeated IsRow ts x rest → next_is (is_symbol OpenBracket) rest ≡ false → rows_at ts ≡ Ok (x, rest)
unfolding rows_at
rows_complete ts x rest d e = repeated_complete IsRow Always row_at (is_symbol OpenBracket) row_read row_begins d (record { ends = e; follows = tt })

rows_shorter : (ts : List Lexeme) (x : List (List SpeltName)) (rest : List Lexeme) → Repeated IsRow ts x rest → length rest ≤ length ts
rows_shorter ts x rest d = repeated_shorter IsRow Always row_at (is_symbol OpenBracket) row_read row_begins d

direction_within : IsReadBy 1 (WithComma IsName) Always (with_comma_at name_at)
direction_within = with_comma_read 1 IsName Always name_at name_read (λ ts e. tt)

pub direction_read : IsReadBy 1 (WithComma IsName) Always direction_at
unfolding direction_at
direction_read = direction_within

-- what may follow rows and vertices: what begins none of them
abbrev NoRow : List Lexeme → Type 0
NoRow rest = next_is (is_symbol OpenBracket) rest ≡ false

abbrev NoName : List Lexeme → Type 0
NoName rest = next_is is_name_kind rest ≡ false

rectangle_sound : (ts : List Lexeme) (x : SpeltBoard) (rest : List Lexeme) → rectangle_at ts ≡ Ok (x, rest) → IsRectangle ts x rest
unfolding rectangle_at
rectangle_sound ts x rest e =
    let (up, first, further) = bind_ok _ _ _ e in
    let (down, second, further) = bind_ok _ _ _ further in
    let (left, third, further) = bind_ok _ _ _ further in
    let (right, fourth, further) = bind_ok _ _ _ further in
    let (rows, last, given) = bind_ok _ _ _ further in
    subst (λ (q : SpeltBoard × List Lexeme). IsRectangle ts q.0 q.1) (ok_one _ (x, rest) given)
    (four (direction_read.sound ts up.0 up.1 first) (direction_read.sound up.1 down.0 down.1 second) (direction_read.sound down.1 left.0 left.1 third)
    (direction_read.sound left.1 right.0 right.1 fourth) (rows_sound right.1 rows.0 rows.1 last))

rectangle_complete : {ts rest : List Lexeme} {x : SpeltBoard} → IsRectangle ts x rest → NoRow rest → rectangle_at ts ≡ Ok (x, rest)
unfolding rectangle_at
rectangle_complete {ts} {rest} (four {t1 = t1} {t2 = t2} {t3 = t3} {t4 = t4} {up = n1} {down = n2} {left = n3} {right = n4} {rows = rows} d1 d2 d3 d4 d5) stop =
    rw (direction_read.complete ts n1 t1 d1 tt, direction_read.complete t1 n2 t2 d2 tt, direction_read.complete t2 n3 t3 d3 tt, direction_read.complete t3 n4 t4 d4 tt, rows_complete t4 rows rest d5 stop)

rectangle_shorter : {ts rest : List Lexeme} {x : SpeltBoard} → IsRectangle ts x rest → 1 + length rest ≤ length ts
rectangle_shorter {ts} {rest} (four {t1 = t1} {t2 = t2} {t3 = t3} {t4 = t4} {up = n1} {down = n2} {left = n3} {right = n4} {rows = rows} d1 d2 d3 d4 d5) =
    omega (arith, direction_read.shorter ts n1 t1 d1, direction_read.shorter t1 n2 t2 d2, direction_read.shorter t2 n3 t3 d3, direction_read.shorter t3 n4 t4 d4, rows_shorter t4 rows rest d5)

pub rectangle_read : IsReadBy 1 IsRectangle NoRow rectangle_at
rectangle_read = record { sound = rectangle_sound; complete = λ ts x rest d stop. rectangle_complete d stop; shorter = λ ts x rest d. rectangle_shorter d }

hexagon_sound : (ts : List Lexeme) (x : SpeltBoard) (rest : List Lexeme) → hexagon_at ts ≡ Ok (x, rest) → IsHexagon ts x rest
unfolding hexagon_at
hexagon_sound ts x rest e =
    let (n1, first, further) = bind_ok _ _ _ e in
    let (n2, second, further) = bind_ok _ _ _ further in
    let (n3, third, further) = bind_ok _ _ _ further in
    let (n4, fourth, further) = bind_ok _ _ _ further in
    let (n5, fifth, further) = bind_ok _ _ _ further in
    let (n6, sixth, further) = bind_ok _ _ _ further in
    let (rows, last, given) = bind_ok _ _ _ further in
    subst (λ (q : SpeltBoard × List Lexeme). IsHexagon ts q.0 q.1) (ok_one _ (x, rest) given)
    (six (direction_read.sound ts n1.0 n1.1 first) (direction_read.sound n1.1 n2.0 n2.1 second) (direction_read.sound n2.1 n3.0 n3.1 third)
    (direction_read.sound n3.1 n4.0 n4.1 fourth) (direction_read.sound n4.1 n5.0 n5.1 fifth) (direction_read.sound n5.1 n6.0 n6.1 sixth) (rows_sound n6.1 rows.0 rows.1 last))

hexagon_complete : {ts rest : List Lexeme} {x : SpeltBoard} → IsHexagon ts x rest → NoRow rest → hexagon_at ts ≡ Ok (x, rest)
unfolding hexagon_at
hexagon_complete {ts} {rest} (six {t1 = t1} {t2 = t2} {t3 = t3} {t4 = t4} {t5 = t5} {t6 = t6} {n1 = n1} {n2 = n2} {n3 = n3} {n4 = n4} {n5 = n5} {n6 = n6} {rows = rows} d1 d2 d3 d4 d5 d6 d7) stop =
    rw (
      direction_read.complete ts n1 t1 d1 tt,
      direction_read.complete t1 n2 t2 d2 tt,
      direction_read.complete t2 n3 t3 d3 tt,
      direction_read.complete t3 n4 t4 d4 tt,
      direction_read.complete t4 n5 t5 d5 tt,
      direction_read.complete t5 n6 t6 d6 tt,
      rows_complete t6 rows rest d7 stop,
    )

hexagon_shorter : {ts rest : List Lexeme} {x : SpeltBoard} → IsHexagon ts x rest → 1 + length rest ≤ length ts
hexagon_shorter {ts} {rest} (six {t1 = t1} {t2 = t2} {t3 = t3} {t4 = t4} {t5 = t5} {t6 = t6} {n1 = n1} {n2 = n2} {n3 = n3} {n4 = n4} {n5 = n5} {n6 = n6} {rows = rows} d1 d2 d3 d4 d5 d6 d7) =
    omega (
      arith,
      direction_read.shorter ts n1 t1 d1,
      direction_read.shorter t1 n2 t2 d2,
      direction_read.shorter t2 n3 t3 d3,
      direction_read.shorter t3 n4 t4 d4,
      direction_read.shorter t4 n5 t5 d5,
      direction_read.shorter t5 n6 t6 d6,
      rows_shorter t6 rows rest d7,
    )

pub hexagon_read : IsReadBy 1 IsHexagon NoRow hexagon_at
hexagon_read = record { sound = hexagon_sound; complete = λ ts x rest d stop. hexagon_complete d stop; shorter = λ ts x rest d. hexagon_shorter d }

graph_sound : (ts : List Lexeme) (x : SpeltBoard) (rest : List Lexeme) → graph_at ts ≡ Ok (x, rest) → IsGraph ts x rest
unfolding graph_at
graph_sound ts x rest e =
    let (vs, all, given) = bind_ok _ _ _ e in
    subst (λ (q : SpeltBoard × List Lexeme). IsGraph ts q.0 q.1) (ok_one _ (x, rest) given)
    (vertices (repeated_sound IsVertex Always vertex_at is_name_kind vertex_read vertex_begins ts vs.0 vs.1 all))

graph_complete : {ts rest : List Lexeme} {x : SpeltBoard} → IsGraph ts x rest → NoName rest → graph_at ts ≡ Ok (x, rest)
unfolding graph_at
graph_complete (vertices d) stop = rw (repeated_complete IsVertex Always vertex_at is_name_kind vertex_read vertex_begins d (record { ends = stop; follows = tt }))

graph_shorter : {ts rest : List Lexeme} {x : SpeltBoard} → IsGraph ts x rest → 0 + length rest ≤ length ts
graph_shorter (vertices d) = omega (arith, repeated_shorter IsVertex Always vertex_at is_name_kind vertex_read vertex_begins d)

pub graph_read : IsReadBy 0 IsGraph NoName graph_at
graph_read = record { sound = graph_sound; complete = λ ts x rest d stop. graph_complete d stop; shorter = λ ts x rest d. graph_shorter d }

module _ (text : List ℕ) (least : ℕ) (P : List Lexeme → SpeltBoard → List Lexeme → Type 0) (Follow : List Lexeme → Type 0) (read : List Lexeme → Reading SpeltBoard) (reads : IsReadBy least P Follow read)
    (closing : (ts : List Lexeme) → next_is (is_symbol CloseParenthesis) ts ≡ true → Follow ts) where
  inside : IsReadBy 1 (Within OpenParenthesis CloseParenthesis P) Always (within_at OpenParenthesis CloseParenthesis read)
  inside = within_read least P Follow read reads OpenParenthesis CloseParenthesis closing

  generated_sound : (ts : List Lexeme) (x : SpeltBoard) (rest : List Lexeme) → generated_at text read ts ≡ Ok (x, rest) → IsGenerated text P ts x rest
  unfolding generated_at
  generated_sound ts x rest e =
      let (w, first, further) = bind_ok _ _ _ e in
      generated ((word_read text).sound ts w.0 w.1 first) (inside.sound w.1 x rest further)

  generated_complete : {ts rest : List Lexeme} {x : SpeltBoard} → IsGenerated text P ts x rest → generated_at text read ts ≡ Ok (x, rest)
  unfolding generated_at
  generated_complete {ts} {rest} {x} (generated {mid = mid} {at = at} d e) = rw ((word_read text).complete ts at mid d tt, inside.complete mid x rest e tt)

  generated_shorter : {ts rest : List Lexeme} {x : SpeltBoard} → IsGenerated text P ts x rest → 1 + length rest ≤ length ts
  generated_shorter {ts} {rest} {x} (generated {mid = mid} {at = at} d e) = omega (arith, (word_read text).shorter ts at mid d, inside.shorter mid x rest e)

  pub generated_read : IsReadBy 1 (IsGenerated text P) Always (generated_at text read)
  generated_read = record { sound = generated_sound; complete = λ ts x rest d stop. generated_complete d; shorter = λ ts x rest d. generated_shorter d }

pub rectangles_read : IsReadBy 1 (IsGenerated (codes "rectangle") IsRectangle) Always (generated_at (codes "rectangle") rectangle_at)
rectangles_read = generated_read (codes "rectangle") 1 IsRectangle NoRow rectangle_at rectangle_read (λ ts e. next_test-symbol CloseParenthesis (is_symbol OpenBracket) ts e)

pub hexagons_read : IsReadBy 1 (IsGenerated (codes "hexagon") IsHexagon) Always (generated_at (codes "hexagon") hexagon_at)
hexagons_read = generated_read (codes "hexagon") 1 IsHexagon NoRow hexagon_at hexagon_read (λ ts e. next_test-symbol CloseParenthesis (is_symbol OpenBracket) ts e)

pub graphs_read : IsReadBy 1 (IsGenerated (codes "graph") IsGraph) Always (generated_at (codes "graph") graph_at)
graphs_read = generated_read (codes "graph") 0 IsGraph NoName graph_at graph_read (λ ts e. next_test-symbol CloseParenthesis is_name_kind ts e)

word_next_at : {text : List ℕ} {ts rest : List Lexeme} {at : ℕ} → IsWord text ts at rest → (other : List ℕ) → next_word other ts ≡ bytes_eq text other
word_next_at (word k same) other = rw (k, same)

generator_next : {text : List ℕ} {P : List Lexeme → SpeltBoard → List Lexeme → Type 0} {ts rest : List Lexeme} {b : SpeltBoard} → IsGenerated text P ts b rest → (other : List ℕ) → next_word other ts ≡ bytes_eq text other
generator_next (generated d e) other = word_next_at d other

board_sound : (ts : List Lexeme) (x : SpeltBoard) (rest : List Lexeme) → board_at ts ≡ Ok (x, rest) → IsBoard ts x rest
unfolding board_at
board_sound ts x rest e = first (next_word (codes "rectangle") ts) (next_word (codes "hexagon") ts) e
  where
    first : (b c : Bool) → cond {A = Reading SpeltBoard} b (generated_at (codes "rectangle") rectangle_at ts) (cond c (generated_at (codes "hexagon") hexagon_at ts) (generated_at (codes "graph") graph_at ts)) ≡ Ok (x, rest) → IsBoard ts x rest
    first true c e = rectangular (rectangles_read.sound ts x rest e)
    first false true e = hexagonal (hexagons_read.sound ts x rest e)
    first false false e = graphic (graphs_read.sound ts x rest e)

board_complete : {ts rest : List Lexeme} {x : SpeltBoard} → IsBoard ts x rest → board_at ts ≡ Ok (x, rest)
unfolding board_at
board_complete {ts} {rest} {x} (rectangular d) = rw (generator_next d (codes "rectangle"), rectangles_read.complete ts x rest d tt)
board_complete {ts} {rest} {x} (hexagonal d) = rw (generator_next d (codes "rectangle"), generator_next d (codes "hexagon"), hexagons_read.complete ts x rest d tt)
board_complete {ts} {rest} {x} (graphic d) = rw (generator_next d (codes "rectangle"), generator_next d (codes "hexagon"), graphs_read.complete ts x rest d tt)

board_shorter : {ts rest : List Lexeme} {x : SpeltBoard} → IsBoard ts x rest → 1 + length rest ≤ length ts
board_shorter {ts} {rest} {x} (rectangular d) = rectangles_read.shorter ts x rest d
board_shorter {ts} {rest} {x} (hexagonal d) = hexagons_read.shorter ts x rest d
board_shorter {ts} {rest} {x} (graphic d) = graphs_read.shorter ts x rest d

pub board_read : IsReadBy 1 IsBoard Always board_at
board_read = record { sound = board_sound; complete = λ ts x rest d stop. board_complete d; shorter = λ ts x rest d. board_shorter d }
