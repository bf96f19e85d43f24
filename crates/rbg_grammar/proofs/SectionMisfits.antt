-- Where the readings of players, variables, pieces and boards stop.
use Rattle.std.proofs.Common.{List, ◌++◌, Ok, refl, codes, [], ◌∷◌, ℕ}
use Rattle.rbg_macro.proofs.TextCommon.{Lexeme, is_name_kind, is_symbol}
use Rattle.rbg_macro.specs.declared.token.Symbol.TheVariants.{Comma, Colon, OpenParenthesis, CloseParenthesis, OpenBracket, CloseBracket, OpenBrace, CloseBrace}
use Rattle.rbg_grammar.proofs.Common.{SpeltBoard, IsName, Repeated, Separated, Listed, WithComma, IsBounded, bounded, IsRow, IsEdge, edge, IsVertex, vertex, IsRectangle, four, IsHexagon, six, IsGraph, vertices, IsGenerated, generated, IsBoard, rectangular, hexagonal, graphic, Reading, ◌>>=◌, next_word, name_at, number_at, after_at, separated_at, listed_at, within_at, bounded_at, row_at, edge_at, vertex_at, rows_at, direction_at, rectangle_at, hexagon_at, graph_at, generated_at, board_at}
use Rattle.rbg_grammar.specs.Tree.{rectangle as four_ways, hexagon as six_ways, graph as graph_of}
use Rattle.rbg_grammar.proofs.Misfits.{Judges, seen, given, bind, choose}
use Rattle.rbg_grammar.proofs.MisfitCombinators.{name_judged, number_judged, word_judged, after_judged, within_judged, with_comma_judged, repeated_judged, separated_judged, listed_judged}
use Rattle.rbg_grammar.proofs.PhraseLaws.{bounded_takes_some, name_takes_some, edge_takes_some, row_takes_some, vertex_takes_some}

bounded_judged : Judges IsBounded bounded_at
unfolding bounded_at
bounded_judged =
    bind name_judged (λ n. within_at OpenParenthesis CloseParenthesis number_at n.1 >>= λ b. Ok (record { name = n.0; bound = b.0 }, b.1))
    (λ n u d. bind (within_judged OpenParenthesis CloseParenthesis number_judged) (λ b. Ok (record { name = n; bound = b.0 }, b.1)) (λ b v e. given (λ tail. bounded (d (v ++ tail)) (e tail))))

pub players_judged : Judges (Separated Comma IsBounded) (separated_at Comma bounded_at)
players_judged = separated_judged Comma bounded_takes_some bounded_judged

pub variables_judged : Judges (Listed IsBounded) (listed_at is_name_kind bounded_at)
variables_judged = listed_judged is_name_kind bounded_takes_some bounded_judged

pub pieces_judged : Judges (Separated Comma IsName) (separated_at Comma name_at)
pieces_judged = separated_judged Comma name_takes_some name_judged

pub names_judged : Judges (Listed IsName) (listed_at is_name_kind name_at)
names_judged = listed_judged is_name_kind name_takes_some name_judged

row_judged : Judges IsRow row_at
unfolding row_at
row_judged = within_judged OpenBracket CloseBracket names_judged

edge_judged : Judges IsEdge edge_at
unfolding edge_at
edge_judged =
    bind name_judged (λ d. after_at Colon name_at d.1 >>= λ t. Ok (record { direction = d.0; target = t.0 }, t.1))
    (λ n u d. bind (after_judged Colon name_judged) (λ t. Ok (record { direction = n; target = t.0 }, t.1)) (λ t v e. given (λ tail. edge (d (v ++ tail)) (e tail))))

vertex_judged : Judges IsVertex vertex_at
unfolding vertex_at
vertex_judged =
    bind name_judged (λ n. within_at OpenBracket CloseBracket name_at n.1 >>= λ p. within_at OpenBrace CloseBrace (listed_at is_name_kind edge_at) p.1 >>= λ es. Ok (record { name = n.0; piece = p.0; edges = es.0 }, es.1))
    (λ n u d. bind (within_judged OpenBracket CloseBracket name_judged) (λ p. within_at OpenBrace CloseBrace (listed_at is_name_kind edge_at) p.1 >>= λ es. Ok (record { name = n; piece = p.0; edges = es.0 }, es.1))
    (λ p v e. bind (within_judged OpenBrace CloseBrace (listed_judged is_name_kind edge_takes_some edge_judged)) (λ es. Ok (record { name = n; piece = p; edges = es.0 }, es.1))
    (λ es w f. given (λ tail. vertex (d (v ++ (w ++ tail))) (e (w ++ tail)) (f tail)))))

rows_judged : Judges (Repeated IsRow) rows_at
unfolding rows_at
rows_judged = repeated_judged IsRow row_at (is_symbol OpenBracket) row_takes_some row_judged

direction_judged : Judges (WithComma IsName) direction_at
unfolding direction_at
direction_judged = with_comma_judged name_judged

rectangle_judged : Judges IsRectangle rectangle_at
unfolding rectangle_at
rectangle_judged =
    bind direction_judged (λ up. direction_at up.1 >>= λ down. direction_at down.1 >>= λ left. direction_at left.1 >>= λ right. rows_at right.1 >>= λ rows. Ok (four_ways (up.0 ∷ down.0 ∷ left.0 ∷ right.0 ∷ []) rows.0, rows.1))
    (λ n1 u1 d1. bind direction_judged (λ down. direction_at down.1 >>= λ left. direction_at left.1 >>= λ right. rows_at right.1 >>= λ rows. Ok (four_ways (n1 ∷ down.0 ∷ left.0 ∷ right.0 ∷ []) rows.0, rows.1))
    (λ n2 u2 d2. bind direction_judged (λ left. direction_at left.1 >>= λ right. rows_at right.1 >>= λ rows. Ok (four_ways (n1 ∷ n2 ∷ left.0 ∷ right.0 ∷ []) rows.0, rows.1))
    (λ n3 u3 d3. bind direction_judged (λ right. rows_at right.1 >>= λ rows. Ok (four_ways (n1 ∷ n2 ∷ n3 ∷ right.0 ∷ []) rows.0, rows.1))
    (λ n4 u4 d4. bind rows_judged (λ rows. Ok (four_ways (n1 ∷ n2 ∷ n3 ∷ n4 ∷ []) rows.0, rows.1))
    (λ rows v e. given (λ tail. four (d1 (u2 ++ (u3 ++ (u4 ++ (v ++ tail))))) (d2 (u3 ++ (u4 ++ (v ++ tail)))) (d3 (u4 ++ (v ++ tail))) (d4 (v ++ tail)) (e tail)))))))

hexagon_judged : Judges IsHexagon hexagon_at
unfolding hexagon_at
hexagon_judged =
    bind direction_judged (λ n1. direction_at n1.1 >>= λ n2. direction_at n2.1 >>= λ n3. direction_at n3.1 >>= λ n4. direction_at n4.1 >>= λ n5. direction_at n5.1 >>= λ n6. rows_at n6.1 >>= λ rows.
    Ok (six_ways (n1.0 ∷ n2.0 ∷ n3.0 ∷ n4.0 ∷ n5.0 ∷ n6.0 ∷ []) rows.0, rows.1))
    (λ n1 u1 d1. bind direction_judged (λ n2. direction_at n2.1 >>= λ n3. direction_at n3.1 >>= λ n4. direction_at n4.1 >>= λ n5. direction_at n5.1 >>= λ n6. rows_at n6.1 >>= λ rows.
    Ok (six_ways (n1 ∷ n2.0 ∷ n3.0 ∷ n4.0 ∷ n5.0 ∷ n6.0 ∷ []) rows.0, rows.1))
    (λ n2 u2 d2. bind direction_judged (λ n3. direction_at n3.1 >>= λ n4. direction_at n4.1 >>= λ n5. direction_at n5.1 >>= λ n6. rows_at n6.1 >>= λ rows. Ok (six_ways (n1 ∷ n2 ∷ n3.0 ∷ n4.0 ∷ n5.0 ∷ n6.0 ∷ []) rows.0, rows.1))
    (λ n3 u3 d3. bind direction_judged (λ n4. direction_at n4.1 >>= λ n5. direction_at n5.1 >>= λ n6. rows_at n6.1 >>= λ rows. Ok (six_ways (n1 ∷ n2 ∷ n3 ∷ n4.0 ∷ n5.0 ∷ n6.0 ∷ []) rows.0, rows.1))
    (λ n4 u4 d4. bind direction_judged (λ n5. direction_at n5.1 >>= λ n6. rows_at n6.1 >>= λ rows. Ok (six_ways (n1 ∷ n2 ∷ n3 ∷ n4 ∷ n5.0 ∷ n6.0 ∷ []) rows.0, rows.1))
    (λ n5 u5 d5. bind direction_judged (λ n6. rows_at n6.1 >>= λ rows. Ok (six_ways (n1 ∷ n2 ∷ n3 ∷ n4 ∷ n5 ∷ n6.0 ∷ []) rows.0, rows.1))
    (λ n6 u6 d6. bind rows_judged (λ rows. Ok (six_ways (n1 ∷ n2 ∷ n3 ∷ n4 ∷ n5 ∷ n6 ∷ []) rows.0, rows.1))
    (λ rows v e. given (λ tail. six (d1 (u2 ++ (u3 ++ (u4 ++ (u5 ++ (u6 ++ (v ++ tail))))))) (d2 (u3 ++ (u4 ++ (u5 ++ (u6 ++ (v ++ tail)))))) (d3 (u4 ++ (u5 ++ (u6 ++ (v ++ tail)))))
    (d4 (u5 ++ (u6 ++ (v ++ tail)))) (d5 (u6 ++ (v ++ tail))) (d6 (v ++ tail)) (e tail)))))))))

graph_judged : Judges IsGraph graph_at
unfolding graph_at
graph_judged = bind (repeated_judged IsVertex vertex_at is_name_kind vertex_takes_some vertex_judged) (λ vs. Ok (graph_of vs.0, vs.1)) (λ vs u d. given (λ tail. vertices (d tail)))

generated_judged : {P : List Lexeme → SpeltBoard → List Lexeme → Type 0} {read : List Lexeme → Reading SpeltBoard} (text : List ℕ) → Judges P read → Judges (IsGenerated text P) (generated_at text read)
unfolding generated_at
generated_judged {P} {read} text j =
    bind (word_judged text) (λ at. within_at OpenParenthesis CloseParenthesis read at.1) (λ at u d. seen (λ ts x rest e. generated (d ts) e) (within_judged OpenParenthesis CloseParenthesis j))

pub board_judged : Judges IsBoard board_at
unfolding board_at
board_judged =
    choose (next_word (codes "rectangle")) (λ t us vs. refl) (seen (λ ts x rest d. rectangular d) (generated_judged (codes "rectangle") rectangle_judged))
    (choose (next_word (codes "hexagon")) (λ t us vs. refl) (seen (λ ts x rest d. hexagonal d) (generated_judged (codes "hexagon") hexagon_judged))
    (seen (λ ts x rest d. graphic d) (generated_judged (codes "graph") graph_judged)))
