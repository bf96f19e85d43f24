-- What the crates above may cite: when two graphs are one.
use Rattle.rbg_base.proofs.Common.{◌≡◌, ℕ, ◌<◌, List, [], Option, Some, None, All, length, get_or, refl, sym, ap, ◌∙◌, arith, same_lists, get_or_default}
use Rattle.rbg_board.specs.Graph.{Graph, next, HasWidth, IsGraphOf}

-- two options with the same values are equal
same_option : (a b : Option ℕ) → ((u : ℕ) → a ≡ Some u → b ≡ Some u) → ((u : ℕ) → b ≡ Some u → a ≡ Some u) → a ≡ b
same_option None None there back = refl
same_option None (Some u) there back = back u refl
same_option (Some u) b there back = sym (there u refl)

-- two graphs of one set of edges lead to the same vertices
pub same_next : (a b : Graph) (first : List ℕ) (Edge : ℕ → ℕ → ℕ → Type 0) → IsGraphOf a first Edge → IsGraphOf b first Edge → (v d : ℕ) → next a v d ≡ next b v d
same_next a b first Edge is_a is_b v d = same_option (next a v d) (next b v d) (λ u leads. (is_b.edges v d u).1 ((is_a.edges v d u).0 leads)) (λ u leads. (is_a.edges v d u).1 ((is_b.edges v d u).0 leads))

-- two rows of ways of one width whose entries are the same are equal
same_row : (a b : List (List (Option ℕ))) (width v : ℕ) (row : List (Option ℕ)) → All (λ r. length r ≡ width) a → All (λ r. length r ≡ width) b → v < length a → v < length b
    → ((d : ℕ) → get_or (get_or a v []) d None ≡ get_or (get_or b v []) d None) → get_or a v row ≡ get_or b v row
same_row a b width v row wide_a wide_b within_a within_b leads =
    let long_a = wide_a v row within_a in
    let long_b = wide_b v row within_b in
    same_lists (get_or a v row) (get_or b v row) (omega (arith, long_a, long_b)) (λ d e inside.
    get_or_default (get_or a v row) d e None inside
    ∙ ap (λ r. get_or r d None) (get_or_default a v row [] within_a)
    ∙ leads d
    ∙ ap (λ r. get_or r d None) (get_or_default b v [] row within_b)
    ∙ get_or_default (get_or b v row) d None e (omega (arith, inside, long_a, long_b)))

-- two graphs of one width with the same first pieces that lead to the same vertices are equal
pub same_graph : (a b : Graph) (width : ℕ) → HasWidth width a → HasWidth width b → a.first ≡ b.first → ((v d : ℕ) → next a v d ≡ next b v d) → a ≡ b
unfolding next
same_graph a b width wide_a wide_b first leads =
    let vertices : length a.ways ≡ length b.ways = omega (arith, wide_a.rows, wide_b.rows, ap length first) in
    let ways : a.ways ≡ b.ways =
    same_lists a.ways b.ways vertices (λ v row within. same_row a.ways b.ways width v row wide_a.entries wide_b.entries within (omega (arith, vertices)) (leads v)) in
    λ i. record { first = first i; ways = ways i }

-- a set of edges has at most one graph of a width with given first pieces
pub one_graph : (a b : Graph) (width : ℕ) (first : List ℕ) (Edge : ℕ → ℕ → ℕ → Type 0) → HasWidth width a → HasWidth width b → IsGraphOf a first Edge → IsGraphOf b first Edge → a ≡ b
one_graph a b width first Edge wide_a wide_b is_a is_b = same_graph a b width wide_a wide_b (is_a.first_pieces ∙ sym is_b.first_pieces) (same_next a b first Edge is_a is_b)
