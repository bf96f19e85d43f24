-- How wide a table has to be for the directions of a list.
use Rattle.rbg_base.proofs.Common.{◌≡◌, ℕ, zero, suc, ◌+◌, ◌<◌, ◌≤◌, max, List, [], ◌∷◌, ◌++◌, All, length, get_or, take, refl, ap, ◌∙◌, arith, flat_map-append}
use Rattle.std.proofs.lemmas.List.{take_more, length-map, get_or-map, append-nil}
use Rattle.std.proofs.lemmas.List.Recursion.{max_push, max_bounds, max_least}
use Rattle.rbg_board.proofs.Common.{width_of, Written, directions_in, directions_of, AllCovered}

-- the direction of an entry, and one more
abbrev past : ℕ → ℕ
past direction = direction + 1

-- one more direction
pub width_push : (directions : List ℕ) (direction : ℕ) → width_of (directions ++ direction ∷ []) ≡ max (width_of directions) (direction + 1)
width_push directions direction = max_push width_of past refl (λ x xs. refl) directions direction

-- the width of the first directions, and one more
pub width_more : (directions : List ℕ) (i d : ℕ) → i < length directions → width_of (take (i + 1) directions) ≡ max (width_of (take i directions)) (get_or directions i d + 1)
width_more directions i d within = ap width_of (take_more directions i d within) ∙ width_push (take i directions) (get_or directions i d)

-- every direction is below the width
pub width_covers : (directions : List ℕ) → All (λ d. d < width_of directions) directions
width_covers directions k d within = omega (arith, max_bounds width_of past refl (λ x xs. refl) directions k d within)

-- directions below a limit have a width up to it
pub width_limit : (directions : List ℕ) (limit : ℕ) → All (λ d. d < limit) directions → width_of directions ≤ limit
width_limit directions limit below = max_least width_of past refl (λ x xs. refl) directions 0 limit (λ k within. omega (arith, below k 0 within))

-- the width of two lists of directions is the larger of their widths
pub width_append : (first second : List ℕ) → width_of (first ++ second) ≡ max (width_of first) (width_of second)
width_append [] second = omega arith
width_append (direction ∷ first) second = omega (arith, width_append first second)

-- the width of the first edges of a vertex, and one more
pub edges_more : (edges : List (ℕ × ℕ)) (i : ℕ) → i < length edges → width_of (take (i + 1) (directions_in edges)) ≡ max (width_of (take i (directions_in edges))) ((get_or edges i (0, 0)).0 + 1)
edges_more edges i within =
    width_more (directions_in edges) i 0 (omega (arith, length-map edges (λ edge. edge.0)))
    ∙ ap (λ d. max (width_of (take i (directions_in edges))) (d + 1)) (get_or-map (λ edge. edge.0) edges i (0, 0) 0 within)

-- the width of the first vertices, and one more
pub vertices_more : (vertices : List Written) (i : ℕ) (w : Written) → i < length vertices
    → width_of (directions_of (take (i + 1) vertices)) ≡ max (width_of (directions_of (take i vertices))) (width_of (directions_in (get_or vertices i w).edges))
vertices_more vertices i w within =
    let vertex = get_or vertices i w in
    ap (λ ws. width_of (directions_of ws)) (take_more vertices i w within)
    ∙ ap width_of (flat_map-append (λ v. directions_in v.edges) (take i vertices) (vertex ∷ []))
    ∙ width_append (directions_of (take i vertices)) (directions_of (vertex ∷ []))
    ∙ ap (λ ds. max (width_of (directions_of (take i vertices))) (width_of ds)) (append-nil (directions_in vertex.edges))

-- the directions of edges are below a width that is at least theirs
edges_below : (edges : List (ℕ × ℕ)) (width : ℕ) → width_of (directions_in edges) ≤ width → All (λ edge. edge.0 < width) edges
edges_below edges width least k edge within =
    let direction = get_or-map (λ e. e.0) edges k edge 0 within in
    let covered = width_covers (directions_in edges) k 0 (omega (arith, length-map edges (λ e. e.0))) in
    omega (arith, direction, covered)

-- every direction of a vertex is below the width of all directions
pub vertices_below : (vertices : List Written) (width : ℕ) → width_of (directions_of vertices) ≤ width → AllCovered width vertices
vertices_below [] width least k w within = absurd (omega arith)
vertices_below (v ∷ vs) width least zero w within = edges_below v.edges width (omega (arith, width_append (directions_in v.edges) (directions_of vs)))
vertices_below (v ∷ vs) width least (suc k) w within = vertices_below vs width (omega (arith, width_append (directions_in v.edges) (directions_of vs))) k w (omega arith)
