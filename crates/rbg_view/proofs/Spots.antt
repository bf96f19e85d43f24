-- The rows of a board.
use Rattle.rbg_base.proofs.Common.{◌≡◌, ℕ, Bool, ◌+◌, ◌<◌, List, [], ◌++◌, max, length, take, get_or, slice_get, Some, refl, ap, sym, ◌∙◌, arith, Vec, Global, take_more, length-map, get_or-map, get_or_from_slice_get}
use Rattle.rbg_game.specs.NameTables.{bytes_of}
use Rattle.std.proofs.lemmas.List.Recursion.{max_push}
use Rattle.rbg_view.specs.declared.drawing.Spot.{Spot}
use Rattle.rbg_view.specs.Boards.{is_marked, label_text, labels_text, numbered_text, spot_from, vertex_text, vertices_text, widest}
use Rattle.rbg_view.proofs.Writing.{numbered_at}

-- the greatest of the lengths so far, and of the next one
pub widest_more : (xs : List ℕ) (i most new : ℕ) → i < length xs → most ≡ widest (take i xs) → new ≡ max most (get_or xs i 0) → new ≡ widest (take (i + 1) xs)
widest_more xs i most new within so_far is =
    is
    ∙ (ap (λ m. max m (get_or xs i 0)) so_far
    ∙ sym
    (ap widest (take_more xs i 0 within) ∙ max_push widest (λ x. x) refl (λ x ys. refl) (take i xs) (get_or xs i 0)))

-- the vertices so far, and the next one
pub vertex_more : (pieces : List (List ℕ)) (lengths : List ℕ) (marked : List (ℕ × ℕ)) (old mid new standing : List ℕ) (i : ℕ) (name : List ℕ) (spot : Spot) (mark : Bool) → i < length standing → mid ≡ old ++ vertices_text pieces lengths marked (take i standing) → slice_get pieces (get_or standing i 0) ≡ Some name → spot ≡ spot_from 0 lengths i → mark ≡ is_marked marked i → new ≡ mid ++ vertex_text name spot mark (get_or standing i 0) → new ≡ old ++ vertices_text pieces lengths marked (take (i + 1) standing)
vertex_more pieces lengths marked old mid new standing i name spot mark within so_far named is_spot is_mark written =
    numbered_at (numbered_text pieces lengths marked) old mid new standing i 0 (get_or standing i 0) within refl so_far
    (written
    ∙ (ap (λ n. mid ++ vertex_text n spot mark (get_or standing i 0)) (sym (get_or_from_slice_get pieces (get_or standing i 0) name [] named))
    ∙ (ap (λ s. mid ++ vertex_text (get_or pieces (get_or standing i 0) []) s mark (get_or standing i 0)) is_spot
    ∙ ap (λ m. mid ++ vertex_text (get_or pieces (get_or standing i 0) []) (spot_from 0 lengths i) m (get_or standing i 0)) is_mark)))

-- the names of vertices so far, and the next one
pub label_more : (old mid new : List ℕ) (names : List (Vec ℕ Global)) (i : ℕ) (name : Vec ℕ Global) (text : List ℕ) → i < length names → name ≡ get_or names i name → mid ≡ old ++ labels_text (take i (bytes_of names)) → text ≡ name.items → new ≡ mid ++ label_text (i, text) → new ≡ old ++ labels_text (take (i + 1) (bytes_of names))
label_more old mid new names i name text within is so_far value written =
    numbered_at label_text old mid new (bytes_of names) i name.items name.items (omega (arith, length-map names (λ (n : Vec ℕ Global). n.items)))
    (get_or-map (λ (n : Vec ℕ Global). n.items) names i name name.items within ∙ ap (λ (n : Vec ℕ Global). n.items) (sym is))
    so_far
    (written ∙ ap (λ t. mid ++ label_text (i, t)) value)
