-- Boards whose directions lead to the same vertices.
use Rattle.rbg_base.proofs.Common.{◌≡◌, ℕ, ◌<◌, ◌≤◌, ◌⊎◌, inl, inr, List, [], None, length, get_or, refl, sym, ap, ◌∙◌, arith, cases_lt, get_or_past}
use Rattle.rbg_board.specs.Graph.{Graph, next, HasWidth}
use Rattle.rbg_board.proofs.CallerLemmas.{same_graph}

-- no direction leads from a number that is no vertex, and none leads that is no direction of the board
none_from : (g : Graph) (width v d : ℕ) → HasWidth width g → length g.first ≤ v → next g v d ≡ None
unfolding next
none_from g width v d wide past = ap (λ row. get_or row d None) (get_or_past g.ways v [] (omega (arith, wide.rows)))

none_within : (g : Graph) (width v d : ℕ) → HasWidth width g → v < length g.first → width ≤ d → next g v d ≡ None
unfolding next
none_within g width v d wide within past =
    let long = wide.entries v [] (omega (arith, wide.rows)) in
    get_or_past (get_or g.ways v []) d None (omega (arith, long))

none_in : (g : Graph) (width v d : ℕ) → HasWidth width g → width ≤ d → next g v d ≡ None
none_in g width v d wide past = cases (cases_lt v (length g.first))
  where
    cases : (v < length g.first) ⊎ (length g.first ≤ v) → next g v d ≡ None
    cases (inl within) = none_within g width v d wide within past
    cases (inr beyond) = none_from g width v d wide beyond

-- the same board with other first pieces
abbrev led : Graph → List ℕ → Graph
led g first = record { first = first; ways = g.ways }

led_next : (g : Graph) (first : List ℕ) (v d : ℕ) → next (led g first) v d ≡ next g v d
unfolding next
led_next g first v d = refl

-- boards of as many vertices and of one width, from whose vertices all directions lead to the same ones, have the same
-- ways
pub same_ways : (a b : Graph) (width : ℕ) → HasWidth width a → HasWidth width b → length a.first ≡ length b.first →
    ((v d : ℕ) → v < length a.first → d < width → next a v d ≡ next b v d) → a.ways ≡ b.ways
same_ways a b width wide_a wide_b count alike =
    ap (λ (g : Graph). g.ways) (same_graph a (led b a.first) width wide_a (record { rows = sym wide_b_rows; entries = wide_b.entries }) refl (λ v d. anywhere v d (cases_lt v (length a.first)) (cases_lt d width)))
  where
    wide_b_rows : length a.first ≡ length b.ways
    wide_b_rows = count ∙ sym wide_b.rows

    anywhere : (v d : ℕ) → (v < length a.first) ⊎ (length a.first ≤ v) → (d < width) ⊎ (width ≤ d) → next a v d ≡ next (led b a.first) v d
    anywhere v d (inl within) (inl here) = alike v d within here ∙ sym (led_next b a.first v d)
    anywhere v d (inl within) (inr past) = none_in a width v d wide_a past ∙ (sym (none_in b width v d wide_b past) ∙ sym (led_next b a.first v d))
    anywhere v d (inr beyond) _ = none_from a width v d wide_a beyond ∙ (sym (none_from b width v d wide_b (omega (arith, count, beyond))) ∙ sym (led_next b a.first v d))

-- boards of the same ways have as many vertices, the same width, and lead to the same vertices
pub as_many : (a b : Graph) (w v : ℕ) → HasWidth w a → HasWidth v b → a.ways ≡ b.ways → length a.first ≡ length b.first
as_many a b w v wide_a wide_b same = sym wide_a.rows ∙ (ap length same ∙ wide_b.rows)

pub as_wide : (a b : Graph) (w v : ℕ) → HasWidth w a → HasWidth v b → 0 < length a.first → a.ways ≡ b.ways → w ≡ v
as_wide a b w v wide_a wide_b some same =
    let rows = as_many a b w v wide_a wide_b same in
    sym (wide_a.entries 0 [] (omega (arith, wide_a.rows, some))) ∙ (ap (λ ways. length (get_or ways 0 [])) same ∙ wide_b.entries 0 [] (omega (arith, wide_b.rows, rows, some)))

pub lead_alike : (a b : Graph) (v d : ℕ) → a.ways ≡ b.ways → next a v d ≡ next b v d
unfolding next
lead_alike a b v d same = ap (λ ways. get_or (get_or ways v []) d None) same
