-- Whole texts that are rewritten.
use Rattle.std.proofs.Common.{ℕ, ◌≡◌, ◌≤◌, List, [], ◌++◌, length, take, drop, Result, Ok, Err, IfOk, Vec, refl, sym, ◌∙◌, subst}
use Rattle.rbg_import.specs.Comments.{AddsRewritten, Rewrites}
use Rattle.rbg_import.specs.Importing.{IsChanged, IsGraph}

-- what is added to no bytes is all that there is
pub whole_rewritten : (bytes old new : List ℕ) → old ≡ [] → AddsRewritten bytes old new →
    Rewrites bytes (length bytes) new
whole_rewritten bytes old new none adds =
    subst (λ (xs : List ℕ). Rewrites bytes (length bytes) xs)
    (sym (adds.is ∙ subst (λ (xs : List ℕ). xs ++ adds.added ≡ adds.added) (sym none) refl)) adds.rewrites

pub is_changed : (text : List ℕ) (start end : ℕ) (first rest before notes graph after new : List ℕ) → start ≤ end →
    end ≤ length text → first ≡ take start text → rest ≡ drop end text → Rewrites first (length first) before →
    IsGraph graph → Rewrites rest (length rest) after → new ≡ ((before ++ notes) ++ graph) ++ after →
    IsChanged text new
is_changed text start end first rest before notes graph after new in_order within is_first is_rest front is_graph back is = record {
  start = start;
  end = end;
  in_order = in_order;
  within = within;
  before = before;
  notes = notes;
  graph = graph;
  after = after;
  is = is;
  rewrites_before = subst (λ (xs : List ℕ). Rewrites xs (length xs) before) is_first front;
  is_graph = is_graph;
  rewrites_after = subst (λ (xs : List ℕ). Rewrites xs (length xs) after) is_rest back;
}

-- the same of what a call returns, whose parts are lent
pub changed_by : {E : Type 0} {Z : Type 0} (r : Result (Vec ℕ Z) E) (text : List ℕ) (start end : ℕ)
    (first rest before graph after b n g h : List ℕ) → start ≤ end → end ≤ length text → first ≡ take start text →
    rest ≡ drop end text → Rewrites first (length first) before → IsGraph graph → Rewrites rest (length rest) after →
    b ≡ before → g ≡ graph → h ≡ after →
    IfOk r (λ new. new.items ≡ ((b ++ n) ++ g) ++ h) → IfOk r (λ new. IsChanged text new.items)
changed_by (Ok new) text start end first rest before graph after b n g h in_order within is_first is_rest front is_graph back b_is g_is h_is is =
    is_changed text start end first rest b n g h new.items in_order within is_first is_rest
    (subst (λ (xs : List ℕ). Rewrites first (length first) xs) (sym b_is) front)
    (subst IsGraph (sym g_is) is_graph)
    (subst (λ (xs : List ℕ). Rewrites rest (length rest) xs) (sym h_is) back) is
changed_by (Err e) text start end first rest before graph after b n g h in_order within is_first is_rest front is_graph back b_is g_is h_is is = tt
