-- The actions of an accepted game keep its semi-states.
use Rattle.rbg_base.proofs.Common.{ℕ, ◌<◌, ◌≤◌, List, length, get_or, refl, sym, ◌∙◌, subst, inr, slice_set, arith, slice_index, ℕ_discrete}
use Rattle.std.proofs.lemmas.List.{length-set, get_or-replicate, length-replicate, get_or-set_same, get_or-set_other}
use Rattle.rbg_rules.specs.Expression.{AbstractAction, shift, on, off, assignment, comparison, switch, positive, negative, act, skip, sequence, fail, choice, star}
use Rattle.rbg_rules.specs.State.{AbstractGame, AbstractState, start_of, IsStateOf}
use Rattle.rbg_rules.specs.Words.{done}
use Rattle.rbg_rules.specs.Actions.{Acts}
use Rattle.rbg_rules.specs.Games.{IsGame, IsActionOf}
use Rattle.rbg_rules.specs.Laws.{StateLaw, WordLaw}

-- What holds at each index of a list, and of one more element, holds after that element is written.
pub each_after_set : (P : ℕ → ℕ → Type 0) (xs : List ℕ) (i x : ℕ) → ((k : ℕ) → k < length xs → P k (get_or xs k 0)) → P i x → (k : ℕ) → k < length (slice_set xs i x) → P k (get_or (slice_set xs i x) k 0)
each_after_set P xs i x each here k below = elim (ℕ_discrete k i) [
  | yes same ↦
      let at_i : i < length xs = subst (λ (j : ℕ). j < length xs) same inside in
      subst (λ (j : ℕ). P j (get_or (slice_set xs i x) j 0)) (sym same) (subst (P i) (sym (get_or-set_same xs i x 0 at_i)) here)
  | no other ↦ subst (P k) (sym (get_or-set_other xs i k x 0 other)) (each k inside)
]
  where
    inside : k < length xs
    inside = subst (λ (n : ℕ). k < n) (length-set xs i x) below

start_fits : (game : AbstractGame) → IsGame game → IsStateOf game (start_of game)
start_fits game lawful = record {
  player = omega arith;
  vertices = refl;
  pieces = λ v h. lawful.first_pieces v 0 h;
  variables = length-replicate (length game.bounds) 0;
  bounds = λ v h.
      let inside : v < length game.bounds = subst (λ (n : ℕ). v < n) (length-replicate (length game.bounds) 0) h in
      subst (λ (n : ℕ). n ≤ slice_index game.bounds v) (sym (get_or-replicate (length game.bounds) v 0 0 inside)) (omega arith);
  vertex = lawful.some_vertex;
}

acts_fit : (game : AbstractGame) → IsGame game → (a : AbstractAction) → IsActionOf game a → (s t : AbstractState) → IsStateOf game s → Acts game a s t → IsStateOf game t
acts_fit game lawful (shift d) fits s t state (u, leads, is) =
    subst (IsStateOf game) (sym is) (record {
      player = state.player;
      vertices = state.vertices;
      pieces = state.pieces;
      variables = state.variables;
      bounds = state.bounds;
      vertex = subst (λ (n : ℕ). u < n) (sym state.vertices) (lawful.board.to_vertex s.vertex d u leads);
    })
acts_fit game lawful (on xs) fits s t state (_, is) = subst (IsStateOf game) (sym is) state
acts_fit game lawful (off x) fits s t state is =
    subst (IsStateOf game) (sym is) (record {
      player = state.player;
      vertices = length-set s.pieces s.vertex x ∙ state.vertices;
      pieces = each_after_set (λ (k y : ℕ). y < length game.pieces) s.pieces s.vertex x state.pieces fits;
      variables = state.variables;
      bounds = state.bounds;
      vertex = subst (λ (n : ℕ). s.vertex < n) (sym (length-set s.pieces s.vertex x)) state.vertex;
    })
acts_fit game lawful (assignment v e) fits s t state (n, _, bounded, is) =
    subst (IsStateOf game) (sym is) (record {
      player = state.player;
      vertices = state.vertices;
      pieces = state.pieces;
      variables = length-set s.values v n ∙ state.variables;
      bounds = each_after_set (λ (k y : ℕ). y ≤ slice_index game.bounds k) s.values v n state.bounds bounded;
      vertex = state.vertex;
    })
acts_fit game lawful (comparison e r f) fits s t state (_, _, _, _, _, is) = subst (IsStateOf game) (sym is) state
acts_fit game lawful (switch n) fits s t state is =
    subst (IsStateOf game) (sym is) (record { player = fits; vertices = state.vertices; pieces = state.pieces; variables = state.variables; bounds = state.bounds; vertex = state.vertex })
acts_fit game lawful (positive x) fits s t state (_, is) = subst (IsStateOf game) (sym is) state
acts_fit game lawful (negative x) fits s t state (_, is) = subst (IsStateOf game) (sym is) state

pub state_law : StateLaw
state_law game lawful = (start_fits game lawful, (λ p s t state applied. acts_fit game lawful applied.action (lawful.actions p applied.action applied.stands) s t state applied.acts))

pub word_law : WordLaw
word_law (act p a) no_empty_sum = (_, refl)
word_law skip no_empty_sum = (_, refl)
word_law (sequence x y) (in_x, in_y) =
    let (u, first) = word_law x in_x in
    let (v, second) = word_law y in_y in
    (_, (u, v, first, second, refl))
word_law fail no_empty_sum = absurd no_empty_sum
word_law (choice x y) (_, in_y) = let (w, word) = word_law y in_y in (w, inr word)
word_law (star x) no_empty_sum = (_, done)
