-- The edges of a board and the actions of rules.
use Rattle.rbg_base.proofs.Common.{◌≡◌, ℕ, zero, suc, ◌+◌, ◌<◌, ◌≤◌, ◌⊎◌, inl, inr, List, [], ◌∷◌, ◌++◌, length, ap, sym, ◌∙◌, refl, subst, arith, append_assoc, range_with_len}
use Rattle.std.specs.Prelude.{Option}
use Rattle.rbg_board.specs.Graph.{Graph, next}
use Rattle.rbg_rules.specs.Meaning.{AbstractGame, Expression, HasAction, IsActionAt, IsGame, action_of, positions_of, skip}
use Rattle.rbg_rules.specs.declared.rule.Action.{Action}
use Rattle.rbg_rules.specs.declared.rule.Action.TheVariants.{Shift, On, Off, Assign, Compare, Switch, Positive, Negative}
use Rattle.rbg_rules.proofs.PositionLemmas.{Among, Among-range_with_len, has_position}
use Rattle.rbg_c.specs.Shapes.{IsToldAction, all_ways, kind_of, named_by, way_number, ways}

-- one more way
pub ways_more : (old mid new : List ℕ) (board : Graph) (vertex index number : ℕ) (to : Option ℕ) → mid ≡ old ++ ways board vertex index → to ≡ next board vertex index → number ≡ way_number to → new ≡ mid ++ number ∷ [] → new ≡ old ++ ways board vertex (index + 1)
ways_more old mid new board vertex index number to so_far leads is written =
    let same : suc index ≡ index + 1 = omega arith in
    let told : number ≡ way_number (next board vertex index) = is ∙ ap way_number leads in
    written ∙ ((λ i. so_far i ++ told i ∷ [])
    ∙ (append_assoc old (ways board vertex index) (way_number (next board vertex index) ∷ [])
    ∙ ap (λ n. old ++ ways board vertex n) same))

-- the ways from one more vertex
pub edges_more : (mid new : List ℕ) (board : Graph) (directions index : ℕ) → mid ≡ all_ways board directions index → new ≡ mid ++ ways board index directions → new ≡ all_ways board directions (index + 1)
edges_more mid new board directions index so_far written =
    let same : suc index ≡ index + 1 = omega arith in
    written ∙ (ap (λ m. m ++ ways board index directions) so_far ∙ ap (all_ways board directions) same)

-- the action of the program is told
pub action_told : (game : AbstractGame) (position kind : ℕ) (action : Action) → IsActionAt game.rules position action → kind ≡ kind_of (action_of action skip) → IsToldAction game position kind (named_by (action_of action skip))
action_told game position kind (Shift d) stands is = record { action = action_of (Shift d) skip; stands = stands; kind_is = is; numbers_are = refl }
action_told game position kind (On pieces) stands is = record { action = action_of (On pieces) skip; stands = stands; kind_is = is; numbers_are = refl }
action_told game position kind (Off x) stands is = record { action = action_of (Off x) skip; stands = stands; kind_is = is; numbers_are = refl }
action_told game position kind (Assign v e) stands is = record { action = action_of (Assign v e) skip; stands = stands; kind_is = is; numbers_are = refl }
action_told game position kind (Compare e r f) stands is = record { action = action_of (Compare e r f) skip; stands = stands; kind_is = is; numbers_are = refl }
action_told game position kind (Switch n) stands is = record { action = action_of (Switch n) skip; stands = stands; kind_is = is; numbers_are = refl }
action_told game position kind Positive stands is = record { action = action_of Positive stands.0; stands = stands.1; kind_is = is; numbers_are = refl }
action_told game position kind Negative stands is = record { action = action_of Negative stands.0; stands = stands.1; kind_is = is; numbers_are = refl }

-- a number of a range is below its end
among_below : (first many x : ℕ) → Among x (range_with_len first many) → x < first + many
among_below first zero x h = absurd h
among_below first (suc many) x (inl same) = omega (arith, same)
among_below first (suc many) x (inr h) = let below : x < first + 1 + many = among_below (first + 1) many x h in omega (arith, below)

-- no action is at another position
pub no_action : (game : AbstractGame) (position kind : ℕ) → IsGame game → (position ≡ 0) ⊎ (length (positions_of game.rules) < position) → (numbers : List ℕ) → ¬ IsToldAction game position kind numbers
no_action game position kind lawful outside numbers told =
    let there : Among position (range_with_len 1 (length (positions_of game.rules))) = subst (Among position) lawful.numbered.in_order (has_position game.rules position told.action told.stands) in
    let from_one : 1 ≤ position = Among-range_with_len 1 (length (positions_of game.rules)) position there in
    let below : position < 1 + length (positions_of game.rules) = among_below 1 (length (positions_of game.rules)) position there in
    elim outside [
      | inl none ↦ absurd (omega (arith, none, from_one))
      | inr beyond ↦ absurd (omega (arith, beyond, below))
    ]
