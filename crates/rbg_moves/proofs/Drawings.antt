-- A legal move that is drawn pair by pair.
use Rattle.rbg_base.proofs.Common.{◌≡◌, ℕ, ◌<◌, length, List, [], ◌∷◌, ◌++◌, Bool, Option, Some, refl, sym, ap, ◌∙◌, subst, append_assoc, All, All-contains, All-contains_itself, All-weaker, Contains}
use Rattle.rbg_base.specs.Move.{IsMoveLength}
use Rattle.rbg_rules.specs.Meaning.{IsNumbered, IsSwitchAt, AbstractGame, AbstractState, Applies, Start, AbstractPlace, point_of, Legal, IsLegal}
use Rattle.rbg_search.specs.Flat.{IsFlatPart}
use Rattle.rbg_search.specs.Start.{IsPositionOf}
use Rattle.rbg_moves.specs.internal.Drawing.{ComesNext, AddsMoveOf}
use Rattle.rbg_moves.specs.internal.Stepping.{at_vertex, place_beyond}
use Rattle.rbg_moves.proofs.Steps.{legal_end, legal_on, valid_next}

-- What a flat part has found comes next.
pub all_come_next : (game : AbstractGame) → IsNumbered game.rules → (s : AbstractState) (f : Start) (pairs : List (ℕ × ℕ)) (ends : Bool) → IsFlatPart game s f pairs ends → All (λ pair. (pair.0 < length game.board.first) × IsPositionOf game.rules pair.1) pairs → All (ComesNext game s f) pairs
all_come_next game numbered s f pairs ends part within =
    All-weaker (Contains pairs) (ComesNext game s f) comes pairs (All-contains_itself pairs)
  where
    comes : (q : ℕ × ℕ) → Contains pairs q → ComesNext game s f q
    comes q has =
        let there = All-contains (λ (r : ℕ × ℕ). (r.0 < length game.board.first) × IsPositionOf game.rules r.1) pairs q within has in
        let next = (part.next q.0 q.1).0 has in
        record { next = next; valid = valid_next game numbered s f q.0 q.1 there.0 next }

-- A switch that comes next ends the move.
pub ends_move : (game : AbstractGame) → IsNumbered game.rules → (place : AbstractPlace) (q : ℕ × ℕ) (front : List (ℕ × ℕ)) → ComesNext game place.state (point_of place.last) q → IsSwitchAt game.rules q.1 → IsMoveLength (length (front ++ q ∷ [])) → AddsMoveOf game place front (front ++ q ∷ [])
ends_move game numbered place q front come switches sized =
    let to = place_beyond come.valid.later q.1 in
    record { pairs = q ∷ []; legal = (to, legal_end game numbered place q.0 q.1 come.valid.later come.next switches come.valid.applies); grown = refl; sized = sized }

-- A move that goes on after another modifier that comes next.
pub goes_on_by : (game : AbstractGame) → IsNumbered game.rules → (place : AbstractPlace) (q : ℕ × ℕ) (later : AbstractState) (front new : List (ℕ × ℕ)) → ComesNext game place.state (point_of place.last) q → ¬ IsSwitchAt game.rules q.1 → Applies game q.1 (at_vertex place.state q.0) later → AddsMoveOf game (place_beyond later q.1) (front ++ q ∷ []) new → AddsMoveOf game place front new
goes_on_by game numbered place q later front new come plain applied adds = record {
  pairs = q ∷ adds.pairs;
  legal = (adds.legal.0, legal_on game numbered place q.0 q.1 later adds.pairs adds.legal.0 come.next plain applied adds.legal.1);
  grown = adds.grown ∙ append_assoc front (q ∷ []) adds.pairs;
  sized = adds.sized;
}

-- The same, where the pair, the game and the front are told in other words.
pub move_after : (game game' : AbstractGame) → game' ≡ game → IsNumbered game.rules → (last : Option ℕ) (s : AbstractState) (q : ℕ × ℕ) (p : ℕ) → p ≡ q.1 → (later : AbstractState) (front pushed new : List (ℕ × ℕ)) → pushed ≡ front ++ q ∷ [] → ComesNext game s (point_of last) q → ¬ IsSwitchAt game.rules q.1 → Applies game' q.1 (at_vertex s q.0) later → AddsMoveOf game (place_beyond later p) pushed new → AddsMoveOf game (record { state = s; last = last }) front new
move_after game game' same numbered last s q p position later front pushed new is come plain applied adds =
    goes_on_by game numbered (record { state = s; last = last }) q later front new come plain
    (subst (λ (g : AbstractGame). Applies g q.1 (at_vertex s q.0) later) same applied)
    (subst (λ (r : ℕ). AddsMoveOf game (place_beyond later r) (front ++ q ∷ []) new) position
    (subst (λ (ps : List (ℕ × ℕ)). AddsMoveOf game (place_beyond later p) ps new) is adds))

pub move_ended : (game game' : AbstractGame) → game' ≡ game → IsNumbered game.rules → (last : Option ℕ) (s : AbstractState) (q : ℕ × ℕ) (p : ℕ) → p ≡ q.1 → (front pushed : List (ℕ × ℕ)) → pushed ≡ front ++ q ∷ [] → ComesNext game s (point_of last) q → IsSwitchAt game'.rules p → IsMoveLength (length pushed) → AddsMoveOf game (record { state = s; last = last }) front pushed
move_ended game game' same numbered last s q p position front pushed is come switches sized =
    subst (AddsMoveOf game (record { state = s; last = last }) front) (sym is)
    (ends_move game numbered (record { state = s; last = last }) q front come
    (subst (λ (r : ℕ). IsSwitchAt game.rules r) position (subst (λ (g : AbstractGame). IsSwitchAt g.rules p) same switches))
    (subst (λ (ps : List (ℕ × ℕ)). IsMoveLength (length ps)) is sized))
