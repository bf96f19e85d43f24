-- What targets tell of leaps, and that all that one is led to is on the board.
use Rattle.rbg_base.proofs.Common.{◌≡◌, ℕ, ◌<◌, ◌≤◌, ◌⊎◌, inl, inr, List, [], ◌∷◌, ◌++◌, length, get_or, sym, subst, ◌∙◌, Contains, All, Contains-get_or}
use Rattle.rbg_rules.specs.Meaning.{IsNumbered, positions_of, AbstractGame, Start, after, Follows, IsGame}
use Rattle.rbg_rules.proofs.LocalityLemmas.{locality_law}
use Rattle.rbg_shifts.specs.declared.target.Target.{Target}
use Rattle.rbg_shifts.proofs.Common.{AreTargetsFrom, IsLeap, Leads, stay, go, row_words}
use Rattle.rbg_board.specs.Graph.{IsClosed}
use Rattle.rbg_shifts.proofs.ShiftLemmas.{follower_stands, action_within}
use Rattle.rbg_flat.proofs.Common.{Way, leaping, stepping, IsFirstLead, IsLead, Moves, stays, goes, SetsOfVertices, HasBitAt, IsMarked, IsOpen, Meets, ClosesWord, IsAmong, IsTargetFor, IsPositionIn, AreOn, AreSizedFor}

-- What follows stands in the rules.
pub within : (game : AbstractGame) → IsNumbered game.rules → (f : Start) (m : List ℕ) (p : ℕ) → Follows game.rules f (m ++ p ∷ []) → (0 < p) × (p ≤ length (positions_of game.rules))
within game numbered f [] p follows =
    let stands = follower_stands game.rules f p follows in
    action_within game.rules numbered p stands.0 stands.1
within game numbered f (q ∷ m) p follows = within game numbered (after q) m p ((locality_law game.rules numbered f [] q (m ++ p ∷ [])).0.0 follows).1

module _ (game : AbstractGame) (numbered : IsNumbered game.rules) (f : Start) (vertex : ℕ) (targets : List Target) (are : AreTargetsFrom game f vertex targets) where
  pub among_leap : (v p : ℕ) → IsAmong targets v p → IsLeap game f vertex p v
  among_leap v p among = are.sound among.target among.listed p v (record { position = among.there.position; column = among.there.column; set = among.there.set })

  pub leap_among : (v p : ℕ) → IsLeap game f vertex p v → IsAmong targets v p
  leap_among v p leap =
      let found = are.all p v leap in
      record { target = found.0; listed = found.1; there = record { position = found.2.position; column = found.2.column; set = found.2.set } }

  -- Some leap leads to each target.
  pub some_leap : (t : Target) → Contains targets t → (u : ℕ) × IsLeap game f vertex t.position u
  some_leap t listed = let one = are.some t listed in (one.0, are.sound t listed t.position one.0 one.1)

  pub target_position : (t : Target) → Contains targets t → IsPositionIn game t.position
  target_position t listed =
      let leap = (some_leap t listed).1 in
      let range = within game numbered f leap.shifts t.position leap.follows in
      record { from_one = range.0; there = range.1 }

  pub targets_for : All (IsTargetFor game) targets
  targets_for i d below =
      let listed = Contains-get_or targets i d below in
      record { position = target_position (get_or targets i d) listed; column = are.columns (get_or targets i d) listed }

-- Shifts lead from the board to the board.
pub leads_on_board : (game : AbstractGame) → IsClosed game.board → (v : ℕ) (m : List ℕ) (u : ℕ) → v < length game.board.first → Leads game v m u → u < length game.board.first
leads_on_board game closed v m u here stay = here
leads_on_board game closed v m u here (go {w = w} {m = rest} d stands edge more) = leads_on_board game closed w rest u (closed.to_vertex v d w edge) more

-- What one is led to is on the board, at positions of the game.
pub first_on_board : (way : Way) (game : AbstractGame) → IsGame game → (f : Start) (v p u : ℕ) → v < length game.board.first → IsFirstLead way game f v p u → u < length game.board.first
first_on_board leaping game lawful f v p u here leap = leads_on_board game lawful.board v leap.shifts u here leap.leads
first_on_board stepping game lawful f v p u here step = subst (λ (k : ℕ). k < length game.board.first) (sym step.0) here

pub first_within : (way : Way) (game : AbstractGame) → IsGame game → (f : Start) (v p u : ℕ) → IsFirstLead way game f v p u → (0 < p) × (p ≤ length (positions_of game.rules))
first_within leaping game lawful f v p u leap = within game lawful.numbered f leap.shifts p leap.follows
first_within stepping game lawful f v p u step = within game lawful.numbered f [] p step.1

moved_on_board : (game : AbstractGame) → IsClosed game.board → (q v u : ℕ) → v < length game.board.first → Moves game q v u → u < length game.board.first
moved_on_board game closed q v u here (stays plain) = here
moved_on_board game closed q v u here (goes d stands edge) = closed.to_vertex v d u edge

pub lead_on_board : (way : Way) (game : AbstractGame) → IsGame game → (q v p u : ℕ) → v < length game.board.first → IsLead way game q v p u → u < length game.board.first
lead_on_board leaping game lawful q v p u here leap = leads_on_board game lawful.board v leap.shifts u here leap.leads
lead_on_board stepping game lawful q v p u here step = moved_on_board game lawful.board q v u here step.moves

pub lead_within : (way : Way) (game : AbstractGame) → IsGame game → (q v p u : ℕ) → IsLead way game q v p u → (0 < p) × (p ≤ length (positions_of game.rules))
lead_within leaping game lawful q v p u leap = within game lawful.numbered (after q) leap.shifts p leap.follows
lead_within stepping game lawful q v p u step = within game lawful.numbered (after q) [] p step.follows

-- Where what was met is on the board, so is all that is marked.
pub met_on : (game : AbstractGame) (In Opens : (v p : ℕ) → Type 0) (old new : SetsOfVertices) → ((v p : ℕ) → In v p → v < length game.board.first) → ((v p : ℕ) → In v p → (0 < p) × (p ≤ length (positions_of game.rules))) → Meets old new In Opens → AreOn game old → AreOn game new
met_on game In Opens old new vertices positions meets on = record {
  vertex = λ v p has. by_vertex v p (meets.only v p has);
  from_one = λ v p has. by_first v p (meets.only v p has);
  there = λ v p has. by_last v p (meets.only v p has);
}
  where
    by_vertex : (v p : ℕ) → IsMarked old v p ⊎ (In v p × (Opens v p → IsOpen new v p)) → v < length game.board.first
    by_vertex v p (inl was) = on.vertex v p was
    by_vertex v p (inr (is, _)) = vertices v p is

    by_first : (v p : ℕ) → IsMarked old v p ⊎ (In v p × (Opens v p → IsOpen new v p)) → 0 < p
    by_first v p (inl was) = on.from_one v p was
    by_first v p (inr (is, _)) = (positions v p is).0

    by_last : (v p : ℕ) → IsMarked old v p ⊎ (In v p × (Opens v p → IsOpen new v p)) → p ≤ length (positions_of game.rules)
    by_last v p (inl was) = on.there v p was
    by_last v p (inr (is, _)) = (positions v p is).1

pub still_on : (way : Way) (game : AbstractGame) → IsGame game → (f : Start) (vertex : ℕ) (Opens : (v p : ℕ) → Type 0) (old new : SetsOfVertices) → vertex < length game.board.first → Meets old new (λ v p. IsFirstLead way game f vertex p v) Opens → AreOn game old → AreOn game new
still_on way game lawful f vertex Opens old new here meets on =
    met_on game (λ v p. IsFirstLead way game f vertex p v) Opens old new
    (λ v p is. first_on_board way game lawful f vertex p v here is)
    (λ v p is. first_within way game lawful f vertex p v is) meets on

-- Nothing is marked.
pub none_on : (game : AbstractGame) (sets : SetsOfVertices) → ((v p : ℕ) → ¬ IsMarked sets v p) → AreOn game sets
none_on game sets none = record {
  vertex = λ v p has. absurd (none v p has);
  from_one = λ v p has. absurd (none v p has);
  there = λ v p has. absurd (none v p has);
}

-- The same is marked.
pub same_on : (game : AbstractGame) (old new : SetsOfVertices) (q c word : ℕ) → ClosesWord old new q c word → AreOn game old → AreOn game new
same_on game old new q c word closing on = record {
  vertex = λ v p has. on.vertex v p (was v p has);
  from_one = λ v p has. on.from_one v p (was v p has);
  there = λ v p has. on.there v p (was v p has);
}
  where
    was : (v p : ℕ) → IsMarked new v p → IsMarked old v p
    was v p has = subst (λ (marks : List ℕ). HasBitAt old.columns marks v p) closing.marks (subst (λ (k : ℕ). HasBitAt k new.marks v p) closing.columns has)

-- Sets of the same size are sized for the same game.
pub same_size : (game : AbstractGame) (old new : SetsOfVertices) → new.size ≡ old.size → new.columns ≡ old.columns → AreSizedFor game old → AreSizedFor game new
same_size game old new size columns sized = record {
  size = size ∙ sized.size;
  columns = subst (λ (k : ℕ). row_words game ≤ k) (sym columns) sized.columns;
  few = subst (λ (k : ℕ). k ≤ 64) (sym columns) sized.few;
}
