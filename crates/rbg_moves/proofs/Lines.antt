-- What a walk finds after a straight line of modifiers is what it finds before it.
use Rattle.rbg_base.proofs.Common.{◌≡◌, ℕ, ◌+◌, ◌-◌, ◌*◌, ◌<◌, ◌≤◌, List, [], ◌∷◌, ◌++◌, length, Bool, false, Option, Some, None, refl, sym, ap, ◌∙◌, subst, arith, Result, Ok, length_push, append_assoc, append-nil}
use Rattle.rbg_base.specs.Move.{most_pairs}
use Rattle.rbg_rules.specs.Meaning.{IsNumbered, positions_of, switch, HasAction, IsSwitchAt, AbstractGame, AbstractState, IsStateOf, IsGame, IsStart, IsPlaceOf, after, point_of, Applies, IsModifierAt}
use Rattle.rbg_rules.proofs.MoveLemmas.{Applies_one}
use Rattle.rbg_rules.proofs.TableLemmas.{numbered_action}
use Rattle.rbg_state.specs.History.{History}
use Rattle.rbg_flat.specs.Onward.{IsAlone, IsOnward}
use Rattle.rbg_flat.specs.declared.onward.Onward.TheVariants.{Modifier}
use Rattle.rbg_search.specs.Start.{IsPositionOf}
use Rattle.rbg_search.proofs.Common.{Searching, IsSpent, most_candidates}
use Rattle.rbg_search.proofs.Alone.{some_pair}
use Rattle.rbg_search.proofs.Lone.{further, spent_further, line_answered, line_reached}
use Rattle.rbg_search.specs.declared.over.Over.{Over}
use Rattle.rbg_moves.specs.internal.Asking.{question_of, IsGivenUp}
use Rattle.rbg_moves.specs.internal.Gathering.{AddsMove, IsWalked}
use Rattle.rbg_moves.specs.internal.Lines.{IsLine, stays, goes_on, EndsWith, openings_of, FollowsLine}
use Rattle.rbg_moves.specs.internal.Stepping.{place_beyond, Beyond}
use Rattle.rbg_moves.proofs.Further.{HasCome, one_turn, turn_done, turn_given_up, walk_switch}
use Rattle.rbg_moves.proofs.Steps.{modifier_position}

-- One pair more.
further_push : (h : Searching) (ps : List (ℕ × ℕ)) (x : ℕ × ℕ) → further h (length (ps ++ x ∷ [])) ≡ further (further h (length ps)) 1
further_push h ps x =
    let size : length (ps ++ x ∷ []) ≡ length ps + 1 = length_push ps x in
    let opened : h.opened + length (ps ++ x ∷ []) ≡ h.opened + length ps + 1 = omega (arith, size) in
    let taken : h.taken + length (ps ++ x ∷ []) ≡ h.taken + length ps + 1 = omega (arith, size) in
    λ i. record h { opened = opened i; taken = taken i }

further_none : (h : Searching) → further h 0 ≡ h
further_none h =
    let opened : h.opened + 0 ≡ h.opened = omega arith in
    let taken : h.taken + 0 ≡ h.taken = omega arith in
    λ i. record h { opened = opened i; taken = taken i }

further_one : (h : Searching) (n : ℕ) → further h (n + 1) ≡ further (further h n) 1
further_one h n =
    let opened : h.opened + (n + 1) ≡ h.opened + n + 1 = omega arith in
    let taken : h.taken + (n + 1) ≡ h.taken + n + 1 = omega arith in
    λ i. record h { opened = opened i; taken = taken i }

-- A switch is a modifier, and valid everywhere.
switch_applies : (game : AbstractGame) (p n : ℕ) (s : AbstractState) → HasAction game.rules p (switch n) → Applies game p s (record s { player = n })
switch_applies game p n s stands = record { action = switch n; stands = stands; acts = refl }

-- There is a pair of a position and a vertex.
pub position_pairs : (game : AbstractGame) → IsGame game → (p : ℕ) → IsPositionOf game.rules p → 1 ≤ most_candidates game
position_pairs game lawful p position =
    some_pair (length (positions_of game.rules)) (length game.board.first) (p - 1) 0 (omega (arith, position.from_one, position.there)) lawful.some_vertex

-- A line ends after a position of the rules.
line_end : (game : AbstractGame) → IsNumbered game.rules → {s t : AbstractState} {p q : ℕ} {pairs : List (ℕ × ℕ)} → IsPositionOf game.rules p → IsLine game s p pairs t q → IsPositionOf game.rules q
line_end game numbered position stays = position
line_end game numbered position (goes_on {r = r} line fits alone modifier plain applied) = modifier_position game numbered r modifier

-- One modifier more was applied.
pub line_more : {game : AbstractGame} {s t u : AbstractState} {p q r : ℕ} {pairs : List (ℕ × ℕ)} → IsLine game s p pairs t q → IsStateOf game t → IsOnward game.rules q (Modifier r) → Applies game r t u → IsLine game s p (pairs ++ (t.vertex, r) ∷ []) u r
line_more line fits (alone, modifier, plain) applies = goes_on line fits alone modifier plain applies

-- A search that is as it was takes up so many openings and pairs.
pub kept_further : (old now new : Searching) (n : ℕ) → now ≡ old → new ≡ further now n → new ≡ record old { opened = new.opened; taken = new.taken }
kept_further old now new n same taken =
    let is : new ≡ further old n = subst (λ (x : Searching). new ≡ further x n) same taken in
    is ∙ ap (λ (x : Searching). let y : Searching = record old { opened = x.opened; taken = x.taken } in y) (sym is)

-- They were taken up for the line, and for the switch that ends it.
pub line_followed : {old now new : Searching} {s t : AbstractState} {front front' pairs : List (ℕ × ℕ)} {p q n : ℕ} (stop : Option ℕ) → now ≡ old → IsLine old.game s p pairs t q → EndsWith old.game q stop → front' ≡ front ++ pairs → n ≡ length pairs + openings_of stop → new ≡ further now n → IsGame old.game → 0 < now.modifiers → now.taken ≤ now.opened * most_candidates now.game → FollowsLine old new s t front front' p q stop
line_followed {old} {new = new} {pairs = pairs} {n = n} stop same line ends is count taken lawful some few = record {
  pairs = pairs;
  line = line;
  ends = ends;
  front_is = is;
  search = subst (λ (x : Searching). new ≡ further x n) same taken ∙ ap (further old) count;
  lawful = lawful;
  some = subst (λ (x : Searching). 0 < x.modifiers) same some;
  few = subst (λ (x : Searching). x.taken ≤ x.opened * most_candidates x.game) same few;
}

module _ (old new : Searching) (s : AbstractState) (p max : ℕ) (front : List (ℕ × ℕ)) (had has : List (List (ℕ × ℕ))) (first : List (ℕ × ℕ)) (ended : Bool) (lawful : IsGame old.game) (position : IsPositionOf old.game.rules p) (some : 0 < old.modifiers) (spent : IsSpent old.game old.opened old.taken) (few : length had ≤ max) where
  pairs_some : 1 ≤ most_candidates old.game
  pairs_some = position_pairs old.game lawful p position

  abbrev at : AbstractState → History
  at t = record { state = t; past = []; room = 2 }

  starts : {pairs : List (ℕ × ℕ)} {t : AbstractState} {q : ℕ} → IsLine old.game s p pairs t q → IsStart old.game.rules (after q)
  starts {q = q} line = let there = line_end old.game lawful.numbered position line in numbered_action old.game.rules lawful.numbered q there.from_one there.there

  -- One modifier of it comes next.
  come : (n : ℕ) (t u : AbstractState) (q r : ℕ) → IsStateOf old.game t → IsStart old.game.rules (after q) → IsAlone old.game.rules q r → IsModifierAt old.game.rules r → Applies old.game r t u → (let answer : Result Bool Over = Ok false in HasCome (further old n) (further (further old n) 1) (at t) (at t) (point_of (Some q)) answer ((t.vertex, r) ∷ []) false)
  come n t u q r fits start alone modifier applies =
      let enough : 2 ≤ 2 = omega arith in
      let spent_now = spent_further old n spent pairs_some in
      record {
        asked = line_answered (further old n) lawful some spent_now (at t) enough fits q r start alone modifier u applies;
        was = refl;
        found = line_reached (further old n) lawful some spent_now (at t) enough fits q r start alone modifier u applies;
      }

  -- So does a switch.
  switched : (n : ℕ) (t : AbstractState) (q r : ℕ) → IsStateOf old.game t → IsStart old.game.rules (after q) → IsAlone old.game.rules q r → IsSwitchAt old.game.rules r → (let answer : Result Bool Over = Ok false in HasCome (further old n) (further (further old n) 1) (at t) (at t) (point_of (Some q)) answer ((t.vertex, r) ∷ []) false)
  switched n t q r fits start alone switches =
      come n t (record t { player = switches.player }) q r fits start alone (record { action = switch switches.player; stands = switches.stands; modifies = refl }) (switch_applies old.game r switches.player t switches.stands)

  after_one : (P : AbstractState → Type 0) (t u : AbstractState) (r : ℕ) → Applies old.game r t u → P u → Beyond old.game t (t.vertex, r) P
  after_one P t u r applied holds later applied' = subst P (Applies_one old.game lawful.numbered r applied applied') holds

  shorter : (ps : List (ℕ × ℕ)) (x : ℕ × ℕ) → length (front ++ (ps ++ x ∷ [])) < most_pairs → length (front ++ ps) < most_pairs
  shorter ps x short =
      let joined : length ((front ++ ps) ++ x ∷ []) ≡ length (front ++ (ps ++ x ∷ [])) = ap (λ (qs : List (ℕ × ℕ)). length qs) (append_assoc front ps (x ∷ [])) in
      let size = length_push (front ++ ps) x in
      omega (arith, joined, size, short)

  -- What is so after one modifier more is so of the longer line.
  split : (P : Searching → List (ℕ × ℕ) → Type 0) (ps : List (ℕ × ℕ)) (x : ℕ × ℕ) → P (further old (length (ps ++ x ∷ []))) (front ++ (ps ++ x ∷ [])) → P (further (further old (length ps)) 1) ((front ++ ps) ++ x ∷ [])
  split P ps x holds =
      subst (λ (qs : List (ℕ × ℕ)). P (further (further old (length ps)) 1) qs) (sym (append_assoc front ps (x ∷ [])))
      (subst (λ (h : Searching). P h (front ++ (ps ++ x ∷ []))) (further_push old ps x) holds)

  none : (P : Searching → List (ℕ × ℕ) → Type 0) → P (further old 0) (front ++ []) → P old front
  none P holds = subst (λ (qs : List (ℕ × ℕ)). P old qs) (append-nil front) (subst (λ (h : Searching). P h (front ++ [])) (further_none old) holds)

  pub line_walked : {pairs : List (ℕ × ℕ)} {t : AbstractState} {q : ℕ} → IsLine old.game s p pairs t q → length (front ++ pairs) < most_pairs → IsWalked (further old (length pairs)) new (place_beyond t q) (front ++ pairs) max had has first ended → IsWalked old new (place_beyond s p) front max had has first ended
  line_walked stays short walked = none (λ h qs. IsWalked h new (place_beyond s p) qs max had has first ended) walked
  line_walked (goes_on {ps = ps} {t = t} {u = u} {q = q} {r = r} line fits alone modifier plain applied) short walked =
      let less = shorter ps (t.vertex, r) short in
      let later = split (λ h qs. IsWalked h new (place_beyond u r) qs max had has first ended) ps (t.vertex, r) walked in
      let turn = one_turn (Some q) (front ++ ps) had lawful (come (length ps) t u q r fits (starts line) alone modifier applied) few plain in
      line_walked line less
      (turn_done turn less ended
      (after_one (λ then. IsWalked (further (further old (length ps)) 1) new (place_beyond then r) ((front ++ ps) ++ (t.vertex, r) ∷ []) max had has first ended) t u r applied later))

  pub line_given_up : (D W : Type 0) {pairs : List (ℕ × ℕ)} {t : AbstractState} {q : ℕ} → IsLine old.game s p pairs t q → length (front ++ pairs) < most_pairs → IsGivenUp (further old (length pairs)) (question_of max) t (after q) (most_pairs - length (front ++ pairs)) D W → IsGivenUp old (question_of max) s (after p) (most_pairs - length front) D W
  line_given_up D W stays short given = none (λ h qs. IsGivenUp h (question_of max) s (after p) (most_pairs - length qs) D W) given
  line_given_up D W (goes_on {ps = ps} {t = t} {u = u} {q = q} {r = r} line fits alone modifier plain applied) short given =
      let less = shorter ps (t.vertex, r) short in
      let later = split (λ h qs. IsGivenUp h (question_of max) u (after r) (most_pairs - length qs) D W) ps (t.vertex, r) given in
      let turn = one_turn (Some q) (front ++ ps) had lawful (come (length ps) t u q r fits (starts line) alone modifier applied) few plain in
      line_given_up D W line less
      (turn_given_up turn D W less
      (after_one (λ then. IsGivenUp (further (further old (length ps)) 1) (question_of max) then (after r) (most_pairs - length ((front ++ ps) ++ (t.vertex, r) ∷ [])) D W) t u r applied later))

position_of : (game : AbstractGame) (s : AbstractState) (p : ℕ) → IsPlaceOf game (place_beyond s p) → IsPositionOf game.rules p
position_of game s p place = record { from_one = place.last.0; there = place.last.1 }

short_line : (front front' pairs : List (ℕ × ℕ)) → front' ≡ front ++ pairs → length front' < most_pairs → length (front ++ pairs) < most_pairs
short_line front front' pairs is short = subst (λ (qs : List (ℕ × ℕ)). length qs < most_pairs) is short

-- A search followed the line.
module _ {old now : Searching} {s t : AbstractState} {p q : ℕ} {front front' : List (ℕ × ℕ)} (place : IsPlaceOf old.game (place_beyond s p)) (short : length front' < most_pairs) where
  -- It ended with no switch, and the walk went on after it.
  module _ (follows : FollowsLine old now s t front front' p q None) where
    at_line : (P : Searching → List (ℕ × ℕ) → Type 0) → P now front' → P (further old (length follows.pairs)) (front ++ follows.pairs)
    at_line P holds =
        let more : now ≡ further old (length follows.pairs + 0) = follows.search in
        let none : length follows.pairs + 0 ≡ length follows.pairs = omega arith in
        subst (λ (n : ℕ). P (further old n) (front ++ follows.pairs)) none
        (subst (λ (qs : List (ℕ × ℕ)). P (further old (length follows.pairs + 0)) qs) follows.front_is (subst (λ (h : Searching). P h front') more holds))

    pub followed_walked : {new : Searching} {max : ℕ} {had has : List (List (ℕ × ℕ))} {first : List (ℕ × ℕ)} {ended : Bool} → length had ≤ max → IsWalked now new (place_beyond t q) front' max had has first ended → IsWalked old new (place_beyond s p) front max had has first ended
    followed_walked {new} {max} {had} {has} {first} {ended} few walked =
        line_walked old new s p max front had has first ended follows.lawful (position_of old.game s p place) follows.some (record { few = follows.few }) few follows.line (short_line front front' follows.pairs follows.front_is short)
        (at_line (λ h qs. IsWalked h new (place_beyond t q) qs max had has first ended) walked)

    pub followed_given_up : {D W : Type 0} (max : ℕ) → IsGivenUp now (question_of max) t (after q) (most_pairs - length front') D W → IsGivenUp old (question_of max) s (after p) (most_pairs - length front) D W
    followed_given_up {D} {W} max given =
        line_given_up old old s p max front [] [] [] false follows.lawful (position_of old.game s p place) follows.some (record { few = follows.few }) (omega arith) D W follows.line (short_line front front' follows.pairs follows.front_is short)
        (at_line (λ h qs. IsGivenUp h (question_of max) t (after q) (most_pairs - length qs) D W) given)

  -- It ended with a switch, whose move was added, or there was no room for it.
  pub followed_switch : {max r : ℕ} {had has : List (List (ℕ × ℕ))} {first : List (ℕ × ℕ)} → FollowsLine old now s t front front' p q (Some r) → IsStateOf old.game t → length had ≤ max → (cut : Bool) → AddsMove max had has front' first (t.vertex, r) cut → IsWalked old now (place_beyond s p) front max had has first cut
  followed_switch {max} {r} {had} {has} {first} follows fits few cut adds =
      let pairs = follows.pairs in
      let spent : IsSpent old.game old.opened old.taken = record { few = follows.few } in
      let start = starts old now s p max front had has first cut follows.lawful (position_of old.game s p place) follows.some spent few follows.line in
      let come = switched old now s p max front had has first cut follows.lawful (position_of old.game s p place) follows.some spent few (length pairs) t q r fits start follows.ends.0 follows.ends.1 in
      let same : now ≡ further (further old (length pairs)) 1 = follows.search ∙ further_one old (length pairs) in
      let walked : IsWalked (further old (length pairs)) (further (further old (length pairs)) 1) (place_beyond t q) front' max had has first cut = walk_switch (Some q) follows.lawful.numbered come short few follows.ends.1 cut adds in
      line_walked old now s p max front had has first cut follows.lawful (position_of old.game s p place) follows.some spent few follows.line (short_line front front' pairs follows.front_is short)
      (subst (λ (h : Searching). IsWalked (further old (length pairs)) h (place_beyond t q) (front ++ pairs) max had has first cut) (sym same)
      (subst (λ (qs : List (ℕ × ℕ)). IsWalked (further old (length pairs)) (further (further old (length pairs)) 1) (place_beyond t q) qs max had has first cut) follows.front_is walked))

  -- The same, as it is told where a walk goes on or ends.
  pub walked_on : {new : Searching} {stop : Option ℕ} {max : ℕ} {had has : List (List (ℕ × ℕ))} {first : List (ℕ × ℕ)} {ended : Bool} → FollowsLine old now s t front front' p q stop → stop ≡ None → length had ≤ max → (is : Bool) → ended ≡ is → IsWalked now new (place_beyond t q) front' max had has first ended → IsWalked old new (place_beyond s p) front max had has first is
  walked_on {new} {max = max} {had} {has} {first} follows none few is same walked =
      followed_walked (subst (FollowsLine old now s t front front' p q) none follows) few (subst (IsWalked now new (place_beyond t q) front' max had has first) same walked)

  pub given_up_on : {stop : Option ℕ} {D W : Type 0} (max : ℕ) → FollowsLine old now s t front front' p q stop → stop ≡ None → IsGivenUp now (question_of max) t (after q) (most_pairs - length front') D W → IsGivenUp old (question_of max) s (after p) (most_pairs - length front) D W
  given_up_on max follows none given = followed_given_up (subst (FollowsLine old now s t front front' p q) none follows) max given

  pub switch_added : {stop : Option ℕ} {max v r : ℕ} {had has : List (List (ℕ × ℕ))} {first : List (ℕ × ℕ)} {added : Bool} → FollowsLine old now s t front front' p q stop → stop ≡ Some r → v ≡ t.vertex → IsStateOf old.game t → length had ≤ max → (cut : Bool) → added ≡ cut → AddsMove max had has front' first (v, r) added → IsWalked old now (place_beyond s p) front max had has first cut
  switch_added {max = max} {r = r} {had} {has} {first} {added} follows ends here fits few cut same adds =
      followed_switch (subst (FollowsLine old now s t front front' p q) ends follows) fits few cut
      (subst (AddsMove max had has front' first (t.vertex, r)) same (subst (λ (w : ℕ). AddsMove max had has front' first (w, r) added) here adds))
