-- The places of states.
use Rattle.rbg_base.proofs.Common.{◌≡◌, ℕ, List, [], ◌∷◌, ◌++◌, All, sym, ◌∙◌, refl, subst, All-head, All-tail, All-nil, All-cons, All-append}
use Rattle.std.specs.Prelude.{None}
use Rattle.rbg_rules.specs.Meaning.{AbstractGame, AbstractPlace, Legal, IsPlaceOf}
use Rattle.rbg_moves.specs.Settling.{KeeperMoves, none, more, Settles}
use Rattle.rbg_questions.specs.Sessions.{AreHeard, no_move, one_more, HasLedTo, at_start, at_heard, by_move, Leads}
use Rattle.rbg_moves.specs.Starting.{start_place}
use Rattle.rbg_questions.specs.Places.{AreReached}
use Rattle.rbg_c.specs.States.{AbstractState, Hears, IsState, beginning_at}

-- moves of the keeper are legal moves
heard_by_keeper : (game : AbstractGame) (origin from to : AbstractPlace) (many : ℕ) → AreHeard game origin from → KeeperMoves game from many to → AreHeard game origin to
heard_by_keeper game origin from _ _ heard none = heard
heard_by_keeper game origin from to _ heard (more {many} {middle} moves player legal fits) = one_more (heard_by_keeper game origin from middle many heard moves) legal

-- legal moves, one after the other, lead to each place to which play has led
led_heard : (game : AbstractGame) (origin : AbstractPlace) (before : List AbstractPlace) (place : AbstractPlace) → HasLedTo game origin before place → AreHeard game origin place
led_heard game origin _ place (at_start settles) = heard_by_keeper game origin origin place settles.many no_move settles.moves
led_heard game origin _ place (at_heard heard) = heard
led_heard game origin _ place (by_move {before} {from} led leads) =
    heard_by_keeper game origin leads.middle place leads.settles.many (one_more (led_heard game origin before from led) leads.legal) leads.settles.moves

-- the state of which nothing but its place is known
lone_at : (game : AbstractGame) (origin place : AbstractPlace) → IsPlaceOf game origin → IsPlaceOf game place → HasLedTo game origin [] place → IsState (record { game = game; origin = origin; before = []; place = place; found = None })
lone_at game origin place origin_fits fits led = record { reached = record { start = origin_fits; earlier = All-nil (IsPlaceOf game); here = fits; led = led }; found = tt }

-- a state with equal parts
alike : (game same : AbstractGame) (origin begin : AbstractPlace) (items others : List AbstractPlace) (place there : AbstractPlace) → same ≡ game → begin ≡ origin → others ≡ items → there ≡ place → IsState (record { game = game; origin = origin; before = items; place = place; found = None }) → IsState (record { game = same; origin = begin; before = others; place = there; found = None })
alike game same origin begin items others place there is_game is_origin is_items is_place state =
    subst (λ (g : AbstractGame). IsState (record { game = g; origin = begin; before = others; place = there; found = None })) (sym is_game)
    (subst (λ (o : AbstractPlace). IsState (record { game = game; origin = o; before = others; place = there; found = None })) (sym is_origin)
    (subst (λ (ps : List AbstractPlace). IsState (record { game = game; origin = origin; before = ps; place = there; found = None })) (sym is_items)
    (subst (λ (p : AbstractPlace). IsState (record { game = game; origin = origin; before = items; place = p; found = None })) (sym is_place) state)))

-- the first state
pub first_state : (game same : AbstractGame) (begin first : AbstractPlace) (items : List AbstractPlace) (place : AbstractPlace) → same ≡ game → begin ≡ first → first ≡ start_place game → IsPlaceOf game first → items ≡ [] → Settles game (start_place game) place → IsPlaceOf game place → IsState (record { game = same; origin = begin; before = items; place = place; found = None })
first_state game same begin first items place is_game is_first start first_fits is_items settles fits =
    alike game same (start_place game) begin [] items place place is_game (is_first ∙ start) is_items refl (lone_at game (start_place game) place (subst (IsPlaceOf game) start first_fits) fits (at_start settles))

pub first_is : (game same : AbstractGame) (begin first : AbstractPlace) (items : List AbstractPlace) (place : AbstractPlace) → same ≡ game → begin ≡ first → first ≡ start_place game → items ≡ [] → record { game = same; origin = begin; before = items; place = place; found = None } ≡ beginning_at game (start_place game) place
first_is game same begin first items place is_game is_first start is_items =
    λ i. record { game = is_game i; origin = (is_first ∙ start) i; before = is_items i; place = place; found = None }

-- a copy
pub copied_state : (state : AbstractState) (same : AbstractGame) (begin : AbstractPlace) (items : List AbstractPlace) (there : AbstractPlace) → IsState state → same ≡ state.game → begin ≡ state.origin → items ≡ [] → there ≡ state.place → IsState (record { game = same; origin = begin; before = items; place = there; found = None })
copied_state state same begin items there is is_game is_origin is_items is_place =
    alike state.game same state.origin begin [] items state.place there is_game is_origin is_items is_place
    (lone_at state.game state.origin state.place is.reached.start is.reached.here (at_heard (led_heard state.game state.origin state.before state.place is.reached.led)))

-- what holds of the places after one more move
reached_next : (game : AbstractGame) (origin : AbstractPlace) (before : List AbstractPlace) (from to : AbstractPlace) (pairs : List (ℕ × ℕ)) → AreReached game origin before from → Leads game from pairs to → IsPlaceOf game to → AreReached game origin (before ++ from ∷ []) to
reached_next game origin before from to pairs reached leads fits = record {
  start = reached.start;
  earlier = All-append (IsPlaceOf game) before (from ∷ []) reached.earlier (All-cons (IsPlaceOf game) from [] reached.here (All-nil (IsPlaceOf game)));
  here = fits;
  led = by_move reached.led leads;
}

longer : (before kept items : List AbstractPlace) (place value : AbstractPlace) → kept ≡ before → value ≡ place → items ≡ kept ++ value ∷ [] → items ≡ before ++ place ∷ []
longer before kept items place value same_before same_place is = is ∙ (λ i. same_before i ++ same_place i ∷ [])

-- the state after a move
pub made_state : (state : AbstractState) (game : AbstractGame) (pairs : List (ℕ × ℕ)) (items kept : List AbstractPlace) (value now to : AbstractPlace) → IsState state → game ≡ state.game → Leads game state.place pairs to → IsPlaceOf game to → kept ≡ state.before → value ≡ state.place → now ≡ to → items ≡ kept ++ value ∷ [] → IsState (record { game = state.game; origin = state.origin; before = items; place = now; found = None })
made_state state game pairs items kept value now to is same_game leads fits same_before same_place same_to so =
    alike state.game state.game state.origin state.origin (state.before ++ state.place ∷ []) items to now refl refl (longer state.before kept items state.place value same_before same_place so) same_to
    (record {
      reached = reached_next state.game state.origin state.before state.place to pairs is.reached
          (subst (λ (g : AbstractGame). Leads g state.place pairs to) same_game leads) (subst (λ (g : AbstractGame). IsPlaceOf g to) same_game fits);
      found = tt;
    })

-- where a list ends
no_end : {X : Type 0} (xs : List X) (x : X) → [] ≡ xs ++ x ∷ [] → ⊥
no_end [] x same = let apart : [] ≡ x ∷ [] = same in cc
no_end (y ∷ xs) x same = let apart : [] ≡ y ∷ (xs ++ x ∷ []) = same in cc

same_end : {X : Type 0} (xs ys : List X) (x y : X) → xs ++ x ∷ [] ≡ ys ++ y ∷ [] → (xs ≡ ys) × (x ≡ y)
same_end [] [] x y same = let parts : x ∷ [] ≡ y ∷ [] = same in (refl, cc)
same_end [] (b ∷ ys) x y same =
    let parts : x ∷ [] ≡ b ∷ (ys ++ y ∷ []) = same in
    absurd (no_end ys y cc)
same_end (f ∷ xs) [] x y same =
    let parts : f ∷ (xs ++ x ∷ []) ≡ y ∷ [] = same in
    let back : [] ≡ xs ++ x ∷ [] = cc in
    absurd (no_end xs x back)
same_end (f ∷ xs) (b ∷ ys) x y same =
    let parts : f ∷ (xs ++ x ∷ []) ≡ b ∷ (ys ++ y ∷ []) = same in
    let first : f ≡ b = cc in
    let others : xs ++ x ∷ [] ≡ ys ++ y ∷ [] = cc in
    let both = same_end xs ys x y others in
    ((λ i. first i ∷ both.0 i), both.1)

led_last : (game : AbstractGame) (origin : AbstractPlace) (all : List AbstractPlace) (to : AbstractPlace) → HasLedTo game origin all to → (front : List AbstractPlace) (place : AbstractPlace) → all ≡ front ++ place ∷ [] → HasLedTo game origin front place
led_last game origin _ to (at_start settles) front place same = absurd (no_end front place same)
led_last game origin _ to (at_heard heard) front place same = absurd (no_end front place same)
led_last game origin _ to (by_move {before} {from} led leads) front place same =
    let both = same_end before front from place same in
    subst (λ (p : AbstractPlace). HasLedTo game origin front p) both.1 (subst (λ (ps : List AbstractPlace). HasLedTo game origin ps from) both.0 led)

all_last : {X : Type 0} (P : X → Type 0) (front : List X) (x : X) → All P (front ++ x ∷ []) → All P front × P x
all_last P [] x h = (All-nil P, All-head P x [] h)
all_last P (f ∷ front) x h =
    let others = all_last P front x (All-tail P f (front ++ x ∷ []) h) in
    (All-cons P f front (All-head P f (front ++ x ∷ []) h) others.0, others.1)

-- the state before the last move
pub undone_state : (state : AbstractState) (front : List AbstractPlace) (place now : AbstractPlace) → IsState state → state.before ≡ front ++ place ∷ [] → now ≡ place → IsState (record { game = state.game; origin = state.origin; before = front; place = now; found = None })
undone_state state front place now is same same_place =
    let places = all_last (IsPlaceOf state.game) front place (subst (All (IsPlaceOf state.game)) same is.reached.earlier) in
    alike state.game state.game state.origin state.origin front front place now refl refl refl same_place
    (record { reached = record { start = is.reached.start; earlier = places.0; here = places.1; led = led_last state.game state.origin state.before state.place is.reached.led front place same }; found = tt })

-- the state where the rules begin
pub begun_state : (game same : AbstractGame) (begin first : AbstractPlace) (items : List AbstractPlace) (place : AbstractPlace) → same ≡ game → begin ≡ first → first ≡ start_place game → items ≡ [] → place ≡ start_place game → IsPlaceOf game place → IsState (record { game = same; origin = begin; before = items; place = place; found = None })
begun_state game same begin first items place is_game is_first first_start is_items start fits =
    alike game same (start_place game) begin [] items place place is_game (is_first ∙ first_start) is_items refl
    (lone_at game (start_place game) place (subst (IsPlaceOf game) start fits) fits (at_heard (subst (λ (p : AbstractPlace). AreHeard game (start_place game) p) (sym start) no_move)))

pub begun_is : (game same : AbstractGame) (begin first : AbstractPlace) (items : List AbstractPlace) (place : AbstractPlace) → same ≡ game → begin ≡ first → first ≡ start_place game → items ≡ [] → place ≡ start_place game → record { game = same; origin = begin; before = items; place = place; found = None } ≡ beginning_at game (start_place game) (start_place game)
begun_is game same begin first items place is_game is_first first_start is_items start =
    λ i. record { game = is_game i; origin = (is_first ∙ first_start) i; before = is_items i; place = start i; found = None }

-- the state at a place that was unpacked
pub unpacked_state : (game same : AbstractGame) (begin first : AbstractPlace) (items : List AbstractPlace) (place : AbstractPlace) → same ≡ game → begin ≡ first → first ≡ place → items ≡ [] → IsPlaceOf game place → IsState (record { game = same; origin = begin; before = items; place = place; found = None })
unpacked_state game same begin first items place is_game is_first first_place is_items fits =
    alike game same place begin [] items place place is_game (is_first ∙ first_place) is_items refl (lone_at game place place fits fits (at_heard no_move))

pub unpacked_is : (game same : AbstractGame) (begin first : AbstractPlace) (items : List AbstractPlace) (place : AbstractPlace) → same ≡ game → begin ≡ first → first ≡ place → items ≡ [] → record { game = same; origin = begin; before = items; place = place; found = None } ≡ beginning_at game place place
unpacked_is game same begin first items place is_game is_first first_place is_items =
    λ i. record { game = is_game i; origin = (is_first ∙ first_place) i; before = is_items i; place = place; found = None }

-- the state after a move that was heard
pub heard_state : (state : AbstractState) (game : AbstractGame) (pairs : List (ℕ × ℕ)) (items : List AbstractPlace) (now to : AbstractPlace) → IsState state → game ≡ state.game → Legal game state.place pairs to → IsPlaceOf game to → items ≡ [] → now ≡ to → IsState (record { game = state.game; origin = state.origin; before = items; place = now; found = None })
heard_state state game pairs items now to is same_game legal fits no_items same_to =
    alike state.game state.game state.origin state.origin [] items to now refl refl no_items same_to
    (lone_at state.game state.origin to is.reached.start (subst (λ (g : AbstractGame). IsPlaceOf g to) same_game fits)
    (at_heard (one_more (led_heard state.game state.origin state.before state.place is.reached.led) (subst (λ (g : AbstractGame). Legal g state.place pairs to) same_game legal))))

pub hears_move : (state : AbstractState) (game : AbstractGame) (pairs : List (ℕ × ℕ)) (items : List AbstractPlace) (now to : AbstractPlace) → IsState state → game ≡ state.game → Legal game state.place pairs to → items ≡ [] → now ≡ to → Hears state pairs (record { game = state.game; origin = state.origin; before = items; place = now; found = None })
hears_move state game pairs items now to state_is same_game legal nothing same_to = record {
  legal = subst (λ (p : AbstractPlace). Legal state.game state.place pairs p) (sym same_to) (subst (λ (g : AbstractGame). Legal g state.place pairs to) same_game legal);
  is = λ i. record { game = state.game; origin = state.origin; before = nothing i; place = now; found = None };
}
