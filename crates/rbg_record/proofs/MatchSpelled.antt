-- The record of a match has a spelling.
use Rattle.rbg_base.proofs.Common.{◌≡◌, ℕ, ◌<◌, ◌≤◌, ◌^◌, List, [], ◌∷◌, length, take, map, All, Option, Some, None, Ok, sym, ap, subst, arith, IsTrue, All-nil, All-cons, All-push, All-append, All-take, All-map, All-head, All-tail, All-get_or, All-weaker, All-from_get_or}
use Rattle.std.proofs.lemmas.List.{length-take, length-take-le}
use Rattle.rbg_base.specs.Names.{is_name}
use Rattle.rbg_wire.specs.declared.outcome.Outcome.{Outcome}
use Rattle.rbg_wire.specs.declared.outcome.Outcome.TheVariants.{Finished, Time, Refusals, Gone, Heavy}
use Rattle.rbg_wire.specs.Messages.{ArePairs, OutcomeHasSpelling}
use Rattle.rbg_rules.specs.Meaning.{AbstractGame, AbstractState, IsStateOf, IsGame, AbstractPlace, RunPairs, stay, modify, pass, Legal, IsLastOf, IsPlaceOf}
use Rattle.rbg_rules.proofs.StateLemmas.{state_law}
use Rattle.rbg_moves.proofs.Steps.{legal_some, switch_modifies, modifier_position}
use Rattle.rbg_match.specs.declared.config.Config.{Config}
use Rattle.rbg_match.specs.declared.made.Made.{Made}
use Rattle.rbg_match.specs.History as history
use Rattle.rbg_match.proofs.Common.{LeadsTo, MadeInTurn, FitsOutcome, MatchState, HasHistory, AbstractPlay}
use Rattle.rbg_match.proofs.LegalPairs.{found_are_pairs}
use Rattle.rbg_record.specs.declared.entry.Entry.TheVariants.{Move, End}
use Rattle.rbg_record.proofs.LineCommon.{EntryHasSpelling, TimedHasSpelling, HaveNames}
use Rattle.rbg_record.proofs.Common.{plain, timed, made_entry, plain_entry, HasSpelling, record_of, plain_record_of, plain_move}
use Rattle.rbg_record.proofs.Fitting.{fits_later}

-- A run leads from a semi-state of the game to one of the game, and so does a legal move.
run_fits : (game : AbstractGame) → IsGame game → {w : List ℕ} {s t : AbstractState} {ps : List (ℕ × ℕ)} → RunPairs game w s t ps → IsStateOf game s → IsStateOf game t
run_fits game lawful stay fits = fits
run_fits game lawful (modify {p = p} {s = s} {middle = middle} applied is rest) fits = run_fits game lawful rest ((state_law game lawful).1 p s middle fits applied)
run_fits game lawful (pass {p = p} {s = s} {middle = middle} applied is rest) fits = run_fits game lawful rest ((state_law game lawful).1 p s middle fits applied)

legal_place : (game : AbstractGame) → IsGame game → {from to : AbstractPlace} {pairs : List (ℕ × ℕ)} → Legal game from pairs to → IsPlaceOf game from → IsPlaceOf game to
legal_place game lawful legal fits =
    let position = modifier_position game lawful.numbered legal.last (switch_modifies game legal.last legal.switches) in
    record {
      state = run_fits game lawful legal.runs fits.state;
      last = subst (IsLastOf game.rules) (sym legal.stands) (position.from_one, position.there);
    }

some_pairs : (game : AbstractGame) → IsGame game → (from to : AbstractPlace) (pairs : List (ℕ × ℕ)) → Legal game from pairs to → 0 < length pairs
some_pairs game lawful from to [] legal = absurd (legal_some game lawful.numbered from to legal)
some_pairs game lawful from to (pair ∷ pairs) legal = omega arith

legal_pairs : (game : AbstractGame) → IsGame game → (from to : AbstractPlace) (pairs : List (ℕ × ℕ)) → IsPlaceOf game from → Legal game from pairs to → length pairs ≤ 200 → ArePairs pairs
legal_pairs game lawful from to pairs fits legal few =
    found_are_pairs {E = ℕ} {T = List (ℕ × ℕ)} (λ xs. xs) game lawful from fits (Ok (Some pairs)) (to, legal) (some_pairs game lawful from to pairs legal, few)

-- a move that was made has a spelling
pub IsSpelledMove : Made → Type 0
IsSpelledMove made = EntryHasSpelling (Move made.player made.pairs)

pub record LeadsSpelled (game : AbstractGame) (moves : List Made) (place : AbstractPlace) : Type 0 where
  pub fits : IsPlaceOf game place
  pub spelled : All IsSpelledMove moves

few_players : (game : AbstractGame) → IsGame game → (n : ℕ) → n ≤ length game.players → n < 2 ^ 64
few_players game lawful n there = omega (arith, there, lawful.limits.players)

pub leads_spelled : (game : AbstractGame) → IsGame game → {moves : List Made} {place : AbstractPlace} → LeadsTo game moves place → LeadsSpelled game moves place
unfolding IsSpelledMove
leads_spelled game lawful history.none = record { fits = record { state = (state_law game lawful).0; last = tt }; spelled = All-nil IsSpelledMove }
leads_spelled game lawful (history.more {moves = moves} {place = place} {to = to} leads made is legal few) =
    let before = leads_spelled game lawful leads in
    record {
      fits = legal_place game lawful legal before.fits;
      spelled = All-push IsSpelledMove moves made before.spelled (
        few_players game lawful made.player (omega (arith, is, before.fits.state.player)),
        legal_pairs game lawful place to made.pairs before.fits legal few,
        few,
      );
    }

-- No move is later than the last one, and that is no later than the moment of the match.
pub record InOrder (began last : ℕ) (moves : List Made) : Type 0 where
  pub begins : began ≤ last
  pub moments : All (λ made. made.at ≤ last) moves

pub in_order : {config : Config} {began last : ℕ} {moves : List Made} → MadeInTurn config began moves last → InOrder began last moves
in_order history.nothing = record { begins = omega arith; moments = All-nil (λ made. made.at ≤ _) }
in_order (history.by_keeper {moves = moves} {last = last} turns made keeper same) =
    let before = in_order turns in
    let onward : last ≤ made.at = omega (arith, same) in
    record {
      begins = omega (arith, before.begins, onward);
      moments = All-push (λ one. one.at ≤ made.at) moves made (All-weaker (λ one. one.at ≤ last) (λ one. one.at ≤ made.at) (λ one h. omega (arith, h, onward)) moves before.moments) (omega arith);
    }
in_order (history.by_player {moves = moves} {last = last} turns made player turn) =
    let before = in_order turns in
    let onward : last ≤ made.at = turn.0 in
    record {
      begins = omega (arith, before.begins, onward);
      moments = All-push (λ one. one.at ≤ made.at) moves made (All-weaker (λ one. one.at ≤ last) (λ one. one.at ≤ made.at) (λ one h. omega (arith, h, onward)) moves before.moments) (omega arith);
    }

-- Each value of a semi-state is a number of 64 bits, and there are as many as players or more.
small_values : (game : AbstractGame) → IsGame game → (s : AbstractState) → IsStateOf game s → All (λ value. value < 2 ^ 64) s.values
small_values game lawful s fits =
    All-from_get_or (λ value. value < 2 ^ 64) s.values 0 (λ v there.
    omega (arith, fits.bounds v there, All-get_or (λ bound. bound ≤ 1000000000) game.bounds v 0 (omega (arith, there, fits.variables)) lawful.limits.bounds))

scores_spelled : (game : AbstractGame) → IsGame game → (s : AbstractState) → IsStateOf game s → OutcomeHasSpelling (Finished (take (length game.players) s.values))
scores_spelled game lawful s fits =
    let players = length game.players in
    let enough : players ≤ length s.values = omega (arith, ap length lawful.scores, length-take players game.variables, lawful.bounds, fits.variables) in
    let count : length (take players s.values) ≡ players = length-take-le players s.values enough in
    (omega (arith, count, lawful.limits.some_player), omega (arith, count, lawful.limits.players), All-take (λ value. value < 2 ^ 64) players s.values (small_values game lawful s fits))

pub outcome_spelled : (game : AbstractGame) (config : Config) (play : AbstractPlay) (last moment : ℕ) (outcome : Option Outcome) → IsGame game → IsPlaceOf game play.place → FitsOutcome game config play last moment outcome → EntryHasSpelling (End outcome)
outcome_spelled game config play last moment None lawful fits has = tt
outcome_spelled game config play last moment (Some (Finished scores)) lawful fits has = subst (λ (list : List ℕ). OutcomeHasSpelling (Finished list)) (sym has.1) (scores_spelled game lawful play.place.state fits.state)
outcome_spelled game config play last moment (Some (Time player)) lawful fits has = few_players game lawful player (omega (arith, has.1, fits.state.player))
outcome_spelled game config play last moment (Some (Refusals seat)) lawful fits has = few_players game lawful seat has.3
outcome_spelled game config play last moment (Some (Gone seat)) lawful fits has = few_players game lawful seat has.3
outcome_spelled game config play last moment (Some Heavy) lawful fits has = tt

both : {X : Type 0} (P Q : X → Type 0) (xs : List X) → All P xs → All Q xs → All (λ x. P x × Q x) xs
both P Q [] h k = All-nil (λ x. P x × Q x)
both P Q (x ∷ xs) h k = All-cons (λ x. P x × Q x) x xs (All-head P x xs h, All-head Q x xs k) (both P Q xs (All-tail P x xs h) (All-tail Q x xs k))

pub players_named : (game : AbstractGame) → IsGame game → HaveNames game.players
players_named game lawful =
    let first = All-take (λ name. IsTrue (is_name name)) (length game.players) game.variables lawful.variable_names.names in
    record { some = lawful.limits.some_player; named = subst (All (λ name. IsTrue (is_name name))) lawful.scores first }

-- The records of a match have a spelling, in both versions.
module _ (state : MatchState) (lawful : IsGame state.game) (has : HasHistory state) where
  leads : LeadsSpelled state.game state.play.made state.play.place
  leads = leads_spelled state.game lawful has.leads

  order : InOrder state.began has.last state.play.made
  order = in_order has.in_turn

  before : has.last ≤ state.streams.moment
  before = fits_later state.game state.config state.play has.last state.streams.moment state.play.outcome has.fits

  end : EntryHasSpelling (End state.play.outcome)
  end = outcome_spelled state.game state.config state.play has.last state.streams.moment state.play.outcome lawful leads.fits has.fits

  pub two_spelled : HasSpelling (timed (record_of state))
  unfolding IsSpelledMove
  two_spelled = (
    players_named state.game lawful,
    (omega (arith, has.lawful.turn_most), omega (arith, order.begins, before, has.counted)),
    All-append TimedHasSpelling (map made_entry state.play.made) (record { at = state.streams.moment; entry = End state.play.outcome } ∷ [])
        (All-map TimedHasSpelling made_entry state.play.made
        (All-weaker (λ made. (made.at ≤ has.last) × IsSpelledMove made) (λ made. TimedHasSpelling (made_entry made))
        (λ made h. (omega (arith, h.0, before, has.counted), h.1)) state.play.made
        (both (λ made. made.at ≤ has.last) IsSpelledMove state.play.made order.moments leads.spelled)))
        (All-cons TimedHasSpelling (record { at = state.streams.moment; entry = End state.play.outcome }) [] (omega (arith, has.counted), end) (All-nil TimedHasSpelling)),
  )

  pub one_spelled : HasSpelling (plain (plain_record_of state))
  unfolding IsSpelledMove
  one_spelled =
      All-append EntryHasSpelling (map plain_entry (map plain_move state.play.made)) (End state.play.outcome ∷ [])
      (All-map EntryHasSpelling plain_entry (map plain_move state.play.made) (All-map (λ move. EntryHasSpelling (plain_entry move)) plain_move state.play.made leads.spelled))
      (All-cons EntryHasSpelling (End state.play.outcome) [] end (All-nil EntryHasSpelling))
