-- What a session answers.
use Rattle.std.proofs.Common.{◌≡◌, ℕ, ◌-◌, ◌<◌, ◌≤◌, List, [], ◌∷◌, ◌++◌, length, slice_get, Bool, true, false, Option, Some, None, Result, Ok, Err, refl, sym, ap, ◌∙◌, subst, append-nil, arith, ◌^◌, OnOk, IfErr, IfSome, IfNone}
use Rattle.std.specs.Borrow.{Bor}
use Rattle.rbg_rules.specs.Meaning.{AbstractGame, AbstractPlace, IsPlaceOf, Legal}
use Rattle.rbg_moves.specs.Listing.{IsListed}
use Rattle.rbg_questions.specs.declared.question.Question.{Question}
use Rattle.rbg_questions.specs.declared.question.Question.TheVariants.{Moves, Make, Back, Heard, Place, State, Key, Values, Board, Names, Shape, Random, Pack, Unpack, Quit}
use Rattle.rbg_questions.specs.declared.question_error.QuestionError.{QuestionError}
use Rattle.rbg_questions.specs.Questions.{SpellsQuestion}
use Rattle.rbg_questions.specs.Answers.{Answer, moves, to_move, state, key, values, board, names, shape, by_chance, packed, farewell, answer_text, refusal_text}
use Rattle.rbg_questions.specs.Chance.{AreTallied, Counted}
use Rattle.rbg_questions.specs.Keys.{key_of}
use Rattle.rbg_questions.specs.Packing.{packed_of, packed_text}
use Rattle.rbg_questions.specs.Sessions.{AbstractSession, Leads}
use Rattle.rbg_questions.specs.Answering.{AnswersIn, GoesBack, HasMoves, StandsAt, goes_on, lists, lists_all, makes, undoes, hears, heard_to, tells, tells_state, tells_key, tells_values, tells_board, tells_names, tells_shape, plays, packs, unpacks, placed_at, ends, moved_to, undone, Hears, answered, refused_line, IsLineRefused, refused, IsRefused}
use Rattle.rbg_questions.specs.Places.{AreReached}
use Rattle.rbg_questions.specs.internal.Shaping.{WritesShape}
use Rattle.rbg_questions.proofs.Places.{led_before, not_finished, place_at}

-- legal moves
pub lists_legal : (session : AbstractSession) (max : Option ℕ) (limit : ℕ) (all : List (List (ℕ × ℕ))) (cut : Bool) (before after : List ℕ) → IfSome max (λ most. limit ≡ most) → IfNone max (2 ^ 63 ≤ limit) → length all < 2 ^ 63 → IsListed session.game session.place limit all cut → after ≡ before ++ answer_text (moves all cut) → AnswersIn session (Moves max) session before after
lists_legal session (Some max) limit all cut before after asked most small listed told = record {
  answer = moves all cut;
  answers = lists (subst (λ n. IsListed session.game session.place n all cut) asked listed);
  told = told;
}
lists_legal session None limit all true before after asked most small listed told = absurd (omega (arith, small, most, listed.full refl))
lists_legal session None limit all false before after asked most small listed told = record { answer = moves all false; answers = lists_all listed; told = told }

-- a move that is made, and moves that are undone
pub makes_move : (session : AbstractSession) (pairs : List (ℕ × ℕ)) (to : AbstractPlace) (answer : Answer) (before after : List ℕ) → Leads session.game session.place pairs to → StandsAt session.game to answer → after ≡ before ++ answer_text answer → AnswersIn session (Make pairs) (moved_to session to) before after
makes_move session pairs to answer before after leads is told = record { answer = answer; answers = makes leads is; told = told }

pub undoes_moves : (old new : AbstractSession) (many : Option ℕ) (answer : Answer) (before after : List ℕ) → GoesBack old (undone many) new → StandsAt new.game new.place answer → after ≡ before ++ answer_text answer → AnswersIn old (Back many) new before after
undoes_moves old new many answer before after back is told = record { answer = answer; answers = undoes back is; told = told }

-- a move that is heard
pub hears_move : (session new : AbstractSession) (pairs : List (ℕ × ℕ)) (to : AbstractPlace) (answer : Answer) (before after : List ℕ) → new ≡ heard_to session to → Legal session.game session.heard pairs to → StandsAt session.game to answer → after ≡ before ++ answer_text answer → AnswersIn session (Heard pairs) new before after
hears_move session new pairs to answer before after same legal is told =
    subst (λ (s : AbstractSession). AnswersIn session (Heard pairs) s before after) (sym same) (record { answer = answer; answers = hears legal is; told = told })

-- where the places were changed one by one
pub heard_move : (session : AbstractSession) (pairs : List (ℕ × ℕ)) (to : AbstractPlace) (answer : Answer) (before after : List ℕ) (items : List AbstractPlace) (kept place now : AbstractPlace) → Legal session.game session.heard pairs to → StandsAt session.game to answer → after ≡ before ++ answer_text answer → items ≡ [] → kept ≡ to → place ≡ to → now ≡ place → AnswersIn session (Heard pairs) (record { game = session.game; origin = session.origin; heard = kept; before = items; place = now }) before after
heard_move session pairs to answer before after items kept place now legal is told none same_kept same_place same_now =
    let new : AbstractSession = record { game = session.game; origin = session.origin; heard = kept; before = items; place = now } in
    let same : new ≡ heard_to session to = λ i. record { game = session.game; origin = session.origin; heard = same_kept i; before = none i; place = (same_now ∙ same_place) i } in
    hears_move session new pairs to answer before after same legal is told

-- how play stands where moves are undone: a move was made there
pub stands_before : (session : AbstractSession) (index : ℕ) (found : AbstractPlace) → AreReached session.game session.origin session.before session.place → index < length session.before → slice_get session.before index ≡ Some found → (new : AbstractSession) → GoesBack session (length session.before - index) new → StandsAt new.game new.place (to_move found.state.player)
stands_before session index found reached within there new back =
    let same = place_at session.before index found new.before new.place back.later within there back.places back.all in
    let led = led_before session.game session.origin session.before session.place reached.led new.before new.place back.later back.places in
    subst (λ (p : AbstractPlace). StandsAt new.game new.place (to_move p.state.player)) (sym same)
    (goes_on (not_finished new.game new.place (rw back.game led.1)))

-- what is told of a place and of the game
pub tells_place : (session : AbstractSession) (answer : Answer) (before after : List ℕ) → StandsAt session.game session.place answer → after ≡ before ++ answer_text answer → AnswersIn session Place session before after
tells_place session answer before after is told = record { answer = answer; answers = tells is; told = told }

pub tells_all : (session : AbstractSession) (count number : ℕ) (standing : Answer) (pieces shown : List ℕ) (before after : List ℕ) → HasMoves session.game session.place count → StandsAt session.game session.place standing → number ≡ key_of session.place → pieces ≡ session.place.state.pieces → shown ≡ session.place.state.values → after ≡ before ++ answer_text (state count number standing pieces shown) → AnswersIn session State session before after
tells_all session count number standing pieces shown before after has stands same_key same_pieces same_values told = record {
  answer = state count (key_of session.place) standing session.place.state.pieces session.place.state.values;
  answers = tells_state has stands;
  told = told ∙ (λ i. before ++ answer_text (state count (same_key i) standing (same_pieces i) (same_values i)));
}

pub tells_the_key : (session : AbstractSession) (number : ℕ) (before after : List ℕ) → number ≡ key_of session.place → after ≡ before ++ answer_text (key number) → AnswersIn session Key session before after
tells_the_key session number before after same told =
    record { answer = key (key_of session.place); answers = tells_key; told = told ∙ ap (λ n. before ++ answer_text (key n)) same }

pub packs_the_place : (session : AbstractSession) (bytes before after : List ℕ) → bytes ≡ packed_of session.place → after ≡ before ++ answer_text (packed bytes) → AnswersIn session Pack session before after
packs_the_place session bytes before after same told =
    record { answer = packed (packed_of session.place); answers = packs; told = told ∙ ap (λ (bs : List ℕ). before ++ answer_text (packed bs)) same }

pub tells_what_variables_hold : (session : AbstractSession) (before after shown : List ℕ) → shown ≡ session.place.state.values → after ≡ before ++ answer_text (values shown) → AnswersIn session Values session before after
tells_what_variables_hold session before after shown same told =
    record { answer = values session.place.state.values; answers = tells_values; told = rw same at told }

pub tells_pieces : (session : AbstractSession) (before after shown : List ℕ) → shown ≡ session.place.state.pieces → after ≡ before ++ answer_text (board shown) → AnswersIn session Board session before after
tells_pieces session before after shown same told =
    record { answer = board session.place.state.pieces; answers = tells_board; told = rw same at told }

pub tells_the_names : (session : AbstractSession) (before after : List ℕ) (game : AbstractGame) → game ≡ session.game → after ≡ before ++ answer_text (names game.players game.pieces game.variables) → AnswersIn session Names session before after
tells_the_names session before after game same told =
    record { answer = names session.game.players session.game.pieces session.game.variables; answers = tells_names; told = subst (λ (g : AbstractGame). after ≡ before ++ answer_text (names g.players g.pieces g.variables)) same told }

pub tells_the_shape : (session : AbstractSession) (before after : List ℕ) (game : AbstractGame) → game ≡ session.game → WritesShape game before after → AnswersIn session Shape session before after
tells_the_shape session before after game same written =
    let is : WritesShape session.game before after = subst (λ (g : AbstractGame). WritesShape g before after) same written in
    record { answer = shape session.game is.actions; answers = tells_shape is.are; told = is.told }

pub ends_quietly : (session : AbstractSession) (bytes : List ℕ) → answer_text farewell ≡ [] → AnswersIn session Quit session bytes bytes
ends_quietly session bytes none = record { answer = farewell; answers = ends; told = sym (ap (λ t. bytes ++ t) none ∙ append-nil bytes) }

pub no_farewell : answer_text farewell ≡ []
unfolding answer_text
no_farewell = refl

-- a line that is answered, and one that is refused
pub hears_question : (result : Result (Unit {0}) QuestionError) (old new : AbstractSession) (line : List ℕ) (question : Question) (before after : List ℕ) → SpellsQuestion line question → OnOk result (AnswersIn old question new before after) → OnOk result (Hears old line new before after)
hears_question (Ok x) old new line question before after spelled is = answered spelled is
hears_question (Err e) old new line question before after spelled is = tt

pub refuses_question : (result : Result (Unit {0}) QuestionError) (old : AbstractSession) (line : List ℕ) (question : Question) → SpellsQuestion line question → IfErr result (IsRefused old question) → IfErr result (IsLineRefused old line)
refuses_question (Ok x) old line question spelled is = tt
refuses_question (Err e) old line question spelled is = refused spelled is

pub hears_refusal : {E : Type 0} (result : Result (Unit {0}) E) (old new : AbstractSession) (line : List ℕ) (refusal : QuestionError) (before mid after : List ℕ) → new ≡ old → mid ≡ before → IsLineRefused old line refusal → OnOk result (after ≡ mid ++ refusal_text refusal) → OnOk result (Hears old line new before after)
hears_refusal (Ok x) old new line refusal before mid after same kept why told =
    let whole : after ≡ before ++ refusal_text refusal = told ∙ ap (λ m. m ++ refusal_text refusal) kept in
    subst (λ (s : AbstractSession). Hears old line s before after) (sym same)
    (subst (λ bytes. Hears old line old before bytes) (sym whole) (refused_line why))
hears_refusal (Err e) old new line refusal before mid after same kept why told = tt

-- a move that is made, where the places were changed one by one
pub made_move : (session : AbstractSession) (pairs : List (ℕ × ℕ)) (to : AbstractPlace) (answer : Answer) (before after : List ℕ) (items kept : List AbstractPlace) (value now : AbstractPlace) → Leads session.game session.place pairs to → StandsAt session.game to answer → after ≡ before ++ answer_text answer → kept ≡ session.before → value ≡ session.place → now ≡ to → items ≡ kept ++ value ∷ [] → AnswersIn session (Make pairs) (record { game = session.game; origin = session.origin; heard = session.heard; before = items; place = now }) before after
made_move session pairs to answer before after items kept value now leads is told same_before same_place same_to all =
    let whole : items ≡ session.before ++ session.place ∷ [] = all ∙ (λ i. same_before i ++ same_place i ∷ []) in
    let new : AbstractSession = record { game = session.game; origin = session.origin; heard = session.heard; before = items; place = now } in
    let same : new ≡ moved_to session to = λ i. record { game = session.game; origin = session.origin; heard = session.heard; before = whole i; place = same_to i } in
    subst (λ (s : AbstractSession). AnswersIn session (Make pairs) s before after) (sym same) (makes_move session pairs to answer before after leads is told)

-- matches that were played by chance
pub plays_matches : (session : AbstractSession) (seed count : ℕ) (counted : List Counted) (before after : List ℕ) → AreTallied session.game session.place count counted → after ≡ before ++ answer_text (by_chance count counted) → AnswersIn session (Random seed count) session before after
plays_matches session seed count counted before after tallied told = record { answer = by_chance count counted; answers = plays tallied; told = told }

-- a place that is unpacked, where the places were changed one by one
pub unpacks_place : (session : AbstractSession) (text : Bor (List ℕ)) (place : AbstractPlace) (answer : Answer) (before after : List ℕ) (items : List AbstractPlace) (first from origin heard now : AbstractPlace) → IsPlaceOf session.game place → text.now ≡ packed_text place → StandsAt session.game place answer → after ≡ before ++ answer_text answer → items ≡ [] → first ≡ place → from ≡ place → origin ≡ first → heard ≡ from → now ≡ place → AnswersIn session (Unpack text) (record { game = session.game; origin = origin; heard = heard; before = items; place = now }) before after
unpacks_place session text place answer before after items first from origin heard now fits is stands told none same_first same_from is_origin is_heard is_now =
    let new : AbstractSession = record { game = session.game; origin = origin; heard = heard; before = items; place = now } in
    let same : new ≡ placed_at session place = λ i. record { game = session.game; origin = (is_origin ∙ same_first) i; heard = (is_heard ∙ same_from) i; before = none i; place = is_now i } in
    subst (λ (s : AbstractSession). AnswersIn session (Unpack text) s before after) (sym same) (record { answer = answer; answers = unpacks fits is stands; told = told })
