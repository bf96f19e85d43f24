-- Moves by chance.
use Rattle.rbg_base.proofs.Common.{◌≡◌, ◌≢◌, ℕ, ◌+◌, ◌<◌, ◌≤◌, List, [], ◌∷◌, ◌++◌, length, drop, true, false, Some, refl, sym, ap, ◌∙◌, subst, arith, Contains, length-append, append_assoc, append-nil}
use Rattle.std.specs.Prelude.{Option, None, Result, Ok, Err, OnOk, slice_get}
use Rattle.rbg_base.proofs.Common.{slice_get_within}
use Rattle.std.proofs.lemmas.List.Concat.{flat_map-append}
use Rattle.rbg_rules.specs.Meaning.{AbstractGame, AbstractPlace, Finished}
use Rattle.rbg_questions.specs.declared.question_error.QuestionError.{QuestionError}
use Rattle.rbg_questions.specs.declared.question_error.QuestionError.TheVariants.{Memory}
use Rattle.rbg_questions.specs.Chance.{IsUnmoved, Plays, no_move, one_more, IsUnplayed, stopped_at, unlisted}
use Rattle.rbg_questions.specs.Places.{no_memory}
use Rattle.rbg_questions.specs.Sessions.{Leads}
use Rattle.rbg_c.specs.States.{AbstractState, FindsMoves, IsFoundAt, Makes, MakesFound, copy_of}
use Rattle.rbg_c.specs.Stepping.{IsUnmadeAt, not_asked, stopped_there, too_few}
use Rattle.rbg_c.specs.Filling.{Fills, filled, too_small}
use Rattle.rbg_c.specs.Listing.{numbers_of_move, numbers_of_moves}
use Rattle.rbg_c.specs.Opening.{Keeps, kept, lost}
use Rattle.rbg_c.specs.Results.{ok}
use Rattle.rbg_c.specs.Playouts.{HandsOut, handed, unkept, IsNotPlayedOn, stuck, Passes, none_made, one_made, PlaysCopy, PlaysOn, Samples, sampled}
use Rattle.rbg_c.specs.internal.ByChance.{PlaysOne, one_made as made_one, none_left, IsPlayedOn, TellsOn}

-- one move was made, and told
pub played_so : (state : AbstractState) (game : AbstractGame) (pairs : List (ℕ × ℕ)) (items were : List AbstractPlace) (value now to : AbstractPlace) (before after : List ℕ) → game ≡ state.game → Leads game state.place pairs to → were ≡ state.before → value ≡ state.place → now ≡ to → items ≡ were ++ value ∷ [] → after ≡ before ++ numbers_of_move pairs → PlaysOne state true (record { game = state.game; origin = state.origin; before = items; place = now; found = None }) before after
played_so state game pairs items were value now to before after same_game leads same_before same_place same_to so told =
    let longer : items ≡ state.before ++ state.place ∷ [] = so ∙ (ap (λ (ks : List AbstractPlace). ks ++ value ∷ []) same_before ∙ ap (λ (v : AbstractPlace). state.before ++ v ∷ []) same_place) in
    made_one (record {
      leads = subst (λ (p : AbstractPlace). Leads state.game state.place pairs p) (sym same_to) (subst (λ (g : AbstractGame). Leads g state.place pairs to) same_game leads);
      is = λ i. record { game = state.game; origin = state.origin; before = longer i; place = now; found = None };
    }) told

-- These moves were made by chance so far.
pub record Gone (old : AbstractState) (moves : List (List (ℕ × ℕ))) (now : AbstractState) : Type 0 where
  pub game : now.game ≡ old.game
  pub origin : now.origin ≡ old.origin
  pub passed : List AbstractPlace
  pub passes : Passes old.game old.place moves passed now.place
  pub before : now.before ≡ old.before ++ passed

-- So many were, and no moves are found after them.
pub record GoneOn (old : AbstractState) (made : ℕ) (now : AbstractState) : Type 0 where
  pub moves : List (List (ℕ × ℕ))
  pub gone : Gone old moves now
  pub many : length moves ≡ made
  pub found : now.found ≡ None

-- Their numbers are appended.
pub record ToldOn (old : AbstractState) (made : ℕ) (now : AbstractState) (first numbers : List ℕ) : Type 0 where
  pub on : GoneOn old made now
  pub told : numbers ≡ first ++ numbers_of_moves on.moves

pub gone_nowhere : (old : AbstractState) → Gone old [] old
gone_nowhere old = record { game = refl; origin = refl; passed = []; passes = none_made; before = sym (append-nil old.before) }

abbrev pub gone_none : (old : AbstractState) → old.found ≡ None → GoneOn old 0 old
gone_none old none = record { moves = []; gone = gone_nowhere old; many = refl; found = none }

pub told_none : (old : AbstractState) (numbers : List ℕ) → old.found ≡ None → ToldOn old 0 old numbers numbers
told_none old numbers none = record { on = gone_none old none; told = sym (append-nil numbers) }

-- and after one more
pub one_further : (old mid new : AbstractState) (moves : List (List (ℕ × ℕ))) (pairs : List (ℕ × ℕ)) → Gone old moves mid → Makes mid pairs new → Gone old (moves ++ pairs ∷ []) new
one_further old mid new moves pairs gone makes = record {
  game = ap (λ (s : AbstractState). s.game) makes.is ∙ gone.game;
  origin = ap (λ (s : AbstractState). s.origin) makes.is ∙ gone.origin;
  passed = gone.passed ++ mid.place ∷ [];
  passes = one_made gone.passes (subst (λ (g : AbstractGame). Leads g mid.place pairs new.place) gone.game makes.leads);
  before = ap (λ (s : AbstractState). s.before) makes.is ∙ (ap (λ (ps : List AbstractPlace). ps ++ mid.place ∷ []) gone.before ∙ append_assoc old.before gone.passed (mid.place ∷ []));
}

pub one_more_made : (moves : List (List (ℕ × ℕ))) (pairs : List (ℕ × ℕ)) (made : ℕ) → length moves ≡ made → length (moves ++ pairs ∷ []) ≡ made + 1
one_more_made moves pairs made many = length-append moves (pairs ∷ []) ∙ ap (λ n. n + 1) many

abbrev pub gone_one : (old now new : AbstractState) (made : ℕ) (pairs : List (ℕ × ℕ)) → GoneOn old made now → Makes now pairs new → GoneOn old (made + 1) new
gone_one old now new made pairs on makes = record {
  moves = on.moves ++ pairs ∷ [];
  gone = one_further old now new on.moves pairs on.gone makes;
  many = one_more_made on.moves pairs made on.many;
  found = ap (λ (s : AbstractState). s.found) makes.is;
}

-- one more, whichever it is
pub played_one : (old now new : AbstractState) (made : ℕ) (before after : List ℕ) → GoneOn old made now → PlaysOne now true new before after → GoneOn old (made + 1) new
played_one old now new made before after on (made_one {pairs} makes told) = gone_one old now new made pairs on makes

numbers_more : (first mid new : List ℕ) (moves : List (List (ℕ × ℕ))) (pairs : List (ℕ × ℕ)) → mid ≡ first ++ numbers_of_moves moves → new ≡ mid ++ numbers_of_move pairs → new ≡ first ++ numbers_of_moves (moves ++ pairs ∷ [])
numbers_more first mid new moves pairs so_far written =
    let all : numbers_of_moves (moves ++ pairs ∷ []) ≡ numbers_of_moves moves ++ numbers_of_move pairs =
    flat_map-append numbers_of_move moves (pairs ∷ []) ∙ ap (λ t. numbers_of_moves moves ++ t) (append-nil (numbers_of_move pairs)) in
    written ∙ (ap (λ m. m ++ numbers_of_move pairs) so_far ∙ (append_assoc first (numbers_of_moves moves) (numbers_of_move pairs) ∙ ap (λ t. first ++ t) (sym all)))

pub told_one : (old now new : AbstractState) (made : ℕ) (first before after : List ℕ) → ToldOn old made now first before → PlaysOne now true new before after → ToldOn old (made + 1) new first after
told_one old now new made first before after so (made_one {pairs} makes written) = record {
  on = gone_one old now new made pairs so.on makes;
  told = numbers_more first before after so.on.moves pairs so.told written;
}

-- moves that pass places are played
all_played : (game : AbstractGame) (from : AbstractPlace) (moves : List (List (ℕ × ℕ))) (passed : List AbstractPlace) (to : AbstractPlace) → Passes game from moves passed to → Plays game from moves to
all_played game from _ _ _ none_made = no_move
all_played game from _ _ to (one_made {moves} {passed} {middle} passes leads) = one_more (all_played game from moves passed middle passes) leads

as_many : (game : AbstractGame) (from : AbstractPlace) (moves : List (List (ℕ × ℕ))) (passed : List AbstractPlace) (to : AbstractPlace) → Passes game from moves passed to → length passed ≡ length moves
as_many game from _ _ _ none_made = refl
as_many game from _ _ to (one_made {moves} {passed} {middle} {pairs = pairs} passes leads) =
    length-append passed (middle ∷ []) ∙ (ap (λ n. n + 1) (as_many game from moves passed middle passes) ∙ sym (length-append moves (pairs ∷ [])))

plays_so : (old now : AbstractState) (most : ℕ) (moves : List (List (ℕ × ℕ))) → Gone old moves now → length moves ≤ most → (length moves < most → Finished old.game now.place) → now.found ≡ None → PlaysOn old most moves now
plays_so old now most moves gone few whole none = record {
  game = gone.game;
  origin = gone.origin;
  sampled = record { plays = all_played old.game old.place moves gone.passed now.place gone.passes; few = few; whole = whole };
  passed = gone.passed;
  passes = gone.passes;
  before = gone.before;
  made = ap (λ (ps : List AbstractPlace). length ps) gone.before ∙ (length-append old.before gone.passed ∙ ap (λ n. length old.before + n) (as_many old.game old.place moves gone.passed now.place gone.passes));
  none_found = none;
}

-- the moves so far, where there is no other
ends_there : (old now new : AbstractState) (most made : ℕ) (before after : List ℕ) → (on : GoneOn old made now) → PlaysOne now false new before after → made < most → PlaysOn old most on.moves new
ends_there old now _ most made before _ on (none_left over) few =
    plays_so old now most on.moves on.gone (omega (arith, few, on.many)) (λ less. subst (λ (g : AbstractGame). Finished g now.place) on.gone.game over) on.found

pub ends_so : (old now new : AbstractState) (most made : ℕ) (before after : List ℕ) → GoneOn old made now → PlaysOne now false new before after → made < most → IsPlayedOn old most new
ends_so old now new most made before after on none few = record { moves = on.moves; plays = ends_there old now new most made before after on none few }

none_told : (now new : AbstractState) (before after : List ℕ) → PlaysOne now false new before after → after ≡ before
none_told now _ before _ (none_left over) = refl

pub tells_so : (old now new : AbstractState) (most made : ℕ) (first before after : List ℕ) → ToldOn old made now first before → PlaysOne now false new before after → made < most → TellsOn old most new first after
tells_so old now new most made first before after so none few = record { moves = so.on.moves; plays = ends_there old now new most made before after so.on none few; told = none_told now new before after none ∙ so.told }

-- as many moves as were wanted
made_there : (old now : AbstractState) (most made : ℕ) → (on : GoneOn old made now) → made ≡ most → PlaysOn old most on.moves now
made_there old now most made on same = plays_so old now most on.moves on.gone (omega (arith, on.many, same)) (λ less. absurd (omega (arith, on.many, same, less))) on.found

pub all_made : (old now : AbstractState) (most made : ℕ) → GoneOn old made now → made ≡ most → IsPlayedOn old most now
all_made old now most made on same = record { moves = on.moves; plays = made_there old now most made on same }

pub all_told : (old now : AbstractState) (most made : ℕ) (first numbers : List ℕ) → ToldOn old made now first numbers → made ≡ most → TellsOn old most now first numbers
all_told old now most made first numbers so same = record { moves = so.on.moves; plays = made_there old now most made so.on same; told = so.told }

-- no move is made after the moves so far
stuck_so : (old now : AbstractState) (most made : ℕ) (moves : List (List (ℕ × ℕ))) (refusal : QuestionError) → Gone old moves now → length moves ≡ made → made < most → IsUnmoved now.game now.place refusal → IsNotPlayedOn old.game old.place most refusal
stuck_so old now most made moves refusal gone many few unmoved =
    stuck (all_played old.game old.place moves gone.passed now.place gone.passes) (omega (arith, many, few)) (subst (λ (g : AbstractGame). IsUnmoved g now.place refusal) gone.game unmoved)

pub not_on : (old now : AbstractState) (most made : ℕ) (refusal : QuestionError) → GoneOn old made now → made < most → IsUnmoved now.game now.place refusal → IsNotPlayedOn old.game old.place most refusal
not_on old now most made refusal on few unmoved = stuck_so old now most made on.moves refusal on.gone on.many few unmoved

-- there was no memory to tell of matches
pub unplayed_memory : (game : AbstractGame) (from : AbstractPlace) → IsUnplayed game from Memory
unplayed_memory game from = record { moves = []; few = omega arith; to = from; plays = no_move; unmoved = unlisted no_memory }

-- a copy on which no move is made
pub copy_stuck : (state copy : AbstractState) (most : ℕ) (refusal : QuestionError) → copy ≡ copy_of state → IsNotPlayedOn copy.game copy.place most refusal → IsNotPlayedOn state.game state.place most refusal
copy_stuck state copy most refusal is why = subst (λ (s : AbstractState). IsNotPlayedOn s.game s.place most refusal) is why

-- the state that a handle held
pub copies_from : (from : Option AbstractState) (held state : AbstractState) (most : ℕ) (before after : Option AbstractState) (made result : ℕ) → from ≡ Some held → state ≡ held → PlaysCopy (Some state) most before after made result → PlaysCopy from most before after made result
copies_from from held state most before after made result there same plays =
    subst (λ (f : Option AbstractState). PlaysCopy f most before after made result) (ap (λ (s : AbstractState). Some s) same ∙ sym there) plays

-- a state that isn't kept
pub not_kept : (state : AbstractState) (numbers : List ℕ) (before after : Option AbstractState) (old : List ℕ) (needed result : ℕ) → Keeps state before after result → result ≢ ok → HandsOut state numbers before after old old needed result
not_kept state numbers before after old needed result (kept is same) other = absurd (other same)
not_kept state numbers before after old needed result (lost same is) other = unkept same refl is

-- a state that is kept, and numbers for which there is room
pub both_out : (state : AbstractState) (numbers slice : List ℕ) (before after : Option AbstractState) (old new : List ℕ) (needed keeping result : ℕ) → Keeps state before after keeping → keeping ≡ ok → slice ≡ numbers → ¬ (length old < length numbers) → Fills slice old new needed result → HandsOut state numbers before after old new needed result
both_out state numbers slice before after old new needed keeping result (lost same is) done as_numbers room fills = absurd (omega (arith, is, done))
both_out state numbers slice before after old new needed keeping result (kept is same) done as_numbers room (too_small small same_buffer many told) = absurd (room (subst (λ (ns : List ℕ). length old < length ns) as_numbers small))
both_out state numbers slice before after old new needed keeping result (kept is same) done as_numbers room (filled put many told) =
    handed is (subst (λ (ns : List ℕ). new ≡ ns ++ drop (length ns) old) as_numbers put) (subst (λ (ns : List ℕ). needed ≡ length ns) as_numbers many) told

-- the moves on a copy of the state that a handle held are handed out
pub samples_from : (from : Option AbstractState) (held state copy : AbstractState) (most : ℕ) (first numbers : List ℕ) (before after : Option AbstractState) (old new : List ℕ) (needed result : ℕ) → from ≡ Some held → state ≡ held → first ≡ [] → TellsOn (copy_of state) most copy first numbers → HandsOut copy numbers before after old new needed result → Samples from most before after old new needed result
samples_from from held state copy most first numbers before after old new needed result there same none tells out =
    sampled there (subst (λ (s : AbstractState). PlaysOn (copy_of s) most tells.moves copy) same tells.plays)
    (subst (λ (ns : List ℕ). HandsOut copy ns before after old new needed result) (tells.told ∙ ap (λ (ns : List ℕ). ns ++ numbers_of_moves tells.moves) none) out)
