-- Matches after each legal move, move by move.
use Rattle.rbg_base.proofs.Common.{◌≡◌, ℕ, suc, ◌+◌, ◌<◌, ◌≤◌, ◌^◌, List, [], ◌∷◌, ◌++◌, length, take, map, get_or, Bool, true, false, Result, Ok, Err, OnOk, IfErr, codes, decimal, refl, sym, ap, ◌∙◌, subst, arith, append-nil, All, AllPairs, All-nil, All-cons, All-append, All-head, All-tail, false≢true}
use Rattle.std.specs.List.{flat_map}
use Rattle.std.proofs.lemmas.List.{length-map, map-append, take_all}
use Rattle.std.proofs.lemmas.List.Concat.{flat_map-append}
use Rattle.rbg_base.proofs.CallerLemmas.{map-take_more}
use Rattle.rbg_rules.specs.Meaning.{AbstractGame, AbstractPlace, IsLegal}
use Rattle.rbg_moves.specs.Listing.{IsGathered, IsMoveBefore}
use Rattle.rbg_moves.proofs.Outcome.{listed}
use Rattle.rbg_wire.specs.Lines.{line_of}
use Rattle.rbg_questions.specs.declared.question_error.QuestionError.{QuestionError}
use Rattle.rbg_questions.specs.declared.question_error.QuestionError.TheVariants.{Memory}
use Rattle.rbg_questions.specs.declared.question.Question.TheVariants.{Search}
use Rattle.rbg_questions.specs.declared.tally.EndingTally.{EndingTally}
use Rattle.rbg_questions.specs.Answers.{answer_text, searched}
use Rattle.rbg_questions.specs.Answering.{AnswersIn, IsRefused, searches, unsearched}
use Rattle.rbg_questions.specs.Chance.{AreTallied, Counted, counted_by, unlisted}
use Rattle.rbg_questions.specs.Limits.{IsCount}
use Rattle.rbg_questions.specs.Searching.{IsSearched, IsUnsearched, Searched, means_text, searched_line, unmoved}
use Rattle.rbg_questions.specs.Sessions.{AbstractSession, Leads}
use Rattle.rbg_questions.specs.Summary.{finished_in, mean_text, total_of}
use Rattle.rbg_questions.specs.internal.Bounds.{AreFew}
use Rattle.rbg_questions.specs.internal.Ordering.{IsInOrder}
use Rattle.rbg_questions.specs.Places.{AreLegalMoves, IsUnlisted, no_memory}
use Rattle.rbg_questions.specs.internal.Searching.{WritesMoves, WritesOne, WritesSearch}
use Rattle.rbg_questions.proofs.Shaping.{and_then}
use Rattle.rbg_questions.proofs.Tallies.{few_tallied}

-- what was gathered are the legal moves, where no list is as long as the limit
pub gathered_all : (game : AbstractGame) (place : AbstractPlace) (max : ℕ) (all : List (List (ℕ × ℕ))) (cut : Bool) → IsGathered game place max all cut → length all < 2 ^ 63 → 2 ^ 63 ≤ max → AreLegalMoves game place all
gathered_all game place max all true gathered small large = absurd (omega (arith, small, large, gathered.full refl))
gathered_all game place max all false gathered small large = record { legal = gathered.legal; different = gathered.different; whole = gathered.whole refl }

gathered_again : (game : AbstractGame) (place : AbstractPlace) (all : List (List (ℕ × ℕ))) → AreLegalMoves game place all → IsGathered game place (length all) all false
gathered_again game place all are = record {
  legal = are.legal;
  different = are.different;
  few = omega arith;
  whole = λ _. are.whole;
  full = λ e. absurd (false≢true e);
  more = λ e. absurd (false≢true e);
}

-- the same moves in their order
in_order_legal : (game : AbstractGame) (place : AbstractPlace) (moves ordered : List (List (ℕ × ℕ))) → AreLegalMoves game place moves → IsInOrder moves ordered → AreLegalMoves game place ordered
in_order_legal game place moves ordered are is =
    let sorted = listed game place (length moves) moves ordered false (gathered_again game place moves are) is.permutation is.order in
    record { legal = sorted.legal; different = sorted.different; whole = sorted.whole refl }

all_unmap : {X Y : Type 0} (P : Y → Type 0) (f : X → Y) (xs : List X) → All P (map f xs) → All (λ x. P (f x)) xs
all_unmap P f [] h = All-nil (λ x. P (f x))
all_unmap P f (x ∷ xs) h =
    All-cons (λ y. P (f y)) x xs (All-head P (f x) (map f xs) h) (all_unmap P f xs (All-tail P (f x) (map f xs) h))

pub lent_legal : {L : Type 0} (game : AbstractGame) (place : AbstractPlace) (moves : List (List (ℕ × ℕ))) (shown : L → List (ℕ × ℕ)) (lent : List L) → AreLegalMoves game place moves → IsInOrder moves (map shown lent) → All (λ m. IsLegal game place (shown m)) lent
lent_legal game place moves shown lent are is =
    all_unmap (IsLegal game place) shown lent (in_order_legal game place moves (map shown lent) are is).legal

-- the means so far, and the next one
pub means_more : (old mid new : List ℕ) (counted : List Counted) (i : ℕ) → mid ≡ old ++ means_text counted i → new ≡ mid ++ (codes " " ++ mean_text (total_of i counted) (finished_in counted)) → new ≡ old ++ means_text counted (i + 1)
means_more old mid new counted i so_far written =
    let same : suc i ≡ i + 1 = omega arith in
    and_then old (means_text counted i) mid new (codes " " ++ mean_text (total_of i counted) (finished_in counted)) so_far written
    ∙ ap (λ n. old ++ means_text counted n) same

-- so many matches are few
pub few_after : (game : AbstractGame) (from : AbstractPlace) (count : ℕ) (tallies : List EndingTally) → IsCount count → AreTallied game from count (map counted_by tallies) → AreFew tallies
few_after game from count tallies so tallied = record {
  matches = omega (arith, so.1, tallied.sum);
  moves = omega (arith, so.1, few_tallied game from count (map counted_by tallies) tallied);
}

-- the line of a move
pub writes_one : (game same : AbstractGame) (place to : AbstractPlace) (count : ℕ) (pairs : List (ℕ × ℕ)) (tallies : List EndingTally) (old new : List ℕ) → Leads game place pairs to → AreTallied game to count (map counted_by tallies) → same ≡ game → new ≡ old ++ searched_line (length same.players) (record { pairs = pairs; counted = map counted_by tallies }) → WritesOne game place count pairs old new
writes_one game same place to count pairs tallies old new leads tallied is written = record {
  one = record { pairs = pairs; counted = map counted_by tallies };
  same = refl;
  played = record { to = to; leads = leads; tallied = tallied };
  told = subst (λ (g : AbstractGame). new ≡ old ++ searched_line (length g.players) (record { pairs = pairs; counted = map counted_by tallies })) is written;
}

-- the lines so far, and the next one
pub moves_none : (game : AbstractGame) (place : AbstractPlace) (count : ℕ) (bytes : List ℕ) → WritesMoves game place count [] bytes bytes
moves_none game place count bytes =
    record { every = []; same = refl; played = All-nil (IsSearched game place count); told = sym (append-nil bytes) }

moves_more : (game : AbstractGame) (place : AbstractPlace) (count : ℕ) (moves : List (List (ℕ × ℕ))) (pairs : List (ℕ × ℕ)) (old mid new : List ℕ) → WritesMoves game place count moves old mid → WritesOne game place count pairs mid new → WritesMoves game place count (moves ++ pairs ∷ []) old new
moves_more game place count moves pairs old mid new so_far next =
    let line : Searched → List ℕ = searched_line (length game.players) in
    let text : flat_map line (so_far.every ++ next.one ∷ []) ≡ flat_map line so_far.every ++ line next.one =
    flat_map-append line so_far.every (next.one ∷ []) ∙ ap (λ t. flat_map line so_far.every ++ t) (append-nil (line next.one)) in
    record {
      every = so_far.every ++ next.one ∷ [];
      same = map-append (λ (s : Searched). s.pairs) so_far.every (next.one ∷ []) ∙ (λ i. so_far.same i ++ next.same i ∷ []);
      played = All-append (IsSearched game place count) so_far.every (next.one ∷ []) so_far.played (All-cons (IsSearched game place count) next.one [] next.played (All-nil (IsSearched game place count)));
      told = and_then old (flat_map line so_far.every) mid new (line next.one) so_far.told next.told ∙ ap (λ t. old ++ t) (sym text);
    }

pub moves_next : {L : Type 0} (game : AbstractGame) (place : AbstractPlace) (count : ℕ) (shown : L → List (ℕ × ℕ)) (lent : List L) (i : ℕ) (x : L) (old mid new : List ℕ) → i < length lent → x ≡ get_or lent i x → WritesMoves game place count (map shown (take i lent)) old mid → WritesOne game place count (shown x) mid new → WritesMoves game place count (map shown (take (i + 1) lent)) old new
moves_next game place count shown lent i x old mid new within is so_far next =
    subst (λ (ms : List (List (ℕ × ℕ))). WritesMoves game place count ms old new) (sym (map-take_more shown lent i x within is))
    (moves_more game place count (map shown (take i lent)) (shown x) old mid new so_far next)

pub moves_end : {L : Type 0} (game : AbstractGame) (place : AbstractPlace) (count : ℕ) (shown : L → List (ℕ × ℕ)) (lent : List L) (i : ℕ) (old new : List ℕ) → length lent ≤ i → WritesMoves game place count (map shown (take i lent)) old new → WritesMoves game place count (map shown lent) old new
moves_end game place count shown lent i old new all is =
    subst (λ ls. WritesMoves game place count (map shown ls) old new) (take_all i lent all) is

-- a move of those that are lent
pub legal_lent : {L : Type 0} (game : AbstractGame) (place : AbstractPlace) (shown : L → List (ℕ × ℕ)) (lent : List L) (i : ℕ) (x : L) → All (λ m. IsLegal game place (shown m)) lent → i < length lent → x ≡ get_or lent i x → IsLegal game place (shown x)
legal_lent game place shown lent i x legal within is = subst (λ m. IsLegal game place (shown m)) (sym is) (legal i x within)

-- all lines, after that of how many they are
pub writes_search : {L E : Type 0} (game : AbstractGame) (place : AbstractPlace) (count : ℕ) (moves : List (List (ℕ × ℕ))) (shown : L → List (ℕ × ℕ)) (lent : List L) (old mid new : List ℕ) (len : ℕ) (result : Result (Unit {0}) E) → AreLegalMoves game place moves → IsInOrder moves (map shown lent) → len ≡ length lent → mid ≡ old ++ line_of (codes "search " ++ decimal len) → OnOk result (WritesMoves game place count (map shown lent) mid new) → OnOk result (WritesSearch game place count old new)
unfolding answer_text
writes_search game place count moves shown lent old mid new len (Ok x) are is same head lines =
    let legal = in_order_legal game place moves (map shown lent) are is in
    let size : length lines.every ≡ len = sym (length-map lines.every (λ (s : Searched). s.pairs)) ∙ (ap length lines.same ∙ (length-map lent shown ∙ sym same)) in
    let text : List ℕ = flat_map (searched_line (length game.players)) lines.every in
    record {
      every = lines.every;
      are = record {
        moves = subst (AreLegalMoves game place) (sym lines.same) legal;
        order = subst (AllPairs IsMoveBefore) (sym lines.same) is.order;
        played = lines.played;
      };
      told = and_then old (line_of (codes "search " ++ decimal len)) mid new text head lines.told ∙ ap (λ n. old ++ (line_of (codes "search " ++ decimal n) ++ text)) (sym size);
    }
writes_search game place count moves shown lent old mid new len (Err e) are is same head lines = tt

-- why the moves weren't listed
pub unlisted_search : (game : AbstractGame) (place : AbstractPlace) (refusal : QuestionError) → IsUnlisted game place refusal → IsUnsearched game place refusal
unlisted_search game place refusal why = unmoved (unlisted why)

pub search_memory : (game : AbstractGame) (place : AbstractPlace) → IsUnsearched game place Memory
search_memory game place = unmoved (unlisted no_memory)

-- what stood there still stands there
pub kept_same : (bytes : List ℕ) → take (length bytes) bytes ≡ bytes
kept_same bytes = take_all (length bytes) bytes (omega arith)

-- what a session answers, or why it doesn't
pub search_told : {E : Type 0} (session : AbstractSession) (seed count : ℕ) (before after : List ℕ) (result : Result (Unit {0}) E) → OnOk result (WritesSearch session.game session.place count before after) → OnOk result (AnswersIn session (Search seed count) session before after)
search_told session seed count before after (Ok x) is =
    record { answer = searched (length session.game.players) is.every; answers = searches is.are; told = is.told }
search_told session seed count before after (Err e) is = tt

pub search_refused : {T : Type 0} (session : AbstractSession) (seed count : ℕ) (result : Result T QuestionError) → IfErr result (IsUnsearched session.game session.place) → IfErr result (IsRefused session (Search seed count))
search_refused session seed count (Ok x) is = tt
search_refused session seed count (Err e) is = unsearched is
