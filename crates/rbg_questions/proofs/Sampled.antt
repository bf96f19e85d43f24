-- One match by chance, move by move.
use Rattle.rbg_base.proofs.Common.{◌≡◌, ℕ, ◌+◌, ◌<◌, List, [], ◌∷◌, ◌++◌, length, true, false, Result, Ok, Err, OnOk, IfErr, codes, decimal, refl, sym, ap, ◌∙◌, arith, append-nil, length-append}
use Rattle.std.specs.List.{flat_map}
use Rattle.std.proofs.lemmas.List.Concat.{flat_map-append}
use Rattle.rbg_rules.specs.Meaning.{AbstractGame, AbstractPlace, Legal}
use Rattle.rbg_moves.specs.Settling.{Settles}
use Rattle.rbg_wire.specs.Lines.{line_of}
use Rattle.rbg_wire.specs.Messages.{pairs_text}
use Rattle.rbg_questions.specs.declared.question_error.QuestionError.{QuestionError}
use Rattle.rbg_questions.specs.declared.question.Question.TheVariants.{Sample}
use Rattle.rbg_questions.specs.Answers.{Answer, answer_text, sampled as sampled_answer}
use Rattle.rbg_questions.specs.Answering.{AnswersIn, IsRefused, StandsAt, samples, unsampled}
use Rattle.rbg_questions.specs.Chance.{IsUnmoved, Plays, no_move, one_more}
use Rattle.rbg_questions.specs.Searching.{IsUnsampled, unmoved_on, untold}
use Rattle.rbg_questions.specs.Sessions.{AbstractSession}
use Rattle.rbg_questions.specs.Places.{IsUntold}
use Rattle.rbg_questions.specs.internal.Searching.{IsMade, TellsMove, WritesSample, moved, rests}

-- So many moves were made, and these are their lines.
pub record MadeSo (game : AbstractGame) (from : AbstractPlace) (count : ℕ) (to : AbstractPlace) (lines : List ℕ) : Type 0 where
  pub moves : List (List (ℕ × ℕ))
  pub plays : Plays game from moves to
  pub many : length moves ≡ count
  pub told : lines ≡ flat_map (λ pairs. line_of (pairs_text pairs)) moves

pub made_none : (game : AbstractGame) (from : AbstractPlace) (lines : List ℕ) → lines ≡ [] → MadeSo game from 0 from lines
made_none game from lines none = record { moves = []; plays = no_move; many = refl; told = none }

pub made_more : (game : AbstractGame) (from middle to : AbstractPlace) (many : ℕ) (old new : List ℕ) → MadeSo game from many middle old → TellsMove game middle old true to new → MadeSo game from (many + 1) to new
made_more game from middle to many old new so_far (moved pairs leads told) =
    let line : List (ℕ × ℕ) → List ℕ = λ ps. line_of (pairs_text ps) in
    let text : flat_map line (so_far.moves ++ pairs ∷ []) ≡ flat_map line so_far.moves ++ line pairs =
    flat_map-append line so_far.moves (pairs ∷ []) ∙ ap (λ t. flat_map line so_far.moves ++ t) (append-nil (line pairs)) in
    record {
      moves = so_far.moves ++ pairs ∷ [];
      plays = one_more so_far.plays leads;
      many = length-append so_far.moves (pairs ∷ []) ∙ ap (λ n. n + 1) so_far.many;
      told = told ∙ (ap (λ t. t ++ line pairs) so_far.told ∙ sym text);
    }

-- the match ends, or as many moves as are wanted were made
pub made_over : (game : AbstractGame) (from middle to : AbstractPlace) (most many : ℕ) (old new : List ℕ) → MadeSo game from many middle old → many < most → TellsMove game middle old false to new → IsMade game from most many to new
made_over game from middle _ most many old _ so_far few (rests over) = record {
  moves = so_far.moves;
  sampled = record { plays = so_far.plays; few = omega (arith, few, so_far.many); whole = λ _. over };
  many = so_far.many;
  told = so_far.told;
}

pub made_all : (game : AbstractGame) (from to : AbstractPlace) (most many : ℕ) (lines : List ℕ) → MadeSo game from many to lines → many ≡ most → IsMade game from most most to lines
made_all game from to most many lines so_far all = record {
  moves = so_far.moves;
  sampled = record { plays = so_far.plays; few = omega (arith, all, so_far.many); whole = λ less. absurd (omega (arith, all, so_far.many, less)) };
  many = so_far.many ∙ all;
  told = so_far.told;
}

-- a move is made, or isn't
pub tells_moved : (game : AbstractGame) (from middle to : AbstractPlace) (pairs : List (ℕ × ℕ)) (old new : List ℕ) → Legal game from pairs middle → Settles game middle to → new ≡ old ++ line_of (pairs_text pairs) → TellsMove game from old true to new
tells_moved game from middle to pairs old new legal settles told =
    moved pairs (record { middle = middle; legal = legal; settles = settles }) told

pub stuck_at : (game : AbstractGame) (from to : AbstractPlace) (most many : ℕ) (lines : List ℕ) (refusal : QuestionError) → MadeSo game from many to lines → many < most → IsUnmoved game to refusal → IsUnsampled game from most refusal
stuck_at game from to most many lines refusal so_far few why = unmoved_on so_far.plays (omega (arith, few, so_far.many)) why

pub untold_at : (game : AbstractGame) (from to : AbstractPlace) (most made : ℕ) (lines : List ℕ) (refusal : QuestionError) → IsMade game from most made to lines → IsUntold game to refusal → IsUnsampled game from most refusal
untold_at game from to most made lines refusal is why = untold is.sampled why

-- all lines
pub writes_sample : (game : AbstractGame) (from to : AbstractPlace) (most made : ℕ) (lines shown : List ℕ) (standing : Answer) (old new : List ℕ) → IsMade game from most made to lines → StandsAt game to standing → shown ≡ lines → new ≡ old ++ (line_of (codes "sample " ++ decimal made) ++ shown ++ answer_text standing) → WritesSample game from most old new
unfolding answer_text
writes_sample game from to most made lines shown standing old new is stands same written = record {
  moves = is.moves;
  to = to;
  standing = standing;
  sampled = is.sampled;
  stands = stands;
  told = written ∙ (λ i. old ++ (line_of (codes "sample " ++ decimal ((sym is.many) i)) ++ (same ∙ is.told) i ++ answer_text standing));
}

-- what a session answers, or why it doesn't
pub sample_told : {E : Type 0} (session : AbstractSession) (seed most : ℕ) (before after : List ℕ) (result : Result (Unit {0}) E) → OnOk result (WritesSample session.game session.place most before after) → OnOk result (AnswersIn session (Sample seed most) session before after)
sample_told session seed most before after (Ok x) is =
    record { answer = sampled_answer is.moves is.standing; answers = samples is.sampled is.stands; told = is.told }
sample_told session seed most before after (Err e) is = tt

pub sample_refused : {T : Type 0} (session : AbstractSession) (seed most : ℕ) (result : Result T QuestionError) → IfErr result (IsUnsampled session.game session.place most) → IfErr result (IsRefused session (Sample seed most))
sample_refused session seed most (Ok x) is = tt
sample_refused session seed most (Err e) is = unsampled is
