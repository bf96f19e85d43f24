-- Why a move isn't made, and why it isn't told how play stands.
use Rattle.std.proofs.Common.{◌≡◌, ◌≢◌, ℕ, ◌⊎◌, List, Result, Err, inl, inr, sym, subst, refl, length, take}
use Rattle.std.specs.Borrow.{Bor}
use Rattle.rbg_rules.specs.Meaning.{AbstractGame, AbstractPlace, Legal, IsLegal, IsPlaceOf, Finished, IsTooHard, Question}
use Rattle.rbg_moves.specs.Settling.{IsEndless, MeetsHeavy}
use Rattle.rbg_search.specs.declared.over.Over.{Over}
use Rattle.rbg_search.specs.declared.over.Over.TheVariants.{Deep, Wide, Memory}
use Rattle.rbg_moves.specs.declared.unsettled.Unsettled.{Unsettled}
use Rattle.rbg_moves.specs.declared.unsettled.Unsettled.TheVariants as unsettled
use Rattle.rbg_questions.specs.declared.question.Question.TheVariants.{Unpack}
use Rattle.rbg_questions.specs.declared.question_error.QuestionError.{QuestionError}
use Rattle.rbg_questions.specs.declared.question_error.QuestionError.TheVariants.{NoPlace, Memory as NoMemory}
use Rattle.rbg_questions.specs.Sessions.{AbstractSession}
use Rattle.rbg_questions.specs.Answers.{to_move, finished}
use Rattle.rbg_questions.specs.Packing.{packed_text}
use Rattle.rbg_questions.specs.Answering.{IsRefused, StandsAt, goes_on, is_over, not_packed, out_of_memory}
use Rattle.rbg_questions.specs.Places.{IsGivenUp, IsStopped, IsUnsettled, above, endless, heavy, no_memory, no_room}
use Rattle.rbg_questions.specs.internal.Places.{IsNotUnpacked, no_place, no_bytes}
use Rattle.rbg_questions.specs.internal.Refusing.{refusal_of_over, refusal_of_unsettled}

-- a question that was given up
pub given_up : (T : Type 0) (game : AbstractGame) (question : Question) (place : AbstractPlace) (over : Over) → (◌≡◌ {A = Result T Over} (Err over) (Err Deep) ⊎ ◌≡◌ {A = Result T Over} (Err over) (Err Wide) → IsTooHard game question place) → IsGivenUp game question place (refusal_of_over over)
given_up T game question place Deep hard = above (hard (inl refl))
given_up T game question place Wide hard = above (hard (inr refl))
given_up T game question place Memory hard = no_memory

-- the keeper's moves from a place, and after a legal move
pub not_settled : (T : Type 0) (game : AbstractGame) (place : AbstractPlace) (why : Unsettled) → (◌≡◌ {A = Result T Unsettled} (Err why) (Err unsettled.Heavy) → MeetsHeavy game place) → (◌≡◌ {A = Result T Unsettled} (Err why) (Err unsettled.Endless) → IsEndless game place) → IsUnsettled game place (refusal_of_unsettled why)
not_settled T game place unsettled.Heavy hard stuck = heavy (hard refl)
not_settled T game place unsettled.Endless hard stuck = endless (stuck refl)
not_settled T game place unsettled.Memory hard stuck = no_room

pub stopped_after : (T : Type 0) (game : AbstractGame) (place middle : AbstractPlace) (pairs : List (ℕ × ℕ)) (why : Unsettled) → Legal game place pairs middle → (◌≡◌ {A = Result T Unsettled} (Err why) (Err unsettled.Heavy) → MeetsHeavy game middle) → (◌≡◌ {A = Result T Unsettled} (Err why) (Err unsettled.Endless) → IsEndless game middle) → IsStopped game place pairs (refusal_of_unsettled why)
stopped_after T game place middle pairs why legal hard stuck = record { middle = middle; legal = legal; unsettled = not_settled T game middle why hard stuck }

-- there was no memory to make a legal move
pub stopped_at_once : (game : AbstractGame) (place : AbstractPlace) (pairs : List (ℕ × ℕ)) → IsLegal game place pairs → IsStopped game place pairs NoMemory
stopped_at_once game place pairs legal = record { middle = legal.0; legal = legal.1; unsettled = no_room }

-- a place that isn't unpacked
pub unpack_refused : (session : AbstractSession) (text : Bor (List ℕ)) (refusal : QuestionError) → IsNotUnpacked session.game text.now refusal → IsRefused session (Unpack text) refusal
unpack_refused session text _ (no_place none) = not_packed none
unpack_refused session text _ no_bytes = out_of_memory

pub not_unpacked_in : (game same : AbstractGame) (text : List ℕ) → same ≡ game → ((place : AbstractPlace) → IsPlaceOf same place → text ≢ packed_text place) → IsNotUnpacked game text NoPlace
not_unpacked_in game same text is none = no_place (λ place fits. none place (subst (λ (g : AbstractGame). IsPlaceOf g place) (sym is) fits))

-- how play stands where a legal move was found, and where there is none
pub stands_on : (game : AbstractGame) (place : AbstractPlace) (player : ℕ) (pairs : List (ℕ × ℕ)) → player ≡ place.state.player → IsLegal game place pairs → StandsAt game place (to_move player)
stands_on game place player pairs same legal = subst (λ n. StandsAt game place (to_move n)) (sym same) (goes_on (λ over. over.no_move pairs legal.0 legal.1))

pub stands_over : (game : AbstractGame) (place : AbstractPlace) (scores : List ℕ) → scores ≡ take (length game.players) place.state.values → Finished game place → StandsAt game place (finished scores)
stands_over game place scores same over = subst (λ s. StandsAt game place (finished s)) (sym same) (is_over over)
