-- The refusals of questions that a place doesn't answer.
use Rattle.rbg_search.specs.declared.over.Over.{Over as AnyOver}
use Rattle.rbg_search.specs.declared.over.Over.TheVariants.{Deep, Wide, Memory as OverMemory}
use Rattle.rbg_moves.specs.declared.unsettled.Unsettled.{Unsettled}
use Rattle.rbg_moves.specs.declared.unsettled.Unsettled.TheVariants.{Heavy, Endless, Memory as UnsettledMemory}
use Rattle.rbg_questions.specs.declared.question_error.QuestionError.{QuestionError}
use Rattle.rbg_questions.specs.declared.question_error.QuestionError.TheVariants.{Over, Keeper, Memory}

-- the refusal where a question is given up
abbrev pub refusal_of_over : AnyOver → QuestionError
refusal_of_over Deep = Over
refusal_of_over Wide = Over
refusal_of_over OverMemory = Memory

-- and where the keeper's moves lead to no place where play rests
abbrev pub refusal_of_unsettled : Unsettled → QuestionError
refusal_of_unsettled Heavy = Over
refusal_of_unsettled Endless = Keeper
refusal_of_unsettled UnsettledMemory = Memory
