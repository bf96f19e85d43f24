-- The errors of questions that a place doesn't answer.
use Rattle.rbg_search.specs.declared.over.Over.{Over}
use Rattle.rbg_search.specs.declared.over.Over.TheVariants.{Deep, Wide, Memory as OverMemory}
use Rattle.rbg_moves.specs.declared.unsettled.Unsettled.TheVariants.{Heavy, Memory}
use Rattle.rbg_questions.specs.declared.error.CountError.{CountError}
use Rattle.rbg_questions.specs.declared.error.CountError.TheVariants.{Unsettled}

-- the error where a question is given up
abbrev pub error_of_over : Over → CountError
error_of_over Deep = Unsettled Heavy
error_of_over Wide = Unsettled Heavy
error_of_over OverMemory = Unsettled Memory
