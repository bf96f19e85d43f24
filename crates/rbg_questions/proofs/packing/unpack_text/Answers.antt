-- Digits of other bytes are those of no place.
use Rattle.std.proofs.Common.{◌∙◌}
use Rattle.rbg_questions.proofs.Packed.{none_there, none_weaker, other_digits, packed_bytes, some_there}
use Rattle.rbg_questions.proofs.packing.unpack_text.Goals as goal

pub returns-in-Some-clause-none : goal.returns-in-Some-clause-none
returns-in-Some-clause-none c =
    none_weaker _ _ c.unpack.result
    (λ none place fits is. none place fits (c.deref.ensures.value ∙ other_digits _ _ place (some_there _ _ _ c.in-Some.is c.in_ok-bytes.ensures.decoded) is)) c.unpack.ensures.none

pub returns-in-None-clause-none : goal.returns-in-None-clause-none
returns-in-None-clause-none c place fits is = none_there _ _ c.in-None.is c.in_ok-bytes.ensures.none _ (packed_bytes place) is
