-- What `hex` decodes is spelt, and what it refuses is not.
use Rattle.rbg_script.proofs.Digits.{spells_decoded, refused_digits}
use Rattle.rbg_script.proofs.event_reader.bytes_of.Goals as goal

pub returns-in-Ok-clause-found : goal.returns-in-Ok-clause-found
returns-in-Ok-clause-found c = spells_decoded _ _ c.in-Ok.ensures.ok

pub returns-else-is_memory-clause-none : goal.returns-else-is_memory-clause-none
returns-else-is_memory-clause-none c = refused_digits _ _ c.in-Err.ensures.err (λ memory. c.if-is_memory.ensures memory)
