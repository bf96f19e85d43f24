-- Memory ran out, or the text is no game's.
use Rattle.std.proofs.lemmas.Bool.{false≢true}
use Rattle.rbg_position.specs.internal.Texts.IsNoText.{refused, no_memory}
use Rattle.rbg_position.proofs.description.refusal.Goals as goal

pub returns-then-is_memory : goal.returns-then-is_memory
returns-then-is_memory c = λ text game r. no_memory

pub returns-else-is_memory : goal.returns-else-is_memory
returns-else-is_memory c = λ text game r. refused r (λ m. false≢true (c.if-is_memory.ensures.1 m))
