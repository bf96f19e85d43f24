-- The text is a game's, or memory ran out, or a layer refuses it.
use Rattle.std.proofs.Common.{refl}
use Rattle.std.proofs.lemmas.Bool.{false≢true}
use Rattle.rbg_c.specs.Opening.{is_game, refused}
use Rattle.rbg_c.proofs.opening.rbg_check.Goals as goal

pub returns-in-Ok : goal.returns-in-Ok
returns-in-Ok c = is_game c.in-Ok.ensures.game refl

pub returns-else-is_memory : goal.returns-else-is_memory
returns-else-is_memory c = refused c.in-Err.ensures.refused (λ lost. false≢true (c.if-is_memory.ensures.1 lost)) c.layer.ensures.number
