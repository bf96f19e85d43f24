-- The game's first state is kept, or its first moves can't be told, or a layer refuses the text.
use Rattle.std.proofs.Common.{refl}
use Rattle.std.proofs.lemmas.Bool.{false≢true}
use Rattle.rbg_c.specs.Opening.{refused, opened, no_game, not_begun}
use Rattle.rbg_c.proofs.opening.rbg_open.Goals as goal

pub returns-in-Ok-open : goal.returns-in-Ok-open
returns-in-Ok-open c = opened c.in-Ok.ensures.game c.in-Ok-open.ensures.game c.in-Ok-open.ensures.place c.keep.ensures

pub returns-in-Err-open : goal.returns-in-Err-open
returns-in-Err-open c = not_begun c.in-Ok.ensures.game c.number.ensures.some refl

pub returns-else-is_memory : goal.returns-else-is_memory
returns-else-is_memory c =
    no_game (refused c.in-Err.ensures.refused (λ lost. false≢true (c.if-is_memory.ensures.1 lost)) c.layer.ensures.number) c.layer.ensures.some refl
