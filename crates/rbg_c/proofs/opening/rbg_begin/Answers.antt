-- The game's first place is kept, or memory ran out, or a layer refuses the text.
use Rattle.std.proofs.Common.{refl, subst}
use Rattle.std.proofs.lemmas.Bool.{false≢true}
use Rattle.rbg_c.specs.States.{AbstractState}
use Rattle.rbg_c.specs.Opening.{Keeps, refused, begun, no_beginning}
use Rattle.rbg_c.proofs.opening.rbg_begin.Goals as goal

pub returns-in-Ok-begin : goal.returns-in-Ok-begin
returns-in-Ok-begin c =
    begun c.in-Ok.ensures.game
    (subst (λ (s : AbstractState). Keeps s c.args.state.now.value c.keep.new.handle.value c.keep.result) c.in-Ok-begin.ensures c.keep.ensures)

pub returns-else-is_memory : goal.returns-else-is_memory
returns-else-is_memory c =
    no_beginning (refused c.in-Err.ensures.refused (λ lost. false≢true (c.if-is_memory.ensures.1 lost)) c.layer.ensures.number) c.layer.ensures.some refl
