-- A state that was put back as it was.
use Rattle.std.proofs.Common.{◌≡◌, ap, ◌∙◌}
use Rattle.std.specs.Prelude.{Option, Some}
use Rattle.rbg_c.specs.States.{AbstractState}

pub kept_there : (after : Option AbstractState) (new old held : AbstractState) → after ≡ Some new → new ≡ old → old ≡ held → after ≡ Some held
kept_there after new old held is kept same = is ∙ ap (λ (s : AbstractState). Some s) (kept ∙ same)
