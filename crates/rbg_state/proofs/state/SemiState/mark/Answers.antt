use Rattle.std.proofs.Common.{sym, ◌∙◌}
use Rattle.rbg_state.proofs.Pasts.{length-past_of}
use Rattle.rbg_state.proofs.state.SemiState.mark.Goals as goal

pub returns : goal.returns
returns c = rw (← c.self.view_is) (c.after.ensures ∙ c.len.ensures ∙ c.self.inside.changes.ok.0 ∙ sym (length-past_of c.self.inside.changes.items c.self.inside.parts))
