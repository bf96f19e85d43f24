-- The vertex is the same, too.
use Rattle.std.proofs.Common.{ℕ, sym, ap, ◌∙◌}
use Rattle.std.proofs.lemmas.Bool.Decides.{Decides-eqb}
use Rattle.rbg_rules.specs.Meaning.{AbstractPlace}
use Rattle.rbg_position.proofs.Beginnings.{states_same}
use Rattle.rbg_position.proofs.continued.same_states.Goals as goal

abbrev vertex : AbstractPlace → ℕ
vertex place = place.state.vertex

pub returns-in-Ok : goal.returns-in-Ok
returns-in-Ok c = λ h. states_same _ _ c.in-Ok.ensures.alike (sym (ap vertex c.here.view_is) ∙ sym c.vertex.ensures ∙ (Decides-eqb c.vertex.result c.vertex-in-Ok.result).0 h ∙ c.vertex-in-Ok.ensures ∙ ap vertex c.there.view_is)
