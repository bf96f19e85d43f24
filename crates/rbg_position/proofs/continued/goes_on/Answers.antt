-- The same state, and the same rest.
use Rattle.rbg_base.proofs.Common.{IfOk-weaker, refl, sym, ap, ◌∙◌}
use Rattle.rbg_rules.specs.Meaning.{AbstractPlace}
use Rattle.rbg_position.specs.Renumbering.{number_in}
use Rattle.rbg_position.proofs.Beginnings.{have_same_rest}
use Rattle.rbg_position.proofs.continued.goes_on.Goals as goal

pub returns : goal.returns
returns c =
    IfOk-weaker c.same_rest.result _ _
    (λ alike same h. have_same_rest c.args.new.game.now c.args.old.game.now c.args.new.place.now c.args.old.place.now (number_in c.args.numbers.now) c.in-Some.first c.in-Some-after.last _ _ _ _ (c.if-not-same_states.ensures refl) (sym (ap (λ (p : AbstractPlace). p.last) c.here.view_is) ∙ c.in-Some.is) (sym (ap (λ (p : AbstractPlace). p.last) c.there.view_is) ∙ c.in-Some-after.is)
    c.rules.ensures.rules c.as_game-2.ensures.game c.rules-2.ensures.rules c.as_game-3.ensures.game (same h)) c.same_rest.ensures
