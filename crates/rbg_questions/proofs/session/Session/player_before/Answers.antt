-- A move was made there.
use Rattle.rbg_base.proofs.Common.{◌<◌, length, Some, ap, sym, subst, ◌∙◌, slice_get-get_or}
use Rattle.rbg_questions.specs.Answers.{to_move}
use Rattle.rbg_questions.specs.Answering.{StandsAt}
use Rattle.rbg_questions.proofs.Answering.{stands_before}
use Rattle.rbg_questions.proofs.session.Session.player_before.Goals as goal

pub returns : goal.returns
returns c =
    let within : c.args.index < length c.self.inside.before.items = rw (← c.self.view_is) at c.requires in
    rw (← c.self.view_is) (λ new back.
    subst (λ n. StandsAt new.game new.place (to_move n)) (sym (c.player.ensures ∙ ap (λ p. p.state.player) c.behind-self.view_is))
    (stands_before _ _ _ c.self.invariant.0 within (slice_get-get_or _ _ _ within ∙ ap Some (sym c.index.ensures)) new back))
