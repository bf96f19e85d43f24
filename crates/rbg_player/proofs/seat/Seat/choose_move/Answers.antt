use Rattle.std.proofs.Common.{sym}
use Rattle.std.proofs.lemmas.Bool.{eqb-true}
use Rattle.rbg_player.specs.Hearing.{IsMover}
use Rattle.rbg_player.proofs.AnswerLemmas.{chosen_answers, none_chosen}
use Rattle.rbg_player.proofs.seat.Seat.choose_move.Goals as goal

pub returns-clause-chosen : goal.returns-clause-chosen
returns-clause-chosen g c =
    let mover : IsMover c.args.self.now = eqb-true _ _ (sym c.if-not-is_mover.ensures) in
    chosen_answers c.args.self.now c.in_ok-moves.ensures.lawful c.in_ok-moves.ensures.fits mover _ c.in_ok-moves.ensures.lists c.choose_among.result c.choose_among.ensures.chosen c.choose_among.ensures.length

pub returns-clause-none : goal.returns-clause-none
returns-clause-none g c = none_chosen c.args.self.now _ c.in_ok-moves.ensures.lists c.choose_among.result c.choose_among.ensures.none
