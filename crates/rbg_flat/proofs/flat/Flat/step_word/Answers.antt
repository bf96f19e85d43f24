use Rattle.std.proofs.Common.{sym, subst}
use Rattle.rbg_flat.proofs.Common.{Way, EndsFrom, LeadsFrom, LeadsOn, Stays}
use Rattle.rbg_flat.proofs.flat.Flat.step_word.Goals as goal

pub lead_still-requires-clause-still : goal.lead_still-requires-clause-still
lead_still-requires-clause-still c = subst (λ (way : Way). Stays way c.args.setting.now.game.now.rules c.args.position) (sym c.requires.way) c.in-None.ensures.none

pub returns-in-Some : goal.returns-in-Some
returns-in-Some c =
    let game = c.args.setting.now.game.now in
    subst (λ (way : Way). LeadsOn c.args.setting.now c.args.self.now c.step_across.new.self (LeadsFrom way game c.args.position c.args.column c.args.word) (EndsFrom way game c.args.position c.args.column c.args.word)) (sym c.requires.way) c.step_across.ensures
