use Rattle.std.proofs.Common.{sym, subst}
use Rattle.rbg_flat.proofs.Common.{Way, EndsFrom, LeadsFrom, LeadsOn}
use Rattle.rbg_flat.proofs.flat.Flat.lead_word.Goals as goal

pub leap_word-requires-clause-leaps : goal.leap_word-requires-clause-leaps
leap_word-requires-clause-leaps c = c.in-Some.ensures.some.1 c.args.setting.now.game.now c.requires.ready.set.paths

pub returns-in-Some : goal.returns-in-Some
returns-in-Some c =
    let game = c.args.setting.now.game.now in
    subst (λ (way : Way). LeadsOn c.args.setting.now c.args.self.now c.leap_word.new.self (LeadsFrom way game c.args.position c.args.column c.args.word) (EndsFrom way game c.args.position c.args.column c.args.word)) (sym c.in-Some.ensures.some.0) c.leap_word.ensures
