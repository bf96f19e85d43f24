use Rattle.std.proofs.Common.{ℕ, sym, subst}
use Rattle.rbg_shifts.proofs.Common.{start_of}
use Rattle.rbg_flat.proofs.Common.{Way, IsFirstLead, EndsFirst, LeadsOn}
use Rattle.rbg_flat.proofs.flat.Flat.lead.Goals as goal

pub leap-requires-clause-leaps : goal.leap-requires-clause-leaps
leap-requires-clause-leaps c = c.in-Some.ensures.some.1 c.args.setting.now.game.now c.requires.ready.set.paths

pub returns-in-Some : goal.returns-in-Some
returns-in-Some c =
    let game = c.args.setting.now.game.now in
    let f = start_of c.args.origin in
    subst (λ (way : Way). LeadsOn c.args.setting.now c.args.self.now c.leap.new.self (λ (v p : ℕ). IsFirstLead way game f c.args.vertex p v) (EndsFirst way game f c.args.vertex)) (sym c.in-Some.ensures.some.0) c.leap.ensures

pub returns-in-None : goal.returns-in-None
returns-in-None c =
    let game = c.args.setting.now.game.now in
    let f = start_of c.args.origin in
    subst (λ (way : Way). LeadsOn c.args.setting.now c.args.self.now c.step.new.self (λ (v p : ℕ). IsFirstLead way game f c.args.vertex p v) (EndsFirst way game f c.args.vertex)) (sym c.in-None.ensures.none) c.step.ensures
