use Rattle.std.proofs.Common.{ℕ, ◌+◌, ◌*◌, subst}
use Rattle.rbg_rules.specs.Meaning.{IsPatternAt}
use Rattle.rbg_flat.specs.internal.Sets.{IsInWord}
use Rattle.rbg_flat.proofs.Trying.{board_bits, in_open}
use Rattle.rbg_flat.proofs.flat.Flat.try_word.Goals as goal

pub held-held-requires-clause-position : goal.held-held-requires-clause-position
held-held-requires-clause-position c = record {
  from_one = c.requires.on.from_one _ _ c.requires.open.marked;
  there = c.requires.on.there _ _ c.requires.open.marked;
}

pub held-held-requires-clause-board : goal.held-held-requires-clause-board
held-held-requires-clause-board c = board_bits c.args.setting.now.game.now c.args.self.now.sets c.args.position c.args.column c.open_at-bits.result c.requires.on c.open_at-bits.ensures.there

pub take_word-requires-clause-position : goal.take_word-requires-clause-position
take_word-requires-clause-position c = record {
  from_one = c.requires.on.from_one _ _ c.requires.open.marked;
  there = c.requires.on.there _ _ c.requires.open.marked;
}

pub take_word-requires-clause-board : goal.take_word-requires-clause-board
take_word-requires-clause-board c = board_bits c.args.setting.now.game.now c.args.self.now.sets c.args.position c.args.column c.open_at-bits.result c.requires.on c.open_at-bits.ensures.there

pub returns-clause-begun : goal.returns-clause-begun
returns-clause-begun c = λ f is. c.take_word.ensures.begun f (λ b small set. c.held-held.ensures.told b small set (is.to_try (c.args.column * 64 + b) c.args.position (c.open_at-bits.ensures.open b set))) is

pub returns-clause-on : goal.returns-clause-on
returns-clause-on c = c.take_word.ensures.on c.requires.on

pub returns-clause-quiet : goal.returns-clause-quiet
returns-clause-quiet c = λ v p pattern done.
    let apart : ¬ IsInWord c.args.position c.args.column c.open_at-bits.result v p = λ there. c.requires.plain (subst (λ (k : ℕ). IsPatternAt c.args.setting.now.game.now.rules k) there.position pattern) in
    c.take_word.ensures.quiet v p pattern apart done

pub returns-clause-less : goal.returns-clause-less
returns-clause-less c = let some = c.requires.open in c.take_word.ensures.less some.vertex some.is_open (in_open c.args.self.now.sets c.args.place c.args.position c.args.column c.open_at-bits.result some.vertex c.requires.latest.at some.there c.open_at-bits.ensures.is some.is_open)
