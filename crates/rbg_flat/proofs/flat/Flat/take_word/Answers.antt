use Rattle.std.proofs.Common.{◌≡◌}
use Rattle.rbg_flat.proofs.Common.{LeadsFrom, IsToTryIn, way_in}
use Rattle.rbg_flat.proofs.Leaping.{same_on}
use Rattle.rbg_flat.proofs.Trying.{word_done, marked_bits, leads_nowhere, ends_nowhere}
use Rattle.rbg_flat.proofs.Doing.{meets_done, meets_quiet, closes_quiet, closes_done, closed_in}
use Rattle.rbg_flat.proofs.Takings.{lead_less}
use Rattle.rbg_flat.proofs.ToTry.{pattern_to_try}
use Rattle.rbg_flat.proofs.flat.Flat.take_word.Goals as goal

pub lead_word-requires-clause-board : goal.lead_word-requires-clause-board
lead_word-requires-clause-board c = λ b set. c.requires.board b (c.requires.within b set)

pub returns-then-held-ne0-clause-begun : goal.returns-then-held-ne0-clause-begun
returns-then-held-ne0-clause-begun c = λ f told is.
    word_done (way_in c.args.setting.now) c.args.setting.now.game.now c.requires.ready.set.lawful c.args.setting.now.state.now.state c.requires.ready.set.fits f
    c.args.self.now.sets c.close_word.new.self c.lead_word.new.self.sets c.args.self.now.ends c.lead_word.new.self.ends
    c.args.word.position c.args.word.column c.args.word.bits c.args.held
    c.close_word.ensures c.requires.marked c.lead_word.ensures.met c.lead_word.ensures.ends c.requires.within told is

pub returns-else-held-ne0-clause-begun : goal.returns-else-held-ne0-clause-begun
returns-else-held-ne0-clause-begun c = λ f told is.
    let none : c.args.held ≡ 0 = c.if-held-ne0.false in
    word_done (way_in c.args.setting.now) c.args.setting.now.game.now c.requires.ready.set.lawful c.args.setting.now.state.now.state c.requires.ready.set.fits f
    c.args.self.now.sets c.close_word.new.self c.close_word.new.self c.args.self.now.ends c.args.self.now.ends
    c.args.word.position c.args.word.column c.args.word.bits c.args.held
    c.close_word.ensures c.requires.marked
    (leads_nowhere (way_in c.args.setting.now) c.args.setting.now.game.now c.close_word.new.self c.args.held c.args.word.position c.args.word.column (IsToTryIn c.args.setting.now) none)
    (ends_nowhere (way_in c.args.setting.now) c.args.setting.now.game.now c.args.self.now.ends c.args.held c.args.word.position c.args.word.column none)
    c.requires.within told is

pub returns-then-held-ne0-clause-on : goal.returns-then-held-ne0-clause-on
returns-then-held-ne0-clause-on c = λ on. c.lead_word.ensures.on (same_on c.args.setting.now.game.now c.args.self.now.sets c.close_word.new.self c.args.word.position c.args.word.column c.args.word.bits c.close_word.ensures on)

pub returns-else-held-ne0-clause-on : goal.returns-else-held-ne0-clause-on
returns-else-held-ne0-clause-on c = same_on c.args.setting.now.game.now c.args.self.now.sets c.close_word.new.self c.args.word.position c.args.word.column c.args.word.bits c.close_word.ensures

pub returns-then-held-ne0-clause-still_done : goal.returns-then-held-ne0-clause-still_done
returns-then-held-ne0-clause-still_done c = λ v p done.
    meets_done c.close_word.new.self c.lead_word.new.self.sets (LeadsFrom (way_in c.args.setting.now) c.args.setting.now.game.now c.args.word.position c.args.word.column c.args.held) (IsToTryIn c.args.setting.now) c.lead_word.ensures.met v p
    (closes_done c.args.self.now.sets c.close_word.new.self c.args.word.position c.args.word.column c.args.word.bits c.close_word.ensures v p done)

pub returns-else-held-ne0-clause-still_done : goal.returns-else-held-ne0-clause-still_done
returns-else-held-ne0-clause-still_done c = closes_done c.args.self.now.sets c.close_word.new.self c.args.word.position c.args.word.column c.args.word.bits c.close_word.ensures

pub returns-then-held-ne0-clause-done : goal.returns-then-held-ne0-clause-done
returns-then-held-ne0-clause-done c = λ v there.
    meets_done c.close_word.new.self c.lead_word.new.self.sets (LeadsFrom (way_in c.args.setting.now) c.args.setting.now.game.now c.args.word.position c.args.word.column c.args.held) (IsToTryIn c.args.setting.now) c.lead_word.ensures.met v c.args.word.position
    (closed_in c.args.self.now.sets c.close_word.new.self c.args.word.position c.args.word.column c.args.word.bits c.close_word.ensures v there (marked_bits c.args.self.now.sets c.args.word.position c.args.word.column c.args.word.bits c.requires.marked v there))

pub returns-else-held-ne0-clause-done : goal.returns-else-held-ne0-clause-done
returns-else-held-ne0-clause-done c = λ v there.
    closed_in c.args.self.now.sets c.close_word.new.self c.args.word.position c.args.word.column c.args.word.bits c.close_word.ensures v there (marked_bits c.args.self.now.sets c.args.word.position c.args.word.column c.args.word.bits c.requires.marked v there)

pub returns-then-held-ne0-clause-quiet : goal.returns-then-held-ne0-clause-quiet
returns-then-held-ne0-clause-quiet c = λ v p pattern apart done.
    closes_quiet c.args.self.now.sets c.close_word.new.self c.args.word.position c.args.word.column c.args.word.bits c.close_word.ensures v p apart
    (meets_quiet c.close_word.new.self c.lead_word.new.self.sets (LeadsFrom (way_in c.args.setting.now) c.args.setting.now.game.now c.args.word.position c.args.word.column c.args.held) (IsToTryIn c.args.setting.now) c.lead_word.ensures.met v p (pattern_to_try c.args.setting.now.game.now c.requires.ready.set.lawful.numbered c.args.setting.now.state.now.state p pattern v) done)

pub returns-else-held-ne0-clause-quiet : goal.returns-else-held-ne0-clause-quiet
returns-else-held-ne0-clause-quiet c = λ v p pattern apart done. closes_quiet c.args.self.now.sets c.close_word.new.self c.args.word.position c.args.word.column c.args.word.bits c.close_word.ensures v p apart done

pub returns-then-held-ne0-clause-less : goal.returns-then-held-ne0-clause-less
returns-then-held-ne0-clause-less c = λ v is there. lead_less c.args.self.now.sets c.close_word.new.self c.lead_word.new.self.sets c.args.word.position c.args.word.column c.args.word.bits c.close_word.ensures c.lead_word.ensures.met.lighter v is there

pub returns-else-held-ne0-clause-less : goal.returns-else-held-ne0-clause-less
returns-else-held-ne0-clause-less c = λ v is there. c.close_word.ensures.less v is there
