use Rattle.rbg_flat.proofs.Common.{IsToTryIn, IsInWord}
use Rattle.rbg_flat.proofs.Meetings.{meets_known, meets_word}
use Rattle.rbg_flat.proofs.leading.meet_at.Goals as goal

pub returns-then-knows : goal.returns-then-knows
returns-then-knows c = meets_known c.args.sets.now (IsInWord c.args.word.position c.args.word.column c.args.word.bits) (IsToTryIn c.args.setting.now) (c.knows.ensures c.if-knows.true)

pub returns : goal.returns
returns c = meets_word c.args.sets.now c.meet_word.new.self c.args.word.position c.args.word.column c.args.word.bits c.to_try-opens.result (IsToTryIn c.args.setting.now) c.to_try-opens.ensures c.meet_word.ensures
