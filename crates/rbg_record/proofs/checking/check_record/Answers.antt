use Rattle.rbg_record.proofs.Deciding.{good_exactly}
use Rattle.rbg_record.proofs.checking.check_record.Goals as goal

pub returns-clause-good : goal.returns-clause-good
returns-clause-good c = good_exactly c.args.game.now c.is_accepted.ensures.numbered c.args.bytes.now c.judge_record.result c.judge_record.ensures
