-- The player sends its move.
use Rattle.std.proofs.Common.{◌∙◌}
use Rattle.rbg_record.proofs.EventLines.{made_told}
use Rattle.rbg_record.proofs.entries.write_made.Goals as goal

pub returns : goal.returns
returns c =
    made_told c.args.at c.args.player c.args.pairs.now c.as_slice.result.now c.args.out.now.items c.write_message.new.out.items c.if-player-eq0.false c.requires (c.as_slice.ensures.value ∙ c.in_ok-text.ensures) c.write_message.ensures.spelled c.in_ok-write_message.ensures.written.ok
