use Rattle.std.proofs.lemmas.List.{get_or_read}
use Rattle.rbg_state.proofs.RowLemmas.{set_word}
use Rattle.rbg_state.proofs.rows.set_bit.Goals as goal

pub returns : goal.returns
returns c =
    set_word c.args.words.now.items c.args.word c.args.bit c.index_mut.result.now (get_or_read c.args.words.now.items c.args.word c.index_mut.result.now c.requires.word c.index_mut.ensures.value 0) c.requires.word c.requires.bit
