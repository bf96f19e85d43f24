use Rattle.rbg_flat.proofs.Spellings.{written_word}
use Rattle.rbg_flat.proofs.found.spell.Goals as goal

pub loop-word-preserved : goal.loop-word-preserved
loop-word-preserved c =
    written_word c.args.pairs.now.items c.loop-word.pairs.items c.spell_word.new.pairs.items c.args.words.now c.loop-word.word-index (record { base = 0; position = 0; bits = 0 }) c.loop-word-test.true c.loop-word.invariant c.in_ok-spell_word.ensures
