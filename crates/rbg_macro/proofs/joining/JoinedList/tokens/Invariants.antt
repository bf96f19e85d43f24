-- The tokens so far are those of the list so far.
use Rattle.std.proofs.Common.{◌≡◌, map, take}
use Rattle.rbg_macro.proofs.Common.{joined_word, word_of}
use Rattle.rbg_macro.proofs.joining.JoinedList.tokens.Given as goal

abbrev pub invariant-loop-token : goal.invariant-loop-token
invariant-loop-token l = map word_of l.tokens.items ≡ map (joined_word l.self-inside.texts.items) (take l.token-index l.token-items)
