use Rattle.std.proofs.Common.{sym, ◌∙◌}
use Rattle.std.proofs.lemmas.Bool.{true≢false}
use Rattle.rbg_referee.proofs.refereeing.not_loaded.Goals as goal

pub returns : goal.returns
returns c = λ text config now events refused. (refused, λ memory. true≢false (sym (c.is_memory.ensures.1 memory) ∙ c.if-is_memory.false))
