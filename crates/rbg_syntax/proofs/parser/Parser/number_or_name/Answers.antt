use Rattle.std.proofs.Common.{sym, ◌∙◌}
use Rattle.rbg_grammar.proofs.SumReaders.{no_number_or_name}
use Rattle.rbg_syntax.proofs.Exits.{FailsWithin-misfit}
use Rattle.rbg_syntax.proofs.parser.Parser.number_or_name.Goals as goal

pub returns-then-not-next_is_name : goal.returns-then-not-next_is_name
returns-then-not-next_is_name c =
    FailsWithin-misfit _ _ _ _ c.misfit.ensures (no_number_or_name c.args.self.now (sym c.next_is_number.ensures ∙ c.if-next_is_number.false) (sym c.next_is_name.ensures ∙ c.if-not-next_is_name.true))
