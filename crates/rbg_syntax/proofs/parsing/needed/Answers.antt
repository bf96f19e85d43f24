use Rattle.rbg_syntax.specs.declared.error.SyntaxError.TheVariants as errors
use Rattle.rbg_grammar.specs.Sections.{sections_of}
use Rattle.rbg_syntax.proofs.SectionLists.{missing_first}
use Rattle.rbg_syntax.proofs.parsing.needed.Goals as goal

pub returns-clause-missing : goal.returns-clause-missing
returns-clause-missing c = rw c.ok_or.ensures.value (missing_first c.find.result (errors.MissingSection c.args.which) (sections_of c.args.which c.args.source.now) c.find.ensures)
