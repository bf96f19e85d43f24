use Rattle.std.proofs.Common.{sym, ◌∙◌, subst}
use Rattle.rbg_grammar.proofs.Common.{description_of_parts, Spells}
use Rattle.rbg_grammar.proofs.OneDescription.{one_description}
use Rattle.rbg_grammar.proofs.Whole.{spelt_whole}
use Rattle.rbg_syntax.proofs.Faults.{fault_only}
use Rattle.rbg_syntax.proofs.parsing.parse.Goals as goal

pub returns-in_err-parts-clause-only : goal.returns-in_err-parts-clause-only
returns-in_err-parts-clause-only c = fault_only c.args.source.now _ c.in_err-parts.field-0.0 c.from_residual.ensures.1 c.in_err-parts.ensures.fault

pub new-requires : goal.new-requires
new-requires c = spelt_whole c.args.source.now (description_of_parts c.in_ok-parts.parts) c.in_ok-parts.ensures.found

pub returns-clause-found : goal.returns-clause-found
returns-clause-found c = subst (Spells c.args.source.now) (sym c.new.ensures) c.in_ok-parts.ensures.found

pub returns-clause-only : goal.returns-clause-only
returns-clause-only c d s = c.new.ensures ∙ one_description c.args.source.now (description_of_parts c.in_ok-parts.parts) d c.in_ok-parts.ensures.found s
