-- The template has the parameters and the body that were read.
use Rattle.rbg_macro.proofs.definition.read_template.Goals as goal

pub returns-clause-ok : goal.returns-clause-ok
returns-clause-ok c = record {
  parameters = _;
  body = _;
  beyond = c.in_ok-body.ensures;
  many = c.in_ok-new.ensures.parameters;
  filled = c.in_ok-new.ensures.body;
}
