use Rattle.rbg_record.proofs.TellingLemmas.{form_line}
use Rattle.rbg_record.proofs.making.script_of_record.Goals as goal

pub returns-clause-form : goal.returns-clause-form
returns-clause-form c = λ line same. form_line c.args.bytes.now c.write_lines.result line same c.write_lines.ensures.refused
