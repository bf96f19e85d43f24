-- The first line.
use Rattle.std.proofs.Common.{◌∙◌, ap}
use Rattle.rbg_record.specs.Heading.{version_text}
use Rattle.rbg_record.proofs.TellingLemmas.{version_1_told, version_2_told}
use Rattle.rbg_record.proofs.making.begin.Goals as goal

pub returns-in_ok-write_start-in-One : goal.returns-in_ok-write_start-in-One
returns-in_ok-write_start-in-One c = λ text is.
    version_1_told text c.args.out.now.items _ (is ∙ ap version_text c.in-One.is) c.in_ok-write_start-in-One.ensures

pub returns-in-Two : goal.returns-in-Two
returns-in-Two c = λ text is. version_2_told text c.args.out.now.items (is ∙ ap version_text c.in-Two.is)
