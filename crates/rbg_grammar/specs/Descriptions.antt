-- The spelt description that a description of the code means.
use Rattle.rbg_grammar.specs.Tree.{SpeltDescription}
use Rattle.rbg_grammar.specs.Views.{spelt}
use Rattle.rbg_grammar.specs.declared.description.Description.{Description}
use Rattle.rbg_grammar.specs.declared.description.DescriptionParts.{DescriptionParts}

abbrev pub description_of : Description → SpeltDescription
description_of d = spelt d.players d.variables d.pieces d.board d.rules

abbrev pub description_of_parts : DescriptionParts → SpeltDescription
description_of_parts p = spelt p.players p.variables p.pieces p.board p.rules
