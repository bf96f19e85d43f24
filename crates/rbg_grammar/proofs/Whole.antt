-- What the sections spell has the parts that each description has.
use Rattle.std.proofs.Common.{List}
use Rattle.rbg_macro.specs.Sections.{SectionTokens}
use Rattle.rbg_grammar.proofs.Common.{SpeltDescription, Spells, IsWhole}
use Rattle.rbg_grammar.proofs.FormedTrees.{rules_formed, board_directions, some_separated}

pub spelt_whole : (sections : List SectionTokens) (d : SpeltDescription) → Spells sections d → IsWhole d
spelt_whole sections d s =
    record {
      some_player = some_separated s.players.spells;
      some_piece = some_separated s.pieces.spells;
      directions = board_directions s.board.spells;
      formed = rules_formed 128 s.rules.ts d.rules _ s.rules.spells;
    }
