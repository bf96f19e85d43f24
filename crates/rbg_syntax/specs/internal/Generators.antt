-- What is in the parentheses after the name of a generator of boards.
use Rattle.std.specs.Prelude.{List}
use Rattle.rbg_macro.specs.Token.{Lexeme}
use Rattle.rbg_grammar.specs.Reading.{Reading, graph_at, hexagon_at, rectangle_at}
use Rattle.rbg_grammar.specs.Tree.{SpeltBoard}
use Rattle.rbg_syntax.specs.declared.boards.Generator.{Generator}
use Rattle.rbg_syntax.specs.declared.boards.Generator.TheVariants.{Rectangle, Hexagon, Graph}

abbrev pub contents_at : Generator → List Lexeme → Reading SpeltBoard
contents_at Rectangle = rectangle_at
contents_at Hexagon = hexagon_at
contents_at Graph = graph_at
