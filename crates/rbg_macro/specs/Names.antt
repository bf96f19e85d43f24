-- The names of sections in a description.
use Rattle.std.specs.Prelude.{ℕ, List, codes}
use Rattle.rbg_macro.specs.declared.source.SectionKind.{SectionKind}
use Rattle.rbg_macro.specs.declared.source.SectionKind.TheVariants.{Players, Pieces, Variables, Board, Rules}

unfoldable pub section_name : SectionKind → List ℕ
section_name Players = codes "players"
section_name Pieces = codes "pieces"
section_name Variables = codes "variables"
section_name Board = codes "board"
section_name Rules = codes "rules"
