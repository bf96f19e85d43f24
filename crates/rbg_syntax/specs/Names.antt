-- The name that a refusal has for the part that is needed at a token that doesn't fit.
use Rattle.std.specs.Prelude.{ℕ, List, codes}
use Rattle.rbg_syntax.specs.declared.error.Expectation.{Expectation}
use Rattle.rbg_syntax.specs.declared.error.Expectation.TheVariants as parts

unfoldable pub part_name : Expectation → List ℕ
part_name parts.Name = codes "Name"
part_name parts.Number = codes "Number"
part_name parts.Opening = codes "Opening"
part_name parts.Closing = codes "Closing"
part_name parts.Equals = codes "Equals"
part_name parts.Comma = codes "Comma"
part_name parts.Colon = codes "Colon"
part_name parts.Item = codes "Item"
part_name parts.Factor = codes "Factor"
part_name parts.Relation = codes "Relation"
part_name parts.Generator = codes "Generator"
part_name parts.End = codes "End"
