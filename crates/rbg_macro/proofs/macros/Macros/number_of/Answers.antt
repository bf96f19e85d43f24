-- A look-up in the map finds the number of the first macro of the name in the list.
use Rattle.std.proofs.Common.{◌∙◌, sym}
use Rattle.rbg_macro.specs.internal.ReadTokens.{read_lexeme}
use Rattle.rbg_macro.proofs.Marks.{number_by_lookup}
use Rattle.rbg_macro.proofs.macros.Macros.number_of.Goals as goal

pub returns-then-is_name : goal.returns-then-is_name
returns-then-is_name c =
    rw (← c.self.view_is) (number_by_lookup (read_lexeme c.args.token.now) c.self.inside.by_name.entries c.get_index_of.result
    (sym c.is_name.ensures ∙ c.if-is_name.true) (rw c.text.ensures at c.get_index_of.ensures.found) (rw c.text.ensures at c.get_index_of.ensures.value))
