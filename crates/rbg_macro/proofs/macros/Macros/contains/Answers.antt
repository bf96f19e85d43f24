-- A look-up in the map finds a name exactly if the list has it.
use Rattle.rbg_base.proofs.Common.{◌∙◌, ap, List, list_any, bytes_eq}
use Rattle.rbg_macro.specs.Macro.{Macro}
use Rattle.rbg_macro.proofs.Names.{has_lookup}
use Rattle.rbg_macro.proofs.macros.Macros.contains.Goals as goal

pub returns : goal.returns
returns c =
    c.contains_key.ensures ∙ has_lookup c.args.name.now c.self.inside.by_name.entries
    ∙ ap (λ (ms : List Macro). list_any (λ m. bytes_eq c.args.name.now m.name) ms) c.self.view_is
