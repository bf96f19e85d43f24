-- A new name goes last.
use Rattle.rbg_base.proofs.Common.{◌∷◌, [], ◌++◌, List, ◌∙◌, ap, map, map-append}
use Rattle.rbg_macro.proofs.Common.{Macro, macro_of, macro_in}
use Rattle.rbg_macro.proofs.Names.{insert_entry-fresh}
use Rattle.rbg_macro.proofs.macros.Macros.insert.Goals as goal

pub returns : goal.returns
returns c =
    let fresh = rw (← c.self.view_is) at c.requires in
    ap (map macro_in) (c.in_ok-insert.ensures.entries ∙ insert_entry-fresh c.args.name c.args.template c.self.inside.by_name.entries fresh)
    ∙ map-append macro_in c.self.inside.by_name.entries ((c.args.name, c.args.template) ∷ [])
    ∙ ap (λ (ms : List Macro). ms ++ macro_of c.args.name.now c.args.template ∷ []) c.self.view_is
