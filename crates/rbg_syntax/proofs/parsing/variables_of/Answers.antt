use Rattle.std.proofs.Common.{Ok, map, refl, sym, ap, ◌∙◌}
use Rattle.rbg_grammar.specs.Views.{bounded_of}
use Rattle.rbg_syntax.specs.internal.Giving.{placed}
use Rattle.rbg_syntax.proofs.Descriptions.{variables_first, variables_none, variables_start}
use Rattle.rbg_syntax.proofs.parsing.variables_of.Goals as goal

pub returns-in-Some : goal.returns-in-Some
returns-in-Some c =
    rw (variables_first _ _ c.in-Some.ensures)
    (c.read_variables.result, c.placed.ensures ∙ ap (λ start. placed start c.read_variables.result) (c.at.ensures ∙ variables_start _ _ c.in-Some.ensures), c.read_variables.ensures)

pub returns-in-None : goal.returns-in-None
returns-in-None c = (Ok c.new.result, refl, variables_none _ c.in-None.ensures ∙ ap (λ l. Ok (map bounded_of l)) (sym c.new.ensures.items))
