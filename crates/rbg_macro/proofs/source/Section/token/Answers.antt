-- A section's token is one of the list.
use Rattle.std.proofs.Common.{◌∙◌, sym, ap, slice_get}
use Rattle.rbg_macro.specs.Sections.{SectionTokens}
use Rattle.rbg_macro.proofs.Spans.{get_in_range}
use Rattle.rbg_macro.proofs.source.Section.token.Goals as goal

pub returns-clause-token : goal.returns-clause-token
returns-clause-token c =
    ap (λ (s : SectionTokens). slice_get s.tokens c.args.index) (sym c.self.view_is)
    ∙ get_in_range c.self.inside.tokens.now c.self.inside.span.start c.self.inside.span.end c.args.index _
    c.token.ensures (rw (← c.self.view_is) at c.requires)
