-- The tokens that are compared are those of the texts.
use Rattle.rbg_lsp.proofs.Layouts.{has_same}
use Rattle.rbg_lsp.proofs.layout.has_same_tokens.Goals as goal

pub returns : goal.returns
returns c = λ h.
    has_same _ _ _ _ _ _ c.in-Ok.ensures.tokens c.in-Ok-tokens.ensures.tokens c.as_slice.ensures.tokens
    c.as_slice-2.ensures.tokens (c.are_same.ensures h)
