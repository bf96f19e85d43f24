-- The next token's bytes are added to the word.
use Rattle.std.proofs.Common.{◌∙◌, arith}
use Rattle.rbg_macro.proofs.Chains.{next_joined}
use Rattle.rbg_macro.proofs.joining.join_next.Goals as goal

pub returns-clause-ok : goal.returns-clause-ok
returns-clause-ok c =
    let size = c.len.ensures ∙ c.args.texts.now.ok.0 in
    next_joined c.args.texts.now.items _ c.args.start c.saturating_add-len.result c.args.kind c.in-Some.joined c.args.tokens.now _
    (omega (arith, size)) c.requires.tilde c.if-tokens-eq1.false c.in-Some.ensures (rw (size, c.text-bytes.ensures) at c.saturating_add-len.ensures)
    c.if-len-gt-MAX_JOINED.false (rw c.text-bytes.ensures at c.in_ok-extend_from_slice.ensures.items)
