-- A comment extends to the end of its line, or to a zero byte.
use Rattle.std.proofs.Common.{arith}
use Rattle.rbg_macro.proofs.Parts.{comment_first, zero_in_line}
use Rattle.rbg_macro.proofs.lexer.comment_part.Goals as goal
use Rattle.rbg_macro.proofs.lexer.comment_part.Goals.{else-len-line-via-then-len-line+else-line-len-eq0, else-len-line-via-else-len-line}

pub returns-then-line-len-eq0 : goal.returns-then-line-len-eq0
returns-then-line-len-eq0 c =
    zero_in_line c.args.line.now c.line_len-len.result c.line_len-len.ensures.len c.if-len-line.true c.if-line-len-eq0.true

pub returns : goal.returns
returns c =
    elim c.else-len-line.branch [
      | else-len-line-via-then-len-line+else-line-len-eq0 w ↦ comment_first c.args.line.now c.line_len-len.result c.line_len-len.ensures.len (λ _. w.if-line-len-eq0.false)
      | else-len-line-via-else-len-line w ↦ comment_first c.args.line.now c.line_len-len.result c.line_len-len.ensures.len (λ short. absurd (omega (arith, short, w.if-len-line.false)))
    ]
