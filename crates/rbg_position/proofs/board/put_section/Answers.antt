-- One token more is written.
use Rattle.std.proofs.Common.{inl, inr}
use Rattle.rbg_macro.specs.Token.{lexeme_of}
use Rattle.rbg_position.proofs.Sections.{Counts, counts_within, token_written}
use Rattle.rbg_position.proofs.board.put_section.Goals.{then-is_piece, else-is_piece}
use Rattle.rbg_position.proofs.board.put_section.Goals as goal

pub loop-index-preserved : goal.loop-index-preserved
loop-index-preserved c =
    let counts : Counts c.is_piece_name-is_piece.result c.loop-index.vertex c.if-is_piece.vertex = elim c.if-is_piece.branch [
      | then-is_piece w ↦ inl (w.if-is_piece.true, w.vertex-is)
      | else-is_piece w ↦ inr (w.if-is_piece.false, w.vertex-is)
    ] in
    let written = token_written c.args.game.now c.args.pieces.now c.args.section.now.tokens c.args.out.now.items c.loop-index.vertex c.if-is_piece.vertex c.loop-index.is_inside c.is_piece_name-is_piece.result c.loop-index.last c.loop-index.index (lexeme_of c.token-token.result) c.loop-index.out.items c.put_space.new.out.items c.put_word.new.out.items c.token-token.ensures.token c.is_piece_name-is_piece.ensures c.in_ok-put_space.ensures (rw c.word_of-word.ensures at c.in_ok-put_word.ensures) counts c.loop-index.invariant.0 in
    (rw c.is_inside_after-is_inside.ensures written, counts_within _ _ _ c.loop-index.index counts c.loop-index.invariant.1)
