-- One way to tell nothing after the other.
use Rattle.rbg_base.proofs.Common.{refl, false≢true}
use Rattle.rbg_view.specs.Lines.{by_comment, by_players, by_start}
use Rattle.rbg_view.proofs.Lines.{passed_true, passed_config, not_empty}
use Rattle.rbg_view.proofs.line.is_silent.Goals as goal

pub returns-then-is_comment : goal.returns-then-is_comment
returns-then-is_comment c = let told = c.if-is_comment.ensures.0 refl in passed_true _ (by_comment told.0 told.1)

pub returns-then-has_players : goal.returns-then-has_players
returns-then-has_players c = let told = c.if-has_players.ensures.0 refl in passed_true _ (by_players told.0 told.1)

pub returns-then-has_start : goal.returns-then-has_start
returns-then-has_start c = let told = c.if-has_start.ensures.0 refl in passed_true _ (by_start told.0 told.1)

pub returns : goal.returns
returns c =
    passed_config _
    (not_empty _ c.if-is_empty.ensures)
    (λ told. false≢true (c.if-is_comment.ensures.1 told))
    (λ told. false≢true (c.if-has_players.ensures.1 told))
    (λ told. false≢true (c.if-has_start.ensures.1 told))
    c.has_config.result c.has_config.ensures
