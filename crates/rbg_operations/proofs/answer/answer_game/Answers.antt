-- A text that loads can be sent. The match that was opened is one of the game.
use Rattle.std.proofs.lemmas.Result.{IfOk-weaker}
use Rattle.rbg_referee.proofs.CallerLemmas.{no_zero_in}
use Rattle.rbg_operations.specs.Openings.{IsOpenedText, IsOpeningText}
use Rattle.rbg_operations.proofs.answer.answer_game.Goals as goal

pub new-requires : goal.new-requires
new-requires c = no_zero_in c.args.text.now c.args.game c.requires

pub returns-in-Ok-clause-lines : goal.returns-in-Ok-clause-lines
returns-in-Ok-clause-lines c =
    let text = c.args.text.now in
    IfOk-weaker c.answer_opened.result (λ answer. IsOpenedText c.in-Ok.opened answer.text.items) (λ answer. IsOpeningText text answer.text.items)
    (λ answer is. record {
      game = c.args.game;
      loads = c.requires;
      config = _;
      state = c.in-Ok.opened;
      outbox = _;
      opens = c.in-Ok.ensures.opens;
      history = c.in-Ok.ensures.history;
      lines = is;
    }) c.answer_opened.ensures.lines
