-- Each line that holds this is followed, or stops.
use Rattle.rbg_base.proofs.Common.{subst, sym, IfOk-weaker}
use Rattle.rbg_view.specs.Following.Follows.{ends}
use Rattle.rbg_view.specs.Lines.{IsLine, SaysMessage}
use Rattle.rbg_view.specs.internal.Standing.{standing_of}
use Rattle.rbg_view.proofs.Following.{err_weaker, head_followed, message_shown, message_stopped, move_shown, move_stopped}
use Rattle.rbg_view.proofs.shown_moves.Showing.show_open.Goals as goal

pub returns-in-Head-clause-follows : goal.returns-in-Head-clause-follows
returns-in-Head-clause-follows c =
    λ line is. head_followed line (standing_of c.args.self.now) c.in-Head.version c.of_version.result (subst (IsLine line) c.in-Head.is is) c.requires.goes_on c.of_version.ensures

pub returns-in-End-clause-follows : goal.returns-in-End-clause-follows
returns-in-End-clause-follows c =
    λ line is. let told = subst (IsLine line) c.in-End.is is in ends c.in-End.end told.0 c.requires.goes_on

pub returns-in-Said-clause-follows : goal.returns-in-Said-clause-follows
returns-in-Said-clause-follows c =
    IfOk-weaker c.show_message.result _ _ (λ _ shown line is. message_shown c.args.self.now c.show_message.new.self c.in-Said.seat c.in-Said.text.now c.show_message.ensures.kept c.requires.goes_on shown line (subst (IsLine line) c.in-Said.is is)) c.show_message.ensures.follows

pub returns-in-Said-clause-stops : goal.returns-in-Said-clause-stops
returns-in-Said-clause-stops c =
    err_weaker c.show_message.result _ _ (λ stop told other line is. message_stopped c.args.self.now c.show_message.new.self c.in-Said.seat c.in-Said.text.now c.show_message.ensures.kept c.requires.goes_on stop told other line (subst (IsLine line) c.in-Said.is is)) c.show_message.ensures.stops

pub returns-in-Sent-clause-follows : goal.returns-in-Sent-clause-follows
returns-in-Sent-clause-follows c =
    IfOk-weaker c.show_message-in-Sent.result _ _ (λ _ shown line is. message_shown c.args.self.now c.show_message-in-Sent.new.self c.in-Sent.seat c.as_slice.result.now c.show_message-in-Sent.ensures.kept c.requires.goes_on shown line (subst (SaysMessage line c.in-Sent.seat) (sym c.as_slice.ensures.value) (subst (IsLine line) c.in-Sent.is is))) c.show_message-in-Sent.ensures.follows

pub returns-in-Sent-clause-stops : goal.returns-in-Sent-clause-stops
returns-in-Sent-clause-stops c =
    err_weaker c.show_message-in-Sent.result _ _ (λ stop told other line is. message_stopped c.args.self.now c.show_message-in-Sent.new.self c.in-Sent.seat c.as_slice.result.now c.show_message-in-Sent.ensures.kept c.requires.goes_on stop told other line (subst (SaysMessage line c.in-Sent.seat) (sym c.as_slice.ensures.value) (subst (IsLine line) c.in-Sent.is is))) c.show_message-in-Sent.ensures.stops

pub returns-in-Other-clause-follows : goal.returns-in-Other-clause-follows
returns-in-Other-clause-follows c =
    IfOk-weaker c.show_move.result _ _ (λ _ shown line is. move_shown c.args.self.now c.show_move.new.self c.in-Other.text.now c.show_move.ensures.kept c.requires.goes_on shown line (subst (IsLine line) c.in-Other.is is)) c.show_move.ensures.follows

pub returns-in-Other-clause-stops : goal.returns-in-Other-clause-stops
returns-in-Other-clause-stops c =
    err_weaker c.show_move.result _ _ (λ stop told other line is. move_stopped c.args.self.now c.show_move.new.self c.in-Other.text.now c.show_move.ensures.kept c.requires.goes_on stop told other line (subst (IsLine line) c.in-Other.is is)) c.show_move.ensures.stops
