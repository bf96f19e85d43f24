use Rattle.std.proofs.Common.{ℕ, ◌+◌, ap, ◌∙◌, sym, arith, option_map}
use Rattle.rbg_wire.specs.Inboxes.{item_of}
use Rattle.rbg_hall.specs.Requests.{requested}
use Rattle.rbg_hall.proofs.Requesting.{requested_of, too_long_requests}
use Rattle.rbg_hall.proofs.request.table_of.Goals as goal

pub returns-in-Message : goal.returns-in-Message
returns-in-Message c =
    ap (option_map (λ (index : ℕ). index + 1)) c.index_of.ensures
    ∙ requested_of c.in-Message.text.now c.join_of.result c.args.tables (omega arith) c.join_of.ensures.found c.join_of.ensures.only
    ∙ ap (λ took. requested c.args.tables (item_of took)) (sym c.in-Message.is)

pub returns-in-TooLong : goal.returns-in-TooLong
returns-in-TooLong c = too_long_requests c.args.tables ∙ ap (λ took. requested c.args.tables (item_of took)) (sym c.in-TooLong.is)
