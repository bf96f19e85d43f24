-- A text, a config, a first moment and events have one outbox.
use Rattle.std.proofs.Common.{List, sym, ap, ◌∙◌, subst}
use Rattle.rbg_game.proofs.OneGame.{one_game_law}
use Rattle.rbg_rules.specs.Meaning.{AbstractGame}
use Rattle.rbg_match.proofs.Common.{Delivery, queued, seats_of, Transcript}
use Rattle.rbg_match.proofs.OneTranscriptLemmas.{one_transcript}
use Rattle.rbg_referee.specs.Laws.{OneOutbox}

pub outbox_of_one : OneOutbox
outbox_of_one text config now events outbox outbox' one other light light' same =
    let game = one_game_law text other.game one.game other.loads one.loads in
    let transcript : Transcript one.game text config now events other.play other.outgoing = subst (λ (g : AbstractGame). Transcript g text config now events other.play other.outgoing) game other.transcript in
    let alike = one_transcript one.game text config now events one.play other.play one.outgoing other.outgoing one.loads.game_of.lawful.numbered one.transcript transcript light light' same in
    one.bytes ∙ ap (λ (outgoing : List Delivery). queued (seats_of one.game) outgoing) alike.1 ∙ ap (λ (g : AbstractGame). queued (seats_of g) other.outgoing) (sym game) ∙ sym other.bytes
