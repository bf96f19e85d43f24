-- Lemmas on the match of a script.
use Rattle.rbg_base.proofs.Common.{◌≡◌, ◌∙◌, ℕ, List, [], length, replicate, ap, sym, length-replicate}
use Rattle.rbg_match.proofs.Common.{MatchState, seats_of}
use Rattle.rbg_match.proofs.Delivering.{delivered-queued, length-delivered}
use Rattle.rbg_script.specs.Scripts.{AbstractScript}
use Rattle.rbg_referee.specs.Matches.{IsScriptPlayed}

-- bytes are queued for each seat
pub played_seats : (text : List ℕ) (script : AbstractScript) (state : MatchState) (outbox : List (List ℕ)) → IsScriptPlayed text script state outbox → length outbox ≡ seats_of state.game
played_seats text script state outbox played =
    let seats = seats_of played.refereed.game in
    ap length played.refereed.bytes
    ∙ ap length (sym (delivered-queued seats played.refereed.outgoing))
    ∙ length-delivered (replicate seats []) played.refereed.outgoing
    ∙ length-replicate seats []
    ∙ ap seats_of played.of_game
