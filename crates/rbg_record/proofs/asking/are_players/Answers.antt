use Rattle.std.proofs.Common.{◌≡◌, ◌+◌, ◌-◌, Some, slice_get, sym, ap, ◌∙◌}
use Rattle.std.proofs.lemmas.Bool.{true≢false}
use Rattle.rbg_wire.specs.Words.{words_left}
use Rattle.rbg_record.proofs.PlayerNames.{are_alike, are_unlike, one_more_name, other_name}
use Rattle.rbg_record.proofs.asking.are_players.Goals as goal

pub returns-then-ne : goal.returns-then-ne
returns-then-ne c =
    let found : slice_get c.args.game.now.players (c.loop-player.player + 1 - 1) ≡ Some c.as_bytes.result.now = c.player_name.ensures ∙ ap (λ name. Some name) (sym c.as_bytes.ensures.value) in
    let unlike = are_unlike c.in-Some.name.now c.as_bytes.result.now c.ne.result c.ne.ensures c.if-ne.true in
    ((λ fails. absurd (true≢false (sym fails))), (λ same. absurd (other_name (words_left c.args.names) c.args.game.now.players (words_left c.next.new.self) (words_left c.loop-player.left) c.in-Some.name.now c.as_bytes.result.now c.loop-player.player c.loop-player.invariant c.in-Some.ensures.steps found unlike same)))

pub loop-player-preserved : goal.loop-player-preserved
loop-player-preserved c =
    let alike = are_alike c.in-Some.name.now c.as_bytes.result.now c.ne.result c.ne.ensures c.if-ne.false in
    let found : slice_get c.args.game.now.players (c.loop-player.player + 1 - 1) ≡ Some c.in-Some.name.now = c.player_name.ensures ∙ ap (λ name. Some name) (sym (alike ∙ c.as_bytes.ensures.value)) in
    one_more_name (words_left c.args.names) c.args.game.now.players (words_left c.next.new.self) (words_left c.loop-player.left) c.in-Some.name.now c.loop-player.player c.loop-player.invariant c.in-Some.ensures.steps found
