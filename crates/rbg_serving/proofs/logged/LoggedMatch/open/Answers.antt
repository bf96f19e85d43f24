-- The log begins with its first line.
use Rattle.std.proofs.Common.{◌<◌, ◌^◌, rules}
use Rattle.rbg_referee.proofs.CallerLemmas.{no_zero_in}
use Rattle.rbg_serving.proofs.Logging.{opened_so}
use Rattle.rbg_serving.proofs.logged.LoggedMatch.open.Goals as goal

pub new-requires : goal.new-requires
new-requires g c = no_zero_in c.args.opening.text.now c.args.game c.requires

pub returns-clause-begins : goal.returns-clause-begins
returns-clause-begins g c =
    let fits : c.args.opening.now < 2 ^ 64 = search rules in
    rw (c.with_log.ensures.log, c.with_log.ensures.played) (opened_so g.W.Log.told c.args.game c.args.opening.text.now c.args.opening.config c.args.opening.now c.in_ok-played.played c.in_ok-played.outbox c.args.log c.write_first.new.log c.requires fits c.in_ok-played.ensures.opens c.in_ok-write_first.ensures.ok)
