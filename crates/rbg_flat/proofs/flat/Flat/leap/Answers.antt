use Rattle.std.proofs.Common.{ℕ}
use Rattle.rbg_shifts.proofs.Common.{IsLeap, EndsAcross, start_of}
use Rattle.rbg_flat.proofs.Common.{leaping, IsAmong, IsToTryIn}
use Rattle.rbg_flat.proofs.Leaping.{targets_for, among_leap, leap_among, same_size, still_on}
use Rattle.rbg_flat.proofs.Meetings.{meets_same}
use Rattle.rbg_flat.proofs.Stills.{learns_or}
use Rattle.rbg_flat.proofs.flat.Flat.leap.Goals as goal

pub meet_targets-requires-clause-targets : goal.meet_targets-requires-clause-targets
meet_targets-requires-clause-targets c =
    let game = c.args.setting.now.game.now in
    targets_for game c.requires.ready.set.lawful.numbered (start_of c.args.origin) c.args.vertex c.leads-ends.result.0.now (c.leads-ends.ensures.from game c.requires.leaps c.requires.vertex c.requires.stands)

pub returns : goal.returns
returns c =
    let game = c.args.setting.now.game.now in
    let f = start_of c.args.origin in
    let opens = IsToTryIn c.args.setting.now in
    let old = c.args.self.now.sets in
    let new = c.meet_targets.new.sets in
    let are = c.leads-ends.ensures.from game c.requires.leaps c.requires.vertex c.requires.stands in
    let met =
    meets_same old new (IsAmong c.leads-ends.result.0.now) (λ (v p : ℕ). IsLeap game f c.args.vertex p v) opens opens c.meet_targets.ensures
    (among_leap game c.requires.ready.set.lawful.numbered f c.args.vertex c.leads-ends.result.0.now are) (leap_among game c.requires.ready.set.lawful.numbered f c.args.vertex c.leads-ends.result.0.now are)
    (λ v p _ is. is) (λ v p _ is. is)
    in
    record {
      sized = same_size game old new met.size met.columns c.requires.ready.sized;
      met = met;
      ends = learns_or c.args.self.now.ends c.leads-ends.result.1 (EndsAcross game f c.args.vertex) (c.leads-ends.ensures.ends game c.requires.leaps c.requires.vertex c.requires.stands);
      on = still_on leaping game c.requires.ready.set.lawful f c.args.vertex opens old new c.requires.vertex met;
    }
