use Rattle.rbg_shifts.proofs.rounds.fill.Goals as goal

pub returns-then-not-branch : goal.returns-then-not-branch
returns-then-not-branch c = record { sound = c.in_ok-round.ensures.sound; closed = c.in_ok-round.ensures.closed c.if-not-branch.true }
