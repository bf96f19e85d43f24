use Rattle.std.proofs.lemmas.List.Elements.{Contains-get_or}
use Rattle.rbg_rules.specs.Meaning.{inside, beginning}
use Rattle.rbg_flat.proofs.Endings.{dead_end, filled_targets}
use Rattle.rbg_flat.proofs.Leaping.{targets_for}
use Rattle.rbg_flat.proofs.paths.Paths.dead_end.Goals as goal

pub are_dead-requires-clause-targets : goal.are_dead-requires-clause-targets
are_dead-requires-clause-targets c = λ k d under.
    let game = c.args.game.now in
    let f = beginning (inside c.args.pattern) in
    let targets = c.leads-ends.result.0.now in
    let are = c.leads-ends.ensures.from game (c.in-Some.ensures.some.1 game c.requires.paths) c.requires.vertex c.requires.stands in
    record {
      target = targets_for game c.requires.lawful.numbered f c.args.vertex targets are k d under;
      some = filled_targets game f c.args.vertex targets are _ (Contains-get_or targets k d under);
    }

pub returns-then-are_dead : goal.returns-then-are_dead
returns-then-are_dead c =
    let game = c.args.game.now in
    let f = beginning (inside c.args.pattern) in
    let targets = c.leads-ends.result.0.now in
    let are = c.leads-ends.ensures.from game (c.in-Some.ensures.some.1 game c.requires.paths) c.requires.vertex c.requires.stands in
    let dead = c.are_dead.ensures c.if-are_dead.true in
    dead_end game c.requires.lawful c.args.state.now.state c.requires.fits f c.args.vertex c.requires.vertex targets are dead.0 dead.1 c.leads-ends.result.1
    (c.leads-ends.ensures.ends game (c.in-Some.ensures.some.1 game c.requires.paths) c.requires.vertex c.requires.stands)
