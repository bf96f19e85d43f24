-- The proof of `packing::compact_tree`.
use Rattle.std.proofs.Common.{length, ◌+◌}
use Rattle.rbg_rules.specs.Meaning.{positions_of, expression_of}
use Rattle.rbg_auto.proofs.CompactLemmas.{IsBlank, compact_steps, has_each, unknown}
use Rattle.rbg_auto.proofs.packing.compact_tree.Goals as goal

pub returns : goal.returns
returns c = λ actions numbered none count.
    let old = c.in_ok-builder.builder.table in
    let new = c.lay_level.new.self.table in
    let blank : IsBlank old (c.args.positions + 1) = record { nodes = c.in_ok-builder.ensures.nodes; insides = c.in_ok-builder.ensures.insides; entries = c.in_ok-builder.ensures.entries } in
    record {
      steps = compact_steps actions c.args.tree.now c.args.positions numbered none count old new c.in_ok-rules.rules blank c.in_ok-rules.ensures;
      told = unknown (expression_of actions c.args.tree.now) c.args.tree.now old new c.in_ok-rules.rules (c.args.positions + 1) blank c.in_ok-rules.ensures;
      has = has_each c.args.tree.now c.args.positions (length (positions_of (expression_of actions c.args.tree.now))) count old new c.in_ok-rules.rules blank c.in_ok-rules.ensures;
      lends = λ steps some. absurd (cc some);
    }
