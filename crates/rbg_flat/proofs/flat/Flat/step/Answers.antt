use Rattle.std.proofs.Common.{ℕ, List, [], subst, sym}
use Rattle.rbg_auto.specs.Steps.{AreAllThatFollow}
use Rattle.rbg_rules.specs.Meaning.{Ends}
use Rattle.rbg_shifts.proofs.Common.{start_of}
use Rattle.rbg_flat.proofs.Common.{stepping, IsToTryIn}
use Rattle.rbg_flat.proofs.Leaping.{same_size, still_on}
use Rattle.rbg_flat.proofs.Stills.{follow_within, learns_or, meets_here}
use Rattle.rbg_flat.proofs.flat.Flat.step.Goals as goal

pub meet_bits-requires-clause-positions : goal.meet_bits-requires-clause-positions
meet_bits-requires-clause-positions c =
    let follow = subst (λ (ps : List ℕ). AreAllThatFollow c.args.setting.now.game.now.rules (start_of c.args.origin) ps) (sym c.deref.ensures.value) c.followers-followers.ensures.follow in
    follow_within c.args.setting.now.game.now (start_of c.args.origin) c.deref.result.now follow c.requires.ready.set.lawful.numbered

pub returns : goal.returns
returns c =
    let game = c.args.setting.now.game.now in
    let f = start_of c.args.origin in
    let opens = IsToTryIn c.args.setting.now in
    let old = c.args.self.now.sets in
    let new = c.meet_bits.new.sets in
    let told = c.followers-followers.ensures in
    let follow = subst (λ (ps : List ℕ). AreAllThatFollow game.rules (start_of c.args.origin) ps) (sym c.deref.ensures.value) told.follow in
    let met = meets_here game f c.deref.result.now follow c.args.vertex c.unit_word-word.result c.unit_word-word.ensures.only c.unit_word-word.ensures.set opens old new c.meet_bits.ensures in
    record {
      sized = same_size game old new met.size met.columns c.requires.ready.sized;
      met = met;
      ends = learns_or c.args.self.now.ends c.followers-followers.result.now.ends (Ends game.rules f []) told.ends;
      on = still_on stepping game c.requires.ready.set.lawful f c.args.vertex opens old new c.requires.vertex met;
    }
