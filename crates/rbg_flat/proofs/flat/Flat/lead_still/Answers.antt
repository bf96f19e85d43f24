use Rattle.rbg_base.proofs.Common.{◌≡◌, ℕ, ◌+◌, ◌*◌, ◌/◌, ◌%◌, ◌<◌, List, [], refl, subst, sym, arith, bit_at}
use Rattle.rbg_auto.specs.Steps.{AreAllThatFollow}
use Rattle.rbg_rules.specs.Meaning.{Ends, after}
use Rattle.rbg_flat.proofs.Common.{IsInWord, IsToTryIn, way_in}
use Rattle.rbg_flat.proofs.Leaping.{same_size}
use Rattle.rbg_flat.proofs.Stills.{ends_still, follow_within, learns_or, meets_still, still_on_board}
use Rattle.rbg_flat.proofs.Takings.{goes_on}
use Rattle.rbg_flat.proofs.flat.Flat.lead_still.Goals as goal

-- A bit of a word is a vertex of it.
bit_in : (q c word b : ℕ) → b < 64 → bit_at word b ≡ 1 → IsInWord q c word (c * 64 + b) q
bit_in q c word b small set =
    let column : (c * 64 + b) / 64 ≡ c = omega (arith, small) in
    let bit : b ≡ (c * 64 + b) % 64 = omega (arith, small) in
    record { position = refl; column = column; set = subst (λ (k : ℕ). bit_at word k ≡ 1) bit set }

pub followers-followers-requires-clause-stands : goal.followers-followers-requires-clause-stands
followers-followers-requires-clause-stands c = goes_on c.args.setting.now.game.now.rules c.args.position c.action-action.result.now c.action-action.ensures

pub meet_bits-requires-clause-positions : goal.meet_bits-requires-clause-positions
meet_bits-requires-clause-positions c =
    let follow = subst (λ (ps : List ℕ). AreAllThatFollow c.args.setting.now.game.now.rules (after c.args.position) ps) (sym c.deref.ensures.value) c.followers-followers.ensures.follow in
    follow_within c.args.setting.now.game.now (after c.args.position) c.deref.result.now follow c.requires.ready.set.lawful.numbered

pub returns : goal.returns
returns c =
    let game = c.args.setting.now.game.now in
    let way = way_in c.args.setting.now in
    let numbered = c.requires.ready.set.lawful.numbered in
    let q = c.args.position in
    let opens = IsToTryIn c.args.setting.now in
    let old = c.args.self.now in
    let new = c.meet_bits.new.sets in
    let there = bit_in q c.args.column c.args.word _ c.lowest-bit.ensures.small c.lowest-bit.ensures.set in
    let told = c.followers-followers.ensures in
    let follow = subst (λ (ps : List ℕ). AreAllThatFollow game.rules (after c.args.position) ps) (sym c.deref.ensures.value) told.follow in
    let met = meets_still way game numbered q c.requires.still c.args.column c.args.word c.deref.result.now follow opens old.sets new c.meet_bits.ensures in
    let ends = learns_or old.ends c.followers-followers.result.now.ends (Ends game.rules (after q) []) told.ends in
    record {
      sized = same_size game old.sets new met.size met.columns c.requires.ready.sized;
      met = met;
      ends = ends_still way game numbered q c.requires.still c.args.column c.args.word _ there old.ends _ ends;
      on = still_on_board way game c.requires.ready.set.lawful q c.args.column c.args.word opens c.requires.board old.sets new met;
    }
