use Rattle.rbg_base.proofs.Common.{◌<◌, ◌≤◌, ℕ, List, Option, take, get_or, length, subst, All, Contains, All-contains}
use Rattle.std.proofs.lemmas.List.{take_all}
use Rattle.rbg_rules.specs.Meaning.{Expression, positions_of, IsSwitchAt}
use Rattle.rbg_flat.proofs.Common.{IsBefore, pairs_in, first_of, first_at, IsFilled, Word}
use Rattle.rbg_flat.proofs.Spellings.{no_word, not_told}
use Rattle.rbg_flat.proofs.FirstSwitches.{IsLeastSoFar, first_among, known_still, known_more, at_end, told, if_told, told_some, told_none, told_either, either_below}
use Rattle.rbg_flat.proofs.found.switch_word.Goals as goal
use Rattle.rbg_flat.proofs.found.switch_word.Goals.{then-is_switch, else-is_switch}

abbrev IsWithin : Expression → ℕ × ℕ → Type 0
IsWithin rules q = (0 < q.1) × (q.1 ≤ length (positions_of rules))

-- The position of a word is one of the game's.
within_word : (rules : Expression) (words : List Word) (k : ℕ) → All IsFilled words → k < length words → All (IsWithin rules) (pairs_in words) → IsWithin rules (first_of (get_or words k no_word))
within_word rules words k filled under within = All-contains (IsWithin rules) (pairs_in words) (first_of (get_or words k no_word)) within (first_among words k no_word filled under)

pub is_switch-requires-clause-from_one : goal.is_switch-requires-clause-from_one
is_switch-requires-clause-from_one c = (within_word c.args.game.now.rules c.args.words.now c.loop-index.index c.requires.filled c.loop-index-test.true c.requires.within).0

pub is_switch-requires-clause-there : goal.is_switch-requires-clause-there
is_switch-requires-clause-there c = (within_word c.args.game.now.rules c.args.words.now c.loop-index.index c.requires.filled c.loop-index-test.true c.requires.within).1

pub loop-index-preserved : goal.loop-index-preserved
loop-index-preserved c =
    let rules = c.args.game.now.rules in
    let words : List Word = c.args.words.now in
    let k = c.loop-index.index in
    let under = c.loop-index-test.true in
    let is = c.loop-index.invariant in
    let known : Option ℕ = c.loop-index.least in
    elim c.if-is_switch.branch [
      | then-is_switch w ↦ rw w.least-is
          (record {
            below = either_below (length words) known k w.sooner.result under is.below w.sooner.ensures.either;
            known = known_more rules (pairs_in words) words k no_word under (told words known) (first_at words w.sooner.result) (first_among words k no_word c.requires.filled under) (c.is_switch.ensures.0 w.if-is_switch.true)
                (told_either words known k w.sooner.result w.sooner.ensures.either) w.sooner.ensures.new
                (if_told (λ q. ¬ IsBefore q (first_at words w.sooner.result)) words known w.sooner.ensures.known) is.known;
          })
      | else-is_switch w ↦ rw w.least-is
          (record {
            below = is.below;
            known = known_still rules (pairs_in words) words k no_word under (told words known) (not_told c.is_switch.result _ c.is_switch.ensures w.if-is_switch.false) is.known;
          })
    ]

-- All words were looked at.
whole : (rules : Expression) (words : List Word) (k : ℕ) (known : Option (ℕ × ℕ)) → length words ≤ k → IsLeastSoFar rules (pairs_in words) (take k words) known → IsLeastSoFar rules (pairs_in words) words known
whole rules words k known over is = subst (λ (ws : List Word). IsLeastSoFar rules (pairs_in words) ws known) (take_all k words over) is

pub returns : goal.returns
returns c =
    let rules = c.args.game.now.rules in
    let words : List Word = c.args.words.now in
    let known = c.loop-index.least in
    let is = c.loop-index.invariant in
    let all = at_end rules words c.requires.filled (told words known) (whole rules words c.loop-index.index (told words known) c.loop-index-test.false is.known) in
    record {
      below = is.below;
      switches = told_some (λ q. IsSwitchAt rules q.1) words known all.1;
      least = told_some (λ q. (x : ℕ × ℕ) → Contains (pairs_in words) x → IsSwitchAt rules x.1 → ¬ IsBefore x q) words known all.2;
      none = told_none (All (λ (q : ℕ × ℕ). ¬ IsSwitchAt rules q.1) (pairs_in words)) words known all.3;
    }
