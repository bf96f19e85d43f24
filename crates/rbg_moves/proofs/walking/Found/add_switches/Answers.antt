-- The moves of one switch.
use Rattle.rbg_base.proofs.Common.{◌≡◌, ℕ, ◌+◌, ◌<◌, List, ◌∷◌, [], ◌++◌, length, true, false, refl, sym, ap, subst, ◌∙◌, arith, length-append, All, IsPermutation, All-nil, All-push}
use Rattle.std.proofs.lemmas.List.Sorted.{IsPermutation-refl}
use Rattle.rbg_rules.specs.Meaning.{IsSwitchAt}
use Rattle.rbg_search.specs.Start.{IsPositionOf}
use Rattle.rbg_search.proofs.Turns.{turn_moves, turn_after, turn_fewer}
use Rattle.rbg_moves.specs.internal.Gathering.{AddsMove, ListsSwitches}
use Rattle.rbg_moves.proofs.Listing.{lists_none, lists_more, lists_cut, lists_all, lists_any, left_over}
use Rattle.rbg_moves.proofs.walking.Found.add_switches.Goals as goal

pub loop-pair-init : goal.loop-pair-init
loop-pair-init c = record {
  taken = [];
  moves = IsPermutation-refl c.args.pairs.now;
  switching = All-nil (λ (q : ℕ × ℕ). IsSwitchAt c.args.game.now.rules q.1);
  max = refl;
  few = c.requires.few;
  front = refl;
  lists = lists_none c.args.game.now c.args.pairs.now c.args.front.now.items c.args.self.now.max c.args.self.now.moves [] c.requires.few;
}

pub take_switch-requires-clause-within : goal.take_switch-requires-clause-within
take_switch-requires-clause-within c = λ k d under.
    let there = left_over (λ (q : ℕ × ℕ). IsPositionOf c.args.game.now.rules q.1) c.args.pairs.now c.loop-pair.invariant.taken c.loop-pair.pairs c.loop-pair.invariant.moves c.requires.within k d under in
    (there.from_one, there.there)

pub loop-pair-smaller : goal.loop-pair-smaller
loop-pair-smaller c = turn_fewer c.loop-pair.pairs c.take_switch.new.self c.in-Some.pair c.in-Some.ensures.permutation

pub add-requires-clause-short : goal.add-requires-clause-short
add-requires-clause-short c =
    let same : length c.loop-pair.front.items ≡ length c.args.front.now.items = ap (λ (ys : List (ℕ × ℕ)). length ys) c.loop-pair.invariant.front in
    omega (arith, same, c.requires.short)

pub returns-then-branch-clause-lists : goal.returns-then-branch-clause-lists
returns-then-branch-clause-lists c =
    let is = c.loop-pair.invariant in
    let now = c.loop-pair.self.moves in
    let front : List (ℕ × ℕ) = c.args.front.now.items in
    let added = subst (AddsMove c.loop-pair.self.max now c.add.new.self.moves c.loop-pair.front.items c.add.new.front.items c.in-Some.pair) c.if-branch.true c.in_ok-add.ensures.adds in
    let full : length now ≡ c.args.self.now.max = added.0 ∙ is.max in
    let moves = turn_moves c.args.pairs.now is.taken c.loop-pair.pairs c.take_switch.new.self c.in-Some.pair is.moves c.in-Some.ensures.permutation in
    let pushed : c.add.new.front.items ≡ front ++ c.in-Some.pair ∷ [] = added.1.1 ∙ ap (λ (ps : List (ℕ × ℕ)). ps ++ c.in-Some.pair ∷ []) is.front in
    subst (λ (xs : List (List (ℕ × ℕ))). ListsSwitches c.args.game.now c.args.pairs.now c.args.pairs.now front c.args.self.now.max c.args.self.now.moves xs c.add.new.front.items true) (sym added.1.0)
    (lists_cut c.args.game.now c.requires.lawful.numbered c.args.pairs.now front c.args.self.now.max c.args.self.now.moves now [] c.add.new.front.items is.taken c.take_switch.new.self c.in-Some.pair moves c.in-Some.ensures.switches full c.requires.short (λ _. pushed) is.lists)

pub loop-pair-preserved : goal.loop-pair-preserved
loop-pair-preserved c =
    let is = c.loop-pair.invariant in
    let q : ℕ × ℕ = c.in-Some.pair in
    let now = c.loop-pair.self.moves in
    let front : List (ℕ × ℕ) = c.args.front.now.items in
    let added = subst (AddsMove c.loop-pair.self.max now c.add.new.self.moves c.loop-pair.front.items c.add.new.front.items q) c.if-branch.false c.in_ok-add.ensures.adds in
    let room : length now < c.args.self.now.max = subst (λ (n : ℕ). length now < n) is.max added.0 in
    let moves = turn_moves c.args.pairs.now is.taken c.loop-pair.pairs c.take_switch.new.self q is.moves c.in-Some.ensures.permutation in
    let grown : c.add.new.self.moves ≡ now ++ (front ++ q ∷ []) ∷ [] = added.1.0 ∙ ap (λ (ps : List (ℕ × ℕ)). now ++ (ps ++ q ∷ []) ∷ []) is.front in
    let size : length c.add.new.self.moves ≡ length now + 1 = ap (λ (xs : List (List (ℕ × ℕ))). length xs) grown ∙ length-append now ((front ++ q ∷ []) ∷ []) in
    let same = c.add.ensures.max ∙ is.max in
    record {
      taken = is.taken ++ q ∷ [];
      moves = turn_after c.args.pairs.now is.taken c.loop-pair.pairs c.take_switch.new.self q is.moves c.in-Some.ensures.permutation;
      switching = All-push (λ (r : ℕ × ℕ). IsSwitchAt c.args.game.now.rules r.1) is.taken q is.switching c.in-Some.ensures.switches;
      max = same;
      few = omega (arith, size, room, same);
      front = added.1.1 ∙ is.front;
      lists = subst (λ (xs : List (List (ℕ × ℕ))). ListsSwitches c.args.game.now c.args.pairs.now (is.taken ++ q ∷ []) front c.args.self.now.max c.args.self.now.moves xs [] false) (sym grown)
          (lists_more c.args.game.now c.requires.lawful.numbered c.args.pairs.now front c.args.self.now.max c.args.self.now.moves now [] is.taken c.take_switch.new.self q moves c.in-Some.ensures.switches room is.lists);
    }

pub returns-clause-lists : goal.returns-clause-lists
returns-clause-lists c =
    let is = c.loop-pair.invariant in
    lists_any c.args.game.now c.args.pairs.now c.args.pairs.now c.args.front.now.items c.args.self.now.max c.args.self.now.moves c.loop-pair.self.moves [] c.loop-pair.front.items
    (lists_all c.args.game.now c.args.pairs.now c.args.front.now.items c.args.self.now.max c.args.self.now.moves c.loop-pair.self.moves [] is.taken c.loop-pair.pairs is.moves c.in_default.ensures.none is.lists)

pub returns-clause-others : goal.returns-clause-others
returns-clause-others c _ =
    let is = c.loop-pair.invariant in
    record {
      switches = is.taken;
      moves = subst (λ (ps : List (ℕ × ℕ)). IsPermutation c.args.pairs.now (is.taken ++ ps)) (sym c.in_default.ensures.kept) is.moves;
      switching = is.switching;
      plain = subst (All (λ (q : ℕ × ℕ). ¬ IsSwitchAt c.args.game.now.rules q.1)) (sym c.in_default.ensures.kept) c.in_default.ensures.none;
    }
