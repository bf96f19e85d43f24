-- The moves that go on from where one stands.
use Rattle.rbg_base.proofs.Common.{◌≡◌, ℕ, ◌+◌, ◌-◌, ◌<◌, List, ◌∷◌, [], ◌++◌, length, refl, sym, ap, ◌∙◌, subst, arith, false, true, length_push, length-append, err_from_is_err_and}
use Rattle.rbg_base.specs.Move.{most_pairs}
use Rattle.rbg_rules.specs.Meaning.{AbstractGame, IsStateOf, IsStart, IsPlaceOf, AbstractPlace, point_of}
use Rattle.rbg_state.specs.History.{History, IsAfter}
use Rattle.rbg_state.proofs.Histories.{after_nothing, after_both}
use Rattle.rbg_search.specs.Start.{start_of, IsPositionOf}
use Rattle.rbg_search.specs.Searching.{Searching}
use Rattle.rbg_search.proofs.Asking.{after_room, room_twice}
use Rattle.rbg_search.proofs.Kept.{kept_since, kept_twice, onward_rules}
use Rattle.rbg_search.proofs.Orders.{flat_permuted}
use Rattle.rbg_search.proofs.Turns.{turn_fewer}
use Rattle.rbg_moves.specs.internal.Gathering.{IsWalked, LeavesOthers}
use Rattle.rbg_moves.specs.internal.Stepping.{place_beyond}
use Rattle.rbg_search.proofs.CallerLemmas.{place_start}
use Rattle.rbg_moves.proofs.Steps.{modifier_position}
use Rattle.rbg_moves.proofs.Lines.{walked_on, given_up_on, switch_added}
use Rattle.rbg_moves.proofs.Further.{answered_as, has_come, switches_as, none_come, walk_begun, walk_ended, walk_whole, walked_any, walk_turn, others_plain, turn_whole, turn_fits, turn_valid, turn_on, turn_ended, turn_given_up, too_many, made, made_given_up}
use Rattle.rbg_moves.proofs.walking.+walk.Goals as goal

pub walk-reach_flat-requires-clause-stands : goal.walk-reach_flat-requires-clause-stands
walk-reach_flat-requires-clause-stands g t c =
    let game = c.args.search.now.game in
    let place : AbstractPlace = record { state = c.args.state.now.state; last = c.args.after } in
    let stands = subst (IsStart game.rules) (sym c.origin_after-origin.ensures) (place_start game.rules c.game-game.ensures.lawful.numbered c.args.after c.requires.place.last) in
    subst (λ (x : Searching). IsStart x.game.rules (start_of c.origin_after-origin.result)) (sym c.take_list-pairs.ensures) stands

pub walk-returns-in_err-reach_flat-clause-given_up : goal.walk-returns-in_err-reach_flat-clause-given_up
walk-returns-in_err-reach_flat-clause-given_up g t c =
    let p = err_from_is_err_and c.from_residual.result c.from_residual.ensures.1 in
    rw (p.1, p.2) (none_come c.args.found.now.max (most_pairs - length c.args.front.now.items) c.game-game.ensures.lawful.numbered (answered_as c.take_list-pairs.ensures c.origin_after-origin.ensures c.in_err-reach_flat.ensures.answered))

pub walk-returns-then-branch-clause-walked : goal.walk-returns-then-branch-clause-walked
walk-returns-then-branch-clause-walked g t c =
    let place : AbstractPlace = record { state = c.args.state.now.state; last = c.args.after } in
    let come = has_come c.take_list-pairs.ensures c.origin_after-origin.ensures c.reach_flat.ensures.answered c.in_ok-reach_flat.was c.in_ok-reach_flat.ensures.found in
    subst (λ (x : Searching). IsWalked c.args.search.now x place c.args.front.now.items c.args.found.now.max c.args.found.now.moves c.add_switches.new.self.moves c.add_switches.new.front.items true) (sym c.keep_list.ensures)
    (walk_ended c.args.after c.game-game.ensures.lawful.numbered come c.requires.short (switches_as c.game-game.ensures.game refl c.if-branch.true c.in_ok-add_switches.ensures.lists))

pub walk-loop-pair-init : goal.walk-loop-pair-init
walk-loop-pair-init g t c =
    let old = c.args.search.now in
    let pairs : List (ℕ × ℕ) = c.reach_flat.new.pairs in
    let ends = c.in_ok-reach_flat.field-0 in
    let come = has_come c.take_list-pairs.ensures c.origin_after-origin.ensures c.reach_flat.ensures.answered c.in_ok-reach_flat.was c.in_ok-reach_flat.ensures.found in
    let others : LeavesOthers old.game.rules pairs c.add_switches.new.pairs = subst (λ (x : AbstractGame). LeavesOthers x.rules pairs c.add_switches.new.pairs) c.game-game.ensures.game (c.in_ok-add_switches.ensures.others c.if-branch.false) in
    record {
      done = others.switches;
      first = c.add_switches.new.front.items;
      whole = record { ends = ends; part = flat_permuted old.game c.args.state.now.state (point_of c.args.after) pairs (others.switches ++ c.add_switches.new.pairs) ends others.moves come.found.reached };
      plain = others.plain;
      search = kept_since old c.take_list-pairs.new.self c.reach_flat.new.self c.take_list-pairs.ensures c.reach_flat.ensures.answered.kept;
      state = come.asked.given_back;
      room = come.asked.room;
      enough = come.found.enough;
      front = c.in_ok-add_switches.ensures.front c.if-branch.false;
      max = c.add_switches.ensures.max;
      so_far = walk_begun c.args.after c.game-game.ensures.lawful.numbered come others (switches_as c.game-game.ensures.game refl c.if-branch.false c.in_ok-add_switches.ensures.lists);
    }

pub walk-walk_after-requires : goal.walk-walk_after-requires
walk-walk_after-requires g t c κs within =
    let now = c.loop-pair in
    let inv = c.loop-pair.invariant in
    let turn = walk_turn c.game-game.ensures.lawful inv.search (ap (λ (h : History). h.state) inv.state) inv.front inv.max inv.whole inv.plain inv.so_far c.in-Some.ensures.permutation in
    let size : length now.front.items ≡ length c.args.front.now.items = ap (λ (ys : List (ℕ × ℕ)). length ys) inv.front in
    let few = inv.so_far.gathers.few in
    (omega (arith, size, c.requires.short, c.decreases), (within, (turn_fits turn c.requires.place.state, (turn_valid turn c.requires.place.state, (inv.enough, (omega (arith, size, c.requires.short), omega (arith, few, inv.max)))))))

pub walk-returns-in_err-ended-clause-given_up : goal.walk-returns-in_err-ended-clause-given_up
walk-returns-in_err-ended-clause-given_up g t c =
    let inv = c.loop-pair.invariant in
    let turn = walk_turn c.game-game.ensures.lawful inv.search (ap (λ (h : History). h.state) inv.state) inv.front inv.max inv.whole inv.plain inv.so_far c.in-Some.ensures.permutation in
    let p = err_from_is_err_and c.from_residual-in_err-ended.result c.from_residual-in_err-ended.ensures.1 in
    rw (p.1, p.2) (turn_given_up turn _ _ c.requires.short c.in_err-ended.ensures.given_up)

pub walk-returns-then-ended-clause-walked : goal.walk-returns-then-ended-clause-walked
walk-returns-then-ended-clause-walked g t c =
    let inv = c.loop-pair.invariant in
    let place : AbstractPlace = record { state = c.args.state.now.state; last = c.args.after } in
    let turn = walk_turn c.game-game.ensures.lawful inv.search (ap (λ (h : History). h.state) inv.state) inv.front inv.max inv.whole inv.plain inv.so_far c.in-Some.ensures.permutation in
    subst (λ (x : Searching). IsWalked c.args.search.now x place c.args.front.now.items c.args.found.now.max c.args.found.now.moves c.walk_after.new.found.moves c.walk_after.new.front.items true) (sym c.keep_list-then-ended.ensures)
    (turn_ended turn c.requires.short c.if-ended.true c.in_ok-ended.ensures.walked)

pub walk-loop-pair-smaller : goal.walk-loop-pair-smaller
walk-loop-pair-smaller g t c =
    turn_fewer c.loop-pair.pairs c.take_least.new.self c.in-Some.pair c.in-Some.ensures.permutation

pub walk-loop-pair-preserved : goal.walk-loop-pair-preserved
walk-loop-pair-preserved g t c =
    let now = c.loop-pair in
    let inv = c.loop-pair.invariant in
    let then = c.walk_after.new in
    let q : ℕ × ℕ = c.in-Some.pair in
    let turn = walk_turn c.game-game.ensures.lawful inv.search (ap (λ (h : History). h.state) inv.state) inv.front inv.max inv.whole inv.plain inv.so_far c.in-Some.ensures.permutation in
    let more = c.in_ok-ended.ensures in
    record {
      done = inv.done ++ q ∷ [];
      first = then.front.items;
      whole = turn_whole turn;
      plain = others_plain c.args.search.now.game now.pairs c.take_least.new.self q inv.plain c.in-Some.ensures.permutation;
      search = kept_twice c.args.search.now now.search then.search inv.search c.walk_after.ensures.search;
      state = room_twice c.args.state.now now.state then.state inv.state (more.state c.if-ended.false);
      room = (let later = more.room c.if-ended.false in let kept = inv.room in omega (arith, kept, later));
      enough = (let later = more.room c.if-ended.false in let kept = inv.enough in omega (arith, kept, later));
      front = more.front c.if-ended.false ∙ inv.front;
      max = c.walk_after.ensures.max ∙ inv.max;
      so_far = turn_on turn c.if-ended.false more.walked;
    }

pub walk-returns-clause-walked : goal.walk-returns-clause-walked
walk-returns-clause-walked g t c =
    let now = c.loop-pair in
    let inv = c.loop-pair.invariant in
    let place : AbstractPlace = record { state = c.args.state.now.state; last = c.args.after } in
    subst (λ (x : Searching). IsWalked c.args.search.now x place c.args.front.now.items c.args.found.now.max c.args.found.now.moves now.found.moves now.front.items false) (sym c.keep_list-2.ensures)
    (walked_any now.front.items (walk_whole c.game-game.ensures.lawful.numbered c.requires.short inv.whole c.in_default.ensures.none inv.so_far))

after_kept : (h k : History) → k ≡ record h { room = k.room } → IsAfter h k
after_kept h k kept = after_room h h k (after_nothing h) kept

-- ---- after a modifier

pub walk_after-returns-then-len-eq-MAX_PAIRS-clause-given_up : goal.walk_after-returns-then-len-eq-MAX_PAIRS-clause-given_up
walk_after-returns-then-len-eq-MAX_PAIRS-clause-given_up g t c later applied =
    let front : List (ℕ × ℕ) = c.args.front.now.items in
    let size = length_push front c.args.pair in
    too_many c.args.search.now later c.args.pair.1 _ c.args.found.now.max c.game-game.ensures.lawful c.requires.valid.modifies (omega (arith, size, c.len.ensures, c.args.front.now.ok.0, c.if-len-eq-MAX_PAIRS.true)) (λ w. cc)

pub walk_after-walk_on-requires : goal.walk_after-walk_on-requires
walk_after-walk_on-requires g t c κs within =
    let pushed : length c.push.new.self.items ≡ length c.args.front.now.items + 1 = ap (λ (ys : List (ℕ × ℕ)). length ys) c.in_ok-push.ensures.items ∙ length_push c.args.front.now.items c.args.pair in
    let game = c.args.search.now.game in
    let position : IsPositionOf game.rules c.pair.inside.position =
    subst (λ (q : ℕ × ℕ). IsPositionOf game.rules q.1) (sym c.pair.view_is)
    (modifier_position game c.game-game.ensures.lawful.numbered c.args.pair.1 c.requires.valid.modifies) in
    let fits : IsStateOf game c.apply_at.new.state.state = subst (λ (x : AbstractGame). IsStateOf x c.apply_at.new.state.state) c.game-game.ensures.game c.apply_at.ensures.fits in
    let short : length c.push.new.self.items < most_pairs = omega (arith, c.requires.short, pushed, c.len.ensures, c.args.front.now.ok.0, c.if-len-eq-MAX_PAIRS.false) in
    (omega (arith, c.requires.short, pushed, c.decreases), (within, (record { state = fits; last = (position.from_one, position.there) }, (short, c.requires.few))))

pub walk_after-returns-in_err-walk_on-clause-given_up : goal.walk_after-returns-in_err-walk_on-clause-given_up
walk_after-returns-in_err-walk_on-clause-given_up g t c =
    let p = err_from_is_err_and c.from_residual-in_err-walk_on.result c.from_residual-in_err-walk_on.ensures.1 in
    rw (p.1, p.2)
    (made_given_up c.args.search.now c.args.found.now.max c.game-game.result.now c.game-game.ensures.lawful.numbered c.args.state.now.state c.apply_at.new.state.state c.args.pair c.pair.inside.position (c.args.front.now.items ++ c.args.pair ∷ []) c.push.new.self.items c.game-game.ensures.game (ap (λ (x : ℕ × ℕ). x.1) c.pair.view_is) c.in_ok-push.ensures.items c.apply_at.ensures.applied c.in_err-walk_on.ensures.given_up)

pub walk_after-returns-then-branch-clause-walked : goal.walk_after-returns-then-branch-clause-walked
walk_after-returns-then-branch-clause-walked g t c =
    let old = c.args.search.now in
    let had = c.args.found.now in
    let has = c.walk_on.new.found in
    let first : List (ℕ × ℕ) = c.walk_on.new.front.items in
    let walked = subst (IsWalked old c.walk_on.new.search (place_beyond c.apply_at.new.state.state c.pair.inside.position) c.push.new.self.items had.max had.moves has.moves first) c.if-branch.true c.in_ok-walk_on.ensures.walked in
    made (λ ps s n. IsWalked old c.walk_on.new.search (place_beyond s n) ps had.max had.moves has.moves first true) old.game c.game-game.result.now c.game-game.ensures.lawful.numbered c.args.state.now.state c.apply_at.new.state.state c.args.pair c.pair.inside.position (c.args.front.now.items ++ c.args.pair ∷ []) c.push.new.self.items c.game-game.ensures.game (ap (λ (x : ℕ × ℕ). x.1) c.pair.view_is) c.in_ok-push.ensures.items c.apply_at.ensures.applied walked

pub walk_after-returns-clause-walked : goal.walk_after-returns-clause-walked
walk_after-returns-clause-walked g t c =
    let old = c.args.search.now in
    let had = c.args.found.now in
    let has = c.walk_on.new.found in
    let walked = subst (IsWalked old c.walk_on.new.search (place_beyond c.apply_at.new.state.state c.pair.inside.position) c.push.new.self.items had.max had.moves has.moves c.walk_on.new.front.items) c.if-branch.false c.in_ok-walk_on.ensures.walked in
    made (λ ps s n. IsWalked old c.walk_on.new.search (place_beyond s n) ps had.max had.moves has.moves c.pop.new.self.items false) old.game c.game-game.result.now c.game-game.ensures.lawful.numbered c.args.state.now.state c.apply_at.new.state.state c.args.pair c.pair.inside.position (c.args.front.now.items ++ c.args.pair ∷ []) c.push.new.self.items c.game-game.ensures.game (ap (λ (x : ℕ × ℕ). x.1) c.pair.view_is) c.in_ok-push.ensures.items c.apply_at.ensures.applied
    (walked_any c.pop.new.self.items walked)

-- ---- all changes can be taken back

pub walk-returns-in_err-reach_flat-clause-after : goal.walk-returns-in_err-reach_flat-clause-after
walk-returns-in_err-reach_flat-clause-after g t c = after_kept c.args.state.now c.reach_flat.new.state c.reach_flat.ensures.answered.given_back

pub walk-returns-in_err-add_switches-clause-after : goal.walk-returns-in_err-add_switches-clause-after
walk-returns-in_err-add_switches-clause-after g t c = after_kept c.args.state.now c.reach_flat.new.state c.reach_flat.ensures.answered.given_back

pub walk-returns-then-branch-clause-after : goal.walk-returns-then-branch-clause-after
walk-returns-then-branch-clause-after g t c = after_kept c.args.state.now c.reach_flat.new.state c.reach_flat.ensures.answered.given_back

pub walk-returns-in_err-ended-clause-after : goal.walk-returns-in_err-ended-clause-after
walk-returns-in_err-ended-clause-after g t c =
    after_both c.args.state.now c.loop-pair.state c.walk_after.new.state (after_kept c.args.state.now c.loop-pair.state c.loop-pair.invariant.state) c.walk_after.ensures.after

pub walk-returns-then-ended-clause-after : goal.walk-returns-then-ended-clause-after
walk-returns-then-ended-clause-after g t c =
    after_both c.args.state.now c.loop-pair.state c.walk_after.new.state (after_kept c.args.state.now c.loop-pair.state c.loop-pair.invariant.state) c.walk_after.ensures.after

pub walk-returns-clause-after : goal.walk-returns-clause-after
walk-returns-clause-after g t c = after_kept c.args.state.now c.loop-pair.state c.loop-pair.invariant.state

pub walk_after-returns-then-len-eq-MAX_PAIRS-clause-after : goal.walk_after-returns-then-len-eq-MAX_PAIRS-clause-after
walk_after-returns-then-len-eq-MAX_PAIRS-clause-after g t c = after_nothing c.args.state.now

pub walk_after-returns-in_err-push-clause-after : goal.walk_after-returns-in_err-push-clause-after
walk_after-returns-in_err-push-clause-after g t c = c.apply_at.ensures.after

pub walk_after-returns-in_err-walk_on-clause-after : goal.walk_after-returns-in_err-walk_on-clause-after
walk_after-returns-in_err-walk_on-clause-after g t c = after_both c.args.state.now c.apply_at.new.state c.walk_on.new.state c.apply_at.ensures.after c.walk_on.ensures.after

pub walk_after-returns-then-branch-clause-after : goal.walk_after-returns-then-branch-clause-after
walk_after-returns-then-branch-clause-after g t c = after_both c.args.state.now c.apply_at.new.state c.walk_on.new.state c.apply_at.ensures.after c.walk_on.ensures.after

-- ---- along a line

pub walk_on-walk-requires : goal.walk_on-walk-requires
walk_on-walk-requires g t c κs within =
    let grown : length c.follow_line.new.front.items ≡ length c.args.front.now.items + length c.in_ok-end.ensures.follows.pairs =
    ap (λ (ys : List (ℕ × ℕ)). length ys) c.in_ok-end.ensures.follows.front_is ∙ length-append c.args.front.now.items c.in_ok-end.ensures.follows.pairs in
    let short = c.in_ok-end.ensures.short in (
      omega (arith, grown, short, c.decreases),
      (
        within,
        (
          onward_rules (λ x. IsPlaceOf x (place_beyond c.follow_line.new.state.state c.in_ok-end.end.last)) c.args.search.now c.follow_line.new.search c.follow_line.ensures.search c.in_ok-end.ensures.place,
          (short, c.requires.few),
        ),
      ),
    )

pub walk_on-returns-then-branch-clause-walked : goal.walk_on-returns-then-branch-clause-walked
walk_on-returns-then-branch-clause-walked g t c =
    let line = c.in_ok-end.ensures in
    switch_added c.requires.place line.short line.follows c.in-Some.is c.vertex-vertex.ensures line.place.state c.requires.few true c.if-branch.true c.in_ok-add.ensures.adds

pub walk_on-returns-in-Some-clause-walked : goal.walk_on-returns-in-Some-clause-walked
walk_on-returns-in-Some-clause-walked g t c =
    let line = c.in_ok-end.ensures in
    walked_any c.truncate.new.self.items (switch_added c.requires.place line.short line.follows c.in-Some.is c.vertex-vertex.ensures line.place.state c.requires.few false c.if-branch.false c.in_ok-add.ensures.adds)

pub walk_on-returns-in_err-walk-clause-given_up : goal.walk_on-returns-in_err-walk-clause-given_up
walk_on-returns-in_err-walk-clause-given_up g t c =
    let line = c.in_ok-end.ensures in
    let p = err_from_is_err_and c.from_residual-in_err-walk.result c.from_residual-in_err-walk.ensures.1 in
    rw (p.1, p.2) (given_up_on c.requires.place line.short c.args.found.now.max line.follows c.in_default.is c.in_err-walk.ensures.given_up)

pub walk_on-returns-then-branch-2-clause-walked : goal.walk_on-returns-then-branch-2-clause-walked
walk_on-returns-then-branch-2-clause-walked g t c =
    let line = c.in_ok-end.ensures in
    walked_on c.requires.place line.short line.follows c.in_default.is c.requires.few true c.if-branch-2.true c.in_ok-walk.ensures.walked

pub walk_on-returns-clause-walked : goal.walk_on-returns-clause-walked
walk_on-returns-clause-walked g t c =
    let line = c.in_ok-end.ensures in
    walked_any c.truncate-2.new.self.items (walked_on c.requires.place line.short line.follows c.in_default.is c.requires.few false c.if-branch-2.false c.in_ok-walk.ensures.walked)
