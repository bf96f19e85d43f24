use Rattle.rbg_base.proofs.Common.{◌≡◌, ℕ, suc, ◌+◌, ◌<◌, List, ◌∷◌, length, get_or, drop, sym, ap, ◌∙◌, subst, arith, drop_all}
use Rattle.std.proofs.Math.Seq.{drop-cons}
use Rattle.rbg_rules.specs.Meaning.{IsGame, AbstractGame, AbstractState, IsStateOf, Applies, AbstractPlace, point_of, Legal}
use Rattle.rbg_search.specs.Flat.{IsNext}
use Rattle.rbg_state.specs.History.{History}
use Rattle.rbg_state.proofs.Histories.{after_nothing, after_both}
use Rattle.rbg_search.proofs.Asking.{after_room}
use Rattle.rbg_moves.specs.internal.Stepping.{at_vertex, place_beyond, IsValidAt, IsMadeFrom, goes_on}
use Rattle.rbg_moves.proofs.Steps.{made_next, made_on, made_end, valid_next, next_there, place_after}
use Rattle.rbg_moves.proofs.Results.{on_err}
use Rattle.rbg_moves.proofs.making.make_each.Goals as goal

pub loop-pair-init : goal.loop-pair-init
loop-pair-init c = record {
  in_game = c.requires.place;
  goes_on = λ to legal. goes_on legal;
  after = after_nothing c.args.state.now;
}

-- The pair that is made next, as it is read.
module _ (game : AbstractGame) (lawful : IsGame game) (place to : AbstractPlace) (all : List (ℕ × ℕ)) (k v p : ℕ) (item : ℕ × ℕ) (under : k < length all) (read : item ≡ get_or all k item) (seen : (v, p) ≡ item) (made : IsMadeFrom game place (drop k all) to) where
  cons : drop k all ≡ (v, p) ∷ drop (suc k) all
  cons = drop-cons all k item under ∙ ap (λ (q : ℕ × ℕ). q ∷ drop (suc k) all) (sym read ∙ sym seen)

  goes_there : IsMadeFrom game place ((v, p) ∷ drop (suc k) all) to
  goes_there = subst (λ (ps : List (ℕ × ℕ)). IsMadeFrom game place ps to) cons made

  next : IsNext game place.state (point_of place.last) v p
  next = made_next game lawful.numbered place v p (drop (suc k) all) to goes_there

  valid : IsStateOf game place.state → (s : AbstractState) → s ≡ place.state → IsValidAt game s v p
  valid fits s same =
      subst (λ (u : AbstractState). IsValidAt game u v p) (sym same)
      (valid_next game lawful.numbered place.state (point_of place.last) v p (next_there game lawful place.state (point_of place.last) v p fits next) next)

  made_further : (later : AbstractState) → Applies game p (at_vertex place.state v) later → IsMadeFrom game (place_beyond later p) (drop (k + 1) all) to
  made_further later applied =
      let further : suc k ≡ k + 1 = omega arith in
      subst (λ (n : ℕ). IsMadeFrom game (place_beyond later p) (drop n all) to) further
      (made_on game lawful.numbered place v p (drop (suc k) all) to later applied goes_there)

pub apply_at-requires-clause-valid : goal.apply_at-requires-clause-valid
apply_at-requires-clause-valid c =
    let place : AbstractPlace = record { state = c.loop-pair.state.state; last = c.loop-pair.after } in
    valid c.args.game.now c.is_accepted.ensures place c.requires.legal.0 c.args.pairs.now c.loop-pair.pair-index c.pair.inside.vertex c.pair.inside.position c.pair-item.result c.loop-pair-test.true c.pair-item.is c.pair.view_is
    (c.loop-pair.invariant.goes_on c.requires.legal.0 c.requires.legal.1) c.loop-pair.invariant.in_game.state c.reserve.new.self.state (ap (λ (x : History). x.state) c.reserve.ensures.kept)

pub loop-pair-preserved : goal.loop-pair-preserved
loop-pair-preserved c =
    let game = c.args.game.now in
    let lawful = c.is_accepted.ensures in
    let place : AbstractPlace = record { state = c.loop-pair.state.state; last = c.loop-pair.after } in
    let v = c.pair.inside.vertex in
    let p = c.pair.inside.position in
    let now = next game lawful place c.requires.legal.0 c.args.pairs.now c.loop-pair.pair-index v p c.pair-item.result c.loop-pair-test.true c.pair-item.is c.pair.view_is (c.loop-pair.invariant.goes_on c.requires.legal.0 c.requires.legal.1) in
    let later = c.apply_at.new.state.state in
    let applied : Applies game p (at_vertex place.state v) later = subst (λ (u : AbstractState). Applies game p (at_vertex u v) later) (ap (λ (x : History). x.state) c.reserve.ensures.kept) c.apply_at.ensures.applied in
    record {
      in_game = place_after game lawful.numbered later p now.modifies c.apply_at.ensures.fits;
      goes_on = λ end legal. made_further game lawful place end c.args.pairs.now c.loop-pair.pair-index v p c.pair-item.result c.loop-pair-test.true c.pair-item.is c.pair.view_is (c.loop-pair.invariant.goes_on end legal) later applied;
      after = after_both c.args.state.now c.reserve.new.self c.apply_at.new.state (after_room c.args.state.now c.loop-pair.state c.reserve.new.self c.loop-pair.invariant.after c.reserve.ensures.kept) c.apply_at.ensures.after;
    }

pub returns-clause-to : goal.returns-clause-to
returns-clause-to c =
    let game = c.args.game.now in
    let lawful = c.is_accepted.ensures in
    let all = c.args.pairs.now in
    let k = c.loop-pair.pair-index in
    let s = c.loop-pair.state.state in
    let from : AbstractPlace = record { state = c.args.state.now.state; last = c.args.after } in
    let place : AbstractPlace = record { state = s; last = c.loop-pair.after } in
    let to = c.requires.legal.0 in
    let made = subst (λ (ps : List (ℕ × ℕ)). IsMadeFrom game place ps to) (drop_all k all c.loop-pair-test.false) (c.loop-pair.invariant.goes_on to c.requires.legal.1) in
    subst (λ (x : AbstractPlace). Legal game from all x) (made_end game lawful.numbered place to made) c.requires.legal.1

pub returns-in_err-reserve-clause-after : goal.returns-in_err-reserve-clause-after
returns-in_err-reserve-clause-after c = on_err _ _ (after_room c.args.state.now c.loop-pair.state c.reserve.new.self c.loop-pair.invariant.after c.reserve.ensures.kept)
