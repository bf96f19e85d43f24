-- The keeper's moves lead from the first place to the present one.
use Rattle.rbg_base.proofs.Common.{length, List, ℕ, ◌≡◌, ◌≤◌, inl, ap, ◌∙◌, sym, subst, arith, add-one, IfOk-weaker}
use Rattle.rbg_base.specs.Move.{IsMoveLength}
use Rattle.rbg_rules.specs.Meaning.{AbstractGame, AbstractPlace, IsLegal, Legal, IsPlaceOf}
use Rattle.rbg_moves.specs.Limits.{most_keeper_moves}
use Rattle.rbg_moves.specs.Settling.{KeeperMoves, Settles, SomeKeeperMoves}
use Rattle.rbg_moves.specs.Settling.KeeperMoves.{none, more}
use Rattle.rbg_moves.proofs.Results.{err_of}
use Rattle.rbg_moves.proofs.played.PlayedGame.settle.Goals as goal

pub loop-init : goal.loop-init
loop-init c = (c.requires.place, none)

pub make_move-requires-clause-place : goal.make_move-requires-clause-place
make_move-requires-clause-place c = subst (IsPlaceOf c.args.self.now) (sym c.find_front.ensures.kept) c.loop.invariant.0

pub make_move-requires-clause-legal : goal.make_move-requires-clause-legal
make_move-requires-clause-legal c =
    subst (λ (p : AbstractPlace). IsLegal c.args.self.now p c.as_slice.result.now) (sym c.find_front.ensures.kept)
    (subst (λ (ps : List (ℕ × ℕ)). IsLegal c.args.self.now c.loop.place ps) (sym c.as_slice.ensures.value) (c.in_ok-find_front.ensures.finds.found c.if-not-branch.false))

pub loop-preserved : goal.loop-preserved
loop-preserved c =
    let front : List (ℕ × ℕ) = c.find_front.new.workspace.front.items in
    let found : Legal c.args.self.now c.loop.place front c.make_move.new.place =
    subst (λ (p : AbstractPlace). Legal c.args.self.now p front c.make_move.new.place) c.find_front.ensures.kept
    (subst (λ (ps : List (ℕ × ℕ)). Legal c.args.self.now c.find_front.new.place ps c.make_move.new.place) c.as_slice.ensures.value c.in_ok-make_move.ensures.to) in
    let keeper : c.loop.place.state.player ≡ 0 =
    sym (ap (λ p. p.state.player) c.place.view_is) ∙ sym c.player.ensures ∙ c.if-player-ne0.false in
    let long : IsMoveLength (length front) = c.in_ok-find_front.ensures.finds.sized c.if-not-branch.false in
    (c.in_ok-make_move.ensures.in_game, rw add-one (more c.loop.invariant.1 keeper found long))

pub returns-clause-settles : goal.returns-clause-settles
returns-clause-settles c =
    let few : c.loop.counter ≤ most_keeper_moves = omega arith in
    IfOk-weaker c.rest.result _ (λ _. Settles c.args.self.now c.args.place.now c.loop.place)
    (λ _ rests. record { many = c.loop.counter; few = few; moves = c.loop.invariant.1; rests = inl rests })
    c.rest.ensures.player

-- After an error, too, moves of the keeper have led to the place that is left.
led : (game : AbstractGame) (from here to : AbstractPlace) (many : ℕ) → many ≤ most_keeper_moves → KeeperMoves game from many here → to ≡ here → SomeKeeperMoves game from to
led game from here to many few moves same = record { many = many; few = few; moves = subst (λ (p : AbstractPlace). KeeperMoves game from many p) (sym same) moves }

pub returns-in_err-find_front-clause-place : goal.returns-in_err-find_front-clause-place
returns-in_err-find_front-clause-place c = subst (IsPlaceOf c.args.self.now) (sym c.find_front.ensures.kept) c.loop.invariant.0

pub returns-in_err-find_front-clause-led : goal.returns-in_err-find_front-clause-led
returns-in_err-find_front-clause-led c = led c.args.self.now c.args.place.now c.loop.place c.find_front.new.place c.loop.counter (omega arith) c.loop.invariant.1 c.find_front.ensures.kept

pub returns-in_err-make_move-clause-place : goal.returns-in_err-make_move-clause-place
returns-in_err-make_move-clause-place c =
    let same = err_of c.make_move.result c.in_err-make_move.field-0.0 _ c.in_err-make_move.was c.make_move.ensures.refused in
    subst (IsPlaceOf c.args.self.now) (sym (same ∙ c.find_front.ensures.kept)) c.loop.invariant.0

pub returns-in_err-make_move-clause-led : goal.returns-in_err-make_move-clause-led
returns-in_err-make_move-clause-led c =
    let same = err_of c.make_move.result c.in_err-make_move.field-0.0 _ c.in_err-make_move.was c.make_move.ensures.refused in
    led c.args.self.now c.args.place.now c.loop.place _ c.loop.counter (omega arith) c.loop.invariant.1 (same ∙ c.find_front.ensures.kept)
