-- What became of the pairs that were followed.
use Rattle.rbg_base.proofs.Common.{rules, ◌≡◌, ℕ, List, [], ◌∷◌, length, true, false, refl, sym, ap, ◌∙◌, arith, ◌==◌, Some, None, err_from_is_err_and, Decides-eqb}
use Rattle.rbg_rules.specs.Meaning.{IsSwitchAt, AbstractPlace, point_of}
use Rattle.rbg_moves.specs.internal.Stepping.{IsStep}
use Rattle.rbg_moves.proofs.Following.{followed_as, follows_none, follows_in_vain, follows_first, follows_on}
use Rattle.rbg_moves.proofs.Forcing.{last_forced}
use Rattle.rbg_moves.proofs.Steps.{none_at, none_after, step_ends, plain_by, switch_by}
use Rattle.rbg_moves.proofs.trying.+follow.Goals as goal

empty_when : (xs : List (ℕ × ℕ)) → length xs ≡ 0 → xs ≡ []
empty_when [] e = refl
empty_when (x ∷ xs) e = absurd (omega (arith, e))

true_not_false : true ≡ false → ⊥
true_not_false e = cc

empty_of : (xs : List (ℕ × ℕ)) → true ≡ (length xs == 0) → xs ≡ []
empty_of xs e = empty_when xs ((Decides-eqb (length xs) 0).0 (sym e))

not_empty : (xs : List (ℕ × ℕ)) → false ≡ (length xs == 0) → ¬ (xs ≡ [])
not_empty xs e same = true_not_false (sym ((Decides-eqb (length xs) 0).1 (ap length same)) ∙ sym e)

-- The first of the pairs, as it is read.
first_is : (pairs qs : List (ℕ × ℕ)) (q : ℕ × ℕ) (v p : ℕ) → pairs ≡ q ∷ qs → (v, p) ≡ q → pairs ≡ (v, p) ∷ qs
first_is pairs qs q v p is seen = is ∙ ap (λ (r : ℕ × ℕ). r ∷ qs) (sym seen)

pub returns-in_default-clause-followed : goal.returns-in_default-clause-followed
returns-in_default-clause-followed g t c =
    let place : AbstractPlace = record { state = c.args.state.now.state; last = c.args.after } in
    let none : length c.args.pairs.now ≡ 0 = search rules in
    followed_as (empty_when c.args.pairs.now none) (follows_none c.args.search.now place c.game-game.ensures.lawful.numbered)

pub returns-in_err-taken-clause-followed : goal.returns-in_err-taken-clause-followed
returns-in_err-taken-clause-followed g t c =
    let place : AbstractPlace = record { state = c.args.state.now.state; last = c.args.after } in
    let q : ℕ × ℕ = c.in-Some.pair.now in
    let is : c.args.pairs.now ≡ q ∷ c.in-Some.rest.now = search rules in
    let p = err_from_is_err_and c.from_residual.result c.from_residual.ensures.1 in
    rw (p.1, p.2) (followed_as is (follows_in_vain c.args.search.now c.take.new.search place q.0 q.1 c.in-Some.rest.now c.game-game.ensures.lawful.numbered c.take.result c.in_err-taken.field-0.0 c.in_err-taken.was c.take.ensures.deep c.take.ensures.wide))

pub returns-then-not-taken-clause-followed : goal.returns-then-not-taken-clause-followed
returns-then-not-taken-clause-followed g t c =
    let place : AbstractPlace = record { state = c.args.state.now.state; last = c.args.after } in
    let v = c.pair.inside.vertex in
    let p = c.pair.inside.position in
    let qs = c.in-Some.rest.now in
    followed_as (first_is c.args.pairs.now qs c.in-Some.pair.now v p (search rules) c.pair.view_is)
    (follows_first c.args.search.now c.take.new.search place v p qs c.game-game.ensures.lawful.numbered c.take.ensures.counted c.in_ok-taken.ensures.paired None (none_at c.args.search.now.game c.game-game.ensures.lawful.numbered place v p qs (c.in_ok-taken.ensures.refused (search rules))) tt)

pub returns-then-is_empty-clause-followed : goal.returns-then-is_empty-clause-followed
returns-then-is_empty-clause-followed g t c =
    let game = c.args.search.now.game in
    let place : AbstractPlace = record { state = c.args.state.now.state; last = c.args.after } in
    let v = c.pair.inside.vertex in
    let p = c.pair.inside.position in
    let qs = c.in-Some.rest.now in
    let empty : qs ≡ [] = empty_of qs (sym c.if-is_empty.true ∙ c.is_empty.ensures) in
    let taken : IsStep game place.state (point_of place.last) v p c.take.new.state.state = c.in_ok-taken.ensures.taken (search rules) in
    followed_as (first_is c.args.pairs.now qs c.in-Some.pair.now v p (search rules) c.pair.view_is ∙ ap (λ (rs : List (ℕ × ℕ)). (v, p) ∷ rs) empty)
    (follows_first c.args.search.now c.take.new.search place v p [] c.game-game.ensures.lawful.numbered c.take.ensures.counted c.in_ok-taken.ensures.paired (Some p)
    (step_ends game c.game-game.ensures.lawful.numbered place v p c.take.new.state.state taken (switch_by game c.game-game.result.now p c.game-game.ensures.game (c.is_switch.ensures.0 c.if-not-is_switch.false)))
    (last_forced game c.game-game.ensures.lawful.numbered place.state (point_of place.last) (v, p) c.args.search.now.opened c.take.new.search.opened 1 c.args.search.now.modifiers (c.in_ok-taken.ensures.forced 1)))

pub returns-else-is_empty-clause-followed : goal.returns-else-is_empty-clause-followed
returns-else-is_empty-clause-followed g t c =
    let game = c.args.search.now.game in
    let place : AbstractPlace = record { state = c.args.state.now.state; last = c.args.after } in
    let v = c.pair.inside.vertex in
    let p = c.pair.inside.position in
    let qs = c.in-Some.rest.now in
    let switches = switch_by game c.game-game.result.now p c.game-game.ensures.game (c.is_switch.ensures.0 c.if-not-is_switch.false) in
    followed_as (first_is c.args.pairs.now qs c.in-Some.pair.now v p (search rules) c.pair.view_is)
    (follows_first c.args.search.now c.take.new.search place v p qs c.game-game.ensures.lawful.numbered c.take.ensures.counted c.in_ok-taken.ensures.paired None (none_after game c.game-game.ensures.lawful.numbered place v p qs switches (not_empty qs (sym c.if-is_empty.false ∙ c.is_empty.ensures))) tt)

pub returns-then-not-is_switch-clause-followed : goal.returns-then-not-is_switch-clause-followed
returns-then-not-is_switch-clause-followed g t c =
    let game = c.args.search.now.game in
    let place : AbstractPlace = record { state = c.args.state.now.state; last = c.args.after } in
    let v = c.pair.inside.vertex in
    let p = c.pair.inside.position in
    let qs = c.in-Some.rest.now in
    let taken : IsStep game place.state (point_of place.last) v p c.take.new.state.state = c.in_ok-taken.ensures.taken (search rules) in
    let other : c.is_switch.result ≡ false = search rules in
    let plain : ¬ IsSwitchAt game.rules p = plain_by game c.game-game.result.now p c.is_switch.result c.game-game.ensures.game c.is_switch.ensures.1 other in
    followed_as (first_is c.args.pairs.now qs c.in-Some.pair.now v p (search rules) c.pair.view_is)
    (follows_on c.args.search.now c.take.new.search place v p qs c.game-game.ensures.lawful.numbered c.take.ensures.counted c.in_ok-taken.ensures.paired c.follow.new.search c.take.new.state.state c.follow.new.state.state c.follow.result c.take.ensures.kept taken plain c.follow.ensures.followed c.in_ok-taken.ensures.forced)
