-- The pairs lead to a place, or nowhere, or the question was given up.
use Rattle.std.proofs.Common.{◌≡◌, ℕ, List, [], length, true, false, refl, ap, ◌∙◌, subst, arith, Option, Some, None, IfSome}
use Rattle.rbg_rules.specs.Meaning.{AbstractGame, AbstractState, AbstractPlace, point_of, IsPlaceOf, try_move}
use Rattle.rbg_rules.proofs.PlaceLemmas.{one_place_law}
use Rattle.rbg_search.proofs.Common.{CountsForced, somewhere, Searching}
use Rattle.rbg_moves.specs.Answers.{GivesUp}
use Rattle.rbg_moves.specs.Limits.{FitsLimits}
use Rattle.rbg_moves.specs.Tallying.{IsTallied}
use Rattle.rbg_moves.specs.internal.Stepping.{place_beyond, IsTried}
use Rattle.rbg_moves.proofs.Asked.{asked_in_vain, asked_fits, asked_tallies, at_place, gives_answer, gives_memory, tallies_one, tries_none, uncut_answer}
use Rattle.rbg_moves.proofs.Forcing.{illegal_counts, illegal_fits}
use Rattle.rbg_moves.proofs.Tallies.{tallied}
use Rattle.rbg_moves.proofs.trying.try_pairs.Goals as goal

tried_as : (game : AbstractGame) (place : AbstractPlace) (ps qs : List (ℕ × ℕ)) (new : AbstractState) (end end' : Option ℕ) → qs ≡ ps → end ≡ end' → IsTried game place qs new end → IsTried game place ps new end'
tried_as game place ps qs new end end' is becomes tried =
    subst (λ (o : Option ℕ). IsTried game place ps new o) becomes (subst (λ (rs : List (ℕ × ℕ)). IsTried game place rs new end) is tried)

pub returns-in_err-to-clause-tries : goal.returns-in_err-to-clause-tries
returns-in_err-to-clause-tries x c =
    tries_none c.from_residual.result _ c.from_residual.ensures.1 (gives_memory _ _ _ c.from_residual.result c.from_residual.ensures.1)

pub returns-in_err-end-clause-tries : goal.returns-in_err-end-clause-tries
returns-in_err-end-clause-tries x c =
    let there = c.to.view_is ∙ c.in_ok-to.ensures.copy in
    tries_none c.from_residual-in_err-end.result _ c.from_residual-in_err-end.ensures.1
    (subst (λ (qs : List (ℕ × ℕ)). GivesUp c.args.rules (try_move qs) c.args.place.now c.from_residual-in_err-end.result) c.as_slice.ensures.pairs
    (asked_in_vain c.search_in-search.ensures.begun there (try_move c.as_slice.result.now) c.game-game.ensures.lawful.numbered [] c.follow.result c.from_residual-in_err-end.result c.in_err-end.field-0.0 refl c.in_err-end.was c.from_residual-in_err-end.ensures.1
    (record { deep = λ d. somewhere (c.follow.ensures.followed.deep d); wide = c.follow.ensures.followed.wide })))

pub returns-in-Some-clause-tries : goal.returns-in-Some-clause-tries
returns-in-Some-clause-tries x c =
    let game = c.args.rules in
    let place = c.args.place.now in
    let new = c.follow.new.state.state in
    let ps : List (ℕ × ℕ) = c.as_slice.result.now in
    let there = c.to.view_is ∙ c.in_ok-to.ensures.copy in
    let legal = tried_as game place c.args.pairs.now ps new c.in_ok-end.end (Some c.in-Some.last) c.as_slice.ensures.pairs c.in-Some.is (at_place c.search_in-search.ensures.begun there (λ h p. IsTried h.game p ps new c.in_ok-end.end) c.in_ok-end.ensures.followed.tried) in
    let within = at_place c.search_in-search.ensures.begun there (λ h p. IfSome c.in_ok-end.end (λ last. IsPlaceOf h.game (place_beyond new last))) c.in_ok-end.ensures.in_game in
    record {
      legal = legal;
      only = λ other also. one_place_law game c.game-game.ensures.lawful.numbered place c.args.pairs.now other (place_beyond new c.in-Some.last) also legal;
      in_game = subst (λ (o : Option ℕ). IfSome o (λ last. IsPlaceOf game (place_beyond new last))) c.in-Some.is within;
      illegal = tt;
      given_up = gives_answer _ _ _ _;
      fits = λ cut.
          subst (λ (qs : List (ℕ × ℕ)). FitsLimits game cut (try_move qs) place) c.as_slice.ensures.pairs
          (asked_fits c.search_in-search.ensures.begun there (try_move ps) c.follow.new.search cut (length ps) (omega (arith, c.as_slice.ensures.range)) c.follow.ensures.kept c.budget_is_kept.ensures
          (uncut_answer (record { counted = c.in_ok-end.ensures.followed.counted; paired = c.in_ok-end.ensures.followed.paired; forced = subst (λ o. IfSome o (λ _. CountsForced c.search_in-search.result.game false (try_move ps) c.to.inside.state.state (point_of c.to.inside.after) c.search_in-search.result.opened c.follow.new.search.opened (length ps) c.search_in-search.result.modifiers)) c.in-Some.is c.in_ok-end.ensures.followed.forced }) cut));
    }

pub returns-in-None-clause-tries : goal.returns-in-None-clause-tries
returns-in-None-clause-tries x c =
    let illegal =
    tried_as c.args.rules c.args.place.now c.args.pairs.now c.as_slice.result.now c.follow.new.state.state c.in_ok-end.end None c.as_slice.ensures.pairs c.in-None.is
    (at_place c.search_in-search.ensures.begun (c.to.view_is ∙ c.in_ok-to.ensures.copy) (λ h p. IsTried h.game p c.as_slice.result.now c.follow.new.state.state c.in_ok-end.end) c.in_ok-end.ensures.followed.tried) in
    record {
      legal = tt;
      only = tt;
      in_game = tt;
      illegal = illegal;
      given_up = gives_answer _ _ _ _;
      fits = λ cut. illegal_fits c.args.rules cut c.args.place.now c.args.pairs.now illegal;
    }

-- ---- what was counted

pub returns-in-Some-clause-tallies : goal.returns-in-Some-clause-tallies
returns-in-Some-clause-tallies x c =
    let ps : List (ℕ × ℕ) = c.as_slice.result.now in
    let there = c.to.view_is ∙ c.in_ok-to.ensures.copy in
    let forced = subst (λ o. IfSome o (λ _. CountsForced c.search_in-search.result.game false (try_move ps) c.to.inside.state.state (point_of c.to.inside.after) c.search_in-search.result.opened c.follow.new.search.opened (length ps) c.search_in-search.result.modifiers)) c.in-Some.is c.in_ok-end.ensures.followed.forced in
    tallies_one _
    (subst (λ (qs : List (ℕ × ℕ)). IsTallied c.args.rules (try_move qs) c.args.place.now c.args.workspace.now.tally c.leave.new.tally) c.as_slice.ensures.pairs
    (asked_tallies c.search_in-search.ensures.begun there (try_move ps) c.follow.new.search false (length ps) c.args.workspace.now.tally c.copy_of.new.self.tally c.leave.new.tally c.copy_of.ensures.tally c.follow.ensures.kept
    (record { counted = c.in_ok-end.ensures.followed.counted; paired = c.in_ok-end.ensures.followed.paired; forced = forced }) c.leave.ensures.openings c.leave.ensures.pairs))

pub returns-in-None-clause-tallies : goal.returns-in-None-clause-tallies
returns-in-None-clause-tallies x c =
    let game = c.args.rules in
    let asked = c.search_in-search.result in
    let ps : List (ℕ × ℕ) = c.as_slice.result.now in
    let here : AbstractPlace = record { state = c.to.inside.state.state; last = c.to.inside.after } in
    let there : here ≡ c.args.place.now = c.to.view_is ∙ c.in_ok-to.ensures.copy in
    let begun = c.search_in-search.ensures.begun in
    let illegal = tried_as asked.game here ps ps c.follow.new.state.state c.in_ok-end.end None refl c.in-None.is c.in_ok-end.ensures.followed.tried in
    tallies_one _
    (subst (λ (qs : List (ℕ × ℕ)). IsTallied game (try_move qs) c.args.place.now c.args.workspace.now.tally c.leave.new.tally) c.as_slice.ensures.pairs
    (subst (λ (p : AbstractPlace). IsTallied game (try_move ps) p c.args.workspace.now.tally c.leave.new.tally) there
    (tallied game (try_move ps) here asked c.follow.new.search c.args.workspace.now.tally c.copy_of.new.self.tally c.leave.new.tally (ap (λ (h : Searching). h.game) begun) (ap (λ (h : Searching). h.opened) begun) (ap (λ (h : Searching). h.taken) begun) c.copy_of.ensures.tally c.follow.ensures.kept c.in_ok-end.ensures.followed.counted
    (illegal_counts asked.game true here ps asked.opened c.follow.new.search.opened illegal (omega (arith, c.in_ok-end.ensures.followed.counted.sum)))
    c.in_ok-end.ensures.followed.paired c.leave.ensures.openings c.leave.ensures.pairs)))
