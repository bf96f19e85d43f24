-- The legal moves of a place are gathered, or the question was given up.
use Rattle.std.proofs.Common.{ℕ, List, [], true, subst, ◌∙◌}
use Rattle.rbg_rules.specs.Meaning.{IsLegal}
use Rattle.rbg_search.specs.Searching.{Tally}
use Rattle.rbg_moves.specs.Answers.{GivesUp}
use Rattle.rbg_moves.specs.Limits.{FitsLimits}
use Rattle.rbg_moves.specs.Tallying.{IsTallied}
use Rattle.rbg_moves.specs.internal.Asking.{question_of}
use Rattle.rbg_moves.specs.internal.Gathering.{Gathers}
use Rattle.rbg_moves.proofs.Asked.{gives_answer, gives_on, lists_none, tallies_none, tallies_one}
use Rattle.rbg_moves.proofs.Outcome.{as_listing, gathered}
use Rattle.rbg_moves.proofs.list.gather_moves.Goals as goal

pub returns-in_err-cut-clause-lists : goal.returns-in_err-cut-clause-lists
returns-in_err-cut-clause-lists g c =
    lists_none c.from_residual.result _ c.from_residual.ensures.1
    (gives_on c.walk_from.result c.from_residual.result c.in_err-cut.field-0.0 c.in_err-cut.was c.from_residual.ensures.1
    (as_listing (λ _ question. GivesUp c.args.rules question c.args.place.now c.walk_from.result) c.args.max true c.requires.some c.walk_from.ensures.walks.given_up))

pub returns-clause-lists : goal.returns-clause-lists
returns-clause-lists g c =
    let game = c.args.rules in
    let place = c.args.place.now in
    let has = c.walk_from.new.found.moves in
    let first : List (ℕ × ℕ) = c.walk_from.new.workspace.front.items in
    let cut = c.in_ok-cut.cut in
    record {
      lists = gathered game place c.args.max has first cut (subst (λ (xs : List (List (ℕ × ℕ))). Gathers (IsLegal game place) [] c.args.max xs has first cut) c.take_moves-moves.ensures.none c.in_ok-cut.ensures.walks.gathers);
      given_up = gives_answer _ _ _ _;
      fits = as_listing (λ b question. FitsLimits game b question place) c.args.max cut c.requires.some c.in_ok-cut.ensures.walks.fits;
    }

-- ---- what was counted

pub returns-in_err-cut-clause-tallies : goal.returns-in_err-cut-clause-tallies
returns-in_err-cut-clause-tallies g c =
    tallies_none c.from_residual.result _ c.from_residual.ensures.1 (c.in_err-cut.ensures.walks.tallies.unanswered ∙ c.take_moves-moves.ensures.tally)

pub returns-clause-tallies : goal.returns-clause-tallies
returns-clause-tallies g c =
    let game = c.args.rules in
    let place = c.args.place.now in
    let new = c.walk_from.new.workspace.tally in
    tallies_one _
    (as_listing (λ _ question. IsTallied game question place c.args.workspace.now.tally new) c.args.max c.in_ok-cut.cut c.requires.some
    (subst (λ (old : Tally). IsTallied game (question_of c.args.max) place old new) c.take_moves-moves.ensures.tally c.in_ok-cut.ensures.walks.tallies.answered))
