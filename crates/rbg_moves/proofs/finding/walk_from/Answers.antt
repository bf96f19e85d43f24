-- A walk from the place gathered moves, or the question was given up.
use Rattle.std.proofs.Common.{◌≡◌, ◌≤◌, ◌-◌, ℕ, List, length, refl, ap, subst, arith}
use Rattle.rbg_base.specs.Move.{most_pairs}
use Rattle.rbg_rules.specs.Meaning.{most_modifiers, IsLegal}
use Rattle.rbg_state.proofs.Histories.{no_shorter}
use Rattle.rbg_moves.specs.internal.Asking.{question_of, is_cut}
use Rattle.rbg_moves.specs.internal.Gathering.{Gathers}
use Rattle.rbg_moves.proofs.Asked.{asked_in_vain, asked_fits, asked_tallies, at_place, gives_answer, tallies_one}
use Rattle.rbg_moves.proofs.Copies.{from_copy, given_back}
use Rattle.rbg_moves.proofs.Outcome.{walked_none}
use Rattle.rbg_moves.proofs.finding.walk_from.Goals as goal

pub returns-in_err-ended-clause-walks : goal.returns-in_err-ended-clause-walks
returns-in_err-ended-clause-walks x c =
    walked_none c.from_residual.result _ c.from_residual.ensures.1
    (asked_in_vain c.search_in-search.ensures.begun c.place.view_is (question_of c.args.found.now.max) c.game-game.ensures.lawful.numbered c.clear.new.self.items c.walk-ended.result c.from_residual.result c.in_err-ended.field-0.0 c.clear.ensures.items c.in_err-ended.was c.from_residual.ensures.1 c.walk-ended.ensures.given_up)
    refl

pub returns-clause-walks : goal.returns-clause-walks
returns-clause-walks x c =
    let ended = c.in_ok-ended.ended in
    let max = c.args.found.now.max in
    let walked = c.in_ok-ended.ensures.walked in
    let long : length c.clear.new.self.items ≡ 0 = ap (λ (qs : List (ℕ × ℕ)). length qs) c.clear.ensures.items in
    let under : most_pairs - length c.clear.new.self.items ≤ most_modifiers = omega (arith, long) in
    record {
      gathers =
          subst (λ (ps : List (ℕ × ℕ)). Gathers (IsLegal c.args.rules c.args.place.now) ps max c.args.found.now.moves c.walk-ended.new.found.moves c.walk-ended.new.front.items ended) c.clear.ensures.items
          (at_place c.search_in-search.ensures.begun c.place.view_is (λ h p. Gathers (IsLegal h.game p) c.clear.new.self.items max c.args.found.now.moves c.walk-ended.new.found.moves c.walk-ended.new.front.items ended) walked.gathers);
      given_up = gives_answer _ _ _ _;
      fits = asked_fits c.search_in-search.ensures.begun c.place.view_is (question_of max) c.walk-ended.new.search (is_cut ended max) _ under c.walk-ended.ensures.search c.budget_is_kept.ensures walked.counts;
      tallies =
          tallies_one _
          (asked_tallies c.search_in-search.ensures.begun c.place.view_is (question_of max) c.walk-ended.new.search (is_cut ended max) _ c.args.workspace.now.tally c.args.workspace.now.tally c.leave.new.tally refl c.walk-ended.ensures.search walked.counts c.leave.ensures.openings c.leave.ensures.pairs);
    }

-- ---- what was changed is taken back, whether there is an answer or none

pub undo_to-requires : goal.undo_to-requires
undo_to-requires x c =
    let shorter = no_shorter c.place.inside.state c.walk-ended.new.state c.walk-ended.ensures.after in
    omega (arith, c.mark-mark.ensures, shorter)

pub returns-in_err-ended-clause-kept : goal.returns-in_err-ended-clause-kept
returns-in_err-ended-clause-kept x c =
    from_copy c.args.place.now c.undo_to.new.self.state c.place.inside.state.state c.place.inside.after
    (given_back c.place.inside.state c.walk-ended.new.state c.undo_to.new.self c.mark-mark.result c.mark-mark.ensures c.walk-ended.ensures.after c.undo_to.ensures.given_back) c.place.view_is

pub returns-clause-kept : goal.returns-clause-kept
returns-clause-kept x c =
    from_copy c.args.place.now c.undo_to.new.self.state c.place.inside.state.state c.place.inside.after
    (given_back c.place.inside.state c.walk-ended.new.state c.undo_to.new.self c.mark-mark.result c.mark-mark.ensures c.walk-ended.ensures.after c.undo_to.ensures.given_back) c.place.view_is
