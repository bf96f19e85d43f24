-- Each kind of outcome has its own fields.
use Rattle.rbg_base.proofs.Common.{length, arith, sym, ◌∙◌, ap, nil_from_length}
use Rattle.std.proofs.lemmas.Bool.{eqb-true, eqb-false}
use Rattle.rbg_wire.proofs.OutcomeLemmas.{no_outcome, no_empty_outcome, spells_finished, spells_heavy, spelled_after, of_player_found, of_player_none}
use Rattle.rbg_wire.proofs.outcome_reader.outcome_after_letter.Goals as goal

pub returns-in_err-kind-clause-none : goal.returns-in_err-kind-clause-none
returns-in_err-kind-clause-none c = rw c.from_residual.ensures (no_empty_outcome _ c.in_err-kind.ensures.cases)

pub returns-in_err-scores_in-in-48-clause-none : goal.returns-in_err-scores_in-in-48-clause-none
returns-in_err-scores_in-in-48-clause-none c =
    let is = c.in-48.is in
    rw c.from_residual-in_err-scores_in-in-48.ensures (no_outcome _ _ _ c.in_ok-kind.ensures.cases.0
    (λ scores e h. c.in_err-scores_in-in-48.ensures.none scores h)
    (λ player e h. absurd (omega arith)) (λ player e h. absurd (omega arith)) (λ player e h. absurd (omega arith)) (λ e h. absurd (omega arith)))

pub returns-in_ok-scores_in-in-48-clause-found : goal.returns-in_ok-scores_in-in-48-clause-found
returns-in_ok-scores_in-in-48-clause-found c =
    spelled_after _ _ _ _ _ c.in_ok-kind.ensures.cases.0 c.in-48.is (spells_finished _ _ c.in_ok-scores_in-in-48.ensures.found)

pub returns-then-is_empty-clause-found : goal.returns-then-is_empty-clause-found
returns-then-is_empty-clause-found c =
    spelled_after _ _ _ _ _ c.in_ok-kind.ensures.cases.0 c.in-52.is (spells_heavy _ (nil_from_length _ (eqb-true _ _ (sym c.is_empty.ensures ∙ c.if-is_empty.true))))

pub returns-else-is_empty-clause-none : goal.returns-else-is_empty-clause-none
returns-else-is_empty-clause-none c =
    let is = c.in-52.is in
    no_outcome _ _ _ c.in_ok-kind.ensures.cases.0
    (λ scores e h. absurd (omega arith)) (λ player e h. absurd (omega arith)) (λ player e h. absurd (omega arith)) (λ player e h. absurd (omega arith))
    (λ e h. eqb-false _ _ (sym c.is_empty.ensures ∙ c.if-is_empty.false) (ap length h))

pub returns-in_err-player_in-in_default-clause-none : goal.returns-in_err-player_in-in_default-clause-none
returns-in_err-player_in-in_default-clause-none c =
    let others = c.in_default in
    let none = c.in_err-player_in-in_default.ensures.none in
    rw c.from_residual-in_err-player_in-in_default.ensures (no_outcome _ _ _ c.in_ok-kind.ensures.cases.0
    (λ scores e h. absurd (omega arith)) (λ player e h. none player h) (λ player e h. none player h) (λ player e h. none player h) (λ e h. absurd (omega arith)))

pub returns-in_ok-player_in-in_default-clause-found : goal.returns-in_ok-player_in-in_default-clause-found
returns-in_ok-player_in-in_default-clause-found c =
    of_player_found _ _ _ _ _ c.in_ok-kind.ensures.cases.0 c.in_ok-player_in-in_default.ensures.found c.of_player.ensures.found

pub returns-in_ok-player_in-in_default-clause-none : goal.returns-in_ok-player_in-in_default-clause-none
returns-in_ok-player_in-in_default-clause-none c =
    let others = c.in_default in
    of_player_none _ _ _ _ c.in_ok-kind.ensures.cases.0 (λ e. absurd (omega arith)) (λ e. absurd (omega arith)) c.of_player.ensures.none
