use Rattle.rbg_game.specs.declared.error.LoadError.TheVariants as errors
use Rattle.rbg_game.proofs.LoadingLemmas.{refused_by, refused_in_macros, refused_in_syntax, refused_in_checks, described, sections_of_text}
use Rattle.rbg_game.proofs.loading.load_with_layout.Goals as goal

pub returns-in_err-source-clause-refused : goal.returns-in_err-source-clause-refused
returns-in_err-source-clause-refused c = λ text cut.
    let error = c.in_err-source.field-0.0 in
    refused_by c.from_residual.result text (errors.Macro error) c.from_residual.ensures.1 (refused_in_macros text _ error cut c.in_err-source.ensures.fault)

pub returns-in_err-description-clause-refused : goal.returns-in_err-description-clause-refused
returns-in_err-description-clause-refused c = λ text cut.
    let error = c.in_err-description.field-0.0 in
    let sections = sections_of_text text _ _ cut c.in_ok-source.ensures.sections in
    refused_by c.from_residual-in_err-description.result text (errors.Syntax error) c.from_residual-in_err-description.ensures.1
    (refused_in_syntax text _ error sections c.in_err-description.ensures.fault c.in_err-description.ensures.only)

pub returns-in_err-check_with_layout-clause-refused : goal.returns-in_err-check_with_layout-clause-refused
returns-in_err-check_with_layout-clause-refused c = λ text cut.
    let error = c.in_err-check_with_layout.field-0.0 in
    let sections = sections_of_text text _ _ cut c.in_ok-source.ensures.sections in
    let describes = described text _ _ sections c.in_ok-description.ensures.found in
    refused_by c.from_residual-in_err-check_with_layout.result text (errors.Game error) c.from_residual-in_err-check_with_layout.ensures.1
    (refused_in_checks text _ error describes c.in_err-check_with_layout.ensures.fault c.in_err-check_with_layout.ensures.refused)

pub returns-clause-game : goal.returns-clause-game
returns-clause-game c = λ text cut.
    let found = described text _ _ (sections_of_text text _ _ cut c.in_ok-source.ensures.sections) c.in_ok-description.ensures.found in
    record { description = _; describes = found; game_of = c.in_ok-check_with_layout.ensures.game }

pub returns-clause-layout : goal.returns-clause-layout
returns-clause-layout c = λ text cut.
    let found = described text _ _ (sections_of_text text _ _ cut c.in_ok-source.ensures.sections) c.in_ok-description.ensures.found in
    record { description = _; describes = found; layout_of = c.in_ok-check_with_layout.ensures.layout }
