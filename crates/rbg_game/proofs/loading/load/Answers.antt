use Rattle.rbg_game.specs.declared.error.LoadError.TheVariants as errors
use Rattle.rbg_game.proofs.LoadingLemmas.{refused_by, refused_in_text}
use Rattle.rbg_game.proofs.loading.load.Goals as goal

pub returns-in_err-tokens-clause-refused : goal.returns-in_err-tokens-clause-refused
returns-in_err-tokens-clause-refused c =
    let text = c.args.text.now in
    let error = c.in_err-tokens.field-0.0 in
    refused_by c.from_residual.result text (errors.Text error) c.from_residual.ensures.1 (refused_in_text text error c.in_err-tokens.ensures.fault)
