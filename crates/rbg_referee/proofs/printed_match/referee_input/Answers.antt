-- The input is a description, the mark and a script.
use Rattle.std.proofs.lemmas.Result.{IfErr-weaker}
use Rattle.rbg_referee.specs.Matches.{IsNoInput, IsNoMatch}
use Rattle.rbg_referee.specs.Matches.IsNoInput.{no_match}
use Rattle.rbg_referee.proofs.printed_match.referee_input.Goals as goal

pub returns-in-Some-clause-refused : goal.returns-in-Some-clause-refused
returns-in-Some-clause-refused c =
    let description = c.in-Some.texts.description.now in
    let script = c.in-Some.texts.script.now in
    IfErr-weaker c.referee_texts.result (IsNoMatch description script) (IsNoInput c.args.input.now)
    (λ fault is. no_match description script c.in-Some.ensures.found is) c.referee_texts.ensures.refused
