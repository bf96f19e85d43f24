-- The log has the script.
use Rattle.std.proofs.Common.{◌++◌, ◌∙◌, ℕ, List, ap}
use Rattle.rbg_script.specs.Scripts.{script_of, script_text}
use Rattle.rbg_serving.proofs.Logging.{resumed_so}
use Rattle.rbg_hosting.proofs.again.resume_match.Goals as goal

pub returns-clause-resumes : goal.returns-clause-resumes
returns-clause-resumes g c =
    let script = script_of c.args.script.now in
    let written = c.as_slice.ensures.value ∙ c.in_ok-write_script.ensures.written ∙ ap (λ (one : List ℕ). one ++ script_text script) c.new-line.ensures.items in
    rw (c.with_log.ensures.log, c.with_log.ensures.played) (resumed_so g.W.Log.told c.args.description.now script c.in_ok-played.played c.in_ok-played.outbox c.as_slice.result.now c.args.log c.append.new.self c.in_ok-played.ensures.played written c.in_ok-write_script.ensures.spelled c.in_ok-append.ensures.ok)
