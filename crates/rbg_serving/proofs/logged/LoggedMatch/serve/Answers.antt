-- The log goes on with each event that is handled.
use Rattle.rbg_serving.proofs.Logging.{leaves}
use Rattle.rbg_serving.proofs.logged.LoggedMatch.serve.Goals as goal

pub returns-clause-logs : goal.returns-clause-logs
returns-clause-logs g c = λ before asked lines clock text held tells is.
    leaves _ _ _ g.W.Log.told _ _ _ before asked _ _ _ _ c.serve_engine.result (c.serve_engine.ensures.serves before asked lines clock) text held tells is
