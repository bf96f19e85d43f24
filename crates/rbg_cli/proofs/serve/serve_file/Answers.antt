-- The record of the match of the file's game is written.
use Rattle.rbg_cli.proofs.serve.serve_file.Goals as goal

pub returns : goal.returns
returns g c = c.in_ok-told.ensures _ c.as_slice.result.now (rw c.as_slice.ensures.value c.in_ok-text.ensures) c.in_ok-played.ensures
