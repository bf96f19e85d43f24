-- What stands after the digest's line decides, and without that line the text is no game file for the description.
use Rattle.std.proofs.Common.{ℕ, List, ◌++◌, sym, ◌∙◌, ap}
use Rattle.sha2.specs.Sha256.{sha256}
use Rattle.rbg_network.proofs.GameFileLemmas.{naming_by_tail, no_naming}
use Rattle.rbg_network.proofs.game_file.read_game.Goals as goal

pub returns-in-Some : goal.returns-in-Some
returns-in-Some c =
    let line = c.as_slice.ensures.value ∙ c.in_ok-line.ensures in
    let begins = c.in-Some.ensures.found ∙ ap (λ (one : List ℕ). one ++ c.in-Some.tail.now) line in
    naming_by_tail c.args.text.now (sha256 c.args.description.now) c.in-Some.tail.now c.naming_of.result begins c.naming_of.ensures

pub returns : goal.returns
returns c =
    let line = c.as_slice.ensures.value ∙ c.in_ok-line.ensures in
    no_naming c.args.text.now (sha256 c.args.description.now) (λ rest is. c.in-None.ensures.none rest (is ∙ ap (λ (one : List ℕ). one ++ rest) (sym line)))
