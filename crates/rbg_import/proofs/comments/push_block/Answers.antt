-- A comment between marks becomes lines, and a line feed if it is needed.
use Rattle.std.proofs.Common.{◌≡◌, List, ℕ, ◌++◌, OnOk, subst, drop}
use Rattle.std.proofs.lemmas.List.{take_rest}
use Rattle.rbg_import.specs.Comments.{feed_before}
use Rattle.rbg_import.proofs.Adding.{adds_block}
use Rattle.rbg_import.proofs.comments.push_block.Goals as goal

pub returns : goal.returns
returns c =
    let feed : OnOk c.push_feed.result (c.push_feed.new.output.items ≡ c.push_commented.new.output.items
    ++ feed_before (drop c.args.end c.args.bytes.now)) =
    subst (λ (rest : List ℕ). OnOk c.push_feed.result (c.push_feed.new.output.items
    ≡ c.push_commented.new.output.items ++ feed_before rest))
    (take_rest c.args.bytes.now c.args.end) c.push_feed.ensures in
    adds_block _ _ _ _ _ _ _ _ c.requires.is c.trim_ascii_end.ensures.value c.in_ok-push_commented.ensures feed
