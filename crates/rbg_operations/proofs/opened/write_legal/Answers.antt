-- The moves that are listed, or the question is above the limits.
use Rattle.rbg_base.proofs.Common.{◌≡◌, ◌++◌, subst, codes, on_ok_weaker, flat_map}
use Rattle.rbg_operations.specs.Lines.{move_line, cut_text}
use Rattle.rbg_operations.specs.Openings.GoesOn.{listed, too_hard}
use Rattle.rbg_operations.proofs.ListingLemmas.{both_hold, over_error}
use Rattle.rbg_operations.proofs.opened.write_legal.Goals as goal

pub returns-in-Ok : goal.returns-in-Ok
returns-in-Ok c =
    let moves = c.in-Ok.listed.moves.items in
    let cut = c.in-Ok.listed.cut in
    on_ok_weaker c.write_listed.result
    (λ is. λ none. (
      _,
      listed moves cut none c.in-Ok.ensures.lists,
      subst (λ player. c.write_listed.new.out.items ≡ c.args.out.now.items ++ (flat_map (move_line player) moves ++ cut_text cut)) c.mover.ensures is,
    ))
    c.write_listed.ensures

pub returns-in-Err : goal.returns-in-Err
returns-in-Err c =
    both_hold c.write_limit.result _ _ _ (λ is limit. λ none. (codes "over\n", too_hard none (c.in-Err.ensures.given_up.heavy (over_error c.in-Err.over limit)), is))
    c.write_limit.ensures.written c.write_limit.ensures.limit
