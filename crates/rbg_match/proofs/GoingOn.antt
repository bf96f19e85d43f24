-- How play continues, step by step.
use Rattle.std.proofs.Common.{◌≡◌, ℕ, suc, ◌+◌, ◌≤◌, List, [], ◌++◌, ◌∙◌, subst, arith, add-one, add-one-le, append_assoc, Ok}
use Rattle.rbg_moves.specs.Limits.{most_keeper_moves}
use Rattle.rbg_match.proofs.Common.{KeeperMoved, Settled, Delivery, AbstractPlay, PlaysOn, keeper, RefereeState, Replies, PlaysOnOnce, gone_on}
use Rattle.rbg_match.proofs.Replying.{nothing_done, gone_on-twice}

-- Play has come from its start to this state by `in_a_row` keeper moves in a row. Each way in which it continues from
-- here is a way in which it continues from the start, with the messages so far in front.
pub record HasCome (start : RefereeState) (in_a_row : ℕ) (referee : RefereeState) : Type 0 where
  pub few : in_a_row ≤ most_keeper_moves
  pub play : AbstractPlay
  pub outgoing : List Delivery
  pub becomes : referee ≡ gone_on start play outgoing
  pub on : (after : AbstractPlay) (more : List Delivery) → PlaysOn start.game start.moment in_a_row play after more → PlaysOn start.game start.moment 0 start.play after (outgoing ++ more)

pub not_yet_come : (start : RefereeState) → HasCome start 0 start
not_yet_come start = record { few = omega arith; play = start.play; outgoing = []; becomes = nothing_done start; on = λ after more goes. goes }

module _ {E : Type 0} {start referee next : RefereeState} {in_a_row : ℕ} (come : HasCome start in_a_row referee) where
  -- the keeper moves once more
  pub come_further : Replies {E = E} referee next (Ok KeeperMoved) (PlaysOnOnce in_a_row) → HasCome start (in_a_row + 1) next
  come_further replies =
      let goes = subst (λ one. Replies {E = E} one next (Ok KeeperMoved) (PlaysOnOnce in_a_row)) come.becomes replies in
      let moves = goes.whole in
      record {
        few = add-one-le moves.may;
        play = goes.after;
        outgoing = come.outgoing ++ goes.outgoing;
        becomes = goes.becomes ∙ gone_on-twice start come.play goes.after come.outgoing goes.outgoing;
        on = λ after more then.
            let from_here : PlaysOn start.game start.moment in_a_row come.play after (goes.outgoing ++ more) =
            rw moves.makes.told (keeper moves.keeper moves.may moves.makes.legal moves.short (subst (λ state. PlaysOn start.game start.moment (suc in_a_row) state after more) moves.makes.makes (rw add-one at then))) in
            rw append_assoc (come.on after (goes.outgoing ++ more) from_here);
      }

  -- play has settled
  pub come_to_rest : Replies {E = E} referee next (Ok Settled) (PlaysOnOnce in_a_row) → Replies {T = Unit {0}} {E = E} start next (Ok tt) (λ one _. PlaysOn one.game one.moment 0 one.play)
  come_to_rest replies =
      let goes = subst (λ one. Replies {E = E} one next (Ok Settled) (PlaysOnOnce in_a_row)) come.becomes replies in
      record {
        after = goes.after;
        outgoing = come.outgoing ++ goes.outgoing;
        becomes = goes.becomes ∙ gone_on-twice start come.play goes.after come.outgoing goes.outgoing;
        whole = come.on goes.after goes.outgoing goes.whole;
      }
