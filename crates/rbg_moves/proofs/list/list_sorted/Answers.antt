-- What was gathered is listed.
use Rattle.std.proofs.Common.{◌≢◌, ℕ, List, sym, subst, AllPairs}
use Rattle.rbg_rules.specs.Meaning.{AbstractPlace, list_moves}
use Rattle.rbg_moves.specs.Answers.{GivesUp}
use Rattle.rbg_moves.specs.Limits.{FitsLimits}
use Rattle.rbg_moves.specs.Listing.{IsGathered}
use Rattle.rbg_moves.proofs.Asked.{gives_answer, gives_memory, gives_on, lists_none}
use Rattle.rbg_moves.proofs.Outcome.{listed}
use Rattle.rbg_moves.proofs.list.list_sorted.Goals as goal

pub sort-requires : goal.sort-requires
sort-requires g c =
    subst (λ (ms : List (List (ℕ × ℕ))). AllPairs (λ a b. a ≢ b) ms) (sym c.in_ok-moves.ensures) c.in_ok-gathered.ensures.lists.lists.different

pub returns-in_err-lent : goal.returns-in_err-lent
returns-in_err-lent g c =
    lists_none c.from_residual.result _ c.from_residual.ensures.1 (gives_memory _ _ _ c.from_residual.result c.from_residual.ensures.1)

pub returns-in_err-gathered : goal.returns-in_err-gathered
returns-in_err-gathered g c =
    lists_none c.from_residual-in_err-gathered.result _ c.from_residual-in_err-gathered.ensures.1
    (subst (λ (p : AbstractPlace). GivesUp c.args.rules list_moves p c.from_residual-in_err-gathered.result) c.in_ok-lent.ensures
    (gives_on c.gather_moves.result c.from_residual-in_err-gathered.result c.in_err-gathered.field-0.0 c.in_err-gathered.was c.from_residual-in_err-gathered.ensures.1 c.gather_moves.ensures.lists.given_up))

pub returns-in_err-moves : goal.returns-in_err-moves
returns-in_err-moves g c =
    lists_none c.from_residual-in_err-moves.result _ c.from_residual-in_err-moves.ensures.1 (gives_memory _ _ _ c.from_residual-in_err-moves.result c.from_residual-in_err-moves.ensures.1)

pub returns : goal.returns
returns g c =
    let game = c.args.rules in
    let place = c.args.place.now in
    let cut = c.in_ok-gathered.gathered.cut in
    record {
      lists = listed game place c.args.max c.in_ok-moves.moves.items c.sort.new.moves.items cut
          (subst (λ (ms : List (List (ℕ × ℕ))). IsGathered game place c.args.max ms cut) (sym c.in_ok-moves.ensures)
          (subst (λ (p : AbstractPlace). IsGathered game p c.args.max c.in_ok-gathered.gathered.moves cut) c.in_ok-lent.ensures c.in_ok-gathered.ensures.lists.lists))
          c.sort.ensures.permutation c.sort.ensures.order;
      given_up = gives_answer _ _ _ _;
      fits = subst (λ (p : AbstractPlace). FitsLimits game cut list_moves p) c.in_ok-lent.ensures c.in_ok-gathered.ensures.lists.fits;
    }
