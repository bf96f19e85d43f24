-- The pairs that were left in the front are handed out.
use Rattle.std.proofs.Common.{◌≡◌, ℕ, List, length, sym, ap, subst}
use Rattle.rbg_base.specs.Move.{IsMoveLength}
use Rattle.rbg_rules.specs.Meaning.{IsLegal}
use Rattle.rbg_moves.proofs.Asked.{finds_none, gives_answer, gives_on, tallies_none, tallies_one}
use Rattle.rbg_moves.proofs.finding.find_pairs.Goals as goal

pub returns-in_err-found-clause-finds : goal.returns-in_err-found-clause-finds
returns-in_err-found-clause-finds x c =
    finds_none c.from_residual.result _ c.from_residual.ensures.1
    (gives_on c.find_front.result c.from_residual.result c.in_err-found.field-0.0 c.in_err-found.was c.from_residual.ensures.1 c.find_front.ensures.finds.given_up)

pub returns-then-not-found-clause-finds : goal.returns-then-not-found-clause-finds
returns-then-not-found-clause-finds x c = record {
  found = tt;
  sized = tt;
  finished = c.in_ok-found.ensures.finds.finished c.if-not-found.true;
  given_up = gives_answer _ _ _ _;
  fits = c.in_ok-found.ensures.finds.fits;
}

pub returns-clause-finds : goal.returns-clause-finds
returns-clause-finds x c =
    let taken : c.find_front.new.workspace.front.items ≡ c.replace-pairs.result.items = sym (ap (λ qs. qs.items) c.replace-pairs.ensures.value) in
    record {
      found = subst (λ (qs : List (ℕ × ℕ)). IsLegal c.args.rules c.args.place.now qs) taken (c.in_ok-found.ensures.finds.found c.if-not-found.false);
      sized = subst (λ (qs : List (ℕ × ℕ)). IsMoveLength (length qs)) taken (c.in_ok-found.ensures.finds.sized c.if-not-found.false);
      finished = tt;
      given_up = gives_answer _ _ _ _;
      fits = c.in_ok-found.ensures.finds.fits;
    }

pub returns-in_err-found-clause-tallies : goal.returns-in_err-found-clause-tallies
returns-in_err-found-clause-tallies x c = tallies_none c.from_residual.result _ c.from_residual.ensures.1 c.in_err-found.ensures.tallies.unanswered

pub returns-then-not-found-clause-tallies : goal.returns-then-not-found-clause-tallies
returns-then-not-found-clause-tallies x c = tallies_one _ c.in_ok-found.ensures.tallies.answered

pub returns-clause-tallies : goal.returns-clause-tallies
returns-clause-tallies x c = tallies_one _ c.in_ok-found.ensures.tallies.answered
