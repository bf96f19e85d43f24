-- What a question counts, and what a workspace counts of one that was answered.
use Rattle.std.proofs.Common.{◌≡◌, ℕ, ◌+◌, ◌-◌, ◌^◌, min, true, ap, ◌∙◌, subst}
use Rattle.rbg_rules.specs.Meaning.{AbstractGame, AbstractState, Start, after, AbstractPlace, point_of, Question}
use Rattle.rbg_search.proofs.Common.{CountsOpenings, CountsAllForced, GoesOn, Searching, Tally, CountsPairs}
use Rattle.rbg_search.proofs.Takings.{after_part, takes_then, takes_part_of}
use Rattle.rbg_moves.specs.Tallying.{IsTallied}

-- What a question counts so far, and then after a modifier.
pub more_takes : (game game' : AbstractGame) (question question' : Question) (s later : AbstractState) (f : Start) (v p a b c t u w : ℕ) → game' ≡ game → GoesOn game question s f v p question' later → CountsPairs game question s f a b t u (Unit {0}) → CountsPairs game' question' later (after p) b c u w (Unit {0}) → CountsPairs game question s f a c t w (Unit {0})
more_takes game game' question question' s later f v p a b c t u w same on so_far beyond =
    takes_then game question s f a b c t u w (Unit {0}) so_far
    (takes_part_of game question s f question' later (after p) b c u w (Unit {0}) (after_part game question question' s later f v p on)
    (subst (λ (x : AbstractGame). CountsPairs x question' later (after p) b c u w (Unit {0})) same beyond))

pub takes_in : (game game' : AbstractGame) (question : Question) (s : AbstractState) (f : Start) (a b t u : ℕ) → game' ≡ game → CountsPairs game' question s f a b t u (Unit {0}) → CountsPairs game question s f a b t u (Unit {0})
takes_in game game' question s f a b t u same counts = subst (λ (x : AbstractGame). CountsPairs x question s f a b t u (Unit {0})) same counts

pub tallied : (game : AbstractGame) (question : Question) (place : AbstractPlace) (asked later : Searching) (old lent new : Tally) → asked.game ≡ game → asked.opened ≡ 0 → asked.taken ≡ 0 → lent ≡ old → later ≡ record asked { opened = later.opened; taken = later.taken } → CountsOpenings asked.game question place.state (point_of place.last) asked.opened later.opened → CountsAllForced asked.game true question place.state (point_of place.last) asked.opened later.opened → CountsPairs asked.game question place.state (point_of place.last) asked.opened later.opened asked.taken later.taken (Unit {0}) → new.openings ≡ min (lent.openings + later.opened) (2 ^ 64 - 1) → new.pairs ≡ min (lent.pairs + later.taken) (2 ^ 64 - 1) → IsTallied game question place old new
tallied game question place asked later old lent new same none nothing kept_tally kept counted forced paired openings pairs = record {
  opened = later.opened;
  taken = later.taken;
  counted =
      subst (λ (n : ℕ). CountsOpenings game question place.state (point_of place.last) n later.opened) none
      (subst (λ (x : AbstractGame). CountsOpenings x question place.state (point_of place.last) asked.opened later.opened) same counted);
  forced =
      subst (λ (n : ℕ). CountsAllForced game true question place.state (point_of place.last) n later.opened) none
      (subst (λ (x : AbstractGame). CountsAllForced x true question place.state (point_of place.last) asked.opened later.opened) same forced);
  paired =
      subst (λ (n : ℕ). CountsPairs game question place.state (point_of place.last) n later.opened 0 later.taken (Unit {0})) none
      (subst (λ (n : ℕ). CountsPairs game question place.state (point_of place.last) asked.opened later.opened n later.taken (Unit {0})) nothing
      (takes_in game asked.game question place.state (point_of place.last) asked.opened later.opened asked.taken later.taken same paired));
  openings = openings ∙ ap (λ (t : Tally). min (t.openings + later.opened) (2 ^ 64 - 1)) kept_tally;
  pairs = pairs ∙ ap (λ (t : Tally). min (t.pairs + later.taken) (2 ^ 64 - 1)) kept_tally;
}
