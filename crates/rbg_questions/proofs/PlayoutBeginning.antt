-- Why no matches are played, and how many there are.
use Rattle.std.proofs.Common.{◌≡◌, ℕ, ◌++◌, List, [], map, ap, ◌∙◌, subst, arith}
use Rattle.rbg_rules.specs.Meaning.{AbstractGame, AbstractPlace}
use Rattle.rbg_moves.specs.Settling.{Settles}
use Rattle.rbg_questions.specs.declared.tally.EndingTally.{EndingTally}
use Rattle.rbg_questions.specs.declared.question_error.QuestionError.{QuestionError}
use Rattle.rbg_questions.specs.Chance.{AreTallied, Counted, IsUnplayed, counted_by}
use Rattle.rbg_questions.specs.Limits.{IsCount}
use Rattle.rbg_moves.specs.Starting.{start_place}
use Rattle.rbg_questions.specs.Places.{IsUnsettled}
use Rattle.rbg_questions.proofs.Tallies.{few_tallied}
use Rattle.rbg_questions.specs.Playing.{ArePlayouts, AreUnplayed, TellsPlayouts, unplayed, unsettled}
use Rattle.rbg_questions.specs.Summary.{summary_text}
use Rattle.rbg_questions.specs.internal.Bounds.{AreFew}

-- the keeper's first moves
pub unsettled_first : (game : AbstractGame) (first : AbstractPlace) (refusal : QuestionError) → first ≡ start_place game → IsUnsettled game first refusal → AreUnplayed game refusal
unsettled_first game first refusal same why = unsettled (subst (λ (p : AbstractPlace). IsUnsettled game p refusal) same why)

-- the matches after these moves
pub unplayed_after : (game : AbstractGame) (first place : AbstractPlace) (refusal : QuestionError) → first ≡ start_place game → Settles game first place → IsUnplayed game place refusal → AreUnplayed game refusal
unplayed_after game first place refusal same settles why =
    unplayed (subst (λ (from : AbstractPlace). Settles game from place) same settles) why

pub played_after : (game : AbstractGame) (first place : AbstractPlace) (count : ℕ) (counted : List Counted) → first ≡ start_place game → Settles game first place → AreTallied game place count counted → ArePlayouts game count counted
played_after game first place count counted same settles tallied = record {
  place = place;
  begins = subst (λ (from : AbstractPlace). Settles game from place) same settles;
  tallied = tallied;
}

-- the text tells of them
pub tells_so : (game same : AbstractGame) (count : ℕ) (tallies : List EndingTally) (old text : List ℕ) → ArePlayouts game count (map counted_by tallies) → same ≡ game → old ≡ [] → text ≡ old ++ summary_text same.players count (map counted_by tallies) → TellsPlayouts game count text
tells_so game same count tallies old text played is none written = record {
  counted = map counted_by tallies;
  played = played;
  told = written ∙ (ap (λ front. front ++ summary_text same.players count (map counted_by tallies)) none ∙ ap (λ (g : AbstractGame). summary_text g.players count (map counted_by tallies)) is);
}

-- so many matches are few
pub few_playouts : (game : AbstractGame) (count : ℕ) (tallies : List EndingTally) → IsCount count → ArePlayouts game count (map counted_by tallies) → AreFew tallies
few_playouts game count tallies so played = record {
  matches = omega (arith, so.1, played.tallied.sum);
  moves = omega (arith, so.1, few_tallied game played.place count (map counted_by tallies) played.tallied);
}
