-- A record, followed line by line to a place.
use Rattle.rbg_base.proofs.Common.{◌≡◌, ℕ, List, [], ◌∷◌, ◌++◌, refl, sym, ◌∙◌, subst}
use Rattle.rbg_rules.specs.Meaning.{AbstractPlace, AbstractGame}
use Rattle.rbg_record.specs.declared.next.Next.{Next}
use Rattle.rbg_record.specs.declared.next.Next.TheVariants as nexts
use Rattle.rbg_record.proofs.LineCommon.{BeginsWith, Left}
use Rattle.rbg_record.proofs.Stopping.{IsReadSoFar, read_as}
use Rattle.rbg_record.proofs.Common.{EndsAt, IsAt, IsPlaceAfter, IsRightRecord, LeadTo, Leads, Reached, ends_at, next_of, place_in}
use Rattle.rbg_record.specs.Lines as lines
use Rattle.rbg_record.proofs.Deciding.{good_by_lines}
use Rattle.rbg_record.proofs.Saying.{ended}
use Rattle.rbg_record.proofs.SoFarLemmas.{IsJudgedSoFar, judged_whole}

-- The lines of these texts are right in turn, and lead to this place.
abbrev pub AreFollowed : AbstractGame → (texts : List (List ℕ)) → Reached × AbstractPlace → Type 0
AreFollowed game texts so_far = LeadTo game texts so_far.0 × IsAt game texts so_far.0 so_far.1

-- one line more leads to its place
at_next : (game : AbstractGame) (texts : List (List ℕ)) (text : List ℕ) (from to : Reached) (place : AbstractPlace) → LeadTo game texts from → Leads game from text to → IsAt game texts from place → IsAt game (texts ++ text ∷ []) to (place_in to place)
at_next game texts text from to place led (lines.version_1 is) at = refl
at_next game texts text from to place led (lines.version_2 is) at = tt
at_next game texts text from to place led (lines.players spells) at = tt
at_next game texts text from to place led (lines.start spells lawful counted) at = refl
at_next game texts text from to place led (lines.entry spells (lines.move mover moment counted legal)) at = refl
at_next game texts text from to place led (lines.entry spells (lines.end fits counted)) at = subst (EndsAt game (texts ++ text ∷ [])) at (ends_at text led)

pub follow_one : (game : AbstractGame) (texts : List (List ℕ)) (text : List ℕ) (from to : Reached) (place new : AbstractPlace) → Leads game from text to → new ≡ place_in to place → AreFollowed game texts (from, place) → AreFollowed game (texts ++ text ∷ []) (to, new)
follow_one game texts text from to place new leads is followed =
    (lines.more followed.0 leads, subst (IsAt game (texts ++ text ∷ []) to) (sym is) (at_next game texts text from to place followed.0 leads followed.1))

module _ {game : AbstractGame} {bytes : List ℕ} {reached : Reached} {place : AbstractPlace} {left : Left} (so_far : IsReadSoFar (AreFollowed game) bytes (reached, place) left) where
  pub judged : IsJudgedSoFar game bytes reached left
  judged = read_as reached so_far (λ texts followed. followed.0)

  -- the record's bytes are those of lines of which the last is the end
  after_end : {texts : List (List ℕ)} → IsRightRecord game bytes → BeginsWith bytes texts [] → EndsAt game texts place → IsPlaceAfter game bytes place
  after_end right begins (ends_at {before} {match_so_far} last leads) =
      record { right = right; texts = before; last = last; begins = begins; match_so_far = match_so_far; leads = leads; here = refl }

  -- no line is left, and the record has ended
  pub followed_whole : {next : Next} → next ≡ next_of reached → (next ≡ nexts.Nothing) × (left.rest ≡ []) → IsPlaceAfter game bytes place
  followed_whole {next} expected over =
      after_end ((good_by_lines game bytes).0 (judged_whole judged expected over))
      (subst (λ rest. BeginsWith bytes so_far.texts rest) over.1 so_far.begins)
      (subst (λ to. IsAt game so_far.texts to place) (ended reached (sym expected ∙ over.0)) so_far.leads.1)
