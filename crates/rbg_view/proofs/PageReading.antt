-- What was read of a record, line by line, and what it tells.
use Rattle.std.proofs.Common.{◌≡◌, ℕ, List, [], ◌∷◌, ◌++◌, Option, sym, ◌∙◌, subst, IfSome, IfNone, Some, None}
use Rattle.rbg_rules.specs.Meaning.{AbstractGame}
use Rattle.rbg_record.specs.declared.entry.Entry.{Entry}
use Rattle.rbg_record.specs.declared.entry.Timed.{Timed}
use Rattle.rbg_record.specs.declared.heading.Version.{Version}
use Rattle.rbg_record.specs.declared.line.Content.{Content}
use Rattle.rbg_record.specs.declared.line.Content.TheVariants as contents
use Rattle.rbg_record.specs.declared.next.Next.{Next}
use Rattle.rbg_record.specs.declared.next.Next.TheVariants as nexts
use Rattle.rbg_record.proofs.LineCommon.{BeginsWith, Left, HasContent, SpellsIn}
use Rattle.rbg_record.proofs.Stopping.{IsReadSoFar, read_as}
use Rattle.rbg_record.proofs.Common.{Reached, version_next, players_next, start_next, entry_next, nothing_next, next_of, Leads, LeadTo}
use Rattle.rbg_record.specs.Lines as lines
use Rattle.rbg_record.proofs.Deciding.{good_by_lines, one_told}
use Rattle.rbg_record.proofs.Saying.{ended}
use Rattle.rbg_record.proofs.SoFarLemmas.{IsJudgedSoFar, judged_whole}
use Rattle.rbg_view.specs.Telling.{Told, Tells, IsByPlayer, IsMoveIn, IsPlayersMove, IsTelling, told_more}
use Rattle.rbg_view.specs.Telling as telling

-- The lines of these texts are right in turn, and this is what they tell.
abbrev pub AreTold : AbstractGame → (texts : List (List ℕ)) → Reached × Told → Type 0
AreTold game texts so_far = Tells game texts so_far.0 so_far.1

-- one line more
pub tell_one : (game : AbstractGame) (texts : List (List ℕ)) (text : List ℕ) (from to : Reached) (told new : Told) (moved : Option (List (ℕ × ℕ))) → Leads game from text to → IsMoveIn from text moved → new ≡ told_more told text to moved → AreTold game texts (from, told) → AreTold game (texts ++ text ∷ []) (to, new)
tell_one game texts text from to told new moved leads is_move more tells =
    subst (λ (one : Told). Tells game (texts ++ text ∷ []) to one) (sym more) (telling.one_more moved tells leads is_move)

lead_to : (game : AbstractGame) (texts : List (List ℕ)) (to : Reached) (told : Told) → Tells game texts to told → LeadTo game texts to
lead_to game texts to told telling.nothing = lines.none
lead_to game texts to told (telling.one_more {texts = before} {from = from} {told = earlier} moved tells leads is_move) = lines.more (lead_to game before from earlier tells) leads

module _ {game : AbstractGame} {bytes : List ℕ} {reached : Reached} {told : Told} {left : Left} (so_far : IsReadSoFar (AreTold game) bytes (reached, told) left) where
  pub judged : IsJudgedSoFar game bytes reached left
  judged = read_as reached so_far (λ texts tells. lead_to game texts reached told tells)

  -- no line is left, and the record has ended
  pub told_whole : {next : Next} → next ≡ next_of reached → (next ≡ nexts.Nothing) × (left.rest ≡ []) → IsTelling game bytes told
  told_whole {next} expected over = record {
    right = (good_by_lines game bytes).0 (judged_whole judged expected over);
    texts = so_far.texts;
    begins = subst (λ (rest : List ℕ). BeginsWith bytes so_far.texts rest) over.1 so_far.begins;
    tells = subst (λ (to : Reached). Tells game so_far.texts to told) (ended reached (sym expected ∙ over.0)) so_far.leads;
  }

-- the player's move of an entry that a text spells
pub entry_moves : (reached : Reached) (text : List ℕ) (told : Timed) (moved : Option (List (ℕ × ℕ))) → IfSome moved (IsByPlayer told.entry) → IfNone moved ((pairs : List (ℕ × ℕ)) → ¬ IsByPlayer told.entry pairs) → HasContent (next_of reached) text (contents.Entry told) → IsMoveIn reached text moved
entry_moves (entry_next standing) text told None found none says = λ pairs move.
    none pairs (subst (λ (one : Timed). IsByPlayer one.entry pairs) (one_told standing.version text move.told told move.spells says) move.by_player)
entry_moves (entry_next standing) text told (Some pairs) found none says = record { told = told; spells = says; by_player = found }
entry_moves _ text told moved found none says = absurd says

-- another line tells no move
abbrev IsNoEntry : Content → Type 0
IsNoEntry (contents.Entry told) = ⊥
IsNoEntry _ = Unit {0}

pub no_move : (reached : Reached) (text : List ℕ) (content : Content) → IsNoEntry content → HasContent (next_of reached) text content → IsMoveIn reached text None
no_move (entry_next standing) text (contents.Entry told) other says = absurd other
no_move (entry_next standing) text _ other says = absurd says
no_move _ text content other says = tt
