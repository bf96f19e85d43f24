-- A record that is read and judged line by line.
use Rattle.rbg_base.proofs.Common.{◌≡◌, ℕ, List, [], sym, ap, ◌∙◌, subst}
use Rattle.rbg_rules.specs.Meaning.{AbstractPlace, IsPlaceOf, AbstractGame}
use Rattle.rbg_record.specs.declared.form_error.FormError.{FormError}
use Rattle.rbg_record.specs.declared.line.RecordLine.{RecordLine}
use Rattle.rbg_record.specs.declared.next.Next.{Next}
use Rattle.rbg_record.specs.declared.next.Next.TheVariants as nexts
use Rattle.rbg_record.proofs.LineCommon.{BeginsWith, IsFirstLine, Left, Misreads, TakesLine}
use Rattle.rbg_record.specs.Reading as reading
use Rattle.rbg_record.proofs.Stopping.{IsReadSoFar, begins_more, goes_on_so, not_formed, read_stops}
use Rattle.rbg_record.proofs.Common.{LineFault, Misfit, Reached, version_next, players_next, start_next, entry_next, nothing_next, next_of, LeadTo, IsGoodByLines, IsLineOf, IsMisfit, IsReachedIn, Refuses, place_in}
use Rattle.rbg_record.specs.declared.fault.LineFault.TheVariants.{Form, Bad, Over, Memory}
use Rattle.rbg_record.proofs.Saying.{ended}

-- the place that is reached is one of the game
pub place_in_game : (game : AbstractGame) (to : Reached) (before : AbstractPlace) → IsReachedIn game to → IsPlaceOf game before → IsPlaceOf game (place_in to before)
place_in_game game version_next before reached_in in_game = in_game
place_in_game game players_next before reached_in in_game = in_game
place_in_game game start_next before reached_in in_game = in_game
place_in_game game (entry_next match_so_far) before reached_in in_game = reached_in
place_in_game game nothing_next before reached_in in_game = in_game

-- The lines before what is left are right in turn and lead there.
abbrev pub IsJudgedSoFar : AbstractGame → List ℕ → Reached → Left → Type 0
IsJudgedSoFar game bytes reached left = IsReadSoFar (LeadTo game) bytes reached left

module _ {game : AbstractGame} {bytes : List ℕ} {reached : Reached} {left : Left} (so_far : IsJudgedSoFar game bytes reached left) where
  -- what is left is not of the form
  pub misread : {next : Next} (error : FormError) (misfit : Misfit) → misfit ≡ record { line = error.line; fault = Form } → next ≡ next_of reached → Misreads next left error → IsMisfit game bytes misfit
  misread {next} error misfit is expected reads =
      subst (IsMisfit game bytes) (sym is)
      (read_stops so_far reads.number
      (λ goes_on. reads.stops (goes_on_so left.rest (λ over. expected ∙ ap next_of over) (λ text form. subst (λ (one : Next). reading.HasForm one text) (sym expected) form) goes_on)))

  -- the next line
  line_here : (line : ℕ) (text later : List ℕ) → line ≡ left.number → IsFirstLine left.rest text later → IsLineOf bytes line so_far.texts text
  line_here line text later is first = record {
    rest = later;
    begins = begins_more bytes so_far.texts text left.rest later so_far.begins first;
    number = is ∙ so_far.number;
  }

  -- a line with a fault
  line_fault : (line : ℕ) (text later : List ℕ) (fault : LineFault) → line ≡ left.number → IsFirstLine left.rest text later → Refuses game reached text fault → IsMisfit game bytes (record { line = line; fault = fault })
  line_fault line text later Form is first refuses = read_stops so_far is (not_formed _ _ left.rest text later first refuses)
  line_fault line text later Bad is first refuses = record {
    texts = so_far.texts;
    text = text;
    here = line_here line text later is first;
    reached = reached;
    leads = so_far.leads;
    form = refuses.0;
    wrong = refuses.1;
  }
  line_fault line text later Over is first refuses = record {
    texts = so_far.texts;
    text = text;
    here = line_here line text later is first;
    match_so_far = refuses.match_so_far;
    leads = subst (λ (to : Reached). LeadTo game so_far.texts to) refuses.here so_far.leads;
    told = refuses.told;
    form = refuses.form;
    counted = refuses.heavy.counted;
    fits = refuses.heavy.fits;
    asks = refuses.heavy.asks;
  }
  line_fault line text later Memory is first refuses = tt

  pub misjudged : {next : Next} {new : Left} (line : RecordLine) (misfit : Misfit) → TakesLine next left new line → (misfit.line ≡ line.number) × Refuses game reached line.text.now misfit.fault → IsMisfit game bytes misfit
  misjudged {next} {new} line misfit takes refused = line_fault misfit.line line.text.now new.rest misfit.fault (refused.0 ∙ takes.number) takes.first refused.1

  -- no line is left, and the record has ended
  pub judged_whole : {next : Next} → next ≡ next_of reached → (next ≡ nexts.Nothing) × (left.rest ≡ []) → IsGoodByLines game bytes
  judged_whole {next} expected over = record {
    texts = so_far.texts;
    begins = subst (λ (rest : List ℕ). BeginsWith bytes so_far.texts rest) over.1 so_far.begins;
    leads = subst (λ (to : Reached). LeadTo game so_far.texts to) (ended reached (sym expected ∙ over.0)) so_far.leads;
  }
