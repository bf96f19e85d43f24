-- Entries that lead on, and why others don't.
use Rattle.std.proofs.Common.{◌≡◌, ◌≢◌, ℕ, ◌<◌, ◌≤◌, Bool, true, false, List, Option, Some, None, Result, Ok, Err, refl, sym, ◌∙◌, subst, arith, IfErr, IfOk}
use Rattle.rbg_wire.specs.declared.outcome.Outcome.{Outcome}
use Rattle.rbg_wire.specs.declared.outcome.Outcome.TheVariants.{Finished, Time, Refusals, Gone, Heavy}
use Rattle.rbg_rules.specs.Meaning.{AbstractGame, AbstractPlace, Legal}
use Rattle.rbg_rules.specs.Moves as moves
use Rattle.rbg_record.specs.declared.entry.Entry.{Entry}
use Rattle.rbg_record.specs.declared.entry.Entry.TheVariants.{Move, End}
use Rattle.rbg_record.specs.declared.entry.Timed.{Timed}
use Rattle.rbg_match.proofs.Common.{FitsOutcome, HasTurn, latest_moment}
use Rattle.rbg_record.specs.Entries.{SpellsIn}
use Rattle.rbg_record.specs.Reading.{HasContent}
use Rattle.rbg_record.proofs.Common.{LineFault, turn_config, FitsUnasked, MatchSoFar, Reached, nothing_next, entry_next, IsMomentFor, EntryLeads, Leads, play_at, RefusesEntry, Refuses, reached_of, EndsSo, SomeIsLegal, IsReachedIn, next_of}
use Rattle.rbg_record.specs.declared.fault.LineFault.TheVariants.{Form, Bad, Over, Memory}
use Rattle.rbg_record.specs.declared.line.Content.TheVariants as contents
use Rattle.rbg_record.specs.ByLine.{ReadsLine}
use Rattle.rbg_record.specs.Lines as lines
use Rattle.rbg_record.specs.declared.reached.Reached.{Reached as CodeReached}
use Rattle.rbg_record.specs.declared.reached.Reached.TheVariants as code
use Rattle.rbg_record.proofs.Deciding.{one_told}

-- what holds of an entry that leads on
record IsRightMove (game : AbstractGame) (match_so_far : MatchSoFar) (at player : ℕ) (pairs : List (ℕ × ℕ)) : Type 0 where
  pub mover : player ≡ match_so_far.place.state.player
  pub moment : IsMomentFor match_so_far player at
  pub counted : at ≤ latest_moment
  pub to : AbstractPlace
  pub legal : Legal game match_so_far.place pairs to

abbrev HasRight : AbstractGame → MatchSoFar → ℕ → Entry → Type 0
HasRight game match_so_far at (Move player pairs) = IsRightMove game match_so_far at player pairs
HasRight game match_so_far at (End outcome) = FitsOutcome game (turn_config match_so_far.turn_ms) (play_at match_so_far outcome) match_so_far.last at outcome × (at ≤ latest_moment)

has_right : (game : AbstractGame) (match_so_far : MatchSoFar) (told : Timed) (to : Reached) → EntryLeads game match_so_far told to → HasRight game match_so_far told.at told.entry
has_right game match_so_far told to (lines.move {to = next} mover moment counted legal) = record { mover = mover; moment = moment; counted = counted; to = next; legal = legal }
has_right game match_so_far told to (lines.end fits counted) = (fits, counted)

fits_unasked : (game : AbstractGame) (match_so_far : MatchSoFar) (at : ℕ) (entry : Entry) → HasRight game match_so_far at entry → FitsUnasked game match_so_far at entry
fits_unasked game match_so_far at (Move player pairs) right = (right.mover, right.moment)
fits_unasked game match_so_far at (End None) right = (right.0.0.0.player, right.0.1)
fits_unasked game match_so_far at (End (Some (Finished scores))) right = right.0.2
fits_unasked game match_so_far at (End (Some (Time player))) right = (right.0.1, (λ (keeper : player ≡ 0). right.0.0.0.player (sym right.0.1 ∙ keeper)), right.0.2)
fits_unasked game match_so_far at (End (Some (Refusals player))) right = ((right.0.0.0.player, right.0.1), right.0.2, right.0.3)
fits_unasked game match_so_far at (End (Some (Gone player))) right = ((right.0.0.0.player, right.0.1), right.0.2, right.0.3)
fits_unasked game match_so_far at (End (Some Heavy)) right = right.0

is_counted : (game : AbstractGame) (match_so_far : MatchSoFar) (at : ℕ) (entry : Entry) → HasRight game match_so_far at entry → at ≤ latest_moment
is_counted game match_so_far at (Move player pairs) right = right.counted
is_counted game match_so_far at (End outcome) right = right.1

-- a moment that is not counted
pub too_late : (game : AbstractGame) (match_so_far : MatchSoFar) (told : Timed) → latest_moment < told.at → (to : Reached) → EntryLeads game match_so_far told to → ⊥
too_late game match_so_far told late to leads =
    let counted = is_counted game match_so_far told.at told.entry (has_right game match_so_far told to leads) in
    omega arith

-- what needs no question is wrong
pub unfit : (game : AbstractGame) (match_so_far : MatchSoFar) (told : Timed) → (FitsUnasked game match_so_far told.at told.entry → ⊥) → (to : Reached) → EntryLeads game match_so_far told to → ⊥
unfit game match_so_far told wrong to leads = wrong (fits_unasked game match_so_far told.at told.entry (has_right game match_so_far told to leads))

-- a move that isn't legal
pub illegal_move : (game : AbstractGame) (match_so_far : MatchSoFar) (at player : ℕ) (pairs : List (ℕ × ℕ)) → ((to : AbstractPlace) → Legal game match_so_far.place pairs to → ⊥) → (to : Reached) → EntryLeads game match_so_far (record { at = at; entry = Move player pairs }) to → ⊥
illegal_move game match_so_far at player pairs never to leads =
    let right : IsRightMove game match_so_far at player pairs = has_right game match_so_far (record { at = at; entry = Move player pairs }) to leads in
    never right.to right.legal

pub legal_move : (game : AbstractGame) (match_so_far : MatchSoFar) (at player : ℕ) (pairs : List (ℕ × ℕ)) (to : AbstractPlace) → FitsUnasked game match_so_far at (Move player pairs) → at ≤ latest_moment → Legal game match_so_far.place pairs to → EntryLeads game match_so_far (record { at = at; entry = Move player pairs }) (entry_next (record match_so_far { last = at; place = to }))
legal_move game match_so_far at player pairs to fits counted legal = lines.move fits.0 fits.1 counted legal

has_turn : (game : AbstractGame) (place : AbstractPlace) → place.state.player ≢ 0 → SomeIsLegal game place → HasTurn game place
has_turn game place player some = record { player = player; pairs = some.0; to = some.1.0; legal = some.1.1 }

-- an end that is possible, after a question has found whether play is finished
fits_end : (game : AbstractGame) (match_so_far : MatchSoFar) (at : ℕ) (finished : Bool) (outcome : Option Outcome) → (finished ≡ true → moves.Finished game match_so_far.place) → (finished ≡ false → SomeIsLegal game match_so_far.place) → FitsUnasked game match_so_far at (End outcome) → EndsSo game match_so_far.place finished outcome → FitsOutcome game (turn_config match_so_far.turn_ms) (play_at match_so_far outcome) match_so_far.last at outcome
fits_end game match_so_far at finished None over going fits ends = ((has_turn game match_so_far.place fits.0 (going ends), refl), fits.1)
fits_end game match_so_far at finished (Some (Finished scores)) over going fits ends = (over ends.0, ends.1, fits)
fits_end game match_so_far at finished (Some (Time player)) over going fits ends = ((has_turn game match_so_far.place (λ (keeper : match_so_far.place.state.player ≡ 0). fits.1 (fits.0 ∙ keeper)) (going ends), refl), fits.0, fits.2)
fits_end game match_so_far at finished (Some (Refusals player)) over going fits ends = ((has_turn game match_so_far.place fits.0.0 (going ends), refl), fits.0.1, fits.1, fits.2)
fits_end game match_so_far at finished (Some (Gone player)) over going fits ends = ((has_turn game match_so_far.place fits.0.0 (going ends), refl), fits.0.1, fits.1, fits.2)
fits_end game match_so_far at finished (Some Heavy) over going fits ends = fits

pub right_end : (game : AbstractGame) (match_so_far : MatchSoFar) (at : ℕ) (finished : Bool) (outcome : Option Outcome) → (finished ≡ true → moves.Finished game match_so_far.place) → (finished ≡ false → SomeIsLegal game match_so_far.place) → FitsUnasked game match_so_far at (End outcome) → at ≤ latest_moment → EndsSo game match_so_far.place finished outcome → EntryLeads game match_so_far (record { at = at; entry = End outcome }) nothing_next
right_end game match_so_far at finished outcome over going fits counted ends = lines.end (fits_end game match_so_far at finished outcome over going fits ends) counted

-- one that could not
is_going : (game : AbstractGame) (place : AbstractPlace) (finished : Bool) → (finished ≡ true → moves.Finished game place) → HasTurn game place → finished ≡ false
is_going game place false over turn = refl
is_going game place true over turn = absurd ((over refl).no_move turn.pairs turn.to turn.legal)

is_over : (game : AbstractGame) (place : AbstractPlace) (finished : Bool) → (finished ≡ false → SomeIsLegal game place) → moves.Finished game place → finished ≡ true
is_over game place true going over = refl
is_over game place false going over = let some = going refl in absurd (over.no_move some.0 some.1.0 some.1.1)

ends_so : (game : AbstractGame) (match_so_far : MatchSoFar) (at : ℕ) (finished : Bool) (outcome : Option Outcome) → (finished ≡ true → moves.Finished game match_so_far.place) → (finished ≡ false → SomeIsLegal game match_so_far.place) → HasRight game match_so_far at (End outcome) → EndsSo game match_so_far.place finished outcome
ends_so game match_so_far at finished None over going right = is_going game match_so_far.place finished over right.0.0.0
ends_so game match_so_far at finished (Some (Finished scores)) over going right = (is_over game match_so_far.place finished going right.0.0, right.0.1)
ends_so game match_so_far at finished (Some (Time player)) over going right = is_going game match_so_far.place finished over right.0.0.0
ends_so game match_so_far at finished (Some (Refusals player)) over going right = is_going game match_so_far.place finished over right.0.0.0
ends_so game match_so_far at finished (Some (Gone player)) over going right = is_going game match_so_far.place finished over right.0.0.0
ends_so game match_so_far at finished (Some Heavy) over going right = tt

pub wrong_end : (game : AbstractGame) (match_so_far : MatchSoFar) (at : ℕ) (finished : Bool) (outcome : Option Outcome) → (finished ≡ true → moves.Finished game match_so_far.place) → (finished ≡ false → SomeIsLegal game match_so_far.place) → ¬ EndsSo game match_so_far.place finished outcome → (to : Reached) → ¬ EntryLeads game match_so_far (record { at = at; entry = End outcome }) to
wrong_end game match_so_far at finished outcome over going wrong to leads =
    wrong (ends_so game match_so_far at finished outcome over going (has_right game match_so_far (record { at = at; entry = End outcome }) to leads))

-- an end above the limits
pub heavy_end : (game : AbstractGame) (match_so_far : MatchSoFar) (at : ℕ) (outcome : Option Outcome) → outcome ≡ Some Heavy → FitsUnasked game match_so_far at (End outcome) → at ≤ latest_moment → EntryLeads game match_so_far (record { at = at; entry = End outcome }) nothing_next
heavy_end game match_so_far at outcome is fits counted =
    subst (λ end. EntryLeads game match_so_far (record { at = at; entry = End end }) nothing_next) (sym is)
    (lines.end (subst (λ end. FitsUnasked game match_so_far at (End end)) is fits) counted)

-- the same of a line
entry_after : (game : AbstractGame) (match_so_far : MatchSoFar) (text : List ℕ) (told : Timed) (to : Reached) → SpellsIn match_so_far.version text told → Leads game (entry_next match_so_far) text to → EntryLeads game match_so_far told to
entry_after game match_so_far text told to spells (lines.entry {told = other} spells' leads) =
    subst (λ (entry : Timed). EntryLeads game match_so_far entry to) (one_told match_so_far.version text other told spells' spells) leads

pub refused_line : (game : AbstractGame) (match_so_far : MatchSoFar) (text : List ℕ) {A : Type 0} (told : Timed) (result : Result A LineFault) → SpellsIn match_so_far.version text told → IfErr result (RefusesEntry game match_so_far told) → IfErr result (Refuses game (entry_next match_so_far) text)
refused_line game match_so_far text told (Ok to) spells refuses = tt
refused_line game match_so_far text told (Err Form) spells refuses = absurd refuses
refused_line game match_so_far text told (Err Bad) spells refuses = ((told, spells), λ to leads. refuses to (entry_after game match_so_far text told to spells leads))
refused_line game match_so_far text told (Err Over) spells refuses = record { match_so_far = match_so_far; here = refl; told = told; form = spells; heavy = refuses }
refused_line game match_so_far text told (Err Memory) spells refuses = tt

pub same_refusal : {A : Type 0} (game : AbstractGame) (match_so_far : MatchSoFar) (told : Timed) (entry : Entry) (result : Result A LineFault) → told.entry ≡ entry → IfErr result (RefusesEntry game match_so_far (record { at = told.at; entry = entry })) → IfErr result (RefusesEntry game match_so_far told)
same_refusal game match_so_far told entry result is refuses =
    subst (λ (other : Entry). IfErr result (RefusesEntry game match_so_far (record { at = told.at; entry = other }))) (sym is) refuses

pub line_leads : (game : AbstractGame) (match_so_far : MatchSoFar) (text : List ℕ) (told : Timed) (result : Result CodeReached LineFault) → SpellsIn match_so_far.version text told → IfOk result (λ to. EntryLeads game match_so_far told (reached_of to)) → IfOk result (λ to. Leads game (entry_next match_so_far) text (reached_of to))
line_leads game match_so_far text told (Ok to) spells leads = lines.entry spells leads
line_leads game match_so_far text told (Err fault) spells leads = tt

-- a line that was read as this entry, if an entry comes next
pub entry_read : (game : AbstractGame) (reached : CodeReached) (match_so_far : MatchSoFar) (text : List ℕ) (told : Timed) (result : Result CodeReached LineFault) → reached ≡ code.Entry match_so_far → HasContent (next_of (reached_of reached)) text (contents.Entry told) → IfOk result (λ to. EntryLeads game match_so_far told (reached_of to)) → IfOk result (λ to. IsReachedIn game (reached_of to)) → IfErr result (RefusesEntry game match_so_far told) → ReadsLine game (reached_of reached) text result
entry_read game reached match_so_far text told result is says leads in_game refused =
    let spells : SpellsIn match_so_far.version text told = subst (λ (one : CodeReached). HasContent (next_of (reached_of one)) text (contents.Entry told)) is says in
    subst (λ (one : CodeReached). ReadsLine game (reached_of one) text result) (sym is) (record {
      leads = line_leads game match_so_far text told result spells leads;
      in_game = in_game;
      refused = refused_line game match_so_far text told result spells refused;
    })

-- none is read as an entry elsewhere
pub no_entry : {X : Type 0} (reached : CodeReached) (text : List ℕ) (told : Timed) → ((match_so_far : MatchSoFar) → reached ≡ code.Entry match_so_far → ⊥) → HasContent (next_of (reached_of reached)) text (contents.Entry told) → X
no_entry (code.Entry match_so_far) text told never says = absurd (never match_so_far refl)
no_entry _ text told never says = absurd says
