-- Version 2 of a record of version 1, line by line.
use Rattle.rbg_base.proofs.Common.{◌≡◌, ℕ, List, [], ◌∷◌, ◌++◌, map, Option, refl, sym, ap, ◌∙◌, subst, arith, append-nil, append_assoc, All, Result, Ok, Err, IfErr, IfOk, ◌↔◌, flat_map-append, map-append, All-nil, All-cons, All-head, All-tail, All-push}
use Rattle.rbg_wire.proofs.Common.{line_of, lines_of}
use Rattle.rbg_wire.specs.declared.outcome.Outcome.{Outcome}
use Rattle.rbg_rules.specs.Meaning.{AbstractGame, AbstractPlace}
use Rattle.rbg_record.specs.declared.entry.Entry.{Entry}
use Rattle.rbg_record.specs.declared.entry.Entry.TheVariants.{Move, End}
use Rattle.rbg_record.specs.declared.entry.Timed.{Timed}
use Rattle.rbg_record.specs.declared.form_error.FormError.{FormError}
use Rattle.rbg_record.specs.declared.heading.Start.{Start}
use Rattle.rbg_record.specs.declared.heading.Version.{Version}
use Rattle.rbg_record.specs.declared.heading.Version.TheVariants.{One, Two}
use Rattle.rbg_record.specs.declared.line.Content.{Content}
use Rattle.rbg_record.specs.declared.line.Content.TheVariants as contents
use Rattle.rbg_record.specs.declared.line.RecordLine.{RecordLine}
use Rattle.rbg_record.specs.declared.next.Next.{Next}
use Rattle.rbg_record.specs.declared.next.Next.TheVariants as nexts
use Rattle.rbg_record.proofs.Stopping.{IsReadSoFar, goes_on_so, not_formed, read_as, read_stops}
use Rattle.rbg_record.proofs.LineCommon.{entry_text, timed_text, EntryHasSpelling, TimedHasSpelling, SpellsEntry, version_text, players_text, start_text, HaveNames, HasForm, Left, Misreads, HasContent, TakesLine, next_after}
use Rattle.rbg_match.specs.declared.made.Made.{Made}
use Rattle.rbg_match.specs.History.{LeadsTo, MadeInTurn}
use Rattle.rbg_match.specs.History as history
use Rattle.rbg_record.specs.Entries.{unwritten_moment, with_moment}
use Rattle.rbg_record.proofs.Common.{RecordError, Form, PlainMove, PlainRecord, plain, timed, plain_entry, made_entry, texts_of, made_at, turn_config, recorded_play, IsRight, IsRightPlain, IsRightTimed, PlainPart, before_version, among_moves, beyond_end, HasPlainForm, IsPlainSoFar, IsPlainFault, IsMigrated, migrated, AreMigrated, IsPlainNext, IsPlainRefusal, Migrates, MigratesLine, TellsAll, IsWritten, head_texts, part_of, timed_texts}
use Rattle.rbg_record.specs.declared.error.RecordError.TheVariants as error
use Rattle.rbg_record.specs.Migration as migration
use Rattle.rbg_record.specs.internal.Migrating as migrating
use Rattle.rbg_record.specs.internal.Migrating.{RefusesPlain, RefusesVersion}
use Rattle.rbg_record.proofs.Fitting.{fits_place, fits_unwritten}
use Rattle.rbg_record.proofs.Leading.{unwritten_counted, all_first, all_last}
use Rattle.rbg_record.proofs.Deciding.{no_versions}
use Rattle.rbg_record.proofs.Telling.{in_turn_more}

-- one line
entry_told : (game : AbstractGame) (text : List ℕ) (at : ℕ) (entry : Entry) (old new : List ℕ) → SpellsEntry text entry → new ≡ old ++ line_of (timed_text (with_moment entry)) → Migrates game among_moves text (part_of (next_after (nexts.Entry One) entry)) old new
entry_told game text at (Move player pairs) old new spells told = migrating.move spells told
entry_told game text at (End outcome) old new spells told = migrating.end spells told

plain_still : (entry : Entry) → IsPlainNext (next_after (nexts.Entry One) entry)
plain_still (Move player pairs) = tt
plain_still (End outcome) = tt

pub version_migrates : (game : AbstractGame) (next : Next) (text : List ℕ) (version : Version) (old new : List ℕ) → version ≡ One → HasContent next text (contents.Version version) → new ≡ old ++ lines_of (head_texts game) → MigratesLine game next text (nexts.Entry One) old new
version_migrates game nexts.Version text version old new one is told =
    record { migrates = migrating.version (subst (λ (which : Version). text ≡ version_text which) one is) told; plain = tt }
version_migrates game _ text version old new one is told = absurd is

pub entry_migrates : (game : AbstractGame) (next : Next) (text : List ℕ) (told : Timed) (to : Next) (old new : List ℕ) → IsPlainNext next → HasContent next text (contents.Entry told) → new ≡ old ++ line_of (timed_text told) → to ≡ next_after next told.entry → MigratesLine game next text to old new
entry_migrates game (nexts.Entry One) text told to old new is_plain says written is =
    let same : told ≡ with_moment told.entry = λ i. record { at = says.1 i; entry = told.entry } in
    subst (λ (next : Next). MigratesLine game (nexts.Entry One) text next old new) (sym is) (record {
      migrates = entry_told game text told.at told.entry old new says.0 (written ∙ ap (λ (one : Timed). old ++ line_of (timed_text one)) same);
      plain = plain_still told.entry;
    })
entry_migrates game (nexts.Entry Two) text told to old new is_plain says written is = absurd is_plain
entry_migrates game _ text told to old new is_plain says written is = absurd says

-- a line of version 2 has no form of version 1
pub not_plain_version : (next : Next) (text : List ℕ) (version : Version) → version ≡ Two → HasContent next text (contents.Version version) → HasPlainForm (part_of next) text → ⊥
not_plain_version nexts.Version text version two is one = no_versions text one (subst (λ (which : Version). text ≡ version_text which) two is)
not_plain_version _ text version two is one = absurd is

-- what comes of a line with a version
pub version_line : (game : AbstractGame) (next : Next) (text : List ℕ) (version : Version) (old new : List ℕ) (result : Result Next RecordError) → HasContent next text (contents.Version version) → IfOk result (λ to. (text : List ℕ) → text ≡ version_text version → MigratesLine game nexts.Version text to old new) → IfOk result (λ to. MigratesLine game next text to old new)
version_line game nexts.Version text version old new (Ok to) says migrates = migrates text says
version_line game _ text version old new (Ok to) says migrates = absurd says
version_line game next text version old new (Err refusal) says migrates = tt

pub version_refused : (line : RecordLine) (version : Version) (result : Result Next RecordError) → line.content ≡ contents.Version version → IfErr result (RefusesVersion version line.number) → IfErr result (RefusesPlain line)
version_refused line version (Ok to) is refused = tt
version_refused line version (Err (error.Form number)) is refused =
    (refused.0, λ next is_plain says. not_plain_version next line.text.now version refused.1 (subst (λ (content : Content). HasContent next line.text.now content) is says))
version_refused line version (Err (error.Over number)) is refused = refused
version_refused line version (Err error.Memory) is refused = tt

pub no_players : (next : Next) (text : List ℕ) (names : _) → IsPlainNext next → HasContent next text (contents.Players names) → ⊥
no_players nexts.Players text names is_plain says = is_plain
no_players _ text names is_plain says = says

pub no_start : (next : Next) (text : List ℕ) (start : Start) → IsPlainNext next → HasContent next text (contents.Start start) → ⊥
no_start nexts.Start text start is_plain says = is_plain
no_start _ text start is_plain says = says

-- lines with one more
lines_push : (texts : List (List ℕ)) (text : List ℕ) → lines_of (texts ++ text ∷ []) ≡ lines_of texts ++ line_of text
lines_push texts text = flat_map-append line_of texts (text ∷ []) ∙ ap (λ bytes. lines_of texts ++ bytes) (append-nil (line_of text))

abbrev moved_text : PlainMove → List ℕ
moved_text move = timed_text (with_moment (plain_entry move))

told_more : (game : AbstractGame) (texts : List (List ℕ)) (text : List ℕ) (from to : PlainPart) (old new : List ℕ) → IsWritten game from texts old → Migrates game from text to old new → IsWritten game to (texts ++ text ∷ []) new
told_more game texts text from to old new tells (migrating.version is told) = record {
  moves = [];
  has = All-nil EntryHasSpelling;
  are = λ i. tells.0 i ++ is i ∷ [];
  told = told ∙ ap (λ bytes. bytes ++ lines_of (head_texts game)) tells.1 ∙ ap lines_of (sym (append-nil (head_texts game)));
}
told_more game texts text from to old new tells (migrating.move {player = player} {pairs = pairs} spells told) =
    let move : PlainMove = record { player = player; pairs = pairs } in
    let entries : map plain_entry (tells.moves ++ move ∷ []) ≡ map plain_entry tells.moves ++ Move player pairs ∷ [] = map-append plain_entry tells.moves (move ∷ []) in
    let timed_are : timed_texts game (tells.moves ++ move ∷ []) ≡ timed_texts game tells.moves ++ moved_text move ∷ [] =
    ap (λ more. head_texts game ++ more) (map-append moved_text tells.moves (move ∷ [])) ∙ sym (append_assoc (head_texts game) (map moved_text tells.moves) (moved_text move ∷ [])) in
    record {
      moves = tells.moves ++ move ∷ [];
      has = subst (All EntryHasSpelling) (sym entries) (All-push EntryHasSpelling (map plain_entry tells.moves) (Move player pairs) tells.has spells.has);
      are =
          (λ i. tells.are i ++ spells.is i ∷ [])
          ∙ ap (λ later. version_text One ∷ later) (sym (map-append entry_text (map plain_entry tells.moves) (Move player pairs ∷ [])) ∙ ap (map entry_text) (sym entries));
      told = told ∙ (ap (λ bytes. bytes ++ line_of (moved_text move)) tells.told ∙ (sym (lines_push (timed_texts game tells.moves) (moved_text move)) ∙ ap lines_of (sym timed_are)));
    }
told_more game texts text from to old new tells (migrating.end {outcome = outcome} spells told) = record {
  moves = tells.moves;
  outcome = outcome;
  has = tells.has;
  ends = spells.has;
  are = λ i. tells.are i ++ spells.is i ∷ [];
  told = told ∙ (ap (λ bytes. bytes ++ line_of (timed_text (with_moment (End outcome)))) tells.told ∙ sym (lines_push (timed_texts game tells.moves) (timed_text (with_moment (End outcome)))));
}

formed_more : (game : AbstractGame) (texts : List (List ℕ)) (text : List ℕ) (from to : PlainPart) (old new : List ℕ) → IsWritten game from texts old → IsPlainSoFar texts from → Migrates game from text to old new → IsPlainSoFar (texts ++ text ∷ []) to
formed_more game texts text from to old new tells so_far (migrating.version is told) =
    subst (λ (all : List (List ℕ)). IsPlainSoFar all among_moves) (sym (λ i. tells.0 i ++ is i ∷ [])) migration.begun
formed_more game texts text from to old new tells so_far (migrating.move spells told) = migration.moved so_far spells
formed_more game texts text from to old new tells so_far (migrating.end spells told) = migration.ended so_far spells

-- one more line
pub migrate_one : (game : AbstractGame) (texts : List (List ℕ)) (text : List ℕ) (from to : Next) (old new : List ℕ) → MigratesLine game from text to old new → AreMigrated game texts (from, old) → AreMigrated game (texts ++ text ∷ []) (to, new)
migrate_one game texts text from to old new line so_far = record {
  plain = line.plain;
  lead = formed_more game texts text (part_of from) (part_of to) old new so_far.told so_far.lead line.migrates;
  told = told_more game texts text (part_of from) (part_of to) old new so_far.told line.migrates;
}

-- what has the form of version 1 has the form that the reader wants
over_so : (next : Next) → IsPlainNext next → part_of next ≡ beyond_end → next ≡ nexts.Nothing
over_so nexts.Version is_plain over = absurd (let apart : before_version ≡ beyond_end = over in cc)
over_so nexts.Nothing is_plain over = refl
over_so _ is_plain over = absurd (let apart : among_moves ≡ beyond_end = over in cc)

formed_so : (next : Next) → IsPlainNext next → (text : List ℕ) → HasPlainForm (part_of next) text → HasForm next text
formed_so nexts.Version is_plain text is = (One, is)
formed_so (nexts.Entry One) is_plain text form = (with_moment form.0, (form.1, refl))
formed_so nexts.Nothing is_plain text form = form
formed_so _ is_plain text form = absurd is_plain

module _ {game : AbstractGame} {bytes : List ℕ} {next : Next} {out : List ℕ} {left : Left} (so_far : IsReadSoFar (AreMigrated game) bytes (next, out) left) where
  plain_so_far : IsReadSoFar IsPlainSoFar bytes (part_of next) left
  plain_so_far = read_as (part_of next) so_far (λ texts migrated. migrated.lead)

  -- what is left is not of the form
  pub migrating_stops : (error : FormError) (refusal : RecordError) → refusal ≡ Form error.line → Misreads next left error → IsPlainRefusal bytes refusal
  migrating_stops error refusal is reads =
      subst (IsPlainRefusal bytes) (sym is)
      (read_stops plain_so_far reads.number (λ goes_on. reads.stops (goes_on_so left.rest (over_so next so_far.leads.plain) (formed_so next so_far.leads.plain) goes_on)))

  -- a line that is not of the form
  pub migrating_refused : {new : Left} (line : RecordLine) (refusal : RecordError) → TakesLine next left new line → RefusesPlain line refusal → IsPlainRefusal bytes refusal
  migrating_refused {new} line (Form number) takes refused =
      read_stops plain_so_far (refused.0 ∙ takes.number) (not_formed _ _ left.rest line.text.now new.rest takes.first (refused.1 next so_far.leads.plain takes.says))
  migrating_refused line (error.Over number) takes refused = refused
  migrating_refused line error.Memory takes refused = tt

-- What was migrated is right exactly if the old record is.

at_zero : (game : AbstractGame) (moves : List Made) (place : AbstractPlace) → LeadsTo game moves place → All (λ made. made.at ≡ 0) moves → MadeInTurn (turn_config 1) 0 moves 0
at_zero game moves place history.none zeros = history.nothing
at_zero game moves place (history.more {moves = before} {place = from} leads made mover legal short) zeros =
    let zero : made.at ≡ 0 = all_last (λ (one : Made). one.at ≡ 0) before made zeros in
    let earlier = at_zero game before from leads (all_first (λ (one : Made). one.at ≡ 0) before (made ∷ []) zeros) in
    subst (λ (last : ℕ). MadeInTurn (turn_config 1) 0 (before ++ made ∷ []) last) zero
    (in_turn_more 1 0 0 before made earlier (λ _. zero) (λ _. (omega arith, omega arith)))

are_zero : (moves : List PlainMove) → All (λ made. made.at ≡ 0) (map (made_at 0) moves)
are_zero [] = All-nil (λ (made : Made). made.at ≡ 0)
are_zero (move ∷ moves) = All-cons (λ (made : Made). made.at ≡ 0) (made_at 0 move) (map (made_at 0) moves) refl (are_zero moves)

right_still : (game : AbstractGame) (told : PlainRecord) → IsRightPlain game told → IsRightTimed game (migrated game told)
right_still game told right = record {
  players = refl;
  place = right.place;
  turn_began = 0;
  history = record {
    lawful = record { turn_some = omega arith; turn_most = omega arith; refusals_most = omega arith };
    counted = unwritten_counted told.outcome;
    leads = right.leads;
    last = 0;
    in_turn = at_zero game (map (made_at 0) told.moves) right.place right.leads (are_zero told.moves);
    fits = fits_unwritten game (map (made_at 0) told.moves) right.place told.outcome right.fits;
  };
}

right_before : (game : AbstractGame) (told : PlainRecord) → IsRightTimed game (migrated game told) → IsRightPlain game told
right_before game told right = record {
  place = right.place;
  leads = right.history.leads;
  fits = fits_place game (turn_config 1) (recorded_play (map (made_at 0) told.moves) told.outcome right.place right.turn_began) right.history.last (unwritten_moment (End told.outcome)) told.outcome right.history.fits;
}

pub same_right : (game : AbstractGame) (told : PlainRecord) → IsRight game (plain told) ↔ IsRight game (timed (migrated game told))
same_right game told = (right_still game told, right_before game told)

-- The whole record.

same_moved : (moves : List PlainMove) → map timed_text (map made_entry (map (made_at 0) moves)) ≡ map moved_text moves
same_moved [] = refl
same_moved (move ∷ moves) = ap (λ later. moved_text move ∷ later) (same_moved moves)

moved_spelled : (moves : List PlainMove) → All EntryHasSpelling (map plain_entry moves) → All TimedHasSpelling (map made_entry (map (made_at 0) moves))
moved_spelled [] all = All-nil TimedHasSpelling
moved_spelled (move ∷ moves) all =
    All-cons TimedHasSpelling (made_entry (made_at 0 move)) (map made_entry (map (made_at 0) moves)) (omega arith, All-head EntryHasSpelling (plain_entry move) (map plain_entry moves) all) (moved_spelled moves (All-tail EntryHasSpelling (plain_entry move) (map plain_entry moves) all))

small_moment : (outcome : Option Outcome) → EntryHasSpelling (End outcome) → TimedHasSpelling (with_moment (End outcome))
small_moment outcome has = let counted = unwritten_counted outcome in (omega arith, has)

pub migrated_whole : (game : AbstractGame) (bytes : List ℕ) (next : Next) (out : List ℕ) (left : Left) → HaveNames game.players → IsReadSoFar (AreMigrated game) bytes (next, out) left → (next ≡ nexts.Nothing) × (left.rest ≡ []) → IsMigrated game bytes out
migrated_whole game bytes next out left named so_far over =
    let tells : TellsAll game so_far.texts out = subst (λ (to : Next). IsWritten game (part_of to) so_far.texts out) over.0 so_far.leads.told in
    let record_told : PlainRecord = record { moves = tells.moves; outcome = tells.outcome } in
    let end : Timed = with_moment (End tells.outcome) in
    let plain_texts : so_far.texts ≡ texts_of (plain record_told) =
    tells.are ∙ ap (λ later. version_text One ∷ later) (sym (map-append entry_text (map plain_entry tells.moves) (End tells.outcome ∷ []))) in
    let timed_are : timed_texts game tells.moves ++ timed_text end ∷ [] ≡ texts_of (timed (migrated game record_told)) =
    ap (λ later. version_text Two ∷ players_text game.players ∷ start_text (record { turn_ms = 1; now = 0 }) ∷ later)
    (ap (λ later. later ++ timed_text end ∷ []) (sym (same_moved tells.moves)) ∙ sym (map-append timed_text (map made_entry (map (made_at 0) tells.moves)) (end ∷ []))) in
    record {
      told = record_told;
      before = record {
        has = All-push EntryHasSpelling (map plain_entry tells.moves) (End tells.outcome) tells.has tells.ends;
        is = so_far.begins.parts ∙ ((λ i. lines_of (plain_texts i) ++ over.1 i) ∙ append-nil (lines_of (texts_of (plain record_told))));
      };
      after = record {
        has = (named, (omega arith, omega arith), All-push TimedHasSpelling (map made_entry (map (made_at 0) tells.moves)) end (moved_spelled tells.moves tells.has) (small_moment tells.outcome tells.ends));
        is = tells.told ∙ ap lines_of timed_are;
      };
      same = same_right game record_told;
    }

-- the line that an error names
pub form_line : {A : Type 0} (bytes : List ℕ) (result : Result A RecordError) (line : ℕ) → result ≡ Err (Form line) → IfErr result (IsPlainRefusal bytes) → IsPlainFault bytes line
form_line bytes result line is refused = subst (λ (one : Result _ RecordError). IfErr one (IsPlainRefusal bytes)) is refused

pub never_over : {A : Type 0} (bytes : List ℕ) (result : Result A RecordError) (line : ℕ) → result ≡ Err (error.Over line) → IfErr result (IsPlainRefusal bytes) → ⊥
never_over bytes result line is refused = subst (λ (one : Result _ RecordError). IfErr one (IsPlainRefusal bytes)) is refused
