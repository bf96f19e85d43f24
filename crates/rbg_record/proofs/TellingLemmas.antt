-- Lines for the script are written of a record line by line.
use Rattle.rbg_base.proofs.Common.{◌≡◌, ℕ, List, [], ◌∷◌, ◌++◌, Result, Err, sym, ap, ◌∙◌, subst, arith, append-nil, append_assoc, IfErr, flat_map, flat_map-append, All-nil, All-cons, All-push}
use Rattle.rbg_base.proofs.CallerLemmas.{AllZip-push_one}
use Rattle.rbg_wire.proofs.Common.{LacksByte, line_feed, line_of, lines_of}
use Rattle.rbg_record.specs.declared.entry.Entry.{Entry}
use Rattle.rbg_record.specs.declared.entry.Entry.TheVariants.{Move, End}
use Rattle.rbg_record.specs.declared.entry.Timed.{Timed}
use Rattle.rbg_record.specs.declared.heading.Start.{Start}
use Rattle.rbg_record.specs.declared.heading.Version.{Version}
use Rattle.rbg_record.specs.declared.heading.Version.TheVariants.{One, Two}
use Rattle.rbg_record.specs.declared.form_error.FormError.{FormError}
use Rattle.rbg_record.specs.declared.line.Content.TheVariants as contents
use Rattle.rbg_record.specs.declared.line.RecordLine.{RecordLine}
use Rattle.rbg_record.specs.declared.next.Next.{Next}
use Rattle.rbg_record.specs.declared.next.Next.TheVariants as nexts
use Rattle.rbg_record.proofs.LineCommon.{EntryHasSpelling, Left, Misreads, HasContent, SpellsIn, SpellsPlayers, SpellsStart, TakesLine, next_after, version_text}
use Rattle.rbg_record.specs.Reading as reading
use Rattle.rbg_record.proofs.Apart.{one_start}
use Rattle.rbg_record.proofs.Stopping.{IsReadSoFar, goes_on_so, not_formed, read_as, read_stops}
use Rattle.rbg_match.specs.Config.{IsWithinLimits}
use Rattle.rbg_script.specs.declared.config.ScriptConfig.{ScriptConfig}
use Rattle.rbg_script.specs.Config.{ConfigHasSpelling, config_text}
use Rattle.rbg_script.specs.Scripts.{SpellsScript}
use Rattle.rbg_script.specs.Events.{AbstractEvent}
use Rattle.rbg_script.proofs.Lacking.{written_read}
use Rattle.rbg_script.proofs.LineLemmas.{whole_lines}
use Rattle.rbg_record.specs.declared.script_error.ScriptingError.{ScriptingError}
use Rattle.rbg_record.specs.declared.script_error.ScriptingError.TheVariants.{Form, Memory}
use Rattle.rbg_record.specs.Scripting.{HasForm, head_1, head_2, IsMove, IsNoRecord, IsScriptOfRecord, LeadThere, LeadsOn, config_at, events_in}
use Rattle.rbg_record.specs.Right.{turn_config}
use Rattle.rbg_record.specs.Scripting as scripting
use Rattle.rbg_record.specs.internal.Telling.{AreWritten, IsRefusal, IsWritten, RefusesLine, WritesEntries, AppendsEvents, WritesNext, TellsWhole}
use Rattle.rbg_record.proofs.EventLines.{tells_nothing, tells_both}

-- the first lines of a record of version 1
pub version_1_told : (text old new : List ℕ) → text ≡ version_text One → new ≡ old ++ line_of (config_text (config_at 1 0)) → WritesNext nexts.Version text (nexts.Entry One) old new
version_1_told text old new is told = record {
  leads = subst (λ (one : List ℕ). LeadsOn nexts.Version one (nexts.Entry One)) (sym is) scripting.version_1;
  told = λ texts so_far. record {
    moves = [];
    are_moves = All-nil (λ (one : Timed). IsMove one.entry);
    tells = record {
      head = version_text One ∷ [];
      config = config_at 1 0;
      is_head = head_1;
      has = (record { some_time = omega arith; turn = omega arith; few = omega arith }, omega arith);
      lines = [];
      spelled = tt;
      are = λ i. so_far.0 i ++ is i ∷ [];
      events = subst (AppendsEvents [] (line_of (config_text (config_at 1 0)))) (sym (told ∙ ap (λ (bytes : List ℕ). bytes ++ line_of (config_text (config_at 1 0))) so_far.1)) (tells_nothing (line_of (config_text (config_at 1 0))));
    };
  };
}

-- and of version 2
pub version_2_told : (text old : List ℕ) → text ≡ version_text Two → WritesNext nexts.Version text nexts.Players old old
version_2_told text old is = record {
  leads = subst (λ (one : List ℕ). LeadsOn nexts.Version one nexts.Players) (sym is) scripting.version_2;
  told = λ texts so_far. ((λ i. so_far.0 i ++ is i ∷ []), so_far.1);
}

pub players_told : (text : List ℕ) (names : List (List ℕ)) (old : List ℕ) → SpellsPlayers text names → WritesNext nexts.Players text nexts.Start old old
players_told text names old spells = record {
  leads = scripting.players spells;
  told = λ texts so_far. record {
    players = text;
    names = names;
    spelled = spells;
    are = ap (λ (one : List (List ℕ)). one ++ text ∷ []) so_far.0;
    nothing = so_far.1;
  };
}

pub start_told : (text : List ℕ) (start : Start) (old new : List ℕ) → SpellsStart text start → IsWithinLimits (turn_config start.turn_ms) → new ≡ old ++ line_of (config_text (config_at start.turn_ms start.now)) → WritesNext nexts.Start text (nexts.Entry Two) old new
start_told text start old new spells within told = record {
  leads = scripting.start spells within;
  told = λ texts so_far. record {
    moves = [];
    are_moves = All-nil (λ (one : Timed). IsMove one.entry);
    tells = record {
      head = version_text Two ∷ so_far.players ∷ text ∷ [];
      config = config_at start.turn_ms start.now;
      is_head = head_2 so_far.spelled spells within;
      has = (record { some_time = within.turn_some; turn = within.turn_most; few = within.refusals_most }, spells.has.1);
      lines = [];
      spelled = tt;
      are = ap (λ (one : List (List ℕ)). one ++ text ∷ []) so_far.are;
      events = subst (AppendsEvents [] (line_of (config_text (config_at start.turn_ms start.now)))) (sym (told ∙ ap (λ (bytes : List ℕ). bytes ++ line_of (config_text (config_at start.turn_ms start.now))) so_far.nothing)) (tells_nothing (line_of (config_text (config_at start.turn_ms start.now))));
    };
  };
}

-- one entry more
entries_more : (version : Version) (entries : List Timed) (texts : List (List ℕ)) (text : List ℕ) (told : Timed) (old new : List ℕ) → WritesEntries version entries texts old → SpellsIn version text told → AppendsEvents (events_in told) old new → WritesEntries version (entries ++ told ∷ []) (texts ++ text ∷ []) new
entries_more version entries texts text told old new tells spells events =
    let same : flat_map events_in entries ++ events_in told ≡ flat_map events_in (entries ++ told ∷ []) =
    sym (flat_map-append events_in entries (told ∷ []) ∙ ap (λ (more : List AbstractEvent). flat_map events_in entries ++ more) (append-nil (events_in told))) in
    record {
      head = tells.head;
      config = tells.config;
      is_head = tells.is_head;
      has = tells.has;
      lines = tells.lines ++ text ∷ [];
      spelled = AllZip-push_one (SpellsIn version) tells.lines entries text told tells.spelled spells;
      are = ap (λ (one : List (List ℕ)). one ++ text ∷ []) tells.are ∙ append_assoc tells.head tells.lines (text ∷ []);
      events = subst (λ (all : List AbstractEvent). AppendsEvents all (line_of (config_text tells.config)) new) same (tells_both (flat_map events_in entries) (events_in told) (line_of (config_text tells.config)) old new tells.events events);
    }

entry_told_at : (version : Version) (text : List ℕ) (at : ℕ) (entry : Entry) (old new : List ℕ) → SpellsIn version text (record { at = at; entry = entry }) → AppendsEvents (events_in (record { at = at; entry = entry })) old new → WritesNext (nexts.Entry version) text (next_after (nexts.Entry version) entry) old new
entry_told_at version text at (Move player pairs) old new spells events = record {
  leads = scripting.move (record { at = at; entry = Move player pairs }) spells tt;
  told = λ texts so_far. record {
    moves = so_far.moves ++ record { at = at; entry = Move player pairs } ∷ [];
    are_moves = All-push (λ (one : Timed). IsMove one.entry) so_far.moves (record { at = at; entry = Move player pairs }) so_far.are_moves tt;
    tells = entries_more version so_far.moves texts text (record { at = at; entry = Move player pairs }) old new so_far.tells spells events;
  };
}
entry_told_at version text at (End outcome) old new spells events = record {
  leads = scripting.end at outcome spells;
  told = λ texts so_far. record {
    version = version;
    moves = so_far.moves;
    are_moves = so_far.are_moves;
    at = at;
    outcome = outcome;
    tells = entries_more version so_far.moves texts text (record { at = at; entry = End outcome }) old new so_far.tells spells events;
  };
}

-- what a line contains decides what is written next
pub version_tells : (next : Next) (text : List ℕ) (version : Version) (to : Next) (old new : List ℕ) → HasContent next text (contents.Version version) → ((text : List ℕ) → text ≡ version_text version → WritesNext nexts.Version text to old new) → WritesNext next text to old new
version_tells nexts.Version text version to old new says tells = tells text says
version_tells _ text version to old new says tells = absurd says

pub players_tell : (next : Next) (text : List ℕ) (names : _) (old : List ℕ) → HasContent next text (contents.Players names) → WritesNext next text nexts.Start old old
players_tell nexts.Players text names old says = players_told text _ old says
players_tell _ text names old says = absurd says

pub start_tells : (next : Next) (text : List ℕ) (start : Start) (old new : List ℕ) → HasContent next text (contents.Start start) → IsWithinLimits (turn_config start.turn_ms) → new ≡ old ++ line_of (config_text (config_at start.turn_ms start.now)) → WritesNext next text (nexts.Entry Two) old new
start_tells nexts.Start text start old new says within told = start_told text start old new says within told
start_tells _ text start old new says within told = absurd says

-- a start whose turn is not within the limits has no form
pub no_start : (next : Next) (text : List ℕ) (start : Start) → HasContent next text (contents.Start start) → (IsWithinLimits (turn_config start.turn_ms) → ⊥) → HasForm next text → ⊥
no_start nexts.Start text start says beyond form = beyond (subst (λ (one : Start). IsWithinLimits (turn_config one.turn_ms)) (one_start text form.0 start form.1 says) form.2)
no_start _ text start says beyond form = absurd says

pub entry_spelled : (next : Next) (text : List ℕ) (told : Timed) → HasContent next text (contents.Entry told) → EntryHasSpelling told.entry
entry_spelled (nexts.Entry One) text told says = says.0.has
entry_spelled (nexts.Entry Two) text told says = says.has.1
entry_spelled _ text told says = absurd says

pub entry_tells : (next : Next) (text : List ℕ) (told : Timed) (to : Next) (old new : List ℕ) → HasContent next text (contents.Entry told) → AppendsEvents (events_in told) old new → to ≡ next_after next told.entry → WritesNext next text to old new
entry_tells (nexts.Entry version) text told to old new says events is =
    subst (λ (one : Next). WritesNext (nexts.Entry version) text one old new) (sym is) (entry_told_at version text told.at told.entry old new says events)
entry_tells _ text told to old new says events is = absurd says

-- one line more
pub tell_one : (texts : List (List ℕ)) (text : List ℕ) (from to : Next) (old new : List ℕ) → WritesNext from text to old new → AreWritten texts (from, old) → AreWritten (texts ++ text ∷ []) (to, new)
tell_one texts text from to old new next told = (scripting.more told.0 next.leads, next.told texts told.1)

-- what is of the form of a record that is made a script
formed_so : (next : Next) (text : List ℕ) → HasForm next text → reading.HasForm next text
formed_so nexts.Start text form = (form.0, form.1)
formed_so _ text form = form

module _ {bytes : List ℕ} {next : Next} {out : List ℕ} {left : Left} (so_far : IsReadSoFar AreWritten bytes (next, out) left) where
  led : IsReadSoFar LeadThere bytes next left
  led = read_as next so_far (λ texts told. told.0)

  -- what is left is not of the form
  pub telling_stops : (error : FormError) (refusal : ScriptingError) → refusal ≡ Form error.line → Misreads next left error → IsRefusal bytes refusal
  telling_stops error refusal is reads =
      subst (IsRefusal bytes) (sym is)
      (read_stops led reads.number (λ goes_on. reads.stops (goes_on_so left.rest (λ over. over) (formed_so next) goes_on)))

  -- a line that is not of the form
  pub telling_refused : {new : Left} (line : RecordLine) (refusal : ScriptingError) → TakesLine next left new line → RefusesLine next line refusal → IsRefusal bytes refusal
  telling_refused {new} line (Form number) takes refused = read_stops led (refused.0 ∙ takes.number) (not_formed _ _ left.rest line.text.now new.rest takes.first refused.1)
  telling_refused line Memory takes refused = tt

-- all lines
script_is : (config : ScriptConfig) (has : ConfigHasSpelling config) (events : List AbstractEvent) (out : List ℕ) → AppendsEvents events (line_of (config_text config)) out → SpellsScript out (record { config = config; events = events })
script_is config has events out tells = record {
  first = config_text config;
  others = tells.lines;
  lines = rw (tells.is) (whole_lines (config_text config ∷ tells.lines) (All-cons (LacksByte line_feed) (config_text config) tells.lines (written_read.config_lines config has) tells.whole));
  config = written_read.configs config has;
  events = tells.spelled;
}

whole_told : (bytes : List ℕ) (texts : List (List ℕ)) (out : List ℕ) → bytes ≡ lines_of texts → TellsWhole texts out → IsScriptOfRecord bytes out
whole_told bytes texts out is tells = record {
  version = tells.version;
  head = tells.tells.head;
  config = tells.tells.config;
  is_head = tells.tells.is_head;
  moves = tells.moves;
  are_moves = tells.are_moves;
  at = tells.at;
  outcome = tells.outcome;
  lines = tells.tells.lines;
  spelled = tells.tells.spelled;
  is = is ∙ ap lines_of tells.tells.are;
  script = script_is tells.tells.config tells.tells.has _ out tells.tells.events;
}

pub told_whole : (bytes : List ℕ) (next : Next) (out : List ℕ) (left : Left) → IsReadSoFar AreWritten bytes (next, out) left → (next ≡ nexts.Nothing) × (left.rest ≡ []) → IsScriptOfRecord bytes out
told_whole bytes next out left so_far over =
    let tells : TellsWhole so_far.texts out = subst (λ (one : Next). IsWritten one so_far.texts out) over.0 so_far.leads.1 in
    whole_told bytes so_far.texts out (so_far.begins.parts ∙ ap (λ (rest : List ℕ). lines_of so_far.texts ++ rest) over.1 ∙ append-nil (lines_of so_far.texts)) tells

-- the line that an error names
pub form_line : {T : Type 0} (bytes : List ℕ) (result : Result T ScriptingError) (line : ℕ) → result ≡ Err (Form line) → IfErr result (IsRefusal bytes) → IsNoRecord bytes line
form_line bytes result line is refused = subst (λ (one : Result _ ScriptingError). IfErr one (IsRefusal bytes)) is refused
