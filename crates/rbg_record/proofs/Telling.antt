-- Lines that are right in turn are those of a record that is right.
use Rattle.rbg_base.proofs.Common.{◌≡◌, ◌≢◌, ◌⊎◌, inl, inr, zero, suc, ℕ, ◌≤◌, List, [], ◌∷◌, ◌++◌, map, Option, refl, sym, ap, ◌∙◌, subst, arith, append-nil, All, map-append, All-nil, All-push}
use Rattle.rbg_wire.specs.declared.outcome.Outcome.{Outcome}
use Rattle.rbg_rules.specs.Meaning.{AbstractGame, AbstractPlace, Legal}
use Rattle.rbg_record.specs.declared.entry.Entry.TheVariants.{Move, End}
use Rattle.rbg_record.specs.declared.entry.Timed.{Timed}
use Rattle.rbg_record.specs.declared.heading.Start.{Start}
use Rattle.rbg_record.specs.declared.heading.Version.{Version}
use Rattle.rbg_record.specs.declared.heading.Version.TheVariants.{One, Two}
use Rattle.rbg_record.proofs.LineCommon.{entry_text, timed_text, EntryHasSpelling, TimedHasSpelling, SpellsEntry, SpellsTimed, version_text, players_text, start_text, HaveNames, StartHasSpelling}
use Rattle.rbg_wire.specs.Lines.{lines_of}
use Rattle.rbg_match.specs.declared.made.Made.{Made}
use Rattle.rbg_match.proofs.Common.{IsWithinLimits, LeadsTo, MadeInTurn, FitsOutcome, latest_moment}
use Rattle.rbg_match.specs.History as history
use Rattle.rbg_record.specs.Entries.{SpellsIn}
use Rattle.rbg_record.proofs.Common.{PlainMove, AbstractRecord, plain, timed, plain_entry, made_entry, texts_of, HasSpelling, turn_config, recorded_play, made_at, FitsPlace, IsRight, IsRightRecord, MatchSoFar, Reached, version_next, players_next, start_next, entry_next, nothing_next, EntryLeads, Leads, LeadTo, play_at, IsGoodByLines}
use Rattle.rbg_record.specs.Lines as lines
use Rattle.rbg_record.proofs.Fitting.{fits_place, fits_same}

-- What the lines so far mean for play, in version 1.
pub record ArePlainLines (game : AbstractGame) (texts : List (List ℕ)) (place : AbstractPlace) : Type 0 where
  pub moves : List PlainMove
  pub are : texts ≡ version_text One ∷ map entry_text (map plain_entry moves)
  pub has : All EntryHasSpelling (map plain_entry moves)
  pub leads : LeadsTo game (map (made_at 0) moves) place

-- and in version 2
pub record AreTimedLines (game : AbstractGame) (texts : List (List ℕ)) (turn_ms last : ℕ) (place : AbstractPlace) : Type 0 where
  pub start : Start
  pub moves : List Made
  pub are : texts ≡ version_text Two ∷ players_text game.players ∷ start_text start ∷ map timed_text (map made_entry moves)
  pub named : HaveNames game.players
  pub begun : StartHasSpelling start
  pub has : All TimedHasSpelling (map made_entry moves)
  pub turn : start.turn_ms ≡ turn_ms
  pub lawful : IsWithinLimits (turn_config start.turn_ms)
  pub leads : LeadsTo game moves place
  pub in_turn : MadeInTurn (turn_config start.turn_ms) start.now moves last

-- the lines are those of a record that is right
pub record AreRightLines (game : AbstractGame) (texts : List (List ℕ)) : Type 0 where
  pub told : AbstractRecord
  pub are : texts ≡ texts_of told
  pub has : HasSpelling told
  pub right : IsRight game told

abbrev pub TellsIn : Version → AbstractGame → List (List ℕ) → (turn_ms last : ℕ) → AbstractPlace → Type 0
TellsIn One game texts turn_ms last place = ArePlainLines game texts place
TellsIn Two game texts turn_ms last place = AreTimedLines game texts turn_ms last place

-- what the lines mean that lead to this point
abbrev pub Tells : AbstractGame → List (List ℕ) → Reached → Type 0
Tells game texts version_next = texts ≡ []
Tells game texts players_next = texts ≡ version_text Two ∷ []
Tells game texts start_next = (texts ≡ version_text Two ∷ players_text game.players ∷ []) × HaveNames game.players
Tells game texts (entry_next match_so_far) = TellsIn match_so_far.version game texts match_so_far.turn_ms match_so_far.last match_so_far.place
Tells game texts nothing_next = AreRightLines game texts

-- one more move without its moment
more_plain : (game : AbstractGame) (texts : List (List ℕ)) (text : List ℕ) (place to : AbstractPlace) (player : ℕ) (pairs : List (ℕ × ℕ)) → ArePlainLines game texts place → SpellsEntry text (Move player pairs) → player ≡ place.state.player → Legal game place pairs to → ArePlainLines game (texts ++ text ∷ []) to
more_plain game texts text place to player pairs tells spells mover legal =
    let made : PlainMove = record { player = player; pairs = pairs } in
    let entries : map plain_entry (tells.moves ++ made ∷ []) ≡ map plain_entry tells.moves ++ Move player pairs ∷ [] = map-append plain_entry tells.moves (made ∷ []) in
    record {
      moves = tells.moves ++ made ∷ [];
      are =
          (λ i. tells.are i ++ spells.is i ∷ [])
          ∙ ap (λ later. version_text One ∷ later) (sym (map-append entry_text (map plain_entry tells.moves) (Move player pairs ∷ [])) ∙ ap (map entry_text) (sym entries));
      has = subst (All EntryHasSpelling) (sym entries) (All-push EntryHasSpelling (map plain_entry tells.moves) (Move player pairs) tells.has spells.has);
      leads = subst (λ (moves : List Made). LeadsTo game moves to) (sym (map-append (made_at 0) tells.moves (made ∷ []))) (history.more tells.leads (made_at 0 made) mover legal spells.has.2);
    }

pub zero_or_not : (n : ℕ) → (n ≡ 0) ⊎ (n ≢ 0)
zero_or_not zero = inl refl
zero_or_not (suc n) = inr (λ (none : suc n ≡ 0). omega arith)

-- one more move with its moment
pub in_turn_more : (turn_ms began last : ℕ) (moves : List Made) (made : Made) → MadeInTurn (turn_config turn_ms) began moves last → (made.player ≡ 0 → made.at ≡ last) → (made.player ≢ 0 → history.IsInTurn (turn_config turn_ms) last made.at) → MadeInTurn (turn_config turn_ms) began (moves ++ made ∷ []) made.at
in_turn_more turn_ms began last moves made in_turn by_keeper by_player =
    elim (zero_or_not made.player) [ inl keeper ↦ history.by_keeper in_turn made keeper (by_keeper keeper) | inr player ↦ history.by_player in_turn made player (by_player player) ]

more_timed : (game : AbstractGame) (texts : List (List ℕ)) (text : List ℕ) (turn_ms last at : ℕ) (place to : AbstractPlace) (player : ℕ) (pairs : List (ℕ × ℕ)) → AreTimedLines game texts turn_ms last place → SpellsTimed text (record { at = at; entry = Move player pairs }) → player ≡ place.state.player → (player ≡ 0 → at ≡ last) → (player ≢ 0 → history.IsInTurn (turn_config turn_ms) last at) → Legal game place pairs to → AreTimedLines game (texts ++ text ∷ []) turn_ms at to
more_timed game texts text turn_ms last at place to player pairs tells spells mover by_keeper by_player legal =
    let made : Made = record { player = player; at = at; pairs = pairs } in
    let entries : map made_entry (tells.moves ++ made ∷ []) ≡ map made_entry tells.moves ++ made_entry made ∷ [] = map-append made_entry tells.moves (made ∷ []) in
    record {
      start = tells.start;
      moves = tells.moves ++ made ∷ [];
      are =
          (λ i. tells.are i ++ spells.is i ∷ [])
          ∙ ap (λ later. version_text Two ∷ players_text game.players ∷ start_text tells.start ∷ later) (sym (map-append timed_text (map made_entry tells.moves) (made_entry made ∷ [])) ∙ ap (map timed_text) (sym entries));
      named = tells.named;
      begun = tells.begun;
      has = subst (All TimedHasSpelling) (sym entries) (All-push TimedHasSpelling (map made_entry tells.moves) (made_entry made) tells.has spells.has);
      turn = tells.turn;
      lawful = tells.lawful;
      leads = history.more tells.leads made mover legal spells.has.1.2;
      in_turn = in_turn_more tells.start.turn_ms tells.start.now last tells.moves made tells.in_turn by_keeper (subst (λ (turn : ℕ). player ≢ 0 → history.IsInTurn (turn_config turn) last at) (sym tells.turn) by_player);
    }

-- the end
end_plain : (game : AbstractGame) (texts : List (List ℕ)) (text : List ℕ) (place : AbstractPlace) (outcome : Option Outcome) → ArePlainLines game texts place → SpellsEntry text (End outcome) → FitsPlace game place outcome → AreRightLines game (texts ++ text ∷ [])
end_plain game texts text place outcome tells spells fits = record {
  told = plain (record { moves = tells.moves; outcome = outcome });
  are =
      (λ i. tells.are i ++ spells.is i ∷ [])
      ∙ ap (λ later. version_text One ∷ later) (sym (map-append entry_text (map plain_entry tells.moves) (End outcome ∷ [])));
  has = All-push EntryHasSpelling (map plain_entry tells.moves) (End outcome) tells.has spells.has;
  right = record { place = place; leads = tells.leads; fits = fits };
}

end_timed : (game : AbstractGame) (texts : List (List ℕ)) (text : List ℕ) (match_so_far : MatchSoFar) (at : ℕ) (outcome : Option Outcome) → AreTimedLines game texts match_so_far.turn_ms match_so_far.last match_so_far.place → SpellsTimed text (record { at = at; entry = End outcome }) → FitsOutcome game (turn_config match_so_far.turn_ms) (play_at match_so_far outcome) match_so_far.last at outcome → at ≤ latest_moment → AreRightLines game (texts ++ text ∷ [])
end_timed game texts text match_so_far at outcome tells spells fits counted = record {
  told = timed (record { players = game.players; start = tells.start; moves = tells.moves; moment = at; outcome = outcome });
  are =
      (λ i. tells.are i ++ spells.is i ∷ [])
      ∙ ap (λ later. version_text Two ∷ players_text game.players ∷ start_text tells.start ∷ later) (sym (map-append timed_text (map made_entry tells.moves) (record { at = at; entry = End outcome } ∷ [])));
  has = (tells.named, tells.begun, All-push TimedHasSpelling (map made_entry tells.moves) (record { at = at; entry = End outcome }) tells.has spells.has);
  right = record {
    players = refl;
    place = match_so_far.place;
    turn_began = match_so_far.last;
    history = record {
      lawful = tells.lawful;
      counted = counted;
      leads = tells.leads;
      last = match_so_far.last;
      in_turn = tells.in_turn;
      fits = fits_same game (turn_config match_so_far.turn_ms) (turn_config tells.start.turn_ms) (play_at match_so_far outcome) tells.moves match_so_far.last at outcome outcome (sym tells.turn) fits;
    };
  };
}

-- one more entry
more_entry : (game : AbstractGame) (texts : List (List ℕ)) (text : List ℕ) (version : Version) (turn_ms last : ℕ) (place : AbstractPlace) (told : Timed) (to : Reached) → TellsIn version game texts turn_ms last place → SpellsIn version text told → EntryLeads game (record { version = version; turn_ms = turn_ms; last = last; place = place }) told to → Tells game (texts ++ text ∷ []) to
more_entry game texts text One turn_ms last place told to tells spells (lines.move {player = player} {pairs = pairs} {to = next} mover moment counted legal) =
    more_plain game texts text place next player pairs tells spells.0 mover legal
more_entry game texts text One turn_ms last place told to tells spells (lines.end {at = at} {outcome = outcome} fits counted) =
    end_plain game texts text place outcome tells spells.0 (fits_place game (turn_config turn_ms) (recorded_play [] outcome place last) last at outcome fits)
more_entry game texts text Two turn_ms last place told to tells spells (lines.move {at = at} {player = player} {pairs = pairs} {to = next} mover moment counted legal) =
    more_timed game texts text turn_ms last at place next player pairs tells spells mover moment.by_keeper moment.by_player legal
more_entry game texts text Two turn_ms last place told to tells spells (lines.end {at = at} {outcome = outcome} fits counted) =
    end_timed game texts text (record { version = Two; turn_ms = turn_ms; last = last; place = place }) at outcome tells spells fits counted

-- one more line
more_line : (game : AbstractGame) (texts : List (List ℕ)) (text : List ℕ) (from to : Reached) → Tells game texts from → Leads game from text to → Tells game (texts ++ text ∷ []) to
more_line game texts text from to tells (lines.version_1 is) = record {
  moves = [];
  are = λ i. tells i ++ is i ∷ [];
  has = All-nil EntryHasSpelling;
  leads = history.none;
}
more_line game texts text from to tells (lines.version_2 is) = λ i. tells i ++ is i ∷ []
more_line game texts text from to tells (lines.players spells) = ((λ i. tells i ++ spells.is i ∷ []), spells.has)
more_line game texts text from to tells (lines.start {start = start} spells lawful counted) = record {
  start = start;
  moves = [];
  are = λ i. tells.0 i ++ spells.is i ∷ [];
  named = tells.1;
  begun = spells.has;
  has = All-nil TimedHasSpelling;
  turn = refl;
  lawful = lawful;
  leads = history.none;
  in_turn = history.nothing;
}
more_line game texts text from to tells (lines.entry {match_so_far = match_so_far} {told = told} spells leads) =
    more_entry game texts text match_so_far.version match_so_far.turn_ms match_so_far.last match_so_far.place told to tells spells leads

pub all_lines : (game : AbstractGame) (texts : List (List ℕ)) (to : Reached) → LeadTo game texts to → Tells game texts to
all_lines game texts to lines.none = refl
all_lines game texts to (lines.more {texts = before} {text = text} {from = from} earlier leads) =
    more_line game before text from to (all_lines game before from earlier) leads

-- lines that are good in turn are those of a record that is right
pub good_is_right : (game : AbstractGame) (bytes : List ℕ) → IsGoodByLines game bytes → IsRightRecord game bytes
good_is_right game bytes good =
    let tells = all_lines game good.texts nothing_next good.leads in
    record {
      told = tells.told;
      spells = record { has = tells.has; is = good.begins.parts ∙ (append-nil (lines_of good.texts) ∙ ap lines_of tells.are) };
      right = tells.right;
    }
