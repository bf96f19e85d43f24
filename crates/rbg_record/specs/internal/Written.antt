-- What is written of a match, in each version.
use Rattle.std.specs.Prelude.{ℕ, List, ◌++◌, Option, Some, None}
use Rattle.std.specs.List.{flat_map}
use Rattle.rbg_match.specs.declared.made.Made.{Made}
use Rattle.rbg_match.specs.Matches.{MatchState}
use Rattle.rbg_record.specs.declared.entry.Entry.{Entry}
use Rattle.rbg_record.specs.declared.entry.Entry.TheVariants.{Move, End}
use Rattle.rbg_record.specs.declared.heading.Version.{Version}
use Rattle.rbg_record.specs.declared.heading.Version.TheVariants.{One, Two}
use Rattle.rbg_record.specs.Entries.{entry_text, moment_text}
use Rattle.rbg_wire.specs.Lines.{line_of}

-- the moment as a version writes it: version 1 has none
abbrev pub entry_moment : Version → ℕ → Option ℕ
entry_moment One at = None
entry_moment Two at = Some at

-- the text of an entry at a moment, in a version
abbrev pub text_in : Version → ℕ → Entry → List ℕ
text_in version at entry = moment_text (entry_moment version at) ++ entry_text entry

abbrev pub made_text : Version → Made → List ℕ
made_text version made = text_in version made.at (Move made.player made.pairs)

-- the lines of the moves and of the end
abbrev pub entries_bytes : Version → MatchState → List ℕ
entries_bytes version state =
    flat_map (λ made. line_of (made_text version made)) state.play.made
    ++ line_of (text_in version state.streams.moment (End state.play.outcome))
