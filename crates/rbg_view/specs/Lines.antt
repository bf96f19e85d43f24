-- What a line of a list of moves is, and the moves that it may mean.
use Rattle.std.specs.Prelude.{◌≡◌, ℕ, List, [], ◌∷◌, ◌++◌, codes}
use Rattle.rbg_script.specs.declared.config.ScriptConfig.{ScriptConfig}
use Rattle.rbg_script.specs.Config.{SpellsConfig}
use Rattle.rbg_script.specs.Events.{SpellsEvent, AbstractEvent, piece}
use Rattle.rbg_record.specs.declared.entry.Entry.TheVariants.{End as EndEntry}
use Rattle.rbg_record.specs.declared.heading.Start.{Start}
use Rattle.rbg_record.specs.declared.heading.Version.{Version}
use Rattle.rbg_record.specs.Entries.{SpellsEntry, SpellsTimed}
use Rattle.rbg_record.specs.Heading.{version_text, SpellsPlayers, SpellsStart}
use Rattle.rbg_view.specs.declared.line.RecordEnd.{RecordEnd}
use Rattle.rbg_view.specs.declared.line.ListLine.{ListLine}
use Rattle.rbg_view.specs.declared.line.ListLine.TheVariants.{Silent, Head, End, Said, Sent, Other}

-- A line that isn't a move: an empty one, a comment, the names of the players or the start of a record, or the config of
-- a script.
pub data IsPassedOver (line : List ℕ) : Type 0 where
  by_nothing : line ≡ [] → IsPassedOver line
  by_comment : (text : List ℕ) → line ≡ codes "//" ++ text → IsPassedOver line
  by_players : (names : List (List ℕ)) → SpellsPlayers line names → IsPassedOver line
  by_start : (start : Start) → SpellsStart line start → IsPassedOver line
  by_config : (config : ScriptConfig) → SpellsConfig line config → IsPassedOver line

-- a line that tells nothing of moves: one of those, or an event of a script
pub data IsSilent (line : List ℕ) : Type 0 where
  passed_over : IsPassedOver line → IsSilent line
  by_event : (event : AbstractEvent) → SpellsEvent line event → IsSilent line

-- the last line of a record, with a moment or without
pub data IsEnd (line : List ℕ) (end : RecordEnd) : Type 0 where
  without_moment : SpellsEntry line (EndEntry end.outcome) → IsEnd line end
  with_moment : (at : ℕ) → SpellsTimed line (record { at = at; entry = EndEntry end.outcome }) → IsEnd line end

-- The line is an event of a script in which a seat sends this text and the zero byte that ends a message, whether it is
-- spelt by an `m` line or by a `p` line.
abbrev pub SaysMessage : List ℕ → (seat : ℕ) → (text : List ℕ) → Type 0
SaysMessage line seat text = (at : ℕ) × SpellsEvent line (piece seat at (text ++ 0 ∷ []))

-- No message of a seat is in the line.
abbrev pub HasNoMessage : List ℕ → Type 0
HasNoMessage line = (seat : ℕ) (text : List ℕ) → SaysMessage line seat text → ⊥

-- The line is none of those that show something else than a move, and none that shows nothing.
pub record IsOther (line : List ℕ) : Type 0 where
  pub no_head : (version : Version) → line ≡ version_text version → ⊥
  pub no_end : (end : RecordEnd) → IsEnd line end → ⊥
  pub no_message : HasNoMessage line
  pub no_silence : IsSilent line → ⊥

-- what the line is
abbrev pub IsLine : List ℕ → ListLine → Type 0
IsLine line (Head version) = (line ≡ version_text version) × ¬ IsSilent line
IsLine line (End end) = IsEnd line end × ¬ IsSilent line
IsLine line (Said seat text) = SaysMessage line seat text.now
IsLine line (Sent seat text) = SaysMessage line seat text.items
IsLine line Silent = IsSilent line × HasNoMessage line
IsLine line (Other text) = (text.now ≡ line) × IsOther line
