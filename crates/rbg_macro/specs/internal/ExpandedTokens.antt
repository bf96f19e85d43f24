-- The state of an expansion: how many tokens were read, and which were kept.
use Rattle.std.specs.Prelude.{ℕ, ◌≡◌, ◌+◌, ◌<◌, ◌≤◌, List, ◌++◌, length, drop, Ok, Err}
use Rattle.rbg_macro.specs.declared.error.MacroError.{MacroError}
use Rattle.rbg_macro.specs.declared.error.MacroError.TheVariants.{TooManyTokens}
use Rattle.rbg_macro.specs.declared.expansion.ExpandedTokens.{ExpandedTokens}
use Rattle.rbg_macro.specs.Limits.{most_kept, deepest_level, most_read}
use Rattle.rbg_macro.specs.declared.source.SectionSpan.{SectionSpan}
use Rattle.rbg_macro.specs.Call.{Calls, meets}
use Rattle.rbg_macro.specs.Expansion.{Expands, Reads, FailsReading}
use Rattle.rbg_macro.specs.Joining.{joined}
use Rattle.rbg_macro.specs.Macro.{Macro}
use Rattle.rbg_macro.specs.Token.{Lexeme}
use Rattle.rbg_macro.specs.Sections.{SectionTokens}

-- no more tokens were read and kept than the limits allow
pub record IsWithinLimits (p : ExpandedTokens) : Type 0 where
  pub read : p.read ≤ most_read
  pub kept : length p.kept ≤ most_kept

-- a joined list of level d was read from the old expanded to the new one
pub record ReadsOn (macros : List Macro) (d : ℕ) (js : List Lexeme) (old new : ExpandedTokens) : Type 0 where
  pub added : List Lexeme
  pub spent : ℕ
  pub reads : Reads macros d js added spent
  pub kept : new.kept ≡ old.kept ++ added
  pub read : new.read ≡ old.read + spent
  pub within : IsWithinLimits new

-- the same of a list that was counted but isn't joined yet
pub record ReadsJoined (macros : List Macro) (d : ℕ) (ts : List Lexeme) (old new : ExpandedTokens) : Type 0 where
  pub js : List Lexeme
  pub joins : joined ts ≡ Ok js
  pub reads : ReadsOn macros d js old new

-- the first fault of such a list
pub data FailsJoined (macros : List Macro) (d : ℕ) (ts : List Lexeme) (old : ExpandedTokens) (e : MacroError) : Type 0 where
  no_join : joined ts ≡ Err e → FailsJoined macros d ts old e
  reading : (js : List Lexeme) → joined ts ≡ Ok js → FailsReading macros d old.read (length old.kept) js e →
      FailsJoined macros d ts old e

-- the token begins a call that may be expanded, and the limit on tokens that are read leaves room for its body
pub record GivesWay (macros : List Macro) (d : ℕ) (t : Lexeme) (ts : List Lexeme) (read : ℕ)
    (body : List Lexeme) (n : ℕ) : Type 0 where
  pub meets : meets macros t ts ≡ Calls body (drop n ts)
  pub within : n ≤ length ts
  pub not_deep : d < deepest_level
  pub counted : read + length body ≤ most_read

-- there are too many tokens
pub record IsTooMany (e : MacroError) (P : Type 0) : Type 0 where
  pub is : e ≡ TooManyTokens
  pub holds : P

-- a section was expanded, and its tokens are at this place
pub record ReadsSection (macros : List Macro) (s : SectionTokens) (old new : ExpandedTokens)
    (span : SectionSpan) : Type 0 where
  pub added : List Lexeme
  pub spent : ℕ
  pub expands : Expands macros 0 s.tokens added spent
  pub kept : new.kept ≡ old.kept ++ added
  pub read : new.read ≡ old.read + spent
  pub within : IsWithinLimits new
  pub span_is : span ≡ record { kind = s.kind; at = s.at; start = length old.kept; end = length new.kept }
