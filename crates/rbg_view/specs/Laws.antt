-- Laws of pages.
use Rattle.std.specs.Prelude.{◌≡◌, ℕ, Bool, true, ◌==◌, ◌||◌, not, List, length}
use Rattle.std.specs.List.{list_all}
use Rattle.rbg_view.specs.Places.{changed, changes_from}
use Rattle.rbg_view.specs.Texts.{escaped}

-- a byte that is none of `<`, `>`, `"` and `'`
abbrev pub is_plain : ℕ → Bool
is_plain byte = not (byte == 60 || byte == 62 || byte == 34 || byte == 39)

-- No text can begin or end a tag or an attribute of the page in which it stands.
abbrev pub EscapedIsPlain : Type 0
EscapedIsPlain = (text : List ℕ) → list_all is_plain (escaped text) ≡ true

-- What has changed between two places leads from the one to the other.
abbrev pub ChangesLeadOn : Type 0
ChangesLeadOn = (before after : List ℕ) → length before ≡ length after → changed before (changes_from 0 before after) ≡ after
