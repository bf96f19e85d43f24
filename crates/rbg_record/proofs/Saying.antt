-- What a line contains shows what the lines before it lead to.
use Rattle.std.proofs.Common.{◌≡◌, ℕ, List, refl}
use Rattle.rbg_wire.specs.Words.{words_of}
use Rattle.rbg_record.specs.declared.heading.Start.{Start}
use Rattle.rbg_record.specs.declared.heading.Version.{Version}
use Rattle.rbg_record.specs.declared.line.Content.TheVariants as contents
use Rattle.rbg_record.specs.declared.next.Next.TheVariants as nexts
use Rattle.rbg_record.proofs.LineCommon.{HasContent, SpellsPlayers, SpellsStart, version_text}
use Rattle.rbg_record.proofs.Common.{Reached, version_next, players_next, start_next, entry_next, nothing_next, next_of}

pub says_version : (reached : Reached) (text : List ℕ) (version : Version) → HasContent (next_of reached) text (contents.Version version) → (reached ≡ version_next) × (text ≡ version_text version)
says_version version_next text version says = (refl, says)
says_version _ text version says = absurd says

pub says_players : (reached : Reached) (text : List ℕ) (names : _) → HasContent (next_of reached) text (contents.Players names) → (reached ≡ players_next) × SpellsPlayers text (words_of names.now)
says_players players_next text names says = (refl, says)
says_players _ text names says = absurd says

pub says_start : (reached : Reached) (text : List ℕ) (start : Start) → HasContent (next_of reached) text (contents.Start start) → (reached ≡ start_next) × SpellsStart text start
says_start start_next text start says = (refl, says)
says_start _ text start says = absurd says

-- nothing comes next after the end alone
pub ended : (reached : Reached) → next_of reached ≡ nexts.Nothing → reached ≡ nothing_next
ended version_next none = absurd (let apart : nexts.Version ≡ nexts.Nothing = none in cc)
ended players_next none = absurd (let apart : nexts.Players ≡ nexts.Nothing = none in cc)
ended start_next none = absurd (let apart : nexts.Start ≡ nexts.Nothing = none in cc)
ended (entry_next match_so_far) none = absurd (let apart : nexts.Entry match_so_far.version ≡ nexts.Nothing = none in cc)
ended nothing_next none = refl
