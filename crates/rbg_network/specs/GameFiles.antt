-- The file beside a log that names its match.
use Rattle.std.specs.Prelude.{◌≡◌, ◌≢◌, ℕ, List, [], ◌∷◌, ◌++◌, Option, Some, None, option_map, codes}
use Rattle.hex.specs.Hex.{encode_lower}
use Rattle.rbg_network.specs.declared.game_file.Naming.{Naming}
use Rattle.rbg_network.specs.declared.game_file.Naming.TheVariants.{This, Other}

-- `sha256 `, the digest in small hexadecimal digits, and a line feed
abbrev pub digest_line : (digest : List ℕ) → List ℕ
digest_line digest = codes "sha256 " ++ encode_lower digest ++ 10 ∷ []

-- `names `, the players' names and a line feed, if they are known
abbrev pub names_line : (names : Option (List ℕ)) → List ℕ
names_line None = []
names_line (Some names) = codes "names " ++ names ++ 10 ∷ []

-- After the digest's line stands that of these names, or that of none.
abbrev pub IsTail : (tail : List ℕ) → Naming → Type 0
IsTail tail (This names) = tail ≡ names_line (option_map (λ one. one.now) names)
IsTail tail Other = (names : Option (List ℕ)) → tail ≢ names_line names

-- the text of a game file, for the digest of a description
abbrev pub game_text : (digest : List ℕ) → (names : Option (List ℕ)) → List ℕ
game_text digest names = digest_line digest ++ names_line names

-- The text is that of a game file for this digest, with these names; or it is that of none.
abbrev pub IsNaming : (text digest : List ℕ) → Naming → Type 0
IsNaming text digest (This names) = text ≡ game_text digest (option_map (λ one. one.now) names)
IsNaming text digest Other = (names : Option (List ℕ)) → text ≢ game_text digest names
