-- The greetings of one more seat, and the names in them.
use Rattle.rbg_base.proofs.Common.{◌≡◌, ℕ, suc, ◌+◌, ◌-◌, ◌<◌, List, [], ◌∷◌, ◌++◌, length, take, Some, slice_get, refl, ap, ◌∙◌, subst, arith, flat_map, enumerate_from, All, IsTrue, slice_get_within, get_or_from_slice_get, All-take}
use Rattle.rbg_base.specs.Names.{is_name}
use Rattle.std.proofs.lemmas.List.{append-nil, take_more, length-take-le}
use Rattle.rbg_rules.specs.Meaning.{IsGame, AbstractGame}
use Rattle.rbg_match.proofs.Common.{Config, greeting, greetings}

greetings_from : (text : List ℕ) (config : Config) (first : ℕ) (names : List (List ℕ)) (name : List ℕ) → flat_map (λ (one : ℕ × List ℕ). greeting text config one.0 one.1) (enumerate_from first (names ++ name ∷ [])) ≡ flat_map (λ (one : ℕ × List ℕ). greeting text config one.0 one.1) (enumerate_from first names) ++ greeting text config (first + length names) name
greetings_from text config first [] name = let same : first + 0 ≡ first = omega arith in rw same (append-nil (greeting text config first name))
greetings_from text config first (other ∷ names) name =
    let same : first + suc (length names) ≡ (first + 1) + length names = omega arith in
    rw same (ap (λ more. greeting text config first other ++ more) (greetings_from text config (first + 1) names name))

-- the greetings of the first `index` seats, and of the next
pub greetings_more : (text : List ℕ) (config : Config) (names : List (List ℕ)) (index : ℕ) (name : List ℕ) → slice_get names (index + 1 - 1) ≡ Some name → greetings text config (take (index + 1) names) ≡ greetings text config (take index names) ++ greeting text config (index + 1) name
greetings_more text config names index name found =
    let same : index + 1 - 1 ≡ index = omega arith in
    let there : slice_get names index ≡ Some name = rw same at found in
    let within : index < length names = slice_get_within names index name there in
    let count : length (take index names) ≡ index = length-take-le index names (omega arith) in
    let number : 1 + index ≡ index + 1 = omega arith in
    rw (take_more names index name within, get_or_from_slice_get names index name name there) (greetings_from text config 1 (take index names) name ∙ rw (count, number) refl)

-- a player's name is a name if all are
pub name_at : (names : List (List ℕ)) → All (λ name. IsTrue (is_name name)) names → (index : ℕ) (name : List ℕ) → slice_get names (index + 1 - 1) ≡ Some name → IsTrue (is_name name)
name_at names all index name found =
    let same : index + 1 - 1 ≡ index = omega arith in
    let there : slice_get names index ≡ Some name = rw same at found in
    subst (λ one. IsTrue (is_name one)) (get_or_from_slice_get names index name name there) (all index name (slice_get_within names index name there))

-- the players of an accepted game are its first variables, whose names are names of the language
pub players_named : (game : AbstractGame) → IsGame game → All (λ name. IsTrue (is_name name)) game.players
players_named game lawful =
    let first = All-take (λ name. IsTrue (is_name name)) (length game.players) game.variables lawful.variable_names.names in
    subst (All (λ name. IsTrue (is_name name))) lawful.scores first
