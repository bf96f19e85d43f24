-- The tables of a hall, of their descriptions.
use Rattle.std.specs.Prelude.{◌≡◌, ℕ, List, [], ◌∷◌, ◌++◌, All, map}
use Rattle.rbg_hall.specs.Halls.{AbstractTable}
use Rattle.rbg_game.specs.Loading.{Loads, IsRefused, IsMemory}
use Rattle.rbg_game.specs.declared.error.LoadError.{LoadError}
use Rattle.rbg_match.specs.declared.config.Config.{Config}
use Rattle.rbg_rules.specs.Meaning.{AbstractGame}
use Rattle.std.specs.Global.{Vec}

-- the bytes of each description
abbrev pub texts_of : List (Vec ℕ) → List (List ℕ)
texts_of descriptions = map (λ description. description.items) descriptions

-- the text is a game's
pub record IsGames (text : List ℕ) : Type 0 where
  pub game : AbstractGame
  pub loads : Loads text game

-- A table for a description: it has the description's game, its text and the config.
pub record IsTableOf (config : Config) (description : List ℕ) (table : AbstractTable) : Type 0 where
  pub loads : Loads description table.game
  pub text : table.text ≡ description
  pub has : table.config ≡ config

-- A table for each of the first descriptions, and then for one more.
pub data AreTablesOf (config : Config) : (descriptions : List (List ℕ)) → List AbstractTable → Type 0 where
  no_table : AreTablesOf config [] []
  one_more : (descriptions : List (List ℕ)) (tables : List AbstractTable) (description : List ℕ) (table : AbstractTable)
      → AreTablesOf config descriptions tables
      → IsTableOf config description table
      → AreTablesOf config (descriptions ++ description ∷ []) (tables ++ table ∷ [])

-- A description is the first that is no game's, and has the fault that is named.
pub record HasRefused (descriptions : List (List ℕ)) (error : LoadError) : Type 0 where
  pub earlier : List (List ℕ)
  pub description : List ℕ
  pub later : List (List ℕ)
  pub parts : descriptions ≡ earlier ++ description ∷ later
  pub games : All IsGames earlier
  pub refused : IsRefused description error
  pub known : ¬ IsMemory error
