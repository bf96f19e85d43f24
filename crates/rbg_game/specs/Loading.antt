-- Which game a text is, and why a text is none.
use Rattle.std.specs.Prelude.{◌≡◌, ℕ, List}
use Rattle.rbg_macro.specs.Token.{Lexeme}
use Rattle.rbg_macro.specs.Sections.{SectionTokens}
use Rattle.rbg_macro.specs.Text.{HasTokens, HasTextFault}
use Rattle.rbg_macro.specs.Expansion.{HasSections, HasMacroFault}
use Rattle.rbg_macro.specs.declared.text_error.TextError.TheVariants.{Memory as TextMemory}
use Rattle.rbg_macro.specs.declared.error.MacroError.TheVariants.{Memory as MacroMemory}
use Rattle.rbg_grammar.specs.Tree.{SpeltDescription}
use Rattle.rbg_grammar.specs.Spells.{Spells}
use Rattle.rbg_syntax.specs.Faults.{HasFault as HasSyntaxFault}
use Rattle.rbg_syntax.specs.declared.error.SyntaxError.TheVariants.{Memory as SyntaxMemory}
use Rattle.rbg_rules.specs.Meaning.{AbstractGame}
use Rattle.rbg_game.specs.Descriptions.{IsGameOf}
use Rattle.rbg_game.specs.Faults.{HasFault}
use Rattle.rbg_game.specs.declared.game_error.GameError.TheVariants.{Memory as GameMemory}
use Rattle.rbg_game.specs.declared.error.LoadError.{LoadError}
use Rattle.rbg_game.specs.declared.error.LoadError.TheVariants as errors

-- the text has these sections
pub record HasSectionsOf (text : List ℕ) (sections : List SectionTokens) : Type 0 where
  pub tokens : List Lexeme
  pub cut : HasTokens text tokens
  pub expanded : HasSections tokens sections

-- the text spells the description
pub record Describes (text : List ℕ) (d : SpeltDescription) : Type 0 where
  pub sections : List SectionTokens
  pub has : HasSectionsOf text sections
  pub spells : Spells sections d

-- The text is the game's: its tokens expand to sections that spell a description of the game.
pub record Loads (text : List ℕ) (game : AbstractGame) : Type 0 where
  pub description : SpeltDescription
  pub describes : Describes text description
  pub game_of : IsGameOf description game

-- the text has the fault that an error names
abbrev pub HasLoadFault : List ℕ → LoadError → Type 0
HasLoadFault text (errors.Text error) = HasTextFault text error
HasLoadFault text (errors.Macro error) =
    (tokens : List Lexeme)
    × HasTokens text tokens
    × HasMacroFault tokens error
HasLoadFault text (errors.Syntax error) =
    (sections : List SectionTokens)
    × HasSectionsOf text sections
    × HasSyntaxFault sections error
HasLoadFault text (errors.Game error) =
    (d : SpeltDescription)
    × Describes text d
    × HasFault d error

-- the error is out of memory, in whatever layer
abbrev pub IsMemory : LoadError → Type 0
IsMemory (errors.Text error) = error ≡ TextMemory
IsMemory (errors.Macro error) = error ≡ MacroMemory
IsMemory (errors.Syntax error) = error ≡ SyntaxMemory
IsMemory (errors.Game error) = error ≡ GameMemory

-- The text has the fault, and is no game's. If memory ran out, nothing is claimed.
pub record IsRefused (text : List ℕ) (error : LoadError) : Type 0 where
  pub fault : HasLoadFault text error
  pub no_game : (¬ IsMemory error) → (game : AbstractGame) → ¬ Loads text game
