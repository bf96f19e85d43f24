-- A layer that refuses a text leaves it no game.
use Rattle.std.proofs.Common.{◌≡◌, ◌≢◌, ℕ, List, sym, subst, Result, Ok, Err, IfErr, IsErrAnd}
use Rattle.rbg_macro.proofs.TextCommon.{Lexeme, HasTokens, HasTextFault}
use Rattle.rbg_macro.proofs.Common.{SectionTokens, HasSections, HasMacroFault}
use Rattle.rbg_macro.specs.declared.text_error.TextError.{TextError}
use Rattle.rbg_macro.specs.declared.error.MacroError.{MacroError}
use Rattle.rbg_macro.proofs.OneReading.{tokens_once, text_refused_for_memory}
use Rattle.rbg_macro.proofs.OneExpansion.{sections_once, sections_refused_for_memory}
use Rattle.rbg_grammar.proofs.Common.{SpeltDescription, Spells}
use Rattle.rbg_grammar.proofs.OneDescription.{one_description}
use Rattle.rbg_syntax.specs.Faults.{HasFault as HasSyntaxFault}
use Rattle.rbg_syntax.specs.declared.error.SyntaxError.{SyntaxError}
use Rattle.rbg_syntax.specs.declared.error.SyntaxError.TheVariants.{Memory as SyntaxMemory}
use Rattle.rbg_rules.specs.Meaning.{AbstractGame}
use Rattle.rbg_game.proofs.Common.{IsGameOf, HasFault, GameError, LoadError, HasSectionsOf, Describes, IsRefused}
use Rattle.rbg_game.specs.declared.game_error.GameError.TheVariants.{Memory as GameMemory}
use Rattle.rbg_game.specs.declared.error.LoadError.TheVariants as errors

-- the sections of a text are no others
one_source : (text : List ℕ) (a b : List SectionTokens) → HasSectionsOf text a → HasSectionsOf text b → a ≡ b
one_source text a b x y = sections_once y.tokens a b (subst (λ ts. HasSections ts a) (tokens_once text x.tokens y.tokens x.cut y.cut) x.expanded) y.expanded

-- a text spells one description
pub one_spelt : (text : List ℕ) (a b : SpeltDescription) → Describes text a → Describes text b → a ≡ b
one_spelt text a b x y = one_description y.sections a b (subst (λ ss. Spells ss a) (one_source text x.sections y.sections x.has y.has) x.spells) y.spells

-- The sections of a text's tokens are the text's.
pub sections_of_text : (text : List ℕ) (tokens : List Lexeme) (sections : List SectionTokens) → HasTokens text tokens → HasSections tokens sections → HasSectionsOf text sections
sections_of_text text tokens sections cut expanded = record { tokens = tokens; cut = cut; expanded = expanded }

-- What the sections of a text spell is what the text spells.
pub described : (text : List ℕ) (sections : List SectionTokens) (d : SpeltDescription) → HasSectionsOf text sections → Spells sections d → Describes text d
described text sections d has spells = record { sections = sections; has = has; spells = spells }

-- An error that is passed on.
pub refused_by : {T : Type 0} (result : Result T LoadError) (text : List ℕ) (error : LoadError) → IsErrAnd result (λ e. e ≡ error) → IsRefused text error → IfErr result (IsRefused text)
refused_by (Ok x) text error is refused = absurd is
refused_by (Err e) text error is refused = subst (IsRefused text) (sym is) refused

pub refused_in_text : (text : List ℕ) (e : TextError) → HasTextFault text e → IsRefused text (errors.Text e)
refused_in_text text e fault = record { fault = fault; no_game = λ other game loads. other (text_refused_for_memory text loads.describes.has.tokens loads.describes.has.cut e fault) }

pub refused_in_macros : (text : List ℕ) (ts : List Lexeme) (e : MacroError) → HasTokens text ts → HasMacroFault ts e → IsRefused text (errors.Macro e)
refused_in_macros text ts e cut fault =
    record {
      fault = (ts, cut, fault);
      no_game = λ other game loads. other (sections_refused_for_memory ts loads.describes.sections (subst (λ us. HasSections us loads.describes.sections) (tokens_once text loads.describes.has.tokens ts loads.describes.has.cut cut) loads.describes.has.expanded) e fault);
    }

pub refused_in_syntax : (text : List ℕ) (sections : List SectionTokens) (e : SyntaxError) → HasSectionsOf text sections → HasSyntaxFault sections e
    → ((d : SpeltDescription) → Spells sections d → e ≡ SyntaxMemory) → IsRefused text (errors.Syntax e)
refused_in_syntax text sections e has fault only =
    record {
      fault = (sections, has, fault);
      no_game = λ other game loads. other (only loads.description (subst (λ ss. Spells ss loads.description) (one_source text loads.describes.sections sections loads.describes.has has) loads.describes.spells));
    }

pub refused_in_checks : (text : List ℕ) (d : SpeltDescription) (e : GameError) → Describes text d → HasFault d e
    → (e ≢ GameMemory → (game : AbstractGame) → IsGameOf d game → ⊥) → IsRefused text (errors.Game e)
refused_in_checks text d e describes fault none =
    record {
      fault = (d, describes, fault);
      no_game = λ other game loads. none other game (subst (λ c. IsGameOf c game) (one_spelt text loads.description d loads.describes describes) loads.game_of);
    }
