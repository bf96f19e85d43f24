-- Laws: a rule is one expression by numbers at most; with a fault it is none.
use Rattle.std.specs.Prelude.{◌≡◌, ◌≢◌}
use Rattle.rbg_grammar.specs.Tree.{SpeltRule}
use Rattle.rbg_rules.specs.Meaning.{Expression}
use Rattle.rbg_game.specs.declared.game_error.GameError.{GameError}
use Rattle.rbg_game.specs.declared.game_error.GameError.TheVariants.{Memory}
use Rattle.rbg_game.specs.NameNumbers.{Names, HasDifferentNames}
use Rattle.rbg_game.specs.RuleFaults.{HasRuleFault}
use Rattle.rbg_game.specs.Numbered.{IsRuleByNumbers}

-- If names differ, a rule is at most one expression by numbers.
abbrev pub OneNumberingLaw : Type 0
OneNumberingLaw =
    (names : Names) (rule : SpeltRule) (x y : Expression)
    → HasDifferentNames names
    → IsRuleByNumbers names rule x
    → IsRuleByNumbers names rule y
    → x ≡ y

-- A rule with a fault has no numbers.
abbrev pub NoNumbersWithFaultLaw : Type 0
NoNumbersWithFaultLaw =
    (names : Names) (rule : SpeltRule) (error : GameError)
    → HasRuleFault names rule error
    → error ≢ Memory
    → (x : Expression)
    → ¬ IsRuleByNumbers names rule x
