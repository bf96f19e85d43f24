-- Lemmas on what the words ask for.
use Rattle.std.proofs.Common.{◌≡◌, ◌∙◌, ap, sym, subst, unwrap_or, Some, None}
use Rattle.rbg_cli.specs.declared.command.Command.{Command}
use Rattle.rbg_cli.specs.Words.{Wish}
use Rattle.rbg_cli.specs.Wishes.{wish_of}

-- what is found is what is asked for
wish_found : (known wish : Wish) → Some known ≡ Some wish → known ≡ wish
wish_found known wish same = ap (λ found. unwrap_or found known) same

-- what is true of the wish that a command grants is true of the one that is asked for
pub granted : (P : Wish → Type 0) (command one : Command) (known wish : Wish) → command ≡ one → wish_of one ≡ Some known → P known → wish_of command ≡ Some wish → P wish
granted P command one known wish is grants ran same =
    subst P (wish_found known wish (sym grants ∙ subst (λ c. wish_of c ≡ Some wish) is same)) ran

-- a command that grants no wish is not asked for one
pub not_granted : {Q : Type 0} (command one : Command) (wish : Wish) → command ≡ one → wish_of one ≡ None → wish_of command ≡ Some wish → Q
not_granted command one wish is grants same =
    absurd (let no : None ≡ Some wish = sym grants ∙ subst (λ c. wish_of c ≡ Some wish) is same in cc)
