-- What a game file says, by what stands after its first line.
use Rattle.std.proofs.Common.{◌≡◌, ℕ, List, ◌++◌, sym, ◌∙◌, ap}
use Rattle.std.proofs.lemmas.List.{append_cancel_left}
use Rattle.rbg_network.specs.declared.game_file.Naming.{Naming}
use Rattle.rbg_network.specs.declared.game_file.Naming.TheVariants.{This, Other}
use Rattle.rbg_network.specs.GameFiles.{IsNaming, IsTail, digest_line, names_line}

pub naming_by_tail : (text digest tail : List ℕ) (naming : Naming) → text ≡ digest_line digest ++ tail → IsTail tail naming → IsNaming text digest naming
naming_by_tail text digest tail (This names) is said = is ∙ ap (λ (one : List ℕ). digest_line digest ++ one) said
naming_by_tail text digest tail Other is said = λ names other. said names (append_cancel_left (digest_line digest) tail (names_line names) (sym is ∙ other))

pub no_naming : (text digest : List ℕ) → ((rest : List ℕ) → text ≡ digest_line digest ++ rest → ⊥) → IsNaming text digest Other
no_naming text digest none = λ names is. none (names_line names) is
