-- An input has answers of one status at most.
use Rattle.std.proofs.Common.{◌≡◌, ℕ, List, ap, refl, sym, subst}
use Rattle.rbg_console.specs.declared.status.Status.TheVariants.{Success, Refused, BadInput}
use Rattle.rbg_game.specs.Loading.{Loads, IsRefused, IsMemory}
use Rattle.rbg_game.specs.declared.error.LoadError.{LoadError}
use Rattle.rbg_rules.specs.Meaning.{AbstractGame}
use Rattle.rbg_script.proofs.Marks.{inputs_apart}
use Rattle.rbg_script.proofs.ScriptLemmas.{scripts_apart}
use Rattle.rbg_script.specs.Inputs.{IsInput}
use Rattle.rbg_script.specs.Scripts.{HasMisfit}
use Rattle.rbg_referee.specs.Answers.{script_line}
use Rattle.rbg_referee.specs.Answers.IsAnswer.{played, refused, misfit, unmarked}
use Rattle.rbg_referee.specs.InputLaws.{AnswersAreApart}
use Rattle.rbg_referee.specs.Matches.{IsInputsMatch}

-- a description is a game's or refused
loaded_or_refused : (input d e s t : List ℕ) (game : AbstractGame) (error : LoadError) → IsInput input d s → Loads d game → IsInput input e t → IsRefused e error → ¬ IsMemory error → ⊥
loaded_or_refused input d e s t game error one loads other why known =
    why.no_game known game (subst (λ text. Loads text game) (inputs_apart input d e s t one other).0 loads)

played_or_refused : (input lines e t : List ℕ) (error : LoadError) → IsInputsMatch input lines → IsInput input e t → IsRefused e error → ¬ IsMemory error → ⊥
played_or_refused input lines e t error is other why known =
    loaded_or_refused input is.description e is.text t is.played.played.refereed.game error is.parts is.played.played.refereed.loads other why known

-- a script is read or has a misfit
played_or_misfit : (input lines e t : List ℕ) (number : ℕ) → IsInputsMatch input lines → IsInput input e t → HasMisfit t number → ⊥
played_or_misfit input lines e t number is other has =
    let same = (inputs_apart input is.description e is.text t is.parts other).1 in
    scripts_apart.either is.text number is.played.script (subst (λ text. HasMisfit text number) (sym same) has) is.played.spells

one_misfit : (input d e s t : List ℕ) (m n : ℕ) → IsInput input d s → HasMisfit s m → IsInput input e t → HasMisfit t n → m ≡ n
one_misfit input d e s t m n one has other had =
    let same = (inputs_apart input d e s t one other).1 in
    scripts_apart.misfits s m n has (subst (λ text. HasMisfit text n) (sym same) had)

pub answers_apart : AnswersAreApart
answers_apart input _ _ _ _ (played lines is) (played others was) = (refl, λ bad. absurd (let differs : Success ≡ BadInput = bad in cc))
answers_apart input _ _ _ _ (played lines is) (refused e t error other why known) = absurd (played_or_refused input lines e t error is other why known)
answers_apart input _ _ _ _ (played lines is) (misfit e t game number other loads has) = absurd (played_or_misfit input lines e t number is other has)
answers_apart input _ _ _ _ (played lines is) (unmarked lacks) = absurd (lacks is.description is.text is.parts)
answers_apart input _ _ _ _ (refused e t error one why known) (played lines is) = absurd (played_or_refused input lines e t error is one why known)
answers_apart input _ _ _ _ (refused d s error one why known) (refused e t fault other says knows) = (refl, λ bad. absurd (let differs : Refused ≡ BadInput = bad in cc))
answers_apart input _ _ _ _ (refused e t error one why known) (misfit d s game number other loads has) = absurd (loaded_or_refused input d e s t game error other loads one why known)
answers_apart input _ _ _ _ (refused e t error one why known) (unmarked lacks) = absurd (lacks e t one)
answers_apart input _ _ _ _ (misfit e t game number one loads has) (played lines is) = absurd (played_or_misfit input lines e t number is one has)
answers_apart input _ _ _ _ (misfit d s game number one loads has) (refused e t error other why known) = absurd (loaded_or_refused input d e s t game error one loads other why known)
answers_apart input _ _ _ _ (misfit d s game m one loads has) (misfit e t other n two too had) = (refl, λ bad. ap script_line (one_misfit input d e s t m n one has two had))
answers_apart input _ _ _ _ (misfit d s game number one loads has) (unmarked lacks) = absurd (lacks d s one)
answers_apart input _ _ _ _ (unmarked lacks) (played lines is) = absurd (lacks is.description is.text is.parts)
answers_apart input _ _ _ _ (unmarked lacks) (refused e t error other why known) = absurd (lacks e t other)
answers_apart input _ _ _ _ (unmarked lacks) (misfit e t game number other loads has) = absurd (lacks e t other)
answers_apart input _ _ _ _ (unmarked lacks) (unmarked never) = (refl, λ bad. refl)
