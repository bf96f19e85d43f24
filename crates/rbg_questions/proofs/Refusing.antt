-- Why sequences are not counted: an error of a question, of the keeper's moves, of what is after a move, of a sum.
use Rattle.std.proofs.Common.{◌≡◌, ℕ, zero, suc, ◌-◌, ◌<◌, ◌⊎◌, List, length, get_or, take, Option, Some, None, Result, Err, inl, inr, refl, subst, sym, arith, AllPairs, ok_or}
use Rattle.std.proofs.lemmas.List.{length-take, get_or-take}
use Rattle.rbg_rules.specs.Meaning.{AbstractGame, AbstractPlace, Legal, list_moves, IsHeavyToFind, IsTooHard}
use Rattle.rbg_search.specs.declared.over.Over.{Over}
use Rattle.rbg_search.specs.declared.over.Over.TheVariants.{Deep, Wide, Memory as OverMemory}
use Rattle.rbg_moves.specs.Settling.{Settles, MeetsHeavy, IsEndless}
use Rattle.rbg_moves.specs.declared.unsettled.Unsettled.{Unsettled}
use Rattle.rbg_moves.specs.declared.unsettled.Unsettled.TheVariants as unsettled
use Rattle.rbg_questions.specs.declared.error.CountError.{CountError}
use Rattle.rbg_questions.specs.declared.error.CountError.TheVariants as errors
use Rattle.rbg_questions.specs.declared.extent.Extent.{Extent}
use Rattle.rbg_questions.specs.declared.extent.Extent.TheVariants.{Ends}
use Rattle.rbg_questions.specs.Refusals.{IsAsked, IsNotCounted, IsNotCountedFrom}
use Rattle.rbg_questions.specs.Refusals.Meets.{here, after}
use Rattle.rbg_questions.specs.Refusals.AsksTooMuch.{keeper, player}
use Rattle.rbg_questions.specs.internal.CountRefusing.{error_of_over}

pub over_to_find : (T : Type 0) (game : AbstractGame) (to : AbstractPlace) (over : Over) → (◌≡◌ {A = Result T Over} (Err over) (Err Deep) ⊎ ◌≡◌ {A = Result T Over} (Err over) (Err Wide) → IsHeavyToFind game to) → IsNotCountedFrom game 0 Ends to (error_of_over over)
over_to_find T game to Deep hard = λ place settles. here tt (player settles (hard (inl refl)))
over_to_find T game to Wide hard = λ place settles. here tt (player settles (hard (inr refl)))
over_to_find T game to OverMemory hard = λ place settles. tt

pub over_to_list : (T : Type 0) (game : AbstractGame) (to : AbstractPlace) (over : Over) → (◌≡◌ {A = Result T Over} (Err over) (Err Deep) ⊎ ◌≡◌ {A = Result T Over} (Err over) (Err Wide) → IsTooHard game list_moves to) → (further : ℕ) (extent : Extent) → IsNotCountedFrom game (suc further) extent to (error_of_over over)
over_to_list T game to Deep hard further extent = λ place settles. here tt (player settles (hard (inl refl)))
over_to_list T game to Wide hard further extent = λ place settles. here tt (player settles (hard (inr refl)))
over_to_list T game to OverMemory hard further extent = λ place settles. tt

pub unsettled_refused : (T : Type 0) (game : AbstractGame) (moves : ℕ) (extent : Extent) (place : AbstractPlace) (why : Unsettled) → IsAsked moves extent → (◌≡◌ {A = Result T Unsettled} (Err why) (Err unsettled.Heavy) → MeetsHeavy game place) → (◌≡◌ {A = Result T Unsettled} (Err why) (Err unsettled.Endless) → IsEndless game place) → IsNotCounted game moves extent place (errors.Unsettled why)
unsettled_refused T game moves extent place unsettled.Heavy asked hard stuck = here asked (keeper (hard refl))
unsettled_refused T game moves extent place unsettled.Endless asked hard stuck = here asked (stuck refl)
unsettled_refused T game moves extent place unsettled.Memory asked hard stuck = tt

-- what is wrong after a first move is wrong after the keeper's moves and that one
pub beyond_first : (game : AbstractGame) (moves : ℕ) (extent : Extent) (place to next : AbstractPlace) (pairs : List (ℕ × ℕ)) (error : CountError) → Settles game place to → Legal game to pairs next → IsNotCounted game moves extent next error → IsNotCounted game (suc moves) extent place error
beyond_first game moves extent place to next pairs (errors.Unsettled unsettled.Heavy) settles legal wrong = after settles legal wrong
beyond_first game moves extent place to next pairs (errors.Unsettled unsettled.Endless) settles legal wrong = after settles legal wrong
beyond_first game moves extent place to next pairs (errors.Unsettled unsettled.Memory) settles legal wrong = tt
beyond_first game moves extent place to next pairs errors.TooMany settles legal wrong = after settles legal wrong

-- where there is a move to count
pub refused_next : (game : AbstractGame) (moves : ℕ) (extent : Extent) (place : AbstractPlace) (error : CountError) → 0 < moves → IsNotCounted game (suc (moves - 1)) extent place error → IsNotCounted game moves extent place error
refused_next game moves extent place error some refused =
    let next : suc (moves - 1) ≡ moves = omega (arith, some) in
    subst (λ k. IsNotCounted game k extent place error) next refused

-- no sum was found
pub no_sum : (T : Type 0) (sum : Option T) (error : CountError) → ◌≡◌ {A = Result T CountError} (Err error) (ok_or sum errors.TooMany) → (error ≡ errors.TooMany) × (sum ≡ None)
no_sum T (Some x) error is = absurd (cc is)
no_sum T None error is = (cc is, refl)

pub different_take : {A : Type 0} (R : A → A → Type 0) (n : ℕ) (xs : List A) → AllPairs R xs → AllPairs R (take n xs)
different_take R n xs all = λ i j d less within.
    let size = length-take n xs in
    let under : j < n = omega (arith, size, within) in
    let inside : j < length xs = omega (arith, size, within) in
    let first = get_or-take n xs i d (omega (arith, less, under)) in
    let second = get_or-take n xs j d under in
    subst (λ x. R x (get_or (take n xs) j d)) (sym first) (subst (λ y. R (get_or xs i d) y) (sym second) (all i j d less inside))

-- where there is a move to count, something is asked
pub asked_of_some : (moves : ℕ) (extent : Extent) → 0 < moves → IsAsked moves extent
asked_of_some zero extent some = absurd (omega (arith, some))
asked_of_some (suc moves) extent some = tt
