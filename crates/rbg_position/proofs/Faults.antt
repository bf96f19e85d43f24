-- What each refusal means.
use Rattle.rbg_base.proofs.Common.{◌≡◌, ◌≢◌, ℕ, List, Bool, true, false, not, sym, subst, Result, Err, bytes_eq, bytes_eq-Decides}
use Rattle.rbg_rules.specs.Meaning.{AbstractGame, AbstractPlace}
use Rattle.rbg_moves.specs.Settling.{MeetsHeavy, IsEndless}
use Rattle.rbg_moves.specs.declared.unsettled.Unsettled.{Unsettled}
use Rattle.rbg_moves.specs.declared.unsettled.Unsettled.TheVariants.{Heavy, Endless, Memory}
use Rattle.rbg_position.specs.Refusals.{IsUnsettled}
use Rattle.rbg_position.specs.Refusals.IsUnsettled.{heavy, endless, no_memory}
use Rattle.rbg_position.specs.declared.error.PositionError.{PositionError}
use Rattle.rbg_position.specs.internal.Texts.{error_of}

differ : (t : Bool) → true ≡ not t → t ≡ true → ⊥
differ true test here = let apart : true ≡ false = test in cc
differ false test here = cc

-- texts that differ
pub differ_text : (a b : List ℕ) → true ≡ not (bytes_eq a b) → a ≢ b
differ_text a b test same = differ (bytes_eq a b) test ((bytes_eq-Decides a b).1 same)

-- why the keeper's moves lead to no place
pub unsettled_as : {T : Type 0} (game : AbstractGame) (place : AbstractPlace) (result : Result T Unsettled) (why : Unsettled) (error : PositionError) → result ≡ Err why → error ≡ error_of why
    → (result ≡ Err Heavy → MeetsHeavy game place) → (result ≡ Err Endless → IsEndless game place) → IsUnsettled game place error
unsettled_as game place result Heavy error is told was was_endless = subst (IsUnsettled game place) (sym told) (heavy (was is))
unsettled_as game place result Endless error is told was was_endless = subst (IsUnsettled game place) (sym told) (endless (was_endless is))
unsettled_as game place result Memory error is told was was_endless = subst (IsUnsettled game place) (sym told) no_memory
