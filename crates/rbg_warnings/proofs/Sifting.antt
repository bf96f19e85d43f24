-- Lists that keep some items of others.
use Rattle.rbg_base.proofs.Common.{◌≡◌, ℕ, ◌+◌, List, [], ◌∷◌, ◌++◌, map, sym, subst, append_assoc, append-nil, range_with_len}
use Rattle.std.proofs.lemmas.List.FromFn.{map-range_with_len_more}
use Rattle.rbg_rules.specs.Meaning.{AbstractGame}
use Rattle.rbg_warnings.specs.declared.warning.Warning.{Warning}
use Rattle.rbg_warnings.specs.Sifting.{Keeps, nothing, kept, left_out}
use Rattle.rbg_warnings.specs.Warnings.{IsWarned}
use Rattle.rbg_warnings.specs.internal.Walking.{Sifts}

keeps_one : {A : Type 0} (P : A → Type 0) (xs ys : List A) (x : A) → P x → Keeps P xs ys → Keeps P (xs ++ x ∷ []) (ys ++ x ∷ [])
keeps_one P _ _ x h nothing = kept x [] [] h nothing
keeps_one P _ _ x h (kept y xs ys here more) = kept y (xs ++ x ∷ []) (ys ++ x ∷ []) here (keeps_one P xs ys x h more)
keeps_one P _ _ x h (left_out y xs ys here more) = left_out y (xs ++ x ∷ []) (ys ++ x ∷ []) here (keeps_one P xs ys x h more)

leaves_one : {A : Type 0} (P : A → Type 0) (xs ys : List A) (x : A) → (P x → ⊥) → Keeps P xs ys → Keeps P (xs ++ x ∷ []) ys
leaves_one P _ _ x h nothing = left_out x [] [] h nothing
leaves_one P _ _ x h (kept y xs ys here more) = kept y (xs ++ x ∷ []) ys here (leaves_one P xs ys x h more)
leaves_one P _ _ x h (left_out y xs ys here more) = left_out y (xs ++ x ∷ []) ys here (leaves_one P xs ys x h more)

pub sifts_none : (game : AbstractGame) (old : List Warning) → Sifts game [] old old
sifts_none game old before h = subst (λ (ws : List Warning). Keeps (IsWarned game) ws old) (sym (append-nil before)) h

pub sifts_in : (game : AbstractGame) (old new : List Warning) (w : Warning) → IsWarned game w → new ≡ old ++ w ∷ [] → Sifts game (w ∷ []) old new
sifts_in game old new w h is before so_far = subst (Keeps (IsWarned game) (before ++ w ∷ [])) (sym is) (keeps_one (IsWarned game) before old w h so_far)

pub sifts_out : (game : AbstractGame) (old : List Warning) (w : Warning) → (IsWarned game w → ⊥) → Sifts game (w ∷ []) old old
sifts_out game old w h before so_far = leaves_one (IsWarned game) before old w h so_far

pub sifts_both : (game : AbstractGame) (some more old middle new : List Warning) → Sifts game some old middle → Sifts game more middle new → Sifts game (some ++ more) old new
sifts_both game some more old middle new first second before so_far =
    subst (λ (ws : List Warning). Keeps (IsWarned game) ws new) (append_assoc before some more) (second (before ++ some) (first before so_far))

-- one more of the warnings by number
pub sifts_more : (game : AbstractGame) (of : ℕ → Warning) (first many number : ℕ) (old middle new : List Warning) → first + many ≡ number → Sifts game (map of (range_with_len first many)) old middle → Sifts game (of number ∷ []) middle new → Sifts game (map of (range_with_len first (many + 1))) old new
sifts_more game of first many number old middle new is before next =
    subst (λ (ws : List Warning). Sifts game ws old new) (sym (map-range_with_len_more of first many number is)) (sifts_both game (map of (range_with_len first many)) (of number ∷ []) old middle new before next)

-- all of the warnings by number
pub sifts_all : (game : AbstractGame) (of : ℕ → Warning) (first many all : ℕ) (old new : List Warning) → many ≡ all → Sifts game (map of (range_with_len first many)) old new → Sifts game (map of (range_with_len first all)) old new
sifts_all game of first many all old new is h = subst (λ (n : ℕ). Sifts game (map of (range_with_len first n)) old new) is h
