-- From which moment the matches of a hall go on.
use Rattle.rbg_base.proofs.Common.{◌≡◌, ◌⊎◌, ℕ, zero, suc, ◌+◌, ◌<◌, ◌≤◌, ◌-◌, List, sym, ap, ◌∙◌, subst, arith, Option, Some, None, inl, inr, cases_lt}
use Rattle.rbg_match.specs.Matches.{MatchState}
use Rattle.rbg_hall.specs.Tables.{TableState}
use Rattle.rbg_hosting.specs.Moments.{IsInPlay, IsSince}
use Rattle.rbg_hosting.specs.Moments.IsSince.{first, none}
use Rattle.rbg_hosting.specs.internal.Moments.{IsEarlierOf, IsFirst, IsLastOrNone, IsNotBefore, IsNotEarlier, IsOfOne}

-- no match of this number stands before a moment that is earlier
weaken : (tables : List TableState) (one earlier : Option ℕ) (number : ℕ) → IsNotEarlier one earlier → IsNotBefore tables one number → IsNotBefore tables earlier number
weaken tables None None number later before = before
weaken tables None (Some at) number later before = λ moment is. absurd (before moment is)
weaken tables (Some one) None number later before = absurd later
weaken tables (Some one) (Some at) number later before = λ moment is. let least = before moment is in omega (arith, later, least)

-- a match has one last moment
same_last : (tables : List TableState) (number one other : ℕ) → IsInPlay tables number one → IsInPlay tables number other → one ≡ other
same_last tables number one other x y =
    x.last
    ∙ ap (λ (playing : MatchState). playing.streams.moment) (same (sym x.begun ∙ y.begun))
    ∙ sym y.last
  where
    same : {a b : MatchState} → Some a ≡ Some b → a ≡ b
    same is = cc

own : (tables : List TableState) (number : ℕ) (last : Option ℕ) → IsLastOrNone tables number last → IsNotBefore tables last number
own tables number None is = is
own tables number (Some at) is = λ moment one. let same = same_last tables number at moment is one in omega (arith, same)

there : (tables : List TableState) (matches : ℕ) (last : Option ℕ) → IsLastOrNone tables (matches + 1) last → IsOfOne tables (matches + 1) last
there tables matches None is = tt {0}
there tables matches (Some at) is = (matches + 1, omega arith, is)

more : (tables : List TableState) (matches : ℕ) (before : Option ℕ) → IsOfOne tables matches before → IsOfOne tables (matches + 1) before
more tables matches None of_one = tt {0}
more tables matches (Some at) of_one = let within = of_one.1 in (of_one.0, omega (arith, within), of_one.2)

-- there is no match with the number 0
pub none_yet : (tables : List TableState) → IsFirst tables 0 None
none_yet tables = record { of_one = tt {0}; not_before = λ number few moment is. unnumbered number few is }
  where
    unnumbered : (number : ℕ) → {moment : ℕ} → number ≤ 0 → IsInPlay tables number moment → ⊥
    unnumbered zero few is = let wrong : None ≡ Some is.playing = is.begun in cc
    unnumbered (suc number) few is = omega (arith, few)

-- one match more
pub one_more : (tables : List TableState) (matches : ℕ) (before last new : Option ℕ) → IsFirst tables matches before → IsLastOrNone tables (matches + 1) last → IsEarlierOf before last new → IsFirst tables (matches + 1) new
one_more tables matches before last new are is earlier = record {
  of_one = elim earlier.is [
    | inl same ↦ subst (IsOfOne tables (matches + 1)) (sym same) (more tables matches before are.of_one)
    | inr same ↦ subst (IsOfOne tables (matches + 1)) (sym same) (there tables matches last is)
  ];
  not_before = λ number within. elim (cases_lt number (matches + 1)) [
    | inl less ↦ weaken tables before new number earlier.before_one (are.not_before number (omega (arith, less)))
    | inr past ↦ let same : number ≡ matches + 1 = omega (arith, within, past) in subst (IsNotBefore tables new) (sym same) (weaken tables last new (matches + 1) earlier.before_other (own tables (matches + 1) last is))
  ];
}

-- from the first of them
pub since_first : (tables : List TableState) (matches at : ℕ) → IsFirst tables matches (Some at) → IsSince tables matches at
since_first tables matches at is = first is.of_one.0 at is.of_one.1 is.of_one.2 (λ other moment within one. is.not_before other within moment one)

-- from 0, if there is none
pub since_none : (tables : List TableState) (matches : ℕ) → IsFirst tables matches None → IsSince tables matches 0
since_none tables matches is = none (λ number moment within. is.not_before number within moment)
