-- What the walk over the rules lays down at each position.
use Rattle.std.specs.Prelude.{◌≡◌, ℕ, ◌<◌, List, [], Bool, true, false, ◌&&◌}
use Rattle.rbg_rules.specs.Meaning.{AbstractAction, positive, negative, Expression, act, skip, sequence, fail, choice, star, positions_of, Level, outermost, inside, HasNoEmptySum}
use Rattle.rbg_rules.proofs.PositionLemmas.{Among}
use Rattle.rbg_auto.specs.internal.Orders.{Ascends, Joins}
use Rattle.rbg_auto.specs.internal.Firsts.{may_be_empty, past, firsts}

-- What is laid at a position: what comes after it and whether words end there, and how the words of its inside begin.
pub record Laid : Type 0 where
  pub next : List ℕ
  pub may_end : Bool
  pub first : List ℕ
  pub may_be_empty : Bool

-- What comes before y, if k comes after y: m.
pub record ComesBefore (y : Expression) (k : List ℕ) (end : Bool) (m : List ℕ) (may_end : Bool) : Type 0 where
  pub positions : Joins (firsts y) (past y k) m
  pub ends : may_end ≡ (may_be_empty y && end)

abbrev mutual
  -- Each action of the expression has its lists, if the list k comes after the expression; and the words in which it is
  -- may end there or not.
  pub IsLaid : (ℕ → Laid) → Expression → List ℕ → Bool → Type 0
  IsLaid at (act p a) k end = ((at p).next ≡ k) × ((at p).may_end ≡ end) × IsLaidInside at p a
  IsLaid at skip k end = Unit {0}
  IsLaid at (sequence x y) k end =
      (m : List ℕ) × (may_end : Bool) × ComesBefore y k end m may_end × IsLaid at x m may_end × IsLaid at y k end
  IsLaid at fail k end = Unit {0}
  IsLaid at (choice x y) k end = IsLaid at x k end × IsLaid at y k end
  IsLaid at (star x) k end = (m : List ℕ) × Joins (firsts x) k m × IsLaid at x m end

  -- The inside of a pattern is a level of its own, after which nothing comes.
  pub IsLaidInside : (ℕ → Laid) → ℕ → AbstractAction → Type 0
  IsLaidInside at p (positive x) =
      ((at p).first ≡ firsts x) × ((at p).may_be_empty ≡ may_be_empty x) × IsLaid at x [] true
  IsLaidInside at p (negative x) =
      ((at p).first ≡ firsts x) × ((at p).may_be_empty ≡ may_be_empty x) × IsLaid at x [] true
  IsLaidInside at p _ = ((at p).first ≡ []) × ((at p).may_be_empty ≡ false)

-- No sum of the expression is empty, and its positions are in increasing order and below the size.
pub record IsLawful (size : ℕ) (x : Expression) : Type 0 where
  pub no_empty_sum : HasNoEmptySum x
  pub order : Ascends (positions_of x)
  pub below : (q : ℕ) → Among q (positions_of x) → q < size

-- The expression is laid, and what was laid at other positions is as it was.
pub record Lays (old new : ℕ → Laid) (x : Expression) (k : List ℕ) (end : Bool) : Type 0 where
  pub laid : IsLaid new x k end
  pub others : (q : ℕ) → ¬ Among q (positions_of x) → new q ≡ old q

-- What is laid at a position without an action.
abbrev pub nothing : Laid
nothing = record { next = []; may_end = false; first = []; may_be_empty = false }

-- How the words of a level begin.
abbrev pub first_at : List ℕ → (ℕ → Laid) → Level → List ℕ
first_at first at outermost = first
first_at first at (inside p) = (at p).first

abbrev pub empty_at : Bool → (ℕ → Laid) → Level → Bool
empty_at may at outermost = may
empty_at may at (inside p) = (at p).may_be_empty

-- The rules are laid whole, and nothing else is.
pub record IsWhole (rules : Expression) (first : List ℕ) (may : Bool) (at : ℕ → Laid) : Type 0 where
  pub begins : first ≡ firsts rules
  pub empty : may ≡ may_be_empty rules
  pub laid : IsLaid at rules [] true
  pub others : (q : ℕ) → ¬ Among q (positions_of rules) → at q ≡ nothing
