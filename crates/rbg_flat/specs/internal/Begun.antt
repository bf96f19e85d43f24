-- A flat part that is being found: what is marked, and what of it is still to be looked at.
use Rattle.std.specs.Prelude.{◌≡◌, ℕ, Bool, true}
use Rattle.rbg_rules.specs.Meaning.{Start, AbstractGame, AbstractState}
use Rattle.rbg_flat.specs.Ways.{Way, IsFirstLead, EndsFirst, IsLead, EndsLead}
use Rattle.rbg_flat.specs.Chains.{Holds, IsMet, EndsMet}
use Rattle.rbg_flat.specs.internal.Passing.{IsToTry}

-- Vertices with positions.
abbrev pub Pairs : Type 1
Pairs = (v p : ℕ) → Type 0

-- What is marked is right, and all that follows from it is marked, but for what is still open.
--   sound: what is marked is met
--   begun: what one is led to first is marked
--   closed: so is what one is led to from what is marked, isn't open, and holds
--   to_try: no modifier is open, and an on only where one of its pieces stands
--   sound_end, begun_end, closed_end: the same of whether a word may end
pub record IsBegun
    (way : Way) (game : AbstractGame) (s : AbstractState) (f : Start) (Marked Open : Pairs) (ends : Bool)
    : Type 0
  where
    pub sound : (v p : ℕ) → Marked v p → IsMet way game s f v p
    pub begun : (v p : ℕ) → IsFirstLead way game f s.vertex p v → Marked v p
    pub closed :
        (v q u p : ℕ) → Marked v q → ¬ Open v q → Holds game s v q → IsLead way game q v p u → Marked u p
    pub to_try : (v p : ℕ) → Open v p → IsToTry game s v p
    pub sound_end : ends ≡ true → EndsMet way game s f
    pub begun_end : EndsFirst way game f s.vertex → ends ≡ true
    pub closed_end :
        (v q : ℕ) → Marked v q → ¬ Open v q → Holds game s v q → EndsLead way game q v → ends ≡ true
