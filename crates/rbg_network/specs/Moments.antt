-- The moments of a clock that goes on by what was waited. A *mark* counts microseconds, a moment milliseconds.
use Rattle.std.specs.Prelude.{◌≡◌, ◌≤◌, ◌<◌, ◌⊎◌, ℕ, ◌+◌, ◌*◌, ◌/◌, true, Bool}

-- The mark at which the moment `due` is over.
abbrev pub over_at : (due : ℕ) → ℕ
over_at due = due * 1000 + 1000

-- A wait began at one mark, was asked to end at another one, and lasted so long: then the clock is at this mark. It goes on by
-- no more than the wait lasted, and to no later mark than it was asked for; it goes on so far if that is asked for, and
-- never back.
pub record GoesOn (before lasted end after : ℕ) : Type 0 where
  pub never_back : before ≤ after
  pub no_longer : after ≤ before + lasted
  pub no_later : (before ≤ end) → after ≤ end
  pub so_far : (before + lasted ≤ end) → after ≡ before + lasted
  pub to_its_end : (before ≤ end) → (end ≤ before + lasted) → after ≡ end

-- What is said at the end of a wait, which began at one mark and ended at another, is said before the moment `due` is over: the
-- mark is before that; or somebody spoke in the wait, which began before that.
abbrev pub IsInTime : (due before after : ℕ) → (spoke : Bool) → Type 0
IsInTime due before after spoke = (after < over_at due) ⊎ ((spoke ≡ true) × (before < over_at due))

-- The moment that the clock gives then: that of its mark, but a moment before `due` if it is in time, and no other if it isn't.
pub record IsMoment (due before after : ℕ) (spoke : Bool) (moment : ℕ) : Type 0 where
  pub no_later : moment ≤ after / 1000
  pub in_time : IsInTime due before after spoke → 0 < due → moment < due
  pub same : (after < due * 1000) → moment ≡ after / 1000
  pub too_late : (¬ IsInTime due before after spoke) → moment ≡ after / 1000
