-- How a flat part that is being found goes on, and what it is in the end.
use Rattle.std.proofs.Common.{◌≡◌, ℕ, inl, inr, Bool, true, ◌↔◌}
use Rattle.rbg_rules.specs.Meaning.{Start, AbstractGame, AbstractState}
use Rattle.rbg_flat.proofs.Common.{Way, IsMet, first, then, EndsMet, Pairs, IsBegun}

module _ (way : Way) (game : AbstractGame) (s : AbstractState) (f : Start) where
  -- Where nothing is still, what is marked is what is met.
  pub all_marked : (Marked Open : Pairs) (ends : Bool) → IsBegun way game s f Marked Open ends → ((v p : ℕ) → ¬ Open v p) → (v p : ℕ) → IsMet way game s f v p → Marked v p
  all_marked Marked Open ends is none v p (first leap) = is.begun v p leap
  all_marked Marked Open ends is none v p (then {v = w} {q = q} here holds leap) = is.closed w q v p (all_marked Marked Open ends is none w q here) (none w q) holds leap

  pub marked_is_met : (Marked Open : Pairs) (ends : Bool) → IsBegun way game s f Marked Open ends → ((v p : ℕ) → ¬ Open v p) → (v p : ℕ) → Marked v p ↔ IsMet way game s f v p
  marked_is_met Marked Open ends is none v p = (is.sound v p, all_marked Marked Open ends is none v p)

  pub ends_are_met : (Marked Open : Pairs) (ends : Bool) → IsBegun way game s f Marked Open ends → ((v p : ℕ) → ¬ Open v p) → (ends ≡ true) ↔ EndsMet way game s f
  ends_are_met Marked Open ends is none = (is.sound_end, all_ends)
    where
      all_ends : EndsMet way game s f → ends ≡ true
      all_ends (inl end) = is.begun_end end
      all_ends (inr end) = is.closed_end end.vertex end.position (all_marked Marked Open ends is none end.vertex end.position end.met) (none end.vertex end.position) end.holds end.ends
