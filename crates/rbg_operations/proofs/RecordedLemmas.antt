-- Lemmas on recorded matches.
use Rattle.std.proofs.Common.{ℕ, List, inl, inr, subst}
use Rattle.rbg_operations.specs.Laws.{RecordsAreGood, RightRecordsAreGood, SameLines}
use Rattle.rbg_game.specs.Loading.{Loads}
use Rattle.rbg_operations.specs.Recorded.{IsRecorded}

pub same_lines : SameLines
same_lines description text lines told is = record {
  script = is.script;
  spells = is.spells;
  played = record { outbox = is.outbox; refereed = is.played.refereed; printed = is.written.printed };
}

-- the description is that of the match's game
game_loads : (description text lines told : List ℕ) → (is : IsRecorded description text lines told) → Loads description is.state.game
game_loads description text lines told is = subst (λ game. Loads description game) is.played.of_game is.played.refereed.loads

pub good_records : RightRecordsAreGood → RecordsAreGood
good_records law description text lines told said status is fits answer =
    elim (law is.state.game description told said status (game_loads description text lines told is) is.written.right fits answer) [
      | inl good ↦ inl good
      | inr heavy ↦ inr (heavy.0, heavy.2)
    ]
