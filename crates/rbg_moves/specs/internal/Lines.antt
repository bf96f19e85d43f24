-- A straight line of modifiers after one that was taken.
use Rattle.std.specs.Prelude.{◌≡◌, ℕ, ◌+◌, ◌*◌, ◌<◌, ◌≤◌, List, [], ◌∷◌, ◌++◌, length, Option, Some, None}
use Rattle.rbg_rules.specs.Meaning.{AbstractGame, AbstractState, IsGame, IsStateOf, IsModifierAt, IsSwitchAt, Applies}
use Rattle.rbg_flat.specs.Onward.{IsAlone}
use Rattle.rbg_search.specs.Searching.{Searching}
use Rattle.rbg_search.specs.Taken.{most_candidates}

-- From after position p in the semi-state s one modifier alone comes next after another, each valid and none a switch:
-- these pairs, up to after position q in the semi-state t.
pub data IsLine (game : AbstractGame) (s : AbstractState) (p : ℕ) : List (ℕ × ℕ) → AbstractState → ℕ → Type 0 where
  stays : IsLine game s p [] s p
  goes_on :
      {ps : List (ℕ × ℕ)} {t u : AbstractState} {q r : ℕ} →
      IsLine game s p ps t q →
      IsStateOf game t →
      IsAlone game.rules q r →
      IsModifierAt game.rules r →
      ¬ IsSwitchAt game.rules r →
      Applies game r t u →
      IsLine game s p (ps ++ (t.vertex, r) ∷ []) u r

-- Where the line ended with a switch, it comes next alone after position q, and its opening was taken up too.
abbrev pub EndsWith : AbstractGame → ℕ → Option ℕ → Type 0
EndsWith game q None = Unit {0}
EndsWith game q (Some r) = IsAlone game.rules q r × IsSwitchAt game.rules r

-- how many openings the end of a line takes up
abbrev pub openings_of : Option ℕ → ℕ
openings_of None = 0
openings_of (Some r) = 1

-- A search followed such a line from after position p to after position q: each of its modifiers took up an opening,
-- and was met, and so did the switch that ends it.
--   lawful: it searches a game
--   some, few: it counts as it may
pub record FollowsLine
    (old new : Searching) (s t : AbstractState) (front front' : List (ℕ × ℕ)) (p q : ℕ) (switch : Option ℕ)
    : Type 0
  where
    pub pairs : List (ℕ × ℕ)
    pub line : IsLine old.game s p pairs t q
    pub ends : EndsWith old.game q switch
    pub front_is : front' ≡ front ++ pairs
    pub search :
        new ≡ record old {
          opened = old.opened + (length pairs + openings_of switch);
          taken = old.taken + (length pairs + openings_of switch);
        }
    pub lawful : IsGame old.game
    pub some : 0 < old.modifiers
    pub few : old.taken ≤ old.opened * most_candidates old.game
