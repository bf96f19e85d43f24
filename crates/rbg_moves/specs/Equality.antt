-- When two places are the same.
use Rattle.std.specs.Prelude.{Bool, ◌&&◌, nat_eq, []}
use Rattle.std.specs.Option.{option_eq}
use Rattle.std.specs.Cmp.{IsEquivalence, IsPartialEquivalence}
use Rattle.std.specs.Cmp.{partial_equiv_from_equiv, nat_eq_equiv, on_equiv, and_equiv}
use Rattle.std.specs.Cmp.Lexicographic.{options_equiv}
use Rattle.rbg_rules.specs.Meaning.{AbstractPlace}
use Rattle.rbg_state.specs.Equality.{is_same_state, same_present_equiv}
use Rattle.rbg_state.specs.History.{History}

-- they have the same semi-state and the same last position
abbrev pub is_same_place : AbstractPlace → AbstractPlace → Bool
is_same_place p q = is_same_state p.state q.state && option_eq nat_eq p.last q.last

-- the semi-state of a place, of which no change can be taken back
abbrev present_of : AbstractPlace → History
present_of place = record { state = place.state; past = []; room = 0 }

pub same_place_equiv : IsEquivalence is_same_place
same_place_equiv =
    and_equiv (on_equiv present_of same_present_equiv)
    (on_equiv (λ (p : AbstractPlace). p.last) (options_equiv nat_eq_equiv))

pub same_place_laws : IsPartialEquivalence is_same_place
same_place_laws = partial_equiv_from_equiv same_place_equiv
