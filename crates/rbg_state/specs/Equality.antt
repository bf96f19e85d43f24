-- When two semi-states are the same.
use Rattle.std.specs.Prelude.{Bool, ◌==◌, ◌&&◌, nat_eq}
use Rattle.std.specs.Cmp.{IsEquivalence, IsPartialEquivalence}
use Rattle.std.specs.Cmp.{partial_equiv_from_equiv, nat_eq_equiv, on_equiv, and_equiv}
use Rattle.std.specs.Cmp.Lexicographic.{pointwise, lists_equiv}
use Rattle.rbg_rules.specs.Meaning.{AbstractState}
use Rattle.rbg_state.specs.History.{History}

-- they have the same player, vertex, pieces and values
abbrev pub is_same_state : AbstractState → AbstractState → Bool
is_same_state s t =
    (s.player == t.player)
    && ((s.vertex == t.vertex)
    && (pointwise nat_eq s.pieces t.pieces
    && pointwise nat_eq s.values t.values))

-- the states of two histories are the same, whatever their changes are
abbrev pub is_same_present : History → History → Bool
is_same_present h k = is_same_state h.state k.state

same_lists : IsEquivalence (pointwise nat_eq)
same_lists = lists_equiv nat_eq_equiv

same_state_equiv : IsEquivalence is_same_state
same_state_equiv =
    and_equiv (on_equiv (λ (s : AbstractState). s.player) nat_eq_equiv)
    (and_equiv (on_equiv (λ (s : AbstractState). s.vertex) nat_eq_equiv)
    (and_equiv (on_equiv (λ (s : AbstractState). s.pieces) same_lists)
    (on_equiv (λ (s : AbstractState). s.values) same_lists)))

pub same_state_laws : IsPartialEquivalence is_same_state
same_state_laws = partial_equiv_from_equiv same_state_equiv

pub same_present_equiv : IsEquivalence is_same_present
same_present_equiv = on_equiv (λ (h : History). h.state) same_state_equiv

pub same_present_laws : IsPartialEquivalence is_same_present
same_present_laws = partial_equiv_from_equiv same_present_equiv
