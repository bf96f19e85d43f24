-- An item that arrives stands for the piece that holds it and nothing else.
use Rattle.std.proofs.Common.{◌≡◌, ℕ, ◌-◌, Bool, true, false, List, [], ◌∷◌, set, refl, sym, ap, ◌∙◌, if◌then◌else◌}
use Rattle.std.proofs.lemmas.List.{set-get_or}
use Rattle.rbg_wire.specs.Streams.{Item, Rest, incomplete, Cut, cut}
use Rattle.rbg_wire.specs.Whole.{IsCutAlone, whole_item}
use Rattle.rbg_match.specs.Arrivals.{IsBetween}
use Rattle.rbg_match.proofs.Common.{message_limit, piece, has_seat, cut_of, rests_after}

-- what such a piece is cut into
cut_alone : (rests : List Rest) (seat : ℕ) (item : Item) → IsCutAlone message_limit item → IsBetween rests seat → cut_of rests seat (whole_item message_limit item) ≡ record { items = item ∷ []; rest = incomplete [] }
cut_alone rests seat item alone between = ap (λ rest. cut message_limit rest (whole_item message_limit item)) between ∙ alone

stays_so : (test : Bool) (rests changed : List Rest) → changed ≡ rests → (if test then changed else rests) ≡ rests
stays_so true rests changed same = same
stays_so false rests changed same = refl

-- nothing of it is left
pub rests_of_item : (rests : List Rest) (seat at : ℕ) (item : Item) → IsCutAlone message_limit item → IsBetween rests seat → rests_after rests (piece seat at (whole_item message_limit item)) ≡ rests
rests_of_item rests seat at item alone between =
    ap (λ (c : Cut). if has_seat rests seat then set rests (seat - 1) c.rest else rests) (cut_alone rests seat item alone between)
    ∙ stays_so (has_seat rests seat) rests (set rests (seat - 1) (incomplete [])) (ap (λ rest. set rests (seat - 1) rest) (sym between) ∙ set-get_or rests (seat - 1) (incomplete []))
