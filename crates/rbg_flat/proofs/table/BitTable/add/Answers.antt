use Rattle.rbg_base.proofs.Common.{◌≡◌, ◌≢◌, ℕ, ◌≤◌, ◌<◌, List, length, get_or, sym, ◌∙◌, subst, arith, bit_or, get_or_read, le_or_r}
use Rattle.rbg_flat.proofs.Listings.{has_room, listed_more, listed_set}
use Rattle.rbg_flat.proofs.table.BitTable.add.Goals as goal

-- What gets bits has some.
has_bits : (a b : ℕ) → b ≢ 0 → bit_or a b ≢ 0
has_bits a b some none = let least = le_or_r a b in some (none_below least none)
  where
    none_below : {m n : ℕ} → m ≤ n → n ≡ 0 → m ≡ 0
    none_below below zero = omega (arith, below, zero)

pub index_mut-requires-then-known-eq0 : goal.index_mut-requires-then-known-eq0
index_mut-requires-then-known-eq0 c =
    let words : List ℕ = c.self.inside.words.items in
    let place : ℕ = c.args.place in
    let below : place < length words = rw (← c.self.view_is) at c.requires.place in
    let none : get_or words place 0 ≡ 0 = sym (get_or_read words place c.index-known.result.now below c.index-known.ensures 0) ∙ c.if-known-eq0.true in
    subst (λ (k : ℕ). c.self.inside.listed < k) (sym c.self.inside.room.ok.0) (has_room words c.self.inside.room.items c.self.inside.listed c.self.invariant place c.args.bits below c.requires.some none)

pub invariant_of-self : goal.invariant_of-self
invariant_of-self c =
    let words : List ℕ = c.self.inside.words.items in
    let place : ℕ = c.args.place in
    let below : place < length words = rw (← c.self.view_is) at c.requires.place in
    let none : get_or words place 0 ≡ 0 = sym (get_or_read words place c.index-known.result.now below c.index-known.ensures 0) ∙ c.if-known-eq0.true in
    let word : ℕ = c.index-known.result.now in
    listed_more words c.self.inside.room.items c.self.inside.listed c.self.invariant place (bit_or word c.args.bits) below (has_bits word c.args.bits c.requires.some) none

pub invariant_of-self-else-known-eq0 : goal.invariant_of-self-else-known-eq0
invariant_of-self-else-known-eq0 c =
    let words : List ℕ = c.self.inside.words.items in
    let place : ℕ = c.args.place in
    let below : place < length words = rw (← c.self.view_is) at c.requires.place in
    let read = get_or_read words place c.index-known.result.now below c.index-known.ensures 0 in
    let word : ℕ = c.index-known.result.now in
    listed_set words c.self.inside.room.items c.self.inside.listed c.self.invariant place (bit_or word c.args.bits) below (has_bits word c.args.bits c.requires.some) (λ none. c.if-known-eq0.false (read ∙ none))
