-- A word of vertices is led on from, one after another.
use Rattle.rbg_base.proofs.Common.{◌≡◌, ◌≢◌, ℕ, ◌+◌, ◌*◌, ◌/◌, ◌%◌, ◌<◌, ◌⊎◌, inl, inr, Bool, true, refl, sym, ap, subst, ◌∙◌, arith, bit_at, bit_at-zero, bit_at-lt, ℕ_discrete}
use Rattle.rbg_rules.specs.Meaning.{AbstractGame}
use Rattle.rbg_flat.proofs.Common.{Way, IsLead, EndsLead, LeadsFrom, EndsFrom, LeadsPast, EndsPast, LearnsEnd, SetsOfVertices, IsInWord, Meets}
use Rattle.rbg_flat.proofs.Meetings.{meets_both, meets_same}

not_both : {n : ℕ} → n ≡ 0 → n ≡ 1 → ⊥
not_both none one = omega (arith, none, one)

clear_or_set : (n : ℕ) → n < 2 → ¬ (n ≡ 1) → n ≡ 0
clear_or_set n small clear = elim (ℕ_discrete n 0) [
  | yes none ↦ none
  | no some ↦ absurd (clear (omega (arith, small, some)))
]

module _ (way : Way) (game : AbstractGame) (q c word : ℕ) (Opens : (v p : ℕ) → Type 0) where
  -- All is left, so nothing was led on from.
  pub none_past : (u p : ℕ) → ¬ LeadsPast way game q c word word u p
  none_past u p is = not_both is.past is.there.set

  pub no_end_past : ¬ EndsPast way game q c word word
  no_end_past is = not_both is.past is.there.set

  -- The place of a bit.
  bit_place : (bit : ℕ) → bit < 64 → (c * 64 + bit) / 64 ≡ c
  bit_place bit small = omega (arith, small)

  bit_rest : (bit : ℕ) → bit < 64 → (c * 64 + bit) % 64 ≡ bit
  bit_rest bit small = omega (arith, small)

  module _
      (rest bit rest' : ℕ)
      (small : bit < 64)
      (set : bit_at word bit ≡ 1)
      (gone : bit_at rest' bit ≡ 0)
      (only : (b : ℕ) → bit_at rest' b ≡ 1 → bit_at rest b ≡ 1)
      (others : (b : ℕ) → b ≢ bit → bit_at rest' b ≡ bit_at rest b)
    where
      here : IsInWord q c word (c * 64 + bit) q
      here = record { position = refl; column = bit_place bit small; set = subst (λ (k : ℕ). bit_at word k ≡ 1) (sym (bit_rest bit small)) set }

      past_here : bit_at rest' ((c * 64 + bit) % 64) ≡ 0
      past_here = subst (λ (k : ℕ). bit_at rest' k ≡ 0) (sym (bit_rest bit small)) gone

      past_then : (b : ℕ) → bit_at rest b ≡ 0 → bit_at rest' b ≡ 0
      past_then b none = clear_or_set (bit_at rest' b) (bit_at-lt rest' b) (λ there. not_both none (only b there))

      same_vertex : (v : ℕ) → IsInWord q c word v q → v % 64 ≡ bit → v ≡ c * 64 + bit
      same_vertex v there bits = let column = there.column in omega (arith, bits, column)

      apart : (u p : ℕ) → LeadsPast way game q c word rest' u p → LeadsPast way game q c word rest u p ⊎ IsLead way game q (c * 64 + bit) p u
      apart u p is = elim (ℕ_discrete (is.vertex % 64) bit) [
        | yes bits ↦ inr (subst (λ (v : ℕ). IsLead way game q v p u) (same_vertex is.vertex is.there bits) is.lead)
        | no other ↦ inl (record { vertex = is.vertex; there = is.there; past = sym (others (is.vertex % 64) other) ∙ is.past; lead = is.lead })
      ]

      earlier : (u p : ℕ) → LeadsPast way game q c word rest u p → LeadsPast way game q c word rest' u p
      earlier u p is = record { vertex = is.vertex; there = is.there; past = past_then (is.vertex % 64) is.past; lead = is.lead }

      now : (u p : ℕ) → IsLead way game q (c * 64 + bit) p u → LeadsPast way game q c word rest' u p
      now u p leap = record { vertex = c * 64 + bit; there = here; past = past_here; lead = leap }

      pub meets_bit : (old middle new : SetsOfVertices) → Meets old middle (LeadsPast way game q c word rest) Opens → Meets middle new (λ u p. IsLead way game q (c * 64 + bit) p u) Opens → Meets old new (LeadsPast way game q c word rest') Opens
      meets_bit old middle new one other = meets_both old middle new (LeadsPast way game q c word rest) (λ u p. IsLead way game q (c * 64 + bit) p u) (LeadsPast way game q c word rest') Opens one other apart earlier now

      pub ends_bit : (old middle new : Bool) → LearnsEnd old middle (EndsPast way game q c word rest) → LearnsEnd middle new (EndsLead way game q (c * 64 + bit)) → LearnsEnd old new (EndsPast way game q c word rest')
      ends_bit old middle new one other = record {
        kept = λ is. other.kept (one.kept is);
        all = all_ends;
        only = λ is. by_new (other.only is);
      }
        where
          all_ends : EndsPast way game q c word rest' → new ≡ true
          all_ends is = elim (ℕ_discrete (is.vertex % 64) bit) [
            | yes bits ↦ other.all (subst (λ (v : ℕ). EndsLead way game q v) (same_vertex is.vertex is.there bits) is.ends)
            | no differs ↦ other.kept (one.all (record { vertex = is.vertex; there = is.there; past = sym (others (is.vertex % 64) differs) ∙ is.past; ends = is.ends }))
          ]

          by_old : (old ≡ true) ⊎ EndsPast way game q c word rest → (old ≡ true) ⊎ EndsPast way game q c word rest'
          by_old (inl was) = inl was
          by_old (inr is) = inr (record { vertex = is.vertex; there = is.there; past = past_then (is.vertex % 64) is.past; ends = is.ends })

          by_new : (middle ≡ true) ⊎ EndsLead way game q (c * 64 + bit) → (old ≡ true) ⊎ EndsPast way game q c word rest'
          by_new (inl was) = by_old (one.only was)
          by_new (inr ends) = inr (record { vertex = c * 64 + bit; there = here; past = past_here; ends = ends })

  -- Nothing is left.
  nothing : (rest b : ℕ) → rest ≡ 0 → bit_at rest b ≡ 0
  nothing rest b none = ap (λ (n : ℕ). bit_at n b) none ∙ bit_at-zero b

  pub meets_all : (rest : ℕ) → rest ≡ 0 → (old new : SetsOfVertices) → Meets old new (LeadsPast way game q c word rest) Opens → Meets old new (LeadsFrom way game q c word) Opens
  meets_all rest none old new meets =
      meets_same old new (LeadsPast way game q c word rest) (LeadsFrom way game q c word) Opens Opens meets
      (λ u p is. record { vertex = is.vertex; there = is.there; lead = is.lead })
      (λ u p is. record { vertex = is.vertex; there = is.there; past = nothing rest (is.vertex % 64) none; lead = is.lead })
      (λ u p _ is. is) (λ u p _ is. is)

  pub ends_all : (rest : ℕ) → rest ≡ 0 → (old new : Bool) → LearnsEnd old new (EndsPast way game q c word rest) → LearnsEnd old new (EndsFrom way game q c word)
  ends_all rest none old new learns = record {
    kept = learns.kept;
    all = λ is. learns.all (record { vertex = is.vertex; there = is.there; past = nothing rest (is.vertex % 64) none; ends = is.ends });
    only = λ is. by (learns.only is);
  }
    where
      by : (old ≡ true) ⊎ EndsPast way game q c word rest → (old ≡ true) ⊎ EndsFrom way game q c word
      by (inl was) = inl was
      by (inr is) = inr (record { vertex = is.vertex; there = is.there; ends = is.ends })
