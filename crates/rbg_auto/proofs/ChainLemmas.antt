-- Neighbours decide what follows and what is a word.
use Rattle.std.proofs.Common.{ℕ, List, [], ◌∷◌}
use Rattle.rbg_rules.specs.Meaning.{Expression, IsNumbered, Start, beginning, after, Follows, Ends}
use Rattle.rbg_rules.proofs.LocalityLemmas.{locality_law}
use Rattle.rbg_auto.specs.Laws.{IsChain, EndsAtLast, NeighbourLaw, ChainLaw}

module _ (rules : Expression) (numbered : IsNumbered rules) where
  -- A chain with its end is what ends words.
  ends_chain : (f : Start) (j : ℕ) (later : List ℕ) → Ends rules f (j ∷ later) → Follows rules f (j ∷ []) × IsChain rules j later × EndsAtLast rules j later
  ends_chain f j [] ends = let (first, last) = (locality_law rules numbered f [] j []).1.0 ends in (first, tt, last)
  ends_chain f j (k ∷ later) ends =
      let (first, more) = (locality_law rules numbered f [] j (k ∷ later)).1.0 ends in
      let (second, chain, last) = ends_chain (after j) k later more in
      (first, (second, chain), last)

  chain_ends : (f : Start) (j : ℕ) (later : List ℕ) → Follows rules f (j ∷ []) → IsChain rules j later → EndsAtLast rules j later → Ends rules f (j ∷ later)
  chain_ends f j [] first chain last = (locality_law rules numbered f [] j []).1.1 (first, last)
  chain_ends f j (k ∷ later) first (second, chain) last = (locality_law rules numbered f [] j (k ∷ later)).1.1 (first, chain_ends (after j) k later second chain last)

  follows_chain : (f : Start) (j : ℕ) (later : List ℕ) → Follows rules f (j ∷ later) → Follows rules f (j ∷ []) × IsChain rules j later
  follows_chain f j [] follows = (follows, tt)
  follows_chain f j (k ∷ later) follows =
      let (first, more) = (locality_law rules numbered f [] j (k ∷ later)).0.0 follows in
      (first, follows_chain (after j) k later more)

  chain_follows : (f : Start) (j : ℕ) (later : List ℕ) → Follows rules f (j ∷ []) → IsChain rules j later → Follows rules f (j ∷ later)
  chain_follows f j [] first chain = first
  chain_follows f j (k ∷ later) first (second, chain) = (locality_law rules numbered f [] j (k ∷ later)).0.1 (first, chain_follows (after j) k later second chain)

pub neighbour_law : NeighbourLaw
neighbour_law rules numbered level j later = (ends_chain rules numbered (beginning level) j later, (λ (first, chain, last). chain_ends rules numbered (beginning level) j later first chain last))

pub chain_law : ChainLaw
chain_law rules numbered f j later = (follows_chain rules numbered f j later, (λ (first, chain). chain_follows rules numbered f j later first chain))
