-- How words are gathered.
use Rattle.rbg_base.proofs.Common.{◌≡◌, ℕ, ◌+◌, ◌*◌, ◌/◌, ◌%◌, ◌^◌, ◌<◌, ◌≤◌, List, Bool, true, false, get_or, sym, ap, subst, ◌∙◌, arith, count_ones, bit_at}
use Rattle.rbg_flat.proofs.Common.{IsBitOf, PushesWord, Gathers, IsMetAt, SetsOfVertices}
use Rattle.rbg_flat.proofs.Lists.{lists_count}
use Rattle.rbg_flat.proofs.Ones.{counted}

true_not_false : true ≡ false → ⊥
true_not_false e = cc

-- A word is gathered.
pub gathers_kept : (old new : List (ℕ × ℕ)) (p c word : ℕ) (keeps : Bool) → word < 2 ^ 64 → count_ones word ≤ 64 → keeps ≡ true → PushesWord old new p c word → Gathers (IsBitOf c word) old new p keeps (count_ones word) 64
gathers_kept old new p c word keeps fits few is pushes = record {
  vertices = pushes.vertices;
  lists = pushes.lists;
  count = let all = counted c word fits in all.count ∙ lists_count (IsBitOf c word) all.vertices pushes.vertices all.lists pushes.lists;
  kept = λ _. pushes.grown;
  left = λ none. absurd (true_not_false (sym is ∙ none));
  few = few;
}

pub gathers_left : (old new : List (ℕ × ℕ)) (p c word : ℕ) (keeps : Bool) → word < 2 ^ 64 → count_ones word ≤ 64 → keeps ≡ false → new ≡ old → Gathers (IsBitOf c word) old new p keeps (count_ones word) 64
gathers_left old new p c word keeps fits few none same =
    let all = counted c word fits in
    record {
      vertices = all.vertices;
      lists = all.lists;
      count = all.count;
      kept = λ is. absurd (true_not_false (sym is ∙ none));
      left = λ _. same;
      few = few;
    }

-- What is gathered, told in other words.
pub gathers_same : (In Other : ℕ → Type 0) (old new : List (ℕ × ℕ)) (p : ℕ) (keeps : Bool) (many most : ℕ) → ((v : ℕ) → In v → Other v) → ((v : ℕ) → Other v → In v) → Gathers In old new p keeps many most → Gathers Other old new p keeps many most
gathers_same In Other old new p keeps many most to back gathers = record {
  vertices = gathers.vertices;
  lists = record { all = λ v. (λ there. to v ((gathers.lists.all v).0 there), λ is. (gathers.lists.all v).1 (back v is)); different = gathers.lists.different };
  count = gathers.count;
  kept = gathers.kept;
  left = gathers.left;
  few = gathers.few;
}

-- The bits of the word at a place are what was met there.
module _ (sets : SetsOfVertices) (place p c word : ℕ) (parts : place ≡ p * sets.columns + c) (below : c < sets.columns) (is : word ≡ get_or sets.marks place 0) where
  pub met_bit : (v : ℕ) → IsBitOf c word v → IsMetAt sets place p v
  met_bit v bit =
      let at : p * sets.columns + v / 64 ≡ place = ap (λ (k : ℕ). p * sets.columns + k) bit.column ∙ sym parts in
      record {
        at = at;
        marked = record {
          column = subst (λ (k : ℕ). k < sets.columns) (sym bit.column) below;
          set = ap (λ (k : ℕ). bit_at (get_or sets.marks k 0) (v % 64)) at ∙ sym (ap (λ (n : ℕ). bit_at n (v % 64)) is) ∙ bit.set;
        };
      }

  pub bit_met : (v : ℕ) → IsMetAt sets place p v → IsBitOf c word v
  bit_met v met =
      let at : p * sets.columns + v / 64 ≡ place = met.at in
      record {
        column = omega (arith, at, parts);
        set = ap (λ (n : ℕ). bit_at n (v % 64)) is ∙ sym (ap (λ (k : ℕ). bit_at (get_or sets.marks k 0) (v % 64)) at) ∙ met.marked.set;
      }
