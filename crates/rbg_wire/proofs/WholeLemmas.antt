-- Each item of a stream completes itself alone.
use Rattle.rbg_base.proofs.Common.{◌≡◌, ◌≢◌, ℕ, ◌+◌, ◌<◌, ◌≤◌, true, false, List, [], ◌∷◌, ◌++◌, length, All, ap, sym, ◌∙◌, refl, subst, arith, inl, inr, replicate, nat_le, cases_lt, common_steps, length-replicate, All-nil, All-cons, All-append, All-replicate}
use Rattle.rbg_wire.proofs.Common.{LacksByte, item_for, complete, too_long, Rest, incomplete, dropping, after_items, cut, IsRest, next_byte, filler, IsCutAlone, ItemsAreCutAgain}
use Rattle.rbg_wire.proofs.CutLemmas.{cut-none, next_kept, next_too_long}
use Rattle.rbg_wire.proofs.LawLemmas.{one_item, rest_more}

-- the piece of one text
alone : (limit : ℕ) (text : List ℕ) → LacksByte 0 text → cut limit (incomplete []) (text ++ 0 ∷ []) ≡ record { items = item_for limit text ∷ []; rest = incomplete [] }
alone limit text lacks = one_item limit text [] lacks ∙ ap (after_items (item_for limit text ∷ [])) (cut-none limit (incomplete []))

pub message_alone : (limit : ℕ) (text : List ℕ) → LacksByte 0 text → length text ≤ limit → IsCutAlone limit (complete text)
message_alone limit text lacks fits =
    let test : nat_le (length text) limit ≡ true = grind (arith, common_steps) in
    let same : item_for limit text ≡ complete text = rw test refl in
    alone limit text lacks ∙ ap (λ item. record { items = item ∷ []; rest = incomplete [] }) same

pub too_long_alone : (limit : ℕ) → IsCutAlone limit too_long
too_long_alone limit =
    let text : List ℕ = replicate (limit + 1) filler in
    let long : limit < length text = omega (arith, length-replicate (limit + 1) filler) in
    let test : nat_le (length text) limit ≡ false = grind (arith, common_steps) in
    let same : item_for limit text ≡ too_long = rw test refl in
    alone limit text (All-replicate (λ other. other ≢ 0) (limit + 1) filler (λ e. absurd (omega arith))) ∙ ap (λ item. record { items = item ∷ []; rest = incomplete [] }) same

-- the items of one byte
byte_items : (limit : ℕ) (rest : Rest) (byte : ℕ) → IsRest limit rest → All (IsCutAlone limit) (next_byte limit rest byte).items
byte_items limit (incomplete bytes) byte h = elim (cases_lt 0 byte) [
  | inl above ↦ (let some : byte ≢ 0 = λ zero. absurd (omega arith) in elim (cases_lt (length bytes) limit) [
    | inl room ↦ subst (λ c. All (IsCutAlone limit) c.items) (sym (next_kept limit bytes byte some room)) (All-nil (IsCutAlone limit))
    | inr full ↦ subst (λ c. All (IsCutAlone limit) c.items) (sym (next_too_long limit bytes byte some full)) (All-cons (IsCutAlone limit) too_long [] (too_long_alone limit) (All-nil (IsCutAlone limit)))
  ])
  | inr none ↦ (let zero : byte ≡ 0 = omega arith in subst (λ b. All (IsCutAlone limit) (next_byte limit (incomplete bytes) b).items) (sym zero) (All-cons (IsCutAlone limit) (complete bytes) [] (message_alone limit bytes h.1 h.0) (All-nil (IsCutAlone limit))))
]
byte_items limit dropping byte h = All-nil (IsCutAlone limit)

pub cut_again : ItemsAreCutAgain
unfolding cut
cut_again limit rest [] h = All-nil (IsCutAlone limit)
cut_again limit rest (byte ∷ bytes) h =
    let first = next_byte limit rest byte in
    All-append (IsCutAlone limit) first.items (cut limit first.rest bytes).items (byte_items limit rest byte h) (cut_again limit first.rest bytes (rest_more limit rest byte h))
