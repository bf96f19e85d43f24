-- Cutting a stream, piece by piece.
use Rattle.rbg_base.proofs.Common.{◌≡◌, ◌≢◌, ℕ, ◌+◌, ◌<◌, ◌≤◌, List, [], ◌∷◌, ◌++◌, length, ap, sym, ◌∙◌, refl, arith, append_assoc, append-nil, length-append, inl, inr, All-head, All-tail, nil_from_length}
use Rattle.std.proofs.lemmas.Bool.{cases_lt, lt-ltb, le-ltb}
use Rattle.rbg_wire.proofs.Common.{LacksByte, Item, complete, too_long, Rest, incomplete, dropping, Cut, next_byte, after_items, cut}
use Rattle.rbg_wire.proofs.WordLemmas.{different_byte}

pub after_items-after_items : (items more : List Item) (c : Cut) → after_items (items ++ more) c ≡ after_items items (after_items more c)
after_items-after_items items more c = λ i. record { items = append_assoc items more c.items i; rest = c.rest }

-- What bytes complete after others is what they complete after the rest of those.
pub cut-append : (limit : ℕ) (rest : Rest) (a b : List ℕ) → cut limit rest (a ++ b) ≡ after_items (cut limit rest a).items (cut limit (cut limit rest a).rest b)
unfolding cut
cut-append limit rest [] b = refl
cut-append limit rest (byte ∷ a) b =
    let first = next_byte limit rest byte in
    ap (after_items first.items) (cut-append limit first.rest a b) ∙ sym (after_items-after_items first.items (cut limit first.rest a).items (cut limit (cut limit first.rest a).rest b))

-- one byte after a message that is begun
pub next_kept : (limit : ℕ) (bytes : List ℕ) (byte : ℕ) → byte ≢ 0 → length bytes < limit → next_byte limit (incomplete bytes) byte ≡ record { items = []; rest = incomplete (bytes ++ byte ∷ []) }
next_kept limit bytes byte some room = rw (different_byte 0 byte some, lt-ltb (length bytes) limit room) refl

pub next_too_long : (limit : ℕ) (bytes : List ℕ) (byte : ℕ) → byte ≢ 0 → limit ≤ length bytes → next_byte limit (incomplete bytes) byte ≡ record { items = too_long ∷ []; rest = dropping }
next_too_long limit bytes byte some full = rw (different_byte 0 byte some, le-ltb (length bytes) limit full) refl

pub next_dropped : (limit : ℕ) (byte : ℕ) → byte ≢ 0 → next_byte limit dropping byte ≡ record { items = []; rest = dropping }
next_dropped limit byte some = rw (different_byte 0 byte some) refl

-- a byte, and the bytes after it
cut-step : (limit : ℕ) (rest : Rest) (byte : ℕ) (bytes : List ℕ) (first : Cut) → next_byte limit rest byte ≡ first → cut limit rest (byte ∷ bytes) ≡ after_items first.items (cut limit first.rest bytes)
unfolding cut
cut-step limit rest byte bytes first same = ap (λ f. after_items f.items (cut limit f.rest bytes)) same

pub cut-none : (limit : ℕ) (rest : Rest) → cut limit rest [] ≡ record { items = []; rest = rest }
unfolding cut
cut-none limit rest = refl

-- bytes that have room and no zero among them complete nothing
pub cut-room : (limit : ℕ) (bytes text : List ℕ) → LacksByte 0 text → length bytes + length text ≤ limit → cut limit (incomplete bytes) text ≡ record { items = []; rest = incomplete (bytes ++ text) }
cut-room limit bytes [] lacks room = cut-none limit (incomplete bytes) ∙ ap (λ b. record { items = []; rest = incomplete b }) (sym (append-nil bytes))
cut-room limit bytes (byte ∷ text) lacks room =
    let some : byte ≢ 0 = All-head (λ other. other ≢ 0) byte text lacks in
    cut-step limit (incomplete bytes) byte text _ (next_kept limit bytes byte some (omega arith))
    ∙ (cut-room limit (bytes ++ byte ∷ []) text (All-tail (λ other. other ≢ 0) byte text lacks) (omega (arith, length-append bytes (byte ∷ [])))
    ∙ ap (λ b. record { items = []; rest = incomplete b }) (append_assoc bytes (byte ∷ []) text))

-- a zero byte completes the message before it
pub cut-message : (limit : ℕ) (text rest : List ℕ) → LacksByte 0 text → length text ≤ limit → cut limit (incomplete []) (text ++ 0 ∷ rest) ≡ after_items (complete text ∷ []) (cut limit (incomplete []) rest)
cut-message limit text rest lacks room =
    cut-append limit (incomplete []) text (0 ∷ rest)
    ∙ (ap (λ c. after_items c.items (cut limit c.rest (0 ∷ rest))) (cut-room limit [] text lacks (omega arith))
    ∙ cut-step limit (incomplete text) 0 rest (record { items = complete text ∷ []; rest = incomplete [] }) refl)

-- one byte too much
pub cut-too_long : (limit : ℕ) (bytes text : List ℕ) → LacksByte 0 text → length bytes ≤ limit → length bytes + length text ≡ limit + 1 → cut limit (incomplete bytes) text ≡ record { items = too_long ∷ []; rest = dropping }
cut-too_long limit bytes [] lacks fits whole = absurd (omega arith)
cut-too_long limit bytes (byte ∷ text) lacks fits whole =
    let some : byte ≢ 0 = All-head (λ other. other ≢ 0) byte text lacks in
    let more = All-tail (λ other. other ≢ 0) byte text lacks in
    elim (cases_lt (length bytes) limit) [
      | inl room ↦ cut-step limit (incomplete bytes) byte text _ (next_kept limit bytes byte some room)
          ∙ cut-too_long limit (bytes ++ byte ∷ []) text more (omega (arith, length-append bytes (byte ∷ []))) (omega (arith, length-append bytes (byte ∷ [])))
      | inr full ↦ (let last : text ≡ [] = nil_from_length text (omega arith) in
          cut-step limit (incomplete bytes) byte text _ (next_too_long limit bytes byte some full)
          ∙ ap (λ b. after_items (too_long ∷ []) (cut limit dropping b)) last ∙ ap (after_items (too_long ∷ [])) (cut-none limit dropping))
    ]

-- what is dropped completes nothing
pub cut-dropping : (limit : ℕ) (text : List ℕ) → LacksByte 0 text → cut limit dropping text ≡ record { items = []; rest = dropping }
cut-dropping limit [] lacks = cut-none limit dropping
cut-dropping limit (byte ∷ text) lacks =
    let some : byte ≢ 0 = All-head (λ other. other ≢ 0) byte text lacks in
    cut-step limit dropping byte text _ (next_dropped limit byte some) ∙ cut-dropping limit text (All-tail (λ other. other ≢ 0) byte text lacks)

-- a zero byte ends what is dropped
pub cut-dropped : (limit : ℕ) (text rest : List ℕ) → LacksByte 0 text → cut limit dropping (text ++ 0 ∷ rest) ≡ cut limit (incomplete []) rest
cut-dropped limit text rest lacks =
    cut-append limit dropping text (0 ∷ rest)
    ∙ (ap (λ c. after_items c.items (cut limit c.rest (0 ∷ rest))) (cut-dropping limit text lacks)
    ∙ cut-step limit dropping 0 rest (record { items = []; rest = incomplete [] }) refl)
