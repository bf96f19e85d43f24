-- What a cursor has read of a buffer, and what is left.
use Rattle.rbg_base.proofs.Common.{◌≡◌, ◌≢◌, ℕ, ◌+◌, ◌-◌, ◌<◌, ◌≤◌, Bool, true, cond, List, [], ◌∷◌, ◌++◌, length, take, drop, ap, sym, ◌∙◌, subst, arith, append_assoc, slice_range, All-append, All-take, All-drop}
use Rattle.std.proofs.Math.Seq.{take-add}
use Rattle.std.proofs.lemmas.List.{take-append-drop, drop-drop, length-drop, take_rest, take-append-le, drop-append-le, length-append, drop_all, drop-take, take-take}
use Rattle.std.proofs.lemmas.List.Edits.{length-between}
use Rattle.rbg_wire.proofs.Common.{Cursor, LacksByte, IsFirstPlace, IsCursorOf, IsEnd, unread, complete, too_long, Rest, incomplete, dropping, after_items, cut}
use Rattle.rbg_wire.proofs.CutLemmas.{cut-append, cut-none, cut-room, cut-message, cut-too_long, cut-dropping, cut-dropped}

pub drop_from : (bytes : List ℕ) (start looked : ℕ) → start ≤ looked → drop (looked - start) (drop start bytes) ≡ drop looked bytes
drop_from bytes start looked ordered = let sum : start + (looked - start) ≡ looked = omega arith in drop-drop (looked - start) start bytes ∙ ap (λ n. drop n bytes) sum

-- the bytes after a start are those that were looked at, and the others
pub looked_parts : (bytes : List ℕ) (start looked : ℕ) → start ≤ looked → drop start bytes ≡ slice_range bytes start looked ++ drop looked bytes
looked_parts bytes start looked ordered =
    sym (take-append-drop (looked - start) (drop start bytes)) ∙ ap (λ r. slice_range bytes start looked ++ r) (drop_from bytes start looked ordered)

pub range_more : (bytes : List ℕ) (start looked at : ℕ) → start ≤ looked → slice_range bytes start (looked + at) ≡ slice_range bytes start looked ++ take at (drop looked bytes)
range_more bytes start looked at ordered =
    let sum : (looked + at) - start ≡ (looked - start) + at = omega arith in
    ap (λ n. take n (drop start bytes)) sum ∙ (take-add (looked - start) at (drop start bytes) ∙ ap (λ r. slice_range bytes start looked ++ take at r) (drop_from bytes start looked ordered))

-- the first zero byte after the bytes that were looked at is the first one after the start
pub looked_end : (cursor : Cursor) (bytes : List ℕ) (at : ℕ) → IsCursorOf cursor bytes → IsFirstPlace 0 (drop cursor.looked bytes) at → IsEnd bytes cursor.start (cursor.looked + at)
looked_end cursor bytes at h place =
    let more = range_more bytes cursor.start cursor.looked at h.ordered in
    let seen = slice_range bytes cursor.start cursor.looked in
    let left = drop cursor.looked bytes in
    let sum : cursor.looked + (at + 1) ≡ (cursor.looked + at) + 1 = omega arith in
    record {
      ordered = omega (arith, h.ordered);
      within = omega (arith, place.within, length-drop cursor.looked bytes);
      parts = looked_parts bytes cursor.start cursor.looked h.ordered
          ∙ (ap (λ r. seen ++ r) place.parts
          ∙ (sym (append_assoc seen (take at left) (0 ∷ drop (at + 1) left))
          ∙ (ap (λ front. front ++ 0 ∷ drop (at + 1) left) (sym more)
          ∙ ap (λ r. slice_range bytes cursor.start (cursor.looked + at) ++ 0 ∷ r) (drop-drop (at + 1) cursor.looked bytes ∙ ap (λ n. drop n bytes) sum))));
      clear = subst (LacksByte 0) (sym more) (All-append (λ other. other ≢ 0) seen (take at left) h.clear place.first);
    }

-- if no zero byte is left, none is after the start
pub looked_none : (cursor : Cursor) (bytes : List ℕ) → IsCursorOf cursor bytes → LacksByte 0 (drop cursor.looked bytes) → LacksByte 0 (drop cursor.start bytes)
looked_none cursor bytes h lacks = subst (LacksByte 0) (sym (looked_parts bytes cursor.start cursor.looked h.ordered)) (All-append (λ other. other ≢ 0) (slice_range bytes cursor.start cursor.looked) (drop cursor.looked bytes) h.clear lacks)

-- a cursor that has looked at all, and one that has looked up to a zero byte
pub cursor_at_all : (bytes : List ℕ) (start : ℕ) (d : Bool) → start ≤ length bytes → LacksByte 0 (drop start bytes) → IsCursorOf (record { start = start; looked = length bytes; dropping = d }) bytes
cursor_at_all bytes start d ordered lacks = record {
  ordered = ordered;
  within = omega arith;
  clear = subst (LacksByte 0) (sym (take_rest bytes start)) lacks;
}

pub cursor_at_end : (bytes : List ℕ) (start end : ℕ) (d : Bool) → IsEnd bytes start end → IsCursorOf (record { start = start; looked = end; dropping = d }) bytes
cursor_at_end bytes start end d h = record { ordered = h.ordered; within = omega (arith, h.within); clear = h.clear }

-- dropping continues to the end of the bytes, or ends after a zero byte
pub skipped_all : (limit : ℕ) (bytes : List ℕ) (start end : ℕ) → LacksByte 0 (drop start bytes) → length bytes ≤ end → cut limit dropping (drop end bytes) ≡ cut limit dropping (drop start bytes)
skipped_all limit bytes start end lacks past = ap (cut limit dropping) (drop_all end bytes past) ∙ (cut-none limit dropping ∙ sym (cut-dropping limit (drop start bytes) lacks))

pub skipped_end : (limit : ℕ) (bytes : List ℕ) (start end : ℕ) → IsEnd bytes start end → cut limit (incomplete []) (drop (end + 1) bytes) ≡ cut limit dropping (drop start bytes)
skipped_end limit bytes start end h = sym (ap (cut limit dropping) h.parts ∙ cut-dropped limit (slice_range bytes start end) (drop (end + 1) bytes) h.clear)

-- a part that begins later
pub range_later : (bytes : List ℕ) (start count end : ℕ) → start + count ≤ end → slice_range bytes (start + count) end ≡ drop count (slice_range bytes start end)
range_later bytes start count end ordered =
    let sum : count + (end - (start + count)) ≡ end - start = omega arith in
    ap (take (end - (start + count))) (sym (drop-drop count start bytes)) ∙ (sym (drop-take count (end - (start + count)) (drop start bytes)) ∙ ap (λ n. drop count (take n (drop start bytes))) sum)

-- a part that ends earlier
pub range_earlier : (bytes : List ℕ) (start count end : ℕ) → start + count ≤ end → slice_range bytes start (start + count) ≡ take count (slice_range bytes start end)
range_earlier bytes start count end ordered =
    let sum : (start + count) - start ≡ count = omega arith in
    ap (λ n. take n (drop start bytes)) sum ∙ sym (take-take count (end - start) (drop start bytes) (omega arith))

-- if more bytes than the limit are not zero, the message is too long
pub cursor_too_long : (bytes : List ℕ) (limit : ℕ) (cursor : Cursor) → IsCursorOf cursor bytes → limit < cursor.looked - cursor.start → IsCursorOf (record { start = cursor.start + (limit + 1); looked = cursor.looked; dropping = true }) bytes
cursor_too_long bytes limit cursor h over = record {
  ordered = omega (arith, h.ordered);
  within = h.within;
  clear = subst (LacksByte 0) (sym (range_later bytes cursor.start (limit + 1) cursor.looked (omega (arith, h.ordered)))) (All-drop (λ other. other ≢ 0) (limit + 1) (slice_range bytes cursor.start cursor.looked) h.clear);
}

pub passed_too_long : (bytes : List ℕ) (limit : ℕ) (cursor : Cursor) → IsCursorOf cursor bytes → limit < cursor.looked - cursor.start → cut limit (incomplete []) (drop cursor.start bytes) ≡ after_items (too_long ∷ []) (cut limit dropping (drop (cursor.start + (limit + 1)) bytes))
passed_too_long bytes limit cursor h over =
    let text = slice_range bytes cursor.start (cursor.start + (limit + 1)) in
    let rest = drop (cursor.start + (limit + 1)) bytes in
    let earlier = range_earlier bytes cursor.start (limit + 1) cursor.looked (omega (arith, h.ordered)) in
    let lacks : LacksByte 0 text = subst (LacksByte 0) (sym earlier) (All-take (λ other. other ≢ 0) (limit + 1) (slice_range bytes cursor.start cursor.looked) h.clear) in
    let long : length text ≡ limit + 1 = length-between bytes cursor.start (cursor.start + (limit + 1)) (omega (arith, h.ordered, h.within)) ∙ omega arith in
    ap (cut limit (incomplete [])) (looked_parts bytes cursor.start (cursor.start + (limit + 1)) (omega arith))
    ∙ (cut-append limit (incomplete []) text rest
    ∙ ap (λ c. after_items c.items (cut limit c.rest rest)) (cut-too_long limit [] text lacks (omega arith) (omega (arith, long))))

pub passed_message : (bytes : List ℕ) (limit start end : ℕ) → IsEnd bytes start end → end - start ≤ limit → cut limit (incomplete []) (drop start bytes) ≡ after_items (complete (slice_range bytes start end) ∷ []) (cut limit (incomplete []) (drop (end + 1) bytes))
passed_message bytes limit start end h fits =
    ap (cut limit (incomplete [])) h.parts
    ∙ cut-message limit (slice_range bytes start end) (drop (end + 1) bytes) h.clear (omega (arith, length-between bytes start end (omega (arith, h.within))))

-- without a zero byte and within the limit nothing is complete
pub nothing_complete : (bytes : List ℕ) (limit start : ℕ) → LacksByte 0 (drop start bytes) → length bytes - start ≤ limit → (cut limit (incomplete []) (drop start bytes)).items ≡ []
nothing_complete bytes limit start lacks room = ap (λ c. c.items) (cut-room limit [] (drop start bytes) lacks (omega (arith, length-drop start bytes)))

-- without bytes nothing is complete
pub nothing_left : (limit : ℕ) (cursor : Cursor) (bytes : List ℕ) → drop cursor.start bytes ≡ [] → (unread limit cursor bytes).items ≡ []
nothing_left limit cursor bytes none =
    let rest : Rest = cond cursor.dropping dropping (incomplete []) in
    ap (λ c. c.items) (ap (cut limit rest) none ∙ cut-none limit rest)

-- more bytes after the buffer
pub range-append : (bytes piece : List ℕ) (start end : ℕ) → start ≤ end → end ≤ length bytes → slice_range (bytes ++ piece) start end ≡ slice_range bytes start end
range-append bytes piece start end ordered within =
    ap (take (end - start)) (drop-append-le start bytes piece (omega arith)) ∙ take-append-le (end - start) (drop start bytes) piece (omega (arith, length-drop start bytes))

pub cursor-append : (cursor : Cursor) (bytes piece : List ℕ) → IsCursorOf cursor bytes → IsCursorOf cursor (bytes ++ piece)
cursor-append cursor bytes piece h = record {
  ordered = h.ordered;
  within = omega (arith, h.within, length-append bytes piece);
  clear = subst (LacksByte 0) (sym (range-append bytes piece cursor.start cursor.looked h.ordered h.within)) h.clear;
}

pub unread-append : (limit : ℕ) (cursor : Cursor) (bytes piece : List ℕ) → IsCursorOf cursor bytes → unread limit cursor (bytes ++ piece) ≡ after_items (unread limit cursor bytes).items (cut limit (unread limit cursor bytes).rest piece)
unread-append limit cursor bytes piece h =
    let rest : Rest = cond cursor.dropping dropping (incomplete []) in
    ap (cut limit rest) (drop-append-le cursor.start bytes piece (omega (arith, h.ordered, h.within))) ∙ cut-append limit rest (drop cursor.start bytes) piece
