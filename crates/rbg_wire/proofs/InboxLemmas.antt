-- What an inbox holds after a piece of its stream.
use Rattle.std.proofs.Common.{◌≡◌, ℕ, true, List, ◌++◌, Result, Ok, Err, OnOk, is_ok, ap, ◌∙◌, refl}
use Rattle.rbg_wire.proofs.Common.{Cursor, IsCursorOf, unread, Stream, after_items, cut, with_bytes}
use Rattle.rbg_wire.proofs.CursorLemmas.{unread-append}

pub on_ok_when : {T E : Type 0} (answer : Result T E) (P : Type 0) → (is_ok answer ≡ true → P) → OnOk answer P
on_ok_when (Ok x) P h = h refl
on_ok_when (Err e) P h = tt

-- The buffer with the piece at its end contains the stream with the piece, also after read bytes were dropped.
pub fed : (limit : ℕ) (cursor before : Cursor) (kept bytes all piece : List ℕ) (stream : Stream) → IsCursorOf cursor kept → unread limit cursor kept ≡ unread limit before bytes → all ≡ kept ++ piece → record { limit = limit; items = (unread limit before bytes).items; rest = (unread limit before bytes).rest } ≡ stream → record { limit = limit; items = (unread limit cursor all).items; rest = (unread limit cursor all).rest } ≡ with_bytes stream piece
fed limit cursor before kept bytes all piece stream is same whole view =
    let left : unread limit cursor all ≡ after_items (unread limit before bytes).items (cut limit (unread limit before bytes).rest piece) =
    ap (unread limit cursor) whole ∙ (unread-append limit cursor kept piece is ∙ ap (λ u. after_items u.items (cut limit u.rest piece)) same) in
    ap (λ u. record { limit = limit; items = u.items; rest = u.rest }) left ∙ ap (λ s. with_bytes s piece) view
