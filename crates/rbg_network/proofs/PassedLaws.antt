-- What is passed on gives the same messages.
use Rattle.std.proofs.Common.{◌≡◌, ◌≢◌, ℕ, ◌+◌, ◌<◌, ◌≤◌, List, [], ◌∷◌, ◌++◌, length, ap, sym, ◌∙◌, refl, subst, arith, inl, inr, zero, suc}
use Rattle.std.proofs.lemmas.Bool.{cases_lt}
use Rattle.std.proofs.lemmas.List.{length-append}
use Rattle.rbg_match.specs.Limits.{message_limit}
use Rattle.rbg_wire.specs.Streams.{Rest, incomplete, dropping, next_byte, after_items, cut, IsRest}
use Rattle.rbg_wire.proofs.CutLemmas.{cut-append, cut-none, next_kept, next_too_long, next_dropped}
use Rattle.rbg_wire.proofs.LawLemmas.{rests}
use Rattle.rbg_network.specs.Passing.{most_passed, passed, begun_after}
use Rattle.rbg_network.specs.Laws.{AreBegun, OthersChangeNothing}
use Rattle.rbg_network.proofs.PassedLemmas.{passed-nil, begun_after-nil, passed-zero, begun_after-zero, passed-more, begun_after-more, passed-full, begun_after-full, some_byte, joins}

-- the law for these bytes
record Same (begun : ℕ) (rest : Rest) (bytes : List ℕ) : Type 0 where
  is : cut message_limit rest (passed begun bytes) ≡ cut message_limit rest bytes
  begun_then : AreBegun (begun_after begun bytes) (cut message_limit rest bytes).rest

same-nil : (begun : ℕ) (rest : Rest) → AreBegun begun rest → Same begun rest []
same-nil begun rest h = record {
  is = ap (cut message_limit rest) (passed-nil begun);
  begun_then = rw (begun_after-nil begun, cut-none message_limit rest) h;
}

-- one byte
cut_one : (rest : Rest) (byte : ℕ) → cut message_limit rest (byte ∷ []) ≡ record { items = (next_byte message_limit rest byte).items ++ []; rest = (next_byte message_limit rest byte).rest }
unfolding cut
cut_one rest byte = refl

one_zero : (begun : ℕ) (rest : Rest) → Same begun rest (0 ∷ [])
one_zero begun (incomplete text) = record {
  is = ap (cut message_limit (incomplete text)) (passed-zero begun [] ∙ ap (λ more. 0 ∷ more) (passed-nil 0));
  begun_then = rw (begun_after-zero begun [], begun_after-nil 0, cut_one (incomplete text) 0) refl;
}
one_zero begun dropping = record {
  is = ap (cut message_limit dropping) (passed-zero begun [] ∙ ap (λ more. 0 ∷ more) (passed-nil 0));
  begun_then = rw (begun_after-zero begun [], begun_after-nil 0, cut_one dropping 0) refl;
}

one_passed : (begun byte : ℕ) (rest : Rest) → byte ≢ 0 → begun < most_passed → AreBegun (begun + 1) (next_byte message_limit rest byte).rest → Same begun rest (byte ∷ [])
one_passed begun byte rest other room h = record {
  is = ap (cut message_limit rest) (passed-more begun byte [] other room ∙ ap (λ more. byte ∷ more) (passed-nil (begun + 1)));
  begun_then = rw (begun_after-more begun byte [] other room, begun_after-nil (begun + 1), cut_one rest byte) h;
}

one_other : (begun byte : ℕ) (rest : Rest) → byte ≢ 0 → IsRest message_limit rest → AreBegun begun rest → Same begun rest (byte ∷ [])
one_other begun byte (incomplete text) other fits h = elim (cases_lt (length text) message_limit) [
  | inl room ↦ one_passed begun byte (incomplete text) other (omega (arith, room, h)) (subst (λ c. AreBegun (begun + 1) c.rest) (sym (next_kept message_limit text byte other room)) (omega (arith, h, length-append text (byte ∷ []))))
  | inr full ↦ (let short = fits.0 in one_passed begun byte (incomplete text) other (omega (arith, short, h)) (subst (λ c. AreBegun (begun + 1) c.rest) (sym (next_too_long message_limit text byte other full)) (omega (arith, h, short, full))))
]
one_other begun byte dropping other fits h =
    let full : most_passed ≤ begun = omega (arith, h) in
    let none : cut message_limit dropping (byte ∷ []) ≡ record { items = []; rest = dropping } = cut_one dropping byte ∙ ap (λ c. record { items = c.items ++ []; rest = c.rest }) (next_dropped message_limit byte other) in
    record {
      is = ap (cut message_limit dropping) (passed-full begun byte [] other full ∙ passed-nil begun) ∙ (cut-none message_limit dropping ∙ sym none);
      begun_then = rw (begun_after-full begun byte [] other full, begun_after-nil begun, none) h;
    }

one : (begun byte : ℕ) (rest : Rest) → IsRest message_limit rest → AreBegun begun rest → Same begun rest (byte ∷ [])
one begun zero rest fits h = one_zero begun rest
one begun (suc n) rest fits h = one_other begun (suc n) rest (some_byte n) fits h

-- one piece after another
both : (begun : ℕ) (rest : Rest) (xs ys : List ℕ) → Same begun rest xs → Same (begun_after begun xs) (cut message_limit rest xs).rest ys → Same begun rest (xs ++ ys)
both begun rest xs ys first more =
    let parts = joins begun xs ys in
    let middle = begun_after begun xs in
    let left = cut message_limit rest xs in
    record {
      is = ap (cut message_limit rest) parts.bytes
          ∙ (cut-append message_limit rest (passed begun xs) (passed middle ys)
          ∙ (ap (λ c. after_items c.items (cut message_limit c.rest (passed middle ys))) first.is
          ∙ (ap (after_items left.items) more.is
          ∙ sym (cut-append message_limit rest xs ys))));
      begun_then = rw (parts.begun_then, cut-append message_limit rest xs ys) more.begun_then;
    }

all : (begun : ℕ) (rest : Rest) (bytes : List ℕ) → IsRest message_limit rest → AreBegun begun rest → Same begun rest bytes
all begun rest [] fits h = same-nil begun rest h
all begun rest (byte ∷ bytes) fits h =
    let first = one begun byte rest fits h in
    both begun rest (byte ∷ []) bytes first (all (begun_after begun (byte ∷ [])) (cut message_limit rest (byte ∷ [])).rest bytes (rests message_limit rest (byte ∷ []) fits) first.begun_then)

pub others_change_nothing : OthersChangeNothing
others_change_nothing begun rest bytes fits h = let same = all begun rest bytes fits h in (same.is, same.begun_then)
