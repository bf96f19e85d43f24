-- The lines of a text.
use Rattle.rbg_base.proofs.Common.{◌≡◌, ℕ, inl, inr, List, [], ◌∷◌, ◌++◌, ap, sym, ◌∙◌, refl, subst, append_assoc, append-nil, ◌≢◌, All, cases_eq, All-nil, All-cons, All-head, All-tail}
use Rattle.rbg_wire.proofs.Common.{LacksByte, lines_of}
use Rattle.rbg_wire.proofs.ByteLemmas.{no_cut, same_cut}
use Rattle.rbg_script.specs.Lines.{HasLines, last_line}
use Rattle.rbg_script.specs.internal.Reading.{BeginsWith, ended, alone}

-- a first line, and what follows it
pub first_shape : (line : List ℕ) (lines : List (List ℕ)) (rest : List ℕ) → lines_of (line ∷ lines) ++ rest ≡ line ++ 10 ∷ (lines_of lines ++ rest)
first_shape line lines rest =
    append_assoc (line ++ 10 ∷ []) (lines_of lines) rest ∙ append_assoc line (10 ∷ []) (lines_of lines ++ rest)

pub more_lines : (lines : List (List ℕ)) (line rest : List ℕ) → lines_of (lines ++ line ∷ []) ++ rest ≡ lines_of lines ++ (line ++ 10 ∷ rest)
more_lines [] line rest = first_shape line [] rest
more_lines (first ∷ lines) line rest =
    first_shape first (lines ++ line ∷ []) rest
    ∙ (ap (λ more. first ++ 10 ∷ more) (more_lines lines line rest) ∙ sym (first_shape first lines (line ++ 10 ∷ rest)))

-- a text is whole lines and a rest in one way
pub same_lines : (xs ys : List (List ℕ)) (a b : List ℕ) → All (LacksByte 10) xs → All (LacksByte 10) ys → LacksByte 10 a → LacksByte 10 b → lines_of xs ++ a ≡ lines_of ys ++ b → (xs ≡ ys) × (a ≡ b)
same_lines [] [] a b h k m n same = (refl, same)
same_lines [] (y ∷ ys) a b h k m n same = absurd (no_cut 10 y (lines_of ys ++ b) (subst (LacksByte 10) (same ∙ first_shape y ys b) m))
same_lines (x ∷ xs) [] a b h k m n same = absurd (no_cut 10 x (lines_of xs ++ a) (subst (LacksByte 10) (sym same ∙ first_shape x xs a) n))
same_lines (x ∷ xs) (y ∷ ys) a b h k m n same =
    let cut = same_cut 10 x y (lines_of xs ++ a) (lines_of ys ++ b) (All-head (LacksByte 10) x xs h) (All-head (LacksByte 10) y ys k) (sym (first_shape x xs a) ∙ (same ∙ first_shape y ys b)) in
    let others = same_lines xs ys a b (All-tail (LacksByte 10) x xs h) (All-tail (LacksByte 10) y ys k) m n cut.1 in
    (λ i. cut.0 i ∷ others.0 i, others.1)

pub one_lines : (text : List ℕ) (a b : List (List ℕ)) → HasLines text a → HasLines text b → a ≡ b
one_lines text a b h k =
    let parts = same_lines h.whole k.whole h.rest k.rest h.lines_end k.lines_end h.rest_lacks k.rest_lacks (sym h.parts ∙ k.parts) in
    h.are ∙ ((λ i. parts.0 i ++ last_line (parts.1 i)) ∙ sym k.are)

-- an empty text has no lines
pub no_lines : HasLines [] []
no_lines = record {
  whole = [];
  rest = [];
  parts = refl;
  lines_end = All-nil (LacksByte 10);
  rest_lacks = All-nil (λ other. other ≢ 10);
  are = refl;
}

last_of : (line : List ℕ) → (line ≡ [] → ⊥) → last_line line ≡ line ∷ []
last_of [] some = absurd (some refl)
last_of (byte ∷ bytes) some = refl

-- the lines of a text, from those after its first line
pub onward : (text line rest : List ℕ) (more : List (List ℕ)) → BeginsWith text line rest → (text ≡ [] → ⊥) → HasLines rest more → HasLines text (line ∷ more)
onward text line rest more (ended lacks is) some h = record {
  whole = line ∷ h.whole;
  rest = h.rest;
  parts = is ∙ (ap (λ r. line ++ 10 ∷ r) h.parts ∙ sym (first_shape line h.whole h.rest));
  lines_end = All-cons (LacksByte 10) line h.whole lacks h.lines_end;
  rest_lacks = h.rest_lacks;
  are = ap (λ lines. line ∷ lines) h.are;
}
onward text line rest more (alone lacks is empty) some h =
    let none : more ≡ [] = one_lines [] more [] (subst (λ r. HasLines r more) empty h) no_lines in
    record {
      whole = [];
      rest = line;
      parts = is;
      lines_end = All-nil (LacksByte 10);
      rest_lacks = lacks;
      are = ap (λ lines. line ∷ lines) none ∙ sym (last_of line (λ e. some (is ∙ e)));
    }

-- Each text has lines.
with_feed : (text : List ℕ) (lines : List (List ℕ)) → HasLines text lines → (more : List (List ℕ)) × HasLines (10 ∷ text) more
with_feed text lines has = (
  [] ∷ lines,
  record {
    whole = [] ∷ has.whole;
    rest = has.rest;
    parts = ap (λ t. 10 ∷ t) has.parts ∙ sym (first_shape [] has.whole has.rest);
    lines_end = All-cons (LacksByte 10) [] has.whole (All-nil (λ other. other ≢ 10)) has.lines_end;
    rest_lacks = has.rest_lacks;
    are = ap (λ all. [] ∷ all) has.are;
  },
)

with_byte : (byte : ℕ) (text : List ℕ) → byte ≢ 10 → (whole : List (List ℕ)) (rest : List ℕ) → text ≡ lines_of whole ++ rest → All (LacksByte 10) whole → LacksByte 10 rest → (lines : List (List ℕ)) × HasLines (byte ∷ text) lines
with_byte byte text other [] rest is h k = (
  last_line (byte ∷ rest),
  record {
    whole = [];
    rest = byte ∷ rest;
    parts = ap (λ t. byte ∷ t) is;
    lines_end = All-nil (LacksByte 10);
    rest_lacks = All-cons (λ b. b ≢ 10) byte rest other k;
    are = refl;
  },
)
with_byte byte text other (line ∷ lines) rest is h k = (
  ((byte ∷ line) ∷ lines) ++ last_line rest,
  record {
    whole = (byte ∷ line) ∷ lines;
    rest = rest;
    parts = ap (λ t. byte ∷ t) is;
    lines_end = All-cons (LacksByte 10) (byte ∷ line) lines (All-cons (λ b. b ≢ 10) byte line other (All-head (LacksByte 10) line lines h)) (All-tail (LacksByte 10) line lines h);
    rest_lacks = k;
    are = refl;
  },
)

pub some_lines : (text : List ℕ) → (lines : List (List ℕ)) × HasLines text lines
some_lines [] = ([], no_lines)
some_lines (byte ∷ text) =
    let has = (some_lines text).1 in
    elim (cases_eq byte 10) [
      | inl feed ↦ subst (λ b. (lines : List (List ℕ)) × HasLines (b ∷ text) lines) (sym feed) (with_feed text (some_lines text).0 has)
      | inr other ↦ with_byte byte text other has.whole has.rest has.parts has.lines_end has.rest_lacks
    ]

-- whole lines are the lines of their text
pub whole_lines : (lines : List (List ℕ)) → All (LacksByte 10) lines → HasLines (lines_of lines) lines
whole_lines lines h = record {
  whole = lines;
  rest = [];
  parts = sym (append-nil (lines_of lines));
  lines_end = h;
  rest_lacks = All-nil (λ other. other ≢ 10);
  are = sym (append-nil lines);
}
