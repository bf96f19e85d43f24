-- Inputs that are cut at the line `%%`.
use Rattle.rbg_base.proofs.Common.{◌≡◌, ◌≢◌, ℕ, ◌-◌, inl, inr, List, [], ◌∷◌, ◌++◌, length, take, ap, sym, ◌∙◌, refl, subst, append_assoc, arith, ◌⊎◌, All, All-nil, All-cons, All-append, All-head, All-tail}
use Rattle.rbg_wire.proofs.Common.{LacksByte, line_of, lines_of}
use Rattle.rbg_wire.proofs.ByteLemmas.{no_cut, same_cut}
use Rattle.rbg_script.specs.Inputs.{IsInput, mark}
use Rattle.rbg_script.specs.Laws.{InputsAreApart}
use Rattle.rbg_script.specs.internal.Reading.{Unmarked}
use Rattle.rbg_script.proofs.LineLemmas.{first_shape, same_lines}
use Rattle.rbg_script.proofs.WholeLines.{before_left, whole_at_first, whole_more}

mark_lacks : LacksByte 10 mark
mark_lacks =
    All-cons (λ b. b ≢ 10) 37 (37 ∷ []) (λ e. absurd (omega arith)) (All-cons (λ b. b ≢ 10) 37 [] (λ e. absurd (omega arith)) (All-nil (λ b. b ≢ 10)))

-- the mark and its line feed, after a description
marked_shape : (description script : List ℕ) → description ++ line_of mark ++ script ≡ description ++ (mark ++ 10 ∷ script)
marked_shape description script = append_assoc description (line_of mark) script

-- lines without the mark, if the mark doesn't follow
no_mark : (xs ys : List (List ℕ)) (left script : List ℕ) → All (LacksByte 10) xs → All (λ line. line ≢ mark) xs → LacksByte 10 left → All (LacksByte 10) ys → lines_of xs ++ left ≡ lines_of ys ++ (mark ++ 10 ∷ script) → ⊥
no_mark [] [] left script h u k m same = no_cut 10 mark script (subst (LacksByte 10) same k)
no_mark [] (y ∷ ys) left script h u k m same =
    no_cut 10 y (lines_of ys ++ (mark ++ 10 ∷ script)) (subst (LacksByte 10) (same ∙ first_shape y ys (mark ++ 10 ∷ script)) k)
no_mark (x ∷ xs) [] left script h u k m same =
    All-head (λ line. line ≢ mark) x xs u (same_cut 10 x mark (lines_of xs ++ left) script (All-head (LacksByte 10) x xs h) mark_lacks (sym (first_shape x xs left) ∙ same)).0
no_mark (x ∷ xs) (y ∷ ys) left script h u k m same =
    no_mark xs ys left script (All-tail (LacksByte 10) x xs h) (All-tail (λ line. line ≢ mark) x xs u) k (All-tail (LacksByte 10) y ys m)
    (same_cut 10 x y (lines_of xs ++ left) (lines_of ys ++ (mark ++ 10 ∷ script)) (All-head (LacksByte 10) x xs h) (All-head (LacksByte 10) y ys m)
    (sym (first_shape x xs left) ∙ (same ∙ first_shape y ys (mark ++ 10 ∷ script)))).1

-- lines without the mark, and then the mark: in one way
one_mark : (xs ys : List (List ℕ)) (s t : List ℕ) → All (LacksByte 10) xs → All (λ line. line ≢ mark) xs → All (LacksByte 10) ys → All (λ line. line ≢ mark) ys → lines_of xs ++ (mark ++ 10 ∷ s) ≡ lines_of ys ++ (mark ++ 10 ∷ t) → (xs ≡ ys) × (s ≡ t)
one_mark [] [] s t h u k v same = (refl, (same_cut 10 mark mark s t mark_lacks mark_lacks same).1)
one_mark [] (y ∷ ys) s t h u k v same =
    absurd (All-head (λ line. line ≢ mark) y ys v (sym (same_cut 10 mark y s (lines_of ys ++ (mark ++ 10 ∷ t)) mark_lacks (All-head (LacksByte 10) y ys k) (same ∙ first_shape y ys (mark ++ 10 ∷ t))).0))
one_mark (x ∷ xs) [] s t h u k v same =
    absurd (All-head (λ line. line ≢ mark) x xs u (same_cut 10 x mark (lines_of xs ++ (mark ++ 10 ∷ s)) t (All-head (LacksByte 10) x xs h) mark_lacks (sym (first_shape x xs (mark ++ 10 ∷ s)) ∙ same)).0)
one_mark (x ∷ xs) (y ∷ ys) s t h u k v same =
    let cut = same_cut 10 x y (lines_of xs ++ (mark ++ 10 ∷ s)) (lines_of ys ++ (mark ++ 10 ∷ t)) (All-head (LacksByte 10) x xs h) (All-head (LacksByte 10) y ys k)
    (sym (first_shape x xs (mark ++ 10 ∷ s)) ∙ (same ∙ first_shape y ys (mark ++ 10 ∷ t))) in
    let others = one_mark xs ys s t (All-tail (LacksByte 10) x xs h) (All-tail (λ line. line ≢ mark) x xs u) (All-tail (LacksByte 10) y ys k) (All-tail (λ line. line ≢ mark) y ys v) cut.1 in
    (λ i. cut.0 i ∷ others.0 i, others.1)

-- what an input is after its description's lines
with_feed : (input description script : List ℕ) (lines : List (List ℕ)) → description ≡ lines_of lines → input ≡ description ++ line_of mark ++ script → input ≡ lines_of lines ++ (mark ++ 10 ∷ script)
with_feed input description script lines described is = is ∙ (marked_shape description script ∙ ap (λ d. d ++ (mark ++ 10 ∷ script)) described)

at_end : (input description : List ℕ) (lines : List (List ℕ)) → description ≡ lines_of lines → input ≡ description ++ mark → input ≡ lines_of lines ++ mark
at_end input description lines described is = is ∙ ap (λ d. d ++ mark) described

pub inputs_apart : InputsAreApart
inputs_apart input d e s t h k = elim h.parts [
  | inl more ↦ elim k.parts [
    | inl other ↦
        let same = one_mark h.lines k.lines s t h.whole h.unmarked k.whole k.unmarked (sym (with_feed input d s h.lines h.described more) ∙ with_feed input e t k.lines k.described other) in
        (h.described ∙ (ap lines_of same.0 ∙ sym k.described), same.1)
    | inr last ↦ absurd (no_mark k.lines h.lines mark s k.whole k.unmarked mark_lacks h.whole (sym (at_end input e k.lines k.described last.0) ∙ with_feed input d s h.lines h.described more))
  ]
  | inr ending ↦ elim k.parts [
    | inl other ↦ absurd (no_mark h.lines k.lines mark t h.whole h.unmarked mark_lacks k.whole (sym (at_end input d h.lines h.described ending.0) ∙ with_feed input e t k.lines k.described other))
    | inr last ↦
        let same = same_lines h.lines k.lines mark mark h.whole k.whole mark_lacks mark_lacks (sym (at_end input d h.lines h.described ending.0) ∙ at_end input e k.lines k.described last.0) in
        (h.described ∙ (ap lines_of same.0 ∙ sym k.described), ending.1 ∙ sym last.1)
  ]
]

-- The loop over the lines of an input.
pub nothing_passed : (input : List ℕ) → Unmarked input input
nothing_passed input = record { far = whole_at_first input; unmarked = All-nil (λ line. line ≢ mark) }

pub passed_more : (input left line rest : List ℕ) → Unmarked input left → left ≡ line ++ 10 ∷ rest → LacksByte 10 line → (line ≡ mark → ⊥) → Unmarked input rest
passed_more input left line rest passed is lacks other = record {
  far = whole_more input left line rest passed.far is lacks;
  unmarked = All-append (λ l. l ≢ mark) passed.far.lines (line ∷ []) passed.unmarked (All-cons (λ l. l ≢ mark) line [] other (All-nil (λ l. l ≢ mark)));
}

-- the description is the lines that were passed
passed_input : (input left description script : List ℕ) (passed : Unmarked input left) → description ≡ lines_of passed.far.lines → (input ≡ description ++ line_of mark ++ script) ⊎ ((input ≡ description ++ mark) × (script ≡ [])) → IsInput input description script
passed_input input left description script passed told parts = record {
  lines = passed.far.lines;
  described = told;
  whole = passed.far.whole;
  unmarked = passed.unmarked;
  parts = parts;
}

pub found_mark : (input left line rest description script : List ℕ) → Unmarked input left → left ≡ line ++ 10 ∷ rest → line ≡ mark → description ≡ take (length input - length left) input → script ≡ rest → IsInput input description script
found_mark input left line rest description script passed is marked described follows =
    let far = passed.far in
    let told = described ∙ before_left input left far in
    passed_input input left description script passed told (inl (
    far.parts ∙ (ap (λ l. lines_of far.lines ++ l) is ∙ (ap (λ l. lines_of far.lines ++ (l ++ 10 ∷ rest)) marked
    ∙ (ap (λ r. lines_of far.lines ++ (mark ++ 10 ∷ r)) (sym follows) ∙ (ap (λ d. d ++ (mark ++ 10 ∷ script)) (sym told) ∙ sym (marked_shape description script)))))
    ))

pub found_last : (input left description script : List ℕ) → Unmarked input left → left ≡ mark → description ≡ take (length input - length left) input → script ≡ [] → IsInput input description script
found_last input left description script passed marked described empty =
    let far = passed.far in
    let told = described ∙ before_left input left far in
    passed_input input left description script passed told (inr (far.parts ∙ (ap (λ l. lines_of far.lines ++ l) marked ∙ ap (λ d. d ++ mark) (sym told)), empty))

pub not_marked : (input left : List ℕ) → Unmarked input left → LacksByte 10 left → (left ≡ mark → ⊥) → (description script : List ℕ) → IsInput input description script → ⊥
not_marked input left passed lacks other description script h = elim h.parts [
  | inl more ↦ no_mark passed.far.lines h.lines left script passed.far.whole passed.unmarked lacks h.whole (sym passed.far.parts ∙ with_feed input description script h.lines h.described more)
  | inr ending ↦ other (same_lines passed.far.lines h.lines left mark passed.far.whole h.whole lacks mark_lacks (sym passed.far.parts ∙ at_end input description h.lines h.described ending.0)).1
]
