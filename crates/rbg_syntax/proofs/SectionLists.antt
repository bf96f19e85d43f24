-- The sections of one kind, as the list of sections is looked through.
use Rattle.std.proofs.Common.{◌≡◌, ◌≤◌, ◌+◌, ℕ, zero, suc, List, [], ◌∷◌, ◌++◌, length, take, drop, Bool, true, false, cond, Option, Some, None, refl, sym, ap, ◌∙◌, arith, add-one, slice_get, IfErr, ok_or}
use Rattle.rbg_syntax.specs.declared.error.SyntaxError.{SyntaxError}
use denote.Enum.Bare.{same_true, true_same}
use Rattle.rbg_macro.specs.Sections.{SectionTokens}
use Rattle.rbg_macro.specs.contracts.source.SectionKind.{the_type}
use Rattle.rbg_macro.specs.declared.source.SectionKind.{SectionKind}
use Rattle.rbg_grammar.specs.Sections.{same_kind, sections_of, count_of, AreDifferent, IsFirstTwice}

same_kind-same : (a b : SectionKind) → a ≡ b → same_kind a b ≡ true
same_kind-same a b e = true_same the_type a b e

pub kind_from-same : (a b : SectionKind) → same_kind a b ≡ true → a ≡ b
kind_from-same a b e = same_true the_type tt a b e

-- the test of the code, at a section's kind
pub tested : (a b c : SectionKind) (flag t : Bool) → flag ≡ same_kind a c → a ≡ b → flag ≡ t → same_kind b c ≡ t
tested a b c flag t is same e = ap (λ k. same_kind k c) (sym same) ∙ sym is ∙ e

-- one more section, by whether it is of the kind
pub sections_of-drop : (kind : SectionKind) (sections : List SectionTokens) (i : ℕ) (s : SectionTokens) → slice_get sections i ≡ Some s
    → sections_of kind (drop i sections) ≡ cond (same_kind s.kind kind) (s ∷ sections_of kind (drop (i + 1) sections)) (sections_of kind (drop (i + 1) sections))
sections_of-drop kind sections i s e = rw add-one (go sections i e)
  where
    go : (xs : List SectionTokens) (i : ℕ) → slice_get xs i ≡ Some s → sections_of kind (drop i xs) ≡ cond (same_kind s.kind kind) (s ∷ sections_of kind (drop (suc i) xs)) (sections_of kind (drop (suc i) xs))
    go [] i e = cc
    go (x ∷ xs) zero e = let same : x ≡ s = cc in rw same
    go (x ∷ xs) (suc i) e = go xs i e

count_of-cons : (kind : SectionKind) (x : SectionTokens) (xs : List SectionTokens) → count_of kind (x ∷ xs) ≡ count_of kind xs + cond (same_kind x.kind kind) 1 0
count_of-cons kind x xs = go (same_kind x.kind kind)
  where
    go : (b : Bool) → length (cond b (x ∷ sections_of kind xs) (sections_of kind xs)) ≡ count_of kind xs + cond b 1 0
    go true = omega arith
    go false = omega arith

pub count_of-take_one : (kind : SectionKind) (sections : List SectionTokens) (i : ℕ) (s : SectionTokens) → slice_get sections i ≡ Some s
    → count_of kind (take (i + 1) sections) ≡ count_of kind (take i sections) + cond (same_kind s.kind kind) 1 0
count_of-take_one kind sections i s e = rw add-one (go sections i e)
  where
    go : (xs : List SectionTokens) (i : ℕ) → slice_get xs i ≡ Some s → count_of kind (take (suc i) xs) ≡ count_of kind (take i xs) + cond (same_kind s.kind kind) 1 0
    go [] i e = cc
    go (x ∷ xs) zero e = let same : x ≡ s = cc in rw (count_of-cons kind x [], same)
    go (x ∷ xs) (suc i) e = rw (count_of-cons kind x (take (suc i) xs), count_of-cons kind x (take i xs)) (omega (arith, go xs i e))

pub count_of-take : (kind : SectionKind) (sections : List SectionTokens) (i j : ℕ) → i ≤ j → count_of kind (take i sections) ≤ count_of kind (take j sections)
count_of-take kind [] zero zero h = omega arith
count_of-take kind [] zero (suc j) h = omega arith
count_of-take kind [] (suc i) zero h = omega arith
count_of-take kind [] (suc i) (suc j) h = omega arith
count_of-take kind (x ∷ xs) zero j h = omega arith
count_of-take kind (x ∷ xs) (suc i) zero h = absurd (omega arith)
count_of-take kind (x ∷ xs) (suc i) (suc j) h = rw (count_of-cons kind x (take i xs), count_of-cons kind x (take j xs)) (omega (arith, count_of-take kind xs i j (omega arith)))

pub count_of-append : (kind : SectionKind) (xs ys : List SectionTokens) → count_of kind (xs ++ ys) ≡ count_of kind xs + count_of kind ys
count_of-append kind [] ys = omega arith
count_of-append kind (x ∷ xs) ys = rw (count_of-cons kind x (xs ++ ys), count_of-cons kind x xs) (omega (arith, count_of-append kind xs ys))

pub split_at : (xs : List SectionTokens) (i : ℕ) (x : SectionTokens) → slice_get xs i ≡ Some x → xs ≡ take i xs ++ x ∷ drop 1 (drop i xs)
split_at [] i x e = cc
split_at (y ∷ ys) zero x e = let same : y ≡ x = cc in ap (λ z. z ∷ ys) same
split_at (y ∷ ys) (suc i) x e = ap (λ zs. y ∷ zs) (split_at ys i x e)

pub twice_counted : (sections : List SectionTokens) (kind : SectionKind) → IsFirstTwice sections kind → 2 ≤ count_of kind sections
twice_counted sections kind h =
    let all : count_of kind sections ≡ count_of kind h.before + count_of kind (h.again ∷ h.beyond) = ap (count_of kind) h.whole ∙ count_of-append kind h.before (h.again ∷ h.beyond) in
    let here : same_kind h.again.kind kind ≡ true = same_kind-same h.again.kind kind h.same in
    let more : count_of kind (h.again ∷ h.beyond) ≡ count_of kind h.beyond + 1 = count_of-cons kind h.again h.beyond ∙ ap (λ b. count_of kind h.beyond + cond {A = ℕ} b 1 0) here in
    omega (arith, all, more, h.twice)

-- A further section of a kind that none before it has keeps the sections different.
pub one_more_different : (sections : List SectionTokens) (i : ℕ) (s : SectionTokens) → slice_get sections i ≡ Some s → AreDifferent (take i sections) → count_of s.kind (take i sections) ≡ 0 → AreDifferent (take (i + 1) sections)
one_more_different sections i s e before none kind = go (same_kind s.kind kind) refl
  where
    go : (b : Bool) → same_kind s.kind kind ≡ b → count_of kind (take (i + 1) sections) ≤ 1
    go true is =
        let one = rw is at (count_of-take_one kind sections i s e) in
        let empty : count_of kind (take i sections) ≡ 0 = rw (kind_from-same s.kind kind is) at none in
        omega (arith, one, empty)
    go false is = let one = rw is at (count_of-take_one kind sections i s e) in omega (arith, one, before kind)

pub none_first : (xs : List SectionTokens) → None ≡ slice_get xs 0 → xs ≡ []
none_first [] e = refl
none_first (x ∷ xs) e = cc

pub missing_first : (o : Option SectionTokens) (error : SyntaxError) (xs : List SectionTokens) → o ≡ slice_get xs 0 → IfErr (ok_or o error) (λ e. (e ≡ error) × (xs ≡ []))
missing_first (Some x) error xs e = tt
missing_first None error xs e = (refl, none_first xs e)
