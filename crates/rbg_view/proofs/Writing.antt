-- Texts of lists, written item by item.
use Rattle.rbg_base.proofs.Common.{◌≡◌, ℕ, suc, ◌+◌, ◌<◌, List, [], ◌∷◌, ◌++◌, length, take, Some, slice_get, get_or, ap, sym, ◌∙◌, append_assoc, append-nil, arith, flat_map, enumerate_from, slice_get_within, get_or_from_slice_get}
use Rattle.std.proofs.lemmas.List.{take_more, length-take-le}
use Rattle.std.proofs.lemmas.List.Concat.{flat_map-append}

-- one part more of a text
pub more : (old mid new text part : List ℕ) → mid ≡ old ++ text → new ≡ mid ++ part → new ≡ old ++ (text ++ part)
more old mid new text part so_far written =
    written ∙ (ap (λ m. m ++ part) so_far ∙ append_assoc old text part)

-- parts one after the other
pub joined2 : (o0 o1 o2 a b : List ℕ) → o1 ≡ o0 ++ a → o2 ≡ o1 ++ b → o2 ≡ o0 ++ (a ++ b)
joined2 o0 o1 o2 a b e1 e2 = more o0 o1 o2 a b e1 e2

pub joined3 : (o0 o1 o2 o3 a b c : List ℕ) → o1 ≡ o0 ++ a → o2 ≡ o1 ++ b → o3 ≡ o2 ++ c → o3 ≡ o0 ++ (a ++ b ++ c)
joined3 o0 o1 o2 o3 a b c e1 e2 e3 = more o0 o2 o3 (a ++ b) c (joined2 o0 o1 o2 a b e1 e2) e3

pub joined4 : (o0 o1 o2 o3 o4 a b c d : List ℕ) → o1 ≡ o0 ++ a → o2 ≡ o1 ++ b → o3 ≡ o2 ++ c → o4 ≡ o3 ++ d → o4 ≡ o0 ++ (a ++ b ++ c ++ d)
joined4 o0 o1 o2 o3 o4 a b c d e1 e2 e3 e4 = more o0 o3 o4 (a ++ b ++ c) d (joined3 o0 o1 o2 o3 a b c e1 e2 e3) e4

pub joined5 : (o0 o1 o2 o3 o4 o5 a b c d e : List ℕ) → o1 ≡ o0 ++ a → o2 ≡ o1 ++ b → o3 ≡ o2 ++ c → o4 ≡ o3 ++ d → o5 ≡ o4 ++ e → o5 ≡ o0 ++ (a ++ b ++ c ++ d ++ e)
joined5 o0 o1 o2 o3 o4 o5 a b c d e e1 e2 e3 e4 e5 = more o0 o4 o5 (a ++ b ++ c ++ d) e (joined4 o0 o1 o2 o3 o4 a b c d e1 e2 e3 e4) e5

pub joined6 : (o0 o1 o2 o3 o4 o5 o6 a b c d e f : List ℕ) → o1 ≡ o0 ++ a → o2 ≡ o1 ++ b → o3 ≡ o2 ++ c → o4 ≡ o3 ++ d → o5 ≡ o4 ++ e → o6 ≡ o5 ++ f → o6 ≡ o0 ++ (a ++ b ++ c ++ d ++ e ++ f)
joined6 o0 o1 o2 o3 o4 o5 o6 a b c d e f e1 e2 e3 e4 e5 e6 = more o0 o5 o6 (a ++ b ++ c ++ d ++ e) f (joined5 o0 o1 o2 o3 o4 o5 a b c d e e1 e2 e3 e4 e5) e6

-- the items below the next index are those below this one and its own
pub take_next : {X : Type 0} → (xs : List X) (i : ℕ) (x : X) → slice_get xs i ≡ Some x → take (i + 1) xs ≡ take i xs ++ x ∷ []
take_next xs i x there =
    take_more xs i x (slice_get_within xs i x there) ∙ ap (λ y. take i xs ++ y ∷ []) (get_or_from_slice_get xs i x x there)

-- the text of the items so far, and of the next one
pub item_more : {X : Type 0} → (f : X → List ℕ) (old mid new : List ℕ) (xs : List X) (i : ℕ) (x : X) → mid ≡ old ++ flat_map f (take i xs) → slice_get xs i ≡ Some x → new ≡ mid ++ f x → new ≡ old ++ flat_map f (take (i + 1) xs)
item_more f old mid new xs i x so_far there written =
    let told : flat_map f (take (i + 1) xs) ≡ flat_map f (take i xs) ++ f x =
    ap (flat_map f) (take_next xs i x there)
    ∙ (flat_map-append f (take i xs) (x ∷ []) ∙ ap (λ t. flat_map f (take i xs) ++ t) (append-nil (f x))) in
    written
    ∙ (ap (λ m. m ++ f x) so_far ∙ (append_assoc old (flat_map f (take i xs)) (f x) ∙ ap (λ t. old ++ t) (sym told)))

numbered_push : {X : Type 0} → (f : ℕ × X → List ℕ) (first : ℕ) (xs : List X) (x : X) → flat_map f (enumerate_from first (xs ++ x ∷ [])) ≡ flat_map f (enumerate_from first xs) ++ f (first + length xs, x)
numbered_push f first [] x = let same : first + 0 ≡ first = omega arith in rw same (append-nil (f (first, x)))
numbered_push f first (other ∷ xs) x =
    let same : first + suc (length xs) ≡ (first + 1) + length xs = omega arith in
    rw same
    (ap (λ more. f (first, other) ++ more) (numbered_push f (first + 1) xs x)
    ∙ sym (append_assoc (f (first, other)) (flat_map f (enumerate_from (first + 1) xs)) (f ((first + 1) + length xs, x))))

-- the text of the numbered items so far, and of the next one
pub numbered_at : {X : Type 0} → (f : ℕ × X → List ℕ) (old mid new : List ℕ) (xs : List X) (i : ℕ) (d x : X) → i < length xs → get_or xs i d ≡ x → mid ≡ old ++ flat_map f (enumerate_from 0 (take i xs)) → new ≡ mid ++ f (i, x) → new ≡ old ++ flat_map f (enumerate_from 0 (take (i + 1) xs))
numbered_at f old mid new xs i d x within is so_far written =
    let shorter : length (take i xs) ≡ i = length-take-le i xs (omega arith) in
    let count : 0 + length (take i xs) ≡ i = omega (arith, shorter) in
    let one_more : take (i + 1) xs ≡ take i xs ++ x ∷ [] = take_more xs i d within ∙ ap (λ y. take i xs ++ y ∷ []) is in
    let told : flat_map f (enumerate_from 0 (take (i + 1) xs)) ≡ flat_map f (enumerate_from 0 (take i xs)) ++ f (i, x) =
    ap (λ ys. flat_map f (enumerate_from 0 ys)) one_more
    ∙ (numbered_push f 0 (take i xs) x ∙ ap (λ n. flat_map f (enumerate_from 0 (take i xs)) ++ f (n, x)) count) in
    written
    ∙ (ap (λ m. m ++ f (i, x)) so_far
    ∙ (append_assoc old (flat_map f (enumerate_from 0 (take i xs))) (f (i, x)) ∙ ap (λ t. old ++ t) (sym told)))
