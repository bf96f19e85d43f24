-- What the crates above may cite, if std has no such lemma.
use Rattle.rbg_base.proofs.Common.{◌≡◌, ℕ, zero, suc, ◌+◌, ◌<◌, ◌≤◌, ◌^◌, true, false, Option, Some, None, IfSome, IfNone, List, [], ◌∷◌, ◌++◌, length, get_or, take, drop, map, decimal, arith, refl, ap, subst, sym, ◌∙◌, and_parts, digits_decimal, digits_value-decimal, decimal_injective, slice_get, Contains, is_some, option_map, list_all, AllZip, slice_get-map, slice_get_within, get_or_from_slice_get, slice_get_read}
use Rattle.std.proofs.lemmas.Str.Parse.{digits_value_short}
use Rattle.std.proofs.lemmas.List.{get_or-append-add, length-append, take_more, map-append}
use Rattle.rbg_base.specs.Names.{is_name, is_name_start, is_name_part}
use Rattle.rbg_base.proofs.Numerals.{digits}

-- the byte that begins a name may also be a later byte of it
pub start_is_part : (byte : ℕ) → is_name_start byte ≡ true → is_name_part byte ≡ true
start_is_part byte start = rw start refl

-- every byte of a name may be a later byte of a name
pub name_parts : (bytes : List ℕ) → is_name bytes ≡ true → list_all is_name_part bytes ≡ true
name_parts [] name = refl
name_parts (byte ∷ bytes) name =
    let parts = and_parts (is_name_start byte) (list_all is_name_part bytes) name in
    rw (start_is_part byte parts.0, parts.1) refl

-- a decimal form of at most this many digits is that of a number below that power of ten
pub short_from_length : (n count : ℕ) → n < 2 ^ 64 → length (decimal n) ≤ count → n < 10 ^ count
short_from_length n count small short = subst (λ k. k < 10 ^ count) (digits_value-decimal digits n small) (digits_value_short digits (decimal n) count (digits_decimal digits n small) short)

-- the number whose decimal form a text is, from the clauses of `number_of_decimal`
pub number_only : (text : List ℕ) (read : Option ℕ)
    → IfSome read (λ n. (n < 2 ^ 64) × (text ≡ decimal n))
    → IfNone read ((n : ℕ) → n < 2 ^ 64 → text ≡ decimal n → ⊥)
    → (n : ℕ) → n < 2 ^ 64 → text ≡ decimal n → read ≡ Some n
number_only text (Some m) found none n small spelled = ap Some (decimal_injective m n found.0 small (sym found.1 ∙ spelled))
number_only text None found none n small spelled = absurd (none n small spelled)

-- two options with the same values are equal
pub same_option : {A : Type 0} (a b : Option A) → ((x : A) → a ≡ Some x → b ≡ Some x) → ((x : A) → b ≡ Some x → a ≡ Some x) → a ≡ b
same_option None None there back = refl
same_option None (Some x) there back = back x refl
same_option (Some x) b there back = sym (there x refl)

-- an option has a value or none
pub value_of_some : {A : Type 0} (o : Option A) → is_some o ≡ true → (x : A) × (o ≡ Some x)
value_of_some None some = absurd cc
value_of_some (Some x) some = (x, refl)

pub none_of_not_some : {A : Type 0} (o : Option A) → is_some o ≡ false → o ≡ None
none_of_not_some None none = refl
none_of_not_some (Some x) none = absurd cc

-- entries of a list, and of the list of what a function makes of them
pub Contains-from_get : {A : Type 0} (xs : List A) (i : ℕ) (x : A) → slice_get xs i ≡ Some x → Contains xs x
Contains-from_get xs i x there = (i, slice_get_within xs i x there, get_or_from_slice_get xs i x x there)

pub get_from-Contains : {A : Type 0} (xs : List A) (x : A) → Contains xs x → (i : ℕ) × (slice_get xs i ≡ Some x)
get_from-Contains xs x h = (h.0, slice_get_read xs (length xs) h.0 x refl h.1 (sym h.2))

pub slice_get-map_at : {A B : Type 0} (f : A → B) (xs : List A) (i : ℕ) (x : A) → slice_get xs i ≡ Some x → slice_get (map f xs) i ≡ Some (f x)
slice_get-map_at f xs i x there = slice_get-map f xs i ∙ ap (option_map f) there

pub Contains-map : {A B : Type 0} (f : A → B) (xs : List A) (x : A) → Contains xs x → Contains (map f xs) (f x)
Contains-map f xs x h =
    let there = get_from-Contains xs x h in
    Contains-from_get (map f xs) there.0 (f x) (slice_get-map_at f xs there.0 x there.1)

pub map-take_more : {A B : Type 0} (f : A → B) (xs : List A) (i : ℕ) (x : A) → i < length xs → x ≡ get_or xs i x → map f (take (i + 1) xs) ≡ map f (take i xs) ++ f x ∷ []
map-take_more f xs i x below is =
    ap (map f) (take_more xs i x below) ∙ map-append f (take i xs) (get_or xs i x ∷ []) ∙ ap (λ y. map f (take i xs) ++ f y ∷ []) (sym is)

-- entries of two lists, one after the other
pub slice_get-append_left : {A : Type 0} (xs ys : List A) (i : ℕ) (x : A) → slice_get xs i ≡ Some x → slice_get (xs ++ ys) i ≡ Some x
slice_get-append_left [] ys i x there = cc
slice_get-append_left (y ∷ xs) ys zero x there = there
slice_get-append_left (y ∷ xs) ys (suc i) x there = slice_get-append_left xs ys i x there

pub slice_get-append_right : {A : Type 0} (xs ys : List A) (i : ℕ) (y : A) → slice_get ys i ≡ Some y → slice_get (xs ++ ys) (length xs + i) ≡ Some y
slice_get-append_right xs ys i y there =
    let within : i < length ys = slice_get_within ys i y there in
    slice_get_read (xs ++ ys) (length (xs ++ ys)) (length xs + i) y refl (omega (arith, length-append xs ys)) (sym (get_or-append-add xs ys i y ∙ get_or_from_slice_get ys i y y there))

-- the list from an entry on
pub drop-from_get : {A : Type 0} (n : ℕ) (xs : List A) (x : A) → slice_get xs n ≡ Some x → drop n xs ≡ x ∷ drop 1 (drop n xs)
drop-from_get n [] x there = cc
drop-from_get zero (y ∷ ys) x there = let same : y ≡ x = cc in ap (λ z. z ∷ ys) same
drop-from_get (suc n) (y ∷ ys) x there = drop-from_get n ys x there

-- lists of two types that go together, place by place (std's AllZip-push and length_all_zip are for one type)
pub AllZip-append : {A B : Type 0} (R : A → B → Type 0) (xs xs' : List A) (ys ys' : List B) → AllZip R xs ys → AllZip R xs' ys' → AllZip R (xs ++ xs') (ys ++ ys')
AllZip-append R [] xs' [] ys' first second = second
AllZip-append R [] xs' (y ∷ ys) ys' first second = absurd first
AllZip-append R (x ∷ xs) xs' [] ys' first second = absurd first
AllZip-append R (x ∷ xs) xs' (y ∷ ys) ys' first second = (first.0, AllZip-append R xs xs' ys ys' first.1 second)

pub AllZip-push_one : {A B : Type 0} (R : A → B → Type 0) (xs : List A) (ys : List B) (x : A) (y : B) → AllZip R xs ys → R x y → AllZip R (xs ++ x ∷ []) (ys ++ y ∷ [])
AllZip-push_one R xs ys x y all one = AllZip-append R xs (x ∷ []) ys (y ∷ []) all (one, tt)

pub AllZip-weaker : {A B : Type 0} (R S : A → B → Type 0) → ((x : A) (y : B) → R x y → S x y) → (xs : List A) (ys : List B) → AllZip R xs ys → AllZip S xs ys
AllZip-weaker R S weaker [] [] all = tt
AllZip-weaker R S weaker [] (y ∷ ys) all = absurd all
AllZip-weaker R S weaker (x ∷ xs) [] all = absurd all
AllZip-weaker R S weaker (x ∷ xs) (y ∷ ys) all = (weaker x y all.0, AllZip-weaker R S weaker xs ys all.1)
