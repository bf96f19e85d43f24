-- Packed places: their sizes, and that no two are alike.
use Rattle.rbg_base.proofs.Common.{◌≡◌, ℕ, zero, suc, ◌+◌, ◌*◌, ◌/◌, ◌%◌, ◌<◌, ◌≤◌, ◌^◌, List, [], ◌∷◌, ◌++◌, length, take, drop, get_or, slice_index, Option, Some, None, Result, Ok, Err, IfOk, IfNone, ◌⊎◌, inl, inr, refl, sym, ap, subst, ◌∙◌, arith, All, All-nil, All-cons, All-head, All-tail, All-append, IfSome, length-append, append_assoc, take_more}
use Rattle.std.proofs.Math.Seq.{take-length}
use Rattle.std.proofs.lemmas.Grind.{flat_map-append}
use Rattle.std.proofs.lemmas.Grind.{get_or_default_zero}
use Rattle.std.specs.Int.{from_be_bytes, w16, w32}
use Rattle.std.specs.List.{flat_map}
use Rattle.std.proofs.lemmas.Nat.{from_be_bytes-to_be_bytes_2, from_be_bytes-to_be_bytes_4}
use Rattle.std.proofs.Math.Seq.{take-append_seam, drop-append_seam}
use Rattle.hex.specs.Hex.{IsBytes, decode_of, encode_lower, lower_digits}
use Rattle.hex.specs.declared.error.FromHexError.{FromHexError}
use Rattle.hex.specs.declared.error.FromHexError.TheVariants.{OutOfMemory}
use Rattle.hex.proofs.HexLemmas.{length-encode_with, decode_of-encode_lower, decode_of-same}
use Rattle.rbg_rules.specs.Meaning.{AbstractGame, AbstractPlace, IsGame, IsLastOf, IsPlaceOf, Expression, positions_of}
use Rattle.rbg_questions.specs.Packing.{in_two, in_four, numbers_of, packed_form, packed_of, packed_text, position_of}

-- lists that are alike, and whose first parts have one length
pub same_parts : (front back first rest : List ℕ) → length front ≡ length first → front ++ back ≡ first ++ rest → (front ≡ first) × (back ≡ rest)
same_parts front back first rest long same = (
  sym (take-append_seam front back) ∙ (ap (take (length front)) same ∙ (ap (λ n. take n (first ++ rest)) long ∙ take-append_seam first rest)),
  sym (drop-append_seam front back) ∙ (ap (drop (length front)) same ∙ (ap (λ n. drop n (first ++ rest)) long ∙ drop-append_seam first rest)),
)

pub length-twos : (xs : List ℕ) → length (flat_map in_two xs) ≡ 2 * length xs
length-twos [] = refl
length-twos (x ∷ xs) = let rest = length-twos xs in omega (arith, rest)

pub length-fours : (xs : List ℕ) → length (flat_map in_four xs) ≡ 4 * length xs
length-fours [] = refl
length-fours (x ∷ xs) = let rest = length-fours xs in omega (arith, rest)

two_back : (a b : ℕ) → a < 2 ^ 16 → b < 2 ^ 16 → in_two a ≡ in_two b → a ≡ b
two_back a b small_a small_b same =
    sym (from_be_bytes-to_be_bytes_2 a small_a) ∙ (ap (from_be_bytes w16) same ∙ from_be_bytes-to_be_bytes_2 b small_b)

four_back : (a b : ℕ) → a < 2 ^ 32 → b < 2 ^ 32 → in_four a ≡ in_four b → a ≡ b
four_back a b small_a small_b same =
    sym (from_be_bytes-to_be_bytes_4 a small_a) ∙ (ap (from_be_bytes w32) same ∙ from_be_bytes-to_be_bytes_4 b small_b)

pub twos_back : (xs ys : List ℕ) → All (λ n. n < 2 ^ 16) xs → All (λ n. n < 2 ^ 16) ys → length xs ≡ length ys → flat_map in_two xs ≡ flat_map in_two ys → xs ≡ ys
twos_back [] [] small_xs small_ys long same = refl
twos_back [] (y ∷ ys) small_xs small_ys long same = absurd (omega (arith, long))
twos_back (x ∷ xs) [] small_xs small_ys long same = absurd (omega (arith, long))
twos_back (x ∷ xs) (y ∷ ys) small_xs small_ys long same =
    let parts = same_parts (in_two x) (flat_map in_two xs) (in_two y) (flat_map in_two ys) refl same in
    let first = two_back x y (All-head (λ n. n < 2 ^ 16) x xs small_xs) (All-head (λ n. n < 2 ^ 16) y ys small_ys) parts.0 in
    let rest = twos_back xs ys (All-tail (λ n. n < 2 ^ 16) x xs small_xs) (All-tail (λ n. n < 2 ^ 16) y ys small_ys) (omega (arith, long)) parts.1 in
    λ i. first i ∷ rest i

pub fours_back : (xs ys : List ℕ) → All (λ n. n < 2 ^ 32) xs → All (λ n. n < 2 ^ 32) ys → length xs ≡ length ys → flat_map in_four xs ≡ flat_map in_four ys → xs ≡ ys
fours_back [] [] small_xs small_ys long same = refl
fours_back [] (y ∷ ys) small_xs small_ys long same = absurd (omega (arith, long))
fours_back (x ∷ xs) [] small_xs small_ys long same = absurd (omega (arith, long))
fours_back (x ∷ xs) (y ∷ ys) small_xs small_ys long same =
    let parts = same_parts (in_four x) (flat_map in_four xs) (in_four y) (flat_map in_four ys) refl same in
    let first = four_back x y (All-head (λ n. n < 2 ^ 32) x xs small_xs) (All-head (λ n. n < 2 ^ 32) y ys small_ys) parts.0 in
    let rest = fours_back xs ys (All-tail (λ n. n < 2 ^ 32) x xs small_xs) (All-tail (λ n. n < 2 ^ 32) y ys small_ys) (omega (arith, long)) parts.1 in
    λ i. first i ∷ rest i

-- the numbers and the values of a place are small
pub small_position : (rules : Expression) (most : ℕ) (last : Option ℕ) → IsLastOf rules last → length (positions_of rules) ≤ most → position_of last ≤ most
small_position rules most None is few = omega arith
small_position rules most (Some position) is few = omega (arith, is.1, few)

pub numbers_small : (game : AbstractGame) → IsGame game → (p : AbstractPlace) → IsPlaceOf game p → All (λ n. n < 2 ^ 16) (numbers_of p)
numbers_small game lawful p fits =
    let state = fits.state in
    let limits = lawful.limits in
    let position = small_position game.rules 20000 p.last fits.last limits.positions in
    All-cons Small p.state.player (p.state.vertex ∷ position_of p.last ∷ p.state.pieces) (omega (arith, state.player, limits.players))
    (All-cons Small p.state.vertex (position_of p.last ∷ p.state.pieces) (omega (arith, state.vertex, state.vertices, limits.vertices))
    (All-cons Small (position_of p.last) p.state.pieces (omega (arith, position))
    (λ v d h. each v d h)))
  where
    Small : ℕ → Type 0
    Small n = n < 2 ^ 16

    each : All (λ n. n < 2 ^ 16) p.state.pieces
    each v d h =
        let below = fits.state.pieces v h in
        subst (λ n. n < 2 ^ 16) (sym (get_or_default_zero p.state.pieces v d h)) (omega (arith, below, lawful.limits.pieces))

pub values_small : (game : AbstractGame) → IsGame game → (p : AbstractPlace) → IsPlaceOf game p → All (λ n. n < 2 ^ 32) p.state.values
values_small game lawful p fits v d h =
    let within : v < length game.bounds = subst (λ n. v < n) fits.state.variables h in
    let bound = fits.state.bounds v h in
    let most = lawful.limits.bounds v 0 within in
    subst (λ n. n < 2 ^ 32) (sym (get_or_default_zero p.state.values v d h)) (omega (arith, bound, most))

-- how many bytes a place of the game has after the first
pub length-packed : (game : AbstractGame) → IsGame game → (p : AbstractPlace) → IsPlaceOf game p → length (flat_map in_two (numbers_of p) ++ flat_map in_four p.state.values) ≡ 2 * (3 + length game.board.first) + 4 * length game.variables
length-packed game lawful p fits =
    let whole = length-append (flat_map in_two (numbers_of p)) (flat_map in_four p.state.values) in
    let twos = length-twos (numbers_of p) in
    let fours = length-fours p.state.values in
    omega (arith, whole, twos, fours, fits.state.vertices, fits.state.variables, lawful.bounds)

-- the parts of bytes that are alike
pub same_numbers : (game : AbstractGame) → IsGame game → (p : AbstractPlace) → IsPlaceOf game p → (numbers values : List ℕ) → All (λ n. n < 2 ^ 16) numbers → All (λ n. n < 2 ^ 32) values → length numbers ≡ 3 + length game.board.first → length values ≡ length game.variables → flat_map in_two numbers ++ flat_map in_four values ≡ flat_map in_two (numbers_of p) ++ flat_map in_four p.state.values → (numbers ≡ numbers_of p) × (values ≡ p.state.values)
same_numbers game lawful p fits numbers values small_numbers small_values many_numbers many_values same =
    let long : length numbers ≡ length (numbers_of p) = omega (arith, many_numbers, fits.state.vertices) in
    let wide : length values ≡ length p.state.values = omega (arith, many_values, fits.state.variables, lawful.bounds) in
    let left = length-twos numbers in
    let right = length-twos (numbers_of p) in
    let parts = same_parts (flat_map in_two numbers) (flat_map in_four values) (flat_map in_two (numbers_of p)) (flat_map in_four p.state.values) (omega (arith, left, right, long)) same in
    (twos_back numbers (numbers_of p) small_numbers (numbers_small game lawful p fits) long parts.0, fours_back values p.state.values small_values (values_small game lawful p fits) wide parts.1)

-- places with the same numbers and values are the same
pub same_last : (rules : Expression) (a b : Option ℕ) → IfSome a (λ position. 0 < position) → IsLastOf rules b → position_of a ≡ position_of b → a ≡ b
same_last rules None None some is same = refl
same_last rules None (Some b) some is same = absurd (omega (arith, is.0, same))
same_last rules (Some a) None some is same = absurd (omega (arith, some, same))
same_last rules (Some a) (Some b) some is same = ap Some same

pub same_place : (rules : Expression) (p q : AbstractPlace) → IfSome p.last (λ position. 0 < position) → IsLastOf rules q.last → numbers_of p ≡ numbers_of q → p.state.values ≡ q.state.values → p ≡ q
same_place rules p q some is numbers values =
    let player : p.state.player ≡ q.state.player = cc in
    let vertex : p.state.vertex ≡ q.state.vertex = cc in
    let position : position_of p.last ≡ position_of q.last = cc in
    let pieces : p.state.pieces ≡ q.state.pieces = cc in
    let last = same_last rules p.last q.last some is position in
    λ i. record { state = record { player = player i; pieces = pieces i; values = values i; vertex = vertex i }; last = last i }

some_last : (rules : Expression) (last : Option ℕ) → IsLastOf rules last → IfSome last (λ position. 0 < position)
some_last rules None is = tt
some_last rules (Some position) is = is.0

-- no two places are packed alike
pub packed_back : (game : AbstractGame) (p q : AbstractPlace) → IsGame game → IsPlaceOf game p → IsPlaceOf game q → packed_of p ≡ packed_of q → p ≡ q
packed_back game p q lawful p_fits q_fits same =
    let rest : flat_map in_two (numbers_of p) ++ flat_map in_four p.state.values ≡ flat_map in_two (numbers_of q) ++ flat_map in_four q.state.values = ap (drop 1) same in
    let many : length (numbers_of p) ≡ 3 + length game.board.first = omega (arith, p_fits.state.vertices) in
    let wide : length p.state.values ≡ length game.variables = omega (arith, p_fits.state.variables, lawful.bounds) in
    let parts = same_numbers game lawful q q_fits (numbers_of p) p.state.values (numbers_small game lawful p p_fits) (values_small game lawful p p_fits) many wide rest in
    same_place game.rules p q (some_last game.rules p.last p_fits.last) q_fits.last parts.0 parts.1

-- each packed place fits a line
pub packed_short : (game : AbstractGame) (p : AbstractPlace) → IsGame game → IsPlaceOf game p → 7 + length (packed_text p) ≤ 65536
packed_short game p lawful fits =
    let digits = length-encode_with lower_digits (packed_of p) in
    let bytes = length-packed game lawful p fits in
    omega (arith, digits, bytes, lawful.limits.vertices, lawful.limits.variables)

-- what is packed is bytes
bytes_two : (xs : List ℕ) → All (λ b. b < 256) (flat_map in_two xs)
bytes_two [] = All-nil (λ b. b < 256)
bytes_two (x ∷ xs) =
    All-cons (λ b. b < 256) (x / 256 ^ 1 % 256) (x % 256 ∷ flat_map in_two xs) (omega arith)
    (All-cons (λ b. b < 256) (x % 256) (flat_map in_two xs) (omega arith) (bytes_two xs))

bytes_four : (xs : List ℕ) → All (λ b. b < 256) (flat_map in_four xs)
bytes_four [] = All-nil (λ b. b < 256)
bytes_four (x ∷ xs) =
    All-cons (λ b. b < 256) (x / 256 ^ 3 % 256) (x / 256 ^ 2 % 256 ∷ x / 256 ^ 1 % 256 ∷ x % 256 ∷ flat_map in_four xs) (omega arith)
    (All-cons (λ b. b < 256) (x / 256 ^ 2 % 256) (x / 256 ^ 1 % 256 ∷ x % 256 ∷ flat_map in_four xs) (omega arith)
    (All-cons (λ b. b < 256) (x / 256 ^ 1 % 256) (x % 256 ∷ flat_map in_four xs) (omega arith)
    (All-cons (λ b. b < 256) (x % 256) (flat_map in_four xs) (omega arith) (bytes_four xs))))

all_bytes : (xs : List ℕ) → All (λ b. b < 256) xs → IsBytes xs
all_bytes [] all i = omega arith
all_bytes (x ∷ xs) all zero = All-head (λ b. b < 256) x xs all
all_bytes (x ∷ xs) all (suc i) = all_bytes xs (All-tail (λ b. b < 256) x xs all) i

pub packed_bytes : (p : AbstractPlace) → IsBytes (packed_of p)
packed_bytes p i = all_bytes (packed_of p) (All-cons (λ b. b < 256) packed_form (flat_map in_two (numbers_of p) ++ flat_map in_four p.state.values) (omega arith) (All-append (λ b. b < 256) (flat_map in_two (numbers_of p)) (flat_map in_four p.state.values) (bytes_two (numbers_of p)) (bytes_four p.state.values))) i

-- bytes that were read are those of the place
pub packed_whole : (bytes rest first last numbers values : List ℕ) (form : ℕ) (place : AbstractPlace) → bytes ≡ form ∷ rest → form ≡ packed_form → rest ≡ first ++ last → flat_map in_two numbers ≡ first → flat_map in_four values ≡ last → numbers_of place ≡ numbers → place.state.values ≡ values → bytes ≡ packed_of place
packed_whole bytes rest first last numbers values form place is is_form parts twos fours same_numbers same_values =
    is ∙ (λ i. is_form i ∷ (parts ∙ (λ j. (sym twos ∙ ap (flat_map in_two) (sym same_numbers)) j ++ (sym fours ∙ ap (flat_map in_four) (sym same_values)) j)) i)

-- and where no place has the numbers and the values, none is packed so
pub packed_none : (game : AbstractGame) → IsGame game → (bytes rest first last numbers values : List ℕ) (form : ℕ) → bytes ≡ form ∷ rest → rest ≡ first ++ last → flat_map in_two numbers ≡ first → flat_map in_four values ≡ last → All (λ n. n < 2 ^ 16) numbers → All (λ n. n < 2 ^ 32) values → length numbers ≡ 3 + length game.board.first → length values ≡ length game.variables → ((p : AbstractPlace) → IsPlaceOf game p → numbers_of p ≡ numbers → p.state.values ≡ values → ⊥) → (p : AbstractPlace) → IsPlaceOf game p → bytes ≡ packed_of p → ⊥
packed_none game lawful bytes rest first last numbers values form is parts twos fours small_numbers small_values many_numbers many_values none p fits same =
    let whole : form ∷ rest ≡ packed_of p = sym is ∙ same in
    let tail : rest ≡ flat_map in_two (numbers_of p) ++ flat_map in_four p.state.values = ap (drop 1) whole in
    let both = same_numbers game lawful p fits numbers values small_numbers small_values many_numbers many_values ((λ i. twos i ++ fours i) ∙ (sym parts ∙ tail)) in
    none p fits (sym both.0) (sym both.1)

-- bytes of another form or size are those of no place
pub packed_first : (bytes rest : List ℕ) (form : ℕ) (p : AbstractPlace) → bytes ≡ form ∷ rest → bytes ≡ packed_of p → form ≡ packed_form
packed_first bytes rest form p is same = let whole : form ∷ rest ≡ packed_of p = sym is ∙ same in cc

pub packed_size : (game : AbstractGame) → IsGame game → (bytes rest : List ℕ) (form : ℕ) (p : AbstractPlace) → IsPlaceOf game p → bytes ≡ form ∷ rest → bytes ≡ packed_of p → length rest ≡ 2 * (3 + length game.board.first) + 4 * length game.variables
packed_size game lawful bytes rest form p fits is same =
    let whole : form ∷ rest ≡ packed_of p = sym is ∙ same in
    ap (λ xs. length (drop 1 xs)) whole ∙ length-packed game lawful p fits

-- Numbers of so many bytes each are read from the beginning of these bytes.
pub record ReadSoFar (bytes_of : ℕ → List ℕ) (wide bits : ℕ) (bytes : List ℕ) (index : ℕ) (numbers : List ℕ) : Type 0 where
  pub same : flat_map bytes_of numbers ≡ take (wide * index) bytes
  pub many : length numbers ≡ index
  pub small : All (λ n. n < 2 ^ bits) numbers

pub twos_more : (bytes numbers pushed : List ℕ) (index count number : ℕ) → index < count → length bytes ≡ 2 * count → ReadSoFar in_two 2 16 bytes index numbers → in_two number ≡ slice_index bytes (2 * index) ∷ slice_index bytes (2 * index + 1) ∷ [] → number < 2 ^ 16 → pushed ≡ numbers ++ number ∷ [] → ReadSoFar in_two 2 16 bytes (index + 1) pushed
twos_more bytes numbers pushed index count number within long so two small is =
    let one : take (2 * index + 1) bytes ≡ take (2 * index) bytes ++ get_or bytes (2 * index) 0 ∷ [] = take_more bytes (2 * index) 0 (omega (arith, within, long)) in
    let next : take (2 * index + 1 + 1) bytes ≡ take (2 * index + 1) bytes ++ get_or bytes (2 * index + 1) 0 ∷ [] = take_more bytes (2 * index + 1) 0 (omega (arith, within, long)) in
    let whole : take (2 * index + 1 + 1) bytes ≡ take (2 * index) bytes ++ get_or bytes (2 * index) 0 ∷ get_or bytes (2 * index + 1) 0 ∷ [] =
    next ∙ (ap (λ (xs : List ℕ). xs ++ get_or bytes (2 * index + 1) 0 ∷ []) one ∙ append_assoc (take (2 * index) bytes) (get_or bytes (2 * index) 0 ∷ []) (get_or bytes (2 * index + 1) 0 ∷ []))
    in
    let on : 2 * (index + 1) ≡ 2 * index + 1 + 1 = omega arith in
    let left : flat_map in_two pushed ≡ flat_map in_two numbers ++ (in_two number ++ []) = ap (flat_map in_two) is ∙ flat_map-append in_two numbers (number ∷ []) in
    record {
      same = left ∙ ((λ i. so.same i ++ (two i ++ [])) ∙ sym (ap (λ n. take n bytes) on ∙ whole));
      many = ap length is ∙ (length-append numbers (number ∷ []) ∙ ap (λ n. n + 1) so.many);
      small = subst (All (λ n. n < 2 ^ 16)) (sym is) (All-append (λ n. n < 2 ^ 16) numbers (number ∷ []) so.small (All-cons (λ n. n < 2 ^ 16) number [] small (All-nil (λ n. n < 2 ^ 16))));
    }

four_ends : (front : List ℕ) (a b c d : ℕ) → (((front ++ a ∷ []) ++ b ∷ []) ++ c ∷ []) ++ d ∷ [] ≡ front ++ a ∷ b ∷ c ∷ d ∷ []
four_ends [] a b c d = refl
four_ends (f ∷ front) a b c d = ap (λ (xs : List ℕ). f ∷ xs) (four_ends front a b c d)

pub fours_more : (bytes numbers pushed : List ℕ) (index count number : ℕ) → index < count → length bytes ≡ 4 * count → ReadSoFar in_four 4 32 bytes index numbers → in_four number ≡ slice_index bytes (4 * index) ∷ slice_index bytes (4 * index + 1) ∷ slice_index bytes (4 * index + 2) ∷ slice_index bytes (4 * index + 3) ∷ [] → number < 2 ^ 32 → pushed ≡ numbers ++ number ∷ [] → ReadSoFar in_four 4 32 bytes (index + 1) pushed
fours_more bytes numbers pushed index count number within long so four small is =
    let one : take (4 * index + 1) bytes ≡ take (4 * index) bytes ++ get_or bytes (4 * index) 0 ∷ [] = take_more bytes (4 * index) 0 (omega (arith, within, long)) in
    let two : take (4 * index + 1 + 1) bytes ≡ take (4 * index + 1) bytes ++ get_or bytes (4 * index + 1) 0 ∷ [] = take_more bytes (4 * index + 1) 0 (omega (arith, within, long)) in
    let three : take (4 * index + 2 + 1) bytes ≡ take (4 * index + 2) bytes ++ get_or bytes (4 * index + 2) 0 ∷ [] = take_more bytes (4 * index + 2) 0 (omega (arith, within, long)) in
    let all : take (4 * index + 3 + 1) bytes ≡ take (4 * index + 3) bytes ++ get_or bytes (4 * index + 3) 0 ∷ [] = take_more bytes (4 * index + 3) 0 (omega (arith, within, long)) in
    let to_two : 4 * index + 2 ≡ 4 * index + 1 + 1 = omega arith in
    let to_three : 4 * index + 3 ≡ 4 * index + 2 + 1 = omega arith in
    let on : 4 * (index + 1) ≡ 4 * index + 3 + 1 = omega arith in
    let front : List ℕ = take (4 * index) bytes in
    let upto : take (4 * index + 3 + 1) bytes ≡ front ++ get_or bytes (4 * index) 0 ∷ get_or bytes (4 * index + 1) 0 ∷ get_or bytes (4 * index + 2) 0 ∷ get_or bytes (4 * index + 3) 0 ∷ [] =
    all
    ∙ (ap (λ n. take n bytes ++ get_or bytes (4 * index + 3) 0 ∷ []) to_three
    ∙ (ap (λ (xs : List ℕ). xs ++ get_or bytes (4 * index + 3) 0 ∷ []) three
    ∙ (ap (λ n. (take n bytes ++ get_or bytes (4 * index + 2) 0 ∷ []) ++ get_or bytes (4 * index + 3) 0 ∷ []) to_two
    ∙ (ap (λ (xs : List ℕ). (xs ++ get_or bytes (4 * index + 2) 0 ∷ []) ++ get_or bytes (4 * index + 3) 0 ∷ []) two
    ∙ (ap (λ (xs : List ℕ). ((xs ++ get_or bytes (4 * index + 1) 0 ∷ []) ++ get_or bytes (4 * index + 2) 0 ∷ []) ++ get_or bytes (4 * index + 3) 0 ∷ []) one
    ∙ four_ends front (get_or bytes (4 * index) 0) (get_or bytes (4 * index + 1) 0) (get_or bytes (4 * index + 2) 0) (get_or bytes (4 * index + 3) 0))))))
    in
    let left : flat_map in_four pushed ≡ flat_map in_four numbers ++ (in_four number ++ []) = ap (flat_map in_four) is ∙ flat_map-append in_four numbers (number ∷ []) in
    record {
      same = left ∙ ((λ i. so.same i ++ (four i ++ [])) ∙ sym (ap (λ n. take n bytes) on ∙ upto));
      many = ap length is ∙ (length-append numbers (number ∷ []) ∙ ap (λ n. n + 1) so.many);
      small = subst (All (λ n. n < 2 ^ 32)) (sym is) (All-append (λ n. n < 2 ^ 32) numbers (number ∷ []) so.small (All-cons (λ n. n < 2 ^ 32) number [] small (All-nil (λ n. n < 2 ^ 32))));
    }

pub read_none : (bytes_of : ℕ → List ℕ) (wide bits : ℕ) (bytes : List ℕ) → wide * 0 ≡ 0 → ReadSoFar bytes_of wide bits bytes 0 []
read_none bytes_of wide bits bytes zero_wide = record {
  same = sym (ap (λ n. take n bytes) zero_wide);
  many = refl;
  small = All-nil (λ n. n < 2 ^ bits);
}

pub read_all : (bytes_of : ℕ → List ℕ) (wide bits : ℕ) (bytes : List ℕ) (index : ℕ) (numbers : List ℕ) → ReadSoFar bytes_of wide bits bytes index numbers → length bytes ≡ wide * index → flat_map bytes_of numbers ≡ bytes
read_all bytes_of wide bits bytes index numbers so long = so.same ∙ (ap (λ n. take n bytes) (sym long) ∙ take-length bytes)

-- the first three of some numbers, and the rest
pub three_first : (xs : List ℕ) → 3 ≤ length xs → xs ≡ get_or xs 0 0 ∷ get_or xs 1 0 ∷ get_or xs 2 0 ∷ drop 3 xs
three_first [] some = absurd (omega (arith, some))
three_first (x ∷ []) some = absurd (omega (arith, some))
three_first (x ∷ y ∷ []) some = absurd (omega (arith, some))
three_first (x ∷ y ∷ z ∷ xs) some = refl

-- what holds of what is found, or where nothing is
pub none_there : {X : Type 0} (P : Type 0) (found : Option X) → found ≡ None → IfNone found P → P
none_there {X} P found is none = subst (λ (o : Option X). IfNone o P) is none

pub none_weaker : {X E : Type 0} (P Q : Type 0) (result : Result (Option X) E) → (P → Q) → IfOk result (λ found. IfNone found P) → IfOk result (λ found. IfNone found Q)
none_weaker P Q (Ok (Some x)) weaker none = tt
none_weaker P Q (Ok None) weaker none = weaker none
none_weaker P Q (Err e) weaker none = tt

pub some_there : {X : Type 0} (P : X → Type 0) (found : Option X) (x : X) → found ≡ Some x → IfSome found P → P x
some_there {X} P found x is some = subst (λ (o : Option X). IfSome o P) is some

-- digits of packed bytes decode to these alone
pub other_digits : (text bytes : List ℕ) (place : AbstractPlace) → decode_of text ≡ Ok bytes → text ≡ packed_text place → bytes ≡ packed_of place
other_digits text bytes place decoded is =
    decode_of-same text bytes (packed_of place) decoded (ap decode_of is ∙ decode_of-encode_lower (packed_of place) (packed_bytes place))

pub not_digits : (text bytes : List ℕ) (error : FromHexError) → (error ≡ OutOfMemory) ⊎ (decode_of text ≡ Err error) → (error ≡ OutOfMemory → ⊥) → IsBytes bytes → text ≡ encode_lower bytes → ⊥
not_digits text bytes error why not_memory are is =
    elim why [
      | inl memory ↦ not_memory memory
      | inr refused ↦
          let apart : ◌≡◌ {A = Result (List ℕ) FromHexError} (Ok bytes) (Err error) = sym (ap decode_of is ∙ decode_of-encode_lower bytes are) ∙ refused in
          cc
    ]
