-- The names of the standard library that most proofs cite, passed on from one place. Declares nothing.
pub use Rattle.std.proofs.Common.{◌≡◌, ℕ, zero, suc, ◌+◌, ◌-◌, ◌*◌, ◌/◌, ◌%◌, ◌^◌, ◌<◌, ◌≤◌, min, max, Bool, true, false, cond, not, ◌&&◌, ◌||◌, ◌≢◌, ◌⊎◌, ◌↔◌, List, [], ◌∷◌, ◌++◌, map, reverse, length, get_or, take, drop, set, replicate, ℤ, pos, negsuc, is_some, is_none, SomeIff, IsSomeAnd, IfSome, IfNone, is_ok, is_err, IsOkAnd, IsErrAnd, IfOk, IfErr, if◌then◌else◌, OnOk, OnErr, IsSome, IsOk, IsErr, IsTrue, nat_eq, nat_lt, nat_le, ◌==◌, slice_get, slice_index, slice_index_or, slice_set, slice_range, bit_and, bit_or, count_ones, int_div, FitsSigned, Some, None, Ok, Err, vec_len, codes, IsUtf8, decimal, Decides, MatchBool, fold, All, Contains, sum_by, sum, count_by, filter, Option, Result, Vec, String, Box, MatchOption, option_map, MatchResult, swap, IsPermutation, IsSorted, Any, AllPairs, position, find, flat_map, option_copied, IsErrOf, bytes_eq, nat_cmp, is_eq, Ordering, Global, BTreeMap, unwrap_or, sym, refl, ap, ◌∙◌, subst, inl, inr, append_assoc, append-nil, zero-le, add-zero, add_comm, zero-add, add-one, arith, length-append, length-drop, take-append-drop, length-take, length-take-le, get_or-drop, drop-cons, get_or-take, drop_at, w64, Bor, rules, below_more, eq-eqb}
pub use Rattle.std.proofs.Math.Nat.{le-max_left, le-max_right, max-eq_left, max-le, min-le_right}
pub use Rattle.std.proofs.Math.Seq.{drop-append_seam, drop-nil, get_or-append_seam, take-append-add, take-append_seam, take-length}
pub use Rattle.std.proofs.lemmas.Bool.{and_parts, cases_eq, cases_lt, cases_order, eqb-false, false_from_ne_true, false≢true, or_parts}
pub use Rattle.std.proofs.lemmas.Bool.Decides.{Decides-eqb, Decides-or, leb_tells, nat_tests}
pub use Rattle.std.proofs.lemmas.Fmt.{IsAscii-from_digits, decimal-digits_value, decimal_digit, decimal_injective, decimal_nonempty, digits_decimal, digits_value-decimal, first_decimal, length-decimal-le}
pub use Rattle.std.proofs.lemmas.Grind.{common_steps, flat_map-append, get_or-set_at}
pub use Rattle.std.proofs.lemmas.List.{drop-append-le, drop-map, drop_all, drop_more, flat_map_more, get_or-map, get_or-replicate, get_or_append_left, get_or_default, get_or_past, get_or_push, get_or_read, length-map, length-replicate, length_push, map-append, map-set, map_more, nil_from_length, replicate-append-replicate, same_lists, set-get_or, set_past, take-append-le, take-map, take_more, take_rest, with_items_is}
pub use Rattle.std.proofs.lemmas.List.Elements.{All-append, All-cons, All-contains, All-contains_itself, All-drop, All-from_get_or, All-get_or, All-head, All-map, All-more, All-nil, All-pop, All-push, All-replicate, All-same, All-set, All-tail, All-take, All-weaker, Contains-append_cases, Contains-append_left, Contains-append_right, Contains-get_or, Contains-push, Contains-push_cases, filter-append, same_from_all_zip}
pub use Rattle.std.proofs.lemmas.List.Sums.{AllPass-from_list_all, count_by_more_no, count_by_more_yes, fold-append, fold_more, fold_push, prefix_len-le-length, prefix_len_stops, sum_by-append, sum_by-le, sum_by-set, sum_by-take-le, sum_by_push}
pub use Rattle.std.proofs.lemmas.Nat.{and_le_l, and_mask, div-mul-add, le_or_r, mod-mul-add, mul-add-lt, mul-le, ones_le_self, or_disjoint, or_lt, row_fits}
pub use Rattle.std.proofs.lemmas.Nat.Bits.{bit_at-lt, bit_at-suc, bit_at-trailing_zeros, bit_at-zero, bit_at_above, bit_at_and, bit_at_clear_other, bit_at_clear_same, bit_at_lowest, bit_at_not, bit_at_or, bit_at_set_other, bit_at_set_same, same_from_bits, shr_and_one}
pub use Rattle.std.proofs.lemmas.Option.{IfSome_then, get_or_from_slice_get, none-some, same_Some, slice_get-get_or, slice_get-map, slice_get_cases, slice_get_past, slice_get_read, slice_get_within, unwrap_or-slice_get}
pub use Rattle.std.proofs.lemmas.Result.{IfErr-at_err, IfErr-weaker, IfOk-at_ok, IfOk-from_err, IfOk-weaker, MatchResult-weaker, err_from_is_err_and, on_err_weaker, on_ok_weaker}
pub use Rattle.std.proofs.lemmas.Slice.Eq.{bytes_eq-Decides, slice_eq-Decides}
pub use Rattle.std.specs.Int.{CanDivide, bit_at, bit_not, trailing_zeros}
pub use Rattle.std.specs.List.{AllByRecursion, AllZip, IsDistinct, concat, enumerate_from, join_with_byte, last_or, list_all, list_any, position_or_len, prefix_len, range_with_len}
pub use native.Mathlib.Decide.{ℕ_discrete}
