-- Which table an item asks for.
use Rattle.rbg_base.proofs.Common.{rules, ◌≡◌, ◌≢◌, ℕ, zero, suc, ◌+◌, ◌-◌, ◌<◌, ◌≤◌, ◌^◌, List, true, false, refl, sym, ap, ◌∙◌, arith, Option, Some, None, inl, inr, none-some, bytes_eq-Decides, ◌&&◌, nat_le, IfSome, option_map, bytes_eq, if◌then◌else◌}
use Rattle.std.proofs.lemmas.Bool.{true≢false, cases_lt, le-leb, lt-leb}
use Rattle.rbg_wire.proofs.Common.{join_message, message_text, Item, complete, too_long}
use Rattle.rbg_hall.proofs.Common.{is_request, requested, index_within}
use Rattle.rbg_hall.proofs.Growing.{by_test}

-- a table that is asked for is there
pub requested_within : (tables : ℕ) (item : Item) (table : ℕ) → requested tables item ≡ Some table → (1 ≤ table) × (table ≤ tables)
unfolding requested
requested_within zero item table asked = absurd (none-some table asked)
requested_within (suc tables) item table asked = by_test (is_request (suc tables) item)
    (λ test. (let same : suc tables ≡ table = here (rw test at asked) in (omega arith, omega arith)))
    (λ test. (let found = requested_within tables item table (rw test at asked) in (found.0, omega arith)))
  where
    here : Some (suc tables) ≡ Some table → suc tables ≡ table
    here is = cc

pub within_tables : (tables index : ℕ) (item : Item) → requested tables item ≡ Some (index + 1) → index < tables
within_tables tables index item asked = omega (arith, requested_within tables item (index + 1) asked)

pub same_text : (a b : List ℕ) → bytes_eq a b ≡ true → a ≡ b
same_text a b test = search (rules, bytes_eq-Decides)

eq_text : (a b : List ℕ) → a ≡ b → bytes_eq a b ≡ true
eq_text a b same = search (rules, bytes_eq-Decides)

-- the text is that of one table
module _ (text : List ℕ) (found : Option ℕ) (only : (table : ℕ) → table < 2 ^ 64 → text ≡ message_text (join_message table) → found ≡ Some table) where
  none_requested : (tables : ℕ) → tables < 2 ^ 64 → ((table : ℕ) → 1 ≤ table → table ≤ tables → found ≢ Some table) → requested tables (complete text) ≡ None
  unfolding requested
  none_requested zero small none = refl
  none_requested (suc tables) small none = by_test (is_request (suc tables) (complete text))
      (λ test. absurd (none (suc tables) (omega arith) (omega arith) (only (suc tables) small (same_text text (message_text (join_message (suc tables))) test))))
      (λ test. rw test (none_requested tables (omega arith) (λ table some within. none table some (omega arith))))

  one_requested : (tables table : ℕ) → tables < 2 ^ 64 → found ≡ Some table → text ≡ message_text (join_message table) → 1 ≤ table → table ≤ tables → requested tables (complete text) ≡ Some table
  unfolding requested
  one_requested zero table small is spelt some within = absurd (omega arith)
  one_requested (suc tables) table small is spelt some within = by_test (is_request (suc tables) (complete text))
      (λ test. (let same : suc tables ≡ table = one (sym (only (suc tables) small (same_text text (message_text (join_message (suc tables))) test)) ∙ is) in rw test (ap Some same)))
      (λ test. rw test (one_requested tables table (omega arith) is spelt some (omega (arith, less test))))
    where
      one : {a b : ℕ} → Some a ≡ Some b → a ≡ b
      one it = cc

      less : is_request (suc tables) (complete text) ≡ false → table ≢ suc tables
      less test same = true≢false (sym (eq_text text (message_text (join_message (suc tables))) (spelt ∙ ap (λ n. message_text (join_message n)) same)) ∙ test)

both_le : (table tables : ℕ) → (nat_le 1 table && nat_le table tables) ≡ true → (1 ≤ table) × (table ≤ tables)
both_le table tables test = elim (cases_lt table 1) [
  | inl less ↦ absurd (true≢false (sym test ∙ ap (λ one. one && nat_le table tables) (lt-leb 1 table less)))
  | inr some ↦ elim (cases_lt tables table) [
    | inl past ↦ absurd (true≢false (sym (ap (λ one. one && nat_le table tables) (sym (le-leb 1 table some)) ∙ test) ∙ lt-leb table tables past))
    | inr within ↦ (some, within)
  ]
]

not_both : (table tables : ℕ) → (nat_le 1 table && nat_le table tables) ≡ false → 1 ≤ table → table ≤ tables → ⊥
not_both table tables test some within = true≢false (sym (le-leb table tables within) ∙ ap (λ one. one && nat_le table tables) (sym (le-leb 1 table some)) ∙ test)

pub requested_of : (text : List ℕ) (found : Option ℕ) (tables : ℕ) → tables < 2 ^ 64 → IfSome found (λ table. text ≡ message_text (join_message table)) → ((table : ℕ) → table < 2 ^ 64 → text ≡ message_text (join_message table) → found ≡ Some table) → option_map (λ (index : ℕ). index + 1) (index_within found tables) ≡ requested tables (complete text)
requested_of text None tables small spelt only = sym (none_requested text None only tables small (λ table some within same. none-some table same))
requested_of text (Some table) tables small spelt only = by_test (nat_le 1 table && nat_le table tables)
    (λ test.
    let within : (1 ≤ table) × (table ≤ tables) = both_le table tables test in
    ap (λ one. option_map (λ (index : ℕ). index + 1) (if one then Some (table - 1) else None)) test ∙ ap Some (back table within.0) ∙ sym (one_requested text (Some table) only tables table small refl spelt within.0 within.1))
    (λ test. ap (λ one. option_map (λ (index : ℕ). index + 1) (if one then Some (table - 1) else None)) test
    ∙ sym (none_requested text (Some table) only tables small (λ other some within same. not_both table tables test (rw (one (sym same)) at some) (rw (one (sym same)) at within))))
  where
    back : (n : ℕ) → 1 ≤ n → (n - 1) + 1 ≡ n
    back n some = omega arith

    one : {a b : ℕ} → Some a ≡ Some b → a ≡ b
    one it = cc

pub too_long_requests : (tables : ℕ) → None ≡ requested tables too_long
unfolding requested
too_long_requests zero = refl
too_long_requests (suc tables) = too_long_requests tables
