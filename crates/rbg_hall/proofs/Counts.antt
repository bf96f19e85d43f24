-- What a table hears doesn't depend on how many tables there are.
use Rattle.rbg_base.proofs.Common.{◌≡◌, ℕ, zero, suc, ◌<◌, ◌≤◌, ◌^◌, List, [], ◌∷◌, ◌++◌, map, Bool, true, false, refl, sym, ap, ◌∙◌, arith, Option, Some, None, inl, inr, decimal_injective, decimal, nat_lt, if◌then◌else◌}
use Rattle.std.proofs.lemmas.Bool.{true≢false, eq-eqb, ne_eqb, cases_lt}
use Rattle.rbg_wire.proofs.Common.{join_message, message_text, Item, complete, too_long, Rest, Cut, cut}
use Rattle.rbg_match.specs.Limits.{message_limit}
use Rattle.rbg_hall.proofs.TableCommon.{lines_in_all, joins, arrives, says, leaves}
use Rattle.rbg_hall.proofs.Common.{concerning, asking, line_cut, has_ended, stream_of, line_after, heard_first, heard_of, heard_of_piece, heard_of_end, own_after, own, is_request, is_for, requested}
use Rattle.rbg_script.specs.Events.{AbstractEvent, piece, end_of_stream, moment_alone}
use Rattle.rbg_hall.proofs.Apart.{others_are_unheard}
use Rattle.rbg_hall.proofs.Growing.{by_test, standing}
use Rattle.rbg_hall.proofs.Requesting.{requested_within, same_text}

-- a text asks for one table
text_of_one : (a b : ℕ) → a < 2 ^ 64 → b < 2 ^ 64 → message_text (join_message a) ≡ message_text (join_message b) → a ≡ b
unfolding message_text
text_of_one a b small small' same = decimal_injective a b small small' (beyond (decimal a) (decimal b) same)
  where
    beyond : (xs ys : List ℕ) → 72 ∷ xs ≡ 72 ∷ ys → xs ≡ ys
    beyond xs ys is = cc

one_request : (a b : ℕ) (item : Item) → a < 2 ^ 64 → b < 2 ^ 64 → is_request a item ≡ true → is_request b item ≡ true → a ≡ b
one_request a b (complete text) small small' asked asked' = text_of_one a b small small' (sym (same_text text (message_text (join_message a)) asked) ∙ same_text text (message_text (join_message b)) asked')
one_request a b too_long small small' asked asked' = absurd (true≢false (sym asked))

-- whether a table that is there is asked for
asked : (tables table : ℕ) (item : Item) → tables < 2 ^ 64 → 1 ≤ table → table ≤ tables → is_for table (requested tables item) ≡ is_request table item
unfolding requested
asked zero table item small some within = absurd (omega arith)
asked (suc tables) table item small some within = by_test (is_request (suc tables) item)
    (λ test. rw test (elim (cases_lt table (suc tables)) [
      | inl less ↦ ne_eqb (suc tables) table (λ same. omega (arith, same, less)) ∙ sym (not_this test less)
      | inr last ↦ (let same : suc tables ≡ table = omega arith in eq-eqb (suc tables) table same ∙ sym (ap (λ one. is_request one item) (sym same) ∙ test))
    ]))
    (λ test. rw test (elim (cases_lt table (suc tables)) [
      | inl less ↦ asked tables table item (omega arith) some (omega arith)
      | inr last ↦ (let same : suc tables ≡ table = omega arith in nobody same (requested tables item) refl ∙ sym (ap (λ one. is_request one item) (sym same) ∙ test))
    ]))
  where
    not_this : is_request (suc tables) item ≡ true → table < suc tables → is_request table item ≡ false
    not_this test less = by_test (is_request table item)
        (λ also. (let same : suc tables ≡ table = one_request (suc tables) table item small (omega arith) test also in absurd (omega arith)))
        (λ none. none)

    nobody : suc tables ≡ table → (one : Option ℕ) → requested tables item ≡ one → is_for table one ≡ false
    nobody last None is = refl
    nobody last (Some other) is = (let found = requested_within tables item other is in ne_eqb other table (λ same. omega (arith, same, found.1, last)))

-- a line that asks for a table, in what it sends and where it ends
piece_of : (tables table line at : ℕ) (one : Option ℕ) (rest : Rest) (bytes : List ℕ) → heard_of_piece tables table (asking one rest) line at bytes ≡ (if is_for table one then arrives line at ∷ map (says line at) (cut message_limit rest bytes).items else [])
piece_of tables table line at (Some other) rest bytes = refl
piece_of tables table line at None rest bytes = refl

end_of : (table line at : ℕ) (one : Option ℕ) (rest : Rest) → heard_of_end table (asking one rest) line at ≡ (if is_for table one then leaves line at ∷ [] else [])
end_of table line at (Some other) rest = refl
end_of table line at None rest = refl

-- of two numbers of tables, each of which has this one
module _ (count count' table : ℕ) (small : count < 2 ^ 64) (small' : count' < 2 ^ 64) (some : 1 ≤ table) (within : table ≤ count) (within' : table ≤ count') where
  same_asked : (item : Item) → is_for table (requested count item) ≡ is_for table (requested count' item)
  same_asked item = asked count table item small some within ∙ sym (asked count' table item small' some within')

  same_first : (line at : ℕ) (items : List Item) → heard_first count table line at items ≡ heard_first count' table line at items
  same_first line at [] = refl
  same_first line at (item ∷ items) = ap (λ test. if test then joins line at ∷ map (says line at) items else []) (same_asked item)

  same_cut : (line at : ℕ) (items : List Item) (rest : Rest) (bytes : List ℕ) → heard_of_piece count table (line_cut count items rest) line at bytes ≡ heard_of_piece count' table (line_cut count' items rest) line at bytes
  same_cut line at [] rest bytes = same_first line at (cut message_limit rest bytes).items
  same_cut line at (item ∷ items) rest bytes =
      piece_of count table line at (requested count item) rest bytes
      ∙ ap (λ test. if test then arrives line at ∷ map (says line at) (cut message_limit rest bytes).items else []) (same_asked item)
      ∙ sym (piece_of count' table line at (requested count' item) rest bytes)

  same_end : (line at : ℕ) (items : List Item) (rest : Rest) → heard_of_end table (line_cut count items rest) line at ≡ heard_of_end table (line_cut count' items rest) line at
  same_end line at [] rest = refl
  same_end line at (item ∷ items) rest =
      end_of table line at (requested count item) rest
      ∙ ap (λ test. if test then leaves line at ∷ [] else []) (same_asked item)
      ∙ sym (end_of table line at (requested count' item) rest)

  piece_same : (line at : ℕ) (ended there : Bool) (c : Cut) (bytes : List ℕ) → heard_of_piece count table (standing ended there count c) line at bytes ≡ heard_of_piece count' table (standing ended there count' c) line at bytes
  piece_same line at true there c bytes = refl
  piece_same line at false true c bytes = same_cut line at c.items c.rest bytes
  piece_same line at false false c bytes = refl

  end_same : (line at : ℕ) (ended there : Bool) (c : Cut) → heard_of_end table (standing ended there count c) line at ≡ heard_of_end table (standing ended there count' c) line at
  end_same line at true there c = refl
  end_same line at false true c = same_end line at c.items c.rest
  end_same line at false false c = refl

  same_heard : (before : List AbstractEvent) (event : AbstractEvent) → heard_of count table (λ line. line_after count line before) event ≡ heard_of count' table (λ line. line_after count' line before) event
  same_heard before (piece line at bytes) = piece_same line at (has_ended line before) (nat_lt line lines_in_all) (stream_of line before) bytes
  same_heard before (end_of_stream line at) = end_same line at (has_ended line before) (nat_lt line lines_in_all) (stream_of line before)
  same_heard before (moment_alone at) = refl

  same_beyond : (before events : List AbstractEvent) → own_after count table before events ≡ own_after count' table before events
  same_beyond before [] = refl
  same_beyond before (event ∷ events) = λ i. same_heard before event i ++ same_beyond (before ++ event ∷ []) events i

  -- two lists of events that agree on what concerns a table are the same to it
  pub same_own : (events elsewhere : List AbstractEvent) → concerning count table events ≡ concerning count' table elsewhere → own count table events ≡ own count' table elsewhere
  same_own events elsewhere same =
      sym (others_are_unheard count table events)
      ∙ same_beyond [] (concerning count table events)
      ∙ ap (own count' table) same
      ∙ others_are_unheard count' table elsewhere
