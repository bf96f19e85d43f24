-- What a piece of a line leads to.
use Rattle.std.proofs.Common.{◌≡◌, ℕ, ◌+◌, ◌<◌, List, [], ◌∷◌, ◌++◌, length, map, set, get_or, refl, sym, ap, ◌∙◌, subst, append-nil, arith, Some, None, slice_get, if◌then◌else◌, flat_map}
use Rattle.std.proofs.lemmas.Bool.{eq-eqb, ne_eqb}
use Rattle.rbg_wire.specs.declared.message.Reason.TheVariants.{NoSeat}
use Rattle.std.proofs.lemmas.List.Elements.{All-tail}
use Rattle.rbg_wire.specs.Streams.{IsRest, Item, Rest, Stream, cut, with_bytes, without_first}
use Rattle.rbg_wire.specs.Whole.{IsCutAlone}
use Rattle.rbg_wire.proofs.LawLemmas.{rests}
use Rattle.rbg_wire.proofs.WholeLemmas.{cut_again}
use Rattle.rbg_match.specs.Limits.{message_limit}
use Rattle.rbg_hall.proofs.TableCommon.{joins, arrives, says, leaves, refusal_to, told_to}
use Rattle.rbg_hall.specs.Kept.{KeptHearsFor, KeptState}
use Rattle.rbg_hall.proofs.Common.{First, refused_for, refused_first, silent, asks, over, asking, line_cut, heard_first, heard_of_piece, heard_of_end, requested, is_for, IsFirst, IsTaken, HearsEachFor, PieceHeard, TablesHear, AreWhole, IsEmptied}
use Rattle.rbg_hall.specs.declared.hearing.First.TheVariants.{Nothing, Table, NoTable}
use Rattle.rbg_hall.specs.internal.First as first
use Rattle.rbg_hall.proofs.Taking.{first_and_others, nothing_first, nothing_heard, one_heard}
use Rattle.rbg_hall.proofs.Ticking.{one_table, no_table as nobody_hears, silence, silent as silence_tells, none_hear}

-- an emptied inbox that these bytes were fed
pub record IsFed (rest : Rest) (bytes : List ℕ) (fed : Stream) : Type 0 where
  pub limit : fed.limit ≡ message_limit
  pub items : fed.items ≡ (cut message_limit rest bytes).items
  pub left : fed.rest ≡ (cut message_limit rest bytes).rest
  pub was_short : IsRest message_limit rest

pub fed_by : (inbox fed : Stream) (bytes : List ℕ) → IsEmptied inbox → fed ≡ with_bytes inbox bytes → IsFed inbox.rest bytes fed
fed_by inbox fed bytes emptied is = record {
  limit = ap (λ (s : Stream). s.limit) is ∙ emptied.limit;
  items = ap (λ (s : Stream). s.items) is ∙ (λ i. emptied.empty i ++ (cut (emptied.limit i) inbox.rest bytes).items);
  left = ap (λ (s : Stream). s.rest) is ∙ ap (λ limit. (cut limit inbox.rest bytes).rest) emptied.limit;
  was_short = emptied.short;
}

-- what it completed are items of a stream, and so are those after the first; what is left is a rest
pub fed_whole : {rest : Rest} {bytes : List ℕ} {fed : Stream} → IsFed rest bytes fed → AreWhole fed.items
fed_whole {rest} {bytes} fills = subst AreWhole (sym fills.items) (cut_again message_limit rest bytes fills.was_short)

pub others_whole : {rest : Rest} {bytes : List ℕ} {fed new : Stream} {item : Item} → IsFed rest bytes fed → (taken : IsTaken fed new item) → AreWhole new.items
others_whole {item = item} fills taken =
    subst AreWhole (sym (ap (λ (s : Stream). s.items) taken.left)) (All-tail (IsCutAlone message_limit) item taken.others (subst AreWhole taken.items (fed_whole fills)))

pub fed_short : {rest : Rest} {bytes : List ℕ} {fed : Stream} (left : Rest) → IsFed rest bytes fed → left ≡ fed.rest → IsRest message_limit left
fed_short {rest} {bytes} left fills is = subst (IsRest message_limit) (sym (is ∙ fills.left)) (rests message_limit rest bytes fills.was_short)

-- the first item is taken
pub taken_first : (old new : Stream) (item : Item) → Some item ≡ slice_get old.items 0 → new ≡ without_first old → IsTaken old new item
taken_first old new item found loses = record { others = _; items = first_and_others old.items item (sym found); left = loses }

pub first_nothing : (tables : ℕ) (old new : Stream) → None ≡ slice_get old.items 0 → new ≡ without_first old → IsFirst tables old new Nothing
first_nothing tables old new found loses =
    let empty : old.items ≡ [] = nothing_first old.items (sym found) in
    first.nothing empty (loses ∙ same old.items empty)
  where
    same : (items : List Item) → items ≡ [] → without_first (record old { items = items }) ≡ record old { items = items }
    same [] is = refl
    same (item ∷ items) is = cc

pub first_table : (tables index : ℕ) (old new : Stream) (item : Item) → Some item ≡ slice_get old.items 0 → new ≡ without_first old → Some (index + 1) ≡ requested tables item → index < tables → IsFirst tables old new (Table index)
first_table tables index old new item found loses asked within = first.table item (taken_first old new item found loses) (sym asked) within

pub first_no_table : (tables : ℕ) (old new : Stream) (item : Item) → Some item ≡ slice_get old.items 0 → new ≡ without_first old → None ≡ requested tables item → IsFirst tables old new NoTable
first_no_table tables old new item found loses asked = first.no_table item (taken_first old new item found loses) (sym asked)

-- what was asked for
pub record AsksTable (tables : ℕ) (old new : Stream) (index : ℕ) : Type 0 where
  pub item : Item
  pub taken : IsTaken old new item
  pub asked : requested tables item ≡ Some (index + 1)
  pub within : index < tables

pub record AsksNone (tables : ℕ) (old new : Stream) : Type 0 where
  pub item : Item
  pub taken : IsTaken old new item
  pub asked : requested tables item ≡ None

pub record AsksNothing (old new : Stream) : Type 0 where
  pub empty : old.items ≡ []
  pub same : new ≡ old

pub asks_table : {tables : ℕ} {old new : Stream} {first : First} (index : ℕ) → IsFirst tables old new first → first ≡ Table index → AsksTable tables old new index
asks_table index (first.nothing empty same) is = cc
asks_table {tables} {old} {new} index (first.table {index = other} item taken asked within) is =
    subst (AsksTable tables old new) (same is) (record { item = item; taken = taken; asked = asked; within = within })
  where
    same : Table other ≡ Table index → other ≡ index
    same it = cc
asks_table index (first.no_table item taken asked) is = cc

pub asks_none : {tables : ℕ} {old new : Stream} {first : First} → IsFirst tables old new first → first ≡ NoTable → AsksNone tables old new
asks_none (first.nothing empty same) is = cc
asks_none (first.table item taken asked within) is = cc
asks_none (first.no_table item taken asked) is = record { item = item; taken = taken; asked = asked }

pub asks_nothing : {tables : ℕ} {old new : Stream} {first : First} → IsFirst tables old new first → first ≡ Nothing → AsksNothing old new
asks_nothing (first.nothing empty same) is = record { empty = empty; same = same }
asks_nothing (first.table item taken asked within) is = cc
asks_nothing (first.no_table item taken asked) is = cc

-- what stands of such a line is ready
pub ready_nothing : {rest : Rest} {bytes : List ℕ} {fed new : Stream} → IsFed rest bytes fed → AsksNothing fed new → IsEmptied new
ready_nothing fills request = record {
  limit = ap (λ (s : Stream). s.limit) request.same ∙ fills.limit;
  empty = ap (λ (s : Stream). s.items) request.same ∙ request.empty;
  short = fed_short _ fills (ap (λ (s : Stream). s.rest) request.same);
}

pub ready_table : {rest : Rest} {bytes : List ℕ} {fed taken joined : Stream} {tables index : ℕ} → IsFed rest bytes fed → AsksTable tables fed taken index → joined ≡ record taken { items = [] } → IsEmptied joined × (index < tables)
ready_table fills request left = (
  record {
    limit = ap (λ (s : Stream). s.limit) left ∙ ap (λ (s : Stream). s.limit) request.taken.left ∙ fills.limit;
    empty = ap (λ (s : Stream). s.items) left;
    short = fed_short _ fills (ap (λ (s : Stream). s.rest) left ∙ ap (λ (s : Stream). s.rest) request.taken.left);
  },
  request.within,
)

pub ready_again : {rest : Rest} {bytes : List ℕ} {fed left : Stream} {tables index : ℕ} → IsFed rest bytes fed → index < tables → left ≡ record fed { items = [] } → IsEmptied left × (index < tables)
ready_again fills within empties = (
  record {
    limit = ap (λ (s : Stream). s.limit) empties ∙ fills.limit;
    empty = ap (λ (s : Stream). s.items) empties;
    short = fed_short _ fills (ap (λ (s : Stream). s.rest) empties);
  },
  within,
)

-- A line that has completed nothing, or asks for no table: no table hears it.
module _ {W : Type 0} {tells : W → List ℕ → Type 0} (olds : List (KeptState W)) (line at : ℕ) (rest : Rest) (bytes : List ℕ) where
  pub heard_nothing : (new fed : Stream) (queues : List (List ℕ)) → IsFed rest bytes fed → AsksNothing fed new → PieceHeard tells olds (silent rest) line at bytes olds (silent new.rest) queues queues
  heard_nothing new fed queues fills request =
      let none : (cut message_limit rest bytes).items ≡ [] = sym fills.items ∙ request.empty in
      let hear = nobody_hears {tells = tells} {heard = λ (number : ℕ). heard_of_piece (length olds) number (silent rest) line at bytes} olds queues (λ index. ap (heard_first (length olds) (index + 1) line at) none) in
      record {
        told = hear.told;
        tables = hear.tables;
        stands = ap silent (ap (λ (s : Stream). s.rest) request.same ∙ fills.left) ∙ ap (λ items. line_cut (length olds) items (cut message_limit rest bytes).rest) (sym none);
        queued = hear.queued ∙ ap (λ first. told_to queues (first ++ flat_map (λ one. one) hear.told)) (ap (refused_first (length olds) line) (sym none));
      }

  pub heard_no_table : (new fed : Stream) (before after : List (List ℕ)) → IsFed rest bytes fed → AsksNone (length olds) fed new → after ≡ told_to before (refusal_to line NoSeat) → PieceHeard tells olds (silent rest) line at bytes olds over before after
  heard_no_table new fed before after fills request told =
      let some : (cut message_limit rest bytes).items ≡ request.item ∷ request.taken.others = sym fills.items ∙ request.taken.items in
      record {
        told = silence olds;
        tables = none_hear (λ (number : ℕ). heard_of_piece (length olds) number (silent rest) line at bytes) 1 olds
            (λ index. ap (heard_first (length olds) (1 + index) line at) some ∙ ap (λ asked. if is_for (1 + index) asked then joins line at ∷ map (says line at) request.taken.others else []) request.asked);
        stands = sym (ap (λ items. line_cut (length olds) items (cut message_limit rest bytes).rest) some ∙ ap (λ asked. asking asked (cut message_limit rest bytes).rest) request.asked);
        queued = told ∙ ap (told_to before) (sym (append-nil (refusal_to line NoSeat)) ∙ (λ i. sym (ap (refused_first (length olds) line) some ∙ ap (refused_for line) request.asked) i ++ sym (silence_tells olds) i));
      }

  pub heard_table : (index : ℕ) (new left fed : Stream) (old now : KeptState W) (before after : List (List ℕ)) → IsFed rest bytes fed → AsksTable (length olds) fed new index → old ≡ get_or olds index old → HearsEachFor tells old (joins line at ∷ map (says line at) new.items) now before after → left ≡ record new { items = [] } → PieceHeard tells olds (silent rest) line at bytes (set olds index now) (asks (index + 1) left.rest) before after
  heard_table index new left fed old now before after fills request found hears empties =
      let others = request.taken.others in
      let some : (cut message_limit rest bytes).items ≡ request.item ∷ others = sym fills.items ∙ request.taken.items in
      let same : new.items ≡ others = ap (λ (s : Stream). s.items) request.taken.left in
      let hear = one_table {tells = tells} {heard = λ (number : ℕ). heard_of_piece (length olds) number (silent rest) line at bytes} {events = joins line at ∷ map (says line at) new.items} olds index old now found request.within hears
      (ap (heard_first (length olds) (index + 1) line at) some
      ∙ ap (λ asked. if is_for (index + 1) asked then joins line at ∷ map (says line at) others else []) request.asked
      ∙ ap (λ test. if test then joins line at ∷ map (says line at) others else []) (eq-eqb (index + 1) (index + 1) refl)
      ∙ ap (λ items. joins line at ∷ map (says line at) items) (sym same))
      (λ other differ.
      ap (heard_first (length olds) (other + 1) line at) some
      ∙ ap (λ asked. if is_for (other + 1) asked then joins line at ∷ map (says line at) others else []) request.asked
      ∙ ap (λ test. if test then joins line at ∷ map (says line at) others else []) (ne_eqb (index + 1) (other + 1) (λ equal. differ (less other index equal)))) in
      record {
        told = hear.told;
        tables = hear.tables;
        stands =
            ap (λ rest. asks (index + 1) rest) (ap (λ (s : Stream). s.rest) empties ∙ ap (λ (s : Stream). s.rest) request.taken.left ∙ fills.left)
            ∙ sym (ap (λ items. line_cut (length olds) items (cut message_limit rest bytes).rest) some ∙ ap (λ asked. asking asked (cut message_limit rest bytes).rest) request.asked);
        queued = hear.queued ∙ ap (λ first. told_to before (first ++ flat_map (λ one. one) hear.told)) (sym (ap (refused_first (length olds) line) some ∙ ap (refused_for line) request.asked));
      }
    where
      less : (n m : ℕ) → m + 1 ≡ n + 1 → n ≡ m
      less n m equal = omega arith

  pub heard_again : (index : ℕ) (left fed : Stream) (old now : KeptState W) (before after : List (List ℕ)) → index < length olds → IsFed rest bytes fed → old ≡ get_or olds index old → HearsEachFor tells old (arrives line at ∷ map (says line at) fed.items) now before after → left ≡ record fed { items = [] } → PieceHeard tells olds (asks (index + 1) rest) line at bytes (set olds index now) (asks (index + 1) left.rest) before after
  heard_again index left fed old now before after within fills found hears empties =
      let items = (cut message_limit rest bytes).items in
      let hear = one_table {tells = tells} {heard = λ (number : ℕ). heard_of_piece (length olds) number (asks (index + 1) rest) line at bytes} {events = arrives line at ∷ map (says line at) fed.items} olds index old now found within hears
      (ap (λ test. if test then arrives line at ∷ map (says line at) items else []) (eq-eqb (index + 1) (index + 1) refl)
      ∙ ap (λ all. arrives line at ∷ map (says line at) all) (sym fills.items))
      (λ other differ. ap (λ test. if test then arrives line at ∷ map (says line at) items else []) (ne_eqb (index + 1) (other + 1) (λ equal. differ (less other index equal)))) in
      record {
        told = hear.told;
        tables = hear.tables;
        stands = ap (λ rest. asks (index + 1) rest) (ap (λ (s : Stream). s.rest) empties ∙ fills.left);
        queued = hear.queued;
      }
    where
      less : (n m : ℕ) → m + 1 ≡ n + 1 → n ≡ m
      less n m equal = omega arith

  pub heard_over : (queues : List (List ℕ)) → PieceHeard tells olds over line at bytes olds over queues queues
  heard_over queues =
      let hear = nobody_hears {tells = tells} {heard = λ (number : ℕ). heard_of_piece (length olds) number over line at bytes} olds queues (λ index. refl) in
      record { told = hear.told; tables = hear.tables; stands = refl; queued = hear.queued }

-- the end of a line
pub end_of_asking : {W : Type 0} {tells : W → List ℕ → Type 0} (olds : List (KeptState W)) (line at index : ℕ) (rest : Rest) (old now : KeptState W) (before after : List (List ℕ)) → index < length olds → old ≡ get_or olds index old → KeptHearsFor tells old (leaves line at) now before after → TablesHear tells (λ (number : ℕ). heard_of_end number (asks (index + 1) rest) line at) olds (set olds index now) before after
end_of_asking olds line at index rest old now before after within found hears =
    one_table {heard = λ (number : ℕ). heard_of_end number (asks (index + 1) rest) line at} {events = leaves line at ∷ []} olds index old now found within (one_heard (nothing_heard _ old before) hears)
    (ap (λ test. if test then leaves line at ∷ [] else []) (eq-eqb (index + 1) (index + 1) refl))
    (λ other differ. ap (λ test. if test then leaves line at ∷ [] else []) (ne_eqb (index + 1) (other + 1) (λ equal. differ (less other index equal))))
  where
    less : (n m : ℕ) → m + 1 ≡ n + 1 → n ≡ m
    less n m equal = omega arith

pub end_of_silent : {W : Type 0} {tells : W → List ℕ → Type 0} (olds : List (KeptState W)) (line at : ℕ) (rest : Rest) (queues : List (List ℕ)) → TablesHear tells (λ (number : ℕ). heard_of_end number (silent rest) line at) olds olds queues queues
end_of_silent olds line at rest queues = nobody_hears {heard = λ (number : ℕ). heard_of_end number (silent rest) line at} olds queues (λ index. refl)

pub end_of_over : {W : Type 0} {tells : W → List ℕ → Type 0} (olds : List (KeptState W)) (line at : ℕ) (queues : List (List ℕ)) → TablesHear tells (λ (number : ℕ). heard_of_end number over line at) olds olds queues queues
end_of_over olds line at queues = nobody_hears {heard = λ (number : ℕ). heard_of_end number over line at} olds queues (λ index. refl)
