-- What the steps of the walk make of the table.
use Rattle.rbg_base.proofs.Common.{◌≡◌, ℕ, ◌+◌, ◌-◌, ◌<◌, ◌≤◌, List, [], ◌++◌, length, take, drop, get_or, refl, sym, ap, ◌∙◌, subst, Bool, true, zero, suc, ◌∷◌, All, arith, append_assoc, length-append, length-drop, Box, Vec, Option, Some, None, slice_range, Global, All-head, All-tail}
use Rattle.std.proofs.lemmas.List.{append-nil, take-append-le, drop-append-le}
use Rattle.rbg_rules.specs.declared.rule.Action.{Action}
use Rattle.rbg_rules.specs.declared.rule.Rule.{Rule}
use Rattle.rbg_rules.specs.declared.rule.Rule.TheVariants.{Act, Pattern, Then, Or, Star}
use Rattle.rbg_rules.specs.Meaning.{expression_of}
use Rattle.rbg_auto.specs.declared.span.Span.{Span}
use Rattle.rbg_auto.specs.declared.span.Opening.{Opening}
use Rattle.rbg_auto.specs.declared.span.Node.{Node}
use Rattle.rbg_auto.specs.declared.steps.Glance.TheVariants.{Unknown}
use Rattle.rbg_auto.specs.declared.rest.Rest.{Rest}
use Rattle.rbg_auto.specs.declared.table.Table.{Table}
use Rattle.rbg_auto.specs.internal.Firsts.{firsts}
use Rattle.rbg_auto.specs.internal.Laying.{IsLawful, Lays}
use Rattle.rbg_auto.specs.internal.Trees.{GivesFirsts, LaysAll, of_tree, IsBefore, IsAgain}
use Rattle.rbg_auto.specs.internal.Tables.{IsSpan, IsNextWithin, IsFirstWithin, listed, laid_of, Keeps, IsKept, Grows, no_span, no_node, no_inside, laid_at, glance_at}
use Rattle.rbg_auto.specs.internal.Building.{laid_in, Extends, AddsList, LaysAt, LaysTree, LaysBefore, LaysSequence, LaysLevel}
use Rattle.rbg_auto.proofs.LayTreeLemmas.{plain_laid, pattern_laid, BeginsTree, act_laid, pattern_laid_whole, then_laid, or_laid, star_laid, SumLaid, sum_laid_none, sum_laid_more, sum_laid_all, SequenceOwed, sequence_owed_all, sequence_owed_fewer, sequence_owed_none, resized}

-- Lists keep their places while the array grows.
pub Grows-trans : (a b c : List ℕ) → Grows a b → Grows b c → Grows a c
Grows-trans a b c one other = record { more = one.more ++ other.more; is = other.is ∙ ap (λ (xs : List ℕ). xs ++ other.more) one.is ∙ append_assoc a one.more other.more }

pub Grows-refl : (a : List ℕ) → Grows a a
Grows-refl a = record { more = []; is = sym (append-nil a) }

grown : (old new : List ℕ) → Grows old new → length old ≤ length new
grown old new grows = omega (arith, ap length grows.is, length-append old grows.more)

pub IsSpan-grows : (old new : List ℕ) (s : Span) → Grows old new → IsSpan (length old) s → IsSpan (length new) s
IsSpan-grows old new s grows is = record { starts = is.starts; ends = omega (arith, is.ends, grown old new grows) }

listed-append : (xs more : List ℕ) (i j : ℕ) → i ≤ j → j ≤ length xs → slice_range (xs ++ more) i j ≡ slice_range xs i j
listed-append xs more i j ordered within =
    let start : i ≤ length xs = omega arith in
    let count : j - i ≤ length (drop i xs) = omega (arith, length-drop i xs) in
    ap (take (j - i)) (drop-append-le i xs more start) ∙ take-append-le (j - i) (drop i xs) more count

pub Keeps-grows : (old new : List ℕ) (s : Span) (k : List ℕ) → Grows old new → Keeps old s k → Keeps new s k
Keeps-grows old new s k grows keeps = record {
  within = IsSpan-grows old new s grows keeps.within;
  list = ap (λ (xs : List ℕ). listed xs s) grows.is ∙ listed-append old grows.more s.start s.end keeps.within.starts keeps.within.ends ∙ keeps.list;
}

pub IsKept-grows : (old new : List ℕ) (kept : Option Span) (k : List ℕ) → Grows old new → IsKept old kept k → IsKept new kept k
IsKept-grows old new kept k grows is = record { keeps = λ s e. Keeps-grows old new s k grows (is.keeps s e) }

pub kept_none : (entries : List ℕ) (kept : Option Span) (k : List ℕ) → kept ≡ None → IsKept entries kept k
kept_none entries kept k none = record { keeps = λ s e. absurd (cc (none, e)) }

pub kept_some : (entries : List ℕ) (kept : Option Span) (s : Span) (k : List ℕ) → kept ≡ Some s → Keeps entries s k → IsKept entries kept k
kept_some entries kept s k is keeps = record { keeps = λ t e. let same : s ≡ t = cc (is, e) in subst (λ (u : Span). Keeps entries u k) same keeps }

pub Extends-refl : (t : Table) → Extends t t
Extends-refl t = record { entries = Grows-refl t.entries.items; size = refl; unknown = λ q none. none }

pub Extends-trans : (a b c : Table) → Extends a b → Extends b c → Extends a c
Extends-trans a b c one other = record { entries = Grows-trans a.entries.items b.entries.items c.entries.items one.entries other.entries; size = other.size ∙ one.size; unknown = λ q none. other.unknown q (one.unknown q none) }

pub AddsList-refl : (t : Table) → AddsList t t
AddsList-refl t = record { extends = Extends-refl t; same = λ q. refl }

-- What holds of each member of a list, and of the default for indices past its end, holds at each index.
all_or : {X : Type 0} (P : X → Type 0) (xs : List X) (i : ℕ) (d : X) → All P xs → P d → P (get_or xs i d)
all_or P [] i d all one = one
all_or P (x ∷ xs) zero d all one = All-head P x xs all
all_or P (x ∷ xs) (suc i) d all one = all_or P xs i d (All-tail P x xs all) one

empty_span : (size : ℕ) → IsSpan size no_span
empty_span size = record { starts = omega arith; ends = omega arith }

-- Every node of a table has a list of its array, and so has every opening.
pub next_within : (t : Table) (q : ℕ) → IsNextWithin (length t.entries.items) (get_or t.nodes.items q no_node)
next_within t q = all_or (IsNextWithin (length t.entries.items)) t.nodes.items q no_node t.within (empty_span (length t.entries.items))

first_within : (t : Table) (q : ℕ) → IsFirstWithin (length t.entries.items) (get_or t.insides.items q no_inside)
first_within t q = all_or (IsFirstWithin (length t.entries.items)) t.insides.items q no_inside t.insides_within (empty_span (length t.entries.items))

-- With more entries, all that was laid stays as it was.
pub adds_list : (old new : Table) (more : List ℕ) → new.entries.items ≡ old.entries.items ++ more → new.nodes ≡ old.nodes → new.insides ≡ old.insides → AddsList old new
adds_list old new more entries nodes insides = record {
  extends = record {
    entries = record { more = more; is = entries };
    size = ap (λ (ns : Vec Node Global). length ns.items) nodes;
    unknown = λ q none. subst (λ (ns : Vec Node Global). glance_at ns.items q ≡ Unknown) (sym nodes) none;
  };
  same = λ q. ap (λ (xs : List ℕ). laid_at xs new.nodes.items new.insides.items q) entries ∙ ap (λ (ns : Vec Node Global). laid_at (old.entries.items ++ more) ns.items new.insides.items q) nodes ∙ ap (λ (os : Vec Opening Global). laid_at (old.entries.items ++ more) old.nodes.items os.items q) insides ∙ stays q;
}
  where
    node : ℕ → Node
    node q = get_or old.nodes.items q no_node

    inside : ℕ → Opening
    inside q = get_or old.insides.items q no_inside

    stays : (q : ℕ) → laid_of (old.entries.items ++ more) (node q) (inside q) ≡ laid_of old.entries.items (node q) (inside q)
    stays q =
        let next = next_within old q in
        let first = first_within old q in
        λ i. record {
          next = listed-append old.entries.items more (node q).next.start (node q).next.end next.starts next.ends i;
          may_end = (node q).may_end;
          first = listed-append old.entries.items more (inside q).first.start (inside q).first.end first.starts first.ends i;
          may_be_empty = (inside q).may_be_empty;
        }

-- An action, and a pattern after its inside.
pub lays_act : (p : ℕ) (old new : Table) (rest : Rest) → LaysAt old new p no_inside rest → LaysBefore old new (Act p) rest
lays_act p old new rest at = record {
  extends = Extends-trans old at.middle new at.adds.extends at.sets.extends;
  lays = act_laid (length old.nodes.items) p (laid_in old) (laid_in new) rest.positions.items rest.may_end there (λ q other. at.sets.others q other ∙ at.adds.same q);
}
  where
    there : p < length old.nodes.items → laid_in new p ≡ plain_laid rest.positions.items rest.may_end
    there below = at.sets.there (subst (λ (n : ℕ). p < n) (sym at.adds.extends.size) below) ∙ ap (λ (xs : List ℕ). plain_laid xs rest.may_end) at.keeps.list

pub lays_pattern : (p : ℕ) (inside : Box Rule Global) (old level new : Table) (rest : Rest) (opening : Opening) → LaysLevel old level inside.value opening → LaysAt level new p opening rest → LaysBefore old new (Pattern p inside) rest
lays_pattern p inside old level new rest opening lays_level at = record {
  extends = Extends-trans old level new lays_level.extends (Extends-trans level at.middle new at.adds.extends at.sets.extends);
  lays = pattern_laid_whole (length old.nodes.items) p inside (laid_in old) (laid_in level) (laid_in new) rest.positions.items rest.may_end (listed at.middle.entries.items opening.first) opening.may_be_empty lays_level.lays begins there (λ q other. at.sets.others q other ∙ at.adds.same q);
}
  where
    begins : BeginsTree inside.value (listed at.middle.entries.items opening.first) opening.may_be_empty
    begins = record {
      first_of = λ actions none. (Keeps-grows level.entries.items at.middle.entries.items opening.first (firsts (expression_of actions inside.value)) at.adds.extends.entries (lays_level.first actions none)).list;
      empty_of = λ actions none. lays_level.empty actions none;
    }

    there : p < length old.nodes.items → laid_in new p ≡ pattern_laid rest.positions.items rest.may_end (listed at.middle.entries.items opening.first) opening.may_be_empty
    there below =
        let size : length at.middle.nodes.items ≡ length old.nodes.items = at.adds.extends.size ∙ lays_level.extends.size in
        at.sets.there (subst (λ (n : ℕ). p < n) (sym size) below) ∙ ap (λ (xs : List ℕ). pattern_laid xs rest.may_end (listed at.middle.entries.items opening.first) opening.may_be_empty) at.keeps.list

-- Trees of parts.
pub lays_then : (parts : Vec Rule Global) (old new : Table) (k : List ℕ) (end : Bool) → LaysSequence old new parts.items k end → LaysTree old new (Then parts) k end
lays_then parts old new k end one = record { extends = one.extends; lays = then_laid (length old.nodes.items) (laid_in old) (laid_in new) k end parts one.lays }

pub lays_star_tree : (part : Box Rule Global) (old new : Table) (k m : List ℕ) (end : Bool) → IsAgain part.value k m → LaysTree old new part.value m end → LaysTree old new (Star part) k end
lays_star_tree part old new k m end again one = record { extends = one.extends; lays = star_laid (length old.nodes.items) (laid_in old) (laid_in new) k end part m again one.lays }

-- The parts of a sum so far.
pub record SumSoFar (old now : Table) (parts : List Rule) (i : ℕ) (k : List ℕ) (end : Bool) : Type 0 where
  pub extends : Extends old now
  pub so_far : SumLaid (length old.nodes.items) (laid_in old) (laid_in now) parts i k end

pub sum_begins : (t : Table) (parts : List Rule) (k : List ℕ) (end : Bool) → SumSoFar t t parts 0 k end
sum_begins t parts k end = record { extends = Extends-refl t; so_far = sum_laid_none (length t.nodes.items) (laid_in t) parts k end }

-- What is laid next has the positions of the first table.
next_laid : (old now new : Table) (part : Rule) (k : List ℕ) (end : Bool) → Extends old now → LaysTree now new part k end → LaysAll (length old.nodes.items) (laid_in now) (laid_in new) (of_tree part) k end
next_laid old now new part k end extends other = resized (length now.nodes.items) (length old.nodes.items) (laid_in now) (laid_in new) (of_tree part) k end extends.size other.lays

pub sum_goes_on : (old now new : Table) (parts : List Rule) (i : ℕ) (part : Rule) (k : List ℕ) (end : Bool) → i < length parts → part ≡ get_or parts i part → SumSoFar old now parts i k end → LaysTree now new part k end → SumSoFar old new parts (i + 1) k end
sum_goes_on old now new parts i part k end below is one other = record {
  extends = Extends-trans old now new one.extends other.extends;
  so_far = sum_laid_more (length old.nodes.items) (laid_in old) parts k end (laid_in now) (laid_in new) i part below is one.so_far (next_laid old now new part k end one.extends other);
}

pub sum_ends : (old now : Table) (parts : Vec Rule Global) (i : ℕ) (k : List ℕ) (end : Bool) → length parts.items ≤ i → SumSoFar old now parts.items i k end → LaysTree old now (Or parts) k end
sum_ends old now parts i k end all one = record {
  extends = one.extends;
  lays = or_laid (length old.nodes.items) (laid_in old) (laid_in now) k end parts (sum_laid_all (length old.nodes.items) (laid_in old) parts.items k end (laid_in now) i all one.so_far);
}

-- The parts of a sequence that are still to be laid.
pub record SequenceOwes (old now : Table) (parts : List Rule) (i : ℕ) (k : List ℕ) (end : Bool) (m : List ℕ) (may_end : Bool) : Type 0 where
  pub extends : Extends old now
  pub owes : SequenceOwed (length old.nodes.items) (laid_in old) (laid_in now) parts i k end m may_end

pub sequence_begins : (t : Table) (parts : List Rule) (i : ℕ) (k : List ℕ) (end : Bool) → length parts ≤ i → SequenceOwes t t parts i k end k end
sequence_begins t parts i k end all = record { extends = Extends-refl t; owes = sequence_owed_all (length t.nodes.items) (laid_in t) parts k end i all }

pub sequence_owes_fewer : (old now new : Table) (parts : List Rule) (i : ℕ) (part : Rule) (k : List ℕ) (end : Bool) (m : List ℕ) (may_end : Bool) (m' : List ℕ) (may_end' : Bool) → i < length parts → part ≡ get_or parts i part → SequenceOwes old now parts (i + 1) k end m may_end → LaysTree now new part m may_end → IsBefore part m may_end m' may_end' → SequenceOwes old new parts i k end m' may_end'
sequence_owes_fewer old now new parts i part k end m may_end m' may_end' below is one other before = record {
  extends = Extends-trans old now new one.extends other.extends;
  owes = sequence_owed_fewer (length old.nodes.items) (laid_in old) parts k end (laid_in now) (laid_in new) i part m may_end m' may_end' below is one.owes (next_laid old now new part m may_end one.extends other) before;
}

pub sequence_ends : (old now : Table) (parts : List Rule) (k : List ℕ) (end : Bool) (m : List ℕ) (may_end : Bool) → SequenceOwes old now parts 0 k end m may_end → LaysSequence old now parts k end
sequence_ends old now parts k end m may_end one = record { extends = one.extends; lays = sequence_owed_none (length old.nodes.items) (laid_in old) parts k end (laid_in now) m may_end one.owes }

-- one part fewer is owed, and then none
pub part_laid : {old now new : Table} {parts : List Rule} {left : ℕ} {part : Rule} {k m m' : List ℕ} {end may_end may_end' : Bool} → 0 < left → left - 1 < length parts → part ≡ get_or parts (left - 1) part → SequenceOwes old now parts left k end m may_end → LaysTree now new part m may_end → IsBefore part m may_end m' may_end' → SequenceOwes old new parts (left - 1) k end m' may_end'
part_laid {old} {now} {new} {parts} {left} {part} {k} {m} {m'} {end} {may_end} {may_end'} some below is one other before =
    let number : left ≡ left - 1 + 1 = omega (arith, some) in
    sequence_owes_fewer old now new parts (left - 1) part k end m may_end m' may_end' below is (subst (λ (n : ℕ). SequenceOwes old now parts n k end m may_end) number one) other before

pub sequence_laid : {old now : Table} {parts : List Rule} {left : ℕ} {k m : List ℕ} {end may_end : Bool} → left ≡ 0 → SequenceOwes old now parts left k end m may_end → LaysSequence old now parts k end
sequence_laid {old} {now} {parts} {left} {k} {m} {end} {may_end} none one =
    sequence_ends old now parts k end m may_end (subst (λ (n : ℕ). SequenceOwes old now parts n k end m may_end) none one)

pub sequence_nothing : (t : Table) (parts : List Rule) (k : List ℕ) (end : Bool) → length parts ≡ 0 → LaysSequence t t parts k end
sequence_nothing t parts k end none = sequence_ends t t parts k end k end (sequence_begins t parts 0 k end (omega (arith, none)))

-- A level of its own.
pub lays_level_by : (old middle new : Table) (tree : Rule) (first : List ℕ) (s : Span) (empty : Bool) → GivesFirsts tree [] first empty → AddsList old middle → Keeps middle.entries.items s first → LaysTree middle new tree [] true → LaysLevel old new tree (record { first = s; may_be_empty = empty })
lays_level_by old middle new tree first s empty gives adds keeps lays_tree = record {
  extends = Extends-trans old middle new adds.extends lays_tree.extends;
  within = IsSpan-grows middle.entries.items new.entries.items s lays_tree.extends.entries keeps.within;
  lays = lays;
  first = λ actions none. subst (Keeps new.entries.items s) (gives.gives actions none).positions (Keeps-grows middle.entries.items new.entries.items s first lays_tree.extends.entries keeps);
  empty = λ actions none. (gives.gives actions none).empty_word;
}
  where
    lays : (actions : List Action) → IsLawful (length old.nodes.items) (expression_of actions tree) → Lays (laid_in old) (laid_in new) (expression_of actions tree) [] true
    lays actions lawful =
        let laid = lays_tree.lays actions (subst (λ (n : ℕ). IsLawful n (expression_of actions tree)) (sym adds.extends.size) lawful) in
        record { laid = laid.laid; others = λ q h. laid.others q h ∙ adds.same q }
