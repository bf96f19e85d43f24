-- What the steps of laying a tree make of nodes.
use Rattle.rbg_base.proofs.Common.{◌≡◌, ℕ, zero, suc, ◌+◌, ◌-◌, ◌<◌, ◌≤◌, List, [], ◌∷◌, ◌++◌, length, get_or, refl, sym, ap, ◌∙◌, subst, Bool, true, false, arith, length-append, Box, Vec, Some, Global, slice_get-get_or, slice_get_past}
use Rattle.rbg_rules.specs.declared.rule.Action.{Action}
use Rattle.rbg_rules.specs.declared.rule.Rule.{Rule}
use Rattle.rbg_rules.specs.declared.rule.Rule.TheVariants.{Act, Pattern, Then, Or, Star}
use Rattle.rbg_rules.specs.Meaning.{positions_of, IsNumbered, HasNoEmptySum, expression_of}
use Rattle.rbg_auto.specs.declared.plain.PlainNode.{PlainNode}
use Rattle.rbg_auto.specs.Steps.{AreStepsOf}
use Rattle.rbg_auto.specs.internal.Laying.{nothing, IsLawful, first_at, empty_at, IsWhole}
use Rattle.rbg_auto.specs.internal.Trees.{GivesFirsts, LaysAll, of_tree, IsBefore, IsAgain}
use Rattle.rbg_auto.specs.internal.PlainNodes.{laid_by, placed, AreBlank, SetsPlainNode, FillsTree, FillsSequence, FillsSum}
use Rattle.rbg_auto.proofs.LayTreeLemmas.{pattern_laid, begins_tree, act_laid, pattern_laid_whole, then_laid, or_laid, star_laid, SumLaid, sum_laid_none, sum_laid_more, sum_laid_all, SequenceOwed, sequence_owed_all, sequence_owed_fewer, sequence_owed_none, resized}
use Rattle.rbg_auto.proofs.CompactLemmas.{numbered_below}
use Rattle.rbg_auto.proofs.WholeLemmas.{numbered_ascends, whole_steps}

-- What is looked up at a position.
pub laid_there : (nodes items : List PlainNode) (q : ℕ) (node : PlainNode) → items ≡ nodes → q < length items → node ≡ get_or items q node → placed nodes q ≡ laid_by (Some node)
laid_there nodes items q node same below is = ap (λ (ps : List PlainNode). placed ps q) (sym same) ∙ ap laid_by (slice_get-get_or items q node below ∙ ap Some (sym is))

pub laid_nowhere : (nodes items : List PlainNode) (q : ℕ) → items ≡ nodes → length items ≤ q → placed nodes q ≡ nothing
laid_nowhere nodes items q same past = ap (λ (ps : List PlainNode). placed ps q) (sym same) ∙ ap laid_by (slice_get_past items q past)

-- One more blank node.
pub blank_none : AreBlank [] 0
blank_none = record { size = refl; blank = λ q. refl }

pushed_blank : (nodes : List PlainNode) (node : PlainNode) → laid_by (Some node) ≡ nothing → ((q : ℕ) → placed nodes q ≡ nothing) → (q : ℕ) → placed (nodes ++ node ∷ []) q ≡ nothing
pushed_blank [] node is blank zero = is
pushed_blank [] node is blank (suc q) = refl
pushed_blank (x ∷ nodes) node is blank zero = blank 0
pushed_blank (x ∷ nodes) node is blank (suc q) = pushed_blank nodes node is (λ n. blank (suc n)) q

pub blank_more : (nodes : List PlainNode) (node : PlainNode) (count : ℕ) → node.next.items ≡ [] → node.may_end ≡ false → node.first.items ≡ [] → node.may_be_empty ≡ false → AreBlank nodes count → AreBlank (nodes ++ node ∷ []) (count + 1)
blank_more nodes node count next end first empty blank = record {
  size = length-append nodes (node ∷ []) ∙ ap (λ (n : ℕ). n + 1) blank.size;
  blank = pushed_blank nodes node (cc (next, end, first, empty)) blank.blank;
}

module _ (old new : List PlainNode) (p : ℕ) (node : PlainNode) (k : List ℕ) (end : Bool) where
  pub fills_act : node.next.items ≡ k → node.may_end ≡ end → node.first.items ≡ [] → node.may_be_empty ≡ false → SetsPlainNode old new p node → FillsTree old new (Act p) k end
  fills_act next ends first empty sets = record {
    size = sets.size;
    fills = act_laid (length old) p (placed old) (placed new) k end (λ below. sets.there below ∙ cc (next, ends, first, empty)) sets.others;
  }

module _ (old level new : List PlainNode) (p : ℕ) (inside : Box Rule Global) (node : PlainNode) (k : List ℕ) (end : Bool) where
  pub fills_pattern : FillsTree old level inside.value [] true → GivesFirsts inside.value [] node.first.items node.may_be_empty → node.next.items ≡ k → node.may_end ≡ end → SetsPlainNode level new p node → FillsTree old new (Pattern p inside) k end
  fills_pattern fills gives next ends sets = record {
    size = sets.size ∙ fills.size;
    fills = pattern_laid_whole (length old) p inside (placed old) (placed level) (placed new) k end node.first.items node.may_be_empty fills.fills (begins_tree inside.value node.first.items node.may_be_empty gives) there sets.others;
  }
    where
      there : p < length old → placed new p ≡ pattern_laid k end node.first.items node.may_be_empty
      there below = sets.there (omega (arith, below, fills.size)) ∙ cc (next, ends)

module _ (old new : List PlainNode) (k : List ℕ) (end : Bool) where
  pub fills_then : (parts : Vec Rule Global) → FillsSequence old new parts.items k end → FillsTree old new (Then parts) k end
  fills_then parts one = record { size = one.size; fills = then_laid (length old) (placed old) (placed new) k end parts one.fills }

  pub fills_or : (parts : Vec Rule Global) → FillsSum old new parts.items k end → FillsTree old new (Or parts) k end
  fills_or parts one = record { size = one.size; fills = or_laid (length old) (placed old) (placed new) k end parts one.fills }

  pub fills_star : (part : Box Rule Global) (m : List ℕ) → IsAgain part.value k m → FillsTree old new part.value m end → FillsTree old new (Star part) k end
  fills_star part m again one = record { size = one.size; fills = star_laid (length old) (placed old) (placed new) k end part m again one.fills }

-- The parts of a sum so far.
pub record FilledSoFar (old now : List PlainNode) (parts : List Rule) (i : ℕ) (k : List ℕ) (end : Bool) : Type 0 where
  pub size : length now ≡ length old
  pub so_far : SumLaid (length old) (placed old) (placed now) parts i k end

-- The parts of a sequence that are still to be laid.
pub record OwesNodes (old now : List PlainNode) (parts : List Rule) (i : ℕ) (k : List ℕ) (end : Bool) (m : List ℕ) (may_end : Bool) : Type 0 where
  pub size : length now ≡ length old
  pub owes : SequenceOwed (length old) (placed old) (placed now) parts i k end m may_end

next_filled : (old now new : List PlainNode) (part : Rule) (k : List ℕ) (end : Bool) → length now ≡ length old → FillsTree now new part k end → LaysAll (length old) (placed now) (placed new) (of_tree part) k end
next_filled old now new part k end size one = resized (length now) (length old) (placed now) (placed new) (of_tree part) k end size one.fills

module _ (old : List PlainNode) (parts : List Rule) (k : List ℕ) (end : Bool) where
  pub filled_none : FilledSoFar old old parts 0 k end
  filled_none = record { size = refl; so_far = sum_laid_none (length old) (placed old) parts k end }

  pub filled_more : (now new : List PlainNode) (i : ℕ) (part : Rule) → i < length parts → part ≡ get_or parts i part → FilledSoFar old now parts i k end → FillsTree now new part k end → FilledSoFar old new parts (i + 1) k end
  filled_more now new i part below is one other = record {
    size = other.size ∙ one.size;
    so_far = sum_laid_more (length old) (placed old) parts k end (placed now) (placed new) i part below is one.so_far (next_filled old now new part k end one.size other);
  }

  pub filled_all : (now : List PlainNode) (i : ℕ) → length parts ≤ i → FilledSoFar old now parts i k end → FillsSum old now parts k end
  filled_all now i all one = record { size = one.size; fills = sum_laid_all (length old) (placed old) parts k end (placed now) i all one.so_far }

  pub owes_nodes_all : (i : ℕ) → length parts ≤ i → OwesNodes old old parts i k end k end
  owes_nodes_all i all = record { size = refl; owes = sequence_owed_all (length old) (placed old) parts k end i all }

  pub owes_places_fewer : (now new : List PlainNode) (i : ℕ) (part : Rule) (m : List ℕ) (may_end : Bool) (m' : List ℕ) (may_end' : Bool) → i < length parts → part ≡ get_or parts i part → OwesNodes old now parts (i + 1) k end m may_end → FillsTree now new part m may_end → IsBefore part m may_end m' may_end' → OwesNodes old new parts i k end m' may_end'
  owes_places_fewer now new i part m may_end m' may_end' below is one other before = record {
    size = other.size ∙ one.size;
    owes = sequence_owed_fewer (length old) (placed old) parts k end (placed now) (placed new) i part m may_end m' may_end' below is one.owes (next_filled old now new part m may_end one.size other) before;
  }

  pub owes_places_none : (now : List PlainNode) (m : List ℕ) (may_end : Bool) → OwesNodes old now parts 0 k end m may_end → FillsSequence old now parts k end
  owes_places_none now m may_end one = record { size = one.size; fills = sequence_owed_none (length old) (placed old) parts k end (placed now) m may_end one.owes }

-- one part fewer is owed, and then none
pub part_filled : {old now new : List PlainNode} {parts : List Rule} {left : ℕ} {part : Rule} {k m m' : List ℕ} {end may_end may_end' : Bool} → 0 < left → left - 1 < length parts → part ≡ get_or parts (left - 1) part → OwesNodes old now parts left k end m may_end → FillsTree now new part m may_end → IsBefore part m may_end m' may_end' → OwesNodes old new parts (left - 1) k end m' may_end'
part_filled {old} {now} {new} {parts} {left} {part} {k} {m} {m'} {end} {may_end} {may_end'} some below is one other before =
    let number : left ≡ left - 1 + 1 = omega (arith, some) in
    owes_places_fewer old parts k end now new (left - 1) part m may_end m' may_end' below is (subst (λ (n : ℕ). OwesNodes old now parts n k end m may_end) number one) other before

pub sequence_filled : {old now : List PlainNode} {parts : List Rule} {left : ℕ} {k m : List ℕ} {end may_end : Bool} → left ≡ 0 → OwesNodes old now parts left k end m may_end → FillsSequence old now parts k end
sequence_filled {old} {now} {parts} {left} {k} {m} {end} {may_end} none one =
    owes_places_none old parts k end now m may_end (subst (λ (n : ℕ). OwesNodes old now parts n k end m may_end) none one)

-- The nodes of a game's rules have their steps.
pub plain_steps : (actions : List Action) (tree : Rule) (positions : ℕ) → IsNumbered (expression_of actions tree) → HasNoEmptySum (expression_of actions tree) → positions ≡ length (positions_of (expression_of actions tree)) → (old new : List PlainNode) (first : List ℕ) (empty : Bool) → AreBlank old (positions + 1) → FillsTree old new tree [] true → GivesFirsts tree [] first empty → AreStepsOf (expression_of actions tree) (first_at first (placed new)) (λ i. (placed new i).next) (λ i. (placed new i).may_end) (empty_at empty (placed new))
plain_steps actions tree positions numbered none count old new first empty blank fills gives =
    let x = expression_of actions tree in
    let lawful : IsLawful (length old) x = record {
      no_empty_sum = none;
      order = numbered_ascends x numbered;
      below = λ q h. let below : q < length (positions_of x) + 1 = numbered_below x numbered q h in omega (arith, below, blank.size, count);
    } in
    let laid = fills.fills actions lawful in
    let begins = gives.gives actions none in
    let whole : IsWhole x first empty (placed new) = record {
      begins = begins.positions;
      empty = begins.empty_word;
      laid = laid.laid;
      others = λ q h. laid.others q h ∙ blank.blank q;
    } in
    whole_steps x numbered none first empty (placed new) whole
