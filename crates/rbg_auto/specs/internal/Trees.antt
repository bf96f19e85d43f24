-- What is read off a tree of the program, whatever actions are at its positions.
use Rattle.std.specs.Prelude.{◌≡◌, ℕ, List, ◌++◌, Bool, map}
use Rattle.rbg_rules.specs.declared.rule.Action.{Action}
use Rattle.rbg_rules.specs.declared.rule.Rule.{Rule}
use Rattle.rbg_rules.specs.Meaning.{Expression, sequence_of, choice_of, expression_of, HasNoEmptySum}
use Rattle.rbg_auto.specs.internal.Orders.{Joins}
use Rattle.rbg_auto.specs.internal.Firsts.{may_be_empty, firsts}
use Rattle.rbg_auto.specs.internal.Laying.{Laid, ComesBefore, IsLawful, Lays}

-- The positions with which words of the expression begin were appended.
pub record AppendsFirsts (x : Expression) (old new : List ℕ) (empty : Bool) : Type 0 where
  pub positions : new ≡ old ++ firsts x
  pub empty_word : empty ≡ may_be_empty x

-- The same of a tree, and of trees in a sequence and in a sum.
pub record GivesFirsts (tree : Rule) (old new : List ℕ) (empty : Bool) : Type 0 where
  pub gives :
      (actions : List Action) → HasNoEmptySum (expression_of actions tree) →
      AppendsFirsts (expression_of actions tree) old new empty

pub record GivesFirstsOfSequence (parts : List Rule) (old new : List ℕ) (empty : Bool) : Type 0 where
  pub gives :
      (actions : List Action) → HasNoEmptySum (sequence_of (map (expression_of actions) parts)) →
      AppendsFirsts (sequence_of (map (expression_of actions) parts)) old new empty

pub record GivesFirstsOfSum (parts : List Rule) (old new : List ℕ) (empty : Bool) : Type 0 where
  pub gives :
      (actions : List Action) → HasNoEmptySum (choice_of (map (expression_of actions) parts)) →
      AppendsFirsts (choice_of (map (expression_of actions) parts)) old new empty

-- What each table of actions makes of a tree is laid, if it is lawful.
abbrev pub LaysAll :
    ℕ → (ℕ → Laid) → (ℕ → Laid) → (List Action → Expression) → List ℕ → Bool → Type 0
LaysAll size old new x k end =
    (actions : List Action) → IsLawful size (x actions) → Lays old new (x actions) k end

-- The expressions of a tree, and of trees in a sequence and in a sum.
abbrev pub of_tree : Rule → List Action → Expression
of_tree tree actions = expression_of actions tree

abbrev pub in_sequence : List Rule → List Action → Expression
in_sequence parts actions = sequence_of (map (expression_of actions) parts)

abbrev pub in_sum : List Rule → List Action → Expression
in_sum parts actions = choice_of (map (expression_of actions) parts)

-- What comes before the tree, if k comes after it.
pub record IsBefore (tree : Rule) (k : List ℕ) (end : Bool) (m : List ℕ) (may_end : Bool) : Type 0 where
  pub before :
      (actions : List Action) → HasNoEmptySum (expression_of actions tree) →
      ComesBefore (expression_of actions tree) k end m may_end

-- What comes after each turn of a star of the tree, if k comes after the star.
pub record IsAgain (tree : Rule) (k m : List ℕ) : Type 0 where
  pub again :
      (actions : List Action) → HasNoEmptySum (expression_of actions tree) →
      Joins (firsts (expression_of actions tree)) k m
