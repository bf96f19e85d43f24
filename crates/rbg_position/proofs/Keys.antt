-- The key of rules loses nothing: a machine with a stack reads it back.
use Rattle.std.proofs.Common.{◌≡◌, ℕ, List, [], ◌∷◌, ◌++◌, map, refl, sym, ap, ◌∙◌, append_assoc, append-nil}
use Rattle.rbg_rules.specs.Meaning.{AbstractArithmetic, number, variable, piece_count, negated, sum, difference, product, quotient, AbstractAction, shift, on, off, assignment, comparison, switch, positive, negative, Expression, act, skip, sequence, fail, choice, star}
use Rattle.rbg_position.specs.declared.key_mark.KeyMark.{KeyMark}
use Rattle.rbg_position.specs.declared.key_mark.KeyMark.TheVariants.{Number, Variable, PieceCount, Negated, Sum, Difference, Product, Quotient, Shift, On, OnPiece, Off, Assign, Compare, Switch, Positive, Negative, Act, Skip, Then, Fail, Or, Star}
use Rattle.rbg_position.specs.internal.Marks.{arithmetic_key, action_key, rules_key}

-- what the machine has read
data Item : Type 0 where
  an_arithmetic : AbstractArithmetic → Item
  an_action : AbstractAction → Item
  a_rule : Expression → Item

-- one mark
abbrev step : KeyMark → List Item → List Item
step (Number n) st = an_arithmetic (number n) ∷ st
step (Variable v) st = an_arithmetic (variable v) ∷ st
step (PieceCount p) st = an_arithmetic (piece_count p) ∷ st
step Negated (an_arithmetic e ∷ st) = an_arithmetic (negated e) ∷ st
step Sum (an_arithmetic f ∷ an_arithmetic e ∷ st) = an_arithmetic (sum e f) ∷ st
step Difference (an_arithmetic f ∷ an_arithmetic e ∷ st) = an_arithmetic (difference e f) ∷ st
step Product (an_arithmetic f ∷ an_arithmetic e ∷ st) = an_arithmetic (product e f) ∷ st
step Quotient (an_arithmetic f ∷ an_arithmetic e ∷ st) = an_arithmetic (quotient e f) ∷ st
step (Shift d) st = an_action (shift d) ∷ st
step On st = an_action (on []) ∷ st
step (OnPiece p) (an_action (on ps) ∷ st) = an_action (on (ps ++ p ∷ [])) ∷ st
step (Off p) st = an_action (off p) ∷ st
step (Assign v) (an_arithmetic e ∷ st) = an_action (assignment v e) ∷ st
step (Compare r) (an_arithmetic f ∷ an_arithmetic e ∷ st) = an_action (comparison e r f) ∷ st
step (Switch n) st = an_action (switch n) ∷ st
step Positive (a_rule x ∷ st) = an_action (positive x) ∷ st
step Negative (a_rule x ∷ st) = an_action (negative x) ∷ st
step (Act p) (an_action a ∷ st) = a_rule (act p a) ∷ st
step Skip st = a_rule skip ∷ st
step Then (a_rule y ∷ a_rule x ∷ st) = a_rule (sequence x y) ∷ st
step Fail st = a_rule fail ∷ st
step Or (a_rule y ∷ a_rule x ∷ st) = a_rule (choice x y) ∷ st
step Star (a_rule x ∷ st) = a_rule (star x) ∷ st
step _ st = st

-- all marks of a key
abbrev run : List KeyMark → List Item → List Item
run [] st = st
run (m ∷ rest) st = run rest (step m st)

-- The machine reads these marks as an item.
abbrev Reads : List KeyMark → Item → Type 0
Reads key item = (xs : List KeyMark) (st : List Item) → run (key ++ xs) st ≡ run xs (item ∷ st)

reads_one : (a : List KeyMark) (i : Item) (m : KeyMark) → Reads a i → (xs : List KeyMark) (st : List Item) → run (a ++ m ∷ [] ++ xs) st ≡ run xs (step m (i ∷ st))
reads_one a i m reads xs st = ap (λ ys. run ys st) (append_assoc a (m ∷ []) xs) ∙ reads (m ∷ xs) st

reads_two : (a b : List KeyMark) (i j : Item) (m : KeyMark) → Reads a i → Reads b j → (xs : List KeyMark) (st : List Item) → run (a ++ b ++ m ∷ [] ++ xs) st ≡ run xs (step m (j ∷ i ∷ st))
reads_two a b i j m reads_a reads_b xs st =
    ap (λ ys. run ys st) (append_assoc (a ++ b) (m ∷ []) xs ∙ append_assoc a b (m ∷ xs))
    ∙ (reads_a (b ++ m ∷ xs) st ∙ reads_b (m ∷ xs) (i ∷ st))

reads_arithmetic : (e : AbstractArithmetic) → Reads (arithmetic_key e) (an_arithmetic e)
reads_arithmetic (number n) xs st = refl
reads_arithmetic (variable v) xs st = refl
reads_arithmetic (piece_count p) xs st = refl
reads_arithmetic (negated e) xs st = reads_one (arithmetic_key e) (an_arithmetic e) Negated (reads_arithmetic e) xs st
reads_arithmetic (sum e f) xs st =
    reads_two (arithmetic_key e) (arithmetic_key f) (an_arithmetic e) (an_arithmetic f) Sum (reads_arithmetic e) (reads_arithmetic f) xs st
reads_arithmetic (difference e f) xs st =
    reads_two (arithmetic_key e) (arithmetic_key f) (an_arithmetic e) (an_arithmetic f) Difference (reads_arithmetic e) (reads_arithmetic f) xs st
reads_arithmetic (product e f) xs st =
    reads_two (arithmetic_key e) (arithmetic_key f) (an_arithmetic e) (an_arithmetic f) Product (reads_arithmetic e) (reads_arithmetic f) xs st
reads_arithmetic (quotient e f) xs st =
    reads_two (arithmetic_key e) (arithmetic_key f) (an_arithmetic e) (an_arithmetic f) Quotient (reads_arithmetic e) (reads_arithmetic f) xs st

reads_pieces : (ps done : List ℕ) (xs : List KeyMark) (st : List Item) → run (map OnPiece ps ++ xs) (an_action (on done) ∷ st) ≡ run xs (an_action (on (done ++ ps)) ∷ st)
reads_pieces [] done xs st = ap (λ qs. run xs (an_action (on qs) ∷ st)) (sym (append-nil done))
reads_pieces (p ∷ ps) done xs st =
    reads_pieces ps (done ++ p ∷ []) xs st ∙ ap (λ qs. run xs (an_action (on qs) ∷ st)) (append_assoc done (p ∷ []) ps)

mutual
  reads_action : (a : AbstractAction) → Reads (action_key a) (an_action a)
  reads_action (shift d) xs st = refl
  reads_action (on ps) xs st = reads_pieces ps [] xs st
  reads_action (off p) xs st = refl
  reads_action (assignment v e) xs st = reads_one (arithmetic_key e) (an_arithmetic e) (Assign v) (reads_arithmetic e) xs st
  reads_action (comparison e r f) xs st =
      reads_two (arithmetic_key e) (arithmetic_key f) (an_arithmetic e) (an_arithmetic f) (Compare r) (reads_arithmetic e) (reads_arithmetic f) xs st
  reads_action (switch n) xs st = refl
  reads_action (positive x) xs st = reads_one (rules_key x) (a_rule x) Positive (reads_rules x) xs st
  reads_action (negative x) xs st = reads_one (rules_key x) (a_rule x) Negative (reads_rules x) xs st

  reads_rules : (x : Expression) → Reads (rules_key x) (a_rule x)
  reads_rules (act p a) xs st = reads_one (action_key a) (an_action a) (Act p) (reads_action a) xs st
  reads_rules skip xs st = refl
  reads_rules (sequence x y) xs st = reads_two (rules_key x) (rules_key y) (a_rule x) (a_rule y) Then (reads_rules x) (reads_rules y) xs st
  reads_rules fail xs st = refl
  reads_rules (choice x y) xs st = reads_two (rules_key x) (rules_key y) (a_rule x) (a_rule y) Or (reads_rules x) (reads_rules y) xs st
  reads_rules (star x) xs st = reads_one (rules_key x) (a_rule x) Star (reads_rules x) xs st

abbrev first_rule : List Item → Expression
first_rule (a_rule x ∷ st) = x
first_rule _ = skip

alone : (x : Expression) → run (rules_key x) [] ≡ a_rule x ∷ []
alone x = ap (λ ys. run ys []) (sym (append-nil (rules_key x))) ∙ reads_rules x [] []

-- rules with one key are the same
pub same_key : (x y : Expression) → rules_key x ≡ rules_key y → x ≡ y
same_key x y e = ap first_rule (sym (alone x) ∙ (ap (λ ys. run ys []) e ∙ alone y))
