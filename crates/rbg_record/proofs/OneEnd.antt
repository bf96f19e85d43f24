-- Bytes that are read line by line stop at one line, in one way.
use Rattle.rbg_base.proofs.Common.{◌≡◌, ℕ, suc, List, [], ◌∷◌, ◌++◌, length, refl, sym, ap, ◌∙◌, subst, append_assoc, All, All-head, All-tail}
use Rattle.rbg_wire.proofs.Common.{LacksByte, line_feed, line_of, lines_of}
use Rattle.rbg_record.specs.NextLine.{GoesOn, IsFirstLine}
use Rattle.rbg_record.specs.NextLine as cut
use Rattle.rbg_record.proofs.Stopping.{no_line, one_first}

-- these lines in turn lead from one state to the other
pub data Chain {State : Type 0} (Leads : State → List ℕ → State → Type 0) : State → List (List ℕ) → State → Type 0 where
  stay : {state : State} → Chain Leads state [] state
  go : {from middle to : State} {text : List ℕ} {texts : List (List ℕ)} → Leads from text middle → Chain Leads middle texts to → Chain Leads from (text ∷ texts) to

pub chain_more : {State : Type 0} {Leads : State → List ℕ → State → Type 0} {from middle to : State} {texts : List (List ℕ)} {text : List ℕ} → Chain Leads from texts middle → Leads middle text to → Chain Leads from (texts ++ text ∷ []) to
chain_more stay leads = go leads stay
chain_more (go first later) leads = go first (chain_more later leads)

-- how reading stops
pub data End : Type 0 where
  good : End
  bad : End
  misread : End

-- a line of the form leads nowhere
pub record IsStuck {State : Type 0} (Leads : State → List ℕ → State → Type 0) (HasForm : State → List ℕ → Type 0) (state : State) (rest : List ℕ) : Type 0 where
  pub text : List ℕ
  pub later : List ℕ
  pub first : IsFirstLine rest text later
  pub form : HasForm state text
  pub wrong : (to : State) → ¬ Leads state text to

-- It is over and nothing is left; or the next line is of the form and leads nowhere; or what is left is not of the form.
abbrev pub Stops : {State : Type 0} (Leads : State → List ℕ → State → Type 0) (HasForm : State → List ℕ → Type 0) (IsOver : State → Type 0) (state : State) (rest : List ℕ) → End → Type 0
Stops Leads HasForm IsOver state rest good = IsOver state × (rest ≡ [])
Stops Leads HasForm IsOver state rest bad = IsStuck Leads HasForm state rest
Stops Leads HasForm IsOver state rest misread = ¬ GoesOn (IsOver state) (HasForm state) rest

-- what reading needs: a line leads to one state, from one that isn't over, and if it leads to one it is of the form
pub record IsReading {State : Type 0} (Leads : State → List ℕ → State → Type 0) (HasForm : State → List ℕ → Type 0) (IsOver : State → Type 0) : Type 0 where
  pub one : (from : State) (text : List ℕ) (to to' : State) → Leads from text to → Leads from text to' → to ≡ to'
  pub formed : (from : State) (text : List ℕ) (to : State) → Leads from text to → HasForm from text

pub line-more : (text rest more : List ℕ) → (line_of text ++ rest) ++ more ≡ text ++ line_feed ∷ (rest ++ more)
line-more text rest more = ap (λ bytes. bytes ++ more) (append_assoc text (line_feed ∷ []) rest) ∙ append_assoc text (line_feed ∷ rest) more

-- the first of these lines
pub first_of_lines : (bytes text : List ℕ) (texts : List (List ℕ)) (rest : List ℕ) → All (LacksByte line_feed) (text ∷ texts) → bytes ≡ lines_of (text ∷ texts) ++ rest → IsFirstLine bytes text (lines_of texts ++ rest)
first_of_lines bytes text texts rest whole parts = record {
  parts = parts ∙ line-more text (lines_of texts) rest;
  whole = All-head (LacksByte line_feed) text texts whole;
}

module _ {State : Type 0} {Leads : State → List ℕ → State → Type 0} {HasForm : State → List ℕ → Type 0} {IsOver : State → Type 0} (reading : IsReading Leads HasForm IsOver) where
  -- reading doesn't stop before a line that leads on
  goes_on : (from to : State) (rest text later : List ℕ) (end : End) → IsFirstLine rest text later → Leads from text to → Stops Leads HasForm IsOver from rest end → ⊥
  goes_on from to rest text later good first leads (over, none) = no_line text later (sym first.parts ∙ none)
  goes_on from to rest text later bad first leads stuck =
      let same = one_first rest text stuck.text later stuck.later first stuck.first in
      stuck.wrong to (subst (λ (line : List ℕ). Leads from line to) same.0 leads)
  goes_on from to rest text later misread first leads stops = stops (cut.one_more text later first (reading.formed from text to leads))

  -- nor in two ways
  one_way : (state : State) (rest : List ℕ) (end end' : End) → Stops Leads HasForm IsOver state rest end → Stops Leads HasForm IsOver state rest end' → end ≡ end'
  one_way state rest good good stops stops' = refl
  one_way state rest good bad (over, none) stuck = absurd (no_line stuck.text stuck.later (sym stuck.first.parts ∙ none))
  one_way state rest good misread (over, none) stops' = absurd (stops' (cut.nothing_left over none))
  one_way state rest bad good stuck (over, none) = absurd (no_line stuck.text stuck.later (sym stuck.first.parts ∙ none))
  one_way state rest bad bad stops stops' = refl
  one_way state rest bad misread stuck stops' = absurd (stops' (cut.one_more stuck.text stuck.later stuck.first stuck.form))
  one_way state rest misread good stops (over, none) = absurd (stops (cut.nothing_left over none))
  one_way state rest misread bad stops stuck = absurd (stops (cut.one_more stuck.text stuck.later stuck.first stuck.form))
  one_way state rest misread misread stops stops' = refl

  -- Reading stops after as many lines, in the same way.
  pub one_end : (from : State) (texts texts' : List (List ℕ)) (rest rest' bytes : List ℕ) (to to' : State) (end end' : End) → All (LacksByte line_feed) texts → All (LacksByte line_feed) texts' → bytes ≡ lines_of texts ++ rest → bytes ≡ lines_of texts' ++ rest' → Chain Leads from texts to → Chain Leads from texts' to' → Stops Leads HasForm IsOver to rest end → Stops Leads HasForm IsOver to' rest' end' → (length texts ≡ length texts') × (end ≡ end')
  one_end from [] [] rest rest' bytes to to' end end' whole whole' parts parts' stay stay stops stops' =
      (refl, one_way from rest end end' stops (subst (λ (left : List ℕ). Stops Leads HasForm IsOver from left end') (sym parts' ∙ parts) stops'))
  one_end from [] (text ∷ texts) rest rest' bytes to to' end end' whole whole' parts parts' stay (go {middle = middle} leads later) stops stops' =
      absurd (goes_on from middle rest text _ end (first_of_lines rest text texts rest' whole' (sym parts ∙ parts')) leads stops)
  one_end from (text ∷ texts) [] rest rest' bytes to to' end end' whole whole' parts parts' (go {middle = middle} leads later) stay stops stops' =
      absurd (goes_on from middle rest' text _ end' (first_of_lines rest' text texts rest whole (sym parts' ∙ parts)) leads stops')
  one_end from (text ∷ texts) (text' ∷ texts') rest rest' bytes to to' end end' whole whole' parts parts' (go {middle = middle} leads later) (go {middle = middle'} leads' later') stops stops' =
      let same = one_first bytes text text' (lines_of texts ++ rest) (lines_of texts' ++ rest') (first_of_lines bytes text texts rest whole parts) (first_of_lines bytes text' texts' rest' whole' parts') in
      let here : middle ≡ middle' = reading.one from text middle middle' leads (subst (λ (line : List ℕ). Leads from line middle') (sym same.0) leads') in
      let others = one_end middle texts texts' rest rest' (lines_of texts ++ rest) to to' end end' (All-tail (LacksByte line_feed) text texts whole) (All-tail (LacksByte line_feed) text' texts' whole') refl same.1 later (subst (λ (state : State). Chain Leads state texts' to') (sym here) later') stops stops' in
      (ap suc others.0, others.1)
