-- Where reading stops, and the lines that were read so far.
use Rattle.rbg_base.proofs.Common.{◌≡◌, ℕ, ◌+◌, ◌≤◌, List, [], ◌∷◌, ◌++◌, length, refl, sym, ap, ◌∙◌, subst, append_assoc, append-nil, arith, Bool, true, false, ◌==◌, All-nil, All-push, flat_map-append}
use Rattle.std.proofs.lemmas.Bool.{true≢false}
use Rattle.std.proofs.lemmas.List.{length-append}
use Rattle.rbg_wire.proofs.Common.{LacksByte, line_feed, line_of, lines_of}
use Rattle.rbg_wire.proofs.ByteLemmas.{no_cut, same_cut}
use Rattle.rbg_record.specs.NextLine.{BeginsWith, GoesOn, HasFormFault, IsFirstLine, Left}
use Rattle.rbg_record.specs.NextLine as lines

pub no_line : (text rest : List ℕ) → text ++ line_feed ∷ rest ≡ [] → ⊥
no_line [] rest same = let apart : line_feed ∷ rest ≡ [] = same in cc
no_line (byte ∷ text) rest same = let apart : byte ∷ (text ++ line_feed ∷ rest) ≡ [] = same in cc

-- there is one first line
pub one_first : (bytes text text' rest rest' : List ℕ) → IsFirstLine bytes text rest → IsFirstLine bytes text' rest' → (text ≡ text') × (rest ≡ rest')
one_first bytes text text' rest rest' first other = same_cut line_feed text text' rest rest' first.whole other.whole (sym first.parts ∙ other.parts)

-- what is left is not of the form: its first line isn't
pub not_formed : (over : Type 0) (HasForm : List ℕ → Type 0) (rest text later : List ℕ) → IsFirstLine rest text later → (HasForm text → ⊥) → GoesOn over HasForm rest → ⊥
not_formed over HasForm rest text later first wrong (lines.nothing_left ended none) = no_line text later (sym first.parts ∙ none)
not_formed over HasForm rest text later first wrong (lines.one_more text' later' first' form) = wrong (subst HasForm (one_first rest text' text later' later first' first).0 form)

-- or it has no line, and it isn't over, or some bytes are left
pub ends_early : (over : Type 0) (HasForm : List ℕ → Type 0) (rest : List ℕ) → LacksByte line_feed rest → (over → rest ≡ [] → ⊥) → GoesOn over HasForm rest → ⊥
ends_early over HasForm rest lacks going (lines.nothing_left ended none) = going ended none
ends_early over HasForm rest lacks going (lines.one_more text later first form) = no_cut line_feed text later (subst (LacksByte line_feed) first.parts lacks)

pub not_empty : (rest : List ℕ) (empty : Bool) → empty ≡ (length rest == 0) → empty ≡ false → rest ≡ [] → ⊥
not_empty rest empty is fails none =
    let holds : (length rest == 0) ≡ true = ap (λ (left : List ℕ). length left == 0) none in
    true≢false (sym holds ∙ (sym is ∙ fails))

-- what is of the one form is of the other
pub goes_on_so : {over over' : Type 0} {HasForm HasForm' : List ℕ → Type 0} (rest : List ℕ) → (over → over') → ((text : List ℕ) → HasForm text → HasForm' text) → GoesOn over HasForm rest → GoesOn over' HasForm' rest
goes_on_so rest ended formed (lines.nothing_left over none) = lines.nothing_left (ended over) none
goes_on_so rest ended formed (lines.one_more text later first form) = lines.one_more text later first (formed text form)

-- the last of some lines, as the first one of what follows the others
pub last_line : (texts : List (List ℕ)) (text rest : List ℕ) → lines_of (texts ++ text ∷ []) ++ rest ≡ lines_of texts ++ (text ++ line_feed ∷ rest)
last_line texts text rest =
    ap (λ bytes. bytes ++ rest) (flat_map-append line_of texts (text ∷ []) ∙ ap (λ bytes. lines_of texts ++ bytes) (append-nil (line_of text)))
    ∙ (append_assoc (lines_of texts) (line_of text) rest ∙ ap (λ bytes. lines_of texts ++ bytes) (append_assoc text (line_feed ∷ []) rest))

-- one more line
pub begins_more : (bytes : List ℕ) (texts : List (List ℕ)) (text rest later : List ℕ) → BeginsWith bytes texts rest → IsFirstLine rest text later → BeginsWith bytes (texts ++ text ∷ []) later
begins_more bytes texts text rest later begins first = record {
  whole = All-push (LacksByte line_feed) texts text begins.whole first.whole;
  parts = begins.parts ∙ (ap (λ more. lines_of texts ++ more) first.parts ∙ sym (last_line texts text later));
}

-- a line is taken from what is left
pub shorter : {old new text : List ℕ} → IsFirstLine old text new → length new + 1 ≤ length old
shorter {old} {new} {text} first = let parts = ap length first.parts ∙ length-append text (line_feed ∷ new) in omega arith

-- The lines before what is left lead to this state.
pub record IsReadSoFar {State : Type 0} (LeadThere : List (List ℕ) → State → Type 0) (bytes : List ℕ) (state : State) (left : Left) : Type 0 where
  pub texts : List (List ℕ)
  pub begins : BeginsWith bytes texts left.rest
  pub number : left.number ≡ length texts + 1
  pub leads : LeadThere texts state

module _ {State : Type 0} {LeadThere : List (List ℕ) → State → Type 0} where
  -- no line yet
  pub read_none : (bytes : List ℕ) (state : State) (left : Left) → left ≡ record { rest = bytes; number = 1 } → LeadThere [] state → IsReadSoFar LeadThere bytes state left
  read_none bytes state left is leads =
      subst (IsReadSoFar LeadThere bytes state) (sym is) (record {
        texts = [];
        begins = record { whole = All-nil (LacksByte line_feed); parts = refl };
        number = refl;
        leads = leads;
      })

  -- one more line
  pub read_more : {bytes text : List ℕ} {from to : State} {old new : Left} → IsReadSoFar LeadThere bytes from old → IsFirstLine old.rest text new.rest → new.number ≡ old.number + 1 → ((texts : List (List ℕ)) → LeadThere texts from → LeadThere (texts ++ text ∷ []) to) → IsReadSoFar LeadThere bytes to new
  read_more {bytes} {text} {from} {to} {old} {new} so_far first later leads =
      let longer = length-append so_far.texts (text ∷ []) in
      let number = so_far.number in
      let here : new.number ≡ length (so_far.texts ++ text ∷ []) + 1 = omega arith in
      record {
        texts = so_far.texts ++ text ∷ [];
        begins = begins_more bytes so_far.texts text old.rest new.rest so_far.begins first;
        number = here;
        leads = leads so_far.texts so_far.leads;
      }

  -- what these lines lead to by other words
  pub read_as : {Part : Type 0} {LeadTo : List (List ℕ) → Part → Type 0} {bytes : List ℕ} {state : State} {left : Left} (part : Part) → IsReadSoFar LeadThere bytes state left → ((texts : List (List ℕ)) → LeadThere texts state → LeadTo texts part) → IsReadSoFar LeadTo bytes part left
  read_as part so_far leads = record {
    texts = so_far.texts;
    begins = so_far.begins;
    number = so_far.number;
    leads = leads so_far.texts so_far.leads;
  }

  -- what is left is not of the form
  pub read_stops : {over : State} {HasForm : State → List ℕ → Type 0} {bytes : List ℕ} {state : State} {left : Left} {line : ℕ} → IsReadSoFar LeadThere bytes state left → line ≡ left.number → ¬ GoesOn (state ≡ over) (HasForm state) left.rest → HasFormFault LeadThere over HasForm bytes line
  read_stops {state = state} {left = left} so_far is stops = record {
    texts = so_far.texts;
    rest = left.rest;
    begins = so_far.begins;
    number = is ∙ so_far.number;
    part = state;
    leads = so_far.leads;
    stops = stops;
  }
