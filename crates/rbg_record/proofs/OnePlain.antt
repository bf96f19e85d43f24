-- Bytes have one fault at most against the form of version 1.
use Rattle.rbg_base.proofs.Common.{◌≡◌, ℕ, ◌+◌, List, [], ◌∷◌, ◌++◌, map, refl, sym, ap, ◌∙◌, append-nil, All, Option, All-head, All-tail}
use Rattle.rbg_wire.specs.declared.outcome.Outcome.{Outcome}
use Rattle.rbg_record.specs.declared.entry.Entry.TheVariants.{Move, End as Ends}
use Rattle.rbg_record.specs.declared.heading.Version.TheVariants.{One}
use Rattle.rbg_record.proofs.LineCommon.{SpellsEntry, EntryHasSpelling, entry_text, version_text}
use Rattle.rbg_wire.specs.Lines.{lines_of}
use Rattle.rbg_record.proofs.Apart.{entries_apart}
use Rattle.rbg_record.proofs.Common.{OnePlainFault, PlainPart, before_version, among_moves, beyond_end, HasPlainForm, IsPlainSoFar, IsPlainFault, PlainMove, PlainRecord, plain, plain_entry, texts_of, Spells}
use Rattle.rbg_record.specs.Migration as migration
use Rattle.rbg_record.proofs.Leading.{whole_texts}
use Rattle.rbg_record.proofs.OneEnd.{good, misread, Chain, stay, go, chain_more, IsReading, one_end}

-- a line of the form leads on
data PlainLeads : PlainPart → List ℕ → PlainPart → Type 0 where
  version : {text : List ℕ} → text ≡ version_text One → PlainLeads before_version text among_moves
  move : {text : List ℕ} {player : ℕ} {pairs : List (ℕ × ℕ)} → SpellsEntry text (Move player pairs) → PlainLeads among_moves text among_moves
  end : {text : List ℕ} {outcome : Option Outcome} → SpellsEntry text (Ends outcome) → PlainLeads among_moves text beyond_end

one_lead : (from : PlainPart) (text : List ℕ) (to to' : PlainPart) → PlainLeads from text to → PlainLeads from text to' → to ≡ to'
one_lead from text to to' (version is) (version is') = refl
one_lead from text to to' (move spells) (move spells') = refl
one_lead from text to to' (move {player = player} {pairs = pairs} spells) (end {outcome = outcome} spells') = absurd (entries_apart.ends text player pairs outcome spells spells')
one_lead from text to to' (end {outcome = outcome} spells) (move {player = player} {pairs = pairs} spells') = absurd (entries_apart.ends text player pairs outcome spells' spells)
one_lead from text to to' (end spells) (end spells') = refl

formed : (from : PlainPart) (text : List ℕ) (to : PlainPart) → PlainLeads from text to → HasPlainForm from text
formed from text to (version is) = is
formed from text to (move {player = player} {pairs = pairs} spells) = (Move player pairs, spells)
formed from text to (end {outcome = outcome} spells) = (Ends outcome, spells)

abbrev IsEnded : PlainPart → Type 0
IsEnded part = part ≡ beyond_end

reading : IsReading PlainLeads HasPlainForm IsEnded
reading = record { one = one_lead; formed = formed }

chain_of : (texts : List (List ℕ)) (to : PlainPart) → IsPlainSoFar texts to → Chain PlainLeads before_version texts to
chain_of texts to migration.none = stay
chain_of texts to migration.begun = go (version refl) stay
chain_of texts to (migration.moved {texts = before} so_far spells) = chain_more (chain_of before among_moves so_far) (move spells)
chain_of texts to (migration.ended {texts = before} so_far spells) = chain_more (chain_of before among_moves so_far) (end spells)

one_fault : (bytes : List ℕ) (m n : ℕ) → IsPlainFault bytes m → IsPlainFault bytes n → m ≡ n
one_fault bytes m n one other =
    let same = one_end reading before_version one.texts other.texts one.rest other.rest bytes one.part other.part misread misread one.begins.whole other.begins.whole one.begins.parts other.begins.parts (chain_of one.texts one.part one.leads) (chain_of other.texts other.part other.leads) one.stops other.stops in
    one.number ∙ (ap (λ count. count + 1) same.0 ∙ sym other.number)

moves_chain : (moves : List PlainMove) (outcome : Option Outcome) → All EntryHasSpelling (map plain_entry moves ++ Ends outcome ∷ []) → Chain PlainLeads among_moves (map entry_text (map plain_entry moves ++ Ends outcome ∷ [])) beyond_end
moves_chain [] outcome all = go (end (record { has = All-head EntryHasSpelling (Ends outcome) [] all; is = refl })) stay
moves_chain (made ∷ moves) outcome all =
    go (move (record { has = All-head EntryHasSpelling (plain_entry made) (map plain_entry moves ++ Ends outcome ∷ []) all; is = refl })) (moves_chain moves outcome (All-tail EntryHasSpelling (plain_entry made) (map plain_entry moves ++ Ends outcome ∷ []) all))

no_fault : (bytes : List ℕ) (told : PlainRecord) (n : ℕ) → Spells bytes (plain told) → IsPlainFault bytes n → ⊥
no_fault bytes told n spells fault =
    let same : good ≡ misread = (one_end reading before_version (texts_of (plain told)) fault.texts [] fault.rest bytes beyond_end fault.part good misread (whole_texts (plain told) spells.has) fault.begins.whole (spells.is ∙ sym (append-nil (lines_of (texts_of (plain told))))) fault.begins.parts (go (version refl) (moves_chain told.moves told.outcome spells.has)) (chain_of fault.texts fault.part fault.leads) (refl, refl) fault.stops).1 in
    cc

pub one_plain_fault : OnePlainFault
one_plain_fault = record { one = one_fault; none = no_fault }
